use Rattle.klsm_text.proofs.script.Script.next_row.Goals as goal

pub returns-in-Ok-true : goal.returns-in-Ok-true
returns-in-Ok-true g c input rows before = rw c.in-Ok-true.field-0-test at (c.in-Ok-true.ensures input rows before)

pub returns-in-Ok-false : goal.returns-in-Ok-false
returns-in-Ok-false g c input rows before = rw c.in-Ok-false.field-0-test at (c.in-Ok-false.ensures input rows before)
