-- The text of a line that is being made.
use Rattle.std.specs.Prelude.{ℕ, ◌≤◌, List, drop}
use Rattle.klsm_text.specs.declared.line_text.LineText.{LineText}

-- what was made of it so far
abbrev pub made : LineText → List ℕ
made line = drop line.start line.bytes

-- it begins within its bytes
abbrev pub BeginsWithin : LineText → Type 0
BeginsWithin line = line.start ≤ 160
