use Rattle.std.proofs.Common.{inl, inr}
use Rattle.klsm_tool.proofs.knapsack.solve_read.Goals as goal

pub returns-in-Ok : goal.returns-in-Ok
returns-in-Ok g c = inl (c.in-Ok.best, c.in-Ok.ensures.best, c.in-Ok.ensures.ran, c.write_selection.ensures)

pub returns-in-Err : goal.returns-in-Err
returns-in-Err g c = inr c.write_last.ensures.goes
