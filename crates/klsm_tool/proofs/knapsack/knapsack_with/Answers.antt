use Rattle.std.proofs.Common.{inl, inr}
use Rattle.klsm_tool.proofs.knapsack.knapsack_with.Goals as goal

pub returns-in-Ok : goal.returns-in-Ok
returns-in-Ok g c = inr (c.in-Ok.instance, c.in-Ok.ensures, c.solve_read.ensures)

pub returns-in-Err : goal.returns-in-Err
returns-in-Err g c = inl (c.in-Err.why, c.in-Err.ensures, c.refuse-report.ensures)
