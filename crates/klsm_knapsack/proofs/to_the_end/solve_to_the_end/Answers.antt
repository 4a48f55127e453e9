use Rattle.std.proofs.Common.{refl}
use Rattle.klsm_knapsack.proofs.to_the_end.solve_to_the_end.Goals as goal

pub unreachable-requires : goal.unreachable-requires
unreachable-requires g c = c.in-Err-Full.ensures.never_full refl c.in-Err-Full.field-0-is

pub unreachable-unreachable : goal.unreachable-unreachable
unreachable-unreachable g c = c.unreachable.type_inv

pub returns-in-Ok-clause-ran : goal.returns-in-Ok-clause-ran
returns-in-Ok-clause-ran g c = c.in-Ok.ensures.ran
