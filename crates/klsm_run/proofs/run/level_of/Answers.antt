use Rattle.std.proofs.Common.{◌≤◌, ◌^◌, arith, inl, inr}
use Rattle.std.proofs.lemmas.Bool.{cases_lt}
use Rattle.std.proofs.Math.Pow.{pow_mono}
use Rattle.klsm_run.proofs.run.level_of.Goals as goal

pub returns-clause-least : goal.returns-clause-least
returns-clause-least c l enough = elim (cases_lt c.ilog2.result l) [
  | inl above ↦ omega arith
  | inr below ↦ absurd (let low : 2 ^ l ≤ 2 ^ c.ilog2.result = pow_mono below in omega (arith, low, enough, c.ilog2.ensures.power_le, c.requires))
]
