use Rattle.std.proofs.Common.{rules, w32, sym, ◌∙◌}
use Rattle.std.proofs.lemmas.Int.{to_z-of_z}
use Rattle.klsm_c.proofs.opening.klsm_open.Goals as goal

pub returns-clause-ok : goal.returns-clause-ok
returns-clause-ok c = λ ok. let code = to_z-of_z w32 c.klsm_open_with_balance.result (search rules) in c.klsm_open_with_balance.ensures.ok (sym code ∙ ok)
