use Rattle.std.proofs.Common.{◌≡◌, ◌+◌, length, min, subst, ◌∙◌, arith}
use Rattle.klsm_lsm.specs.Lsm.{content}
use Rattle.klsm_parts.specs.Least.{least}
use Rattle.klsm_parts.specs.Parts.{PartState}
use Rattle.klsm_parts.proofs.PivotLemmas.{count_of_least}
use Rattle.klsm_parts.proofs.shared.Shared.candidates.Goals as goal

pub returns : goal.returns
returns g c =
    let count : c.min.result ≡ min (length (content c.self.inside.pile.blocks)) (c.self.inside.k + 1) = omega (arith, c.min.ensures, c.len.ensures.len) in
    subst (λ (p : PartState). c.min.result ≡ length (least (p.k + 1) (content p.blocks))) c.self.view_is (count ∙ count_of_least c.self.inside.k c.self.inside.pile.blocks)
