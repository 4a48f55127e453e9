use Rattle.std.proofs.Common.{ap, length, arith}
use Rattle.klsm_pile.specs.Labels.{FrontState}
use Rattle.klsm_pile.proofs.LabelLemmas.{labelled_length}
use Rattle.klsm_pile.proofs.front.Front.reserve.Goals as goal

pub overflow_sub-more : goal.overflow_sub-more
overflow_sub-more g c =
    omega (arith, c.len.ensures, c.requires, c.self.inside.items.ok.0, labelled_length c.self.inside.items.items c.self.inside.levels.items c.self.invariant, ap (λ (f : FrontState). length f.items) c.self.view_is)
