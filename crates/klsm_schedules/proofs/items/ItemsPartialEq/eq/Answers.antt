use Rattle.std.proofs.Common.{◌∙◌, ap}
use Rattle.std.specs.Cmp.Lexicographic.{pointwise}
use Rattle.klsm_schedules.proofs.lemmas.lists.EqualLemmas.{are_equal, one_list_if_equal}
use Rattle.klsm_schedules.proofs.items.ItemsPartialEq.eq.Goals as goal

pub returns-clause-same : goal.returns-clause-same
returns-clause-same g c =
    one_list_if_equal c.args.self.now c.args.other.now c.eq.result
    (c.eq.ensures ∙ (ap (λ xs. pointwise are_equal xs c.as_slice-2.result.now) c.as_slice.ensures ∙ ap (pointwise are_equal c.args.self.now) c.as_slice-2.ensures))
