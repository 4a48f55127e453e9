use Rattle.std.proofs.Common.{List, subst, sym, ◌∙◌}
use Rattle.std.specs.List.{Contains}
use Rattle.klsm_run.specs.declared.item.Item.{Item}
use Rattle.klsm_test_support.proofs.apart.are_apart.Goals as goal

pub returns : goal.returns
returns g c = λ is_true x own shared. c.share_none.ensures is_true x
    (subst (λ (xs : List Item). Contains xs x) (sym (c.as_slice.ensures.value ∙ c.in_ok-items.ensures)) own)
    (subst (λ (xs : List Item). Contains xs x) (sym (c.as_slice-2.ensures.value ∙ c.in_ok-others.ensures)) shared)
