use Rattle.std.proofs.Common.{List, subst, ◌∙◌}
use Rattle.std.specs.List.{Contains}
use Rattle.klsm_run.specs.declared.item.Item.{Item}
use Rattle.klsm_test_support.proofs.apart.is_in.Goals as goal

pub returns : goal.returns
returns g c = λ none. (
  subst (λ (xs : List Item). Contains xs c.args.item → ⊥) (c.as_slice.ensures.value ∙ c.in_ok-items.ensures) (c.is_in_either.ensures none).0,
  subst (λ (xs : List Item). Contains xs c.args.item → ⊥) (c.as_slice-2.ensures.value ∙ c.in_ok-others.ensures) (c.is_in_either.ensures none).1,
)
