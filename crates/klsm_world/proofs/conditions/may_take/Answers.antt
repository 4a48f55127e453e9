use Rattle.std.proofs.Common.{◌≡◌, ◌∙◌, false, true, sym}
use Rattle.klsm_world.proofs.lemmas.lists.TakeConditionLemmas.{may_take_if_ordered, ordered_if_may_take}
use Rattle.klsm_world.proofs.conditions.may_take.Goals as goal

pub returns-then-is_in_reach : goal.returns-then-is_in_reach
returns-then-is_in_reach c =
    let k = c.args.k in let own = c.args.own.now in let shared = c.args.shared.now in (
      λ goes. may_take_if_ordered k c.args.owner own shared c.args.item (c.is_in_reach.ensures.0 c.if-is_in_reach.true) (c.skips_none_of.ensures.0 goes),
      λ may. c.skips_none_of.ensures.1 (ordered_if_may_take k c.args.owner own shared c.args.item may),
    )

pub returns-else-is_in_reach : goal.returns-else-is_in_reach
returns-else-is_in_reach c = (
  λ goes. let bad : false ≡ true = sym c.if-is_in_reach.false ∙ goes in cc,
  λ may. c.is_in_reach.ensures.1 may.in_reach,
)
