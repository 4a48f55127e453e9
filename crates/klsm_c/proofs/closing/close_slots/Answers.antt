use Rattle.std.proofs.Common.{ap, sym, subst, ◌∙◌}
use Rattle.std.proofs.lemmas.Bool.{true≢false}
use Rattle.klsm_owned.specs.Owned.{AreAllOfTheirBoard, members_of}
use Rattle.klsm_c.specs.Slots.{one_after_another, owned_in}
use Rattle.klsm_c.proofs.SlotLemmas.{closed_are_whole, no_owned, none_open_of}
use Rattle.klsm_c.proofs.closing.close_slots.Goals as goal

pub unreachable-requires : goal.unreachable-requires
unreachable-requires c =
    let slots = c.args.slots.now in
    let empty = no_owned (owned_in slots) (ap (λ xss. members_of (one_after_another xss)) (sym c.count_left-count.ensures.same) ∙ (sym c.take_members.ensures.members ∙ c.in_default-take_members.ensures.board)) in
    true≢false (sym c.if-not-some_is_open.false ∙ (c.some_is_open.ensures ∙ none_open_of slots empty))

pub returns-in-Some-finish-clause-whole : goal.returns-in-Some-finish-clause-whole
returns-in-Some-finish-clause-whole c = closed_are_whole c.take_members.new.slots c.take_members.ensures.closed

pub returns-in-None-clause-whole : goal.returns-in-None-clause-whole
returns-in-None-clause-whole c = closed_are_whole c.take_members.new.slots c.take_members.ensures.closed

pub returns-in_default-with_capacity-clause-whole : goal.returns-in_default-with_capacity-clause-whole
returns-in_default-with_capacity-clause-whole c =
    subst (λ xss. AreAllOfTheirBoard (members_of (one_after_another xss))) (sym c.count_left-count.ensures.same) c.requires.whole

pub finish-requires-clause-whole : goal.finish-requires-clause-whole
finish-requires-clause-whole c =
    subst AreAllOfTheirBoard (sym (c.take_members.ensures.members ∙ ap (λ xss. members_of (one_after_another xss)) c.count_left-count.ensures.same)) c.requires.whole
