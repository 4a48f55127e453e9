use Rattle.std.proofs.Common.{◌≡◌, ◌-◌, ◌∷◌, ◌++◌, ◌∙◌, [], List, ap, refl, subst, inl, inr}
use Rattle.klsm_run.specs.declared.item.Item.{Item}
use Rattle.klsm_schedules.specs.declared.step.Entry.TheVariants.{Committed}
use Rattle.klsm_schedules.specs.declared.step.Event.TheVariants.{Take, Nothing}
use Rattle.std.specs.Prelude.{Some, None}
use Rattle.std.specs.List.{flat_map}
use Rattle.klsm_schedules.specs.OwnSteps.{inserted, inserted_by, deleted, deleted_by, no_key}
use Rattle.klsm_schedules.specs.OwnListLaws.{LeavesFew}
use Rattle.klsm_board.specs.Effects.{committed_in}
use Rattle.klsm_board.specs.Rule.{world_limits}
use Rattle.klsm_board.specs.Steps.{mine, rest_of}
use Rattle.klsm_board.specs.Entries.{both_marked}
use Rattle.klsm_board.specs.Seats.{Has, both_in_hand}
use Rattle.klsm_board.specs.Deleting.{Passes, SpiesAfter, refilled_after}
use Rattle.klsm_board.proofs.lemmas.hands.PossibleLemmas.{nothing_leaves_few}
use Rattle.klsm_board.proofs.lemmas.calls.EventLemmas.{same_events}
use Rattle.klsm_board.proofs.lemmas.calls.DeletedLemmas.{passes_are_quiet, spies_same}
use Rattle.klsm_board.proofs.lemmas.calls.EffectLemmas.{alone_skips_none, effect_at, effect_of_some, lawful_there}
use Rattle.klsm_board.proofs.lemmas.calls.TakeLemmas.{least_alone}
use Rattle.klsm_board.proofs.lemmas.calls.RefillLemmas.{none_refilled_alone}
use Rattle.klsm_board.proofs.lemmas.calls.TestLemmas.{either_option, where_some}
use Rattle.klsm_board.proofs.deleting.delete_under_both.Goals as goal

pub returns-in-Some-clause-has : goal.returns-in-Some-clause-has
returns-in-Some-clause-has g c = let k = c.requires.has in (c.in-Some.ensures.done k.0 k.1 k.2).0

pub take_both_out-requires-then-search_victims-clause-has : goal.take_both_out-requires-then-search_victims-clause-has
take_both_out-requires-then-search_victims-clause-has g c =
    let content = g.S.Holding.content in let suits = g.S.Holding.suits in
    let m = c.args.table.now.key in let t = c.args.thread in let k = c.requires.has in let me1 = c.take_both_out.new.seat.me in
    let none = c.in_default.ensures.done k.0 k.1 k.2 in let empty = none.0 in
    let has : Has content suits m t (both_in_hand t [] []) me1 = subst (λ (z : List Item × List Item). Has content suits m t (both_in_hand t z.0 z.1) me1) (λ i. (empty.own_empty i, empty.shared_empty i)) none.1 in
    let spied = c.if-search_victims.ensures.done [] has in
    (spied.0, [], spied.1)

pub returns-then-search_victims-clause-has : goal.returns-then-search_victims-clause-has
returns-then-search_victims-clause-has g c =
    let content = g.S.Holding.content in let suits = g.S.Holding.suits in
    let m = c.args.table.now.key in let t = c.args.thread in let k = c.requires.has in let me1 = c.take_both_out.new.seat.me in
    let none = c.in_default.ensures.done k.0 k.1 k.2 in let empty = none.0 in
    let has : Has content suits m t (both_in_hand t [] []) me1 = subst (λ (z : List Item × List Item). Has content suits m t (both_in_hand t z.0 z.1) me1) (λ i. (empty.own_empty i, empty.shared_empty i)) none.1 in
    let spied = c.if-search_victims.ensures.done [] has in
    let second = c.take_both_out-then-search_victims in let spies = spied.2.spies in
    where_some second.result _ _ (Has content suits m t [] second.new.seat.me) (second.ensures.done spied.0 [] spied.1) (λ nothing. spies.may.some nothing.0.own_empty) (λ item took. took.0)

pub returns-then-search_victims-clause-done : goal.returns-then-search_victims-clause-done
returns-then-search_victims-clause-done g c own shared has_both =
    let content = g.S.Holding.content in let suits = g.S.Holding.suits in
    let m = c.args.table.now.key in let t = c.args.thread in let me = c.args.seat.now.me in let me1 = c.take_both_out.new.seat.me in
    let none = c.in_default.ensures.done own shared has_both in let empty = none.0 in
    let has : Has content suits m t (both_in_hand t [] []) me1 = subst (λ (z : List Item × List Item). Has content suits m t (both_in_hand t z.0 z.1) me1) (λ i. (empty.own_empty i, empty.shared_empty i)) none.1 in
    let spied = c.if-search_victims.ensures.done [] has in
    let second = c.take_both_out-then-search_victims in let spies = spied.2.spies in
    let me2 = c.search_victims.new.seat.me in
    either_option second.result _ _ _ _ (second.ensures.done spied.0 [] spied.1)
    (λ nothing. absurd (spies.may.some nothing.0.own_empty))
    (λ item took.
    let chosen = took.2 in
    inr (
      record {
        own_empty = empty.own_empty;
        shared_empty = empty.shared_empty;
        moved = spied.0;
        least = least_alone m.k t spied.0 item took.1;
        spied = mine me2.0;
        spies = subst (λ n. SpiesAfter n t (mine me.0) (mine me2.0) spied.0) c.requires.threads (subst (λ es. SpiesAfter c.args.threads t es (mine me2.0) spied.0) none.2 spied.2);
        skips = took.3;
        keeps = took.4;
        steps = took.5 ∙ ap (λ z. mine me2.0 ++ Committed (Take item) ∷ (z ++ both_marked t item.key)) (none_refilled_alone c.args.refill m.k spied.0 item (least_alone m.k t spied.0 item took.1));
      },
      (chosen.unasked refl).0 ∙ none.3,
    ))

pub returns-clause-done : goal.returns-clause-done
returns-clause-done g c own shared has_both =
    let content = g.S.Holding.content in let suits = g.S.Holding.suits in
    let m = c.args.table.now.key in let t = c.args.thread in let me = c.args.seat.now.me in let me1 = c.take_both_out.new.seat.me in
    let none = c.in_default.ensures.done own shared has_both in let empty = none.0 in
    let has : Has content suits m t (both_in_hand t [] []) me1 = subst (λ (z : List Item × List Item). Has content suits m t (both_in_hand t z.0 z.1) me1) (λ i. (empty.own_empty i, empty.shared_empty i)) none.1 in
    let passed = c.if-search_victims.ensures.done [] has in
    let list : mine c.search_victims.new.seat.me.0 ≡ mine me.0 ++ passed.1.0 = passed.1.2 ∙ ap (λ z. z ++ passed.1.0) none.2 in (
      record {
        own_empty = empty.own_empty;
        shared_empty = empty.shared_empty;
        added = passed.1.0;
        passes = subst (λ n. Passes n t (n - 1) passed.1.0) c.requires.threads passed.1.1;
        leaves = subst (LeavesFew (world_limits m) t) list (nothing_leaves_few content suits m t [] [] c.search_victims.new.seat.me passed.0 (record { own_empty = refl; shared_empty = refl }));
        steps = c.release_committed.ensures.list ∙ ap (λ z. z ++ Committed Nothing ∷ both_marked t no_key) list;
      },
      none.3,
    )

pub returns-in-Some-clause-done : goal.returns-in-Some-clause-done
returns-in-Some-clause-done g c own shared has_both =
    let m = c.args.table.now.key in let t = c.args.thread in let me = c.args.seat.now.me in let item = c.in-Some.item in
    let took = c.in-Some.ensures.done own shared has_both in
    inl (
      record {
        may = took.1;
        skips = took.3;
        keeps = took.4;
        steps = took.5;
      },
      took.2,
    )

pub returns-in-Some-clause-effect : goal.returns-in-Some-clause-effect
returns-in-Some-clause-effect g c =
    let m = c.args.table.now.key in let t = c.args.thread in let me = c.args.seat.now.me in let item = c.in-Some.item in
    let k = c.requires.has in let has = k.2 in let reached = has.reached in let carries = has.carries in
    let took = c.in-Some.ensures.done k.0 k.1 k.2 in
    effect_at m t me.0 (rest_of me.0) (mine me.0) (mine c.take_both_out.new.seat.me.0) (refilled_after c.args.refill m.k k.0 k.1 item ++ both_marked t item.key) (Take item) (Some item) carries.acts refl reached
    (took.3 reached.world (lawful_there m t me.0 reached) reached.list_is, alone_skips_none m t me.0 item reached (took.4 reached.world (lawful_there m t me.0 reached) reached.list_is)) took.5 refl refl refl

pub returns-then-search_victims-clause-effect : goal.returns-then-search_victims-clause-effect
returns-then-search_victims-clause-effect g c =
    let content = g.S.Holding.content in let suits = g.S.Holding.suits in
    let m = c.args.table.now.key in let t = c.args.thread in let k = c.requires.has in let me = c.args.seat.now.me in let me1 = c.take_both_out.new.seat.me in let me2 = c.search_victims.new.seat.me in
    let none = c.in_default.ensures.done k.0 k.1 k.2 in let empty = none.0 in
    let has : Has content suits m t (both_in_hand t [] []) me1 = subst (λ (z : List Item × List Item). Has content suits m t (both_in_hand t z.0 z.1) me1) (λ i. (empty.own_empty i, empty.shared_empty i)) none.1 in
    let spied = c.if-search_victims.ensures.done [] has in
    let second = c.take_both_out-then-search_victims in let spies = spied.2.spies in
    let has2 = spied.1 in let reached = has2.reached in let carries = has2.carries in
    let counts = spies_same c.args.threads t (mine me1.0) (mine me2.0) spied.0 spied.2 in
    let es' = mine second.new.seat.me.0 in
    effect_of_some m t (rest_of me.0) (mine me.0) es' second.result _ _ (second.ensures.done spied.0 [] spied.1)
    (λ nothing. spies.may.some nothing.0.own_empty)
    (λ item took. effect_at m t me2.0 (rest_of me.0) (mine me.0) es' (refilled_after c.args.refill m.k spied.0 [] item ++ both_marked t item.key) (Take item) (Some item) carries.acts (c.search_victims.ensures.others ∙ c.take_both_out.ensures.others) reached
    (took.3 reached.world (lawful_there m t me2.0 reached) reached.list_is, alone_skips_none m t me2.0 item reached (took.4 reached.world (lawful_there m t me2.0 reached) reached.list_is)) took.5 refl (counts.0 ∙ ap inserted none.2) (counts.1 ∙ ap deleted none.2))

pub returns-clause-effect : goal.returns-clause-effect
returns-clause-effect g c =
    let content = g.S.Holding.content in let suits = g.S.Holding.suits in
    let m = c.args.table.now.key in let t = c.args.thread in let k = c.requires.has in let me = c.args.seat.now.me in let me1 = c.take_both_out.new.seat.me in let me2 = c.search_victims.new.seat.me in
    let none = c.in_default.ensures.done k.0 k.1 k.2 in let empty = none.0 in
    let has : Has content suits m t (both_in_hand t [] []) me1 = subst (λ (z : List Item × List Item). Has content suits m t (both_in_hand t z.0 z.1) me1) (λ i. (empty.own_empty i, empty.shared_empty i)) none.1 in
    let passed = c.if-search_victims.ensures.done [] has in let has2 = passed.0 in let reached = has2.reached in let carries = has2.carries in
    let quiet : committed_in (mine me2.0) ≡ committed_in (mine me1.0) = same_events (mine me1.0) passed.1.0 (mine me2.0) passed.1.2 (passes_are_quiet c.args.threads t (c.args.threads - 1) passed.1.0 passed.1.1) in
    effect_at m t me2.0 (rest_of me.0) (mine me.0) (mine c.release_committed.new.seat.me.0) (both_marked t no_key) Nothing None carries.acts (c.search_victims.ensures.others ∙ c.take_both_out.ensures.others) reached
    (nothing_leaves_few content suits m t [] [] me2 has2 (record { own_empty = refl; shared_empty = refl }) reached.world (lawful_there m t me2.0 reached) reached.list_is)
    c.release_committed.ensures.list refl (ap (flat_map inserted_by) quiet ∙ ap inserted none.2) (ap (flat_map deleted_by) quiet ∙ ap deleted none.2)
