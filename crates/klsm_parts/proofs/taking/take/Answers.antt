use Rattle.std.proofs.Common.{rules, ◌≡◌, [], true, None, get_or, subst, refl, sym, ap, ◌∙◌, inl, inr}
use Rattle.std.specs.List.{Contains, slice_get}
use Rattle.std.specs.Option.{option_map}
use Rattle.std.proofs.lemmas.Option.{slice_get_within, same_Some}
use Rattle.klsm_parts.specs.declared.places.Place.{Place}
use Rattle.klsm_lsm.specs.Lsm.{content}
use Rattle.klsm_parts.specs.Parts.{PartState, items_in, least_in, candidates_of}
use Rattle.klsm_parts.specs.Taking.{picks, IsCutFrom}
use Rattle.klsm_parts.proofs.EventLemmas.{cut_is_taken, not_taken, shared_taken, shared_stays, contains_cut, may_find_nothing, take_skips_few}
use Rattle.klsm_parts.proofs.OwnOrderLemmas.{may_take_sorted}
use Rattle.klsm_parts.proofs.TakeLemmas.{asked_of, chosen_may_go, own_may_go, lesser_is_candidate, lesser_is_own, none_is_smaller, none_shared, some_cut}
use Rattle.klsm_parts.proofs.taking.take.Goals as goal

pub returns-in-Some-clause-unasked : goal.returns-in-Some-clause-unasked
returns-in-Some-clause-unasked g c unasked =
    let own_is = c.item_of.ensures ∙ c.least_place-least_own.ensures.item in
    let bad = (c.in-Some.ensures.unasked (ap (λ o. picks o (least_in c.args.shared.now)) own_is ∙ unasked)).1 in cc

pub returns-in-Some-clause-asked : goal.returns-in-Some-clause-asked
returns-in-Some-clause-asked g c asked =
    let own_is = c.item_of.ensures ∙ c.least_place-least_own.ensures.item in
    let own_asked = asked_of g.P.Picker.may_pick c.args.picker.now c.choose.new.picker c.args.owner (candidates_of c.args.shared.now) (least_in c.args.shared.now) _ _ (least_in c.args.own.now) own_is c.in-Some.ensures.asked in
    let chosen = own_asked asked in
    record { index = chosen.index; picked = chosen.picked; candidate = chosen.candidate; found = chosen.found; follows = lesser_is_candidate chosen.candidate c.in-Some.item _ chosen.follows }

pub returns-in-Some-clause-left : goal.returns-in-Some-clause-left
returns-in-Some-clause-left g c =
    (refl, c.remove.ensures.k, inr (subst (λ x. IsCutFrom x c.args.shared.now.blocks c.remove.new.self.blocks) (same_Some _ _ (sym c.remove.ensures.item ∙ c.in-Some.ensures.candidate)) c.remove.ensures.cut, refl))

pub returns-in-Some-clause-nothing : goal.returns-in-Some-clause-nothing
returns-in-Some-clause-nothing g c =
    let gone : IsCutFrom c.in-Some.item c.args.shared.now.blocks c.remove.new.self.blocks = subst (λ x. IsCutFrom x c.args.shared.now.blocks c.remove.new.self.blocks) (same_Some _ _ (sym c.remove.ensures.item ∙ c.in-Some.ensures.candidate)) c.remove.ensures.cut in
    (λ bad. cc, λ none. absurd (some_cut c.args.shared.now.blocks c.remove.new.self.blocks c.in-Some.item gone none.shared_empty))

pub returns-in-Some-clause-event : goal.returns-in-Some-clause-event
returns-in-Some-clause-event g c =
    let own_is = c.item_of.ensures ∙ c.least_place-least_own.ensures.item in
    let own_asked = asked_of g.P.Picker.may_pick c.args.picker.now c.choose.new.picker c.args.owner (candidates_of c.args.shared.now) (least_in c.args.shared.now) _ _ (least_in c.args.own.now) own_is c.in-Some.ensures.asked in
    let gone : IsCutFrom c.in-Some.item c.args.shared.now.blocks c.remove.new.self.blocks = subst (λ x. IsCutFrom x c.args.shared.now.blocks c.remove.new.self.blocks) (same_Some _ _ (sym c.remove.ensures.item ∙ c.in-Some.ensures.candidate)) c.remove.ensures.cut in
    let taken = chosen_may_go g.P.Picker.may_pick c.args.picker.now c.choose.new.picker c.args.shared.now.k c.args.owner (content c.args.own.now.blocks) (content c.args.shared.now.blocks) c.in-Some.item (λ unasked. let bad = (c.in-Some.ensures.unasked (ap (λ o. picks o (least_in c.args.shared.now)) own_is ∙ unasked)).1 in cc) own_asked in
    let absent : Contains (content c.args.own.now.blocks) c.in-Some.item → ⊥ = λ in_own. c.requires.apart c.in-Some.item in_own (contains_cut c.args.shared.now.blocks c.remove.new.self.blocks c.in-Some.item gone) in
    (may_take_sorted c.args.own.now.k c.args.owner (content c.args.own.now.blocks) (content c.args.shared.now.blocks) c.in-Some.item (rw c.requires.same_k taken), not_taken c.args.own.now.blocks c.in-Some.item absent, shared_taken c.args.own.now.blocks c.args.shared.now.blocks c.remove.new.self.blocks c.in-Some.item absent gone)

pub returns-in-Some-clause-skips : goal.returns-in-Some-clause-skips
returns-in-Some-clause-skips g c =
    let own_is = c.item_of.ensures ∙ c.least_place-least_own.ensures.item in
    let own_asked = asked_of g.P.Picker.may_pick c.args.picker.now c.choose.new.picker c.args.owner (candidates_of c.args.shared.now) (least_in c.args.shared.now) _ _ (least_in c.args.own.now) own_is c.in-Some.ensures.asked in
    let taken = chosen_may_go g.P.Picker.may_pick c.args.picker.now c.choose.new.picker c.args.shared.now.k c.args.owner (content c.args.own.now.blocks) (content c.args.shared.now.blocks) c.in-Some.item (λ unasked. let bad = (c.in-Some.ensures.unasked (ap (λ o. picks o (least_in c.args.shared.now)) own_is ∙ unasked)).1 in cc) own_asked in
    take_skips_few c.args.own.now.k (items_in c.args.own.now) (items_in c.args.shared.now) c.in-Some.item (may_take_sorted c.args.own.now.k c.args.owner (content c.args.own.now.blocks) (content c.args.shared.now.blocks) c.in-Some.item (rw c.requires.same_k taken)).in_reach

pub returns-in_err-least-in-None-clause-unasked : goal.returns-in_err-least-in-None-clause-unasked
returns-in_err-least-in-None-clause-unasked g c unasked =
    let own_is = c.item_of.ensures ∙ c.least_place-least_own.ensures.item in
    let none_own : slice_get (items_in c.args.own.now) 0 ≡ None = sym own_is ∙ (c.item_of.ensures ∙ ap (option_map (λ (place : Place). place.item)) c.in_err-least-in-None.was) in
    ((c.in-None.ensures.unasked (ap (λ o. picks o (least_in c.args.shared.now)) own_is ∙ unasked)).0, c.from_residual.ensures ∙ sym none_own)

pub returns-in_err-least-in-None-clause-asked : goal.returns-in_err-least-in-None-clause-asked
returns-in_err-least-in-None-clause-asked g c asked =
    let own_is = c.item_of.ensures ∙ c.least_place-least_own.ensures.item in
    let none_own : slice_get (items_in c.args.own.now) 0 ≡ None = sym own_is ∙ (c.item_of.ensures ∙ ap (option_map (λ (place : Place). place.item)) c.in_err-least-in-None.was) in
    let own_asked = asked_of g.P.Picker.may_pick c.args.picker.now c.choose.new.picker c.args.owner (candidates_of c.args.shared.now) (least_in c.args.shared.now) _ _ (least_in c.args.own.now) own_is c.in-None.ensures.asked in
    let chosen = own_asked asked in
    absurd (none_is_smaller chosen.candidate _ none_own chosen.follows)

pub returns-in_err-least-in-None-clause-nothing : goal.returns-in_err-least-in-None-clause-nothing
returns-in_err-least-in-None-clause-nothing g c =
    let own_is = c.item_of.ensures ∙ c.least_place-least_own.ensures.item in
    let none_own : slice_get (items_in c.args.own.now) 0 ≡ None = sym own_is ∙ (c.item_of.ensures ∙ ap (option_map (λ (place : Place). place.item)) c.in_err-least-in-None.was) in
    let own_asked = asked_of g.P.Picker.may_pick c.args.picker.now c.choose.new.picker c.args.owner (candidates_of c.args.shared.now) (least_in c.args.shared.now) _ _ (least_in c.args.own.now) own_is c.in-None.ensures.asked in
    let unasked : picks (slice_get (items_in c.args.own.now) 0) (slice_get (items_in c.args.shared.now) 0) ≡ true → ⊥ =
    λ asked. let chosen = own_asked asked in none_is_smaller chosen.candidate _ none_own chosen.follows in
    (λ same. may_find_nothing (content c.args.own.now.blocks) (content c.args.shared.now.blocks) none_own (none_shared _ _ none_own unasked), λ none. c.from_residual.ensures)

pub returns-in_ok-least-in-None-clause-unasked : goal.returns-in_ok-least-in-None-clause-unasked
returns-in_ok-least-in-None-clause-unasked g c unasked =
    let own_is = c.item_of.ensures ∙ c.least_place-least_own.ensures.item in
    ((c.in-None.ensures.unasked (ap (λ o. picks o (least_in c.args.shared.now)) own_is ∙ unasked)).0, sym c.remove-in-None.ensures.least)

pub returns-in_ok-least-in-None-clause-asked : goal.returns-in_ok-least-in-None-clause-asked
returns-in_ok-least-in-None-clause-asked g c asked =
    let own_is = c.item_of.ensures ∙ c.least_place-least_own.ensures.item in
    let own_asked = asked_of g.P.Picker.may_pick c.args.picker.now c.choose.new.picker c.args.owner (candidates_of c.args.shared.now) (least_in c.args.shared.now) _ _ (least_in c.args.own.now) own_is c.in-None.ensures.asked in
    let chosen = own_asked asked in
    record { index = chosen.index; picked = chosen.picked; candidate = chosen.candidate; found = chosen.found; follows = lesser_is_own chosen.candidate c.remove-in-None.result _ c.remove-in-None.ensures.least chosen.follows }

pub returns-in_ok-least-in-None-clause-nothing : goal.returns-in_ok-least-in-None-clause-nothing
returns-in_ok-least-in-None-clause-nothing g c =
    (λ bad. cc, λ none. absurd (some_cut c.args.own.now.blocks c.remove-in-None.new.self.blocks c.remove-in-None.result c.remove-in-None.ensures.cut none.own_empty))

pub returns-in_ok-least-in-None-clause-event : goal.returns-in_ok-least-in-None-clause-event
returns-in_ok-least-in-None-clause-event g c =
    let own_is = c.item_of.ensures ∙ c.least_place-least_own.ensures.item in
    let own_asked = asked_of g.P.Picker.may_pick c.args.picker.now c.choose.new.picker c.args.owner (candidates_of c.args.shared.now) (least_in c.args.shared.now) _ _ (least_in c.args.own.now) own_is c.in-None.ensures.asked in
    let taken = own_may_go g.P.Picker.may_pick c.args.picker.now c.choose.new.picker c.args.shared.now.k c.args.owner (content c.args.own.now.blocks) (content c.args.shared.now.blocks) c.remove-in-None.result c.remove-in-None.ensures.least own_asked in
    let within = contains_cut c.args.own.now.blocks c.remove-in-None.new.self.blocks c.remove-in-None.result c.remove-in-None.ensures.cut in
    (may_take_sorted c.args.own.now.k c.args.owner (content c.args.own.now.blocks) (content c.args.shared.now.blocks) c.remove-in-None.result (rw c.requires.same_k taken), cut_is_taken c.args.own.now.blocks c.remove-in-None.new.self.blocks c.remove-in-None.result c.remove-in-None.ensures.cut, shared_stays c.args.own.now.blocks c.args.shared.now.blocks c.remove-in-None.result within)

pub returns-in_ok-least-in-None-clause-skips : goal.returns-in_ok-least-in-None-clause-skips
returns-in_ok-least-in-None-clause-skips g c =
    let own_is = c.item_of.ensures ∙ c.least_place-least_own.ensures.item in
    let own_asked = asked_of g.P.Picker.may_pick c.args.picker.now c.choose.new.picker c.args.owner (candidates_of c.args.shared.now) (least_in c.args.shared.now) _ _ (least_in c.args.own.now) own_is c.in-None.ensures.asked in
    let taken = own_may_go g.P.Picker.may_pick c.args.picker.now c.choose.new.picker c.args.shared.now.k c.args.owner (content c.args.own.now.blocks) (content c.args.shared.now.blocks) c.remove-in-None.result c.remove-in-None.ensures.least own_asked in
    take_skips_few c.args.own.now.k (items_in c.args.own.now) (items_in c.args.shared.now) c.remove-in-None.result (may_take_sorted c.args.own.now.k c.args.owner (content c.args.own.now.blocks) (content c.args.shared.now.blocks) c.remove-in-None.result (rw c.requires.same_k taken)).in_reach

pub returns-in_ok-least-in-None-clause-left : goal.returns-in_ok-least-in-None-clause-left
returns-in_ok-least-in-None-clause-left g c = (c.remove-in-None.ensures.k, refl, inl (c.remove-in-None.ensures.cut, refl))

pub choose-requires : goal.choose-requires
choose-requires g c = search

pub least_place-least_own-requires : goal.least_place-least_own-requires
least_place-least_own-requires g c = search

pub remove-requires : goal.remove-requires
remove-requires g c =
    (search rules, slice_get_within (candidates_of c.args.shared.now) c.in-Some.rank c.in-Some.item c.in-Some.ensures.candidate)

pub remove-requires-in-None : goal.remove-requires-in-None
remove-requires-in-None g c =
    let place = c.in_ok-least-in-None.least in
    let found = c.in_ok-least-in-None.ensures in
    let within = slice_get_within _ place.index place.item found.place.1 in
    (search, (found.place.0, (within, found.place.1 ∙ found.item)))

pub returns-in_err-least-in-None-clause-left : goal.returns-in_err-least-in-None-clause-left
returns-in_err-least-in-None-clause-left g c = rw c.from_residual.ensures (refl, refl)

pub returns-in_err-least-in-None-clause-event : goal.returns-in_err-least-in-None-clause-event
returns-in_err-least-in-None-clause-event g c = rw c.from_residual.ensures tt

pub returns-in_err-least-in-None-clause-skips : goal.returns-in_err-least-in-None-clause-skips
returns-in_err-least-in-None-clause-skips g c = rw c.from_residual.ensures tt
