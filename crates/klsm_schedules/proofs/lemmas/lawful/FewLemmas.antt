-- Each own part keeps at most k items at a legal step.
use Rattle.std.proofs.Common.{◌≡◌, ℕ, ◌+◌, ◌<◌, ◌≤◌, List, [], ◌∷◌, length, Option, Some, None, refl, sym, ap, ◌∙◌, subst, arith, inl, inr, unwrap_or}
use Rattle.std.proofs.lemmas.Bool.{cases_eq}
use Rattle.klsm_run.specs.declared.item.Item.{Item}
use Rattle.klsm_parts.specs.Events.{own_after_put, own_after_flush, shared_after_flush, own_after_take, shared_after_take, own_after_early, own_after_spy, victim_after_spy, own_after_refill, shared_after_refill}
use Rattle.klsm_parts.specs.Stealing.{own_after_steal, victim_after_steal}
use Rattle.klsm_parts.specs.Sharing.{own_after_share, shared_after_share}
use Rattle.klsm_schedules.specs.declared.step.Event.{Event}
use Rattle.klsm_schedules.specs.declared.step.Event.TheVariants.{Put, Flush, Take, Early, Nothing, Spy, Refill, Steal, Share}
use Rattle.klsm_schedules.specs.declared.step.Step.{Step}
use Rattle.klsm_schedules.specs.declared.step.Step.TheVariants.{Acquire, Commit, Release, Miss, Look, Mark, See}
use Rattle.klsm_schedules.specs.OwnSteps.{Hand, Holds, found_in, content_in, changed, after_event, own_part, shared_part, inserted}
use Rattle.klsm_schedules.specs.LegalSteps.{MayCommit}
use Rattle.klsm_schedules.specs.Worlds.{Limits, World, steps_of, hand_in, content_of}
use Rattle.klsm_schedules.specs.LawfulWorlds.{AreAgreed}
use Rattle.klsm_schedules.specs.Schedules.{MayStep, next}
use Rattle.klsm_schedules.proofs.lemmas.counts.EventCountLemmas.{length_plus, length_without_at_most, length_minus}
use Rattle.klsm_schedules.proofs.lemmas.hands.HandLemmas.{found_elsewhere, held_changed, held_after_event}
use Rattle.klsm_schedules.proofs.lemmas.hands.PartContentLemmas.{content_held, content_acquired, content_released, content_missed, content_looked, content_marked, content_seen, content_not_held, content_committed}

-- each own part that a hand has has at most k items
abbrev pub HasFew : ℕ → Hand → Type 0
HasFew k hand = (u : ℕ) (c : List Item) → Holds hand (own_part u) c → length c ≤ k

changed_few : (k : ℕ) (hand : Hand) (p : ℕ) (d : List Item) → HasFew k hand → ((u : ℕ) → own_part u ≡ p → length d ≤ k) → HasFew k (changed hand p d)
changed_few k hand p d few new u c found = elim (cases_eq (own_part u) p) [
  | inl same ↦
      let here : Holds (changed hand p d) p c = subst (λ z. Holds (changed hand p d) z c) same found in
      subst (λ z. length z ≤ k) (held_changed hand p d c here) (new u same)
  | inr other ↦ few u c (sym (found_elsewhere hand p (own_part u) d other) ∙ found)
]

-- a change of the shared part
shared_few : (k : ℕ) (hand : Hand) (d : List Item) → HasFew k hand → HasFew k (changed hand shared_part d)
shared_few k hand d few = changed_few k hand shared_part d few (λ u same. let bad : u + 1 ≡ 0 = same in absurd (omega (arith, bad)))

-- an event that a thread may commit leaves few items in each own part that the hand has
pub few_after_event : (k t n : ℕ) (hand : Hand) (event : Event) → MayCommit k t hand n event → HasFew k hand → HasFew k (after_event t hand event)
few_after_event k t n hand (Put x) may few =
    let own = content_in hand (own_part t) in
    let had : length own ≡ length may.held.own = ap (λ o. length (unwrap_or o [])) may.held.holds_own in
    changed_few k hand (own_part t) (own_after_put own x) few (λ u same. omega (arith, length_plus own (x ∷ []), had, may.held.fits))
few_after_event k t n hand (Flush x moved) may few =
    let own = content_in hand (own_part t) in
    let had : own ≡ may.held.own = ap (λ o. unwrap_or o []) may.held.holds_own in
    let few_stay : length (own_after_flush own x moved) ≤ k = subst (λ z. length (own_after_flush z x moved) ≤ k) (sym had) may.held.fits.few_stay in
    shared_few k (changed hand (own_part t) (own_after_flush own x moved)) (shared_after_flush (content_in hand shared_part) moved)
    (changed_few k hand (own_part t) (own_after_flush own x moved) few (λ u same. few_stay))
few_after_event k t n hand (Take x) may few =
    let own = content_in hand (own_part t) in
    let had : length own ≡ length may.own = ap (λ o. length (unwrap_or o [])) may.holds_own in
    shared_few k (changed hand (own_part t) (own_after_take own x)) (shared_after_take own (content_in hand shared_part) x)
    (changed_few k hand (own_part t) (own_after_take own x) few (λ u same. omega (arith, length_without_at_most x own, had, few t may.own may.holds_own)))
few_after_event k t n hand (Early x front) may few =
    let own = content_in hand (own_part t) in
    let had : length own ≡ length may.own = ap (λ o. length (unwrap_or o [])) may.holds_own in
    changed_few k hand (own_part t) (own_after_early own x) few (λ u same. omega (arith, length_without_at_most x own, had, few t may.own may.holds_own))
few_after_event k t n hand Nothing may few = few
few_after_event k t n hand (Refill moved) may few =
    let own = content_in hand (own_part t) in
    let had : length own ≡ length may.own = ap (λ o. length (unwrap_or o [])) may.holds_own in
    shared_few k (changed hand (own_part t) (own_after_refill own moved)) (shared_after_refill (content_in hand shared_part) moved)
    (changed_few k hand (own_part t) (own_after_refill own moved) few (λ u same. omega (arith, length_plus own moved, had, may.fits.room)))
few_after_event k t n hand (Steal victim moved) may few =
    let own = content_in hand (own_part t) in
    let had_own : length own ≡ length may.held.own = ap (λ o. length (unwrap_or o [])) may.held.holds_own in
    let from = may.held.other in
    let theirs = content_in hand (own_part victim) in
    let had : theirs ≡ from = ap (λ o. unwrap_or o []) may.held.holds_other in
    let left : length (victim_after_steal theirs moved) ≡ length (victim_after_steal from moved) = ap (λ z. length (victim_after_steal z moved)) had in
    let both = length_minus moved from may.held.fits.within in
    let at_most = few victim from may.held.holds_other in
    changed_few k (changed hand (own_part t) (own_after_steal own moved)) (own_part victim) (victim_after_steal theirs moved)
    (changed_few k hand (own_part t) (own_after_steal own moved) few (λ u same. omega (arith, length_plus own moved, had_own, may.held.fits.room))) (λ u same. omega (arith, both, at_most, left))
few_after_event k t n hand (Share moved) may few =
    let own = content_in hand (own_part t) in
    let had : own ≡ may.own = ap (λ o. unwrap_or o []) may.holds_own in
    let left : length (own_after_share own moved) ≡ length (own_after_share may.own moved) = ap (λ z. length (own_after_share z moved)) had in
    let both = length_minus moved may.own may.fits.within in
    let at_most = few t may.own may.holds_own in
    shared_few k (changed hand (own_part t) (own_after_share own moved)) (shared_after_share (content_in hand shared_part) moved)
    (changed_few k hand (own_part t) (own_after_share own moved) few (λ u same. omega (arith, left, both, at_most)))
few_after_event k t n hand (Spy victim moved) may few =
    let from = may.held.other in
    let theirs = content_in hand (own_part victim) in
    let had : theirs ≡ from = ap (λ o. unwrap_or o []) may.held.holds_other in
    let left : length (victim_after_spy theirs moved) ≡ length (victim_after_spy from moved) = ap (λ z. length (victim_after_spy z moved)) had in
    let both = length_minus moved from may.held.fits.within in
    let at_most = few victim from may.held.holds_other in
    changed_few k (changed hand (own_part t) (own_after_spy moved)) (own_part victim) (victim_after_spy theirs moved)
    (changed_few k hand (own_part t) (own_after_spy moved) few (λ u same. omega (arith, both, at_most))) (λ u same. omega (arith, both, at_most, left))

-- in a world whose own parts have few items, a hand has few
pub few_in_hand : (limits : Limits) (w : World) (t : ℕ) → AreAgreed limits w → ((u : ℕ) → u < limits.threads → length (content_of w (own_part u)) ≤ limits.k) → t < limits.threads → HasFew limits.k (hand_in w t)
few_in_hand limits w t agreed few inside u c has =
    let name = agreed.named t (own_part u) c inside has in
    let bound : u + 1 ≤ limits.threads = name.0 in
    subst (λ z. length z ≤ limits.k) (content_held limits w t (own_part u) c agreed inside has) (few u (omega (arith, bound)))

-- a commit keeps each own part small
few_committed : (limits : Limits) (w : World) (t : ℕ) (event : Event) → AreAgreed limits w → ((u : ℕ) → u < limits.threads → length (content_of w (own_part u)) ≤ limits.k) → MayStep limits w (Commit t event)
    → (u : ℕ) → u < limits.threads → (o : Option (List Item)) → found_in (hand_in w t) (own_part u) ≡ o → length (content_of (next w (Commit t event)) (own_part u)) ≤ limits.k
few_committed limits w t event agreed few may u inside None absent =
    subst (λ z. length z ≤ limits.k) (sym (content_not_held limits w t event (own_part u) agreed may.thread absent)) (few u inside)
few_committed limits w t event agreed few may u inside (Some c) has =
    let hand = hand_in w t in
    let later = held_after_event t hand event (own_part u) c has in
    let small = few_after_event limits.k t (length (inserted (steps_of w t))) hand event may.commit (few_in_hand limits w t agreed few may.thread) u later.0 later.1 in
    let is : content_of (next w (Commit t event)) (own_part u) ≡ later.0 = content_committed limits w t event (own_part u) c agreed may.thread has ∙ ap (λ o. unwrap_or o []) later.1 in
    subst (λ z. length z ≤ limits.k) (sym is) small

-- a legal step keeps at most k items in each own part
pub few_kept : (limits : Limits) (w : World) (step : Step) → AreAgreed limits w → ((t : ℕ) → t < limits.threads → length (content_of w (own_part t)) ≤ limits.k) → MayStep limits w step
    → (t : ℕ) → t < limits.threads → length (content_of (next w step) (own_part t)) ≤ limits.k
few_kept limits w (Acquire u p) agreed few may t inside = subst (λ z. length z ≤ limits.k) (sym (content_acquired limits w u p (own_part t) agreed may)) (few t inside)
few_kept limits w (Commit u event) agreed few may t inside = few_committed limits w u event agreed few may t inside (found_in (hand_in w u) (own_part t)) refl
few_kept limits w (Release u p) agreed few may t inside = subst (λ z. length z ≤ limits.k) (sym (content_released limits w u p (own_part t) agreed may)) (few t inside)
few_kept limits w (Miss u p) agreed few may t inside = subst (λ z. length z ≤ limits.k) (sym (content_missed limits w u p (own_part t) agreed may)) (few t inside)
few_kept limits w (Look u) agreed few may t inside = subst (λ z. length z ≤ limits.k) (sym (content_looked limits w u (own_part t) agreed may)) (few t inside)
few_kept limits w (Mark u key) agreed few may t inside = subst (λ z. length z ≤ limits.k) (sym (content_marked limits w u key (own_part t) agreed may)) (few t inside)
few_kept limits w (See u v) agreed few may t inside = subst (λ z. length z ≤ limits.k) (sym (content_seen limits w u v (own_part t) agreed may)) (few t inside)
