-- The mark of a thread and the key that it works at, by its list, and when the two are the same.
use Rattle.std.proofs.Common.{◌≡◌, ◌≢◌, ℕ, List, [], ◌∷◌, ◌++◌, sym, refl, ap, ◌∙◌}
use Rattle.std.specs.Prelude.{None}
use Rattle.std.proofs.lemmas.Option.{none-some}
use Rattle.std.specs.List.{fold}
use Rattle.std.proofs.lemmas.List.Sums.{fold-append}
use mathlib.Core.Logic.{dite}
use native.Mathlib.Decide.{ℕ_discrete}
use Rattle.klsm_run.specs.declared.item.Item.{Item}
use Rattle.klsm_schedules.specs.declared.step.Event.{Event}
use Rattle.klsm_schedules.specs.declared.step.Event.TheVariants.{Put, Flush, Take, Early, Nothing, Spy, Refill, Steal, Share}
use Rattle.klsm_schedules.specs.declared.step.Entry.{Entry}
use Rattle.klsm_schedules.specs.declared.step.Entry.TheVariants.{Acquired, Committed, Released}
use Rattle.klsm_schedules.specs.OwnSteps.{Hand, Holds, after_entry, found_in, hand_of, mark_after, mark_of, no_key, own_part, work_after, work_at, work_of}
use Rattle.klsm_schedules.specs.LegalSteps.{MayCommit}
use Rattle.klsm_schedules.proofs.lemmas.hands.HandLemmas.{found_behind, found_first, held_after_event, without_part_elsewhere}
use Rattle.klsm_schedules.proofs.lemmas.hands.NotedLemmas.{hand_of_more}
use Rattle.klsm_board.specs.Seats.{IsMarked, LeavesWork}

-- the key in work after some more entries
pub work_append : (es fs : List Entry) → work_of (es ++ fs) ≡ fold work_after (work_of es) fs
work_append es fs = fold-append work_after no_key es fs

-- both after one more entry
pub work_more : (es : List Entry) (e : Entry) → work_of (es ++ e ∷ []) ≡ work_after (work_of es) e
work_more es e = fold-append work_after no_key es (e ∷ [])

pub mark_more : (es : List Entry) (e : Entry) → mark_of (es ++ e ∷ []) ≡ mark_after (mark_of es) e
mark_more es e = fold-append mark_after no_key es (e ∷ [])

-- what is marked stays marked by an entry that leaves both
pub marked_on : (es : List Entry) (e : Entry) → ((n : ℕ) → mark_after n e ≡ n) → ((n : ℕ) → work_after n e ≡ n) → IsMarked es → IsMarked (es ++ e ∷ [])
marked_on es e marks works is = mark_more es e ∙ (marks (mark_of es) ∙ (is ∙ (sym (works (work_of es)) ∙ sym (work_more es e))))

-- an event that is no deletion and no answer of nothing leaves the key in work
pub leaves_work : (event : Event) → LeavesWork event → (n : ℕ) → work_at n event ≡ n
leaves_work (Put x) leaves n = refl
leaves_work (Flush x moved) leaves n = refl
leaves_work (Take x) leaves n = absurd leaves
leaves_work (Early x front) leaves n = absurd leaves
leaves_work Nothing leaves n = absurd leaves
leaves_work (Spy victim moved) leaves n = refl
leaves_work (Refill moved) leaves n = refl
leaves_work (Steal victim moved) leaves n = refl
leaves_work (Share moved) leaves n = refl

-- whoever commits an event has its own part in hand
pub own_held : (k t n : ℕ) (hand : Hand) (event : Event) → MayCommit k t hand n event → (c : List Item) × Holds hand (own_part t) c
own_held k t n hand (Put x) may = (may.held.own, may.held.holds_own)
own_held k t n hand (Flush x moved) may = (may.held.own, may.held.holds_own)
own_held k t n hand (Take x) may = (may.own, may.holds_own)
own_held k t n hand (Early x front) may = (may.own, may.holds_own)
own_held k t n hand Nothing may = (may.own, may.holds_own)
own_held k t n hand (Spy victim moved) may = (may.held.own, may.held.holds_own)
own_held k t n hand (Refill moved) may = (may.own, may.holds_own)
own_held k t n hand (Steal victim moved) may = (may.held.own, may.held.holds_own)
own_held k t n hand (Share moved) may = (may.own, may.holds_own)

-- and so it has behind it
pub own_held_after : (k t n : ℕ) (es : List Entry) (event : Event) → MayCommit k t (hand_of t es) n event → found_in (hand_of t (es ++ Committed event ∷ [])) (own_part t) ≡ None → ⊥
own_held_after k t n es event may away =
    let own = own_held k t n (hand_of t es) event may in
    let after = held_after_event t (hand_of t es) event (own_part t) own.0 own.1 in
    none-some after.0 (sym away ∙ (ap (λ h. found_in h (own_part t)) (hand_of_more t es (Committed event)) ∙ after.1))

-- who does not have its own part after an acquire did not have it before
pub away_before_acquire : (t p : ℕ) (c : List Item) (es : List Entry) → found_in (hand_of t (es ++ Acquired p c ∷ [])) (own_part t) ≡ None → found_in (hand_of t es) (own_part t) ≡ None
away_before_acquire t p c es away =
    let there : found_in ((p, c) ∷ hand_of t es) (own_part t) ≡ None = sym (ap (λ h. found_in h (own_part t)) (hand_of_more t es (Acquired p c))) ∙ away in
    dite (ℕ_discrete (own_part t) p)
    (λ is. absurd (none-some c (sym there ∙ (ap (λ q. found_in ((p, c) ∷ hand_of t es) q) is ∙ found_first (hand_of t es) p c))))
    (λ n. sym (found_behind (hand_of t es) p (own_part t) c n) ∙ there)

-- nor before the release of another part
pub away_before_release : (t p : ℕ) (es : List Entry) → own_part t ≢ p → found_in (hand_of t (es ++ Released p ∷ [])) (own_part t) ≡ None → found_in (hand_of t es) (own_part t) ≡ None
away_before_release t p es n away =
    sym (without_part_elsewhere (hand_of t es) p (own_part t) n) ∙ (sym (ap (λ h. found_in h (own_part t)) (hand_of_more t es (Released p))) ∙ away)

-- nor before an entry that leaves the hand as it was
pub away_before_note : (t : ℕ) (e : Entry) (es : List Entry) → ((h : Hand) → after_entry t h e ≡ h) → found_in (hand_of t (es ++ e ∷ [])) (own_part t) ≡ None → found_in (hand_of t es) (own_part t) ≡ None
away_before_note t e es leaves away =
    sym (ap (λ h. found_in h (own_part t)) (hand_of_more t es e ∙ leaves (hand_of t es))) ∙ away
