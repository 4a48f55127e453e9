-- Each legal step of a lawful world keeps contents in order, and so does each schedule.
use Rattle.std.proofs.Common.{◌≡◌, inl, inr, ℕ, ◌<◌, ◌≤◌, true, false, eqb, cond, List, [], ◌∷◌, ◌++◌, length, take, Option, Some, None, unwrap_or, refl, sym, ap, ◌∙◌, subst, arith}
use Rattle.std.specs.List.{slice_get}
use Rattle.std.proofs.lemmas.Bool.{cases_eq}
use Rattle.std.proofs.lemmas.Option.{none-some}
use Rattle.klsm_run.specs.declared.item.Item.{Item}
use Rattle.klsm_run.specs.ItemOrder.{is_same}
use Rattle.klsm_run.specs.Content.{sorted, without, IsAscending}
use Rattle.klsm_run.proofs.ContentLemmas.{sorted_itself}
use Rattle.klsm_run.proofs.RankLemmas.{count_sorted}
use Rattle.klsm_run.proofs.SortedLemmas.{ascending_placed, sorted_ascending}
use Rattle.klsm_run.proofs.WithoutLemmas.{has_or_new, sorted_without}
use Rattle.klsm_parts.specs.Events.{times, plus, minus, own_after_put, own_after_flush, shared_after_flush, own_after_take, shared_after_take, own_after_early, own_after_spy, victim_after_spy, own_after_refill, shared_after_refill}
use Rattle.klsm_parts.specs.Stealing.{own_after_steal, victim_after_steal}
use Rattle.klsm_parts.specs.Sharing.{own_after_share, shared_after_share}
use Rattle.klsm_schedules.specs.declared.step.Event.{Event}
use Rattle.klsm_schedules.specs.declared.step.Event.TheVariants.{Put, Flush, Take, Early, Nothing, Spy, Refill, Steal, Share}
use Rattle.klsm_schedules.specs.declared.step.Step.{Step}
use Rattle.klsm_schedules.specs.declared.step.Step.TheVariants.{Acquire, Commit, Release, Miss, Look, Mark, See}
use Rattle.klsm_schedules.specs.declared.step.Entry.{Entry}
use Rattle.klsm_schedules.specs.declared.step.Entry.TheVariants.{Acquired, Committed, Released, Missed, Looked, Marked, Saw}
use Rattle.klsm_schedules.specs.OwnSteps.{Hand, Holds, found_in, content_in, changed, after_event, own_part, shared_part, inserted, work_of}
use Rattle.klsm_schedules.specs.LegalSteps.{MayCommit}
use Rattle.klsm_schedules.specs.Worlds.{Limits, World, home_of, holder_of, steps_of, hand_in, content_of}
use Rattle.klsm_schedules.specs.LawfulWorlds.{AreAgreed, IsLawful}
use Rattle.klsm_schedules.specs.Schedules.{MayStep, noted, next, Leads}
use Rattle.klsm_schedules.specs.OrderLaws.{IsInOrder, StepsKeepOrder, ContentsAscend, HandsAscend, FoundAscends, FirstAreLeast}
use Rattle.klsm_schedules.proofs.lemmas.counts.EventCountLemmas.{times_more, times_has, times_itself}
use Rattle.klsm_schedules.proofs.lemmas.hands.AgreeLemmas.{no_steps}
use Rattle.klsm_schedules.proofs.lemmas.hands.HandLemmas.{found_elsewhere, held_changed, held_after_event}
use Rattle.klsm_schedules.proofs.lemmas.hands.NotedLemmas.{steps_noted, steps_else}
use Rattle.klsm_schedules.proofs.lemmas.hands.PartContentLemmas.{content_held, content_acquired, content_released, content_missed, content_looked, content_marked, content_seen, content_not_held, content_committed}
use Rattle.klsm_schedules.proofs.lemmas.lawful.FirstLemmas.{empty_first}
use Rattle.klsm_schedules.proofs.lemmas.lawful.LawfulLemmas.{lawful_kept}
use Rattle.klsm_schedules.proofs.lemmas.lawful.LegalLemmas.{earlier_or_last, found_at_home}
use Rattle.klsm_schedules.proofs.lemmas.theorems.LiveOnceLemmas.{content_is_once}
use Rattle.klsm_schedules.proofs.lemmas.theorems.RunLemmas.{schedules_keep_lawful}

-- a content is its own sorted list; it may have an item twice
abbrev IsSortedContent : List Item → Type 0
IsSortedContent c = sorted c ≡ c

-- it is so without some of its items
sorted_minus : (leaving c : List Item) → IsSortedContent c → IsSortedContent (minus c leaving)
sorted_minus [] c up = up
sorted_minus (x ∷ leaving) c up = sorted_minus leaving (without x c) (sorted_without x c ∙ ap (without x) up)

-- and what a deletion leaves of the shared part is
shared_taken : (x : Item) (own shared : List Item) → IsSortedContent shared → IsSortedContent (shared_after_take own shared x)
shared_taken x own shared up = elim (eqb (times x own) 0) as (λ b. sorted (cond b (without x shared) shared) ≡ cond b (without x shared) shared) [
  | true ↦ sorted_minus (x ∷ []) shared up
  | false ↦ up
]

-- all that a hand has is sorted
abbrev HasSorted : Hand → Type 0
HasSorted hand = (p : ℕ) (c : List Item) → Holds hand p c → IsSortedContent c

content_sorted : (hand : Hand) (p : ℕ) → HasSorted hand → IsSortedContent (content_in hand p)
content_sorted hand p all = by_found (found_in hand p) refl
  where
    by_found : (o : Option (List Item)) → found_in hand p ≡ o → IsSortedContent (content_in hand p)
    by_found None absent = subst (λ (z : Option (List Item)). IsSortedContent (unwrap_or z [])) (sym absent) refl
    by_found (Some c) found = subst (λ (z : Option (List Item)). IsSortedContent (unwrap_or z [])) (sym found) (all p c found)

changed_sorted : (hand : Hand) (p : ℕ) (d : List Item) → HasSorted hand → IsSortedContent d → HasSorted (changed hand p d)
changed_sorted hand p d all new q c found = elim (cases_eq q p) [
  | inl same ↦
      let here : Holds (changed hand p d) p c = subst (λ z. Holds (changed hand p d) z c) same found in
      subst IsSortedContent (held_changed hand p d c here) new
  | inr other ↦ all q c (sym (found_elsewhere hand p q d other) ∙ found)
]

two_sorted : (hand : Hand) (p q : ℕ) (d e : List Item) → HasSorted hand → IsSortedContent d → IsSortedContent e → HasSorted (changed (changed hand p d) q e)
two_sorted hand p q d e all first second = changed_sorted (changed hand p d) q e (changed_sorted hand p d all first) second

-- an event that a thread may commit leaves sorted what it leaves in the hand
sorted_after_event : (k t n : ℕ) (hand : Hand) (event : Event) → MayCommit k t hand n event → HasSorted hand → HasSorted (after_event t hand event)
sorted_after_event k t n hand (Put x) may all =
    let own = content_in hand (own_part t) in
    changed_sorted hand (own_part t) (own_after_put own x) all (sorted_itself ((x ∷ []) ++ own))
sorted_after_event k t n hand (Flush x moved) may all =
    let own = content_in hand (own_part t) in
    let shared = content_in hand shared_part in
    two_sorted hand (own_part t) shared_part (own_after_flush own x moved) (shared_after_flush shared moved) all
    (sorted_minus moved (plus own (x ∷ [])) (sorted_itself ((x ∷ []) ++ own))) (sorted_itself (moved ++ shared))
sorted_after_event k t n hand (Take x) may all =
    let own = content_in hand (own_part t) in
    let shared = content_in hand shared_part in
    two_sorted hand (own_part t) shared_part (own_after_take own x) (shared_after_take own shared x) all
    (sorted_minus (x ∷ []) own (content_sorted hand (own_part t) all)) (shared_taken x own shared (content_sorted hand shared_part all))
sorted_after_event k t n hand (Early x front) may all =
    let own = content_in hand (own_part t) in
    changed_sorted hand (own_part t) (own_after_early own x) all (sorted_minus (x ∷ []) own (content_sorted hand (own_part t) all))
sorted_after_event k t n hand Nothing may all = all
sorted_after_event k t n hand (Spy victim moved) may all =
    let theirs = content_in hand (own_part victim) in
    two_sorted hand (own_part t) (own_part victim) (own_after_spy moved) (victim_after_spy theirs moved) all
    (sorted_ascending moved may.held.fits.ascending) (sorted_minus moved theirs (content_sorted hand (own_part victim) all))
sorted_after_event k t n hand (Refill moved) may all =
    let own = content_in hand (own_part t) in
    let shared = content_in hand shared_part in
    two_sorted hand (own_part t) shared_part (own_after_refill own moved) (shared_after_refill shared moved) all
    (sorted_itself (moved ++ own)) (sorted_minus moved shared (content_sorted hand shared_part all))
sorted_after_event k t n hand (Steal victim moved) may all =
    let own = content_in hand (own_part t) in
    let theirs = content_in hand (own_part victim) in
    two_sorted hand (own_part t) (own_part victim) (own_after_steal own moved) (victim_after_steal theirs moved) all
    (sorted_itself (moved ++ own)) (sorted_minus moved theirs (content_sorted hand (own_part victim) all))
sorted_after_event k t n hand (Share moved) may all =
    let own = content_in hand (own_part t) in
    let shared = content_in hand shared_part in
    two_sorted hand (own_part t) shared_part (own_after_share own moved) (shared_after_share shared moved) all
    (sorted_minus moved own (content_sorted hand (own_part t) all)) (sorted_itself (moved ++ shared))

-- the contents of a world are sorted
abbrev AreSorted : Limits → World → Type 0
AreSorted limits w = (p : ℕ) → p ≤ limits.threads → IsSortedContent (content_of w p)

sorted_in_hand : (limits : Limits) (w : World) (t : ℕ) → AreAgreed limits w → AreSorted limits w → t < limits.threads → HasSorted (hand_in w t)
sorted_in_hand limits w t agreed all inside p c has =
    let name = agreed.named t p c inside has in
    subst IsSortedContent (content_held limits w t p c agreed inside has) (all p name.0)

sorted_committed : (limits : Limits) (w : World) (t : ℕ) (event : Event) → AreAgreed limits w → AreSorted limits w → MayStep limits w (Commit t event)
    → (p : ℕ) → p ≤ limits.threads → (o : Option (List Item)) → found_in (hand_in w t) p ≡ o → IsSortedContent (content_of (next w (Commit t event)) p)
sorted_committed limits w t event agreed all may p within None absent =
    subst IsSortedContent (sym (content_not_held limits w t event p agreed may.thread absent)) (all p within)
sorted_committed limits w t event agreed all may p within (Some c) has =
    let hand = hand_in w t in
    let later = held_after_event t hand event p c has in
    let up = sorted_after_event limits.k t (length (inserted (steps_of w t))) hand event may.commit (sorted_in_hand limits w t agreed all may.thread) p later.0 later.1 in
    let is : content_of (next w (Commit t event)) p ≡ later.0 = content_committed limits w t event p c agreed may.thread has ∙ ap (λ o. unwrap_or o []) later.1 in
    subst IsSortedContent (sym is) up

-- a legal step keeps them so
sorted_kept : (limits : Limits) (w : World) (step : Step) → AreAgreed limits w → AreSorted limits w → MayStep limits w step → AreSorted limits (next w step)
sorted_kept limits w (Acquire t q) agreed all may p within = subst IsSortedContent (sym (content_acquired limits w t q p agreed may)) (all p within)
sorted_kept limits w (Commit t event) agreed all may p within = sorted_committed limits w t event agreed all may p within (found_in (hand_in w t) p) refl
sorted_kept limits w (Release t q) agreed all may p within = subst IsSortedContent (sym (content_released limits w t q p agreed may)) (all p within)
sorted_kept limits w (Miss t q) agreed all may p within = subst IsSortedContent (sym (content_missed limits w t q p agreed may)) (all p within)
sorted_kept limits w (Look t) agreed all may p within = subst IsSortedContent (sym (content_looked limits w t p agreed may)) (all p within)
sorted_kept limits w (Mark t key) agreed all may p within = subst IsSortedContent (sym (content_marked limits w t key p agreed may)) (all p within)
sorted_kept limits w (See t u) agreed all may p within = subst IsSortedContent (sym (content_seen limits w t u p agreed may)) (all p within)

-- a content that has no item twice ascends where it is sorted
once_ascends : (c : List Item) → ((x : Item) → times x c ≤ 1) → IsAscending (sorted c)
once_ascends [] once = tt
once_ascends (y ∷ c) once =
    let up : IsAscending (sorted c) = once_ascends c (λ x. omega (arith, once x, times_more x y c)) in
    elim (has_or_new y (sorted c)) [
      | inl has ↦
          let more : 0 < times y c = subst (λ n. 0 < n) (count_sorted (is_same y) c) (times_has y (sorted c) has) in
          absurd (omega (arith, once y, times_more y y c, times_itself y, more))
      | inr new ↦ ascending_placed y (sorted c) up new
    ]

ascends_if_sorted : (limits : Limits) (w : World) → IsLawful limits w → AreSorted limits w → IsInOrder limits w
ascends_if_sorted limits w lawful all p within =
    subst IsAscending (all p within) (once_ascends (content_of w p) (λ x. content_is_once limits w p x lawful within))

pub steps_keep_order : StepsKeepOrder
steps_keep_order limits w step lawful up may =
    ascends_if_sorted limits (next w step) (lawful_kept limits w step lawful may)
    (sorted_kept limits w step lawful.agreed (λ p within. sorted_ascending (content_of w p) (up p within)) may)

pub contents_ascend : ContentsAscend
contents_ascend limits [] w leads p within =
    subst (λ (z : World). IsAscending (content_of z p)) (sym leads) (subst IsAscending (sym (empty_first limits p within)) tt)
contents_ascend limits (step ∷ before) w leads p within =
    let v = leads.before in
    subst (λ (z : World). IsAscending (content_of z p)) (sym leads.after)
    (steps_keep_order limits v step (schedules_keep_lawful limits before v leads.led) (contents_ascend limits before v leads.led) leads.legal p within)

pub hands_ascend : HandsAscend
hands_ascend limits steps w t p c leads inside has =
    let agreed : AreAgreed limits w = (schedules_keep_lawful limits steps w leads).agreed in
    subst IsAscending (content_held limits w t p c agreed inside has) (contents_ascend limits steps w leads p (agreed.named t p c inside has).0)

-- what an entry found ascends
abbrev FindsAscending : Entry → Type 0
FindsAscending (Acquired p found) = IsAscending found
FindsAscending (Committed event) = Unit {0}
FindsAscending (Released p) = Unit {0}
FindsAscending (Missed p by) = Unit {0}
FindsAscending (Looked front) = Unit {0}
FindsAscending (Marked key) = Unit {0}
FindsAscending (Saw u key) = Unit {0}

-- so it is of each entry of a list
abbrev AllFindAscending : List Entry → Type 0
AllFindAscending own = (i : ℕ) (entry : Entry) → slice_get own i ≡ Some entry → FindsAscending entry

finds_more : (own : List Entry) (last : Entry) → AllFindAscending own → FindsAscending last → AllFindAscending (own ++ last ∷ [])
finds_more own last all new i entry found = elim (earlier_or_last own last i entry found) [
  | inl earlier ↦ all i entry earlier.0
  | inr latest ↦ subst FindsAscending latest.0 new
]

finds_noted : (v w : World) (u t : ℕ) (entry : Entry) → u < length v.lists → w.lists ≡ noted v u entry → FindsAscending entry → AllFindAscending (steps_of v t) → AllFindAscending (steps_of w t)
finds_noted v w u t entry inside lists new old = elim (cases_eq t u) [
  | inl this ↦
      let is : steps_of w t ≡ steps_of v t ++ entry ∷ [] = subst (λ z. steps_of w z ≡ steps_of v z ++ entry ∷ []) (sym this) (steps_noted v w u entry inside lists) in
      subst AllFindAscending (sym is) (finds_more (steps_of v t) entry old new)
  | inr other ↦ subst AllFindAscending (sym (steps_else v w u t entry other lists)) old
]

all_found_ascend : (limits : Limits) (steps : List Step) (w : World) (t : ℕ) → Leads limits steps w → AllFindAscending (steps_of w t)
all_found_ascend limits [] w t leads =
    let is : steps_of w t ≡ [] = ap (λ (z : World). steps_of z t) leads ∙ no_steps limits t in
    subst AllFindAscending (sym is) (λ i entry found. absurd (none-some entry found))
all_found_ascend limits (step ∷ before) w t leads =
    subst (λ (z : World). AllFindAscending (steps_of z t)) (sym leads.after) (by_step step leads.legal (all_found_ascend limits before v t leads.led))
  where
    v : World
    v = leads.before

    lawful : IsLawful limits v
    lawful = schedules_keep_lawful limits before v leads.led

    by_step : (step : Step) → MayStep limits v step → AllFindAscending (steps_of v t) → AllFindAscending (steps_of (next v step) t)
    by_step (Acquire u p) may old =
        finds_noted v (next v (Acquire u p)) u t (Acquired p (unwrap_or (home_of v p) [])) (omega (arith, may.thread, lawful.agreed.lists_are)) refl
        (subst IsAscending (sym (found_at_home limits v p lawful.agreed may.part may.free)) (contents_ascend limits before v leads.led p may.part)) old
    by_step (Commit u event) may old = finds_noted v (next v (Commit u event)) u t (Committed event) (omega (arith, may.thread, lawful.agreed.lists_are)) refl tt old
    by_step (Release u p) may old = finds_noted v (next v (Release u p)) u t (Released p) (omega (arith, may.thread, lawful.agreed.lists_are)) refl tt old
    by_step (Miss u p) may old = finds_noted v (next v (Miss u p)) u t (Missed p (holder_of v p)) (omega (arith, may.thread, lawful.agreed.lists_are)) refl tt old
    by_step (Look u) may old = finds_noted v (next v (Look u)) u t (Looked v.front) (omega (arith, may.thread, lawful.agreed.lists_are)) refl tt old
    by_step (Mark u key) may old = finds_noted v (next v (Mark u key)) u t (Marked key) (omega (arith, may.thread, lawful.agreed.lists_are)) refl tt old
    by_step (See u other) may old = finds_noted v (next v (See u other)) u t (Saw other (work_of (steps_of v other))) (omega (arith, may.thread, lawful.agreed.lists_are)) refl tt old

pub found_ascends : FoundAscends
found_ascends limits steps w t i p found leads at = all_found_ascend limits steps w t leads i (Acquired p found) at

pub first_are_least : FirstAreLeast
first_are_least n c up = ap (take n) (sym (sorted_ascending c up))
