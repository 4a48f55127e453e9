-- The content of a part in a world, and what each step leaves of it.
use Rattle.std.proofs.Common.{◌≡◌, ℕ, ◌+◌, ◌-◌, ◌<◌, ◌≤◌, List, length, Option, Some, None, refl, sym, ap, ◌∙◌, subst, arith, inl, inr, unwrap_or, []}
use Rattle.std.proofs.lemmas.Bool.{cases_eq}
use Rattle.std.proofs.lemmas.List.{get_or-set_same, get_or-set_other}
use Rattle.std.proofs.lemmas.Option.{none-some}
use Rattle.klsm_run.specs.declared.item.Item.{Item}
use Rattle.klsm_schedules.specs.declared.step.Event.{Event}
use Rattle.klsm_schedules.specs.declared.step.Step.TheVariants.{Acquire, Commit, Release, Miss, Look, Mark, See}
use Rattle.klsm_schedules.specs.declared.step.Entry.{Entry}
use Rattle.klsm_schedules.specs.declared.step.Entry.TheVariants.{Acquired, Committed, Released, Missed, Looked, Marked, Saw}
use Rattle.klsm_schedules.specs.OwnSteps.{Hand, Holds, found_in, content_in, after_event, after_entry, work_of}
use Rattle.klsm_schedules.specs.Worlds.{Limits, World, word_of, home_of, hand_in, content_of, holder_of, steps_of}
use Rattle.klsm_schedules.specs.LawfulWorlds.{AreAgreed}
use Rattle.klsm_schedules.specs.Schedules.{MayStep, noted, next}
use Rattle.klsm_schedules.proofs.lemmas.hands.AgreeLemmas.{content_at_home}
use Rattle.klsm_schedules.proofs.lemmas.hands.HandLemmas.{found_first, found_behind, without_part_elsewhere, held_before_event}
use Rattle.klsm_schedules.proofs.lemmas.hands.NotedLemmas.{hand_noted, hand_else}

-- a part that is not at home, and whose word names a thread, has the content that the thread's hand says
pub content_away : (w : World) (t p : ℕ) → home_of w p ≡ None → word_of w p ≡ t + 1 → content_of w p ≡ content_in (hand_in w t) p
content_away w t p away word =
    let number : holder_of w p ≡ t = omega (arith, word) in
    ap (λ home. unwrap_or home (content_in (hand_in w (holder_of w p)) p)) away ∙ ap (λ u. content_in (hand_in w u) p) number

-- a part that a thread's hand has is not at home, and its word names the thread
pub held_away : (limits : Limits) (w : World) (t p : ℕ) (c : List Item) → AreAgreed limits w → t < limits.threads → Holds (hand_in w t) p c → (p ≤ limits.threads) × (word_of w p ≡ t + 1) × (home_of w p ≡ None)
held_away limits w t p c agreed inside has =
    let name = agreed.named t p c inside has in
    let by = agreed.held p name.0 (λ free. omega (arith, free, name.1)) in
    (name.0, name.1, by.away)

-- a part has the content that is in a hand
pub content_held : (limits : Limits) (w : World) (t p : ℕ) (c : List Item) → AreAgreed limits w → t < limits.threads → Holds (hand_in w t) p c → content_of w p ≡ c
content_held limits w t p c agreed inside has =
    let away = held_away limits w t p c agreed inside has in
    content_away w t p away.2 away.1 ∙ ap (λ o. unwrap_or o []) has

-- in two worlds a part has one content where its word, its home and what each hand has of it are the same
pub content_same : (w v : World) (p : ℕ) → word_of v p ≡ word_of w p → home_of v p ≡ home_of w p → ((u : ℕ) → found_in (hand_in v u) p ≡ found_in (hand_in w u) p) → content_of v p ≡ content_of w p
content_same w v p word home hands =
    ap (λ n. unwrap_or (home_of v p) (content_in (hand_in v (n - 1)) p)) word
    ∙ (ap (λ o. unwrap_or o (content_in (hand_in v (holder_of w p)) p)) home ∙ ap (λ o. unwrap_or (home_of w p) (unwrap_or o [])) (hands (holder_of w p)))

-- an entry that leaves a part in its thread's hand as it was leaves it so in each hand
pub found_same : (w v : World) (t : ℕ) (entry : Entry) (p : ℕ) → t < length w.lists → v.lists ≡ noted w t entry → found_in (after_entry t (hand_in w t) entry) p ≡ found_in (hand_in w t) p
    → (u : ℕ) → found_in (hand_in v u) p ≡ found_in (hand_in w u) p
found_same w v t entry p within lists same u = elim (cases_eq u t) [
  | inl here ↦ ap (λ z. found_in (hand_in v z) p) here ∙ (ap (λ hand. found_in hand p) (hand_noted w v t entry within lists) ∙ (same ∙ ap (λ z. found_in (hand_in w z) p) (sym here)))
  | inr other ↦ ap (λ hand. found_in hand p) (hand_else w v t u entry other lists)
]

-- a thread has a list
pub listed : (limits : Limits) (w : World) (t : ℕ) → AreAgreed limits w → t < limits.threads → t < length w.lists
listed limits w t agreed inside = omega (arith, inside, agreed.lists_are)

-- an acquire leaves each content as it was
pub content_acquired : (limits : Limits) (w : World) (t p q : ℕ) → AreAgreed limits w → MayStep limits w (Acquire t p) → content_of (next w (Acquire t p)) q ≡ content_of w q
content_acquired limits w t p q agreed may =
    let v = next w (Acquire t p) in
    let entry : Entry = Acquired p (unwrap_or (home_of w p) []) in
    let in_lists = listed limits w t agreed may.thread in
    elim (cases_eq q p) [
      | inl same ↦
          let at_home = agreed.free p may.part may.free in
          let word : word_of v p ≡ t + 1 = get_or-set_same w.words p (t + 1) 0 (omega (arith, may.part, agreed.words_are)) in
          let home : home_of v p ≡ None = get_or-set_same w.homes p None None (omega (arith, may.part, agreed.homes_are)) in
          let hand : content_in (hand_in v t) p ≡ unwrap_or (home_of w p) [] =
          ap (λ h. content_in h p) (hand_noted w v t entry in_lists refl) ∙ ap (λ o. unwrap_or o []) (found_first (hand_in w t) p (unwrap_or (home_of w p) [])) in
          let before : content_of w p ≡ unwrap_or (home_of w p) [] = content_at_home w p at_home.0 at_home.1 ∙ sym (ap (λ o. unwrap_or o []) at_home.1) in
          subst (λ z. content_of v z ≡ content_of w z) (sym same) (content_away v t p home word ∙ (hand ∙ sym before))
      | inr other ↦
          content_same w v q (get_or-set_other w.words p q (t + 1) 0 other) (get_or-set_other w.homes p q None None other)
          (found_same w v t entry q in_lists refl (found_behind (hand_in w t) p q (unwrap_or (home_of w p) []) other))
    ]

-- so does a release
pub content_released : (limits : Limits) (w : World) (t p q : ℕ) → AreAgreed limits w → MayStep limits w (Release t p) → content_of (next w (Release t p)) q ≡ content_of w q
content_released limits w t p q agreed may =
    let v = next w (Release t p) in
    let left = content_in (hand_in w t) p in
    let away = held_away limits w t p may.held.content agreed may.thread may.held.holds in
    elim (cases_eq q p) [
      | inl same ↦
          let home : home_of v p ≡ Some left = get_or-set_same w.homes p (Some left) None (omega (arith, away.0, agreed.homes_are)) in
          subst (λ z. content_of v z ≡ content_of w z) (sym same) (content_at_home v p left home ∙ sym (content_away w t p away.2 away.1))
      | inr other ↦
          content_same w v q (get_or-set_other w.words p q 0 0 other) (get_or-set_other w.homes p q (Some left) None other)
          (found_same w v t (Released p) q (listed limits w t agreed may.thread) refl (without_part_elsewhere (hand_in w t) p q other))
    ]

-- and a miss
pub content_missed : (limits : Limits) (w : World) (t p q : ℕ) → AreAgreed limits w → MayStep limits w (Miss t p) → content_of (next w (Miss t p)) q ≡ content_of w q
content_missed limits w t p q agreed may =
    content_same w (next w (Miss t p)) q refl refl
    (found_same w (next w (Miss t p)) t (Missed p (holder_of w p)) q (listed limits w t agreed may.thread) refl refl)

-- and a look
pub content_looked : (limits : Limits) (w : World) (t q : ℕ) → AreAgreed limits w → MayStep limits w (Look t) → content_of (next w (Look t)) q ≡ content_of w q
content_looked limits w t q agreed may =
    content_same w (next w (Look t)) q refl refl
    (found_same w (next w (Look t)) t (Looked w.front) q (listed limits w t agreed may.thread) refl refl)

-- and a mark
pub content_marked : (limits : Limits) (w : World) (t key q : ℕ) → AreAgreed limits w → MayStep limits w (Mark t key) → content_of (next w (Mark t key)) q ≡ content_of w q
content_marked limits w t key q agreed may =
    content_same w (next w (Mark t key)) q refl refl
    (found_same w (next w (Mark t key)) t (Marked key) q (listed limits w t agreed may.thread) refl refl)

-- and so does one that sees a key in work
pub content_seen : (limits : Limits) (w : World) (t u q : ℕ) → AreAgreed limits w → MayStep limits w (See t u) → content_of (next w (See t u)) q ≡ content_of w q
content_seen limits w t u q agreed may =
    content_same w (next w (See t u)) q refl refl
    (found_same w (next w (See t u)) t (Saw u (work_of (steps_of w u))) q (listed limits w t agreed may.thread) refl refl)

-- a commit leaves a content as it was where the event leaves in the hand what was there
pub content_unchanged : (limits : Limits) (w : World) (t : ℕ) (event : Event) (q : ℕ) → AreAgreed limits w → t < limits.threads → found_in (after_event t (hand_in w t) event) q ≡ found_in (hand_in w t) q
    → content_of (next w (Commit t event)) q ≡ content_of w q
content_unchanged limits w t event q agreed inside same =
    content_same w (next w (Commit t event)) q refl refl
    (found_same w (next w (Commit t event)) t (Committed event) q (listed limits w t agreed inside) refl same)

not_found_after : (t : ℕ) (hand : Hand) (event : Event) (q : ℕ) (o : Option (List Item)) → found_in (after_event t hand event) q ≡ o → found_in hand q ≡ None → found_in (after_event t hand event) q ≡ None
not_found_after t hand event q None later absent = later
not_found_after t hand event q (Some d) later absent = let before = held_before_event t hand event q d later in absurd (none-some before.0 (sym absent ∙ before.1))

-- so where the part is not in the hand
pub content_not_held : (limits : Limits) (w : World) (t : ℕ) (event : Event) (q : ℕ) → AreAgreed limits w → t < limits.threads → found_in (hand_in w t) q ≡ None → content_of (next w (Commit t event)) q ≡ content_of w q
content_not_held limits w t event q agreed inside absent =
    content_unchanged limits w t event q agreed inside
    (not_found_after t (hand_in w t) event q (found_in (after_event t (hand_in w t) event) q) refl absent ∙ sym absent)

-- a part in the hand has what the event leaves in the hand
pub content_committed : (limits : Limits) (w : World) (t : ℕ) (event : Event) (q : ℕ) (c : List Item) → AreAgreed limits w → t < limits.threads → Holds (hand_in w t) q c
    → content_of (next w (Commit t event)) q ≡ content_in (after_event t (hand_in w t) event) q
content_committed limits w t event q c agreed inside has =
    let v = next w (Commit t event) in
    let away = held_away limits w t q c agreed inside has in
    content_away v t q away.2 away.1 ∙ ap (λ hand. content_in hand q) (hand_noted w v t (Committed event) (listed limits w t agreed inside) refl)
