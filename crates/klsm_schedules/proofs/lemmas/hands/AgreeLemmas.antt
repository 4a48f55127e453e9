-- Each legal step keeps words, homes and hands in agreement.
use Rattle.std.proofs.Common.{ℕ, zero, suc, ◌≡◌, ◌≢◌, ◌+◌, ◌<◌, ◌≤◌, List, [], length, get_or, replicate, Option, Some, None, unwrap_or, refl, sym, ap, ◌∙◌, subst, inl, inr, arith}
use Rattle.std.proofs.lemmas.Bool.{cases_eq}
use Rattle.std.proofs.lemmas.Option.{none-some}
use Rattle.std.proofs.lemmas.List.{length-set, length-replicate, get_or-replicate, get_or-set_same, get_or-set_other}
use Rattle.klsm_run.specs.declared.item.Item.{Item}
use Rattle.klsm_schedules.specs.declared.step.Step.{Step}
use Rattle.klsm_schedules.specs.declared.step.Step.TheVariants.{Acquire, Commit, Release, Miss, Look, Mark, See}
use Rattle.klsm_schedules.specs.declared.step.Entry.{Entry}
use Rattle.klsm_schedules.specs.declared.step.Entry.TheVariants.{Acquired, Committed, Released, Missed, Looked, Marked, Saw}
use Rattle.klsm_schedules.specs.OwnSteps.{Holds, found_in, content_in, after_entry, hand_of, work_of}
use Rattle.klsm_schedules.specs.Worlds.{Limits, World, word_of, home_of, holder_of, steps_of, hand_in, content_of, first_world}
use Rattle.klsm_schedules.specs.Schedules.{MayStep, noted, next}
use Rattle.klsm_schedules.specs.LawfulWorlds.{AreAgreed}
use Rattle.klsm_schedules.proofs.lemmas.hands.HandLemmas.{found_first, found_behind, without_part_not_found, without_part_elsewhere, held_before_event, held_after_event}
use Rattle.klsm_schedules.proofs.lemmas.hands.NotedLemmas.{length_noted, hand_noted, hand_else}

module _ (T : ℕ) where
  -- a part that is not at home, but in the hand of the thread that its word names
  record IsAway (word : ℕ → ℕ) (home : ℕ → Option (List Item)) (look : ℕ → ℕ → Option (List Item)) (p : ℕ) : Type 0 where
    pub by : ℕ
    pub thread : by < T
    pub named : word p ≡ by + 1
    pub away : home p ≡ None
    pub held : (c : List Item) × (look by p ≡ Some c)

  -- agreement of words, homes and what hands have, given as functions
  record Fit (word : ℕ → ℕ) (home : ℕ → Option (List Item)) (look : ℕ → ℕ → Option (List Item)) : Type 0 where
    pub free : (p : ℕ) → p ≤ T → word p ≡ 0 → (c : List Item) × (home p ≡ Some c)
    pub held : (p : ℕ) → p ≤ T → word p ≢ 0 → IsAway word home look p
    pub named : (t p : ℕ) (c : List Item) → t < T → look t p ≡ Some c → (p ≤ T) × (word p ≡ t + 1)

  module _ (word word' : ℕ → ℕ) (home home' : ℕ → Option (List Item)) (look look' : ℕ → ℕ → Option (List Item)) (old : Fit word home look) where
    -- where no part moved
    same_fit : ((p : ℕ) → word' p ≡ word p) → ((p : ℕ) → home' p ≡ home p)
        → ((t p : ℕ) (c : List Item) → look' t p ≡ Some c → (d : List Item) × (look t p ≡ Some d))
        → ((t p : ℕ) (c : List Item) → t < T → look t p ≡ Some c → (d : List Item) × (look' t p ≡ Some d))
        → Fit word' home' look'
    same_fit words homes back there = record {
      free = λ p at_most zeros. let o = old.free p at_most (sym (words p) ∙ zeros) in (o.0, homes p ∙ o.1);
      held = λ p at_most taken.
          let o = old.held p at_most (λ zeros. taken (words p ∙ zeros)) in
          record { by = o.by; thread = o.thread; named = words p ∙ o.named; away = homes p ∙ o.away; held = there o.by p o.held.0 o.thread o.held.1 };
      named = λ t p c less found.
          let b = back t p c found in
          let o = old.named t p b.0 less b.1 in
          (o.0, words p ∙ o.1);
    }

    -- where one part moved
    module _ (t p : ℕ) (less : t < T) (at_most : p ≤ T)
        (words : (q : ℕ) → q ≢ p → word' q ≡ word q) (homes : (q : ℕ) → q ≢ p → home' q ≡ home q)
        (looks : (u q : ℕ) → q ≢ p → look' u q ≡ look u q) (others : (u : ℕ) → u ≢ t → look' u p ≡ look u p)
      where
        -- another part is away as it was
        still_away : (q : ℕ) → q ≢ p → IsAway word home look q → IsAway word' home' look' q
        still_away q other o = record {
          by = o.by;
          thread = o.thread;
          named = words q other ∙ o.named;
          away = homes q other ∙ o.away;
          held = (o.held.0, looks o.by q other ∙ o.held.1);
        }

        -- thread t acquired it
        acquire_fit : word p ≡ 0 → word' p ≡ t + 1 → home' p ≡ None → (c : List Item) → look' t p ≡ Some c → Fit word' home' look'
        acquire_fit was now away c mine = record {
          free = λ q within zeros. elim (cases_eq q p) [
            | inl same ↦ let bad : t + 1 ≡ 0 = sym now ∙ (ap word' (sym same) ∙ zeros) in absurd (omega (arith, bad))
            | inr other ↦ let o = old.free q within (sym (words q other) ∙ zeros) in (o.0, homes q other ∙ o.1)
          ];
          held = λ q within taken. elim (cases_eq q p) [
            | inl same ↦ record { by = t; thread = less; named = ap word' same ∙ now; away = ap home' same ∙ away; held = (c, ap (look' t) same ∙ mine) }
            | inr other ↦
                let o = old.held q within (λ zeros. taken (words q other ∙ zeros)) in
                still_away q other o
          ];
          named = λ u q d within found. elim (cases_eq q p) [
            | inl same ↦ elim (cases_eq u t) [
              | inl this ↦ (subst (λ z. z ≤ T) (sym same) at_most, ap word' same ∙ (now ∙ ap (λ z. z + 1) (sym this)))
              | inr that ↦
                  let o = old.named u p d within (sym (others u that) ∙ (ap (look' u) (sym same) ∙ found)) in
                  let bad : 0 ≡ u + 1 = sym was ∙ o.1 in
                  absurd (omega (arith, bad))
            ]
            | inr other ↦ let o = old.named u q d within (sym (looks u q other) ∙ found) in (o.0, words q other ∙ o.1)
          ];
        }

        -- thread t released it
        release_fit : (c d : List Item) → look t p ≡ Some c → word' p ≡ 0 → home' p ≡ Some d → look' t p ≡ None → Fit word' home' look'
        release_fit c d had now back gone = record {
          free = λ q within zeros. elim (cases_eq q p) [
            | inl same ↦ (d, ap home' same ∙ back)
            | inr other ↦ let o = old.free q within (sym (words q other) ∙ zeros) in (o.0, homes q other ∙ o.1)
          ];
          held = λ q within taken. elim (cases_eq q p) [
            | inl same ↦ absurd (taken (ap word' same ∙ now))
            | inr other ↦
                let o = old.held q within (λ zeros. taken (words q other ∙ zeros)) in
                still_away q other o
          ];
          named = λ u q x within found. elim (cases_eq q p) [
            | inl same ↦ elim (cases_eq u t) [
              | inl this ↦ absurd (none-some x (sym gone ∙ (ap (look' t) (sym same) ∙ (ap (λ z. look' z q) (sym this) ∙ found))))
              | inr that ↦
                  let o = old.named u p x within (sym (others u that) ∙ (ap (look' u) (sym same) ∙ found)) in
                  let mine = old.named t p c less had in
                  let both : u + 1 ≡ t + 1 = sym o.1 ∙ mine.1 in
                  let one : u ≡ t = omega (arith, both) in
                  absurd (that one)
            ]
            | inr other ↦ let o = old.named u q x within (sym (looks u q other) ∙ found) in (o.0, words q other ∙ o.1)
          ];
        }

-- what thread u's hand has of a part
abbrev look_in : World → ℕ → ℕ → Option (List Item)
look_in w u q = found_in (hand_in w u) q

abbrev IsFit : Limits → World → Type 0
IsFit limits w = Fit limits.threads (word_of w) (home_of w) (look_in w)

fit_of : (limits : Limits) (w : World) → AreAgreed limits w → IsFit limits w
fit_of limits w agreed = record {
  free = agreed.free;
  held = λ p within taken.
      let at = agreed.held p within taken in
      record { by = at.by; thread = at.thread; named = at.word; away = at.away; held = (at.held.content, at.held.holds) };
  named = agreed.named;
}

agreed_of : (limits : Limits) (w : World) → length w.words ≡ limits.threads + 1 → length w.homes ≡ limits.threads + 1 → length w.lists ≡ limits.threads
    → IsFit limits w → AreAgreed limits w
agreed_of limits w words homes lists fit = record {
  words_are = words;
  homes_are = homes;
  lists_are = lists;
  free = fit.free;
  held = λ p within taken.
      let at = fit.held p within taken in
      record { by = at.by; thread = at.thread; word = at.named; away = at.away; held = record { content = at.held.0; holds = at.held.1 } };
  named = fit.named;
}

-- what hands have of a part of which the step leaves as much as the thread's hand had
look_same : (w v : World) (t : ℕ) (entry : Entry) (q : ℕ) → t < length w.lists → v.lists ≡ noted w t entry
    → found_in (after_entry t (hand_in w t) entry) q ≡ found_in (hand_in w t) q → (u : ℕ) → look_in v u q ≡ look_in w u q
look_same w v t entry q within lists same u = elim (cases_eq u t) [
  | inl this ↦ subst (λ z. look_in v z q ≡ look_in w z q) (sym this) (ap (λ h. found_in h q) (hand_noted w v t entry within lists) ∙ same)
  | inr other ↦ ap (λ h. found_in h q) (hand_else w v t u entry other lists)
]

-- a step that moves no part
stays : (limits : Limits) (w v : World) (t : ℕ) (entry : Entry) → AreAgreed limits w → t < limits.threads
    → v.words ≡ w.words → v.homes ≡ w.homes → v.lists ≡ noted w t entry
    → ((q : ℕ) (c : List Item) → Holds (after_entry t (hand_in w t) entry) q c → (d : List Item) × Holds (hand_in w t) q d)
    → ((q : ℕ) (c : List Item) → Holds (hand_in w t) q c → (d : List Item) × Holds (after_entry t (hand_in w t) entry) q d)
    → AreAgreed limits v
stays limits w v t entry agreed less words homes lists back there =
    let within : t < length w.lists = omega (arith, agreed.lists_are, less) in
    let mine : hand_in v t ≡ after_entry t (hand_in w t) entry = hand_noted w v t entry within lists in
    agreed_of limits v (ap length words ∙ agreed.words_are) (ap length homes ∙ agreed.homes_are) (ap length lists ∙ (length_noted w t entry ∙ agreed.lists_are))
    (same_fit limits.threads (word_of w) (word_of v) (home_of w) (home_of v) (look_in w) (look_in v) (fit_of limits w agreed)
    (λ p. ap (λ z. get_or z p 0) words)
    (λ p. ap (λ z. get_or z p None) homes)
    (λ u q c found. elim (cases_eq u t) [
      | inl this ↦ subst (λ z. Holds (hand_in v z) q c → (d : List Item) × Holds (hand_in w z) q d) (sym this)
          (λ here. back q c (ap (λ h. found_in h q) (sym mine) ∙ here)) found
      | inr other ↦ (c, ap (λ h. found_in h q) (sym (hand_else w v t u entry other lists)) ∙ found)
    ])
    (λ u q c _ found. elim (cases_eq u t) [
      | inl this ↦ subst (λ z. Holds (hand_in w z) q c → (d : List Item) × Holds (hand_in v z) q d) (sym this)
          (λ here. let after = there q c here in (after.0, ap (λ h. found_in h q) mine ∙ after.1)) found
      | inr other ↦ (c, ap (λ h. found_in h q) (hand_else w v t u entry other lists) ∙ found)
    ]))

-- a legal step leads from a world in agreement to one in agreement
pub agreed_kept : (limits : Limits) (w : World) (step : Step) → AreAgreed limits w → MayStep limits w step → AreAgreed limits (next w step)
agreed_kept limits w (Acquire t p) agreed may =
    let v : World = next w (Acquire t p) in
    let found : List Item = unwrap_or (home_of w p) [] in
    let entry : Entry = Acquired p found in
    let within : t < length w.lists = omega (arith, agreed.lists_are, may.thread) in
    let word_within : p < length w.words = omega (arith, agreed.words_are, may.part) in
    let home_within : p < length w.homes = omega (arith, agreed.homes_are, may.part) in
    agreed_of limits v (length-set w.words p (t + 1) ∙ agreed.words_are) (length-set w.homes p None ∙ agreed.homes_are) (length_noted w t entry ∙ agreed.lists_are)
    (acquire_fit limits.threads (word_of w) (word_of v) (home_of w) (home_of v) (look_in w) (look_in v) (fit_of limits w agreed) t p may.thread may.part
    (λ q other. get_or-set_other w.words p q (t + 1) 0 other)
    (λ q other. get_or-set_other w.homes p q None None other)
    (λ u q other. look_same w v t entry q within refl (found_behind (hand_in w t) p q found other) u)
    (λ u other. ap (λ h. found_in h p) (hand_else w v t u entry other refl))
    may.free (get_or-set_same w.words p (t + 1) 0 word_within) (get_or-set_same w.homes p None None home_within)
    found (ap (λ h. found_in h p) (hand_noted w v t entry within refl) ∙ found_first (hand_in w t) p found))
agreed_kept limits w (Commit t event) agreed may =
    stays limits w (next w (Commit t event)) t (Committed event) agreed may.thread refl refl refl
    (λ q c found. held_before_event t (hand_in w t) event q c found)
    (λ q c found. held_after_event t (hand_in w t) event q c found)
agreed_kept limits w (Release t p) agreed may =
    let v : World = next w (Release t p) in
    let c : List Item = content_in (hand_in w t) p in
    let entry : Entry = Released p in
    let at_most : p ≤ limits.threads = (agreed.named t p may.held.content may.thread may.held.holds).0 in
    let within : t < length w.lists = omega (arith, agreed.lists_are, may.thread) in
    let word_within : p < length w.words = omega (arith, agreed.words_are, at_most) in
    let home_within : p < length w.homes = omega (arith, agreed.homes_are, at_most) in
    agreed_of limits v (length-set w.words p 0 ∙ agreed.words_are) (length-set w.homes p (Some c) ∙ agreed.homes_are) (length_noted w t entry ∙ agreed.lists_are)
    (release_fit limits.threads (word_of w) (word_of v) (home_of w) (home_of v) (look_in w) (look_in v) (fit_of limits w agreed) t p may.thread at_most
    (λ q other. get_or-set_other w.words p q 0 0 other)
    (λ q other. get_or-set_other w.homes p q (Some c) None other)
    (λ u q other. look_same w v t entry q within refl (without_part_elsewhere (hand_in w t) p q other) u)
    (λ u other. ap (λ h. found_in h p) (hand_else w v t u entry other refl))
    may.held.content c may.held.holds (get_or-set_same w.words p 0 0 word_within) (get_or-set_same w.homes p (Some c) None home_within)
    (ap (λ h. found_in h p) (hand_noted w v t entry within refl) ∙ without_part_not_found (hand_in w t) p))
agreed_kept limits w (Miss t p) agreed may =
    stays limits w (next w (Miss t p)) t (Missed p (holder_of w p)) agreed may.thread refl refl refl (λ q c found. (c, found)) (λ q c found. (c, found))
agreed_kept limits w (Look t) agreed may =
    stays limits w (next w (Look t)) t (Looked w.front) agreed may.thread refl refl refl (λ q c found. (c, found)) (λ q c found. (c, found))
agreed_kept limits w (Mark t key) agreed may =
    stays limits w (next w (Mark t key)) t (Marked key) agreed may.thread refl refl refl (λ q c found. (c, found)) (λ q c found. (c, found))
agreed_kept limits w (See t u) agreed may =
    stays limits w (next w (See t u)) t (Saw u (work_of (steps_of w u))) agreed may.thread refl refl refl (λ q c found. (c, found)) (λ q c found. (c, found))

always : {X : Type 0} (n i : ℕ) (x : X) → get_or (replicate n x) i x ≡ x
always zero i x = refl
always (suc n) zero x = refl
always (suc n) (suc i) x = always n i x

-- in the first world no thread has stepped, and no thread holds a part
pub no_steps : (limits : Limits) (t : ℕ) → steps_of (first_world limits) t ≡ []
no_steps limits t = always limits.threads t []

pub nothing_held : (limits : Limits) (t p : ℕ) → found_in (hand_in (first_world limits) t) p ≡ None
nothing_held limits t p = ap (λ own. found_in (hand_of t own) p) (no_steps limits t)

-- the first world is in agreement
pub agreed_first : (limits : Limits) → AreAgreed limits (first_world limits)
agreed_first limits = record {
  words_are = length-replicate (limits.threads + 1) 0;
  homes_are = length-replicate (limits.threads + 1) (Some []);
  lists_are = length-replicate limits.threads [];
  free = λ p at_most zeros. ([], get_or-replicate (limits.threads + 1) p (Some []) None (omega (arith, at_most)));
  held = λ p at_most taken. absurd (taken (get_or-replicate (limits.threads + 1) p 0 0 (omega (arith, at_most))));
  named = λ t p c less found. absurd (none-some c (sym (nothing_held limits t p) ∙ found));
}

-- the content of a part at home
pub content_at_home : (w : World) (p : ℕ) (c : List Item) → home_of w p ≡ Some c → content_of w p ≡ c
content_at_home w p c here = ap (λ o. unwrap_or o (content_in (hand_in w (holder_of w p)) p)) here
