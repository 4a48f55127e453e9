-- What a thread saw of others' work, while it has their parts in hand, is so in each world with its list: nobody else can commit
-- or mark anything without its own part.
use Rattle.std.proofs.Common.{◌≡◌, ◌≢◌, inl, inr, ℕ, ◌<◌, List, [], ◌∷◌, ◌++◌, length, Option, Some, None, refl, sym, ap, ◌∙◌, subst, arith, unwrap_or}
use Rattle.std.proofs.lemmas.Bool.{cases_eq}
use Rattle.std.proofs.lemmas.Option.{none-some}
use Rattle.std.proofs.lemmas.List.Sums.{fold-append}
use Rattle.klsm_run.specs.declared.item.Item.{Item}
use Rattle.klsm_schedules.specs.declared.step.Event.{Event}
use Rattle.klsm_schedules.specs.declared.step.Event.TheVariants.{Put, Flush, Take, Early, Nothing, Spy, Refill, Steal, Share}
use Rattle.klsm_schedules.specs.declared.step.Step.{Step}
use Rattle.klsm_schedules.specs.declared.step.Step.TheVariants.{Acquire, Commit, Release, Miss, Look, Mark, See}
use Rattle.klsm_schedules.specs.declared.step.Entry.{Entry}
use Rattle.klsm_schedules.specs.declared.step.Entry.TheVariants.{Acquired, Committed, Released, Missed, Looked, Marked, Saw}
use Rattle.klsm_schedules.specs.OwnSteps.{Hand, Holds, HoldsSome, after_entry, found_in, inserted, own_part, seen_after, seen_of, work_after, work_at, work_of}
use Rattle.klsm_schedules.specs.Worlds.{Limits, World, hand_in, holder_of, home_of, steps_of}
use Rattle.klsm_schedules.specs.LawfulWorlds.{IsLawful}
use Rattle.klsm_schedules.specs.LegalSteps.{MayCommit}
use Rattle.klsm_schedules.specs.Schedules.{Leads, MayStep, next, noted}
use Rattle.klsm_schedules.specs.WorkLaws.{AreAtWork, SeenKeysHold}
use Rattle.klsm_schedules.proofs.lemmas.hands.AgreeLemmas.{no_steps}
use Rattle.klsm_schedules.proofs.lemmas.hands.HandLemmas.{found_behind, found_first}
use Rattle.klsm_schedules.proofs.lemmas.hands.NotedLemmas.{hand_else, hand_noted, steps_else, steps_noted}
use Rattle.klsm_schedules.proofs.lemmas.theorems.RunLemmas.{schedules_keep_lawful}
use Rattle.klsm_schedules.proofs.lemmas.theorems.WorkLemmas.{work_more}

seen_more : (own : List Entry) (entry : Entry) → seen_of (own ++ entry ∷ []) ≡ seen_after (seen_of own) entry
seen_more own entry = fold-append seen_after [] own (entry ∷ [])

-- a thread has another's part in hand, and this is the key that the other works at
abbrev IsSeen : World → ℕ → ℕ × ℕ → Type 0
IsSeen w t seen = HoldsSome (hand_in w t) (own_part seen.0) × (seen.1 ≡ work_of (steps_of w seen.0))

abbrev AreSeen : World → ℕ → List (ℕ × ℕ) → Type 0
AreSeen w t [] = Unit {0}
AreSeen w t (seen ∷ others) = IsSeen w t seen × AreSeen w t others

still_seen : (w v : World) (t : ℕ) (all : List (ℕ × ℕ)) → ((seen : ℕ × ℕ) → IsSeen w t seen → IsSeen v t seen) → AreSeen w t all → AreSeen v t all
still_seen w v t [] each are = tt
still_seen w v t (seen ∷ others) each are = (each seen are.0, still_seen w v t others each are.1)

-- who commits an event that changes the key that it works at has its own part in hand
moves_with_part : (k t n work : ℕ) (hand : Hand) (event : Event) → MayCommit k t hand n event → found_in hand (own_part t) ≡ None → work_at work event ≡ work
moves_with_part k t n work hand (Put x) may away = refl
moves_with_part k t n work hand (Flush x moved) may away = refl
moves_with_part k t n work hand (Take x) may away = absurd (none-some may.own (sym away ∙ may.holds_own))
moves_with_part k t n work hand (Early x front) may away = absurd (none-some may.own (sym away ∙ may.holds_own))
moves_with_part k t n work hand Nothing may away = absurd (none-some may.own (sym away ∙ may.holds_own))
moves_with_part k t n work hand (Spy victim moved) may away = refl
moves_with_part k t n work hand (Refill moved) may away = refl
moves_with_part k t n work hand (Steal victim moved) may away = refl
moves_with_part k t n work hand (Share moved) may away = refl

module _ (limits : Limits) (w : World) (lawful : IsLawful limits w) where
  -- no two threads have one part in hand
  away_of_other : (t u : ℕ) → t < limits.threads → u < limits.threads → u ≢ t → HoldsSome (hand_in w t) (own_part u) → found_in (hand_in w u) (own_part u) ≡ None
  away_of_other t u inside inside' other held = by_found (found_in (hand_in w u) (own_part u)) refl
    where
      by_found : (o : Option (List Item)) → found_in (hand_in w u) (own_part u) ≡ o → found_in (hand_in w u) (own_part u) ≡ None
      by_found None is = is
      by_found (Some c) is =
          let one = (lawful.agreed.named t (own_part u) held.content inside held.holds).1 in
          let two = (lawful.agreed.named u (own_part u) c inside' is).1 in
          absurd (other (omega (arith, one, two)))

  -- what thread t saw stays so by another thread's entry, which changes the key that this one works at only where it has its own part
  seen_by_other : (v : World) (t s : ℕ) (entry : Entry) → t < limits.threads → s < limits.threads → t ≢ s → v.lists ≡ noted w s entry
      → (found_in (hand_in w s) (own_part s) ≡ None → work_after (work_of (steps_of w s)) entry ≡ work_of (steps_of w s))
      → AreSeen w t (seen_of (steps_of w t)) → AreSeen v t (seen_of (steps_of v t))
  seen_by_other v t s entry inside inside' other lists quiet are =
      let same : steps_of v t ≡ steps_of w t = steps_else w v s t entry other lists in
      let hand : hand_in v t ≡ hand_in w t = hand_else w v s t entry other lists in
      let there : s < length w.lists = omega (arith, inside', lawful.agreed.lists_are) in
      subst (λ own. AreSeen v t (seen_of own)) (sym same) (still_seen w v t (seen_of (steps_of w t)) (λ seen is. (
        subst (λ h. HoldsSome h (own_part seen.0)) (sym hand) is.0,
        elim (cases_eq seen.0 s) [
          | inl acts ↦
              let held : HoldsSome (hand_in w t) (own_part s) = subst (λ u. HoldsSome (hand_in w t) (own_part u)) acts is.0 in
              let away = away_of_other t s inside inside' (λ e. other (sym e)) held in
              let now : work_of (steps_of v s) ≡ work_of (steps_of w s) = ap work_of (steps_noted w v s entry there lists) ∙ (work_more (steps_of w s) entry ∙ quiet away) in
              is.1 ∙ (ap (λ u. work_of (steps_of w u)) acts ∙ (sym now ∙ ap (λ u. work_of (steps_of v u)) (sym acts)))
          | inr rests ↦ is.1 ∙ ap work_of (sym (steps_else w v s seen.0 entry rests lists))
        ],
      )) are)

  -- and by an entry of its own that takes no part out of its hand and leaves the key that it works at
  seen_by_own : (v : World) (t : ℕ) (entry : Entry) (all : List (ℕ × ℕ)) → t < limits.threads → v.lists ≡ noted w t entry
      → ((q : ℕ) → HoldsSome (hand_in w t) q → HoldsSome (after_entry t (hand_in w t) entry) q) → work_after (work_of (steps_of w t)) entry ≡ work_of (steps_of w t)
      → AreSeen w t all → AreSeen v t all
  seen_by_own v t entry all inside lists grows quiet are =
      let there : t < length w.lists = omega (arith, inside, lawful.agreed.lists_are) in
      let hand : hand_in v t ≡ after_entry t (hand_in w t) entry = hand_noted w v t entry there lists in
      still_seen w v t all (λ seen is. (
        subst (λ h. HoldsSome h (own_part seen.0)) (sym hand) (grows (own_part seen.0) is.0),
        elim (cases_eq seen.0 t) [
          | inl acts ↦
              let now : work_of (steps_of v t) ≡ work_of (steps_of w t) = ap work_of (steps_noted w v t entry there lists) ∙ (work_more (steps_of w t) entry ∙ quiet) in
              is.1 ∙ (ap (λ u. work_of (steps_of w u)) acts ∙ (sym now ∙ ap (λ u. work_of (steps_of v u)) (sym acts)))
          | inr rests ↦ is.1 ∙ ap work_of (sym (steps_else w v t seen.0 entry rests lists))
        ],
      )) are

  -- so it is where the entry leaves what was seen
  seen_kept : (v : World) (t : ℕ) (entry : Entry) → t < limits.threads → v.lists ≡ noted w t entry → ((all : List (ℕ × ℕ)) → seen_after all entry ≡ all)
      → ((q : ℕ) → HoldsSome (hand_in w t) q → HoldsSome (after_entry t (hand_in w t) entry) q) → work_after (work_of (steps_of w t)) entry ≡ work_of (steps_of w t)
      → AreSeen w t (seen_of (steps_of w t)) → AreSeen v t (seen_of (steps_of v t))
  seen_kept v t entry inside lists stays grows quiet are =
      let there : t < length w.lists = omega (arith, inside, lawful.agreed.lists_are) in
      subst (AreSeen v t) (sym (ap seen_of (steps_noted w v t entry there lists) ∙ (seen_more (steps_of w t) entry ∙ stays (seen_of (steps_of w t)))))
      (seen_by_own v t entry (seen_of (steps_of w t)) inside lists grows quiet are)

  -- and where it ends it
  seen_ended : (v : World) (t : ℕ) (entry : Entry) → t < limits.threads → v.lists ≡ noted w t entry → ((all : List (ℕ × ℕ)) → seen_after all entry ≡ []) → AreSeen v t (seen_of (steps_of v t))
  seen_ended v t entry inside lists ends =
      let there : t < length w.lists = omega (arith, inside, lawful.agreed.lists_are) in
      subst (AreSeen v t) (sym (ap seen_of (steps_noted w v t entry there lists) ∙ (seen_more (steps_of w t) entry ∙ ends (seen_of (steps_of w t))))) tt

  -- a hand that a part is added to has what it had
  grown : (hand : Hand) (p : ℕ) (c : List Item) (q : ℕ) → HoldsSome hand q → HoldsSome ((p, c) ∷ hand) q
  grown hand p c q held = elim (cases_eq q p) [
    | inl same ↦ record { content = c; holds = subst (λ z. Holds ((p, c) ∷ hand) z c) (sym same) (found_first hand p c) }
    | inr other ↦ record { content = held.content; holds = found_behind hand p q c other ∙ held.holds }
  ]

  -- what each thread saw stays so by each legal step
  seen_on : (step : Step) → MayStep limits w step → (t : ℕ) → t < limits.threads → AreSeen w t (seen_of (steps_of w t)) → AreSeen (next w step) t (seen_of (steps_of (next w step) t))
  seen_on (Acquire s p) may t inside are = elim (cases_eq t s) [
    | inl acts ↦ seen_kept (next w (Acquire s p)) t (Acquired p (unwrap_or (home_of w p) [])) inside (ap (λ u. noted w u (Acquired p (unwrap_or (home_of w p) []))) (sym acts)) (λ _. refl)
        (grown (hand_in w t) p (unwrap_or (home_of w p) [])) refl are
    | inr other ↦ seen_by_other (next w (Acquire s p)) t s (Acquired p (unwrap_or (home_of w p) [])) inside may.thread other refl (λ _. refl) are
  ]
  seen_on (Commit s event) may t inside are = elim (cases_eq t s) [
    | inl acts ↦ seen_ended (next w (Commit s event)) t (Committed event) inside (ap (λ u. noted w u (Committed event)) (sym acts)) (λ _. refl)
    | inr other ↦ seen_by_other (next w (Commit s event)) t s (Committed event) inside may.thread other refl
        (λ away. moves_with_part limits.k s (length (inserted (steps_of w s))) (work_of (steps_of w s)) (hand_in w s) event may.commit away) are
  ]
  seen_on (Release s p) may t inside are = elim (cases_eq t s) [
    | inl acts ↦ seen_ended (next w (Release s p)) t (Released p) inside (ap (λ u. noted w u (Released p)) (sym acts)) (λ _. refl)
    | inr other ↦ seen_by_other (next w (Release s p)) t s (Released p) inside may.thread other refl (λ _. refl) are
  ]
  seen_on (Miss s p) may t inside are = elim (cases_eq t s) [
    | inl acts ↦ seen_kept (next w (Miss s p)) t (Missed p (holder_of w p)) inside (ap (λ u. noted w u (Missed p (holder_of w p))) (sym acts)) (λ _. refl) (λ q held. held) refl are
    | inr other ↦ seen_by_other (next w (Miss s p)) t s (Missed p (holder_of w p)) inside may.thread other refl (λ _. refl) are
  ]
  seen_on (Look s) may t inside are = elim (cases_eq t s) [
    | inl acts ↦ seen_kept (next w (Look s)) t (Looked w.front) inside (ap (λ u. noted w u (Looked w.front)) (sym acts)) (λ _. refl) (λ q held. held) refl are
    | inr other ↦ seen_by_other (next w (Look s)) t s (Looked w.front) inside may.thread other refl (λ _. refl) are
  ]
  seen_on (Mark s key) may t inside are = elim (cases_eq t s) [
    | inl acts ↦ seen_ended (next w (Mark s key)) t (Marked key) inside (ap (λ u. noted w u (Marked key)) (sym acts)) (λ _. refl)
    | inr other ↦ seen_by_other (next w (Mark s key)) t s (Marked key) inside may.thread other refl
        (λ away. absurd (none-some may.held.content (sym away ∙ may.held.holds))) are
  ]
  seen_on (See s u) may t inside are = elim (cases_eq t s) [
    | inl acts ↦
        let v = next w (See s u) in let key = work_of (steps_of w u) in
        let lists : v.lists ≡ noted w t (Saw u key) = ap (λ z. noted w z (Saw u key)) (sym acts) in
        let there : t < length w.lists = omega (arith, inside, lawful.agreed.lists_are) in
        let new : AreSeen w t ((u, key) ∷ seen_of (steps_of w t)) = ((subst (λ z. HoldsSome (hand_in w z) (own_part u)) (sym acts) may.held, refl), are) in
        subst (AreSeen v t) (sym (ap seen_of (steps_noted w v t (Saw u key) there lists) ∙ seen_more (steps_of w t) (Saw u key)))
        (seen_by_own v t (Saw u key) ((u, key) ∷ seen_of (steps_of w t)) inside lists (λ q held. held) refl new)
    | inr other ↦ seen_by_other (next w (See s u)) t s (Saw u (work_of (steps_of w u))) inside may.thread other refl (λ _. refl) are
  ]

all_seen : (limits : Limits) (steps : List Step) (w : World) (t : ℕ) → Leads limits steps w → t < limits.threads → AreSeen w t (seen_of (steps_of w t))
all_seen limits [] w t leads inside =
    subst (λ own. AreSeen w t (seen_of own)) (sym (ap (λ (z : World). steps_of z t) leads ∙ no_steps limits t)) tt
all_seen limits (step ∷ before) w t leads inside =
    subst (λ (z : World). AreSeen z t (seen_of (steps_of z t))) (sym leads.after)
    (seen_on limits leads.before (schedules_keep_lawful limits before leads.before leads.led) step leads.legal t inside (all_seen limits before leads.before t leads.led inside))

at_work : (w : World) (t : ℕ) (all : List (ℕ × ℕ)) → AreSeen w t all → AreAtWork w all
at_work w t [] are = tt
at_work w t (seen ∷ others) are = (are.0.1, at_work w t others are.1)

pub seen_keys_hold : SeenKeysHold
seen_keys_hold limits steps w t leads inside = at_work w t (seen_of (steps_of w t)) (all_seen limits steps w t leads inside)
