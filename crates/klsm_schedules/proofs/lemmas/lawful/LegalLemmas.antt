-- Each legal step keeps every thread's list of own steps legal.
use Rattle.std.proofs.Common.{ℕ, zero, suc, ◌≡◌, ◌≢◌, ◌+◌, ◌-◌, ◌<◌, ◌≤◌, ◌⊎◌, List, [], ◌∷◌, ◌++◌, length, take, Option, Some, None, refl, sym, ap, ◌∙◌, subst, inl, inr, arith, unwrap_or}
use Rattle.std.specs.List.{slice_get}
use Rattle.std.proofs.lemmas.Bool.{cases_eq}
use Rattle.std.proofs.lemmas.Option.{none-some, same_Some}
use Rattle.klsm_run.specs.declared.item.Item.{Item}
use Rattle.klsm_schedules.specs.declared.step.Step.{Step}
use Rattle.klsm_schedules.specs.declared.step.Step.TheVariants.{Acquire, Commit, Release, Miss, Look, Mark, See}
use Rattle.klsm_schedules.specs.declared.step.Entry.{Entry}
use Rattle.klsm_schedules.specs.declared.step.Entry.TheVariants.{Acquired, Committed, Released, Missed, Looked, Marked, Saw}
use Rattle.klsm_schedules.specs.OwnSteps.{own_part, shared_part, found_in, work_of}
use Rattle.klsm_schedules.specs.LegalSteps.{MayFollow, IsLegal}
use Rattle.klsm_schedules.specs.Worlds.{Limits, World, word_of, home_of, steps_of, hand_in, content_of, first_world, holder_of}
use Rattle.klsm_schedules.specs.Schedules.{MayStep, noted, next}
use Rattle.klsm_schedules.specs.LawfulWorlds.{AreAgreed}
use Rattle.klsm_schedules.proofs.lemmas.hands.NotedLemmas.{steps_noted, steps_else}
use Rattle.klsm_schedules.proofs.lemmas.hands.AgreeLemmas.{no_steps, content_at_home}

-- an entry of a list with one more is an earlier one or the last
pub earlier_or_last : (own : List Entry) (last : Entry) (i : ℕ) (entry : Entry) → slice_get (own ++ last ∷ []) i ≡ Some entry
    → ((slice_get own i ≡ Some entry) × (take i (own ++ last ∷ []) ≡ take i own)) ⊎ ((last ≡ entry) × (take i (own ++ last ∷ []) ≡ own))
earlier_or_last [] last zero entry found = inr (same_Some last entry found, refl)
earlier_or_last [] last (suc i) entry found = absurd (none-some entry found)
earlier_or_last (first ∷ own) last zero entry found = inl (found, refl)
earlier_or_last (first ∷ own) last (suc i) entry found = elim (earlier_or_last own last i entry found) [
  | inl earlier ↦ inl (earlier.0, ap (λ (z : List Entry). first ∷ z) earlier.1)
  | inr later ↦ inr (later.0, ap (λ (z : List Entry). first ∷ z) later.1)
]

-- a legal list with an entry that may follow is legal
pub legal_more : (k t : ℕ) (own : List Entry) (last : Entry) → IsLegal k t own → MayFollow k t own last → IsLegal k t (own ++ last ∷ [])
legal_more k t own last legal may i entry found = elim (earlier_or_last own last i entry found) [
  | inl earlier ↦ subst (λ z. MayFollow k t z entry) (sym earlier.1) (legal i entry earlier.0)
  | inr later ↦ subst (λ z. MayFollow k t z entry) (sym later.1) (subst (λ z. MayFollow k t own z) later.0 may)
]

-- each thread's list is legal
abbrev pub AllLegal : Limits → World → Type 0
AllLegal limits w = (t : ℕ) → t < limits.threads → IsLegal limits.k t (steps_of w t)

-- all lists stay legal where one gains an entry that may follow
pub legal_noted : (limits : Limits) (w v : World) (t : ℕ) (entry : Entry) → t < length w.lists → v.lists ≡ noted w t entry
    → AllLegal limits w → t < limits.threads → MayFollow limits.k t (steps_of w t) entry → AllLegal limits v
legal_noted limits w v t entry within lists legal less may u less_too = elim (cases_eq u t) [
  | inl this ↦ subst (λ z. IsLegal limits.k z (steps_of v z)) (sym this)
      (subst (IsLegal limits.k t) (sym (steps_noted w v t entry within lists)) (legal_more limits.k t (steps_of w t) entry (legal t less) may))
  | inr other ↦ subst (IsLegal limits.k u) (sym (steps_else w v t u entry other lists)) (legal u less_too)
]

-- a thread does not hold a part whose word does not name it
pub not_held : (limits : Limits) (w : World) (t p : ℕ) → AreAgreed limits w → t < limits.threads → word_of w p ≢ t + 1 → found_in (hand_in w t) p ≡ None
not_held limits w t p agreed less other = by_option (found_in (hand_in w t) p) (λ c found. other (agreed.named t p c less found).1)
  where
    by_option : (o : Option (List Item)) → ((c : List Item) → o ≡ Some c → ⊥) → o ≡ None
    by_option None absent = refl
    by_option (Some c) absent = absurd (absent c refl)

-- the content found at an acquire is that of the part
pub found_at_home : (limits : Limits) (w : World) (p : ℕ) → AreAgreed limits w → p ≤ limits.threads → word_of w p ≡ 0 → unwrap_or (home_of w p) [] ≡ content_of w p
found_at_home limits w p agreed at_most zeros =
    let here = agreed.free p at_most zeros in
    ap (λ o. unwrap_or o []) here.1 ∙ sym (content_at_home w p here.0 here.1)

-- an own part found at home has at most k items
few_found : (limits : Limits) (w : World) (p : ℕ) → AreAgreed limits w → ((t : ℕ) → t < limits.threads → length (content_of w (own_part t)) ≤ limits.k)
    → p ≤ limits.threads → word_of w p ≡ 0 → p ≢ shared_part → length (unwrap_or (home_of w p) []) ≤ limits.k
few_found limits w p agreed few at_most zeros own =
    let owner : p - 1 < limits.threads = omega (arith, at_most, own) in
    let part : own_part (p - 1) ≡ p = omega (arith, own) in
    subst (λ c. length c ≤ limits.k) (sym (found_at_home limits w p agreed at_most zeros)) (subst (λ q. length (content_of w q) ≤ limits.k) part (few (p - 1) owner))

-- a legal step keeps each thread's list legal
pub legal_kept : (limits : Limits) (w : World) (step : Step) → AreAgreed limits w
    → ((t : ℕ) → t < limits.threads → IsLegal limits.k t (steps_of w t))
    → ((t : ℕ) → t < limits.threads → length (content_of w (own_part t)) ≤ limits.k)
    → MayStep limits w step → (t : ℕ) → t < limits.threads → IsLegal limits.k t (steps_of (next w step) t)
legal_kept limits w (Acquire t p) agreed legal few may =
    let zeros : word_of w p ≡ 0 = may.free in
    let other : word_of w p ≢ t + 1 = λ named. omega (arith, zeros, named) in
    legal_noted limits w (next w (Acquire t p)) t (Acquired p (unwrap_or (home_of w p) [])) (omega (arith, agreed.lists_are, may.thread)) refl legal may.thread
    (record { lacking = not_held limits w t p agreed may.thread other; few = few_found limits w p agreed few may.part zeros })
legal_kept limits w (Commit t event) agreed legal few may =
    legal_noted limits w (next w (Commit t event)) t (Committed event) (omega (arith, agreed.lists_are, may.thread)) refl legal may.thread may.commit
legal_kept limits w (Release t p) agreed legal few may =
    legal_noted limits w (next w (Release t p)) t (Released p) (omega (arith, agreed.lists_are, may.thread)) refl legal may.thread may.held
legal_kept limits w (Miss t p) agreed legal few may =
    legal_noted limits w (next w (Miss t p)) t (Missed p (holder_of w p)) (omega (arith, agreed.lists_are, may.thread)) refl legal may.thread
    (not_held limits w t p agreed may.thread may.by_another)
legal_kept limits w (Look t) agreed legal few may =
    legal_noted limits w (next w (Look t)) t (Looked w.front) (omega (arith, agreed.lists_are, may.thread)) refl legal may.thread tt
legal_kept limits w (Mark t key) agreed legal few may =
    legal_noted limits w (next w (Mark t key)) t (Marked key) (omega (arith, agreed.lists_are, may.thread)) refl legal may.thread (may.held, may.key_is)
legal_kept limits w (See t u) agreed legal few may =
    legal_noted limits w (next w (See t u)) t (Saw u (work_of (steps_of w u))) (omega (arith, agreed.lists_are, may.thread)) refl legal may.thread may.held

-- each list of the first world is legal
pub legal_first : (limits : Limits) (t : ℕ) → t < limits.threads → IsLegal limits.k t (steps_of (first_world limits) t)
legal_first limits t less = subst (IsLegal limits.k t) (sym (no_steps limits t)) (λ i entry found. absurd (none-some entry found))
