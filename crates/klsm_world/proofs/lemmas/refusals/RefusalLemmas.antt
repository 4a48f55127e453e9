-- Which parts a thread holds, by the words alone, and which it lacks.
use Rattle.std.proofs.Common.{◌≡◌, ◌≢◌, ℕ, zero, suc, ◌+◌, ◌<◌, ◌≤◌, List, [], ◌∷◌, length, get_or, refl, sym, ap, ◌∙◌, subst, inl, inr, arith, ◌⊎◌}
use Rattle.std.specs.List.{Contains}
use Rattle.std.proofs.lemmas.Bool.{cases_eq, cases_lt}
use Rattle.std.proofs.lemmas.Option.{none-some}
use Rattle.klsm_world.specs.Kept.{HoldsAll}
use Rattle.klsm_schedules.specs.LawfulWorlds.{AreAgreed}
use Rattle.klsm_schedules.specs.OwnSteps.{Holds, HoldsSome, found_in}
use Rattle.klsm_world.specs.Refusals.{LacksOne}
use Rattle.klsm_schedules.specs.Worlds.{Limits, World, word_of, hand_in, content_of}
use Rattle.klsm_schedules.proofs.lemmas.lawful.LegalLemmas.{not_held}
use Rattle.klsm_schedules.proofs.lemmas.hands.PartContentLemmas.{content_held}

none_past : (words : List ℕ) (p : ℕ) → length words ≤ p → get_or words p 0 ≡ 0
none_past [] p past = refl
none_past (word ∷ words) zero past = absurd (omega (arith, past))
none_past (word ∷ words) (suc p) past = none_past words p (omega (arith, past))

-- the thread of a step that names none that is not there
pub named_thread : (limits : Limits) (t : ℕ) (Other : Type 0) → ((limits.threads ≤ t) ⊎ Other → ⊥) → t < limits.threads
named_thread limits t Other there = elim (cases_lt t limits.threads) [
  | inl less ↦ less
  | inr past ↦ absurd (there (inl past))
]

module _ (limits : Limits) (w : World) (t : ℕ) (agreed : AreAgreed limits w) (less : t < limits.threads) where
  -- a part whose word names a thread is there
  named_part : (p : ℕ) → word_of w p ≡ t + 1 → p ≤ limits.threads
  named_part p word = elim (cases_lt p (length w.words)) [
    | inl within ↦ omega (arith, within, agreed.words_are)
    | inr past ↦ let bad : 0 ≡ t + 1 = sym (none_past w.words p past) ∙ word in absurd (omega (arith, bad))
  ]

  -- a part whose word names a thread is in the thread's hand, with its content
  pub holds_named : (p : ℕ) → word_of w p ≡ t + 1 → Holds (hand_in w t) p (content_of w p)
  holds_named p word =
      let away : word_of w p ≢ 0 = λ zeros. (let bad : 0 ≡ t + 1 = sym zeros ∙ word in omega (arith, bad)) in
      let at = agreed.held p (named_part p word) away in
      let both : t + 1 ≡ at.by + 1 = sym word ∙ at.word in
      let one : at.by ≡ t = omega (arith, both) in
      let has : Holds (hand_in w t) p at.held.content = subst (λ u. Holds (hand_in w u) p at.held.content) one at.held.holds in
      subst (Holds (hand_in w t) p) (sym (content_held limits w t p at.held.content agreed less has)) has

  -- so it holds that part, and does not lack it
  pub holds_some : (p : ℕ) → word_of w p ≡ t + 1 → HoldsSome (hand_in w t) p
  holds_some p word = record { content = content_of w p; holds = holds_named p word }

  pub lacks_none : (p : ℕ) → word_of w p ≡ t + 1 → LacksOne w t (p ∷ []) → ⊥
  lacks_none p word (q, (zero, less, same), lacks) = none-some (content_of w p) (sym (ap (found_in (hand_in w t)) same ∙ lacks) ∙ holds_named p word)
  lacks_none p word (q, (suc i, less, same), lacks) = absurd (omega (arith, less))

  -- where the thread does not hold each of some parts, it lacks one
  pub lacks_one : (parts : List ℕ) → (HoldsAll w t parts → ⊥) → LacksOne w t parts
  lacks_one [] short = absurd (short tt)
  lacks_one (p ∷ parts) short = elim (cases_eq (word_of w p) (t + 1)) [
    | inl mine ↦ let rest = lacks_one parts (λ all. short (mine, all)) in (rest.0, later rest.1, rest.2)
    | inr other ↦ (p, (0, omega arith, refl), not_held limits w t p agreed less other)
  ]
    where
      later : {q : ℕ} → Contains parts q → Contains (p ∷ parts) q
      later at = (suc at.0, omega (arith, at.1), at.2)
