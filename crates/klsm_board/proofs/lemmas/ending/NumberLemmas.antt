-- The members of a board by their numbers.
use Rattle.std.proofs.Common.{◌≡◌, ◌≢◌, ℕ, zero, suc, ◌+◌, ◌<◌, ◌≤◌, List, [], ◌∷◌, length, get_or, sym, ap, subst, ◌∙◌, arith}
use mathlib.Core.Logic.{dite}
use native.Mathlib.Decide.{ℕ_discrete}
use mathlib.Core.Option.{some, some-injective, some-ne-none}
use lib.ListN.{get_elem?}
use Rattle.klsm_schedules.proofs.lemmas.hands.HandLemmas.{choice_hit, choice_miss}
use Rattle.klsm_board.proofs.lemmas.table.MakeLemmas.{found_at}
use Rattle.klsm_board.specs.declared.board.Member.{Member}
use Rattle.klsm_board.specs.Boards.{own_steps}
use Rattle.klsm_board.specs.Finishing.{HasMember, steps_among}

module _ {CAP LEVELS : ℕ} where
  -- the item of a loop is the member of its place
  pub item_at : (members : List (Member CAP LEVELS)) (n : ℕ) (member : Member CAP LEVELS) → n < length members → member ≡ get_or members n member → get_elem? members n ≡ some member
  item_at members n member within is = found_at members n member within ∙ ap some (sym is)

  -- none of the first n members has the number
  abbrev pub NoneBelow : List (Member CAP LEVELS) → ℕ → ℕ → Type 0
  NoneBelow members t n = (i : ℕ) (member : Member CAP LEVELS) → i < n
      → get_elem? members i ≡ some member → member.number ≢ t

  -- the first member with the number has the steps that are looked for
  pub first_of_number : (members : List (Member CAP LEVELS)) (t n : ℕ) (member : Member CAP LEVELS) → get_elem? members n ≡ some member → member.number ≡ t → NoneBelow members t n
      → steps_among members t ≡ own_steps member
  first_of_number [] t n member there is before = absurd (some-ne-none member (sym there))
  first_of_number (m ∷ members) t zero member there is before =
      let same : m ≡ member = some-injective m member there in
      choice_hit m.number t (own_steps m) (steps_among members t) (ap (λ (z : Member CAP LEVELS). z.number) same ∙ is) ∙ ap (λ (z : Member CAP LEVELS). own_steps z) same
  first_of_number (m ∷ members) t (suc n) member there is before =
      choice_miss m.number t (own_steps m) (steps_among members t) (before 0 m (omega arith) (λ i. some m))
      ∙ first_of_number members t n member there is (λ i z within at. before (suc i) z (omega (arith, within)) at)

  -- where no member has the number, none is found
  pub none_numbered : (members : List (Member CAP LEVELS)) (t n : ℕ) → length members ≤ n → NoneBelow members t n → HasMember members t → ⊥
  none_numbered members t n all none found = none found.0 found.1 (omega (arith, all, place_within members found.0 found.1 found.2)) found.2 found.3
    where
      place_within : (ms : List (Member CAP LEVELS)) (i : ℕ) (m : Member CAP LEVELS) → get_elem? ms i ≡ some m → i < length ms
      place_within [] i m there = absurd (some-ne-none m (sym there))
      place_within (x ∷ ms) zero m there = omega arith
      place_within (x ∷ ms) (suc i) m there = let h = place_within ms i m there in omega (arith, h)

  -- one place more has none
  pub none_more : (members : List (Member CAP LEVELS)) (t n : ℕ) (member : Member CAP LEVELS) → get_elem? members n ≡ some member → member.number ≢ t → NoneBelow members t n
      → NoneBelow members t (n + 1)
  none_more members t n member there not before i z within at = dite (ℕ_discrete i n)
      (λ here. subst (λ (x : Member CAP LEVELS). x.number ≢ t) (some-injective member z (sym there ∙ (ap (λ j. get_elem? members j) (sym here) ∙ at))) not)
      (λ other. before i z (omega (arith, within, other)) at)
