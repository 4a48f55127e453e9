-- The lists of all members, in the order of their numbers.
use Rattle.std.proofs.Common.{◌≡◌, ◌≢◌, ⊎_elim, ℕ, zero, suc, ◌<◌, ◌≤◌, List, [], ◌∷◌, ◌++◌, length, length-append, refl, sym, ap, subst, ◌∙◌, arith}
use Rattle.std.specs.Prelude.{All}
use Rattle.std.proofs.lemmas.Bool.{cases_lt}
use mathlib.Core.Logic.{dite}
use native.Mathlib.Decide.{ℕ_discrete}
use mathlib.Core.Option.{some, some-injective, some-ne-none}
use lib.ListN.{get_elem?}
use Rattle.klsm_schedules.specs.declared.step.Entry.{Entry}
use Rattle.klsm_board.specs.declared.board.Member.{Member}
use Rattle.klsm_board.specs.Boards.{own_steps}
use Rattle.klsm_board.specs.Finishing.{AreAll, IsLeastAbsent, HasMember, lists_of, steps_among}
use Rattle.klsm_board.proofs.lemmas.ending.JoinLemmas.{at_end, at_front}
use Rattle.klsm_board.proofs.lemmas.ending.ListLemmas.{got}
use Rattle.klsm_schedules.proofs.lemmas.hands.HandLemmas.{choice_hit, choice_miss}

-- two lists of one length are the same where what stands in one stands in the other
pub same_lists : {A : Type 0} (xs ys : List A) → length xs ≡ length ys → ((i : ℕ) (a : A) → get_elem? ys i ≡ some a → get_elem? xs i ≡ some a) → xs ≡ ys
same_lists [] [] same each = refl
same_lists [] (y ∷ ys) same each = absurd (omega (arith, same))
same_lists (x ∷ xs) [] same each = absurd (omega (arith, same))
same_lists (x ∷ xs) (y ∷ ys) same each = λ i. some-injective x y (each 0 y refl) i ∷ same_lists xs ys (omega (arith, same)) (λ j a there. each (suc j) a there) i

-- what stands in a list stands within it
pub place_within : {A : Type 0} (xs : List A) (i : ℕ) (a : A) → get_elem? xs i ≡ some a → i < length xs
place_within [] i a there = absurd (some-ne-none a (sym there))
place_within (x ∷ xs) zero a there = omega arith
place_within (x ∷ xs) (suc i) a there = let h = place_within xs i a there in omega (arith, h)

-- what holds of all of a list holds of each that stands there
pub each_of : {A : Type 0} (P : A → Type 0) (xs : List A) → All P xs → (i : ℕ) (a : A) → get_elem? xs i ≡ some a → P a
each_of P xs all i a there = subst P (got xs i a a there) (all i a (place_within xs i a there))

module _ {CAP LEVELS : ℕ} where
  -- a number that some member has is that of the member whose steps are looked for
  pub found_first : (members : List (Member CAP LEVELS)) (t : ℕ) → HasMember members t
      → (i : ℕ) × (member : Member CAP LEVELS) × (get_elem? members i ≡ some member) × (member.number ≡ t) × (steps_among members t ≡ own_steps member)
  found_first [] t found = absurd (some-ne-none found.1 (sym found.2))
  found_first (m ∷ members) t found = dite (ℕ_discrete m.number t)
      (λ here. (0, m, refl, here, choice_hit m.number t (own_steps m) (steps_among members t) here))
      (λ other. behind other (found_first members t (later found.0 found.1 found.2 found.3 other)))
    where
      later : (i : ℕ) (z : Member CAP LEVELS) → get_elem? (m ∷ members) i ≡ some z → z.number ≡ t → m.number ≢ t → HasMember members t
      later zero z there is other = absurd (other (ap (λ (x : Member CAP LEVELS). x.number) (some-injective m z there) ∙ is))
      later (suc i) z there is other = (i, z, there, is)

      behind : m.number ≢ t → (i : ℕ) × (member : Member CAP LEVELS) × (get_elem? members i ≡ some member) × (member.number ≡ t) × (steps_among members t ≡ own_steps member)
          → (i : ℕ) × (member : Member CAP LEVELS) × (get_elem? (m ∷ members) i ≡ some member) × (member.number ≡ t) × (steps_among (m ∷ members) t ≡ own_steps member)
      behind other r = (suc r.0, r.1, r.2, r.3, choice_miss m.number t (own_steps m) (steps_among members t) other ∙ r.4)

  -- so many lists there are
  pub so_many_lists : (n : ℕ) (members : List (Member CAP LEVELS)) → length (lists_of n members) ≡ n
  so_many_lists zero members = refl
  so_many_lists (suc n) members = let h = so_many_lists n members in length-append (lists_of n members) (steps_among members n ∷ []) ∙ omega (arith, h)

  -- and each stands in its place
  pub list_at : (n : ℕ) (members : List (Member CAP LEVELS)) (t : ℕ) → t < n → get_elem? (lists_of n members) t ≡ some (steps_among members t)
  list_at zero members t below = absurd (omega (arith, below))
  list_at (suc n) members t below = dite (ℕ_discrete t n)
      (λ here. ap (λ j. get_elem? (lists_of n members ++ steps_among members n ∷ []) j) (here ∙ sym (so_many_lists n members))
      ∙ (at_end (lists_of n members) (steps_among members n) [] ∙ ap (λ j. some (steps_among members j)) (sym here)))
      (λ other. at_front (lists_of n members) (steps_among members n ∷ []) t (steps_among members t) (list_at n members t (omega (arith, below, other))))

  -- lists that have the members' steps at their numbers are those
  pub are_lists : (lists : List (List Entry)) (threads : ℕ) (members : List (Member CAP LEVELS)) → length lists ≡ threads → AreAll members threads
      → ((i : ℕ) (member : Member CAP LEVELS) → get_elem? members i ≡ some member → get_elem? lists member.number ≡ some (own_steps member))
      → lists ≡ lists_of threads members
  are_lists lists threads members many all each = sym (same_lists (lists_of threads members) lists (so_many_lists threads members ∙ sym many)
      (λ t es there. let below = place_within lists t es there in let first = found_first members t (all t (omega (arith, below, many))) in
      list_at threads members t (omega (arith, below, many)) ∙ (ap some first.4 ∙ (sym (ap (λ j. get_elem? lists j) (sym first.3) ∙ each first.0 first.1 first.2) ∙ there))))

  -- there is one least number without a member
  pub least_is_one : (members : List (Member CAP LEVELS)) (threads n t : ℕ) → IsLeastAbsent members threads n → IsLeastAbsent members threads t → n ≡ t
  least_is_one members threads n t least other = dite (ℕ_discrete n t)
      (λ same. same)
      (λ differ. ⊎_elim
      (λ (below : n < t). absurd (least.1 (other.2 n below)))
      (λ (above : t ≤ n). absurd (other.1 (least.2 t (omega (arith, differ, above)))))
      (cases_lt n t))
