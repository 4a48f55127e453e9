-- The members of a board, in the order of their numbers.
use Rattle.std.proofs.Common.{◌≡◌, ℕ, zero, suc, ◌<◌, List, [], ◌∷◌, length, map, slice_index_or, refl, sym, ap, subst, ◌∙◌, arith}
use Rattle.std.proofs.lemmas.List.{length-map}
use Rattle.std.specs.Prelude.{All}
use mathlib.Core.Option.{some, some-injective, some-ne-none}
use lib.ListN.{get_elem?}
use Rattle.klsm_board.specs.declared.board.Board.{Board}
use Rattle.klsm_board.specs.declared.board.Member.{Member}
use Rattle.klsm_board.specs.Boards.{AreMembersOf, IsOf, own_steps}
use Rattle.klsm_board.specs.Finishing.{AreAll, IsLeastAbsent, lists_of}
use Rattle.klsm_board.proofs.lemmas.ending.EndLemmas.{are_lists, each_of}
use Rattle.klsm_board.proofs.lemmas.table.MakeLemmas.{found_at}

-- something stands at each place within a list
pub stands_within : {A : Type 0} (xs : List A) (i : ℕ) → i < length xs → (a : A) × (get_elem? xs i ≡ some a)
stands_within [] i below = absurd (omega (arith, below))
stands_within (x ∷ xs) zero below = (x, refl)
stands_within (x ∷ xs) (suc i) below = stands_within xs i (omega (arith, below))

-- and what stands in a list has its image in the mapped list
pub stands_mapped : {A B : Type 0} (f : A → B) (xs : List A) (i : ℕ) (a : A) → get_elem? xs i ≡ some a → get_elem? (map f xs) i ≡ some (f a)
stands_mapped f [] i a there = absurd (some-ne-none a (sym there))
stands_mapped f (x ∷ xs) zero a there = ap some (ap f (some-injective x a there))
stands_mapped f (x ∷ xs) (suc i) a there = stands_mapped f xs i a there

-- what stands in a mapped list is the image of what stands there
pub stands_unmapped : {A B : Type 0} (f : A → B) (xs : List A) (i : ℕ) (b : B) → get_elem? (map f xs) i ≡ some b → (a : A) × (get_elem? xs i ≡ some a) × (f a ≡ b)
stands_unmapped f [] i b there = absurd (some-ne-none b (sym there))
stands_unmapped f (x ∷ xs) zero b there = (x, refl, some-injective (f x) b there)
stands_unmapped f (x ∷ xs) (suc i) b there = stands_unmapped f xs i b there

module _ {CAP LEVELS : ℕ} (board : Board CAP LEVELS) (members : List (Member CAP LEVELS)) where
  -- some members of the board, each at its number, and as many as it has threads
  pub are_members : All (λ member. IsOf member board) members → length members ≡ board.sizes.threads
      → ((i : ℕ) (member : Member CAP LEVELS) → get_elem? members i ≡ some member → member.number ≡ i) → AreMembersOf board members
  are_members of many numbered = record { of = λ i member there. each_of (λ z. IsOf z board) members of i member there; many = many; numbered = numbered }

  module _ (are : AreMembersOf board members) where
    pub all_of_board : All (λ member. IsOf member board) members
    all_of_board k d below = are.of k (slice_index_or members k d) (found_at members k d below)

    -- each number has one of them
    pub all_there : AreAll members board.sizes.threads
    all_there t below = let one = stands_within members t (omega (arith, below, are.many)) in (t, one.0, one.1, are.numbered t one.0 one.1)

    -- so none is missing
    pub none_missing : (number : ℕ) → IsLeastAbsent members board.sizes.threads number → ⊥
    none_missing number absent = absent.1 (all_there number absent.0)

    -- and their lists by number are theirs in order
    pub lists_in_order : map own_steps members ≡ lists_of board.sizes.threads members
    lists_in_order = are_lists (map own_steps members) board.sizes.threads members (length-map members own_steps ∙ are.many) all_there
        (λ i member there. subst (λ n. get_elem? (map own_steps members) n ≡ some (own_steps member)) (sym (are.numbered i member there)) (stands_mapped own_steps members i member there))
