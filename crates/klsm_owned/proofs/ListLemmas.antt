-- Lists that are taken from at the front, and lists that gain at the end.
use Rattle.std.proofs.Common.{◌≡◌, ◌<◌, ℕ, zero, suc, List, [], ◌∷◌, ◌++◌, length, slice_index_or, sym, ap, subst, ◌∙◌, refl, arith}
use Rattle.std.specs.Prelude.{map, take, drop}
use mathlib.Core.Option.{some, some-injective, some-ne-none}
use lib.ListN.{get_elem?}

module _ {X : Type 0} where
  -- what is taken from the front, and what is left
  pub front_taken : (xs rest : List X) (x : X) → 0 < length xs → x ≡ slice_index_or xs 0 x → rest ≡ take 0 xs ++ drop 1 xs → xs ≡ x ∷ rest
  front_taken [] rest x any is left = let no : ⊥ = omega (arith, any) in absurd no
  front_taken (y ∷ ys) rest x any is left = ap (λ z. z ∷ ys) (sym is) ∙ ap (λ zs. x ∷ zs) (sym left)

  -- and a list of no length
  pub none_in : (xs : List X) → length xs ≡ 0 → xs ≡ []
  none_in [] none = refl
  none_in (x ∷ xs) none = absurd (omega (arith, none))

  -- a list that gains an element at its end
  pub each_push : (P : ℕ → X → Type 0) (xs : List X) (x : X) → ((i : ℕ) (y : X) → get_elem? xs i ≡ some y → P i y) → P (length xs) x
      → (i : ℕ) (y : X) → get_elem? (xs ++ x ∷ []) i ≡ some y → P i y
  each_push P [] x each last zero y there = subst (P 0) (some-injective x y there) last
  each_push P [] x each last (suc i) y there = absurd (some-ne-none y (sym there))
  each_push P (z ∷ zs) x each last zero y there = each 0 y there
  each_push P (z ∷ zs) x each last (suc i) y there = each_push (λ n. P (suc n)) zs x (λ n. each (suc n)) last i y there

pub length_mapped : {X Y : Type 0} (f : X → Y) (xs : List X) → length (map f xs) ≡ length xs
length_mapped f [] = refl
length_mapped f (x ∷ xs) = let more = length_mapped f xs in omega (arith, more)

pub map_push : {X Y : Type 0} (f : X → Y) (xs : List X) (x : X) → map f (xs ++ x ∷ []) ≡ map f xs ++ f x ∷ []
map_push f [] x = refl
map_push f (y ∷ ys) x = ap (λ zs. f y ∷ zs) (map_push f ys x)

-- what stands in a mapped list is the image of what stands there
pub unmapped : {X Y : Type 0} (f : X → Y) (xs : List X) (i : ℕ) (y : Y) → get_elem? (map f xs) i ≡ some y → (x : X) × (get_elem? xs i ≡ some x) × (f x ≡ y)
unmapped f [] i y there = absurd (some-ne-none y (sym there))
unmapped f (x ∷ xs) zero y there = (x, refl, some-injective (f x) y there)
unmapped f (x ∷ xs) (suc i) y there = unmapped f xs i y there
