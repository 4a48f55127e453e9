-- Lists whose front is written over, one place after another.
use Rattle.std.proofs.Common.{◌≡◌, ◌<◌, ◌≤◌, ◌+◌, ℕ, zero, suc, List, [], ◌∷◌, ◌++◌, length, slice_index_or, slice_set, append-nil, sym, ap, refl, ◌∙◌, arith}
use native.Mathlib.Numerals.{unary_clauses}
use Rattle.std.specs.Prelude.{map, take, drop}

module _ {X : Type 0} where
  copied_step : (xs old : List X) (i : ℕ) (x : X) → i < length xs → i < length old → slice_index_or xs i x ≡ x
      → slice_set (take i xs ++ drop i old) i x ≡ take (suc i) xs ++ drop (suc i) old
  copied_step [] old i x h k is = let no : ⊥ = omega (arith, h) in absurd no
  copied_step (y ∷ ys) [] i x h k is = let no : ⊥ = omega (arith, k) in absurd no
  copied_step (y ∷ ys) (z ∷ zs) zero x h k is = ap (λ w. w ∷ zs) (sym is)
  copied_step (y ∷ ys) (z ∷ zs) (suc i) x h k is = ap (λ ws. y ∷ ws) (copied_step ys zs i x (omega (arith, h)) (omega (arith, k)) is)

  -- one more element of a list is written over what was there
  pub copied_more : (xs old : List X) (i : ℕ) (x : X) → i < length xs → i < length old → slice_index_or xs i x ≡ x
      → slice_set (take i xs ++ drop i old) i x ≡ take (i + 1) xs ++ drop (i + 1) old
  copied_more xs old i x h k is = simp unary_clauses (copied_step xs old i x h k is)

  drop_all : (xs : List X) (i : ℕ) → length xs ≤ i → drop i xs ≡ []
  drop_all [] zero h = refl
  drop_all [] (suc i) h = refl
  drop_all (y ∷ ys) zero h = absurd (omega (arith, h))
  drop_all (y ∷ ys) (suc i) h = drop_all ys i (omega (arith, h))

  take_all : (xs : List X) (i : ℕ) → length xs ≤ i → take i xs ≡ xs
  take_all [] zero h = refl
  take_all [] (suc i) h = refl
  take_all (y ∷ ys) zero h = absurd (omega (arith, h))
  take_all (y ∷ ys) (suc i) h = ap (λ zs. y ∷ zs) (take_all ys i (omega (arith, h)))

  -- and in the end all of them
  pub all_copied : (xs old : List X) (i : ℕ) → length xs ≤ i → length old ≤ i → take i xs ++ drop i old ≡ xs
  all_copied xs old i h k = ap (λ zs. take i xs ++ zs) (drop_all old i k) ∙ (append-nil (take i xs) ∙ take_all xs i h)

  -- what is not yet written over is as it was
  pub index_copied : (xs old : List X) (i : ℕ) (d : X) → i < length xs → i < length old → slice_index_or (take i xs ++ drop i old) i d ≡ slice_index_or old i d
  index_copied [] old i d h k = let no : ⊥ = omega (arith, h) in absurd no
  index_copied (y ∷ ys) [] i d h k = let no : ⊥ = omega (arith, k) in absurd no
  index_copied (y ∷ ys) (z ∷ zs) zero d h k = refl
  index_copied (y ∷ ys) (z ∷ zs) (suc i) d h k = index_copied ys zs i d (omega (arith, h)) (omega (arith, k))

  pub index_dropped : (xs : List X) (i : ℕ) (d : X) → i < length xs → slice_index_or (drop i xs) 0 d ≡ slice_index_or xs i d
  index_dropped [] i d h = let no : ⊥ = omega (arith, h) in absurd no
  index_dropped (y ∷ ys) zero d h = refl
  index_dropped (y ∷ ys) (suc i) d h = index_dropped ys i d (omega (arith, h))

  drop_step : (xs : List X) (i : ℕ) → drop 1 (drop i xs) ≡ drop (suc i) xs
  drop_step [] zero = refl
  drop_step [] (suc i) = refl
  drop_step (y ∷ ys) zero = refl
  drop_step (y ∷ ys) (suc i) = drop_step ys i

  -- the rest, once one more is gone from its front
  pub drop_more : (xs rest : List X) (i : ℕ) → rest ≡ take 0 (drop i xs) ++ drop 1 (drop i xs) → rest ≡ drop (i + 1) xs
  drop_more xs rest i is = simp unary_clauses (is ∙ drop_step xs i)

-- what stands in a mapped list
pub index_mapped : {X Y : Type 0} (f : X → Y) (xs : List X) (i : ℕ) (d : X) (y : Y) → i < length xs → (i < length (map f xs)) × (slice_index_or (map f xs) i y ≡ f (slice_index_or xs i d))
index_mapped f [] i d y h = let no : ⊥ = omega (arith, h) in absurd no
index_mapped f (x ∷ xs) zero d y h = (omega arith, refl)
index_mapped f (x ∷ xs) (suc i) d y h = let more = index_mapped f xs i d y (omega (arith, h)) in (omega (arith, more.0), more.1)

-- a change of one element in a mapped list
pub map_set : {X Y : Type 0} (f : X → Y) (xs : List X) (i : ℕ) (x : X) → map f (slice_set xs i x) ≡ slice_set (map f xs) i (f x)
map_set f [] i x = refl
map_set f (y ∷ ys) zero x = refl
map_set f (y ∷ ys) (suc i) x = ap (λ zs. f y ∷ zs) (map_set f ys i x)

-- a list that is mapped in two parts
pub map_behind : {X Y : Type 0} (f : X → Y) (xs ys : List X) → map f (xs ++ ys) ≡ map f xs ++ map f ys
map_behind f [] ys = refl
map_behind f (x ∷ xs) ys = ap (λ zs. f x ∷ zs) (map_behind f xs ys)

-- what is written where it stood
pub set_same : {X : Type 0} (xs : List X) (i : ℕ) (x : X) → slice_index_or xs i x ≡ x → slice_set xs i x ≡ xs
set_same [] i x is = refl
set_same (y ∷ ys) zero x is = ap (λ z. z ∷ ys) (sym is)
set_same (y ∷ ys) (suc i) x is = ap (λ zs. y ∷ zs) (set_same ys i x is)
