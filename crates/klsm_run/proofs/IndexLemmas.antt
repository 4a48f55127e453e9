-- Elements of a list by their index.
use Rattle.std.proofs.Common.{◌≡◌, ℕ, ◌+◌, ◌<◌, List, [], ◌∷◌, length, take, drop, Some, refl, sym, ap, ◌∙◌, subst, arith, zero, suc}
use Rattle.std.specs.List.{AllByRecursion, Contains, slice_get}
use Rattle.std.proofs.lemmas.List.{length-take}
use Rattle.std.proofs.lemmas.Option.{none-some, same_Some, slice_get-get_or, slice_get_within, get_or_from_slice_get}

-- an element of the first ones
pub slice_get-take : {X : Type 0} → (n : ℕ) (xs : List X) (i : ℕ) → i < n → slice_get (take n xs) i ≡ slice_get xs i
slice_get-take zero xs i less = absurd (omega (arith, less))
slice_get-take (suc n) [] i less = refl
slice_get-take (suc n) (x ∷ xs) zero less = refl
slice_get-take (suc n) (x ∷ xs) (suc i) less = slice_get-take n xs i (omega (arith, less))

pub taken_at : {X : Type 0} → (n : ℕ) (xs : List X) (i : ℕ) (x : X) → slice_get (take n xs) i ≡ Some x → (i < n) × (slice_get xs i ≡ Some x)
taken_at n xs i x found =
    let less : i < n = omega (arith, slice_get_within (take n xs) i x found, length-take n xs) in
    (less, sym (slice_get-take n xs i less) ∙ found)

-- an element of the others
pub slice_get-drop : {X : Type 0} → (n : ℕ) (xs : List X) (i : ℕ) → slice_get (drop n xs) i ≡ slice_get xs (n + i)
slice_get-drop zero xs i = let same : i ≡ 0 + i = omega arith in ap (slice_get xs) same
slice_get-drop (suc n) [] i = refl
slice_get-drop (suc n) (x ∷ xs) i = let same : suc (n + i) ≡ suc n + i = omega arith in slice_get-drop n xs i ∙ ap (slice_get (x ∷ xs)) same

-- the first of the others
pub first_behind : {X : Type 0} → (n : ℕ) (xs : List X) → slice_get (drop n xs) 0 ≡ slice_get xs n
first_behind n xs = let same : n + 0 ≡ n = omega arith in slice_get-drop n xs 0 ∙ ap (slice_get xs) same

-- each index within a list has an element
pub at_index : {X : Type 0} → (xs : List X) (i : ℕ) → i < length xs → (x : X) × (slice_get xs i ≡ Some x)
at_index [] i within = absurd (omega (arith, within))
at_index (x ∷ xs) zero within = (x, refl)
at_index (x ∷ xs) (suc i) within = at_index xs i (omega (arith, within))

-- what is true of each element by its index is true of all
pub all_by_index : {X : Type 0} (P : X → Type 0) → (xs : List X) → ((i : ℕ) (x : X) → slice_get xs i ≡ Some x → P x) → AllByRecursion P xs
all_by_index P [] each = tt
all_by_index P (x ∷ xs) each = (each 0 x refl, all_by_index P xs (λ i y found. each (suc i) y found))

-- what is true of all elements is true of each by its index
pub at_each : {X : Type 0} (P : X → Type 0) → (xs : List X) (i : ℕ) (x : X) → AllByRecursion P xs → slice_get xs i ≡ Some x → P x
at_each P [] i x all found = absurd (none-some x found)
at_each P (y ∷ ys) zero x all found = subst P (same_Some y x found) all.0
at_each P (y ∷ ys) (suc i) x all found = at_each P ys i x all.1 found

-- an element at an index is in the list, and one that is in it has an index
pub contains_at : {X : Type 0} → (xs : List X) (i : ℕ) (x : X) → slice_get xs i ≡ Some x → Contains xs x
contains_at xs i x found = (i, slice_get_within xs i x found, get_or_from_slice_get xs i x x found)

pub index_of : {X : Type 0} → (xs : List X) (x : X) → Contains xs x → (i : ℕ) × (slice_get xs i ≡ Some x)
index_of xs x within = (within.0, slice_get-get_or xs within.0 x within.1 ∙ ap Some within.2)
