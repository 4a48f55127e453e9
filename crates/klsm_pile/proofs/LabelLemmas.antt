-- Items and their levels, which lie apart.
use Rattle.std.proofs.Common.{ℕ, zero, suc, List, [], ◌∷◌, ◌++◌, ◌≡◌, ◌<◌, refl, ap, ◌∙◌, length, take, map, slice_set, slice_index_or, arith}
use Rattle.std.specs.List.{remove}
use Rattle.klsm_run.specs.declared.item.Item.{Item}
use Rattle.klsm_pile.specs.declared.fetched.Fetched.{Fetched}
use Rattle.klsm_pile.specs.Labels.{labelled}
use Rattle.klsm_pile.specs.Settling.{regrouped_level, relabelled}

pub labelled_length : (xs : List Item) (ls : List ℕ) → length xs ≡ length ls → length (labelled xs ls) ≡ length xs
labelled_length [] ls same = refl
labelled_length (x ∷ xs) [] same = absurd (omega (arith, same))
labelled_length (x ∷ xs) (l ∷ ls) same = ap suc (labelled_length xs ls (omega (arith, same)))

pub labelled_end : (xs : List Item) (ls : List ℕ) (x : Item) (l : ℕ) → length xs ≡ length ls → labelled (xs ++ x ∷ []) (ls ++ l ∷ []) ≡ labelled xs ls ++ record { item = x; level = l } ∷ []
labelled_end [] [] x l same = refl
labelled_end [] (m ∷ ls) x l same = absurd (omega (arith, same))
labelled_end (y ∷ xs) [] x l same = absurd (omega (arith, same))
labelled_end (y ∷ xs) (m ∷ ls) x l same = ap (λ fs. record { item = y; level = m } ∷ fs) (labelled_end xs ls x l (omega (arith, same)))

pub labelled_take : (n : ℕ) (xs : List Item) (ls : List ℕ) → labelled (take n xs) (take n ls) ≡ take n (labelled xs ls)
labelled_take zero xs ls = refl
labelled_take (suc n) [] ls = refl
labelled_take (suc n) (x ∷ xs) [] = refl
labelled_take (suc n) (x ∷ xs) (l ∷ ls) = ap (λ fs. record { item = x; level = l } ∷ fs) (labelled_take n xs ls)

pub labelled_map : (low high to : ℕ) (xs : List Item) (ls : List ℕ) → labelled xs (map (regrouped_level low high to) ls) ≡ relabelled low high to (labelled xs ls)
labelled_map low high to [] ls = refl
labelled_map low high to (x ∷ xs) [] = refl
labelled_map low high to (x ∷ xs) (l ∷ ls) = ap (λ fs. record { item = x; level = regrouped_level low high to l } ∷ fs) (labelled_map low high to xs ls)

-- what lies at a place
pub labelled_at : (i : ℕ) (xs : List Item) (ls : List ℕ) (x : Item) (l : ℕ) (d : Fetched) → length xs ≡ length ls → i < length xs → x ≡ slice_index_or xs i x → l ≡ slice_index_or ls i l
    → record { item = x; level = l } ≡ slice_index_or (labelled xs ls) i d
labelled_at i [] ls x l d same within x_is l_is = absurd (omega (arith, within))
labelled_at i (y ∷ xs) [] x l d same within x_is l_is = absurd (omega (arith, same))
labelled_at zero (y ∷ xs) (m ∷ ls) x l d same within x_is l_is = ap (λ z. record { item = z; level = l }) x_is ∙ ap (λ n. record { item = y; level = n }) l_is
labelled_at (suc i) (y ∷ xs) (m ∷ ls) x l d same within x_is l_is = labelled_at i xs ls x l d (omega (arith, same)) (omega (arith, within)) x_is l_is

pub labelled_set : (i : ℕ) (xs : List Item) (ls : List ℕ) (f : Fetched) → length xs ≡ length ls → labelled (slice_set xs i f.item) (slice_set ls i f.level) ≡ slice_set (labelled xs ls) i f
labelled_set zero [] ls f same = refl
labelled_set (suc i) [] ls f same = refl
labelled_set i (y ∷ xs) [] f same = absurd (omega (arith, same))
labelled_set zero (y ∷ xs) (m ∷ ls) f same = refl
labelled_set (suc i) (y ∷ xs) (m ∷ ls) f same = ap (λ fs. record { item = y; level = m } ∷ fs) (labelled_set i xs ls f (omega (arith, same)))

pub labelled_remove : (i : ℕ) (xs : List Item) (ls : List ℕ) → length xs ≡ length ls → labelled (remove xs i) (remove ls i) ≡ remove (labelled xs ls) i
labelled_remove zero [] ls same = refl
labelled_remove (suc i) [] ls same = refl
labelled_remove i (y ∷ xs) [] same = absurd (omega (arith, same))
labelled_remove zero (y ∷ xs) (m ∷ ls) same = refl
labelled_remove (suc i) (y ∷ xs) (m ∷ ls) same = ap (λ fs. record { item = y; level = m } ∷ fs) (labelled_remove i xs ls (omega (arith, same)))
