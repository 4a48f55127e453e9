-- The elements of a span of a list, when one is taken out and the ones on a side of it move by one place.
use Rattle.std.proofs.Common.{◌≡◌, ℕ, ◌+◌, ◌-◌, ◌<◌, ◌≤◌, List, [], ◌∷◌, ◌++◌, length, take, drop, remove, get_or, Some, refl, sym, ap, ◌∙◌, arith, zero, suc}
use Rattle.std.specs.List.{copy_within, slice_get}
use Rattle.std.proofs.lemmas.List.{length-take, length-drop, length-append, drop_at, drop-drop, take_all, take-append-le, append_assoc}
use Rattle.std.proofs.lemmas.Option.{slice_get-get_or}
use Rattle.klsm_run.proofs.IndexLemmas.{slice_get-take, slice_get-drop}

-- the elements before one move up by one place
shift_from : {X : Type 0} (start at : ℕ) (xs : List X) → start + at < length xs → drop (start + 1) (copy_within xs start (start + at) (start + 1)) ≡ remove (drop start xs) at
shift_from start at xs within =
    let front : length (take (start + 1) xs) ≡ start + 1 = omega (arith, length-take (start + 1) xs, within) in
    let count : start + at - start ≡ at = omega arith in
    let back : start + 1 + at ≡ start + suc at = omega arith in
    rw count (
    ap (drop (start + 1)) (append_assoc (take (start + 1) xs) (take at (drop start xs)) (drop (start + 1 + at) xs))
    ∙ (drop_at (take (start + 1) xs) (take at (drop start xs) ++ drop (start + 1 + at) xs) (start + 1) front
    ∙ ap (λ ys. take at (drop start xs) ++ ys) (ap (λ n. drop n xs) back ∙ sym (drop-drop (suc at) start xs))))

-- an element is taken out of the first ones
pub take_remove : {X : Type 0} (n at : ℕ) (xs : List X) → at < suc n → take n (remove xs at) ≡ remove (take (suc n) xs) at
take_remove zero zero [] less = refl
take_remove zero zero (x ∷ xs) less = refl
take_remove zero (suc at) xs less = absurd (omega (arith, less))
take_remove (suc n) zero [] less = refl
take_remove (suc n) zero (x ∷ xs) less = refl
take_remove (suc n) (suc at) [] less = refl
take_remove (suc n) (suc at) (x ∷ xs) less = ap (λ ys. x ∷ ys) (take_remove n at xs (omega (arith, less)))

-- the elements of a span before one move up by one place
pub shift_up : {X : Type 0} (start end at : ℕ) (xs : List X) → at < end - start → end ≤ length xs
    → take (end - (start + 1)) (drop (start + 1) (copy_within xs start (start + at) (start + 1))) ≡ remove (take (end - start) (drop start xs)) at
shift_up start end at xs within order =
    let all : suc (end - (start + 1)) ≡ end - start = omega (arith, within) in
    ap (take (end - (start + 1))) (shift_from start at xs (omega (arith, within, order)))
    ∙ (take_remove (end - (start + 1)) at (drop start xs) (omega (arith, within)) ∙ ap (λ n. remove (take n (drop start xs)) at) all)

-- the first elements behind `start`, where others follow them
drop_taken : {X : Type 0} (start at whole : ℕ) (xs zs : List X) → whole ≡ start + at → whole ≤ length xs → drop start (take whole xs ++ zs) ≡ take at (drop start xs) ++ zs
drop_taken zero at whole xs zs is within = ap (λ n. take n xs ++ zs) (omega (arith, is))
drop_taken (suc start) at zero xs zs is within = absurd (omega (arith, is))
drop_taken (suc start) at (suc whole) [] zs is within = absurd (omega (arith, within))
drop_taken (suc start) at (suc whole) (x ∷ xs) zs is within = drop_taken start at whole xs zs (omega (arith, is)) (omega (arith, within))

-- an element is taken out of the first ones: those before it, and those behind
removed_of_first : {X : Type 0} (at rest all : ℕ) (xs : List X) → all ≡ at + 1 + rest → remove (take all xs) at ≡ take at xs ++ take rest (drop (suc at) xs)
removed_of_first at rest zero xs is = absurd (omega (arith, is))
removed_of_first zero rest (suc all) [] is = sym (take_all rest [] (omega arith))
removed_of_first zero rest (suc all) (x ∷ xs) is = ap (λ n. take n xs) (omega (arith, is))
removed_of_first (suc at) rest (suc all) [] is = sym (take_all rest [] (omega arith))
removed_of_first (suc at) rest (suc all) (x ∷ xs) is = ap (λ ys. x ∷ ys) (removed_of_first at rest all xs (omega (arith, is)))

-- the elements of a span behind one move down by one place
pub shift_down : {X : Type 0} (start end at : ℕ) (xs : List X) → at < end - start → end ≤ length xs
    → take (end - 1 - start) (drop start (copy_within xs (start + at + 1) end (start + at))) ≡ remove (take (end - start) (drop start xs)) at
shift_down start end at xs within order =
    let rest : ℕ = end - (start + at + 1) in
    let behind : List _ = drop (start + at + rest) xs in
    let place : start + suc at ≡ start + at + 1 = omega arith in
    let back : drop (start + at + 1) xs ≡ drop (suc at) (drop start xs) = ap (λ n. drop n xs) (sym place) ∙ sym (drop-drop (suc at) start xs) in
    let count : end - 1 - start ≡ at + rest = omega (arith, within) in
    let front : length (take at (drop start xs)) ≡ at = omega (arith, length-take at (drop start xs), length-drop start xs, within, order) in
    let many : length (take rest (drop (suc at) (drop start xs))) ≡ rest = omega (arith, length-take rest (drop (suc at) (drop start xs)), length-drop (suc at) (drop start xs), length-drop start xs, within, order) in
    let all : length (take at (drop start xs) ++ take rest (drop (suc at) (drop start xs))) ≡ at + rest = omega (arith, length-append (take at (drop start xs)) (take rest (drop (suc at) (drop start xs))), front, many) in
    ap (λ ys. take (end - 1 - start) (drop start ys)) (append_assoc (take (start + at) xs) (take rest (drop (start + at + 1) xs)) behind)
    ∙ (ap (take (end - 1 - start)) (drop_taken start at (start + at) xs (take rest (drop (start + at + 1) xs) ++ behind) refl (omega (arith, within, order)))
    ∙ (ap (λ ys. take (end - 1 - start) (take at (drop start xs) ++ (take rest ys ++ behind))) back
    ∙ (ap (take (end - 1 - start)) (sym (append_assoc (take at (drop start xs)) (take rest (drop (suc at) (drop start xs))) behind))
    ∙ (ap (λ n. take n ((take at (drop start xs) ++ take rest (drop (suc at) (drop start xs))) ++ behind)) (count ∙ sym all)
    ∙ (take-append-le (length (take at (drop start xs) ++ take rest (drop (suc at) (drop start xs)))) (take at (drop start xs) ++ take rest (drop (suc at) (drop start xs))) behind (omega arith)
    ∙ (take_all (length (take at (drop start xs) ++ take rest (drop (suc at) (drop start xs)))) (take at (drop start xs) ++ take rest (drop (suc at) (drop start xs))) (omega arith)
    ∙ sym (removed_of_first at rest (end - start) (drop start xs) (omega (arith, within)))))))))

-- an element of a span
pub get_spanned : {X : Type 0} (start end at : ℕ) (xs : List X) (d : X) → at < end - start → end ≤ length xs
    → slice_get (take (end - start) (drop start xs)) at ≡ Some (get_or xs (start + at) d)
get_spanned start end at xs d within order =
    slice_get-take (end - start) (drop start xs) at within
    ∙ (slice_get-drop start xs at ∙ slice_get-get_or xs (start + at) d (omega (arith, within, order)))
