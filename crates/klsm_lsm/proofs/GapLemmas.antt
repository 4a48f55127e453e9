-- Blocks of which one is gone, and those behind it have moved by one place.
use Rattle.std.proofs.Common.{◌≡◌, ℕ, ◌+◌, ◌-◌, ◌<◌, List, [], ◌∷◌, ◌++◌, take, drop, remove, sym, ap, ◌∙◌, arith, zero, suc}
use Rattle.std.proofs.Math.Seq.{take-nil}
use Rattle.klsm_run.specs.declared.item.Item.{Item}

abbrev Blocks : Type 0
Blocks = List (List Item)

-- the first blocks without block `at` are those before it and `more` behind it
removed_taken : (at more all : ℕ) (bs : Blocks) → all ≡ at + more → take at bs ++ take more (drop (suc at) bs) ≡ remove (take (suc all) bs) at
removed_taken zero more all [] is = take-nil more
removed_taken zero more all (b ∷ bs) is = ap (λ n. take n bs) (omega (arith, is))
removed_taken (suc at) more zero bs is = absurd (omega (arith, is))
removed_taken (suc at) more (suc all) [] is = take-nil more
removed_taken (suc at) more (suc all) (b ∷ bs) is = ap (λ (l : Blocks). b ∷ l) (removed_taken at more all bs (omega (arith, is)))

pub closed : (old now : Blocks) (at count : ℕ) → at < count → take (at + (count - 1 - at)) now ≡ take at old ++ take (count - 1 - at) (drop (at + 1) old) → take (count - 1) now ≡ remove (take count old) at
closed old now at count less moved =
    let last : at + (count - 1 - at) ≡ count - 1 = omega (arith, less) in
    let next : at + 1 ≡ suc at = omega arith in
    let all : suc (count - 1) ≡ count = omega (arith, less) in
    ap (λ n. take n now) (sym last)
    ∙ (moved ∙ (ap (λ n. take at old ++ take (count - 1 - at) (drop n old)) next
    ∙ (removed_taken at (count - 1 - at) (count - 1) old (sym last) ∙ ap (λ n. remove (take n old) at) all)))
