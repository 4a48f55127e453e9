-- Pivots that are mended: where each marked item is smaller than each other one, the marked items are the least, and this stays so
-- where blocks lose an item or become one.
use Rattle.std.proofs.Common.{◌≡◌, ℕ, ◌+◌, ◌-◌, ◌<◌, ◌≤◌, Bool, true, false, List, [], ◌∷◌, ◌++◌, length, get_or, set, remove, take, drop, sum, refl, sym, ap, ◌∙◌, subst, arith, zero, suc, if◌then◌else◌}
use Rattle.std.specs.List.{AllByRecursion}
use Rattle.std.proofs.Math.Seq.{take-append-add, drop-append-add}
use Rattle.std.proofs.lemmas.List.{append-nil, take-append-le, drop-append-le, take_all, drop-drop, drop-take, length-append, length-take-le}
use Rattle.std.proofs.lemmas.List.Sums.{sum_by-cons}
use Rattle.klsm_run.specs.declared.item.Item.{Item}
use Rattle.klsm_run.specs.ItemOrder.{is_smaller, IsSmaller}
use Rattle.klsm_run.specs.Content.{placed, sorted, skipped, IsAscending}
use Rattle.klsm_run.proofs.AllLemmas.{all_weaker, all_append, all_front, all_back}
use Rattle.klsm_run.proofs.SortedLemmas.{placed_first, all_sorted, length_sorted}
use Rattle.klsm_run.proofs.LeastLemmas.{all_unsorted}
use Rattle.klsm_run.proofs.LesserLemmas.{less_if_smaller}
use Rattle.klsm_run.proofs.RankLemmas.{skipped_not_above, least_skip_few, rest_skip_many}
use Rattle.klsm_lsm.specs.Lsm.{content}
use Rattle.klsm_lsm.specs.Adding.{without_items}
use Rattle.klsm_lsm.proofs.CutLemmas.{length_without, all_without}
use Rattle.klsm_lsm.proofs.MovingLemmas.{shorter}
use Rattle.klsm_parts.specs.Pivots.{marked, unmarked, AreWithin, ArePivots}
use Rattle.klsm_parts.proofs.PivotLemmas.{marked_and_unmarked, unmarked_is_rest}

-- what is true of each marked item, and of each other
abbrev pub AreSplit : (Item → Type 0) → (Item → Type 0) → List (List Item) → List ℕ → Type 0
AreSplit P Q [] [] = Unit {0}
AreSplit P Q [] (p ∷ ps) = ⊥
AreSplit P Q (b ∷ bs) [] = ⊥
AreSplit P Q (b ∷ bs) (p ∷ ps) = (p ≤ length b) × AllByRecursion P (take p b) × AllByRecursion Q (drop p b) × AreSplit P Q bs ps

-- each item of the first kind is smaller than each of the second
abbrev pub AreApart : (Item → Type 0) → (Item → Type 0) → Type 0
AreApart P Q = (x y : Item) → P x → Q y → IsSmaller x y

pub split_within : (P Q : Item → Type 0) (bs : List (List Item)) (ps : List ℕ) → AreSplit P Q bs ps → AreWithin bs ps
split_within P Q [] [] split = tt
split_within P Q [] (p ∷ ps) split = absurd split
split_within P Q (b ∷ bs) [] split = absurd split
split_within P Q (b ∷ bs) (p ∷ ps) split = (split.0, split_within P Q bs ps split.3)

pub split_marked : (P Q : Item → Type 0) (bs : List (List Item)) (ps : List ℕ) → AreSplit P Q bs ps → AllByRecursion P (marked bs ps)
split_marked P Q [] [] split = tt
split_marked P Q [] (p ∷ ps) split = absurd split
split_marked P Q (b ∷ bs) [] split = absurd split
split_marked P Q (b ∷ bs) (p ∷ ps) split = all_append P (take p b) (marked bs ps) split.1 (split_marked P Q bs ps split.3)

pub split_unmarked : (P Q : Item → Type 0) (bs : List (List Item)) (ps : List ℕ) → AreSplit P Q bs ps → AllByRecursion Q (content (unmarked bs ps))
split_unmarked P Q [] [] split = tt
split_unmarked P Q [] (p ∷ ps) split = absurd split
split_unmarked P Q (b ∷ bs) [] split = absurd split
split_unmarked P Q (b ∷ bs) (p ∷ ps) split = all_append Q (drop p b) (content (unmarked bs ps)) split.2 (split_unmarked P Q bs ps split.3)

pub split_of : (P Q : Item → Type 0) (bs : List (List Item)) (ps : List ℕ) → AreWithin bs ps → AllByRecursion P (marked bs ps) → AllByRecursion Q (content (unmarked bs ps)) → AreSplit P Q bs ps
split_of P Q [] [] within some rest = tt
split_of P Q [] (p ∷ ps) within some rest = absurd within
split_of P Q (b ∷ bs) [] within some rest = absurd within
split_of P Q (b ∷ bs) (p ∷ ps) within some rest = (
  within.0,
  all_front P (take p b) (marked bs ps) some,
  all_front Q (drop p b) (content (unmarked bs ps)) rest,
  split_of P Q bs ps within.1 (all_back P (take p b) (marked bs ps) some) (all_back Q (drop p b) (content (unmarked bs ps)) rest),
)

-- the pivots count the marked items
pub count_marked : (bs : List (List Item)) (ps : List ℕ) → AreWithin bs ps → length (marked bs ps) ≡ sum ps
count_marked [] [] within = refl
count_marked [] (p ∷ ps) within = absurd within
count_marked (b ∷ bs) [] within = absurd within
count_marked (b ∷ bs) (p ∷ ps) within =
    length-append (take p b) (marked bs ps) ∙ omega (arith, length-take-le p b within.0, count_marked bs ps within.1, sum_by-cons (λ x. x) p ps)

placed_before : (x : Item) (zs ws : List Item) → AllByRecursion (IsSmaller x) ws → placed x (zs ++ ws) ≡ placed x zs ++ ws
placed_before x [] ws h = placed_first x ws h
placed_before x (z ∷ zs) ws h = elim (is_smaller z x) as (λ b. (if b then z ∷ placed x (zs ++ ws) else x ∷ z ∷ (zs ++ ws)) ≡ (if b then z ∷ placed x zs else x ∷ z ∷ zs) ++ ws) [
  | true ↦ ap (λ (l : List Item). z ∷ l) (placed_before x zs ws h)
  | false ↦ refl
]

-- the two kinds sort apart
sorted_apart : (P Q : Item → Type 0) (xs ys : List Item) → AreApart P Q → AllByRecursion P xs → AllByRecursion Q ys → sorted (xs ++ ys) ≡ sorted xs ++ sorted ys
sorted_apart P Q [] ys apart some rest = refl
sorted_apart P Q (x ∷ xs) ys apart some rest =
    ap (placed x) (sorted_apart P Q xs ys apart some.1 rest)
    ∙ placed_before x (sorted xs) (sorted ys) (all_sorted (IsSmaller x) ys (all_weaker Q (IsSmaller x) (λ y h. apart x y some.0 h) ys rest))

drop_nil : (n : ℕ) → ◌≡◌ {A = List Item} (drop n []) []
drop_nil zero = refl
drop_nil (suc n) = refl

drop_past : (n : ℕ) (xs : List Item) → length xs ≤ n → drop n xs ≡ []
drop_past n [] past = drop_nil n
drop_past zero (x ∷ xs) past = absurd (omega (arith, past))
drop_past (suc n) (x ∷ xs) past = drop_past n xs (omega (arith, past))

-- one block of the items of several, of which so many are marked
pub record IsOneOf (P Q : Item → Type 0) (block : List Item) (n : ℕ) : Type 0 where
  pub within : n ≤ length block
  pub some : AllByRecursion P (take n block)
  pub rest : AllByRecursion Q (drop n block)

pub one_of : (P Q : Item → Type 0) (bs : List (List Item)) (ps : List ℕ) (block : List Item) (n : ℕ) → AreApart P Q → AreSplit P Q bs ps → block ≡ sorted (content bs) → n ≡ sum ps → IsOneOf P Q block n
one_of P Q bs ps block n apart split is count =
    let m = marked bs ps in let u = content (unmarked bs ps) in
    let some = split_marked P Q bs ps split in
    let rest = split_unmarked P Q bs ps split in
    let parts : block ≡ sorted m ++ sorted u = is ∙ (marked_and_unmarked bs ps ∙ sorted_apart P Q m u apart some rest) in
    let size : length (sorted m) ≡ n = length_sorted m ∙ (count_marked bs ps (split_within P Q bs ps split) ∙ sym count) in
    let front : take n block ≡ sorted m = ap (take n) parts ∙ (take-append-le n (sorted m) (sorted u) (omega (arith, size)) ∙ take_all n (sorted m) (omega (arith, size))) in
    let back : drop n block ≡ sorted u = ap (drop n) parts ∙ (drop-append-le n (sorted m) (sorted u) (omega (arith, size)) ∙ ap (λ xs. xs ++ sorted u) (drop_past n (sorted m) (omega (arith, size)))) in
    record {
      within = omega (arith, ap length parts, length-append (sorted m) (sorted u), size);
      some = subst (AllByRecursion P) (sym front) (all_sorted P m some);
      rest = subst (AllByRecursion Q) (sym back) (all_sorted Q u rest);
    }

-- the marked items are the least ones
pub pivots_if_split : (P Q : Item → Type 0) (n : ℕ) (bs : List (List Item)) (ps : List ℕ) → AreApart P Q → AreSplit P Q bs ps → sum ps ≡ n → ArePivots n bs ps
pivots_if_split P Q n bs ps apart split count =
    let m = marked bs ps in let u = content (unmarked bs ps) in
    let within = split_within P Q bs ps split in
    let parts : sorted (content bs) ≡ sorted m ++ sorted u = marked_and_unmarked bs ps ∙ sorted_apart P Q m u apart (split_marked P Q bs ps split) (split_unmarked P Q bs ps split) in
    let size : length (sorted m) ≡ n = length_sorted m ∙ (count_marked bs ps within ∙ count) in
    record {
      within = within;
      exact = sym (ap (take n) parts ∙ (take-append-le n (sorted m) (sorted u) (omega (arith, size)) ∙ take_all n (sorted m) (omega (arith, size))));
    }

-- few items are smaller than a marked one, and many are smaller than each other one
abbrev pub SkipsFew : List Item → ℕ → Item → Type 0
SkipsFew c n x = skipped c x < n

abbrev pub SkipsMany : List Item → ℕ → Item → Type 0
SkipsMany c n x = n ≤ skipped c x

pub skips_apart : (c : List Item) (n : ℕ) → AreApart (SkipsFew c n) (SkipsMany c n)
skips_apart c n x y few many = by_test (is_smaller x y) refl
  where
    by_test : (b : Bool) → is_smaller x y ≡ b → IsSmaller x y
    by_test true smaller = less_if_smaller x y smaller
    by_test false not_smaller = absurd (omega (arith, few, many, skipped_not_above y x c not_smaller))
