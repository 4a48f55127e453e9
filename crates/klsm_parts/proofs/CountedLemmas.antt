-- Pivots by counting: of each block the items that are among the least n are its first ones.
use Rattle.std.proofs.Common.{◌≡◌, ℕ, ◌+◌, ◌<◌, true, false, cond, nat_lt, List, [], ◌∷◌, length, get_or, map, take, drop, min, sum, Some, refl, sym, ap, ◌∙◌, subst, arith, suc, inl, inr}
use Rattle.std.specs.List.{AllByRecursion}
use Rattle.std.specs.Option.{option_map}
use Rattle.std.proofs.lemmas.Bool.{cases_lt, lt-ltb, le-ltb}
use Rattle.std.proofs.lemmas.List.{length-take}
use Rattle.std.proofs.lemmas.List.Sums.{sum_by-cons, sum_by-append, sum_by-take-drop}
use Rattle.std.proofs.lemmas.Option.{slice_get-map, slice_get-get_or}
use Rattle.klsm_run.specs.declared.item.Item.{Item}
use Rattle.klsm_run.specs.ItemOrder.{IsSmaller}
use Rattle.klsm_run.specs.Content.{sorted, skipped, IsAscending}
use Rattle.klsm_run.proofs.AllLemmas.{all_weaker}
use Rattle.klsm_run.proofs.LeastLemmas.{not_below}
use Rattle.klsm_run.proofs.RankLemmas.{count_all, count_none, count_sorted, skipped_not_above, least_skip_few, rest_skip_many}
use Rattle.klsm_run.proofs.SortedLemmas.{length_sorted}
use Rattle.klsm_lsm.specs.Lsm.{content, IsLsm}
use Rattle.klsm_lsm.proofs.ContentLemmas.{ascending_content}
use Rattle.klsm_pile.specs.Leaving.{count_in_least}
use Rattle.klsm_parts.specs.Pivots.{ArePivots, IsPivotAt}
use Rattle.klsm_parts.proofs.MendLemmas.{AreSplit, IsOneOf, SkipsFew, SkipsMany, skips_apart, pivots_if_split}
use Rattle.klsm_parts.proofs.PivotLemmas.{pivots_all}

-- how many of some items are among the least n, if all are, and if none is
counted_few : (n : ℕ) (c xs : List Item) → AllByRecursion (SkipsFew c n) xs → count_in_least n c xs ≡ length xs
counted_few n c xs few =
    count_all (λ x. nat_lt (skipped c x) n) xs (all_weaker (SkipsFew c n) (λ x. nat_lt (skipped c x) n ≡ true) (λ x less. lt-ltb (skipped c x) n less) xs few)

counted_many : (n : ℕ) (c xs : List Item) → AllByRecursion (SkipsMany c n) xs → count_in_least n c xs ≡ 0
counted_many n c xs many =
    count_none (λ x. nat_lt (skipped c x) n) xs (all_weaker (SkipsMany c n) (λ x. nat_lt (skipped c x) n ≡ false) (λ x more. le-ltb (skipped c x) n more) xs many)

-- in an ascending block they are the first ones
firsts_counted : (n : ℕ) (c b : List Item) → IsAscending b → IsOneOf (SkipsFew c n) (SkipsMany c n) b (count_in_least n c b)
firsts_counted n c [] up = record { within = omega arith; some = tt; rest = tt }
firsts_counted n c (x ∷ xs) up = elim (cases_lt (skipped c x) n) [
  | inl less ↦
      let behind = firsts_counted n c xs up.1 in
      let count : suc (count_in_least n c xs) ≡ count_in_least n c (x ∷ xs) =
      omega (arith, sum_by-cons (λ y. cond (nat_lt (skipped c y) n) 1 0) x xs, ap (λ b. cond b 1 0 + count_in_least n c xs) (lt-ltb (skipped c x) n less)) in
      subst (IsOneOf (SkipsFew c n) (SkipsMany c n) (x ∷ xs)) count (record {
        within = omega (arith, behind.within);
        some = (less, behind.some);
        rest = behind.rest;
      })
  | inr many ↦
      let later : AllByRecursion (SkipsMany c n) xs =
      all_weaker (IsSmaller x) (SkipsMany c n) (λ y smaller. omega (arith, many, skipped_not_above x y c (not_below x y smaller))) xs up.0 in
      subst (IsOneOf (SkipsFew c n) (SkipsMany c n) (x ∷ xs)) (sym (counted_many n c (x ∷ xs) (many, later))) (record {
        within = omega arith;
        some = tt;
        rest = (many, later);
      })
]

split_counted : (n : ℕ) (c : List Item) (bs : List (List Item)) → IsLsm bs → AreSplit (SkipsFew c n) (SkipsMany c n) bs (map (count_in_least n c) bs)
split_counted n c [] lsm = tt
split_counted n c (b ∷ bs) lsm =
    let one = firsts_counted n c b lsm.0.0 in
    (one.within, one.some, one.rest, split_counted n c bs lsm.3)

-- all blocks together have as many as their content
sum_counted : (n : ℕ) (c : List Item) (bs : List (List Item)) → sum (map (count_in_least n c) bs) ≡ count_in_least n c (content bs)
sum_counted n c [] = refl
sum_counted n c (b ∷ bs) =
    omega (
      arith,
      sum_by-cons (λ k. k) (count_in_least n c b) (map (count_in_least n c) bs),
      sum_counted n c bs,
      sum_by-append (λ x. cond (nat_lt (skipped c x) n) 1 0) b (content bs),
    )

-- which are n, or all if there are fewer
all_counted : (n : ℕ) (c : List Item) → IsAscending (sorted c) → count_in_least n c c ≡ min n (length c)
all_counted n c up =
    omega (
      arith,
      count_sorted (λ x. nat_lt (skipped c x) n) c,
      sum_by-take-drop (λ x. cond (nat_lt (skipped c x) n) 1 0) (sorted c) n,
      counted_few n c (take n (sorted c)) (least_skip_few n c up),
      counted_many n c (drop n (sorted c)) (rest_skip_many n c up),
      length-take n (sorted c),
      length_sorted c,
    )

-- counting gives exact pivots
pub counted_pivots : (n : ℕ) (blocks : List (List Item)) → IsLsm blocks → ArePivots n blocks (map (count_in_least n (content blocks)) blocks)
counted_pivots n blocks lsm =
    let c = content blocks in
    pivots_all n blocks (map (count_in_least n c) blocks)
    (pivots_if_split (SkipsFew c n) (SkipsMany c n) (min n (length c)) blocks (map (count_in_least n c) blocks) (skips_apart c n) (split_counted n c blocks lsm)
    (sum_counted n c blocks ∙ all_counted n c (ascending_content blocks lsm)))

pub pivot_at : (n block pivot : ℕ) (blocks : List (List Item)) → IsLsm blocks → block < length blocks → pivot ≡ count_in_least n (content blocks) (get_or blocks block []) → IsPivotAt n blocks block pivot
pivot_at n block pivot blocks lsm within is =
    let f = count_in_least n (content blocks) in (
      map f blocks,
      counted_pivots n blocks lsm,
      slice_get-map f blocks block ∙ (ap (option_map f) (slice_get-get_or blocks block [] within) ∙ ap Some (sym is)),
    )
