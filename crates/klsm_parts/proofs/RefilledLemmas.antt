-- What a refill moved lies below the front that it leaves.
use Rattle.std.proofs.Common.{◌≡◌, ◌≢◌, ℕ, ◌+◌, ◌<◌, ◌≤◌, ◌^◌, false, true, List, ◌++◌, take, drop, Option, Some, None, refl, sym, ap, ◌∙◌, subst, arith, inl, inr}
use Rattle.std.specs.List.{Contains, slice_get}
use Rattle.std.specs.Ordering.{is_lt}
use Rattle.std.proofs.lemmas.Bool.{cases_lt}
use Rattle.std.proofs.lemmas.List.{take-append-drop}
use Rattle.klsm_run.specs.declared.item.Item.{Item}
use Rattle.klsm_run.specs.ItemOrder.{is_smaller}
use Rattle.klsm_run.specs.Content.{sorted, IsAscending}
use Rattle.klsm_run.proofs.ContainsLemmas.{contains_sorted}
use Rattle.klsm_run.proofs.HalfLemmas.{ascending_drop}
use Rattle.klsm_run.proofs.IndexLemmas.{slice_get-drop, taken_at, index_of}
use Rattle.klsm_run.proofs.RankLemmas.{rising_sorted, IsRising}
use Rattle.klsm_run.proofs.SortedLemmas.{sorted_ascending}
use Rattle.klsm_parts.specs.Least.{IsLeast}
use Rattle.klsm_parts.specs.Events.{minus, key_or_greatest, front_of}
use Rattle.klsm_parts.specs.Refilling.{refill_count}
use Rattle.klsm_parts.specs.Laws.{RefilledMayGoEarly}
use Rattle.klsm_parts.proofs.EventLemmas.{minus_moved}
use Rattle.klsm_parts.proofs.OwnOrderLemmas.{smaller_key}
use Rattle.klsm_parts.proofs.RisingLemmas.{later_not_smaller}

-- an item that is not smaller than another has no smaller key
key_not_smaller : (x y : Item) → is_smaller y x ≡ false → x.key ≤ y.key
key_not_smaller x y order = elim (cases_lt y.key x.key) [
  | inl less ↦
      let yes : is_smaller y x ≡ true = ap is_lt (smaller_key y x less) in
      let bad : false ≡ true = sym order ∙ yes in cc
  | inr less ↦ less
]

-- of an ascending list, an item among the first n has no greater key than one at n
key_before : (n : ℕ) (s : List Item) (x z : Item) → IsAscending s → Contains (take n s) x → slice_get s n ≡ Some z → x.key ≤ z.key
key_before n s x z up within there =
    let at = index_of (take n s) x within in
    let place = taken_at n s at.0 x at.1 in
    let rising : IsRising s = subst IsRising (sorted_ascending s up) (rising_sorted s) in
    key_not_smaller x z (later_not_smaller s at.0 n x z rising (omega (arith, place.0)) place.1 there)

-- so it lies below the front of the others, but for an item of the same key
below_rest : (n : ℕ) (s : List Item) (x : Item) → IsAscending s → Contains (take n s) x → x.key < 2 ^ 64 → x.key ≢ front_of (drop n s) → x.key < front_of (drop n s)
below_rest n s x up within fits other = by_least (slice_get (sorted (drop n s)) 0) refl
  where
    by_least : (o : Option Item) → slice_get (sorted (drop n s)) 0 ≡ o → x.key < front_of (drop n s)
    by_least None none =
        let front : front_of (drop n s) ≡ 18446744073709551615 = ap key_or_greatest none in
        omega (arith, front, fits, other)
    by_least (Some z) some =
        let front : front_of (drop n s) ≡ z.key = ap key_or_greatest some in
        let here : slice_get (drop n s) 0 ≡ Some z = ap (λ l. slice_get l 0) (sym (sorted_ascending (drop n s) (ascending_drop n s up))) ∙ some in
        let zero_more : n + 0 ≡ n = omega arith in
        let there : slice_get s n ≡ Some z = ap (slice_get s) (sym zero_more) ∙ (sym (slice_get-drop n s 0) ∙ here) in
        omega (arith, front, key_before n s x z up within there, other)

-- the least item of a content has no greater key than another of it
key_of_least : (c : List Item) (x y : Item) → Contains c x → IsLeast y c → y.key ≤ x.key
key_of_least c x y within first =
    let at = index_of (sorted c) x (contains_sorted x c within) in
    key_not_smaller y x (later_not_smaller (sorted c) 0 at.0 y x (rising_sorted c) (omega arith) first at.1)

-- without the first items of an ascending list the others are left
pub minus_first : (n : ℕ) (s : List Item) → IsAscending s → minus s (take n s) ≡ drop n s
minus_first n s up =
    let itself : sorted s ≡ s = sorted_ascending s up in
    let whole : sorted s ≡ sorted (take n s ++ drop n s) = ap sorted (sym (take-append-drop n s)) in
    ap (λ l. minus l (take n s)) (sym itself) ∙ (minus_moved (take n s) (drop n s) s whole ∙ sorted_ascending (drop n s) (ascending_drop n s up))

pub refilled_go_early : RefilledMayGoEarly
refilled_go_early most k own shared later x y up moved fits other within first =
    let n : ℕ = refill_count most k own shared in
    let left : minus shared (take n shared) ≡ drop n shared = minus_first n shared up in
    let below : x.key < front_of (drop n shared) = below_rest n shared x up moved fits (subst (λ l. x.key ≢ front_of l) left other) in
    let least_below : y.key < front_of (drop n shared) = omega (arith, below, key_of_least later x y within first) in
    record { least = first; below = subst (λ l. y.key < front_of l) (sym left) least_below }
