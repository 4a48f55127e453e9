-- What stays true of a union.
use Rattle.std.proofs.Common.{◌≡◌, ℕ, ◌+◌, ◌-◌, ◌≤◌, List, [], ◌∷◌, ◌++◌, length, drop, sym, ap, ◌∙◌, arith, zero, suc}
use Rattle.std.specs.List.{Contains}
use Rattle.std.proofs.lemmas.List.{drop-drop, length-drop, length-append}
use Rattle.klsm_run.specs.declared.item.Item.{Item}
use Rattle.klsm_run.specs.Content.{sorted, ShareNone}
use Rattle.klsm_run.specs.Capacity.{heap_room}
use Rattle.klsm_run.proofs.SortedLemmas.{length_sorted}
use Rattle.klsm_union.specs.Unions.{IsUnion}

-- the list of both has as many items as both
pub length_both : (left right : List Item) → length (sorted (left ++ right)) ≡ length left + length right
length_both left right = length_sorted (left ++ right) ∙ length-append left right

pub union_begun : (left right owed : List Item) → ShareNone left right → length left + length right ≤ heap_room → owed ≡ sorted (left ++ right) → IsUnion left right owed
union_begun left right owed apart few is = record {
  apart = apart;
  few = few;
  gone = 0;
  gone_in = omega arith;
  rest = sym is;
}

-- what the rest of a list contains the list does
contains_drop : (n : ℕ) (xs : List Item) (x : Item) → Contains (drop n xs) x → Contains xs x
contains_drop zero xs x at = at
contains_drop (suc n) [] x at = at
contains_drop (suc n) (y ∷ xs) x at = let there = contains_drop n xs x at in (suc there.0, omega (arith, there.1), there.2)

-- once the least items have left
pub union_less : (left right owed : List Item) (i j count : ℕ) → IsUnion left right owed → count ≤ length (sorted (left ++ right)) → sorted (drop i left ++ drop j right) ≡ drop count (sorted (left ++ right)) → IsUnion (drop i left) (drop j right) owed
union_less left right owed i j count h few rest = record {
  apart = λ x in_left in_right. h.apart x (contains_drop i left x in_left) (contains_drop j right x in_right);
  few = omega (arith, length-drop i left, length-drop j right, h.few);
  gone = h.gone + count;
  gone_in = omega (arith, few, ap length h.rest, length-drop h.gone owed, h.gone_in);
  rest = rest ∙ (ap (drop count) h.rest ∙ drop-drop count h.gone owed);
}

-- from which place on the one run has the items that have not left
pub union_start : (left right owed stored : List Item) → IsUnion left right owed → stored ≡ owed → drop (length stored - (length left + length right)) stored ≡ sorted (left ++ right)
union_start left right owed stored h is =
    let place : length owed - (length left + length right) ≡ h.gone = omega (arith, ap length h.rest, length-drop h.gone owed, h.gone_in, length_both left right) in
    ap (λ xs. drop (length xs - (length left + length right)) xs) is ∙ (ap (λ n. drop n owed) place ∙ sym h.rest)

pub union_within : (left right owed stored : List Item) → IsUnion left right owed → stored ≡ owed → length left + length right ≤ length stored
union_within left right owed stored h is = omega (arith, ap length h.rest, length-drop h.gone owed, length_both left right, ap length is)
