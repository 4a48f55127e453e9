-- The least items of another member's part on their way to an own one.
use Rattle.std.proofs.Common.{inl, inr, ◌≡◌, ℕ, ◌+◌, ◌-◌, ◌/◌, min, ◌<◌, ◌≤◌, List, [], ◌∷◌, ◌++◌, length, take, drop, Some, refl, sym, ap, ◌∙◌, subst, arith, zero, suc}
use Rattle.std.specs.List.{Contains, slice_get}
use Rattle.std.proofs.lemmas.List.{append_assoc, take-append-drop}
use Rattle.std.proofs.lemmas.List.Elements.{Contains-append_right, Contains-append_cases}
use Rattle.std.proofs.lemmas.Option.{none-some, same_Some}
use Rattle.klsm_run.specs.declared.item.Item.{Item}
use Rattle.klsm_run.specs.Content.{sorted, without, IsAscending, ShareNone}
use Rattle.klsm_run.proofs.ContainsLemmas.{contains_sorted, contains_unsorted}
use Rattle.klsm_run.proofs.ContentLemmas.{sorted_itself, sorted_swap, sorted_same_behind, sharing_none_if_apart}
use Rattle.klsm_run.proofs.IndexLemmas.{contains_at}
use Rattle.klsm_run.proofs.LeastLemmas.{without_first}
use Rattle.klsm_lsm.specs.Adding.{add}
use Rattle.klsm_parts.specs.Events.{plus}
use Rattle.klsm_parts.specs.Stealing.{MaySteal, AreCutFrom, own_after_steal, victim_after_steal, steal_count, with_each}
use Rattle.klsm_parts.proofs.RefillLemmas.{take_parts, split_apart, may_refill, are_moved, refill_leaves}

-- how many may move, reckoned from the sizes
pub steal_counted : (most k : ℕ) (own victim : List Item) (size limit held first n : ℕ) → size ≡ length victim → limit ≡ k → held ≡ length own
    → first ≡ min most (size - size / 2) → n ≡ min first (limit - held) → n ≡ steal_count most k own victim
steal_counted most k own victim size limit held first n sized limited holds halved is = omega (arith, sized, limited, holds, halved, is)

-- the first item of a list
pub first_taken : (xs : List Item) (x : Item) → slice_get xs 0 ≡ Some x → take 1 xs ≡ x ∷ []
first_taken [] x first = absurd (none-some x first)
first_taken (y ∷ ys) x first = ap (λ z. z ∷ []) (same_Some y x first)

-- and what it leaves
pub without_least : (xs : List Item) (x : Item) → slice_get xs 0 ≡ Some x → without x xs ≡ drop 1 xs
without_least [] x first = absurd (none-some x first)
without_least (y ∷ ys) x first = subst (λ z. without z (y ∷ ys) ≡ ys) (same_Some y x first) (without_first y ys)

-- it is not in a part that shares none with it
pub least_is_new : (own victim : List Item) (x : Item) → ShareNone (sorted own) (sorted victim) → slice_get (sorted victim) 0 ≡ Some x → Contains own x → ⊥
least_is_new own victim x apart first within = apart x (contains_sorted x own within) (contains_at (sorted victim) 0 x first)

-- with no item more, a part is as it was
pub plus_none : (c : List Item) → sorted c ≡ plus (sorted c) []
plus_none c = sym (sorted_itself c)

-- one item more
pub plus_more : (n : ℕ) (own victim : List Item) → plus (plus own (take n victim)) (take 1 (drop n victim)) ≡ plus own (take (n + 1) victim)
plus_more n own victim =
    let a = take 1 (drop n victim) in let b = take n victim in
    sorted_same_behind a (sorted (b ++ own)) (b ++ own) (sorted_itself (b ++ own))
    ∙ (ap sorted (sym (append_assoc a b own)) ∙ (sorted_swap (a ++ b) own ∙ (sorted_same_behind own (a ++ b) (b ++ a) (sorted_swap a b)
    ∙ (sorted_swap own (b ++ a) ∙ ap (λ xs. sorted (xs ++ own)) (sym (take_parts n 1 victim))))))

-- what is left shares none with the part that the others went to
pub still_apart : (n : ℕ) (own victim : List Item) → IsAscending victim → ShareNone own victim → ShareNone (plus own (take n victim)) (drop n victim)
still_apart n own victim up apart x in_own in_rest =
    let in_victim : Contains victim x = subst (λ xs. Contains xs x) (take-append-drop n victim) (Contains-append_right (take n victim) (drop n victim) x in_rest) in
    elim (Contains-append_cases (take n victim) own x (contains_unsorted x (take n victim ++ own) in_own)) [
      | inl moved ↦ sharing_none_if_apart (take n victim) (drop n victim) (split_apart n victim up) x moved in_rest
      | inr had ↦ apart x had in_victim
    ]

-- the n least items of a content may be stolen, where there is room, and what they leave is the rest
pub record AreStolen (k n : ℕ) (own c after left : List Item) : Type 0 where
  pub may : MaySteal k own (sorted c) (take n (sorted c))
  pub own_is : after ≡ own_after_steal own (take n (sorted c))
  pub left_is : left ≡ victim_after_steal (sorted c) (take n (sorted c))

pub are_stolen : (k n : ℕ) (own c after left : List Item) → 0 < n → n ≤ length c → length own + n ≤ k → IsAscending (sorted c)
    → after ≡ plus own (take n (sorted c)) → left ≡ drop n (sorted c) → AreStolen k n own c after left
are_stolen k n own c after left some few room up joined rest =
    let may = may_refill k n own c some few room up in
    let leaves = refill_leaves n own after c (take n (sorted c)) left up (are_moved n n (sorted c) (take n (sorted c)) left refl refl rest) joined in
    record {
      may = record { some = may.some; ascending = may.ascending; within = may.within; room = may.room };
      own_is = leaves.0;
      left_is = leaves.1;
    }

-- one item more is added
pub with_one_more : (n : ℕ) (bs : List (List Item)) (xs : List Item) → n < length xs → add (with_each bs (take n xs)) (take 1 (drop n xs)) ≡ with_each bs (take (n + 1) xs)
with_one_more n bs [] more = absurd (omega (arith, more))
with_one_more zero bs (x ∷ xs) more = refl
with_one_more (suc n) bs (x ∷ xs) more =
    let next : suc n + 1 ≡ suc (n + 1) = omega arith in
    rw next (with_one_more n (add bs (x ∷ [])) xs (omega (arith, more)))

-- and cut out
pub cut_one_more : (n : ℕ) (xs : List Item) (before between after : List (List Item)) → AreCutFrom (take n xs) before between → AreCutFrom (take 1 (drop n xs)) between after → AreCutFrom (take (n + 1) xs) before after
cut_one_more zero xs before between after first last = subst (λ bs. AreCutFrom (take 1 xs) bs after) first last
cut_one_more (suc n) [] before between after first last = let next : suc n + 1 ≡ suc (n + 1) = omega arith in rw next (last ∙ first)
cut_one_more (suc n) (x ∷ xs) before between after first last =
    let next : suc n + 1 ≡ suc (n + 1) = omega arith in
    rw next (first.0, first.1, cut_one_more n xs first.0 between after first.2 last)
