-- How often each item is in what an event leaves, and how many items that has.
use Rattle.std.proofs.Common.{◌≡◌, ◌≢◌, ℕ, ◌+◌, ◌<◌, ◌≤◌, Bool, false, cond, List, [], ◌∷◌, ◌++◌, length, refl, ap, ◌∙◌, subst, arith, suc, inl, inr, if◌then◌else◌}
use Rattle.std.specs.List.{Contains}
use Rattle.std.proofs.lemmas.Bool.{cases_eq, eq-eqb, ne_eqb}
use Rattle.std.proofs.lemmas.List.{length-append}
use Rattle.std.proofs.lemmas.List.Sums.{sum_by-cons, sum_by-append}
use Rattle.klsm_run.specs.declared.item.Item.{Item}
use Rattle.klsm_run.specs.ItemOrder.{is_same}
use Rattle.klsm_run.specs.Content.{sorted, without}
use Rattle.klsm_run.proofs.AllLemmas.{all_weaker}
use Rattle.klsm_run.proofs.SortedLemmas.{IsNew, length_sorted}
use Rattle.klsm_run.proofs.ContainsLemmas.{contains_if_has, has_if_contains, contains_unsorted}
use Rattle.klsm_run.proofs.IndexLemmas.{taken_at, contains_at, index_of}
use Rattle.klsm_run.proofs.LeastLemmas.{Has, same_as_itself, without_first}
use Rattle.klsm_run.proofs.RankLemmas.{count_none, count_sorted}
use Rattle.klsm_run.proofs.WithoutLemmas.{same_not, same_or_other, without_later, without_new, has_or_new}
use Rattle.klsm_parts.specs.Least.{least}
use Rattle.klsm_parts.specs.Events.{times, IsWithin, plus, minus, MayFlush, IsInReach, MayTakeEarly, MaySpy, MayRefill, own_after_put, own_after_flush, shared_after_flush, own_after_take, shared_after_take, own_after_early, own_after_spy, victim_after_spy, own_after_refill, shared_after_refill}
use Rattle.klsm_parts.specs.Stealing.{MaySteal, own_after_steal, victim_after_steal}
use Rattle.klsm_parts.specs.Sharing.{MayShare, own_after_share, shared_after_share}
use Rattle.klsm_parts.proofs.EventLemmas.{is_in}

-- one more item counts where it is the item sought
pub times_more : (x y : Item) (c : List Item) → times x (y ∷ c) ≡ times x (y ∷ []) + times x c
times_more x y c = sum_by-append (λ z. cond (is_same x z) 1 0) (y ∷ []) c

-- an item of its own is there once
pub times_itself : (x : Item) → times x (x ∷ []) ≡ 1
times_itself x =
    let one : cond (is_same x x) 1 0 + times x [] ≡ 1 = ap (λ (b : Bool). cond b 1 0 + times x []) (same_as_itself x) in
    sum_by-cons (λ z. cond (is_same x z) 1 0) x [] ∙ one

-- and another item not at all
pub times_other : (x y : Item) → y ≢ x → times x (y ∷ []) ≡ 0
times_other x y other =
    let none : cond (is_same x y) 1 0 + times x [] ≡ 0 = ap (λ (b : Bool). cond b 1 0 + times x []) (same_not x y other) in
    sum_by-cons (λ z. cond (is_same x z) 1 0) y [] ∙ none

-- two lists after one another have the items of both
pub times_append : (x : Item) (c d : List Item) → times x (c ++ d) ≡ times x c + times x d
times_append x c d = sum_by-append (λ z. cond (is_same x z) 1 0) c d

-- an item that a content has is counted there
pub times_has : (x : Item) (c : List Item) → Has x c → 0 < times x c
times_has x [] has = absurd has
times_has x (y ∷ c) (inl here) = let one : times x (y ∷ []) ≡ 1 = ap (λ z. times x (z ∷ [])) here ∙ times_itself x in omega (arith, times_more x y c, one)
times_has x (y ∷ c) (inr there) = omega (arith, times_more x y c, times_has x c there)

-- one that it does not have is not counted
pub times_new : (x : Item) (c : List Item) → IsNew x c → times x c ≡ 0
times_new x c new = count_none (is_same x) c (all_weaker (λ y. y ≢ x) (λ y. is_same x y ≡ false) (λ y other. same_not x y other) c new)

-- an item that a content contains is counted there
pub times_contained : (x : Item) (c : List Item) → Contains c x → 0 < times x c
times_contained x c within = times_has x c (has_if_contains x c within)

-- an item that is counted is contained
pub contained_if_counted : (x : Item) (c : List Item) → 0 < times x c → Contains c x
contained_if_counted x c some = elim (has_or_new x c) [
  | inl has ↦ contains_if_has x c has
  | inr new ↦ absurd (omega (arith, some, times_new x c new))
]

has_if_counted : (x : Item) (c : List Item) → 0 < times x c → Has x c
has_if_counted x c some = elim (has_or_new x c) [ inl has ↦ has | inr new ↦ absurd (omega (arith, some, times_new x c new)) ]

-- a content with the items of another counts both
pub times_plus : (x : Item) (c joining : List Item) → times x (plus c joining) ≡ times x joining + times x c
times_plus x c joining = count_sorted (is_same x) (joining ++ c) ∙ times_append x joining c

-- and has as many items as both
pub length_plus : (c joining : List Item) → length (plus c joining) ≡ length joining + length c
length_plus c joining = length_sorted (joining ++ c) ∙ length-append joining c

-- a content without one of its items, with that item
times_taken : (x y : Item) (c : List Item) → Has y c → times x (without y c) + times x (y ∷ []) ≡ times x c
times_taken x y [] has = absurd has
times_taken x y (z ∷ c) has = elim (same_or_other y z) [
  | inl same ↦
      let left : times x (without y (z ∷ c)) ≡ times x c = ap (times x) (ap (λ u. without y (u ∷ c)) same ∙ without_first y c) in
      let one : times x (z ∷ []) ≡ times x (y ∷ []) = ap (λ u. times x (u ∷ [])) same in
      omega (arith, left, one, times_more x z c)
  | inr other ↦
      let later : Has y c = elim has [ inl here ↦ absurd (other here) | inr there ↦ there ] in
      let left : times x (without y (z ∷ c)) ≡ times x (z ∷ without y c) = ap (times x) (without_later y z c other) in
      omega (arith, left, times_more x z (without y c), times_more x z c, times_taken x y c later)
]

-- a content without one of its items, with that item, counts as the content
pub times_without : (x y : Item) (c : List Item) → 0 < times y c → times x (without y c) + times x (y ∷ []) ≡ times x c
times_without x y c some = times_taken x y c (has_if_counted y c some)

-- a content is as it was without an item that it does not have
pub without_uncounted : (y : Item) (c : List Item) → times y c ≡ 0 → without y c ≡ c
without_uncounted y c none = elim (has_or_new y c) [
  | inl has ↦ absurd (omega (arith, none, times_has y c has))
  | inr new ↦ without_new y c new
]

length_taken : (y : Item) (c : List Item) → Has y c → length (without y c) + 1 ≡ length c
length_taken y [] has = absurd has
length_taken y (z ∷ c) has = elim (same_or_other y z) [
  | inl same ↦
      let left : length (without y (z ∷ c)) ≡ length c = ap length (ap (λ u. without y (u ∷ c)) same ∙ without_first y c) in
      omega (arith, left)
  | inr other ↦
      let later : Has y c = elim has [ inl here ↦ absurd (other here) | inr there ↦ there ] in
      let left : length (without y (z ∷ c)) ≡ suc (length (without y c)) = ap length (without_later y z c other) in
      omega (arith, left, length_taken y c later)
]

-- a content without one of its items has one item less
pub length_without : (y : Item) (c : List Item) → 0 < times y c → length (without y c) + 1 ≡ length c
length_without y c some = length_taken y c (has_if_counted y c some)

-- and whether it has the item or not, it has no more items than it had
pub length_without_at_most : (y : Item) (c : List Item) → length (without y c) ≤ length c
length_without_at_most y c = elim (has_or_new y c) [
  | inl has ↦ omega (arith, length_taken y c has)
  | inr new ↦ omega (arith, ap length (without_new y c new))
]

-- the first of some items that are within a content is in it
pub first_within : (y : Item) (moved c : List Item) → IsWithin (y ∷ moved) c → 0 < times y c
first_within y moved c within = omega (arith, within y, times_more y y moved, times_itself y)

-- and the others are within the content without it
pub others_within : (y : Item) (moved c : List Item) → IsWithin (y ∷ moved) c → IsWithin moved (without y c)
others_within y moved c within x = omega (arith, within x, times_more x y moved, times_without x y c (first_within y moved c within))

-- a content without some of its items, with those, counts as the content
pub times_minus : (x : Item) (moved c : List Item) → IsWithin moved c → times x (minus c moved) + times x moved ≡ times x c
times_minus x [] c within = let none : times x [] ≡ 0 = refl in omega (arith, none)
times_minus x (y ∷ moved) c within =
    omega (arith, times_minus x moved (without y c) (others_within y moved c within), times_without x y c (first_within y moved c within), times_more x y moved)

-- and has as many items
pub length_minus : (moved c : List Item) → IsWithin moved c → length (minus c moved) + length moved ≡ length c
length_minus [] c within = omega arith
length_minus (y ∷ moved) c within =
    omega (arith, length_minus moved (without y c) (others_within y moved c within), length_without y c (first_within y moved c within))

-- what is within a content is within one that counts each item as often
pub within_counted : (moved c d : List Item) → ((x : Item) → times x c ≡ times x d) → IsWithin moved c → IsWithin moved d
within_counted moved c d same within x = omega (arith, within x, same x)

-- after a Put the own part has what it had and the item
pub put_counts : (x y : Item) (own : List Item) → times y (own_after_put own x) ≡ times y own + times y (x ∷ [])
put_counts x y own = omega (arith, times_plus y own (x ∷ []))

-- what a Flush moves is within the own part with the item
pub flush_within : (k : ℕ) (own : List Item) (x : Item) (moved : List Item) → MayFlush k own x moved → IsWithin moved (plus own (x ∷ []))
flush_within k own x moved may =
    within_counted moved (x ∷ own) (plus own (x ∷ [])) (λ z. omega (arith, times_more z x own, times_plus z own (x ∷ []))) may.within

-- after a Flush both parts together have what they had and the item
pub flush_counts : (k : ℕ) (own shared : List Item) (x y : Item) (moved : List Item) → MayFlush k own x moved
    → times y (own_after_flush own x moved) + times y (shared_after_flush shared moved) ≡ (times y own + times y shared) + times y (x ∷ [])
flush_counts k own shared x y moved may =
    omega (arith, times_minus y moved (plus own (x ∷ [])) (flush_within k own x moved may), times_plus y own (x ∷ []), times_plus y shared moved)

-- an item that a Take takes, and the own part does not have, is in the shared part
pub taken_from_shared : (k : ℕ) (own shared : List Item) (x : Item) → IsInReach k own shared x → times x own ≡ 0 → 0 < times x shared
taken_from_shared k own shared x (inl taken) none = absurd (omega (arith, none, times_contained x own (is_in x own taken.1)))
taken_from_shared k own shared x (inr taken) none =
    let candidate = taken.0 in
    let at = index_of (least (k + 1) shared) candidate taken.1 in
    let place = taken_at (k + 1) (sorted shared) at.0 candidate at.1 in
    let there : 0 < times candidate shared = times_contained candidate shared (contains_unsorted candidate shared (contains_at (sorted shared) at.0 candidate place.1)) in
    let either : 0 < times x (candidate ∷ own) = times_contained x (candidate ∷ own) (is_in x (candidate ∷ own) taken.2) in
    elim (same_or_other x candidate) [
      | inl same ↦ subst (λ z. 0 < times z shared) same there
      | inr other ↦ absurd (omega (arith, none, either, times_more x candidate own, times_other x candidate other))
    ]

-- after a Take both parts together have the item once less
pub take_counts : (k : ℕ) (own shared : List Item) (x y : Item) → IsInReach k own shared x
    → (times y (own_after_take own x) + times y (shared_after_take own shared x)) + times y (x ∷ []) ≡ times y own + times y shared
take_counts k own shared x y may = elim (cases_eq (times x own) 0) [
  | inl none ↦
      let stays : times y (without x own) ≡ times y own = ap (times y) (without_uncounted x own none) in
      let leaves : times y (shared_after_take own shared x) ≡ times y (without x shared) = ap (λ b. times y (if b then without x shared else shared)) (eq-eqb (times x own) 0 none) in
      omega (arith, stays, leaves, times_without y x shared (taken_from_shared k own shared x may none))
  | inr some ↦
      let stays : times y (shared_after_take own shared x) ≡ times y shared = ap (λ b. times y (if b then without x shared else shared)) (ne_eqb (times x own) 0 some) in
      omega (arith, stays, times_without y x own (omega (arith, some)))
]

-- after an Early the own part has the item once less
pub early_counts : (own : List Item) (x y : Item) (front : ℕ) → MayTakeEarly own x front → times y (own_after_early own x) + times y (x ∷ []) ≡ times y own
early_counts own x y front may = times_without y x own (times_contained x own (is_in x own may.least))

-- after a Spy both parts together have what they had
pub spy_counts : (own victim : List Item) (y : Item) (moved : List Item) → MaySpy own victim moved
    → times y (own_after_spy moved) + times y (victim_after_spy victim moved) ≡ times y own + times y victim
spy_counts own victim y moved may =
    let none : times y own ≡ 0 = ap (times y) may.own_empty in
    omega (arith, none, times_minus y moved victim may.within)

-- so they have after a Refill
pub refill_counts : (k : ℕ) (own shared : List Item) (y : Item) (moved : List Item) → MayRefill k own shared moved
    → times y (own_after_refill own moved) + times y (shared_after_refill shared moved) ≡ times y own + times y shared
refill_counts k own shared y moved may = omega (arith, times_plus y own moved, times_minus y moved shared may.within)

-- and after a Steal
pub steal_counts : (k : ℕ) (own victim : List Item) (y : Item) (moved : List Item) → MaySteal k own victim moved
    → times y (own_after_steal own moved) + times y (victim_after_steal victim moved) ≡ times y own + times y victim
steal_counts k own victim y moved may = omega (arith, times_plus y own moved, times_minus y moved victim may.within)

-- and after a Share
pub share_counts : (own shared : List Item) (y : Item) (moved : List Item) → MayShare own moved
    → times y (own_after_share own moved) + times y (shared_after_share shared moved) ≡ times y own + times y shared
share_counts own shared y moved may = omega (arith, times_minus y moved own may.within, times_plus y shared moved)
