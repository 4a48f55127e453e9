-- What takes effect at a flush and at a take, on blocks, and that a take skips at most k items.
use Rattle.std.proofs.Common.{◌≡◌, ℕ, ◌+◌, ◌<◌, ◌≤◌, Bool, true, false, cond, ◌≢◌, List, [], ◌∷◌, ◌++◌, length, get_or, take, Option, Some, None, refl, sym, ap, ◌∙◌, subst, arith, zero, suc, ◌⊎◌, inl, inr}
use Rattle.std.specs.List.{Contains, slice_get, count_by}
use Rattle.std.specs.Ordering.{is_lt}
use Rattle.std.proofs.lemmas.Bool.{ne_eqb}
use Rattle.std.proofs.lemmas.List.{length-append}
use Rattle.std.proofs.lemmas.List.Elements.{Contains-append_left, Contains-append_right}
use Rattle.std.proofs.lemmas.List.Sums.{sum_by-cons, sum_by-append}
use Rattle.klsm_run.specs.declared.item.Item.{Item}
use Rattle.klsm_run.specs.ItemOrder.{is_same, is_smaller, IsSmaller}
use Rattle.klsm_run.specs.Content.{placed, sorted, without, skipped}
use Rattle.klsm_run.proofs.AllLemmas.{all_weaker}
use Rattle.klsm_run.proofs.SortedLemmas.{length_sorted}
use Rattle.klsm_run.proofs.ContentLemmas.{sorted_middle, sorted_swap, sorted_same_behind, sorted_itself}
use Rattle.klsm_run.proofs.LeastLemmas.{Has, same_as_itself, without_first, skipped_none}
use Rattle.klsm_run.proofs.LesserLemmas.{lesser, lesser_first, lesser_second, first_placed}
use Rattle.klsm_run.proofs.RankLemmas.{empty_if_no_least, count_none, count_sorted, skipped_at_most, skipped_append, skipped_not_above, none_below_least, least_skips_none}
use Rattle.klsm_run.proofs.ContainsLemmas.{contains_unsorted, contains_if_has, has_if_contains}
use Rattle.klsm_run.proofs.IndexLemmas.{slice_get-take, taken_at, contains_at, index_of}
use Rattle.klsm_run.proofs.WithoutLemmas.{without_placed, without_absent, sorted_without, has_or_new, same_not}
use Rattle.klsm_lsm.specs.Lsm.{content, IsLsm}
use Rattle.klsm_lsm.specs.Level.{level}
use Rattle.klsm_lsm.specs.Adding.{add, cut}
use Rattle.klsm_lsm.proofs.JoinLemmas.{some_in_block}
use Rattle.klsm_lsm.proofs.AddLemmas.{sorted_add}
use Rattle.klsm_lsm.proofs.CutLemmas.{sorted_cut}
use Rattle.klsm_parts.specs.Least.{least, IsLeast}
use Rattle.klsm_parts.specs.Events.{IsWithin, minus, MayFlush, IsInReach, MayFindNothing, own_after_flush, shared_after_flush, own_after_take, shared_after_take, times}
use Rattle.klsm_parts.specs.Taking.{IsCutFrom}

-- an item in reach is larger than at most k items of the own part and the shared one together
pub take_skips_few : (k : ℕ) (own shared : List Item) (x : Item) → IsInReach k own shared x → skipped (own ++ shared) x ≤ k
take_skips_few k own shared x (inl taken) =
    let none : skipped shared x ≡ 0 = ap (λ c. skipped c x) taken.0 in
    omega (arith, skipped_append own shared x, none, least_skips_none x own taken.1)
take_skips_few k own shared x (inr taken) =
    let at = index_of (least (k + 1) shared) taken.0 taken.1 in
    let place = taken_at (k + 1) (sorted shared) at.0 taken.0 at.1 in
    let low = none_below_least x (taken.0 ∷ own) taken.2 in
    omega (arith, skipped_append own shared x, skipped_none x own low.1, skipped_not_above x taken.0 shared low.0, skipped_at_most shared at.0 taken.0 place.1, place.0)

-- without items that were moved the others are left
pub minus_moved : (moved rest c : List Item) → sorted c ≡ sorted (moved ++ rest) → minus (sorted c) moved ≡ sorted rest
minus_moved [] rest c same = same
minus_moved (x ∷ moved) rest c same =
    ap (λ d. minus d moved) (ap (without x) same ∙ without_placed x (sorted (moved ++ rest))) ∙ minus_moved moved rest (moved ++ rest) refl

-- with the first block moved and an item put in, that item and the other blocks are left
left_after_block : (b : List Item) (rest : List (List Item)) (x : Item) → own_after_flush (sorted (content (b ∷ rest))) x b ≡ sorted (x ∷ content rest)
left_after_block b rest x =
    minus_moved b (x ∷ content rest) (x ∷ sorted (b ++ content rest))
    (ap (placed x) (sorted_itself (b ++ content rest)) ∙ sym (sorted_middle x b (content rest)))

block_within : (b : List Item) (rest : List (List Item)) (x : Item) → IsWithin b (x ∷ sorted (content (b ∷ rest)))
block_within b rest x y =
    let count : List Item → ℕ = count_by (is_same y) in
    omega (
      arith,
      sum_by-cons (λ z. cond (is_same y z) 1 0) x (sorted (b ++ content rest)),
      count_sorted (is_same y) (b ++ content rest),
      sum_by-append (λ z. cond (is_same y z) 1 0) b (content rest),
    )

-- a flush may move the first block, and leaves the other blocks with the item
pub flush_block : (k : ℕ) (b : List Item) (rest : List (List Item)) (x : Item) → IsLsm (b ∷ rest) → length (content (b ∷ rest)) ≤ k
    → MayFlush k (sorted (content (b ∷ rest))) x b × (sorted (content (add rest (x ∷ []))) ≡ own_after_flush (sorted (content (b ∷ rest))) x b)
flush_block k b rest x lsm few = (
  record {
    ascending = lsm.0.0;
    within = block_within b rest x;
    few_stay = omega (arith, few, some_in_block (level b) b lsm.0, length-append b (content rest), ap length (left_after_block b rest x), length_sorted (x ∷ content rest));
  },
  sorted_add rest (x ∷ []) ∙ (sorted_swap (content rest) (x ∷ []) ∙ sym (left_after_block b rest x)),
)

-- a flush at an own part that is to stay empty moves the item itself
pub flush_item : (x : Item) → MayFlush 0 [] x (x ∷ []) × ([] ≡ own_after_flush [] x (x ∷ []))
flush_item x = (
  record {
    ascending = (tt, tt);
    within = λ y. omega arith;
    few_stay = omega (arith, ap length (without_first x []));
  },
  sym (without_first x []),
)

-- what a flush leaves in the shared part
pub shared_flushed : (bs : List (List Item)) (moved : List Item) → sorted (content (add bs moved)) ≡ shared_after_flush (sorted (content bs)) moved
shared_flushed bs moved =
    sorted_add bs moved ∙ (sorted_swap (content bs) moved ∙ sorted_same_behind moved (content bs) (sorted (content bs)) (sym (sorted_itself (content bs))))

-- a part with an item cut out is what a take leaves
pub cut_is_taken : (bs rest : List (List Item)) (x : Item) → IsCutFrom x bs rest → sorted (content rest) ≡ own_after_take (sorted (content bs)) x
cut_is_taken bs rest x taken =
    let left = content (cut bs taken.0 taken.1) in
    ap (λ cs. sorted (content cs)) taken.3 ∙ (sym (without_placed x (sorted left)) ∙ ap (without x) (sorted_cut bs taken.0 taken.1 x taken.2))

-- a take leaves a part that does not have its item as it was
pub not_taken : (bs : List (List Item)) (x : Item) → (Contains (content bs) x → ⊥) → sorted (content bs) ≡ own_after_take (sorted (content bs)) x
not_taken bs x absent = sym (ap sorted (without_absent x (content bs) absent)) ∙ sorted_without x (content bs)

contains_in_block : (bs : List (List Item)) (at : ℕ) (x : Item) → Contains (get_or bs at []) x → Contains (content bs) x
contains_in_block [] at x within = absurd (omega (arith, within.1))
contains_in_block (b ∷ bs) zero x within = Contains-append_left b (content bs) x within
contains_in_block (b ∷ bs) (suc at) x within = Contains-append_right b (content bs) x (contains_in_block bs at x within)

-- an item that was cut out was there
pub contains_cut : (bs rest : List (List Item)) (x : Item) → IsCutFrom x bs rest → Contains (content bs) x
contains_cut bs rest x taken = contains_in_block bs taken.0 x (contains_at (get_or bs taken.0 []) taken.1 x taken.2)

-- an item that is in a content is counted there
times_absent : (x : Item) (c : List Item) → (Contains c x → ⊥) → times x c ≡ 0
times_absent x c absent = elim (has_or_new x c) [
  | inl has ↦ absurd (absent (contains_if_has x c has))
  | inr new ↦ count_none (is_same x) c (all_weaker (λ y. y ≢ x) (λ y. is_same x y ≡ false) (λ y other. same_not x y other) c new)
]

times_present : (x : Item) (c : List Item) → Contains c x → times x c ≡ 0 → ⊥
times_present x c within none = none_if_has c (has_if_contains x c within) none
  where
    none_if_has : (c : List Item) → Has x c → times x c ≡ 0 → ⊥
    none_if_has [] has none = absurd has
    none_if_has (y ∷ ys) (inl here) none =
        let one : is_same x y ≡ true = ap (is_same x) here ∙ same_as_itself x in
        let count : times x (y ∷ ys) ≡ cond (is_same x y) 1 0 + times x ys = sum_by-cons (λ z. cond (is_same x z) 1 0) y ys in
        let some : 0 + cond (is_same x y) 1 0 ≡ 1 = ap (λ (b : Bool). 0 + cond b 1 0) one in
        absurd (omega (arith, none, count, some))
    none_if_has (y ∷ ys) (inr there) none =
        let count : times x (y ∷ ys) ≡ cond (is_same x y) 1 0 + times x ys = sum_by-cons (λ z. cond (is_same x z) 1 0) y ys in
        let rest : times x ys ≡ 0 = omega (arith, none, count) in
        none_if_has ys there rest

-- a take of a shared item, and one of an own item, which leaves the shared part as it was
pub shared_taken : (own shared rest : List (List Item)) (x : Item) → (Contains (content own) x → ⊥) → IsCutFrom x shared rest → sorted (content rest) ≡ shared_after_take (sorted (content own)) (sorted (content shared)) x
shared_taken own shared rest x absent taken =
    let none : times x (sorted (content own)) ≡ 0 = count_sorted (is_same x) (content own) ∙ times_absent x (content own) absent in
    rw none (cut_is_taken shared rest x taken)

pub shared_stays : (own shared : List (List Item)) (x : Item) → Contains (content own) x → sorted (content shared) ≡ shared_after_take (sorted (content own)) (sorted (content shared)) x
shared_stays own shared x within =
    let some : times x (sorted (content own)) ≡ 0 → ⊥ = λ none. times_present x (content own) within (sym (count_sorted (is_same x) (content own)) ∙ none) in
    rw (ne_eqb (times x (sorted (content own))) 0 some) refl

-- the least item of a content is in it
pub is_in : (x : Item) (c : List Item) → IsLeast x c → Contains c x
is_in x c first = contains_unsorted x c (contains_at (sorted c) 0 x first)

-- of a candidate and a content, the candidate is the least item where no item is smaller than it, else the content's least item is
pub first_of_both : (candidate : Item) (own : List Item) (o : Option Item) → slice_get (sorted own) 0 ≡ o → slice_get (sorted (candidate ∷ own)) 0 ≡ lesser (Some candidate) o
first_of_both candidate own o first = first_placed candidate (sorted own) ∙ ap (lesser (Some candidate)) first

pub least_alone : (candidate : Item) (own : List Item) → slice_get (sorted own) 0 ≡ None → IsLeast candidate (candidate ∷ own)
least_alone candidate own none = first_of_both candidate own None none

pub least_candidate : (candidate y : Item) (own : List Item) → slice_get (sorted own) 0 ≡ Some y → is_smaller y candidate ≡ false → IsLeast candidate (candidate ∷ own)
least_candidate candidate y own first not_smaller = first_of_both candidate own (Some y) first ∙ ap Some (lesser_first candidate y not_smaller)

pub least_own : (candidate y : Item) (own : List Item) → slice_get (sorted own) 0 ≡ Some y → is_smaller y candidate ≡ true → IsLeast y (candidate ∷ own)
least_own candidate y own first smaller = first_of_both candidate own (Some y) first ∙ ap Some (lesser_second candidate y smaller)

-- the least item of a candidate and the own part is in reach
pub candidate_in_reach : (k : ℕ) (own shared : List Item) (candidate : Item) (index : ℕ) (x : Item) → index < k + 1 → slice_get (sorted shared) index ≡ Some candidate → IsLeast x (candidate ∷ own) → IsInReach k own shared x
candidate_in_reach k own shared candidate index x among found first =
    inr (candidate, contains_at (least (k + 1) shared) index candidate (slice_get-take (k + 1) (sorted shared) index among ∙ found), first)

-- so is the least own item where the shared part is empty, or its least item is larger
pub own_in_reach : (k : ℕ) (own shared : List Item) (x : Item) → IsLeast x own → (shared ≡ []) ⊎ ((y : Item) × IsLeast y shared × IsSmaller x y) → IsInReach k own shared x
own_in_reach k own shared x first (inl empty) = inl (empty, first)
own_in_reach k own shared x first (inr other) =
    candidate_in_reach k own shared other.0 0 x (omega arith) other.1 (least_own other.0 x own first (ap is_lt other.2))

-- contents may be sorted first
pub in_reach_sorted : (k : ℕ) (own shared : List Item) (x : Item) → IsInReach k own shared x → IsInReach k (sorted own) (sorted shared) x
in_reach_sorted k own shared x (inl taken) = inl (ap sorted taken.0, ap (λ c. slice_get c 0) (sorted_itself own) ∙ taken.1)
in_reach_sorted k own shared x (inr taken) = inr (
  taken.0,
  subst (λ c. Contains (take (k + 1) c) taken.0) (sym (sorted_itself shared)) taken.1,
  ap (λ c. slice_get (placed taken.0 c) 0) (sorted_itself own) ∙ taken.2,
)

-- a take finds nothing where no part has a least item
pub may_find_nothing : (own shared : List Item) → slice_get (sorted own) 0 ≡ None → slice_get (sorted shared) 0 ≡ None → MayFindNothing (sorted own) (sorted shared)
may_find_nothing own shared none_own none_shared = record {
  own_empty = ap sorted (empty_if_no_least own none_own);
  shared_empty = ap sorted (empty_if_no_least shared none_shared);
}

-- a part with no items has no blocks
pub no_items : (bs : List (List Item)) → IsLsm bs → length (content bs) ≡ 0 → bs ≡ []
no_items [] lsm none = refl
no_items (b ∷ bs) lsm none = absurd (omega (arith, none, length-append b (content bs), some_in_block (level b) b lsm.0))
