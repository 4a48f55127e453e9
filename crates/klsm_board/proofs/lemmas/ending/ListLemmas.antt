-- The parts of a closed board, taken out one after another.
use Rattle.std.proofs.Common.{◌≡◌, ℕ, zero, suc, ◌+◌, ◌<◌, ◌≤◌, Bool, true, false, List, [], ◌∷◌, ◌++◌, length, take, drop, get_or, set, append-nil, sym, ap, ◌∙◌, arith, length-append, take-append-drop}
use Rattle.std.specs.List.{flat_map}
use Rattle.std.proofs.lemmas.List.{get_or-set_same, get_or-set_other}
use Rattle.std.proofs.lemmas.Grind.{flat_map-append}
use mathlib.Core.Logic.{dite}
use native.Mathlib.Decide.{ℕ_discrete}
use mathlib.Core.Option.{some, some-injective, some-ne-none}
use lib.ListN.{get_elem?}
use Rattle.klsm_run.specs.declared.item.Item.{Item}
use Rattle.klsm_run.specs.Content.{sorted}
use Rattle.klsm_run.proofs.SortedLemmas.{length_sorted}
use Rattle.klsm_run.proofs.ContentLemmas.{sorted_same_behind, sorted_sorted}
use Rattle.klsm_schedules.proofs.lemmas.lists.ListLemmas.{items_more}

-- what is found at a place within a list
pub got : {A : Type 0} (xs : List A) (n : ℕ) (y d : A) → get_elem? xs n ≡ some y → get_or xs n d ≡ y
got [] n y d there = absurd (some-ne-none y (sym there))
got (x ∷ xs) zero y d there = some-injective x y there
got (x ∷ xs) (suc n) y d there = got xs n y d there

-- a list that stands behind another counts in the order as its ascending list does
sorted_in_turn : (all before items next : List Item) → sorted all ≡ sorted before → sorted items ≡ next → sorted (all ++ items) ≡ sorted (before ++ next)
sorted_in_turn all before items next same is =
    let twice : sorted next ≡ sorted items = ap sorted (sym is) ∙ (ap sorted (sym (append-nil (sorted items))) ∙ (sorted_sorted items [] ∙ ap sorted (append-nil items))) in
    sym (sorted_sorted all items) ∙ (ap (λ z. sorted (z ++ items)) same ∙ (sorted_sorted before items ∙ sorted_same_behind before items next (sym twice)))

module _ {S : Type 0} (content : S → List Item) where
  -- the first n slots are empty and the others are not, and a list has the items of the first n
  pub record AreOut (slots : List S) (n : ℕ) (filled : List Bool) (all : List Item) (len cap cap' : ℕ) : Type 0 where
    pub out : (i : ℕ) → i < n → get_or filled i false ≡ false
    pub there : (i : ℕ) → n ≤ i → i < length slots → get_or filled i false ≡ true
    pub sorted_are : sorted all ≡ sorted (flat_map content (take n slots))
    pub len_is : len ≡ length (flat_map content (take n slots))
    pub room : cap ≤ cap'

  -- the items of the next part are within those of all
  pub part_within : (slots : List S) (n : ℕ) (y : S) → n < length slots → get_elem? slots n ≡ some y
      → length (flat_map content (take n slots)) + length (content y) ≤ length (flat_map content slots)
  part_within slots n y within there =
      let more : flat_map content (take (n + 1) slots) ≡ flat_map content (take n slots) ++ content y = items_more content slots n y within ∙ ap (λ z. flat_map content (take n slots) ++ content z) (got slots n y y there) in
      let longer = ap length more ∙ length-append (flat_map content (take n slots)) (content y) in
      let whole : length (flat_map content slots) ≡ length (flat_map content (take (n + 1) slots)) + length (flat_map content (drop (n + 1) slots)) =
      ap (λ z. length (flat_map content z)) (sym (take-append-drop (n + 1) slots))
      ∙ (ap length (flat_map-append content (take (n + 1) slots) (drop (n + 1) slots)) ∙ length-append (flat_map content (take (n + 1) slots)) (flat_map content (drop (n + 1) slots))) in
      omega (arith, longer, whole)

  -- one part more is out
  pub one_more_out : (slots : List S) (n : ℕ) (filled : List Bool) (all : List Item) (len cap cap' : ℕ) (y : S) (items : List Item) (cap'' : ℕ) → n < length slots → length filled ≡ length slots → get_elem? slots n ≡ some y
      → sorted items ≡ content y → cap' ≤ cap'' → AreOut slots n filled all len cap cap' → AreOut slots (n + 1) (set filled n false) (all ++ items) (len + length items) cap cap''
  one_more_out slots n filled all len cap cap' y items cap'' within lens there is room out =
      let more : flat_map content (take (n + 1) slots) ≡ flat_map content (take n slots) ++ content y = items_more content slots n y within ∙ ap (λ z. flat_map content (take n slots) ++ content z) (got slots n y y there) in
      let longer = ap length more ∙ length-append (flat_map content (take n slots)) (content y) in
      let many : length items ≡ length (content y) = sym (length_sorted items) ∙ ap length is in
      record {
        out = λ i below. dite (ℕ_discrete i n)
            (λ here. ap (λ j. get_or (set filled n false) j false) here ∙ get_or-set_same filled n false false (omega (arith, lens, within)))
            (λ other. get_or-set_other filled n i false false other ∙ out.out i (omega (arith, below, other)));
        there = λ i from below. get_or-set_other filled n i false false (λ same. omega (arith, same, from)) ∙ out.there i (omega (arith, from)) below;
        sorted_are = sorted_in_turn all (flat_map content (take n slots)) items (content y) out.sorted_are is ∙ ap sorted (sym more);
        len_is = omega (arith, out.len_is, longer, many);
        room = omega (arith, out.room, room);
      }
