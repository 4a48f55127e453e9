-- The live items: what an item that joins or leaves does to the set, to what it did not take, and to the content.
use Rattle.std.proofs.Common.{◌≡◌, ◌≢◌, ◌||◌, ℕ, ◌+◌, ◌<◌, ◌≤◌, Bool, true, false, cond, List, [], ◌∷◌, ◌++◌, length, get_or, not, position, Option, Some, None, IfSome, IsTrue, refl, sym, ap, ap₂, ◌∙◌, subst, arith, if◌then◌else◌, inl, inr}
use Rattle.std.specs.List.{All, AllByRecursion, Contains, count_by, position_or_len, swap_remove}
use Rattle.std.specs.List.Sorted.{IsPermutation}
use Rattle.std.specs.Option.{is_some}
use Rattle.std.specs.Ordering.{is_eq, match_ordering}
use Rattle.std.specs.declared.cmp.Ordering.{Ordering}
use Rattle.std.specs.declared.cmp.Ordering.TheVariants.{Less, Equal, Greater}
use Rattle.std.specs.BTreeSet.{insert_key}
use Rattle.std.specs.Set.{remove_key}
use Rattle.std.specs.List.Sorted.{IsStrictlySortedBy}
use Rattle.std.specs.List.{list_any, prefix_len}
use Rattle.std.proofs.lemmas.Bool.{cases_lt, cond_below}
use Rattle.std.proofs.lemmas.List.{append_assoc, append-nil}
use Rattle.std.proofs.lemmas.List.Elements.{recursion_from_All}
use Rattle.std.proofs.lemmas.List.Quantifiers.{position-Some}
use Rattle.std.proofs.lemmas.List.Sorted.{IsPermutation-swap_remove, sum_by-IsPermutation}
use Rattle.std.proofs.lemmas.List.Sums.{sum_by-cons}
use Rattle.std.proofs.lemmas.Option.{none-some}
use Rattle.klsm_run.specs.declared.item.Item.{Item}
use Rattle.klsm_run.specs.ItemOrder.{is_same, is_smaller, item_cmp}
use Rattle.klsm_run.specs.Content.{placed, sorted, without, skipped}
use Rattle.klsm_run.proofs.AllLemmas.{all_weaker}
use Rattle.klsm_run.proofs.ContainsLemmas.{contains_if_has, has_if_contains}
use Rattle.klsm_run.proofs.ContentLemmas.{sorted_middle, sorted_same_behind, sorted_sorted}
use Rattle.klsm_run.proofs.LeastLemmas.{not_below, Has, same_as_itself, skipped_none, without_first}
use Rattle.klsm_run.proofs.LesserLemmas.{not_smaller_trans}
use Rattle.klsm_run.proofs.OrderLemmas.{Below, Same, Above, not_smaller_than_itself, ranked}
use Rattle.klsm_run.proofs.RankLemmas.{count_none, count_sorted, skipped_append}
use Rattle.klsm_run.proofs.WithoutLemmas.{has_or_new, same_not, sorted_back, sorted_without, without_later, without_new, without_placed}

-- one item more is counted where it passes
counted_more : (p : Item → Bool) (y : Item) (c : List Item) → count_by p (y ∷ c) ≡ cond (p y) 1 0 + count_by p c
counted_more p y c = sum_by-cons (λ z. cond (p z) 1 0) y c

-- an item counts itself
counted_first : (x : Item) (c : List Item) → count_by (is_same x) (x ∷ c) ≡ 1 + count_by (is_same x) c
counted_first x c = counted_more (is_same x) x c ∙ ap (λ (b : Bool). cond b 1 0 + count_by (is_same x) c) (same_as_itself x)

-- an item that is counted is there
has_if_counted : (x : Item) (c : List Item) → 0 < count_by (is_same x) c → Has x c
has_if_counted x c some = elim (has_or_new x c) [
  | inl has ↦ has
  | inr new ↦ absurd (omega (arith, some, count_none (is_same x) c (all_weaker (λ y. y ≢ x) (λ y. is_same x y ≡ false) (λ y other. same_not x y other) c new)))
]

-- lists that have each item as often are one content
same_if_counted : (c d : List Item) → ((x : Item) → count_by (is_same x) c ≡ count_by (is_same x) d) → sorted c ≡ sorted d
same_if_counted [] [] same = refl
same_if_counted [] (y ∷ ys) same = absurd (omega (arith, same y, counted_first y ys))
same_if_counted (y ∷ ys) d same =
    let has : Has y d = has_if_counted y d (omega (arith, same y, counted_first y ys)) in
    let back : sorted (y ∷ without y d) ≡ sorted d = sorted_back y d has in
    let rest : (x : Item) → count_by (is_same x) ys ≡ count_by (is_same x) (without y d) = λ x.
    let whole : count_by (is_same x) (y ∷ without y d) ≡ count_by (is_same x) d =
    sym (count_sorted (is_same x) (y ∷ without y d)) ∙ (ap (count_by (is_same x)) back ∙ count_sorted (is_same x) d) in
    omega (arith, whole, same x, counted_more (is_same x) y ys, counted_more (is_same x) y (without y d)) in
    ap (placed y) (same_if_counted ys (without y d) rest) ∙ back

-- a list in another order is the same content
sorted_permuted : (c d : List Item) → IsPermutation c d → sorted c ≡ sorted d
sorted_permuted c d moved = sym (same_if_counted d c (λ x. sum_by-IsPermutation (λ y. cond (is_same x y) 1 0) c d moved))

-- items that are the same are one
one_if_same : (x y : Item) → is_same x y ≡ true → x ≡ y
one_if_same x y is = elim (ranked x y) [
  | Below less greater ↦ let bad : true ≡ false = sym is ∙ ap is_eq less in cc
  | Same same ↦ same
  | Above greater less ↦ let bad : true ≡ false = sym is ∙ ap is_eq greater in cc
]

-- from two contents an item that is not in the first is taken out of the second
without_behind : (x : Item) (xs ys : List Item) → (Contains xs x → ⊥) → without x (xs ++ ys) ≡ xs ++ without x ys
without_behind x [] ys absent = refl
without_behind x (z ∷ xs) ys absent =
    without_later x z (xs ++ ys) (λ same. absent (contains_if_has x (z ∷ xs) (inl same)))
    ∙ ap (λ zs. z ∷ zs) (without_behind x xs ys (λ within. absent (contains_if_has x (z ∷ xs) (inr (has_if_contains x xs within)))))

-- the content then
pub content_by_taking : (item : Item) (xs ys ys' : List Item) → (Contains xs item → ⊥) → sorted ys' ≡ sorted (without item ys) → sorted (xs ++ ys') ≡ without item (sorted (xs ++ ys))
content_by_taking item xs ys ys' absent is =
    sorted_same_behind xs ys' (without item ys) is ∙ (sym (ap sorted (without_behind item xs ys absent)) ∙ sorted_without item (xs ++ ys))

-- ---- the set

-- the set has one item more
pub inserted : (x : Item) (items : List Item) → list_any (is_same x) items ≡ false → sorted (insert_key item_cmp items x) ≡ sorted (x ∷ items)
inserted x [] new = refl
inserted x (y ∷ ys) new = by_order (λ later. inserted x ys later) (item_cmp x y) refl
  where
    by_order : (list_any (is_same x) ys ≡ false → sorted (insert_key item_cmp ys x) ≡ sorted (x ∷ ys)) → (o : Ordering) → item_cmp x y ≡ o → sorted (match_ordering o (x ∷ y ∷ ys) (y ∷ ys) (y ∷ insert_key item_cmp ys x)) ≡ sorted (x ∷ y ∷ ys)
    by_order rest Less is = refl
    by_order rest Equal is = let bad : true ≡ false = sym (ap (λ o. is_eq o || list_any (is_same x) ys) is) ∙ new in cc
    by_order rest Greater is =
        let later : list_any (is_same x) ys ≡ false = sym (ap (λ o. is_eq o || list_any (is_same x) ys) is) ∙ new in
        ap (placed y) (rest later) ∙ sorted_middle x (y ∷ []) ys

-- what the live items are then
pub joined_set : (x : Item) (items items' apart : List Item) → sorted items' ≡ sorted (x ∷ items) → sorted (items' ++ apart) ≡ sorted (x ∷ (items ++ apart))
joined_set x items items' apart is =
    sym (sorted_sorted items' apart) ∙ (ap (λ ys. sorted (ys ++ apart)) is ∙ sorted_sorted (x ∷ items) apart)

-- and where the set did not take the item
pub joined_apart : (x : Item) (items items' apart apart' : List Item) → items' ≡ items → apart' ≡ apart ++ x ∷ [] → sorted (items' ++ apart') ≡ sorted (x ∷ (items ++ apart))
joined_apart x items items' apart apart' same is =
    ap₂ (λ ys zs. sorted (ys ++ zs)) same is
    ∙ (ap sorted (sym (append_assoc items apart (x ∷ []))) ∙ (sorted_middle x (items ++ apart) [] ∙ ap (λ ys. sorted (x ∷ ys)) (append-nil (items ++ apart))))

-- the set lost an item, or never had it
pub removed : (x : Item) (items : List Item) → remove_key (is_same x) items ≡ without x items
removed x [] = refl
removed x (y ∷ ys) = by_test (removed x ys) (is_same x y)
  where
    by_test : remove_key (is_same x) ys ≡ without x ys → (b : Bool) → cond b ys (y ∷ remove_key (is_same x) ys) ≡ (if b then ys else y ∷ without x ys)
    by_test rest true = refl
    by_test rest false = ap (λ zs. y ∷ zs) rest

nowhere : (x : Item) (items : List Item) → list_any (is_same x) items ≡ false → Has x items → ⊥
nowhere x [] none has = absurd has
nowhere x (y ∷ ys) none has = elim has [
  | inl is ↦ let bad : true ≡ false = sym (ap (λ b. b || list_any (is_same x) ys) (ap (is_same x) is ∙ same_as_itself x)) ∙ none in cc
  | inr later ↦ by_test (λ rest. nowhere x ys rest later) (is_same x y) none
]
  where
    by_test : (list_any (is_same x) ys ≡ false → ⊥) → (b : Bool) → (b || list_any (is_same x) ys) ≡ false → ⊥
    by_test never true none = let bad : true ≡ false = none in cc
    by_test never false none = never none

absent_if_none : (x : Item) (items : List Item) → list_any (is_same x) items ≡ false → Contains items x → ⊥
absent_if_none x items none within = nowhere x items none (has_if_contains x items within)

without_ahead : (x : Item) (items apart : List Item) → list_any (is_same x) items ≡ true → without x (items ++ apart) ≡ without x items ++ apart
without_ahead x [] apart some = let bad : true ≡ false = sym some in cc
without_ahead x (y ∷ ys) apart some = by_test (λ rest. without_ahead x ys apart rest) (is_same x y) some
  where
    by_test : (list_any (is_same x) ys ≡ true → without x (ys ++ apart) ≡ without x ys ++ apart) → (b : Bool) → (b || list_any (is_same x) ys) ≡ true → (if b then ys ++ apart else y ∷ without x (ys ++ apart)) ≡ (if b then ys else y ∷ without x ys) ++ apart
    by_test rest true some = refl
    by_test rest false some = ap (λ zs. y ∷ zs) (rest some)

-- what is left where the set had the item
pub left_by_set : (x : Item) (items items' apart : List Item) → list_any (is_same x) items ≡ true → items' ≡ remove_key (is_same x) items → sorted (items' ++ apart) ≡ without x (sorted (items ++ apart))
left_by_set x items items' apart some is =
    ap (λ ys. sorted (ys ++ apart)) (is ∙ removed x items) ∙ (ap sorted (sym (without_ahead x items apart some)) ∙ sorted_without x (items ++ apart))

-- and where it had not
pub left_apart : (x : Item) (items items' apart apart' : List Item) → list_any (is_same x) items ≡ false → items' ≡ items → sorted apart' ≡ sorted (without x apart) → sorted (items' ++ apart') ≡ without x (sorted (items ++ apart))
left_apart x items items' apart apart' none same left =
    ap (λ ys. sorted (ys ++ apart')) same ∙ content_by_taking x items apart apart' (absent_if_none x items none) left

-- in ascending order the smaller items come first
pub prefix_skipped : (x : Item) (items : List Item) → IsStrictlySortedBy item_cmp items → prefix_len (λ y. is_smaller y x) items ≡ skipped items x
unfolding IsStrictlySortedBy
prefix_skipped x [] up = refl
prefix_skipped x (y ∷ ys) up = by_test (prefix_skipped x ys up.1) (is_smaller y x) refl
  where
    by_test : prefix_len (λ z. is_smaller z x) ys ≡ skipped ys x → (b : Bool) → is_smaller y x ≡ b → cond b (1 + prefix_len (λ z. is_smaller z x) ys) 0 ≡ skipped (y ∷ ys) x
    by_test rest true is =
        let count : skipped (y ∷ ys) x ≡ 1 + skipped ys x = counted_more (λ z. is_smaller z x) y ys ∙ ap (λ (b : Bool). cond b 1 0 + skipped ys x) is in
        ap (λ n. 1 + n) rest ∙ sym count
    by_test rest false is =
        let none : skipped (y ∷ ys) x ≡ 0 = skipped_none x (y ∷ ys) (is, all_weaker (λ z. item_cmp y z ≡ Less) (λ z. is_smaller z x ≡ false) (λ z less. not_smaller_trans x y z is (not_below y z less)) ys up.0) in
        sym none

-- the first of a set skips none
pub first_skips_none : (x : Item) (items : List Item) → All (λ z. item_cmp x z ≡ Less) items → skipped (x ∷ items) x ≡ 0
first_skips_none x items above = skipped_none x (x ∷ items) (not_itself (item_cmp x x) refl, all_weaker (λ z. item_cmp x z ≡ Less) (λ z. is_smaller z x ≡ false) (λ z less. not_below x z less) items (recursion_from_All (λ z. item_cmp x z ≡ Less) items above))
  where
    not_itself : (o : Ordering) → item_cmp x x ≡ o → is_smaller x x ≡ false
    not_itself Less is = absurd (not_smaller_than_itself x is)
    not_itself Equal is = rw is refl
    not_itself Greater is = rw is refl

-- so does the item that was popped from a set
pub popped_skips_none : (x : Item) (popped : Option Item) (items items' : List Item) → IfSome popped (λ y. items ≡ y ∷ items') → IfSome popped (λ y. All (λ z. item_cmp y z ≡ Less) items') → items ≡ x ∷ items' → IsTrue (is_some popped) → skipped items x ≡ 0
popped_skips_none x None items items' removal above is some = cc
popped_skips_none x (Some y) items items' removal above is some =
    let same : y ≡ x = cc in
    rw is (first_skips_none x items' (subst (λ (w : Item). All (λ z. item_cmp w z ≡ Less) items') same above))

pub least_skips_none : (x : Item) (items apart : List Item) → skipped items x ≡ 0 → apart ≡ [] → skipped (items ++ apart) x ≡ 0
least_skips_none x items apart none empty = skipped_append items apart x ∙ ap₂ (λ m ys. m + skipped ys x) none empty

-- and is out of the content once it is out of the set
pub least_taken : (x : Item) (items items' apart : List Item) → items ≡ x ∷ items' → sorted (items' ++ apart) ≡ without x (sorted (items ++ apart))
least_taken x items items' apart is =
    ap sorted (sym (without_first x (items' ++ apart))) ∙ sorted_without x (x ∷ (items' ++ apart)) ∙ ap (λ ys. without x (sorted (ys ++ apart))) (sym is)

-- an item's skip is that in the set and that apart from it
pub skipped_by_both : (x : Item) (items apart : List Item) (a b : ℕ) → a ≡ skipped items x → b ≡ skipped apart x → a + b ≡ skipped (items ++ apart) x
skipped_by_both x items apart a b is are = ap₂ (λ m n. m + n) is are ∙ sym (skipped_append items apart x)

-- ---- what the set did not take

pub taken_first : (item : Item) (i : ℕ) (x : Item) (items items' : List Item) → position (λ other. is_same item other) items ≡ Some i → x ≡ get_or items i x → items' ≡ swap_remove items i x → sorted items' ≡ sorted (without item items)
taken_first item i x items items' found read is =
    let there = position-Some (λ other. is_same item other) items i x found in
    let one : item ≡ x = one_if_same item x (ap (is_same item) read ∙ there.1) in
    let moved : sorted items ≡ sorted (x ∷ items') = sorted_permuted items (x ∷ items') (subst (λ zs. IsPermutation items (x ∷ zs)) (sym is) (IsPermutation-swap_remove items i x there.0 read)) in
    let back : sorted (item ∷ items') ≡ sorted items = ap (λ z. sorted (z ∷ items')) one ∙ sym moved in
    sym (without_placed item (sorted items')) ∙ (ap (without item) back ∙ sym (sorted_without item items))

-- where a test finds no element, none passes
none_pass : {X : Type 0} (p : X → Bool) → (xs : List X) → length xs ≤ position_or_len p xs → AllByRecursion (λ x. p x ≡ false) xs
none_pass p [] long = tt
none_pass p (x ∷ xs) long = by_test (p x) refl (λ rest. none_pass p xs rest)
  where
    by_test : (b : Bool) → p x ≡ b → (length xs ≤ position_or_len p xs → AllByRecursion (λ y. p y ≡ false) xs) → AllByRecursion (λ y. p y ≡ false) (x ∷ xs)
    by_test true is later = let first : position_or_len p (x ∷ xs) ≡ 0 = ap (λ b. cond (not b) (1 + position_or_len p xs) 0) is in absurd (omega (arith, long, first))
    by_test false is later = let more : position_or_len p (x ∷ xs) ≡ 1 + position_or_len p xs = ap (λ b. cond (not b) (1 + position_or_len p xs) 0) is in (is, later (omega (arith, long, more)))

-- an item that is nowhere stays out
pub taken_nowhere : (item : Item) (items : List Item) → position (λ other. is_same item other) items ≡ None → items ≡ without item items
taken_nowhere item items none =
    let p : Item → Bool = λ other. is_same item other in
    let n : ℕ = position_or_len p items in
    let past : length items ≤ n = elim (cases_lt n (length items)) [
      | inl here ↦ absurd (none-some n (sym none ∙ sym (cond_below n (length items) (Some n) None here)))
      | inr past ↦ past
    ] in
    let differ : AllByRecursion (λ (other : Item). other ≢ item) items =
    all_weaker (λ (other : Item). p other ≡ false) (λ (other : Item). other ≢ item)
    (λ other no same. let bad : true ≡ false = sym (same_as_itself item) ∙ (ap (is_same item) (sym same) ∙ no) in cc) items (none_pass p items past) in
    sym (without_new item items differ)
