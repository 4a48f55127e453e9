-- The least item that is larger than another one.
use Rattle.std.proofs.Common.{◌≡◌, ℕ, ◌+◌, ◌<◌, ◌≤◌, Bool, true, false, List, [], ◌∷◌, ◌++◌, length, get_or, take, drop, Option, Some, None, refl, sym, ap, ◌∙◌, subst, arith, zero, suc, drop-cons, if◌then◌else◌}
use Rattle.std.specs.List.{AllByRecursion, slice_get}
use Rattle.std.specs.Ordering.{is_lt}
use Rattle.std.proofs.lemmas.List.{append_assoc, take_more, take_all, take-append-drop}
use Rattle.std.proofs.lemmas.Option.{none-some, same_Some}
use Rattle.klsm_run.specs.declared.item.Item.{Item}
use Rattle.klsm_run.specs.ItemOrder.{is_smaller, IsSmaller}
use Rattle.klsm_run.specs.Content.{placed, sorted, IsAscending}
use Rattle.klsm_run.proofs.ContentLemmas.{not_smaller_itself, sorted_same_behind}
use Rattle.klsm_run.proofs.IndexLemmas.{at_each, at_index, first_behind}
use Rattle.klsm_run.proofs.LeastLemmas.{not_below}
use Rattle.klsm_run.proofs.LesserLemmas.{lesser, first_append}
use Rattle.klsm_run.proofs.OrderLemmas.{Below, Same, Above, ranked}
use Rattle.klsm_run.proofs.SortedLemmas.{sorted_ascending, placed_first, all_sorted, length_sorted}
use Rattle.klsm_lsm.proofs.CutLemmas.{sorted_swap_before}
use Rattle.klsm_pile.specs.declared.fetched.Fetched.{Fetched}
use Rattle.klsm_pile.specs.Piece.{PieceState}
use Rattle.klsm_pile.specs.Pieces.{counted, at_level, every_item}
use Rattle.klsm_pile.specs.Front.{singles, parts}
use Rattle.klsm_pile.specs.Fetching.{lesser_or_only}
use Rattle.klsm_pile.specs.Seeking.{is_over, items_over, least_over}
use Rattle.klsm_pile.proofs.FetchLemmas.{ascending_back}
use Rattle.klsm_pile.proofs.DistinctLemmas.{level_distinct}
use Rattle.klsm_pile.proofs.RaisedLemmas.{at_level_append}
use Rattle.klsm_pile.proofs.ReadingLemmas.{level_here, level_elsewhere}

over_append : (bound : Option Item) (xs ys : List Item) → items_over bound (xs ++ ys) ≡ items_over bound xs ++ items_over bound ys
over_append bound [] ys = refl
over_append bound (x ∷ xs) ys =
    ap (λ zs. counted (is_over bound x) (x ∷ []) ++ zs) (over_append bound xs ys)
    ∙ sym (append_assoc (counted (is_over bound x) (x ∷ [])) (items_over bound xs) (items_over bound ys))

-- the least of two lists together

lesser_is : (o : Option Item) (x : Item) → lesser o (Some x) ≡ Some (lesser_or_only o x)
lesser_is None x = refl
lesser_is (Some y) x = elim (ranked x y) [
  | Below less greater ↦ ap (λ b. Some (if b then x else y)) (ap is_lt less) ∙ sym (ap (λ b. Some (if b then y else x)) (ap is_lt greater))
  | Same same ↦
      ap (λ b. Some (if b then x else y)) (not_smaller_itself y x same) ∙ (ap (λ z. Some z) (sym same) ∙ sym (ap (λ b. Some (if b then y else x)) (not_smaller_itself x y (sym same))))
  | Above greater less ↦ ap (λ b. Some (if b then x else y)) (ap is_lt greater) ∙ sym (ap (λ b. Some (if b then y else x)) (ap is_lt less))
]

lesser_none : (o : Option Item) → lesser o None ≡ o
lesser_none None = refl
lesser_none (Some x) = refl

least_more : (bound : Option Item) (xs ys : List Item) (x : Item) → least_over bound ys ≡ Some x → least_over bound (xs ++ ys) ≡ Some (lesser_or_only (least_over bound xs) x)
least_more bound xs ys x found =
    ap (λ zs. slice_get (sorted zs) 0) (over_append bound xs ys)
    ∙ (first_append (items_over bound xs) (items_over bound ys) ∙ (ap (lesser (least_over bound xs)) found ∙ lesser_is (least_over bound xs) x))

least_still : (bound : Option Item) (xs ys : List Item) → least_over bound ys ≡ None → least_over bound (xs ++ ys) ≡ least_over bound xs
least_still bound xs ys none =
    ap (λ zs. slice_get (sorted zs) 0) (over_append bound xs ys)
    ∙ (first_append (items_over bound xs) (items_over bound ys) ∙ (ap (lesser (least_over bound xs)) none ∙ lesser_none (least_over bound xs)))

-- one more piece

pub sought_here : (l n : ℕ) (ps : List PieceState) (p : PieceState) (bound found after : Option Item) (x y : Item) → n < length ps → p ≡ get_or ps n p → p.level ≡ l → found ≡ least_over bound (at_level l (take n ps)) → least_over bound p.items ≡ Some x
    → y ≡ lesser_or_only found x → after ≡ Some y → after ≡ least_over bound (at_level l (take (n + 1) ps))
sought_here l n ps p bound found after x y within is here so_far least y_is after_is =
    after_is
    ∙ (ap (λ z. Some z) (y_is ∙ ap (λ (o : Option Item). lesser_or_only o x) so_far)
    ∙ (sym (least_more bound (at_level l (take n ps)) p.items x least) ∙ ap (least_over bound) (sym (level_here l n ps p within is here))))

pub sought_none : (l n : ℕ) (ps : List PieceState) (p : PieceState) (bound found after : Option Item) → n < length ps → p ≡ get_or ps n p → p.level ≡ l → found ≡ least_over bound (at_level l (take n ps)) → least_over bound p.items ≡ None
    → after ≡ found → after ≡ least_over bound (at_level l (take (n + 1) ps))
sought_none l n ps p bound found after within is here so_far least after_is =
    after_is
    ∙ (so_far ∙ (sym (least_still bound (at_level l (take n ps)) p.items least) ∙ ap (least_over bound) (sym (level_here l n ps p within is here))))

pub sought_elsewhere : (l n : ℕ) (ps : List PieceState) (p : PieceState) (bound found after : Option Item) → n < length ps → p ≡ get_or ps n p → (p.level ≡ l → ⊥) → found ≡ least_over bound (at_level l (take n ps)) → after ≡ found
    → after ≡ least_over bound (at_level l (take (n + 1) ps))
sought_elsewhere l n ps p bound found after within is other so_far after_is = after_is ∙ (so_far ∙ ap (least_over bound) (sym (level_elsewhere l n ps p within is other)))

pub sought_all : (l n : ℕ) (ps : List PieceState) (bound found : Option Item) → length ps ≤ n → found ≡ least_over bound (at_level l (take n ps)) → found ≡ least_over bound (at_level l ps)
sought_all l n ps bound found all so_far = so_far ∙ ap (λ qs. least_over bound (at_level l qs)) (take_all n ps all)

-- an item of the front
pub one_over : (bound : Option Item) (x : Item) (b : Bool) → b ≡ is_over bound x → b ≡ true → least_over bound (x ∷ []) ≡ Some x
one_over bound x b is over = ap (λ t. slice_get (sorted (counted t (x ∷ []) ++ [])) 0) (sym is ∙ over)

pub one_not_over : (bound : Option Item) (x : Item) (b : Bool) → b ≡ is_over bound x → b ≡ false → least_over bound (x ∷ []) ≡ None
one_not_over bound x b is under = ap (λ t. slice_get (sorted (counted t (x ∷ []) ++ [])) 0) (sym is ∙ under)

-- the front and the pieces
pub sought_both : (l : ℕ) (front : List Fetched) (pieces : List PieceState) (bound first other : Option Item) (x y : Item) → first ≡ least_over bound (at_level l (singles front)) → other ≡ least_over bound (at_level l pieces) → other ≡ Some x → y ≡ lesser_or_only first x
    → Some y ≡ least_over bound (at_level l (parts front pieces))
sought_both l front pieces bound first other x y first_is other_is some y_is =
    ap (λ z. Some z) (y_is ∙ ap (λ (o : Option Item). lesser_or_only o x) first_is)
    ∙ (sym (least_more bound (at_level l (singles front)) (at_level l pieces) x (sym other_is ∙ some)) ∙ ap (least_over bound) (sym (at_level_append l (singles front) pieces)))

pub sought_front : (l : ℕ) (front : List Fetched) (pieces : List PieceState) (bound first other : Option Item) → first ≡ least_over bound (at_level l (singles front)) → other ≡ least_over bound (at_level l pieces) → other ≡ None
    → first ≡ least_over bound (at_level l (parts front pieces))
sought_front l front pieces bound first other first_is other_is none =
    first_is
    ∙ (sym (least_still bound (at_level l (singles front)) (at_level l pieces) (sym other_is ∙ none)) ∙ ap (least_over bound) (sym (at_level_append l (singles front) pieces)))

-- the first item of a run that is larger

pub none_over_more : (bound : Option Item) (xs : List Item) (n : ℕ) (d : Item) (b : Bool) → n < length xs → b ≡ is_over bound (get_or xs n d) → b ≡ false → items_over bound (take n xs) ≡ [] → items_over bound (take (n + 1) xs) ≡ []
none_over_more bound xs n d b within is under none =
    ap (items_over bound) (take_more xs n d within)
    ∙ (over_append bound (take n xs) (get_or xs n d ∷ [])
    ∙ (ap (λ ys. ys ++ items_over bound (get_or xs n d ∷ [])) none ∙ ap (λ t. counted t (get_or xs n d ∷ []) ++ []) (sym is ∙ under)))

pub none_over_all : (bound : Option Item) (xs : List Item) (n : ℕ) → length xs ≤ n → items_over bound (take n xs) ≡ [] → None ≡ least_over bound xs
none_over_all bound xs n all none = sym (ap (λ ys. slice_get (sorted (items_over bound ys)) 0) (sym (take_all n xs all)) ∙ ap (λ ys. slice_get (sorted ys) 0) none)

all_over : (P : Item → Type 0) (bound : Option Item) (xs : List Item) → AllByRecursion P xs → AllByRecursion P (items_over bound xs)
all_over P bound [] h = tt
all_over P bound (x ∷ xs) h = by (is_over bound x) (all_over P bound xs h.1) where
  by : (b : Bool) → AllByRecursion P (items_over bound xs) → AllByRecursion P (counted b (x ∷ []) ++ items_over bound xs)
  by true later = (h.0, later)
  by false later = later

pub first_over : (bound : Option Item) (xs : List Item) (n : ℕ) (d : Item) (b : Bool) → IsAscending xs → n < length xs → b ≡ is_over bound (get_or xs n d) → b ≡ true → items_over bound (take n xs) ≡ [] → Some (get_or xs n d) ≡ least_over bound xs
first_over bound xs n d b up within is over none =
    let x : Item = get_or xs n d in
    let rest : List Item = drop (suc n) xs in
    let whole : xs ≡ take n xs ++ x ∷ rest = sym (take-append-drop n xs) ∙ ap (λ ys. take n xs ++ ys) (drop-cons xs n d within) in
    let above : items_over bound xs ≡ x ∷ items_over bound rest =
    ap (items_over bound) whole
    ∙ (over_append bound (take n xs) (x ∷ rest)
    ∙ (ap (λ ys. ys ++ items_over bound (x ∷ rest)) none ∙ ap (λ t. counted t (x ∷ []) ++ items_over bound rest) (sym is ∙ over))) in
    let later : IsAscending (x ∷ rest) = ascending_back (take n xs) (x ∷ rest) (subst IsAscending whole up) in
    let least : sorted (x ∷ items_over bound rest) ≡ x ∷ sorted (items_over bound rest) =
    placed_first x (sorted (items_over bound rest)) (all_sorted (IsSmaller x) (items_over bound rest) (all_over (IsSmaller x) bound rest later.0)) in
    sym (ap (λ ys. slice_get (sorted ys) 0) above ∙ ap (λ ys. slice_get ys 0) least)

-- the next item in order

over_placed : (bound : Option Item) (x : Item) (ys : List Item) → sorted (items_over bound (placed x ys)) ≡ sorted (items_over bound (x ∷ ys))
over_placed bound x [] = refl
over_placed bound x (y ∷ ys) = by (is_smaller y x) (over_placed bound x ys) where
  X : List Item
  X = counted (is_over bound x) (x ∷ [])

  Y : List Item
  Y = counted (is_over bound y) (y ∷ [])

  by : (b : Bool) → sorted (items_over bound (placed x ys)) ≡ sorted (X ++ items_over bound ys) → sorted (items_over bound (if b then y ∷ placed x ys else x ∷ y ∷ ys)) ≡ sorted (X ++ (Y ++ items_over bound ys))
  by true same = sorted_same_behind Y (items_over bound (placed x ys)) (X ++ items_over bound ys) same ∙ sorted_swap_before Y X (items_over bound ys)
  by false same = refl

over_sorted : (bound : Option Item) (xs : List Item) → sorted (items_over bound (sorted xs)) ≡ sorted (items_over bound xs)
over_sorted bound [] = refl
over_sorted bound (x ∷ xs) =
    over_placed bound x (sorted xs)
    ∙ sorted_same_behind (counted (is_over bound x) (x ∷ [])) (items_over bound (sorted xs)) (items_over bound xs) (over_sorted bound xs)

over_all : (x : Item) (ys : List Item) → AllByRecursion (IsSmaller x) ys → items_over (Some x) ys ≡ ys
over_all x [] h = refl
over_all x (y ∷ ys) h = ap (λ b. counted b (y ∷ []) ++ items_over (Some x) ys) (ap is_lt h.0) ∙ ap (λ zs. y ∷ zs) (over_all x ys h.1)

over_ascending : (xs : List Item) (k : ℕ) (x : Item) → IsAscending xs → slice_get xs k ≡ Some x → items_over (Some x) xs ≡ drop (suc k) xs
over_ascending [] k x up found = absurd (none-some x found)
over_ascending (y ∷ ys) zero x up found =
    let is : y ≡ x = same_Some y x found in
    ap (λ b. counted b (y ∷ []) ++ items_over (Some x) ys) (not_smaller_itself y x (sym is))
    ∙ over_all x ys (subst (λ z. AllByRecursion (IsSmaller z) ys) is up.0)
over_ascending (y ∷ ys) (suc k) x up found =
    ap (λ b. counted b (y ∷ []) ++ items_over (Some x) ys) (not_below y x (at_each (IsSmaller y) ys k x up.0 found))
    ∙ over_ascending ys k x up.1 found

over_none : (xs : List Item) → items_over None xs ≡ xs
over_none [] = refl
over_none (x ∷ xs) = ap (λ ys. x ∷ ys) (over_none xs)

pub least_first : (xs : List Item) → least_over None xs ≡ slice_get (sorted xs) 0
least_first xs = ap (λ ys. slice_get (sorted ys) 0) (over_none xs)

least_next : (xs : List Item) (k : ℕ) (x : Item) → IsAscending (sorted xs) → slice_get (sorted xs) k ≡ Some x → least_over (Some x) xs ≡ slice_get (sorted xs) (suc k)
least_next xs k x up found =
    let S : List Item = sorted xs in
    let rest : IsAscending (drop (suc k) S) = ascending_back (take (suc k) S) (drop (suc k) S) (subst IsAscending (sym (take-append-drop (suc k) S)) up) in
    ap (λ ys. slice_get ys 0) (sym (over_sorted (Some x) xs))
    ∙ (ap (λ ys. slice_get (sorted ys) 0) (over_ascending S k x up found)
    ∙ (ap (λ ys. slice_get ys 0) (sorted_ascending (drop (suc k) S) rest) ∙ first_behind (suc k) S))

pub next_of : (l k : ℕ) (ps : List PieceState) (x : Item) (next : Option Item) → IsAscending (sorted (every_item ps)) → slice_get (sorted (at_level l ps)) k ≡ Some x → next ≡ least_over (Some x) (at_level l ps)
    → slice_get (sorted (at_level l ps)) (k + 1) ≡ next
next_of l k ps x next up found next_is =
    let one : k + 1 ≡ suc k = omega arith in
    ap (slice_get (sorted (at_level l ps))) one
    ∙ (sym (least_next (at_level l ps) k x (level_distinct l ps up) found) ∙ sym next_is)

-- there is an item at each rank
pub ranked_there : (xs : List Item) (k : ℕ) (o : Option Item) → k < length xs → slice_get (sorted xs) k ≡ o → o ≡ None → ⊥
ranked_there xs k o within is none =
    let there = at_index (sorted xs) k (omega (arith, within, length_sorted xs)) in
    none-some there.0 (sym none ∙ (sym is ∙ there.1))

pub ranked_last : (xs : List Item) (k rank : ℕ) (x : Item) → k ≡ rank → slice_get xs k ≡ Some x → slice_get xs rank ≡ Some x
ranked_last xs k rank x last found = subst (λ n. slice_get xs n ≡ Some x) last found

-- the first of a piece of two runs

over_both : (bound : Option Item) (xs ys items : List Item) → sorted (xs ++ ys) ≡ items → least_over bound (xs ++ ys) ≡ least_over bound items
over_both bound xs ys items is = ap (λ zs. slice_get zs 0) (sym (over_sorted bound (xs ++ ys))) ∙ ap (least_over bound) is

pub sought_two : (bound : Option Item) (xs ys items : List Item) (first other : Option Item) (x y : Item) → sorted (xs ++ ys) ≡ items → first ≡ least_over bound xs → other ≡ least_over bound ys → other ≡ Some x → y ≡ lesser_or_only first x
    → Some y ≡ least_over bound items
sought_two bound xs ys items first other x y is first_is other_is some y_is =
    ap (λ z. Some z) (y_is ∙ ap (λ (o : Option Item). lesser_or_only o x) first_is)
    ∙ (sym (least_more bound xs ys x (sym other_is ∙ some)) ∙ over_both bound xs ys items is)

pub sought_one : (bound : Option Item) (xs ys items : List Item) (first other : Option Item) → sorted (xs ++ ys) ≡ items → first ≡ least_over bound xs → other ≡ least_over bound ys → other ≡ None → first ≡ least_over bound items
sought_one bound xs ys items first other is first_is other_is none = first_is ∙ (sym (least_still bound xs ys (sym other_is ∙ none)) ∙ over_both bound xs ys items is)
