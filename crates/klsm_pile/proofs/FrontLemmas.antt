-- The front.
use Rattle.std.proofs.Common.{◌≡◌, ℕ, ◌+◌, ◌<◌, ◌≤◌, Bool, true, false, List, [], ◌∷◌, ◌++◌, length, get_or, take, drop, refl, sym, ap, ◌∙◌, subst, arith, eq-eqb, ne_eqb, zero, suc}
use Rattle.std.specs.Prelude.{◌==◌}
use Rattle.std.specs.List.{AllByRecursion}
use Rattle.std.proofs.lemmas.List.{append-nil, append_assoc, length-append, length-take, length-take-le, take_more, take_all}
use Rattle.klsm_run.specs.declared.item.Item.{Item}
use Rattle.klsm_run.specs.ItemOrder.{IsSmaller}
use Rattle.klsm_run.specs.Content.{placed, sorted, IsAscending}
use Rattle.klsm_run.proofs.AllLemmas.{all_append, all_front, all_back, all_weaker}
use Rattle.klsm_run.proofs.SortedLemmas.{placed_first, all_sorted}
use Rattle.klsm_run.proofs.ContentLemmas.{sorted_same_behind}
use Rattle.klsm_lsm.specs.Adding.{without_items}
use Rattle.klsm_lsm.proofs.CutLemmas.{sorted_swap_before}
use Rattle.klsm_pile.specs.declared.fetched.Fetched.{Fetched}
use Rattle.klsm_pile.specs.Piece.{PieceState}
use Rattle.klsm_pile.specs.Pieces.{counted, items_where, at_level, every_item, HaveSame, block_before, blocks_below}
use Rattle.klsm_pile.specs.Front.{single, singles, parts, fetched, front_items, IsFront}
use Rattle.klsm_pile.specs.Settling.{IsCutOut}
use Rattle.klsm_pile.proofs.RaisedLemmas.{picked_append}
use Rattle.klsm_pile.proofs.AddingLemmas.{length_same}

-- blocks are contents
block_same : (g h : List Item) (bs : List (List Item)) → sorted g ≡ sorted h → block_before g bs ≡ block_before h bs
block_same [] [] bs same = refl
block_same [] (y ∷ ys) bs same = absurd (omega (arith, length_same [] (y ∷ ys) same))
block_same (x ∷ xs) [] bs same = absurd (omega (arith, length_same (x ∷ xs) [] same))
block_same (x ∷ xs) (y ∷ ys) bs same = ap (λ b. b ∷ bs) same

pub blocks_same : (k : ℕ) (ps qs : List PieceState) → ((l : ℕ) → sorted (at_level l ps) ≡ sorted (at_level l qs)) → blocks_below k ps ≡ blocks_below k qs
blocks_same zero ps qs same = refl
blocks_same (suc k) ps qs same = block_same (at_level k ps) (at_level k qs) (blocks_below k ps) (same k) ∙ ap (block_before (at_level k qs)) (blocks_same k ps qs same)

pub singles_append : (fs gs : List Fetched) → singles (fs ++ gs) ≡ singles fs ++ singles gs
singles_append [] gs = refl
singles_append (f ∷ fs) gs = ap (λ ps. single f ∷ ps) (singles_append fs gs)

pub counted_append : (b : Bool) (xs ys : List Item) → counted b (xs ++ ys) ≡ counted b xs ++ counted b ys
counted_append true xs ys = refl
counted_append false xs ys = refl

pub picked_fetched : (test : ℕ → Bool) (from : ℕ) (xs : List Item) → items_where test (singles (fetched from xs)) ≡ counted (test from) xs
picked_fetched test from [] = nothing (test from) where
  nothing : (b : Bool) → [] ≡ counted b []
  nothing true = refl
  nothing false = refl
picked_fetched test from (x ∷ xs) = ap (λ ys. counted (test from) (x ∷ []) ++ ys) (picked_fetched test from xs) ∙ sym (counted_append (test from) (x ∷ []) xs)

-- items that are fetched from the start of a piece stay at their level
pub fetch_keeps : (front : List Fetched) (before after : List PieceState) (piece rest : PieceState) (xs : List Item) → rest.level ≡ piece.level → piece.items ≡ xs ++ rest.items
    → HaveSame (parts (front ++ fetched piece.level xs) (before ++ rest ∷ after)) (parts front (before ++ piece ∷ after))
fetch_keeps front before after piece rest xs same_level items test =
    let F : List Item = items_where test (singles front) in
    let X : List Item = counted (test piece.level) xs in
    let B : List Item = items_where test before in
    let R : List Item = counted (test piece.level) rest.items in
    let A : List Item = items_where test after in
    let front_is : items_where test (singles (front ++ fetched piece.level xs)) ≡ F ++ X =
    ap (items_where test) (singles_append front (fetched piece.level xs)) ∙ (picked_append test (singles front) (singles (fetched piece.level xs)) ∙ ap (λ ys. F ++ ys) (picked_fetched test piece.level xs)) in
    let rest_is : items_where test (before ++ rest ∷ after) ≡ B ++ (R ++ A) =
    picked_append test before (rest ∷ after) ∙ ap (λ n. B ++ (counted (test n) rest.items ++ A)) same_level in
    let piece_is : items_where test (before ++ piece ∷ after) ≡ B ++ ((X ++ R) ++ A) =
    picked_append test before (piece ∷ after) ∙ ap (λ ys. B ++ (ys ++ A)) (ap (counted (test piece.level)) items ∙ counted_append (test piece.level) xs rest.items) in
    let left : items_where test (parts (front ++ fetched piece.level xs) (before ++ rest ∷ after)) ≡ F ++ (X ++ (B ++ (R ++ A))) =
    picked_append test (singles (front ++ fetched piece.level xs)) (before ++ rest ∷ after)
    ∙ (ap (λ ys. ys ++ items_where test (before ++ rest ∷ after)) front_is
    ∙ (ap (λ ys. (F ++ X) ++ ys) rest_is ∙ append_assoc F X (B ++ (R ++ A)))) in
    let right : items_where test (parts front (before ++ piece ∷ after)) ≡ F ++ (B ++ (X ++ (R ++ A))) =
    picked_append test (singles front) (before ++ piece ∷ after)
    ∙ (ap (λ ys. F ++ ys) piece_is ∙ ap (λ ys. F ++ (B ++ ys)) (append_assoc X R A)) in
    ap sorted left ∙ (sorted_same_behind F (X ++ (B ++ (R ++ A))) (B ++ (X ++ (R ++ A))) (sorted_swap_before X B (R ++ A)) ∙ ap sorted (sym right))

-- what is true of all items is true of those of some levels
all_counted : (P : Item → Type 0) (b : Bool) (xs : List Item) → AllByRecursion P xs → AllByRecursion P (counted b xs)
all_counted P true xs h = h
all_counted P false xs h = tt

pub all_picked : (P : Item → Type 0) (test : ℕ → Bool) (ps : List PieceState) → AllByRecursion P (every_item ps) → AllByRecursion P (items_where test ps)
all_picked P test [] h = tt
all_picked P test (p ∷ ps) h =
    all_append P (counted (test p.level) p.items) (items_where test ps)
    (all_counted P (test p.level) p.items (all_front P p.items (every_item ps) h))
    (all_picked P test ps (all_back P p.items (every_item ps) h))

pub items_of_singles : (fs : List Fetched) → every_item (singles fs) ≡ front_items fs
items_of_singles [] = refl
items_of_singles (f ∷ fs) = ap (λ xs. f.item ∷ xs) (items_of_singles fs)

pub all_of_test : (P : Item → Type 0) (test : ℕ → Bool) (fs : List Fetched) → AllByRecursion P (front_items fs) → AllByRecursion P (items_where test (singles fs))
all_of_test P test fs h = all_picked P test (singles fs) (subst (AllByRecursion P) (sym (items_of_singles fs)) h)

pub ascending_test : (test : ℕ → Bool) (fs : List Fetched) → IsAscending (front_items fs) → IsAscending (items_where test (singles fs))
ascending_test test [] up = tt
ascending_test test (f ∷ fs) up = elim (test f.level) as (λ b. IsAscending (counted b (f.item ∷ []) ++ items_where test (singles fs))) [
  | true ↦ (all_of_test (IsSmaller f.item) test fs up.0, ascending_test test fs up.1)
  | false ↦ ascending_test test fs up.1
]

-- least items in order, before others
pub sorted_front : (xs ys : List Item) → IsAscending xs → AllByRecursion (λ x. AllByRecursion (IsSmaller x) ys) xs → sorted (xs ++ ys) ≡ xs ++ sorted ys
sorted_front [] ys up least = refl
sorted_front (x ∷ xs) ys up least =
    ap (placed x) (sorted_front xs ys up.1 least.1)
    ∙ placed_first x (xs ++ sorted ys) (all_append (IsSmaller x) xs (sorted ys) up.0 (all_sorted (IsSmaller x) ys least.0))

-- the item of a place, and the others
taken_out : (xs ys : List Item) (x : Item) → without_items (xs ++ x ∷ ys) (length xs) 1 ≡ xs ++ ys
taken_out xs ys x = one (length xs + 1) (omega arith) where
  split : (zs : List Item) (n : ℕ) → n ≡ suc (length zs) → take (length zs) (zs ++ x ∷ ys) ++ drop n (zs ++ x ∷ ys) ≡ zs ++ ys
  split [] n is = ap (λ k. drop k (x ∷ ys)) is
  split (z ∷ zs) n is = ap (λ k. z ∷ (take (length zs) (zs ++ x ∷ ys) ++ drop k (z ∷ (zs ++ x ∷ ys)))) is ∙ ap (λ ws. z ∷ ws) (split zs (suc (length zs)) refl)

  one : (n : ℕ) → n ≡ suc (length xs) → take (length xs) (xs ++ x ∷ ys) ++ drop n (xs ++ x ∷ ys) ≡ xs ++ ys
  one n is = split xs n is

pub ascending_out : (xs ys : List Item) (x : Item) → IsAscending (xs ++ x ∷ ys) → IsAscending (xs ++ ys)
ascending_out [] ys x up = up.1
ascending_out (z ∷ xs) ys x up = (all_append (IsSmaller z) xs ys (all_front (IsSmaller z) xs (x ∷ ys) up.0) (all_back (IsSmaller z) xs (x ∷ ys) up.0).1, ascending_out xs ys x up.1)

pub all_out : (P : Item → Type 0) (xs ys : List Item) (x : Item) → AllByRecursion P (xs ++ x ∷ ys) → AllByRecursion P (xs ++ ys)
all_out P xs ys x h = all_append P xs ys (all_front P xs (x ∷ ys) h) (all_back P xs (x ∷ ys) h).1

-- the front with one item, and without it
parts_with : (test : ℕ → Bool) (before after : List Fetched) (f : Fetched) (ps : List PieceState)
    → items_where test (parts (before ++ f ∷ after) ps) ≡ (items_where test (singles before) ++ (counted (test f.level) (f.item ∷ []) ++ items_where test (singles after))) ++ items_where test ps
parts_with test before after f ps =
    picked_append test (singles (before ++ f ∷ after)) ps
    ∙ ap (λ xs. xs ++ items_where test ps) (ap (items_where test) (singles_append before (f ∷ after)) ∙ picked_append test (singles before) (singles (f ∷ after)))

parts_without : (test : ℕ → Bool) (before after : List Fetched) (ps : List PieceState) → items_where test (parts (before ++ after) ps) ≡ (items_where test (singles before) ++ items_where test (singles after)) ++ items_where test ps
parts_without test before after ps =
    picked_append test (singles (before ++ after)) ps
    ∙ ap (λ xs. xs ++ items_where test ps) (ap (items_where test) (singles_append before after) ∙ picked_append test (singles before) (singles after))

pub all_least : (test : ℕ → Bool) (fs : List Fetched) (ps : List PieceState) → IsFront fs ps → AllByRecursion (λ y. AllByRecursion (IsSmaller y) (items_where test ps)) (items_where test (singles fs))
all_least test fs ps front =
    all_of_test (λ y. AllByRecursion (IsSmaller y) (items_where test ps)) test fs
    (all_weaker (λ y. AllByRecursion (IsSmaller y) (every_item ps)) (λ y. AllByRecursion (IsSmaller y) (items_where test ps)) (λ y h. all_picked (IsSmaller y) test ps h) (front_items fs) front.least)

pub front_cut_out : (before after : List Fetched) (f : Fetched) (ps : List PieceState) → IsFront (before ++ f ∷ after) ps
    → IsCutOut f.level (length (at_level f.level (singles before))) 1 (parts (before ++ f ∷ after) ps) (parts (before ++ after) ps)
front_cut_out before after f ps front =
    let l : ℕ = f.level in
    let B : List Item = at_level l (singles before) in
    let A : List Item = at_level l (singles after) in
    let S : List Item = at_level l ps in
    let x : Item = f.item in
    let own : counted (f.level == l) (x ∷ []) ≡ x ∷ [] = ap (λ b. counted b (x ∷ [])) (eq-eqb f.level l refl) in
    let level_is : at_level l (singles (before ++ f ∷ after)) ≡ B ++ x ∷ A =
    ap (at_level l) (singles_append before (f ∷ after)) ∙ (picked_append (λ n. n == l) (singles before) (singles (f ∷ after)) ∙ ap (λ xs. B ++ (xs ++ A)) own) in
    let with_is : at_level l (parts (before ++ f ∷ after) ps) ≡ (B ++ x ∷ A) ++ S = picked_append (λ n. n == l) (singles (before ++ f ∷ after)) ps ∙ ap (λ xs. xs ++ S) level_is in
    let up : IsAscending (B ++ x ∷ A) = subst IsAscending level_is (ascending_test (λ n. n == l) (before ++ f ∷ after) front.ascending) in
    let least : AllByRecursion (λ y. AllByRecursion (IsSmaller y) S) (B ++ x ∷ A) =
    subst (AllByRecursion (λ y. AllByRecursion (IsSmaller y) S)) level_is (all_least (λ n. n == l) (before ++ f ∷ after) ps front) in
    let with_sorted : sorted (at_level l (parts (before ++ f ∷ after) ps)) ≡ B ++ x ∷ (A ++ sorted S) =
    ap sorted with_is ∙ (sorted_front (B ++ x ∷ A) S up least ∙ append_assoc B (x ∷ A) (sorted S)) in
    let without_sorted : sorted (at_level l (parts (before ++ after) ps)) ≡ B ++ (A ++ sorted S) =
    ap sorted (parts_without (λ n. n == l) before after ps)
    ∙ (sorted_front (B ++ A) S (ascending_out B A x up) (all_out (λ y. AllByRecursion (IsSmaller y) S) B A x least) ∙ append_assoc B A (sorted S)) in
    record {
      some = omega arith;
      within = omega (arith, ap length with_is, length-append (B ++ x ∷ A) S, length-append B (x ∷ A));
      here = without_sorted ∙ (sym (taken_out B (A ++ sorted S) x) ∙ ap (λ ys. without_items ys (length B) 1) (sym with_sorted));
      others = λ k differ.
          parts_without (λ n. n == k) before after ps
          ∙ (ap (λ xs. (at_level k (singles before) ++ (xs ++ at_level k (singles after))) ++ at_level k ps) (sym (ap (λ b. counted b (x ∷ [])) (ne_eqb f.level k (λ e. differ (sym e)))))
          ∙ sym (parts_with (λ n. n == k) before after f ps));
    }

-- items that go behind those of the front, one after another
pub length_fetched : (l : ℕ) (xs : List Item) → length (fetched l xs) ≡ length xs
length_fetched l [] = refl
length_fetched l (x ∷ xs) = ap suc (length_fetched l xs)

pub fetched_append : (l : ℕ) (xs ys : List Item) → fetched l (xs ++ ys) ≡ fetched l xs ++ fetched l ys
fetched_append l [] ys = refl
fetched_append l (x ∷ xs) ys = ap (λ fs. record { item = x; level = l } ∷ fs) (fetched_append l xs ys)

pub appended_first : (front : List Fetched) (l : ℕ) (xs : List Item) → front ≡ front ++ fetched l (take 0 xs)
appended_first front l xs = sym (append-nil front)

pub appended_length : (front old : List Fetched) (l i : ℕ) (xs : List Item) → front ≡ old ++ fetched l (take i xs) → i ≤ length xs → length front ≡ length old + i
appended_length front old l i xs is within =
    ap length is ∙ (length-append old (fetched l (take i xs)) ∙ ap (λ n. length old + n) (length_fetched l (take i xs) ∙ length-take-le i xs within))

pub appended_more : (front after old : List Fetched) (l i : ℕ) (xs : List Item) (d : Item) → i < length xs → front ≡ old ++ fetched l (take i xs) → after ≡ front ++ record { item = get_or xs i d; level = l } ∷ [] → after ≡ old ++ fetched l (take (i + 1) xs)
appended_more front after old l i xs d within is more =
    more
    ∙ (ap (λ fs. fs ++ record { item = get_or xs i d; level = l } ∷ []) is
    ∙ (append_assoc old (fetched l (take i xs)) (record { item = get_or xs i d; level = l } ∷ [])
    ∙ ap (λ fs. old ++ fs) (sym (ap (fetched l) (take_more xs i d within) ∙ fetched_append l (take i xs) (get_or xs i d ∷ [])))))

pub appended_all : (front old : List Fetched) (l i : ℕ) (xs : List Item) → length xs ≤ i → front ≡ old ++ fetched l (take i xs) → front ≡ old ++ fetched l xs
appended_all front old l i xs all is = is ∙ ap (λ ys. old ++ fetched l ys) (take_all i xs all)

-- no more than so many go behind those of the front
pub appended_few : (front after : List Fetched) (l count most : ℕ) (xs : List Item) → after ≡ front ++ fetched l (take count xs) → length front + count ≤ most → length after ≤ most
appended_few front after l count most xs is fits =
    omega (arith, ap length is, length-append front (fetched l (take count xs)), length_fetched l (take count xs), length-take count xs, fits)

-- the block of an item of the front
pub front_block : (before after : List Fetched) (f : Fetched) (ps : List PieceState) → IsFront (before ++ f ∷ after) ps
    → sorted (at_level f.level (parts (before ++ f ∷ after) ps)) ≡ at_level f.level (singles before) ++ f.item ∷ (at_level f.level (singles after) ++ sorted (at_level f.level ps))
front_block before after f ps front =
    let l : ℕ = f.level in
    let B : List Item = at_level l (singles before) in
    let A : List Item = at_level l (singles after) in
    let S : List Item = at_level l ps in
    let own : counted (f.level == l) (f.item ∷ []) ≡ f.item ∷ [] = ap (λ b. counted b (f.item ∷ [])) (eq-eqb f.level l refl) in
    let level_is : at_level l (singles (before ++ f ∷ after)) ≡ B ++ f.item ∷ A =
    ap (at_level l) (singles_append before (f ∷ after)) ∙ (picked_append (λ n. n == l) (singles before) (singles (f ∷ after)) ∙ ap (λ xs. B ++ (xs ++ A)) own) in
    let with_is : at_level l (parts (before ++ f ∷ after) ps) ≡ (B ++ f.item ∷ A) ++ S = picked_append (λ n. n == l) (singles (before ++ f ∷ after)) ps ∙ ap (λ xs. xs ++ S) level_is in
    let up : IsAscending (B ++ f.item ∷ A) = subst IsAscending level_is (ascending_test (λ n. n == l) (before ++ f ∷ after) front.ascending) in
    let least : AllByRecursion (λ y. AllByRecursion (IsSmaller y) S) (B ++ f.item ∷ A) =
    subst (AllByRecursion (λ y. AllByRecursion (IsSmaller y) S)) level_is (all_least (λ n. n == l) (before ++ f ∷ after) ps front) in
    ap sorted with_is ∙ (sorted_front (B ++ f.item ∷ A) S up least ∙ append_assoc B (f.item ∷ A) (sorted S))
