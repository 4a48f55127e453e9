-- How items are merged into the front: the greatest of what is left of both goes to the end of the places that are left.
use Rattle.std.proofs.Common.{drop_of_length-le, ◌≡◌, ℕ, ◌+◌, ◌-◌, ◌<◌, ◌≤◌, Bool, true, false, List, [], ◌∷◌, ◌++◌, length, get_or, set, take, drop, refl, sym, ap, ◌∙◌, subst, arith, zero, suc}
use Rattle.std.proofs.lemmas.List.{append-nil, append_assoc, take-append-drop, take_all, length-append, take-set-le, drop-set, take_more, get_or-take, get_or_default}
use Rattle.klsm_run.specs.declared.item.Item.{Item}
use Rattle.klsm_run.specs.ItemOrder.{is_smaller}
use Rattle.klsm_run.specs.Content.{sorted, IsAscending, ShareNone}
use Rattle.klsm_run.proofs.ContentLemmas.{sorted_same_behind}
use Rattle.klsm_run.proofs.UniteLemmas.{IsUniting, AreBelow, uniting_first, uniting_mine_at, uniting_theirs_at, below_some, uniting_last}
use Rattle.klsm_lsm.proofs.CutLemmas.{sorted_swap_before}
use Rattle.klsm_pile.specs.declared.fetched.Fetched.{Fetched}
use Rattle.klsm_pile.specs.Pieces.{counted, items_where}
use Rattle.klsm_pile.specs.Front.{singles, fetched, front_items}
use Rattle.klsm_pile.specs.Merging.{IsMerged}
use Rattle.klsm_pile.proofs.RaisedLemmas.{picked_append}
use Rattle.klsm_pile.proofs.FrontLemmas.{singles_append, counted_append, length_fetched}

-- the items of the front, place by place
pub items_set : (fs : List Fetched) (i : ℕ) (f : Fetched) → front_items (set fs i f) ≡ set (front_items fs) i f.item
items_set [] i f = refl
items_set (g ∷ fs) zero f = refl
items_set (g ∷ fs) (suc i) f = ap (λ xs. g.item ∷ xs) (items_set fs i f)

pub items_get : (fs : List Fetched) (i : ℕ) (d : Fetched) → get_or (front_items fs) i d.item ≡ (get_or fs i d).item
items_get [] i d = refl
items_get (g ∷ fs) zero d = refl
items_get (g ∷ fs) (suc i) d = items_get fs i d

pub items_take : (n : ℕ) (fs : List Fetched) → front_items (take n fs) ≡ take n (front_items fs)
items_take zero fs = refl
items_take (suc n) [] = refl
items_take (suc n) (f ∷ fs) = ap (λ xs. f.item ∷ xs) (items_take n fs)

pub items_drop : (n : ℕ) (fs : List Fetched) → front_items (drop n fs) ≡ drop n (front_items fs)
items_drop zero fs = refl
items_drop (suc n) [] = refl
items_drop (suc n) (f ∷ fs) = items_drop n fs

pub items_length : (fs : List Fetched) → length (front_items fs) ≡ length fs
items_length [] = refl
items_length (f ∷ fs) = ap suc (items_length fs)

-- so many of both are left, and the others stand, merged, behind the places of these
pub record IsMerging (mine : List Fetched) (level : ℕ) (other : List Item) (store : List Fetched) (left right : ℕ) : Type 0 where
  pub items : IsUniting (front_items mine) other (front_items store) left right
  pub kept : take left store ≡ take left mine
  pub same : (test : ℕ → Bool) → sorted (items_where test (singles (take left mine)) ++ (counted (test level) (take right other) ++ items_where test (singles (drop (left + right) store)))) ≡ sorted (items_where test (singles mine) ++ counted (test level) other)

pub merging_first : (mine store : List Fetched) (level : ℕ) (other : List Item) → store ≡ mine ++ fetched level other → IsMerging mine level other store (length mine) (length other)
merging_first mine store level other is =
    let room : length (front_items store) ≡ length mine + length other = items_length store ∙ (ap length is ∙ whole) in
    let before : take (length mine) store ≡ mine = ap (take (length mine)) is ∙ first mine (fetched level other) in
    let mine_is : take (length mine) (front_items store) ≡ front_items mine = sym (items_take (length mine) store) ∙ ap front_items before in
    let all : take (length mine) mine ≡ mine = take_all (length mine) mine (omega arith) in
    let others : take (length other) other ≡ other = take_all (length other) other (omega arith) in
    let none : drop (length mine + length other) store ≡ [] = drop_of_length-le store (omega (arith, room, items_length store)) in
    record {
      items = subst (λ ms. IsUniting ms other (front_items store) (length mine) (length other)) mine_is (uniting_first (length mine) (front_items store) other room);
      kept = before ∙ sym all;
      same = λ test.
          ap (λ ms. sorted (items_where test (singles ms) ++ (counted (test level) (take (length other) other) ++ items_where test (singles (drop (length mine + length other) store))))) all
          ∙ (ap (λ os. sorted (items_where test (singles mine) ++ (counted (test level) os ++ items_where test (singles (drop (length mine + length other) store))))) others
          ∙ (ap (λ ds. sorted (items_where test (singles mine) ++ (counted (test level) other ++ items_where test (singles ds)))) none
          ∙ ap (λ xs. sorted (items_where test (singles mine) ++ xs)) (append-nil (counted (test level) other))));
    }
  where
    first : (xs ys : List Fetched) → take (length xs) (xs ++ ys) ≡ xs
    first [] ys = refl
    first (x ∷ xs) ys = ap (λ zs. x ∷ zs) (first xs ys)

    whole : length (mine ++ fetched level other) ≡ length mine + length other
    whole = length-append mine (fetched level other) ∙ ap (λ n. length mine + n) (length_fetched level other)

-- what is picked of one item more
pub picked_more : (test : ℕ → Bool) (fs : List Fetched) (i : ℕ) (d : Fetched) → i < length fs → items_where test (singles (take (i + 1) fs)) ≡ items_where test (singles (take i fs)) ++ counted (test (get_or fs i d).level) ((get_or fs i d).item ∷ [])
picked_more test fs i d within =
    ap (λ gs. items_where test (singles gs)) (take_more fs i d within)
    ∙ (ap (items_where test) (singles_append (take i fs) (get_or fs i d ∷ []))
    ∙ (picked_append test (singles (take i fs)) (singles (get_or fs i d ∷ []))
    ∙ ap (λ xs. items_where test (singles (take i fs)) ++ xs) (append-nil (counted (test (get_or fs i d).level) ((get_or fs i d).item ∷ [])))))

-- an item goes from before others to behind them
swapped : (p z c d : List Item) → sorted (p ++ (c ++ (z ++ d))) ≡ sorted ((p ++ z) ++ (c ++ d))
swapped p z c d =
    sorted_same_behind p (c ++ (z ++ d)) (z ++ (c ++ d)) (sorted_swap_before c z d)
    ∙ ap sorted (sym (append_assoc p z (c ++ d)))

take_less : (n : ℕ) (fs : List Fetched) → take n (take (n + 1) fs) ≡ take n fs
take_less n fs = let e : n + 1 ≡ suc n = omega arith in ap (λ m. take n (take m fs)) e ∙ go n fs where
  go : (k : ℕ) (gs : List Fetched) → take k (take (suc k) gs) ≡ take k gs
  go zero gs = refl
  go (suc k) [] = refl
  go (suc k) (g ∷ gs) = ap (λ hs. g ∷ hs) (go k gs)

-- the greatest that is left of the front moves
pub merging_mine : (mine : List Fetched) (level : ℕ) (other : List Item) (store : List Fetched) (left right at back : ℕ) (d : Fetched) → left ≡ at + 1 → right ≡ back + 1 → IsAscending (front_items mine) → IsAscending other
    → is_smaller (get_or other back d.item) (get_or store at d).item ≡ true → IsMerging mine level other store left right → IsMerging mine level other (set store (at + right) (get_or store at d)) at right
merging_mine mine level other store left right at back d left_is right_is up_mine up_other less m =
    let f : Fetched = get_or store at d in
    let n : ℕ = length mine in
    let in_mine : at < length mine = omega (arith, m.items.left_in, items_length mine, left_is) in
    let in_store : at + right < length store = omega (arith, m.items.room, m.items.left_in, m.items.right_in, items_length store, left_is) in
    let item_is : get_or (front_items store) at d.item ≡ f.item = items_get store at d in
    let there : get_or mine at d ≡ f =
    sym (get_or-take (at + 1) mine at d (omega arith)) ∙ (ap (λ k. get_or (take k mine) at d) (sym left_is) ∙ (ap (λ gs. get_or gs at d) (sym m.kept)
    ∙ (ap (λ k. get_or (take k store) at d) left_is ∙ get_or-take (at + 1) store at d (omega arith)))) in
    let place : at + right + 1 ≡ left + right = omega (arith, left_is) in
    let behind : drop (at + right) (set store (at + right) f) ≡ f ∷ drop (left + right) store = drop-set store (at + right) f in_store ∙ ap (λ k. f ∷ drop k store) place in
    record {
      items = subst (λ xs. IsUniting (front_items mine) other xs at right) (ap (λ x. set (front_items store) (at + right) x) item_is ∙ sym (items_set store (at + right) f))
          (uniting_mine_at (front_items mine) other (front_items store) left right at back d.item left_is right_is up_mine up_other (ap (is_smaller (get_or other back d.item)) item_is ∙ less) m.items);
      kept = take-set-le at store (at + right) f (omega arith) ∙ (sym (take_less at store) ∙ (ap (λ k. take at (take k store)) (sym left_is) ∙ (ap (take at) m.kept ∙ (ap (λ k. take at (take k mine)) left_is ∙ take_less at mine))));
      same = λ test.
          let P : List Item = items_where test (singles (take at mine)) in
          let C : List Item = counted (test level) (take right other) in
          let D : List Item = items_where test (singles (drop (left + right) store)) in
          let Z : List Item = counted (test f.level) (f.item ∷ []) in
          let more : items_where test (singles (take left mine)) ≡ P ++ Z =
          ap (λ k. items_where test (singles (take k mine))) left_is ∙ (picked_more test mine at d in_mine ∙ ap (λ (g : Fetched). P ++ counted (test g.level) (g.item ∷ [])) there) in
          ap (λ gs. sorted (P ++ (C ++ items_where test (singles gs)))) behind
          ∙ (swapped P Z C D
          ∙ (ap (λ xs. sorted (xs ++ (C ++ D))) (sym more) ∙ m.same test));
    }

-- the greatest that is left of the others moves
pub merging_theirs : (mine : List Fetched) (level : ℕ) (other : List Item) (store : List Fetched) (left right back : ℕ) (d : Item) → right ≡ back + 1 → IsAscending other → AreBelow (get_or other back d) (take left (front_items mine))
    → IsMerging mine level other store left right → IsMerging mine level other (set store (left + back) (record { item = get_or other back d; level = level })) left back
merging_theirs mine level other store left right back d right_is up_other below m =
    let y : Item = get_or other back d in
    let f : Fetched = record { item = y; level = level } in
    let in_other : back < length other = omega (arith, m.items.right_in, right_is) in
    let in_store : left + back < length store = omega (arith, m.items.room, m.items.left_in, m.items.right_in, items_length store, right_is) in
    let place : left + back + 1 ≡ left + right = omega (arith, right_is) in
    let behind : drop (left + back) (set store (left + back) f) ≡ f ∷ drop (left + right) store = drop-set store (left + back) f in_store ∙ ap (λ k. f ∷ drop k store) place in
    record {
      items = subst (λ xs. IsUniting (front_items mine) other xs left back) (sym (items_set store (left + back) f)) (uniting_theirs_at (front_items mine) other (front_items store) left right back d right_is up_other below m.items);
      kept = take-set-le left store (left + back) f (omega arith) ∙ m.kept;
      same = λ test.
          let P : List Item = items_where test (singles (take left mine)) in
          let C : List Item = counted (test level) (take back other) in
          let D : List Item = items_where test (singles (drop (left + right) store)) in
          let Y : List Item = counted (test level) (y ∷ []) in
          let more : counted (test level) (take right other) ≡ C ++ Y =
          ap (λ k. counted (test level) (take k other)) right_is ∙ (ap (counted (test level)) (take_more other back d in_other) ∙ counted_append (test level) (take back other) (y ∷ [])) in
          ap (λ gs. sorted (P ++ (C ++ items_where test (singles gs)))) behind
          ∙ (ap (λ xs. sorted (P ++ xs)) (sym (append_assoc C Y D))
          ∙ (ap (λ xs. sorted (P ++ (xs ++ D))) (sym more) ∙ m.same test));
    }

-- none of the others is left
pub merging_last : (mine : List Fetched) (level : ℕ) (other : List Item) (store : List Fetched) (left right : ℕ) → right ≡ 0 → IsAscending (front_items mine) → IsMerging mine level other store left right → IsMerged level other mine store
merging_last mine level other store left right none up m = record {
  ordered = uniting_last (front_items mine) other (front_items store) left right none up m.items;
  same = λ test.
      let place : left + right ≡ left = omega (arith, none) in
      let empty : take right other ≡ [] = ap (λ k. take k other) none in
      let nothing : counted (test level) (take right other) ≡ [] = ap (counted (test level)) empty ∙ of_none (test level) in
      ap (λ gs. sorted (items_where test (singles gs))) (sym (take-append-drop left store))
      ∙ (ap (λ ps. sorted (items_where test ps)) (singles_append (take left store) (drop left store))
      ∙ (ap sorted (picked_append test (singles (take left store)) (singles (drop left store)))
      ∙ (ap (λ gs. sorted (items_where test (singles gs) ++ items_where test (singles (drop left store)))) m.kept
      ∙ (ap (λ k. sorted (items_where test (singles (take left mine)) ++ items_where test (singles (drop k store)))) (sym place)
      ∙ (ap (λ xs. sorted (items_where test (singles (take left mine)) ++ (xs ++ items_where test (singles (drop (left + right) store))))) (sym nothing)
      ∙ m.same test)))));
} where
  of_none : (b : Bool) → counted b [] ≡ []
  of_none true = refl
  of_none false = refl

-- the same at the values of the code
pub merging_mine_at : (mine : List Fetched) (level : ℕ) (other : List Item) (store : List Fetched) (left right : ℕ) (x y : Fetched) (e : Item) → 0 < left → 0 < right → IsAscending (front_items mine) → IsAscending other
    → x ≡ get_or store (left - 1) x → y ≡ get_or store (left - 1) y → true ≡ is_smaller (get_or other (right - 1) e) x.item → IsMerging mine level other store left right → IsMerging mine level other (set store (left + right - 1) y) (left - 1) right
merging_mine_at mine level other store left right x y e some some_right up_mine up_other x_is y_is less m =
    let in_other : right - 1 < length other = omega (arith, m.items.right_in, some_right) in
    let in_store : left - 1 < length store = omega (arith, m.items.room, m.items.left_in, items_length store, some) in
    let test : is_smaller (get_or other (right - 1) x.item) (get_or store (left - 1) x).item ≡ true =
    ap (λ (f : Fetched). is_smaller (get_or other (right - 1) x.item) f.item) (sym x_is) ∙ (ap (λ z. is_smaller z x.item) (get_or_default other (right - 1) x.item e in_other) ∙ sym less) in
    let place : left - 1 + right ≡ left + right - 1 = omega (arith, some) in
    subst (λ n. IsMerging mine level other (set store n y) (left - 1) right) place
    (subst (λ f. IsMerging mine level other (set store (left - 1 + right) f) (left - 1) right) (get_or_default store (left - 1) x y in_store ∙ sym y_is)
    (merging_mine mine level other store left right (left - 1) (right - 1) x (omega (arith, some)) (omega (arith, some_right)) up_mine up_other test m))

theirs_placed : (mine : List Fetched) (level : ℕ) (other : List Item) (store : List Fetched) (left right : ℕ) (e : Item) → 0 < right → IsAscending other → AreBelow (get_or other (right - 1) e) (take left (front_items mine)) → IsMerging mine level other store left right
    → IsMerging mine level other (set store (left + right - 1) (record { item = get_or other (right - 1) e; level = level })) left (right - 1)
theirs_placed mine level other store left right e some_right up_other below m =
    let place : left + (right - 1) ≡ left + right - 1 = omega (arith, some_right) in
    subst (λ n. IsMerging mine level other (set store n (record { item = get_or other (right - 1) e; level = level })) left (right - 1)) place
    (merging_theirs mine level other store left right (right - 1) e (omega (arith, some_right)) up_other below m)

pub merging_theirs_first : (mine : List Fetched) (level : ℕ) (other : List Item) (store : List Fetched) (left right : ℕ) (e : Item) → left ≤ 0 → 0 < right → IsAscending other → IsMerging mine level other store left right
    → IsMerging mine level other (set store (left + right - 1) (record { item = get_or other (right - 1) e; level = level })) left (right - 1)
merging_theirs_first mine level other store left right e none some_right up_other m =
    let zero_is : 0 ≡ left = omega (arith, none) in
    theirs_placed mine level other store left right e some_right up_other (subst (λ n. AreBelow (get_or other (right - 1) e) (take n (front_items mine))) zero_is tt) m

pub merging_theirs_at : (mine : List Fetched) (level : ℕ) (other : List Item) (store : List Fetched) (left right : ℕ) (x : Fetched) (e : Item) → 0 < left → 0 < right → IsAscending (front_items mine) → IsAscending other → ShareNone (front_items mine) other
    → x ≡ get_or store (left - 1) x → false ≡ is_smaller (get_or other (right - 1) e) x.item → IsMerging mine level other store left right
    → IsMerging mine level other (set store (left + right - 1) (record { item = get_or other (right - 1) e; level = level })) left (right - 1)
merging_theirs_at mine level other store left right x e some some_right up_mine up_other apart x_is not_less m =
    let in_other : right - 1 < length other = omega (arith, m.items.right_in, some_right) in
    let item_is : get_or (front_items store) (left - 1) x.item ≡ x.item = items_get store (left - 1) x ∙ ap (λ (f : Fetched). f.item) (sym x_is) in
    let test : is_smaller (get_or other (right - 1) x.item) (get_or (front_items store) (left - 1) x.item) ≡ false =
    ap (is_smaller (get_or other (right - 1) x.item)) item_is ∙ (ap (λ z. is_smaller z x.item) (get_or_default other (right - 1) x.item e in_other) ∙ sym not_less) in
    let below : AreBelow (get_or other (right - 1) x.item) (take left (front_items mine)) =
    below_some (front_items mine) other (front_items store) left right (left - 1) (right - 1) x.item (omega (arith, some)) (omega (arith, some_right)) up_mine apart test m.items in
    theirs_placed mine level other store left right e some_right up_other (subst (λ z. AreBelow z (take left (front_items mine))) (get_or_default other (right - 1) x.item e in_other) below) m

pub merging_room : (mine : List Fetched) (level : ℕ) (other : List Item) (store : List Fetched) (left right : ℕ) → 0 < right → IsMerging mine level other store left right → left + right - 1 < length store
merging_room mine level other store left right some m = omega (arith, m.items.room, m.items.left_in, m.items.right_in, items_length store, some)

-- as many as are left of both, of all that are in the store
pub merging_sum : (mine store now : List Fetched) (level : ℕ) (other : List Item) (left right : ℕ) → store ≡ mine ++ fetched level other → IsMerging mine level other now left right → left + right ≤ length store
merging_sum mine store now level other left right is m =
    let first = merging_first mine store level other is in
    omega (arith, m.items.left_in, m.items.right_in, first.items.room, items_length store)
