-- The last items of the front become pieces.
use Rattle.std.proofs.Common.{◌≡◌, ℕ, ◌+◌, ◌<◌, ◌≤◌, Bool, true, false, List, [], ◌∷◌, ◌++◌, length, get_or, take, drop, refl, sym, ap, ◌∙◌, subst, arith, eq-eqb, ne_eqb, lt-ltb, le-ltb, add-one, drop-cons, zero, suc, inl, inr}
use Rattle.std.specs.Prelude.{◌==◌, nat_lt, if◌then◌else◌}
use Rattle.std.specs.List.{AllByRecursion}
use Rattle.std.proofs.lemmas.Bool.{cases_lt, cases_eq}
use Rattle.std.proofs.lemmas.List.{append-nil, append_assoc, length-append, length-drop, take-append-drop, drop_all}
use Rattle.std.proofs.Math.Seq.{take-append_seam}
use Rattle.klsm_run.specs.declared.item.Item.{Item}
use Rattle.klsm_run.specs.ItemOrder.{IsSmaller}
use Rattle.klsm_run.specs.Content.{sorted, IsAscending, ShareNone}
use Rattle.klsm_run.proofs.AllLemmas.{all_append, all_front, all_back, all_weaker}
use Rattle.klsm_run.proofs.OrderLemmas.{not_smaller_than_itself}
use Rattle.klsm_run.proofs.SortedLemmas.{IsNew, sorted_ascending}
use Rattle.klsm_run.proofs.ContentLemmas.{sorted_swap, sorted_same_behind, sharing_none_if_apart}
use Rattle.klsm_lsm.proofs.CutLemmas.{sorted_swap_before}
use Rattle.klsm_pile.specs.declared.fetched.Fetched.{Fetched}
use Rattle.klsm_pile.specs.Piece.{PieceState}
use Rattle.klsm_pile.specs.Pieces.{counted, items_where, at_level, every_item, HaveSame}
use Rattle.klsm_pile.specs.Front.{singles, parts, front_items, IsFront}
use Rattle.klsm_pile.specs.Piles.{IsConsistent}
use Rattle.klsm_pile.specs.Spilling.{piece_of}
use Rattle.klsm_pile.proofs.RaisedLemmas.{picked_append}
use Rattle.klsm_pile.proofs.AddingLemmas.{sorted_same_before}
use Rattle.klsm_pile.proofs.FrontLemmas.{singles_append, counted_append, items_of_singles, ascending_test}
use Rattle.klsm_pile.proofs.MergeLemmas.{items_length}
use Rattle.klsm_pile.proofs.FetchLemmas.{items_append, items_in_front, items_of_parts, all_same, all_both, ascending_front, ascending_back, ascending_across}
use Rattle.klsm_pile.proofs.StoreLemmas.{AreBelowLevel, picked_few}
use Rattle.klsm_pile.proofs.RefillLemmas.{held_still}

-- the items of one level behind the first ones
abbrev pub level_behind : ℕ → ℕ → List Fetched → List Item
level_behind l keep front = at_level l (singles (drop keep front))

pub level_few : (l keep : ℕ) (front : List Fetched) → length (level_behind l keep front) ≤ length front
level_few l keep front =
    omega (arith, picked_few (λ n. n == l) (singles (drop keep front)), ap length (items_of_singles (drop keep front)), items_length (drop keep front), length-drop keep front)

-- the items of the front in two
front_splits : (keep : ℕ) (front : List Fetched) → front_items (take keep front) ++ front_items (drop keep front) ≡ front_items front
front_splits keep front = sym (items_in_front (take keep front) (drop keep front)) ∙ ap front_items (take-append-drop keep front)

pub level_ascending : (l keep : ℕ) (front : List Fetched) → IsAscending (front_items front) → IsAscending (level_behind l keep front)
level_ascending l keep front up =
    ascending_test (λ n. n == l) (drop keep front) (ascending_back (front_items (take keep front)) (front_items (drop keep front)) (subst IsAscending (sym (front_splits keep front)) up))

-- the next item, and those behind it
level_next : (l i : ℕ) (front : List Fetched) (d : Fetched) → i < length front → d ≡ get_or front i d → level_behind l i front ≡ counted (d.level == l) (d.item ∷ []) ++ level_behind l (i + 1) front
level_next l i front d within is =
    ap (λ fs. at_level l (singles fs)) (drop-cons front i d within)
    ∙ (ap (λ (f : Fetched). counted (f.level == l) (f.item ∷ []) ++ level_behind l (suc i) front) (sym is)
    ∙ ap (λ k. counted (d.level == l) (d.item ∷ []) ++ level_behind l k front) (sym (add-one i)))

level_here : (l i : ℕ) (front : List Fetched) (d : Fetched) → i < length front → d ≡ get_or front i d → d.level ≡ l → level_behind l i front ≡ d.item ∷ level_behind l (i + 1) front
level_here l i front d within is here = level_next l i front d within is ∙ ap (λ b. counted b (d.item ∷ []) ++ level_behind l (i + 1) front) (eq-eqb d.level l here)

pub level_other : (l i : ℕ) (front : List Fetched) (d : Fetched) → i < length front → d ≡ get_or front i d → (d.level ≡ l → ⊥) → level_behind l i front ≡ level_behind l (i + 1) front
level_other l i front d within is other = level_next l i front d within is ∙ ap (λ b. counted b (d.item ∷ []) ++ level_behind l (i + 1) front) (ne_eqb d.level l other)

pub level_none : (l i : ℕ) (front : List Fetched) → length front ≤ i → level_behind l i front ≡ []
level_none l i front all = ap (λ fs. at_level l (singles fs)) (drop_all i front all)

-- they are counted
pub counted_here : (l i n total : ℕ) (front : List Fetched) (d : Fetched) → i < length front → d ≡ get_or front i d → d.level ≡ l → n + length (level_behind l i front) ≡ total → n + 1 + length (level_behind l (i + 1) front) ≡ total
counted_here l i n total front d within is here so_far = omega (arith, so_far, ap length (level_here l i front d within is here))

pub counted_other : (l i n total : ℕ) (front : List Fetched) (d : Fetched) → i < length front → d ≡ get_or front i d → (d.level ≡ l → ⊥) → n + length (level_behind l i front) ≡ total → n + length (level_behind l (i + 1) front) ≡ total
counted_other l i n total front d within is other so_far = ap (λ xs. n + length xs) (sym (level_other l i front d within is other)) ∙ so_far

pub counted_all : (l i n total : ℕ) (front : List Fetched) → length front ≤ i → n + length (level_behind l i front) ≡ total → n ≡ total
counted_all l i n total front all so_far = omega (arith, so_far, ap length (level_none l i front all))

-- they are united, one after another
united_next : (l i : ℕ) (front : List Fetched) (d : Fetched) (xs all : List Item) → i < length front → d ≡ get_or front i d → d.level ≡ l → xs ++ level_behind l i front ≡ all → (xs ++ d.item ∷ []) ++ level_behind l (i + 1) front ≡ all
united_next l i front d xs all within is here so_far =
    append_assoc xs (d.item ∷ []) (level_behind l (i + 1) front) ∙ (ap (λ ys. xs ++ ys) (sym (level_here l i front d within is here)) ∙ so_far)

pub united_here : (l i : ℕ) (front : List Fetched) (d : Fetched) (xs after all : List Item) → i < length front → d ≡ get_or front i d → d.level ≡ l → IsAscending all → xs ++ level_behind l i front ≡ all → after ≡ sorted (xs ++ d.item ∷ []) → after ++ level_behind l (i + 1) front ≡ all
united_here l i front d xs after all within is here up so_far after_is =
    let next : (xs ++ d.item ∷ []) ++ level_behind l (i + 1) front ≡ all = united_next l i front d xs all within is here so_far in
    ap (λ ys. ys ++ level_behind l (i + 1) front)
    (after_is ∙ sorted_ascending (xs ++ d.item ∷ []) (ascending_front (xs ++ d.item ∷ []) (level_behind l (i + 1) front) (subst IsAscending (sym next) up)))
    ∙ next

pub united_other : (l i : ℕ) (front : List Fetched) (d : Fetched) (xs all : List Item) → i < length front → d ≡ get_or front i d → (d.level ≡ l → ⊥) → xs ++ level_behind l i front ≡ all → xs ++ level_behind l (i + 1) front ≡ all
united_other l i front d xs all within is other so_far = ap (λ ys. xs ++ ys) (sym (level_other l i front d within is other)) ∙ so_far

pub united_all : (l i : ℕ) (front : List Fetched) (xs all : List Item) → length front ≤ i → xs ++ level_behind l i front ≡ all → xs ≡ all
united_all l i front xs all past so_far = sym (append-nil xs) ∙ (ap (λ ys. xs ++ ys) (sym (level_none l i front past)) ∙ so_far)

-- the next one is larger than those that are there, and has room
pub united_apart : (l i : ℕ) (front : List Fetched) (d : Fetched) (xs all : List Item) → i < length front → d ≡ get_or front i d → d.level ≡ l → IsAscending all → xs ++ level_behind l i front ≡ all → ShareNone xs (d.item ∷ [])
united_apart l i front d xs all within is here up so_far =
    let next : (xs ++ d.item ∷ []) ++ level_behind l (i + 1) front ≡ all = united_next l i front d xs all within is here so_far in
    let both : IsAscending (xs ++ d.item ∷ []) = ascending_front (xs ++ d.item ∷ []) (level_behind l (i + 1) front) (subst IsAscending (sym next) up) in
    sharing_none_if_apart xs (d.item ∷ [])
    (all_weaker (λ y. AllByRecursion (IsSmaller y) (d.item ∷ [])) (λ y. IsNew y (d.item ∷ [])) (λ y less. (λ same. not_smaller_than_itself y (subst (IsSmaller y) same less.0), tt)) xs (ascending_across xs (d.item ∷ []) both))

pub united_room : (l i : ℕ) (front : List Fetched) (d : Fetched) (xs all : List Item) → i < length front → d ≡ get_or front i d → d.level ≡ l → xs ++ level_behind l i front ≡ all → length xs + 1 ≤ length all
united_room l i front d xs all within is here so_far =
    omega (arith, ap length so_far, length-append xs (level_behind l i front), ap length (level_here l i front d within is here))

-- a piece for each level below one that has items
abbrev pub spilled : ℕ → List Fetched → List PieceState
spilled zero fs = []
spilled (suc l) fs = spilled l fs ++ piece_of l (at_level l (singles fs))

piece_length : (l : ℕ) (xs : List Item) → length (piece_of l xs) ≤ 1
piece_length l [] = omega arith
piece_length l (x ∷ xs) = omega arith

pub spilled_length : (n : ℕ) (fs : List Fetched) → length (spilled n fs) ≤ n
spilled_length zero fs = omega arith
spilled_length (suc l) fs =
    omega (arith, spilled_length l fs, piece_length l (at_level l (singles fs)), length-append (spilled l fs) (piece_of l (at_level l (singles fs))))

piece_below : (levels l : ℕ) (xs : List Item) → l < levels → AreBelowLevel levels (piece_of l xs)
piece_below levels l [] less = tt
piece_below levels l (x ∷ xs) less = (less, tt)

spilled_below : (levels n : ℕ) (fs : List Fetched) → n ≤ levels → AreBelowLevel levels (spilled n fs)
spilled_below levels zero fs fits = tt
spilled_below levels (suc l) fs fits =
    all_append (λ (p : PieceState). p.level < levels) (spilled l fs) (piece_of l (at_level l (singles fs))) (spilled_below levels l fs (omega (arith, fits)))
    (piece_below levels l (at_level l (singles fs)) (omega (arith, fits)))

-- the levels below one that pass a test
abbrev upto : (ℕ → Bool) → ℕ → ℕ → Bool
upto test n l = if nat_lt l n then test l else false

upto_other : (test : ℕ → Bool) (n l : ℕ) → (l ≡ n → ⊥) → upto test (suc n) l ≡ upto test n l
upto_other test n l other = elim (cases_lt l n) [
  | inl less ↦ rw (lt-ltb l n less, lt-ltb l (suc n) (omega (arith, less))) refl
  | inr more ↦ elim (cases_lt n l) [
    | inl beyond ↦ rw (le-ltb l n more, le-ltb l (suc n) (omega (arith, beyond))) refl
    | inr under ↦ absurd (other (omega (arith, more, under)))
  ]
]

upto_last : (test : ℕ → Bool) (n l : ℕ) → l ≡ n → upto test (suc n) l ≡ test n
upto_last test n l same = rw (lt-ltb l (suc n) (omega (arith, same))) (ap test same)

upto_not : (test : ℕ → Bool) (n l : ℕ) → l ≡ n → upto test n l ≡ false
upto_not test n l same = rw (le-ltb l n (omega (arith, same))) refl

counted_nothing : (b : Bool) → counted b [] ≡ []
counted_nothing true = refl
counted_nothing false = refl

-- one more level
last_level : (test : ℕ → Bool) (n : ℕ) (ps : List PieceState) → sorted (items_where (upto test (suc n)) ps) ≡ sorted (items_where (upto test n) ps ++ counted (test n) (at_level n ps))
last_level test n [] = ap sorted (sym (counted_nothing (test n)))
last_level test n (p ∷ ps) =
    let M : List Item = items_where (upto test (suc n)) ps in
    let U : List Item = items_where (upto test n) ps in
    let D : List Item = counted (test n) (at_level n ps) in
    elim (cases_eq p.level n) [
      | inl same ↦
          let C : List Item = counted (test n) p.items in
          let left : counted (upto test (suc n) p.level) p.items ++ M ≡ C ++ M = ap (λ b. counted b p.items ++ M) (upto_last test n p.level same) in
          let first : counted (upto test n p.level) p.items ++ U ≡ U = ap (λ b. counted b p.items ++ U) (upto_not test n p.level same) in
          let second : counted (test n) (counted (p.level == n) p.items ++ at_level n ps) ≡ C ++ D =
          ap (λ b. counted (test n) (counted b p.items ++ at_level n ps)) (eq-eqb p.level n same) ∙ counted_append (test n) p.items (at_level n ps) in
          ap sorted left
          ∙ (sorted_same_behind C M (U ++ D) (last_level test n ps)
          ∙ (sorted_swap_before C U D
          ∙ (ap (λ xs. sorted (U ++ xs)) (sym second) ∙ ap (λ xs. sorted (xs ++ counted (test n) (counted (p.level == n) p.items ++ at_level n ps))) (sym first))))
      | inr differ ↦
          let K : List Item = counted (upto test n p.level) p.items in
          let left : counted (upto test (suc n) p.level) p.items ++ M ≡ K ++ M = ap (λ b. counted b p.items ++ M) (upto_other test n p.level differ) in
          let second : counted (test n) (counted (p.level == n) p.items ++ at_level n ps) ≡ D =
          ap (λ b. counted (test n) (counted b p.items ++ at_level n ps)) (ne_eqb p.level n differ) in
          ap sorted left
          ∙ (sorted_same_behind K M (U ++ D) (last_level test n ps)
          ∙ (ap sorted (sym (append_assoc K U D)) ∙ ap (λ xs. sorted ((K ++ U) ++ xs)) (sym second)))
    ]

all_upto : (test : ℕ → Bool) (n : ℕ) (ps : List PieceState) → AreBelowLevel n ps → items_where (upto test n) ps ≡ items_where test ps
all_upto test n [] below = refl
all_upto test n (p ∷ ps) below =
    let is : upto test n p.level ≡ test p.level = rw (lt-ltb p.level n below.0) refl in
    ap (λ b. counted b p.items ++ items_where (upto test n) ps) is ∙ ap (λ xs. counted (test p.level) p.items ++ xs) (all_upto test n ps below.1)

none_upto : (test : ℕ → Bool) (ps : List PieceState) → items_where (upto test 0) ps ≡ []
none_upto test [] = refl
none_upto test (p ∷ ps) =
    let is : upto test 0 p.level ≡ false = rw (le-ltb p.level 0 (omega arith)) refl in
    ap (λ b. counted b p.items ++ items_where (upto test 0) ps) is ∙ none_upto test ps

picked_piece : (test : ℕ → Bool) (l : ℕ) (xs : List Item) → items_where test (piece_of l xs) ≡ counted (test l) xs
picked_piece test l [] = sym (counted_nothing (test l))
picked_piece test l (x ∷ xs) = append-nil (counted (test l) (x ∷ xs))

-- the pieces have the items of these levels
spilled_upto : (test : ℕ → Bool) (n : ℕ) (fs : List Fetched) → sorted (items_where test (spilled n fs)) ≡ sorted (items_where (upto test n) (singles fs))
spilled_upto test zero fs = ap sorted (sym (none_upto test (singles fs)))
spilled_upto test (suc l) fs =
    let L : List Item = at_level l (singles fs) in
    ap sorted (picked_append test (spilled l fs) (piece_of l L) ∙ ap (λ xs. items_where test (spilled l fs) ++ xs) (picked_piece test l L))
    ∙ (sorted_same_before (items_where test (spilled l fs)) (items_where (upto test l) (singles fs)) (counted (test l) L) (spilled_upto test l fs)
    ∙ sym (last_level test l (singles fs)))

spilled_same : (test : ℕ → Bool) (n : ℕ) (fs : List Fetched) → AreBelowLevel n (singles fs) → sorted (items_where test (spilled n fs)) ≡ sorted (items_where test (singles fs))
spilled_same test n fs below = spilled_upto test n fs ∙ ap sorted (all_upto test n (singles fs) below)

singles_split : (keep : ℕ) (front : List Fetched) → singles front ≡ singles (take keep front) ++ singles (drop keep front)
singles_split keep front = ap singles (sym (take-append-drop keep front)) ∙ singles_append (take keep front) (drop keep front)

-- the front without its last items, and the pieces with these
pub spill_keeps : (levels keep : ℕ) (front : List Fetched) (ps : List PieceState) → AreBelowLevel levels (parts front ps) → HaveSame (parts (take keep front) (ps ++ spilled levels (drop keep front))) (parts front ps)
spill_keeps levels keep front ps below test =
    let F : List Item = items_where test (singles (take keep front)) in
    let G : List Item = items_where test (singles (drop keep front)) in
    let P : List Item = items_where test ps in
    let S : List Item = items_where test (spilled levels (drop keep front)) in
    let of_last : AreBelowLevel levels (singles (drop keep front)) =
    all_back (λ (p : PieceState). p.level < levels) (singles (take keep front)) (singles (drop keep front))
    (subst (AreBelowLevel levels) (singles_split keep front) (all_front (λ (p : PieceState). p.level < levels) (singles front) ps below)) in
    let left : items_where test (parts (take keep front) (ps ++ spilled levels (drop keep front))) ≡ F ++ (P ++ S) =
    picked_append test (singles (take keep front)) (ps ++ spilled levels (drop keep front)) ∙ ap (λ xs. F ++ xs) (picked_append test ps (spilled levels (drop keep front))) in
    let right : items_where test (parts front ps) ≡ F ++ (G ++ P) =
    picked_append test (singles front) ps
    ∙ (ap (λ xs. xs ++ P) (ap (items_where test) (singles_split keep front) ∙ picked_append test (singles (take keep front)) (singles (drop keep front))) ∙ append_assoc F G P) in
    ap sorted left
    ∙ (sorted_same_behind F (P ++ S) (G ++ P) (sorted_same_behind P S G (spilled_same test levels (drop keep front) of_last) ∙ sorted_swap P G)
    ∙ ap sorted (sym right))

spill_below : (levels keep : ℕ) (front : List Fetched) (ps : List PieceState) → AreBelowLevel levels (parts front ps) → AreBelowLevel levels (parts (take keep front) (ps ++ spilled levels (drop keep front)))
spill_below levels keep front ps below =
    let of_front : AreBelowLevel levels (singles (take keep front)) =
    all_front (λ (p : PieceState). p.level < levels) (singles (take keep front)) (singles (drop keep front))
    (subst (AreBelowLevel levels) (singles_split keep front) (all_front (λ (p : PieceState). p.level < levels) (singles front) ps below)) in
    all_append (λ (p : PieceState). p.level < levels) (singles (take keep front)) (ps ++ spilled levels (drop keep front)) of_front
    (all_append (λ (p : PieceState). p.level < levels) ps (spilled levels (drop keep front)) (all_back (λ (p : PieceState). p.level < levels) (singles front) ps below)
    (spilled_below levels levels (drop keep front) (omega arith)))

-- the first ones are still smaller than all of the pieces
spill_ordered : (levels keep : ℕ) (front : List Fetched) (ps : List PieceState) → AreBelowLevel levels (parts front ps) → IsFront front ps → IsFront (take keep front) (ps ++ spilled levels (drop keep front))
spill_ordered levels keep front ps below ordered =
    let F : List Item = front_items (take keep front) in
    let G : List Item = front_items (drop keep front) in
    let S : List Item = every_item (spilled levels (drop keep front)) in
    let up : IsAscending (F ++ G) = subst IsAscending (sym (front_splits keep front)) ordered.ascending in
    let of_last : AreBelowLevel levels (singles (drop keep front)) =
    all_back (λ (p : PieceState). p.level < levels) (singles (take keep front)) (singles (drop keep front))
    (subst (AreBelowLevel levels) (singles_split keep front) (all_front (λ (p : PieceState). p.level < levels) (singles front) ps below)) in
    let same : sorted G ≡ sorted S = ap sorted (sym (items_of_singles (drop keep front))) ∙ sym (spilled_same (λ n. true) levels (drop keep front) of_last) in
    let least : AllByRecursion (λ x. AllByRecursion (IsSmaller x) (every_item ps)) (F ++ G) = subst (AllByRecursion (λ x. AllByRecursion (IsSmaller x) (every_item ps))) (sym (front_splits keep front)) ordered.least in
    record {
      ascending = ascending_front F G up;
      least = subst (λ ys. AllByRecursion (λ x. AllByRecursion (IsSmaller x) ys) F) (sym (items_append ps (spilled levels (drop keep front))))
          (all_both (every_item ps) S F (all_front (λ x. AllByRecursion (IsSmaller x) (every_item ps)) F G least)
          (all_weaker (λ x. AllByRecursion (IsSmaller x) G) (λ x. AllByRecursion (IsSmaller x) S) (λ x less. all_same (IsSmaller x) G S same less) F (ascending_across F G up)));
    }

-- at the values of the code
pub record AreSpilled (levels keep : ℕ) (front after : List Fetched) (ps rest : List PieceState) : Type 0 where
  pub front_is : after ≡ take keep front
  pub pieces_are : rest ≡ ps ++ spilled levels (drop keep front)

pub spilled_all : (levels n keep : ℕ) (front after : List Fetched) (ps rest : List PieceState) → n ≡ levels → after ≡ take keep front → rest ≡ ps ++ spilled n (drop keep front) → AreSpilled levels keep front after ps rest
spilled_all levels n keep front after ps rest last front_is pieces_are = record {
  front_is = front_is;
  pieces_are = pieces_are ∙ ap (λ k. ps ++ spilled k (drop keep front)) last;
}

pub spilled_keeps : (levels keep : ℕ) (front after : List Fetched) (ps rest : List PieceState) (counts : List ℕ) → AreSpilled levels keep front after ps rest → IsConsistent levels front ps counts → HaveSame (parts after rest) (parts front ps)
spilled_keeps levels keep front after ps rest counts s held =
    subst (λ fs. HaveSame (parts fs rest) (parts front ps)) (sym s.front_is)
    (subst (λ qs. HaveSame (parts (take keep front) qs) (parts front ps)) (sym s.pieces_are) (spill_keeps levels keep front ps held.below))

pub spilled_held : (levels keep : ℕ) (front after : List Fetched) (ps rest : List PieceState) (counts : List ℕ) → AreSpilled levels keep front after ps rest → IsConsistent levels front ps counts → IsConsistent levels after rest counts
spilled_held levels keep front after ps rest counts s held =
    subst (λ fs. IsConsistent levels fs rest counts) (sym s.front_is)
    (subst (λ qs. IsConsistent levels (take keep front) qs counts) (sym s.pieces_are)
    (held_still levels front (take keep front) ps (ps ++ spilled levels (drop keep front)) counts (spill_keeps levels keep front ps held.below) (spill_below levels keep front ps held.below) (spill_ordered levels keep front ps held.below held.ordered) held))

pub spilled_few : (levels keep : ℕ) (front after : List Fetched) (ps rest : List PieceState) → AreSpilled levels keep front after ps rest → length rest ≤ length ps + levels
spilled_few levels keep front after ps rest s = omega (arith, ap length s.pieces_are, length-append ps (spilled levels (drop keep front)), spilled_length levels (drop keep front))

pub spilled_first : (ps : List PieceState) (fs : List Fetched) → ps ≡ ps ++ spilled 0 fs
spilled_first ps fs = sym (append-nil ps)

pub spilled_more : (n : ℕ) (fs : List Fetched) (ps old new : List PieceState) → old ≡ ps ++ spilled n fs → new ≡ old ++ piece_of n (at_level n (singles fs)) → new ≡ ps ++ spilled (n + 1) fs
spilled_more n fs ps old new so_far more =
    more
    ∙ (ap (λ qs. qs ++ piece_of n (at_level n (singles fs))) so_far
    ∙ (append_assoc ps (spilled n fs) (piece_of n (at_level n (singles fs))) ∙ ap (λ k. ps ++ spilled k fs) (sym (add-one n))))

pub spilled_room : (n levels room : ℕ) (fs : List Fetched) (ps old : List PieceState) → n < levels → length ps + levels ≤ room → old ≡ ps ++ spilled n fs → length old < room
spilled_room n levels room fs ps old less fits so_far = omega (arith, less, fits, ap length so_far, length-append ps (spilled n fs), spilled_length n fs)

-- without the pieces that have come
pub spilled_back : (n before : ℕ) (fs : List Fetched) (ps old new : List PieceState) → before ≡ length ps → old ≡ ps ++ spilled n fs → new ≡ take before old → new ≡ ps
spilled_back n before fs ps old new size so_far is = is ∙ (ap (λ k. take k old) size ∙ (ap (take (length ps)) so_far ∙ take-append_seam ps (spilled n fs)))

-- the front is a part of all
pub front_few : (front : List Fetched) (ps : List PieceState) (room : ℕ) → length (every_item (parts front ps)) ≤ room → length front ≤ room
front_few front ps room few = omega (arith, few, ap length (items_of_parts front ps), length-append (front_items front) (every_item ps), items_length front)
