-- The first items of the front leave, and then the numbers are settled, one level after another, the least first.
use Rattle.std.proofs.Common.{◌≡◌, ℕ, ◌+◌, ◌<◌, ◌≤◌, ◌^◌, Bool, true, false, cond, nat_lt, List, [], ◌∷◌, ◌++◌, length, map, take, drop, refl, sym, ap, ◌∙◌, subst, arith, eq-eqb, ne_eqb, lt-ltb, le-ltb, suc, ◌⊎◌, inl, inr}
use Rattle.std.specs.Prelude.{◌==◌}
use Rattle.std.specs.List.{AllByRecursion, count_by}
use Rattle.std.proofs.Math.Seq.{drop-append_seam}
use Rattle.std.proofs.lemmas.Bool.{cases_lt, cases_eq}
use Rattle.std.proofs.lemmas.List.{append_assoc, length-append, length-drop, take-append-drop, take-append-le, drop-append-le}
use Rattle.std.proofs.lemmas.List.Sums.{sum_by-append}
use Rattle.klsm_run.specs.declared.item.Item.{Item}
use Rattle.klsm_run.specs.ItemOrder.{IsSmaller}
use Rattle.klsm_run.specs.Block.{HasLevel}
use Rattle.klsm_run.specs.Content.{sorted, skipped, IsAscending}
use Rattle.klsm_run.proofs.AllLemmas.{all_weaker, all_back}
use Rattle.klsm_run.proofs.ContentLemmas.{sorted_same_behind, sorted_itself}
use Rattle.klsm_run.proofs.HalfLemmas.{ascending_drop}
use Rattle.klsm_run.proofs.LeastLemmas.{all_unsorted}
use Rattle.klsm_run.proofs.RankLemmas.{count_all, count_none, least_skip_few, rest_skip_many}
use Rattle.klsm_run.proofs.SortedLemmas.{all_sorted, length_sorted}
use Rattle.klsm_lsm.specs.Adding.{without_items, cut_items}
use Rattle.klsm_lsm.specs.Lsm.{content}
use Rattle.klsm_lsm.proofs.ContentLemmas.{ascending_content}
use Rattle.klsm_pile.specs.declared.fetched.Fetched.{Fetched}
use Rattle.klsm_pile.specs.Piece.{PieceState}
use Rattle.klsm_pile.specs.Pieces.{counted, at_level, items_between, every_item, block_before, blocks_below}
use Rattle.klsm_pile.specs.Counting.{AreCounts, AreNumberedBelow}
use Rattle.klsm_pile.specs.Front.{singles, parts, front_items, IsFront}
use Rattle.klsm_pile.specs.Leaving.{count_in_least, without_firsts, cut_least}
use Rattle.klsm_pile.specs.Piles.{AreNumbered, IsConsistent}
use Rattle.klsm_pile.specs.Renumbering.{IsRenumbered}
use Rattle.klsm_pile.specs.Settling.{regrouped, IsLeft, IsCutOut, IsSettled}
use Rattle.klsm_pile.proofs.AddingLemmas.{length_same}
use Rattle.klsm_pile.proofs.BlockLemmas.{block_some, blocks_agree}
use Rattle.klsm_pile.proofs.ContentLemmas.{content_items, items_distinct}
use Rattle.klsm_pile.proofs.CuttingLemmas.{cut_numbered_at}
use Rattle.klsm_pile.proofs.FetchLemmas.{ascending_back, items_of_parts}
use Rattle.klsm_pile.proofs.FrontLemmas.{sorted_front, singles_append, ascending_test, all_picked, all_of_test, all_least}
use Rattle.klsm_pile.proofs.LawfulLemmas.{lawful_numbered, free_beyond}
use Rattle.klsm_pile.proofs.MergeLemmas.{items_take, items_drop, items_length}
use Rattle.klsm_pile.proofs.NumberLemmas.{level_found, some_of_level}
use Rattle.klsm_pile.proofs.OneLemmas.{cut_first}
use Rattle.klsm_pile.proofs.RaisedLemmas.{picked_append, between_splits}
use Rattle.klsm_pile.proofs.RemoveLemmas.{still_front, fewer_items}
use Rattle.klsm_pile.proofs.SettlingLemmas.{group_kept, between_free}
use Rattle.klsm_pile.proofs.StoreLemmas.{AreBelowLevel, none_there, fits_level, regrouped_same, renumbered_not}

-- how many items of a list are among the least n, if these are its first ones
count_firsts : (n : ℕ) (c xs ys : List Item) → AllByRecursion (λ x. skipped c x < n) xs → AllByRecursion (λ x. n ≤ skipped c x) ys → count_in_least n c (xs ++ ys) ≡ length xs
count_firsts n c xs ys few many =
    let test : Item → Bool = λ x. nat_lt (skipped c x) n in
    let all : count_by test xs ≡ length xs = count_all test xs (all_weaker (λ x. skipped c x < n) (λ x. test x ≡ true) (λ x less. lt-ltb (skipped c x) n less) xs few) in
    let none : count_by test ys ≡ 0 = count_none test ys (all_weaker (λ x. n ≤ skipped c x) (λ x. test x ≡ false) (λ x more. le-ltb (skipped c x) n more) ys many) in
    omega (arith, sum_by-append (λ x. cond (test x) 1 0) xs ys, all, none)

-- what has left of a level: the items among the least n of a content
pub record IsLost (n : ℕ) (c : List Item) (l : ℕ) (ps qs : List PieceState) : Type 0 where
  pub gone : List Item
  pub block : sorted (at_level l ps) ≡ gone ++ sorted (at_level l qs)
  pub count : count_in_least n c (sorted (at_level l ps)) ≡ length gone

-- the first items of the front, and the others
parts_split : (n : ℕ) (front : List Fetched) (pieces : List PieceState) → parts front pieces ≡ singles (take n front) ++ parts (drop n front) pieces
parts_split n front pieces =
    ap (λ fs. parts fs pieces) (sym (take-append-drop n front))
    ∙ (ap (λ ps. ps ++ pieces) (singles_append (take n front) (drop n front))
    ∙ append_assoc (singles (take n front)) (singles (drop n front)) pieces)

-- the others are a front, too
front_rest : (n : ℕ) (front : List Fetched) (pieces : List PieceState) → IsFront front pieces → IsFront (drop n front) pieces
front_rest n front pieces ordered =
    let xs : List Item = front_items front in
    let P : Item → Type 0 = λ x. AllByRecursion (IsSmaller x) (every_item pieces) in
    record {
      ascending = subst IsAscending (sym (items_drop n front)) (ascending_drop n xs ordered.ascending);
      least = subst (AllByRecursion P) (sym (items_drop n front)) (all_back P (take n xs) (drop n xs) (subst (AllByRecursion P) (sym (take-append-drop n xs)) ordered.least));
    }

-- the items in their order
sorted_parts : (front : List Fetched) (pieces : List PieceState) → IsFront front pieces → sorted (every_item (parts front pieces)) ≡ front_items front ++ sorted (every_item pieces)
sorted_parts front pieces ordered = ap sorted (items_of_parts front pieces) ∙ sorted_front (front_items front) (every_item pieces) ordered.ascending ordered.least

sorted_level : (l : ℕ) (front : List Fetched) (pieces : List PieceState) → IsFront front pieces → sorted (at_level l (parts front pieces)) ≡ at_level l (singles front) ++ sorted (at_level l pieces)
sorted_level l front pieces ordered =
    ap sorted (picked_append (λ n. n == l) (singles front) pieces)
    ∙ sorted_front (at_level l (singles front)) (at_level l pieces) (ascending_test (λ n. n == l) front ordered.ascending) (all_least (λ n. n == l) front pieces ordered)

pub level_split : (l n : ℕ) (front : List Fetched) → at_level l (singles front) ≡ at_level l (singles (take n front)) ++ at_level l (singles (drop n front))
level_split l n front =
    ap (λ fs. at_level l (singles fs)) (sym (take-append-drop n front))
    ∙ (ap (at_level l) (singles_append (take n front) (drop n front)) ∙ picked_append (λ k. k == l) (singles (take n front)) (singles (drop n front)))

-- the first items of the front are the least of all, so each level loses what it has of the least n
pub is_lost : (n : ℕ) (c : List Item) (l : ℕ) (front : List Fetched) (pieces : List PieceState) → n ≤ length (front_items front) → IsFront front pieces → sorted c ≡ sorted (every_item (parts front pieces)) → IsAscending (sorted c)
    → IsLost n c l (parts front pieces) (parts (drop n front) pieces)
is_lost n c l front pieces enough ordered content up =
    let xs : List Item = front_items front in
    let ys : List Item = sorted (every_item pieces) in
    let gone : List Item = at_level l (singles (take n front)) in
    let rest : IsFront (drop n front) pieces = front_rest n front pieces ordered in
    let block : sorted (at_level l (parts front pieces)) ≡ gone ++ sorted (at_level l (parts (drop n front) pieces)) =
    sorted_level l front pieces ordered
    ∙ (ap (λ zs. zs ++ sorted (at_level l pieces)) (level_split l n front)
    ∙ (append_assoc gone (at_level l (singles (drop n front))) (sorted (at_level l pieces))
    ∙ ap (λ zs. gone ++ zs) (sym (sorted_level l (drop n front) pieces rest)))) in
    let whole : sorted c ≡ xs ++ ys = content ∙ sorted_parts front pieces ordered in
    let firsts : take n (sorted c) ≡ front_items (take n front) = ap (take n) whole ∙ (take-append-le n xs ys enough ∙ sym (items_take n front)) in
    let others : drop n (sorted c) ≡ sorted (every_item (parts (drop n front) pieces)) =
    ap (drop n) whole ∙ (drop-append-le n xs ys enough ∙ (ap (λ zs. zs ++ ys) (sym (items_drop n front)) ∙ sym (sorted_parts (drop n front) pieces rest))) in
    let Few : Item → Type 0 = λ x. skipped c x < n in
    let Many : Item → Type 0 = λ x. n ≤ skipped c x in
    let few : AllByRecursion Few gone = all_of_test Few (λ k. k == l) (take n front) (subst (AllByRecursion Few) firsts (least_skip_few n c up)) in
    let all_many : AllByRecursion Many (every_item (parts (drop n front) pieces)) = all_unsorted Many (every_item (parts (drop n front) pieces)) (subst (AllByRecursion Many) others (rest_skip_many n c up)) in
    let many : AllByRecursion Many (sorted (at_level l (parts (drop n front) pieces))) =
    all_sorted Many (at_level l (parts (drop n front) pieces)) (all_picked Many (λ k. k == l) (parts (drop n front) pieces) all_many) in
    record {
      gone = gone;
      block = block;
      count = ap (count_in_least n c) block ∙ count_firsts n c gone (sorted (at_level l (parts (drop n front) pieces))) few many;
    }

-- a block that has lost no item keeps its number
settled_kept : (l : ℕ) (qs rs : List PieceState) → HasLevel l (length (at_level l qs)) → IsSettled l qs rs → rs ≡ qs
settled_kept l qs rs has settled = elim settled [
  | inl gone ↦ gone.1
  | inr r ↦ elim r.settling.next [
    | inl alone ↦
        let order : r.low ≤ l = omega (arith, r.settling.order, r.settling.within) in
        let size : length (items_between r.low (suc l) qs) ≡ length (at_level l qs) =
        length_same (items_between r.low (suc l) qs) (at_level l qs ++ items_between r.low l qs) (between_splits r.low l qs order)
        ∙ (length-append (at_level l qs) (items_between r.low l qs)
        ∙ omega (arith, length_sorted (items_between r.low l qs), ap length (between_free r.low l qs order alone.free))) in
        let to_is : r.to ≡ l = sym (level_found r.to (length (items_between r.low (suc l) qs)) r.settling.has) ∙ level_found l (length (items_between r.low (suc l) qs)) (subst (HasLevel l) (sym size) has) in
        r.regroups ∙ (ap (λ k. regrouped k l r.to qs) (alone.same ∙ to_is) ∙ (ap (λ k. regrouped l l k qs) to_is ∙ regrouped_same l qs))
    | inr both ↦ absurd (omega (arith, both.below, both.no_greater, level_found l (length (at_level l qs)) has))
  ]
]

-- pieces with the lost items as one piece more, of their level
lost_out : (l : ℕ) (gone : List Item) (qs : List PieceState) → 0 < length gone → sorted (gone ++ at_level l qs) ≡ gone ++ sorted (at_level l qs) → IsCutOut l 0 (length gone) (record { items = gone; level = l } ∷ qs) qs
lost_out l gone qs some in_order =
    let own : at_level l (record { items = gone; level = l } ∷ qs) ≡ gone ++ at_level l qs = ap (λ b. counted b gone ++ at_level l qs) (eq-eqb l l refl) in
    let start : length gone ≡ 0 + length gone = omega arith in
    record {
      some = some;
      within = omega (arith, ap length own, length-append gone (at_level l qs));
      here = sym (ap (λ g. without_items (sorted g) 0 (length gone)) own
          ∙ (ap (λ xs. without_items xs 0 (length gone)) in_order
          ∙ (ap (λ n. drop n (gone ++ sorted (at_level l qs))) (sym start) ∙ drop-append_seam gone (sorted (at_level l qs)))));
      others = λ k differ. sym (ap (λ b. counted b gone ++ at_level k qs) (ne_eqb l k (λ e. differ (sym e))));
    }

-- the blocks once the number of a block is settled that has lost some items
lost_cut : (l : ℕ) (gone g : List Item) (qs rs : List PieceState) → 0 < length gone → AreNumberedBelow l qs → sorted g ≡ gone ++ sorted (at_level l qs) → IsSettled l qs rs
    → blocks_below (suc l) rs ≡ cut_items (sorted g ∷ blocks_below l qs) 0 0 (length gone)
lost_cut l gone g qs rs some numbered block settled =
    let ps : List PieceState = record { items = gone; level = l } ∷ qs in
    let own : at_level l ps ≡ gone ++ at_level l qs = ap (λ b. counted b gone ++ at_level l qs) (eq-eqb l l refl) in
    let same : sorted (gone ++ at_level l qs) ≡ sorted g =
    sorted_same_behind gone (at_level l qs) (sorted (at_level l qs)) (sym (sorted_itself (at_level l qs))) ∙ (ap sorted (sym block) ∙ sorted_itself g) in
    let out : IsCutOut l 0 (length gone) ps qs = lost_out l gone qs some (same ∙ block) in
    let lower : AreNumberedBelow l ps = λ k less. subst (λ xs. (xs ≡ []) ⊎ HasLevel k (length xs)) (out.others k (λ e. omega (arith, e, less))) (numbered k less) in
    let is : blocks_below (suc l) ps ≡ sorted g ∷ blocks_below l qs =
    block_some (at_level l ps) (blocks_below l ps) (omega (arith, out.within, some))
    ∙ (ap (λ xs. sorted xs ∷ blocks_below l ps) own
    ∙ (ap (λ xs. xs ∷ blocks_below l ps) same
    ∙ ap (λ bs. sorted g ∷ bs) (blocks_agree l ps qs (λ k below. sym (out.others k (λ e. omega (arith, e, below))))))) in
    cut_first l 0 (length gone) ps qs rs lower out settled ∙ ap (λ bs. cut_items bs 0 0 (length gone)) is

-- the blocks of one level more
lost_more : (l : ℕ) (gone g : List Item) (bs : List (List Item)) (f : List Item → ℕ) (qs rs : List PieceState) → (g ≡ []) ⊎ HasLevel l (length g) → AreNumberedBelow l qs → sorted g ≡ gone ++ sorted (at_level l qs) → f (sorted g) ≡ length gone
    → blocks_below l qs ≡ without_firsts bs (map f bs) → IsSettled l qs rs → blocks_below (suc l) rs ≡ without_firsts (block_before g bs) (map f (block_before g bs))
lost_more l gone g bs f qs rs whole numbered block count so_far settled =
    let size : length g ≡ length gone + length (at_level l qs) =
    sym (length_sorted g) ∙ (ap length block ∙ (length-append gone (sorted (at_level l qs)) ∙ ap (λ n. length gone + n) (length_sorted (at_level l qs)))) in
    elim whole [
      | inl none ↦
          let free : at_level l qs ≡ [] = none_there (at_level l qs) (omega (arith, size, ap length none)) in
          let same : rs ≡ qs = elim settled [ inl gone ↦ gone.1 | inr r ↦ absurd (omega (arith, r.some, ap length free)) ] in
          ap (blocks_below (suc l)) same
          ∙ (ap (λ xs. block_before xs (blocks_below l qs)) free
          ∙ (so_far ∙ ap (λ xs. without_firsts (block_before xs bs) (map f (block_before xs bs))) (sym none)))
      | inr has ↦
          let some : 0 < length g = some_of_level l (length g) has in
          let is : block_before g bs ≡ sorted g ∷ bs = block_some g bs some in
          let goal : blocks_below (suc l) rs ≡ without_firsts (sorted g ∷ bs) (f (sorted g) ∷ map f bs) = elim (cases_eq (length gone) 0) [
            | inl none ↦
                let left : HasLevel l (length (at_level l qs)) = subst (HasLevel l) (omega (arith, size, none)) has in
                let here : sorted (at_level l qs) ≡ sorted g = sym (block ∙ ap (λ xs. xs ++ sorted (at_level l qs)) (none_there gone none)) in
                rw (eq-eqb (f (sorted g)) 0 (count ∙ none))
                (ap (blocks_below (suc l)) (settled_kept l qs rs left settled)
                ∙ (block_some (at_level l qs) (blocks_below l qs) (omega (arith, size, none, some))
                ∙ (ap (λ xs. xs ∷ blocks_below l qs) here ∙ ap (λ cs. sorted g ∷ cs) so_far)))
            | inr lost ↦
                rw (ne_eqb (f (sorted g)) 0 (λ e. lost (sym count ∙ e)))
                (lost_cut l gone g qs rs (omega (arith, lost)) numbered block settled
                ∙ (ap (λ cs. cut_items (sorted g ∷ cs) 0 0 (length gone)) so_far
                ∙ ap (λ n. cut_items (sorted g ∷ without_firsts bs (map f bs)) 0 0 n) (sym count)))
          ] in
          goal ∙ ap (λ cs. without_firsts cs (map f cs)) (sym is)
    ]

-- one number more is settled
numbered_more : (l : ℕ) (qs rs : List PieceState) → AreNumberedBelow l qs → IsSettled l qs rs → AreNumberedBelow (suc l) rs
numbered_more l qs rs numbered settled k less = elim settled [
  | inl gone ↦ subst (λ ps. (at_level k ps ≡ []) ⊎ HasLevel k (length (at_level k ps))) (sym gone.1) (elim (cases_lt k l) [
    | inl below ↦ numbered k below
    | inr last ↦ let e : l ≡ k = omega (arith, less, last) in inl (subst (λ n. at_level n qs ≡ []) e gone.0)
  ])
  | inr r ↦
      let left : IsLeft l 0 0 qs qs = record { some_left = r.some; here = refl; others = λ n differ. refl } in
      subst (λ ps. (at_level k ps ≡ []) ⊎ HasLevel k (length (at_level k ps))) (sym r.regroups)
      (cut_numbered_at l r.low r.to 0 0 k qs qs (λ out. elim out [
        | inl under ↦ numbered k (omega (arith, under, r.settling.order, r.settling.within))
        | inr over ↦ absurd (omega (arith, over, less))
      ]) left r.settling)
]

above_kept : (l k : ℕ) (qs rs : List PieceState) → l < k → IsSettled l qs rs → at_level k rs ≡ at_level k qs
above_kept l k qs rs less settled = elim settled [
  | inl gone ↦ ap (at_level k) gone.1
  | inr r ↦ ap (at_level k) r.regroups ∙ group_kept r.low l r.to k qs r.settling.order r.settling.within (inr less)
]

-- the numbers of the levels below one are settled
pub record IsSettledTo (done n : ℕ) (c : List Item) (ps qs rs : List PieceState) : Type 0 where
  pub blocks : blocks_below done rs ≡ without_firsts (blocks_below done ps) (map (count_in_least n c) (blocks_below done ps))
  pub above : (k : ℕ) → done ≤ k → at_level k rs ≡ at_level k qs
  pub numbered : AreNumberedBelow done rs

pub settled_first : (n : ℕ) (c : List Item) (ps qs : List PieceState) → IsSettledTo 0 n c ps qs qs
settled_first n c ps qs = record { blocks = refl; above = λ k at_least. refl; numbered = λ k less. absurd (omega (arith, less)) }

pub settled_more : (l n : ℕ) (c : List Item) (ps qs rs ts : List PieceState) → AreNumbered ps → IsLost n c l ps qs → IsSettledTo l n c ps qs rs → IsSettled l rs ts → IsSettledTo (l + 1) n c ps qs ts
settled_more l n c ps qs rs ts numbered lost so_far settled =
    let next : suc l ≡ l + 1 = omega arith in
    let here : at_level l rs ≡ at_level l qs = so_far.above l (omega arith) in
    subst (λ k. IsSettledTo k n c ps qs ts) next (record {
      blocks = lost_more l lost.gone (at_level l ps) (blocks_below l ps) (count_in_least n c) rs ts (numbered l) so_far.numbered (lost.block ∙ ap (λ xs. lost.gone ++ sorted xs) (sym here)) lost.count so_far.blocks settled;
      above = λ k at_least. above_kept l k rs ts at_least settled ∙ so_far.above k (omega (arith, at_least));
      numbered = numbered_more l rs ts so_far.numbered settled;
    })

-- what is left of a block fits its level
pub lost_fits : (l n : ℕ) (c : List Item) (ps qs rs : List PieceState) → AreNumbered ps → IsLost n c l ps qs → IsSettledTo l n c ps qs rs → length (at_level l rs) ≤ 2 ^ l
lost_fits l n c ps qs rs numbered lost so_far =
    let size : length (at_level l ps) ≡ length lost.gone + length (at_level l qs) =
    sym (length_sorted (at_level l ps)) ∙ (ap length lost.block ∙ (length-append lost.gone (sorted (at_level l qs)) ∙ ap (λ m. length lost.gone + m) (length_sorted (at_level l qs)))) in
    let here : length (at_level l rs) ≡ length (at_level l qs) = ap length (so_far.above l (omega arith)) in
    elim (numbered l) [
      | inl none ↦ omega (arith, size, here, ap length none)
      | inr has ↦ omega (arith, size, here, fits_level l (length (at_level l ps)) has)
    ]

-- the first n items have left, and the numbers of the levels below one are settled
pub record IsGoing (levels n done : ℕ) (front after : List Fetched) (pieces rest : List PieceState) : Type 0 where
  pub settled : IsSettledTo done n (content (blocks_below levels (parts front pieces))) (parts front pieces) (parts (drop n front) pieces) (parts after rest)
  pub same : IsRenumbered levels (drop n front) pieces after rest

pub going_first : (levels n : ℕ) (front after : List Fetched) (pieces : List PieceState) → after ≡ drop n front → IsGoing levels n 0 front after pieces pieces
going_first levels n front after pieces is = subst (λ fs. IsGoing levels n 0 front fs pieces pieces) (sym is) (record {
  settled = settled_first n (content (blocks_below levels (parts front pieces))) (parts front pieces) (parts (drop n front) pieces);
  same = renumbered_not levels (drop n front) pieces;
})

pub lost_here : (levels n l : ℕ) (front : List Fetched) (pieces : List PieceState) (counts : List ℕ) → IsConsistent levels front pieces counts → n ≤ length front
    → IsLost n (content (blocks_below levels (parts front pieces))) l (parts front pieces) (parts (drop n front) pieces)
lost_here levels n l front pieces counts held enough =
    is_lost n (content (blocks_below levels (parts front pieces))) l front pieces (omega (arith, enough, items_length front)) held.ordered (content_items levels (parts front pieces) held.below)
    (ascending_content (blocks_below levels (parts front pieces)) held.lawful)

renumbered_again : (levels : ℕ) (fs gs hs : List Fetched) (ps qs rs : List PieceState) → IsRenumbered levels fs ps gs qs → IsRenumbered levels gs qs hs rs → IsRenumbered levels fs ps hs rs
renumbered_again levels fs gs hs ps qs rs once again = record {
  items = again.items ∙ once.items;
  pieces = again.pieces ∙ once.pieces;
  below = λ below. again.below (once.below below);
  lengths = (again.lengths.0 ∙ once.lengths.0, again.lengths.1 ∙ once.lengths.1);
}

-- the number of one more level is settled
pub going_more : (levels m n l : ℕ) (front after final : List Fetched) (pieces rest last : List PieceState) (counts : List ℕ) → IsConsistent levels front pieces counts → n ≤ length front → m ≡ levels → IsGoing levels n l front after pieces rest
    → IsSettled l (parts after rest) (parts final last) → IsRenumbered m after rest final last → IsGoing levels n (l + 1) front final pieces last
going_more levels m n l front after final pieces rest last counts held enough is going settled same = record {
  settled = settled_more l n (content (blocks_below levels (parts front pieces))) (parts front pieces) (parts (drop n front) pieces) (parts after rest) (parts final last) held.numbered (lost_here levels n l front pieces counts held enough)
      going.settled settled;
  same = renumbered_again levels (drop n front) after final pieces rest last going.same (subst (λ k. IsRenumbered k after rest final last) is same);
}

pub going_fits : (levels n l : ℕ) (front after : List Fetched) (pieces rest : List PieceState) (counts : List ℕ) → IsConsistent levels front pieces counts → n ≤ length front → IsGoing levels n l front after pieces rest → length (at_level l (parts after rest)) ≤ 2 ^ l
going_fits levels n l front after pieces rest counts held enough going =
    lost_fits l n (content (blocks_below levels (parts front pieces))) (parts front pieces) (parts (drop n front) pieces) (parts after rest) held.numbered (lost_here levels n l front pieces counts held enough) going.settled

-- the items that are left
going_items : (levels n done : ℕ) (front after : List Fetched) (pieces rest : List PieceState) → IsGoing levels n done front after pieces rest → every_item (parts after rest) ≡ every_item (parts (drop n front) pieces)
going_items levels n done front after pieces rest going =
    items_of_parts after rest
    ∙ (ap (λ xs. xs ++ every_item rest) going.same.items
    ∙ (ap (λ xs. front_items (drop n front) ++ xs) going.same.pieces ∙ sym (items_of_parts (drop n front) pieces)))

pub going_few : (levels n done : ℕ) (front after : List Fetched) (pieces rest : List PieceState) → IsGoing levels n done front after pieces rest → length (every_item (parts after rest)) ≤ length (every_item (parts front pieces))
going_few levels n done front after pieces rest going =
    omega (arith, ap length (going_items levels n done front after pieces rest going), fewer_items front (drop n front) pieces (omega (arith, length-drop n front)))

-- all numbers are settled
pub going_held : (levels n done : ℕ) (front after : List Fetched) (pieces rest : List PieceState) (counts new : List ℕ) → IsConsistent levels front pieces counts → done ≡ levels → IsGoing levels n done front after pieces rest → AreCounts new (parts after rest)
    → IsConsistent levels after rest new
going_held levels n done front after pieces rest counts new held all going counts_are =
    let still : IsFront (drop n front) pieces = front_rest n front pieces held.ordered in
    let of_rest : AreBelowLevel levels (parts (drop n front) pieces) =
    all_back (λ (p : PieceState). p.level < levels) (singles (take n front)) (parts (drop n front) pieces) (subst (AreBelowLevel levels) (parts_split n front pieces) held.below) in
    let below : AreBelowLevel levels (parts after rest) = going.same.below of_rest in
    let numbered : AreNumberedBelow levels (parts after rest) = subst (λ k. AreNumberedBelow k (parts after rest)) all going.settled.numbered in
    let whole : sorted (every_item (parts front pieces)) ≡ front_items (take n front) ++ sorted (every_item (parts (drop n front) pieces)) =
    sorted_parts front pieces held.ordered
    ∙ (ap (λ xs. xs ++ sorted (every_item pieces)) (sym (take-append-drop n (front_items front)))
    ∙ (append_assoc (take n (front_items front)) (drop n (front_items front)) (sorted (every_item pieces))
    ∙ (ap (λ xs. xs ++ (drop n (front_items front) ++ sorted (every_item pieces))) (sym (items_take n front))
    ∙ ap (λ xs. front_items (take n front) ++ xs) (ap (λ xs. xs ++ sorted (every_item pieces)) (sym (items_drop n front)) ∙ sym (sorted_parts (drop n front) pieces still))))) in
    let distinct : IsAscending (sorted (every_item (parts (drop n front) pieces))) =
    ascending_back (front_items (take n front)) (sorted (every_item (parts (drop n front) pieces))) (subst IsAscending whole (items_distinct levels (parts front pieces) held.below held.lawful)) in
    record {
      numbered = λ l. elim (cases_lt l levels) [
        | inl less ↦ numbered l less
        | inr beyond ↦ inl (free_beyond levels l (parts after rest) beyond below)
      ];
      below = below;
      lawful = lawful_numbered levels (parts after rest) below numbered (subst (λ xs. IsAscending (sorted xs)) (sym (going_items levels n done front after pieces rest going)) distinct);
      ordered = still_front levels (drop n front) after pieces rest going.same still;
      counted = counts_are;
    }

pub going_blocks : (levels n done : ℕ) (front after : List Fetched) (pieces rest : List PieceState) → done ≡ levels → IsGoing levels n done front after pieces rest → blocks_below levels (parts after rest) ≡ cut_least n (blocks_below levels (parts front pieces))
going_blocks levels n done front after pieces rest all going =
    subst (λ k. blocks_below k (parts after rest) ≡ without_firsts (blocks_below k (parts front pieces)) (map (count_in_least n (content (blocks_below levels (parts front pieces)))) (blocks_below k (parts front pieces)))) all going.settled.blocks

pub going_left : (levels n done : ℕ) (front after : List Fetched) (pieces rest : List PieceState) → IsGoing levels n done front after pieces rest → front_items after ≡ drop n (front_items front)
going_left levels n done front after pieces rest going = going.same.items ∙ items_drop n front
