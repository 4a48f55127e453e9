-- A run comes among the pieces.
use Rattle.std.proofs.Common.{◌≡◌, ℕ, ◌+◌, ◌-◌, ◌<◌, ◌≤◌, ◌^◌, Bool, true, false, List, [], ◌∷◌, ◌++◌, length, get_or, set, take, drop, nat_lt, if◌then◌else◌, refl, sym, ap, ◌∙◌, subst, arith, eq-eqb, ne_eqb, lt-ltb, le-ltb, zero, suc, inl, inr}
use Rattle.std.specs.Prelude.{◌==◌}
use Rattle.std.specs.List.{AllByRecursion, Contains}
use Rattle.std.proofs.lemmas.Bool.{cases_lt, cases_eq}
use Rattle.std.proofs.lemmas.List.{append-nil, append_assoc, length-append, length-take-le, take-append-drop, get_or_append_left, get_or-set_same, get_or-set_other}
use Rattle.std.proofs.Math.Pow.{pow_mono}
use Rattle.klsm_run.specs.declared.item.Item.{Item}
use Rattle.klsm_run.specs.ItemOrder.{IsSmaller}
use Rattle.klsm_run.specs.Block.{HasLevel, IsBlock}
use Rattle.klsm_run.specs.Content.{sorted, IsAscending, ShareNone}
use Rattle.klsm_run.proofs.AllLemmas.{all_append, all_front, all_back}
use Rattle.klsm_run.proofs.SortedLemmas.{all_sorted, length_sorted}
use Rattle.klsm_run.proofs.ContentLemmas.{sorted_same_behind}
use Rattle.klsm_run.proofs.ContainsLemmas.{contains_sorted, contains_unsorted}
use Rattle.klsm_run.proofs.ApartLemmas.{ascending_sorted, apart_if_sharing_none}
use Rattle.klsm_lsm.specs.Level.{level}
use Rattle.klsm_lsm.specs.Lsm.{content, IsLsm}
use Rattle.klsm_lsm.specs.Adding.{add}
use Rattle.klsm_lsm.proofs.AddLemmas.{lawful_add}
use Rattle.klsm_lsm.proofs.CutLemmas.{sorted_swap_before}
use Rattle.klsm_pile.specs.declared.fetched.Fetched.{Fetched}
use Rattle.klsm_pile.specs.Piece.{PieceState}
use Rattle.klsm_pile.specs.Pieces.{counted, items_where, at_level, is_between, items_between, every_item, blocks_below, HaveSame}
use Rattle.klsm_pile.specs.Absorbing.{AreLow}
use Rattle.klsm_pile.specs.Counting.{AreCounts}
use Rattle.klsm_pile.specs.Front.{singles, parts, front_items, IsFront}
use Rattle.klsm_pile.specs.Merging.{IsMerged}
use Rattle.klsm_pile.specs.Piles.{AreNumbered, IsConsistent}
use Rattle.klsm_pile.specs.Renumbering.{raised_level, raised, IsLanding, landed, IsRenumbered}
use Rattle.klsm_pile.specs.Settling.{regrouped_level, regrouped}
use Rattle.klsm_pile.proofs.NumberLemmas.{level_found}
use Rattle.klsm_pile.proofs.RaisedLemmas.{picked_append}
use Rattle.klsm_pile.proofs.AddingLemmas.{sorted_same_before, length_same, carried, landed_numbered, add_renumbers}
use Rattle.klsm_pile.proofs.FrontLemmas.{blocks_same, counted_append}
use Rattle.klsm_pile.proofs.MergeLemmas.{items_length}
use Rattle.klsm_pile.proofs.FetchLemmas.{items_append, items_of_parts, all_both, ascending_front, ascending_across}
use Rattle.klsm_pile.proofs.StoreLemmas.{AreBelowLevel, none_there, below_regrouped, picked_few}
use Rattle.klsm_pile.proofs.ContentLemmas.{content_items}
use Rattle.klsm_pile.proofs.RefillLemmas.{held_still}

-- raising is one kind of regrouping
raised_is : (from to n : ℕ) → from ≤ to → raised_level from to n ≡ regrouped_level from to to n
raised_is from to n order = elim (cases_lt n from) [
  | inl below ↦ rw (lt-ltb n from below) refl
  | inr above ↦ rw (le-ltb n from above) (elim (cases_lt to n) [
    | inl beyond ↦ rw (lt-ltb to n beyond) (omega (arith, beyond))
    | inr inside ↦ rw (le-ltb to n inside) (omega (arith, inside))
  ])
]

pub raised_regrouped : (from to : ℕ) (ps : List PieceState) → from ≤ to → raised from to ps ≡ regrouped from to to ps
raised_regrouped from to [] order = refl
raised_regrouped from to (p ∷ ps) order =
    ap (λ n. record p { level = n } ∷ raised from to ps) (raised_is from to p.level order) ∙ ap (λ qs. record p { level = regrouped_level from to to p.level } ∷ qs) (raised_regrouped from to ps order)

-- a run within a limit is of a level that there is
level_within : (levels l n : ℕ) → 0 < levels → HasLevel l n → n ≤ 2 ^ (levels - 1) → l < levels
level_within levels zero n some has fits = some
level_within levels (suc l) n some has fits = elim (cases_lt (suc l) levels) [
  | inl less ↦ less
  | inr more ↦ absurd (let low : 2 ^ (levels - 1) ≤ 2 ^ l = pow_mono (omega (arith, more)) in omega (arith, has.0, fits, low))
]

-- what the search for a free level finds
pub record IsLandingAt (levels from to : ℕ) (ps : List PieceState) : Type 0 where
  pub less : to < levels
  pub landing : IsLanding ps from to

pub landing_at : (levels from to : ℕ) (counts : List ℕ) (ps : List PieceState) (run : List Item) → levels ≡ length counts → 0 < levels → AreNumbered ps → AreCounts counts ps → IsBlock from run → length (every_item ps) + length run ≤ 2 ^ (levels - 1) → from ≤ to
    → ((l : ℕ) → from ≤ l → l < to → 0 < get_or counts l 0) → (to < length counts → get_or counts to 0 ≡ 0) → to ≤ length counts → IsLandingAt levels from to ps
landing_at levels from to counts ps run size some numbered counts_are block limit order taken free within =
    let full : (l : ℕ) → from ≤ l → l < to → 0 < length (at_level l ps) = λ l at_least less. subst (λ n. 0 < n) (counts_are l (omega (arith, less, within))) (taken l at_least less) in
    let c = carried from to ps run numbered block order full in
    let less : to < levels = level_within levels to (length (items_between from to ps ++ run)) some c.has (omega (arith, limit, length-append (items_between from to ps) run, picked_few (is_between from to) ps)) in
    record {
      less = less;
      landing = record { order = order; taken = full; free = none_there (at_level to ps) (sym (counts_are to (omega (arith, less, size))) ∙ free (omega (arith, less, size))) };
    }

-- the pieces with the run as one more, whatever of it is in the front
put_same : (from to low : ℕ) (front mid merged : List Fetched) (pieces moved : List PieceState) (run : List Item) → from ≤ to → parts mid moved ≡ regrouped from to to (parts front pieces) → IsMerged to (take low run) mid merged
    → HaveSame (parts merged (moved ++ record { items = drop low run; level = to } ∷ [])) (landed (parts front pieces) from to (record { items = run; level = from }))
put_same from to low front mid merged pieces moved run order regroups merges test =
    let F : List Item = items_where test (singles mid) in
    let P : List Item = items_where test moved in
    let C : List Item = counted (test to) (take low run) in
    let D : List Item = counted (test to) (drop low run) in
    let rest : PieceState = record { items = drop low run; level = to } in
    let left : items_where test (parts merged (moved ++ rest ∷ [])) ≡ items_where test (singles merged) ++ (P ++ D) =
    picked_append test (singles merged) (moved ++ rest ∷ []) ∙ ap (λ xs. items_where test (singles merged) ++ xs) (picked_append test moved (rest ∷ []) ∙ ap (λ xs. P ++ xs) (append-nil D)) in
    let both : counted (test to) run ≡ C ++ D = ap (counted (test to)) (sym (take-append-drop low run)) ∙ counted_append (test to) (take low run) (drop low run) in
    let right : items_where test (landed (parts front pieces) from to (record { items = run; level = from })) ≡ (F ++ P) ++ (C ++ D) =
    picked_append test (raised from to (parts front pieces)) (record { items = run; level = to } ∷ [])
    ∙ (ap (λ qs. items_where test qs ++ (counted (test to) run ++ [])) (raised_regrouped from to (parts front pieces) order ∙ sym regroups)
    ∙ (ap (λ xs. items_where test (parts mid moved) ++ xs) (append-nil (counted (test to) run) ∙ both)
    ∙ ap (λ xs. xs ++ (C ++ D)) (picked_append test (singles mid) moved))) in
    ap sorted left
    ∙ (sorted_same_before (items_where test (singles merged)) (F ++ C) (P ++ D) (merges.same test)
    ∙ (ap sorted (append_assoc F C (P ++ D))
    ∙ (sorted_same_behind F (C ++ (P ++ D)) (P ++ (C ++ D)) (sorted_swap_before C P D)
    ∙ (ap sorted (sym (append_assoc F P (C ++ D))) ∙ ap sorted (sym right)))))

-- the counts once the run is there
put_counts : (from to : ℕ) (counts : List ℕ) (ps moved : List PieceState) (run : List Item) → from ≤ to → to < length counts → moved ≡ regrouped from to to ps → AreCounts counts moved → AreCounts (set counts to (get_or counts to 0 + length run)) (landed ps from to (record { items = run; level = from }))
put_counts from to counts ps moved run order fits is counts_are l less = elim (cases_eq to l) [
  | inl same ↦ subst (λ k. get_or (set counts to v) k 0 ≡ length (at_level k qs)) same (get_or-set_same counts to v 0 fits ∙ (ap (λ n. n + length run) (counts_are to fits) ∙ sym (size to (eq-eqb to to refl))))
  | inr differ ↦
      get_or-set_other counts to l v 0 (λ e. differ (sym e))
      ∙ (counts_are l (omega (arith, less, length_set counts to v)) ∙ sym (other l (ne_eqb to l differ)))
] where
  v : ℕ
  v = get_or counts to 0 + length run

  qs : List PieceState
  qs = landed ps from to (record { items = run; level = from })

  length_set : (xs : List ℕ) (i w : ℕ) → length (set xs i w) ≡ length xs
  length_set [] i w = refl
  length_set (x ∷ xs) zero w = refl
  length_set (x ∷ xs) (suc i) w = ap suc (length_set xs i w)

  level_is : (k : ℕ) → at_level k qs ≡ at_level k moved ++ (counted (to == k) run ++ [])
  level_is k =
      picked_append (λ n. n == k) (raised from to ps) (record { items = run; level = to } ∷ [])
      ∙ ap (λ rs. at_level k rs ++ (counted (to == k) run ++ [])) (raised_regrouped from to ps order ∙ sym is)

  size : (k : ℕ) → (to == k) ≡ true → length (at_level k qs) ≡ length (at_level k moved) + length run
  size k here = ap length (level_is k ∙ ap (λ b. at_level k moved ++ (counted b run ++ [])) here) ∙ (length-append (at_level k moved) (run ++ []) ∙ ap (λ xs. length (at_level k moved) + length xs) (append-nil run))

  other : (k : ℕ) → (to == k) ≡ false → length (at_level k qs) ≡ length (at_level k moved)
  other k away = ap length (level_is k ∙ (ap (λ b. at_level k moved ++ (counted b run ++ [])) away ∙ append-nil (at_level k moved)))

-- no level is beyond the last one, where no item is
abbrev not_below : ℕ → ℕ → Bool
not_below levels n = if nat_lt n levels then false else true

below_picked : (levels : ℕ) (ps : List PieceState) → AreBelowLevel levels ps → items_where (not_below levels) ps ≡ []
below_picked levels [] below = refl
below_picked levels (p ∷ ps) below =
    let out : not_below levels p.level ≡ false = rw (lt-ltb p.level levels below.0) refl in
    ap (λ b. counted b p.items ++ items_where (not_below levels) ps) out ∙ below_picked levels ps below.1

singles_below : (levels : ℕ) (fs : List Fetched) → items_where (not_below levels) (singles fs) ≡ [] → AreBelowLevel levels (singles fs)
singles_below levels [] none = tt
singles_below levels (f ∷ fs) none = elim (cases_lt f.level levels) [
  | inl less ↦
      let out : not_below levels f.level ≡ false = rw (lt-ltb f.level levels less) refl in
      (less, singles_below levels fs (ap (λ b. counted b (f.item ∷ []) ++ items_where (not_below levels) (singles fs)) (sym out) ∙ none))
  | inr more ↦
      let beyond : not_below levels f.level ≡ true = rw (le-ltb f.level levels more) refl in
      let bad : f.item ∷ items_where (not_below levels) (singles fs) ≡ [] = ap (λ b. counted b (f.item ∷ []) ++ items_where (not_below levels) (singles fs)) (sym beyond) ∙ none in
      absurd (omega (arith, ap length bad))
]

no_item : (xs : List Item) → sorted xs ≡ [] → xs ≡ []
no_item xs none = none_there xs (length_same xs [] none)

merged_below : (levels from to low : ℕ) (mid merged : List Fetched) (run : List Item) → to < levels → IsMerged to (take low run) mid merged → AreBelowLevel levels (singles mid) → AreBelowLevel levels (singles merged)
merged_below levels from to low mid merged run less merges below =
    let out : not_below levels to ≡ false = rw (lt-ltb to levels less) refl in
    singles_below levels merged
    (no_item (items_where (not_below levels) (singles merged))
    (merges.same (not_below levels)
    ∙ (ap (λ xs. sorted (xs ++ counted (not_below levels to) (take low run))) (below_picked levels (singles mid) below)
    ∙ ap (λ b. sorted (counted b (take low run))) out)))

pub contains_front : (x : Item) (xs ys : List Item) → Contains xs x → Contains (xs ++ ys) x
contains_front x xs ys (i, within, at) = (i, omega (arith, within, length-append xs ys), get_or_append_left xs ys x i within ∙ at)

-- a run among the pieces
pub record IsPut (levels : ℕ) (front merged : List Fetched) (pieces rest : List PieceState) (run : List Item) (new : List ℕ) : Type 0 where
  pub held : IsConsistent levels merged rest new
  pub blocks : blocks_below levels (parts merged rest) ≡ add (blocks_below levels (parts front pieces)) run
  pub total : length (every_item (parts merged rest)) ≡ length (every_item (parts front pieces)) + length run

pub put_held : (levels from to low : ℕ) (counts mid_counts new : List ℕ) (front mid merged : List Fetched) (pieces moved final : List PieceState) (run : List Item) → IsConsistent levels front pieces counts → IsLandingAt levels from to (parts front pieces) → IsBlock from run
    → ShareNone (every_item (parts front pieces)) run → AreLow low run front pieces → parts mid moved ≡ regrouped from to to (parts front pieces) → IsRenumbered levels front pieces mid moved → IsMerged to (take low run) mid merged
    → AreCounts mid_counts (parts mid moved) → length mid_counts ≡ levels → new ≡ set mid_counts to (get_or mid_counts to 0 + length run) → final ≡ moved ++ record { items = drop low run; level = to } ∷ [] → IsPut levels front merged pieces final run new
put_held levels from to low counts mid_counts new front mid merged pieces moved final run held at block apart low_is regroups same merges counts_are size new_is final_is =
    let ps : List PieceState = parts front pieces in
    let piece : PieceState = record { items = run; level = from } in
    let rest : PieceState = record { items = drop low run; level = to } in
    let qs : List PieceState = landed ps from to piece in
    let order : from ≤ to = at.landing.order in
    let keeps : HaveSame (parts merged final) qs = subst (λ rs. HaveSame (parts merged rs) qs) (sym final_is) (put_same from to low front mid merged pieces moved run order regroups merges) in
    let adds : add (blocks_below levels ps) run ≡ blocks_below levels qs = add_renumbers levels from to ps piece held.numbered block at.landing at.less in
    let number : from ≡ level run = sym (level_found from (length run) block.1) in
    let of_mid : AreBelowLevel levels (parts mid moved) = same.below held.below in
    let apart_content : ShareNone (content (blocks_below levels ps)) run =
    λ x there. apart x (contains_unsorted x (every_item ps) (subst (λ xs. Contains xs x) (content_items levels ps held.below) (contains_sorted x (content (blocks_below levels ps)) there))) in
    let below_q : AreBelowLevel levels qs =
    all_append (λ (p : PieceState). p.level < levels) (raised from to ps) (record { items = run; level = to } ∷ [])
    (subst (AreBelowLevel levels) (sym (raised_regrouped from to ps order)) (below_regrouped levels from to to ps at.less held.below)) (at.less, tt) in
    let held_q : IsConsistent levels [] qs new =
    record {
      numbered = landed_numbered from to ps piece held.numbered block at.landing;
      below = below_q;
      lawful = subst IsLsm adds (lawful_add (blocks_below levels ps) run held.lawful (subst (λ l. IsBlock l run) number block) apart_content);
      ordered = record { ascending = tt; least = tt };
      counted = subst (λ cs. AreCounts cs qs) (sym new_is) (put_counts from to mid_counts ps (parts mid moved) run order (omega (arith, at.less, size)) regroups counts_are);
    } in
    let below : AreBelowLevel levels (parts merged final) =
    all_append (λ (p : PieceState). p.level < levels) (singles merged) final
    (merged_below levels from to low mid merged run at.less merges (all_front (λ (p : PieceState). p.level < levels) (singles mid) moved of_mid))
    (subst (AreBelowLevel levels) (sym final_is) (all_append (λ (p : PieceState). p.level < levels) moved (rest ∷ []) (all_back (λ (p : PieceState). p.level < levels) (singles mid) moved of_mid) (at.less, tt))) in
    let whole : IsAscending (take low run ++ drop low run) = subst IsAscending (sym (take-append-drop low run)) block.0 in
    let low_up : IsAscending (take low run) = ascending_front (take low run) (drop low run) whole in
    let apart_low : ShareNone (front_items front) (take low run) =
    λ x mine theirs. apart x (subst (λ xs. Contains xs x) (sym (items_of_parts front pieces)) (contains_front x (front_items front) (every_item pieces) mine)) (subst (λ xs. Contains xs x) (take-append-drop low run) (contains_front x (take low run) (drop low run) theirs)) in
    let up : IsAscending (sorted (front_items front ++ take low run)) = ascending_sorted (front_items front) (take low run) held.ordered.ascending low_up (apart_if_sharing_none (front_items front) (take low run) apart_low) in
    let items_are : front_items merged ≡ sorted (front_items front ++ take low run) = merges.ordered ∙ ap (λ xs. sorted (xs ++ take low run)) same.items in
    let pieces_are : every_item final ≡ every_item pieces ++ drop low run = ap every_item final_is ∙ (items_append moved (rest ∷ []) ∙ (ap (λ xs. xs ++ (drop low run ++ [])) same.pieces ∙ ap (λ xs. every_item pieces ++ xs) (append-nil (drop low run)))) in
    let least_old : AllByRecursion (λ x. AllByRecursion (IsSmaller x) (every_item pieces ++ drop low run)) (front_items front) = all_both (every_item pieces) (drop low run) (front_items front) held.ordered.least low_is.greater in
    let least_low : AllByRecursion (λ x. AllByRecursion (IsSmaller x) (every_item pieces ++ drop low run)) (take low run) =
    all_both (every_item pieces) (drop low run) (take low run) low_is.smaller (ascending_across (take low run) (drop low run) whole) in
    let ordered : IsFront merged final =
    record {
      ascending = subst IsAscending (sym items_are) up;
      least = subst (AllByRecursion (λ x. AllByRecursion (IsSmaller x) (every_item final))) (sym items_are)
          (subst (λ ys. AllByRecursion (λ x. AllByRecursion (IsSmaller x) ys) (sorted (front_items front ++ take low run))) (sym pieces_are)
          (all_sorted (λ x. AllByRecursion (IsSmaller x) (every_item pieces ++ drop low run)) (front_items front ++ take low run)
          (all_append (λ x. AllByRecursion (IsSmaller x) (every_item pieces ++ drop low run)) (front_items front) (take low run) least_old least_low)));
    } in
    record {
      held = held_still levels [] merged qs final new keeps below ordered held_q;
      blocks = blocks_same levels (parts merged final) qs (λ l. keeps (λ n. n == l)) ∙ sym adds;
      total = omega (
        arith,
        ap length (items_of_parts merged final),
        length-append (front_items merged) (every_item final),
        ap length items_are,
        length_sorted (front_items front ++ take low run),
        length-append (front_items front) (take low run),
        ap length pieces_are,
        length-append (every_item pieces) (drop low run),
        ap length (items_of_parts front pieces),
        length-append (front_items front) (every_item pieces),
        ap length (take-append-drop low run),
        length-append (take low run) (drop low run),
      );
    }

-- what the calls of the code need
pub put_room : (levels to n room : ℕ) (counts : List ℕ) (front mid : List Fetched) (pieces moved : List PieceState) → IsRenumbered levels front pieces mid moved → AreCounts counts (parts mid moved) → to < length counts → length (every_item (parts front pieces)) + n ≤ room → get_or counts to 0 + n ≤ room
put_room levels to n room counts front mid pieces moved same counts_are fits few =
    omega (
      arith,
      counts_are to fits,
      picked_few (λ k. k == to) (parts mid moved),
      few,
      ap length (items_of_parts mid moved),
      length-append (front_items mid) (every_item moved),
      ap length same.items,
      ap length same.pieces,
      ap length (items_of_parts front pieces),
      length-append (front_items front) (every_item pieces),
    )

pub low_ascending : (low : ℕ) (run slice : List Item) → slice ≡ run → IsAscending run → IsAscending (take low slice)
low_ascending low run slice is up = subst (λ xs. IsAscending (take low xs)) (sym is) (ascending_front (take low run) (drop low run) (subst IsAscending (sym (take-append-drop low run)) up))

pub low_apart : (levels low : ℕ) (front mid : List Fetched) (pieces moved : List PieceState) (run slice : List Item) → slice ≡ run → IsRenumbered levels front pieces mid moved → ShareNone (every_item (parts front pieces)) run → ShareNone (front_items mid) (take low slice)
low_apart levels low front mid pieces moved run slice is same apart x mine theirs =
    apart x (subst (λ xs. Contains xs x) (sym (items_of_parts front pieces)) (contains_front x (front_items front) (every_item pieces) (subst (λ xs. Contains xs x) same.items mine)))
    (subst (λ xs. Contains xs x) (take-append-drop low run) (contains_front x (take low run) (drop low run) (subst (λ xs. Contains (take low xs) x) is theirs)))

pub merged_length : (levels to low : ℕ) (front mid merged : List Fetched) (pieces moved : List PieceState) (run slice : List Item) → slice ≡ run → low ≤ length run → IsRenumbered levels front pieces mid moved → IsMerged to (take low slice) mid merged → length merged ≡ length front + low
merged_length levels to low front mid merged pieces moved run slice is within same merges =
    sym (items_length merged)
    ∙ (ap length merges.ordered
    ∙ (length_sorted (front_items mid ++ take low slice)
    ∙ (length-append (front_items mid) (take low slice)
    ∙ (ap (λ xs. length (front_items mid) + length (take low xs)) is
    ∙ (ap (λ n. n + length (take low run)) (ap length same.items ∙ items_length front)
    ∙ ap (λ n. length front + n) (length-take-le low run within))))))
