-- Which items of a run go to the front.
use Rattle.std.proofs.Common.{◌≡◌, ℕ, ◌-◌, ◌<◌, ◌≤◌, true, false, List, [], ◌∷◌, ◌++◌, length, get_or, take, drop, refl, sym, ap, ◌∙◌, subst, arith, drop-cons, zero, suc}
use Rattle.std.specs.Prelude.{Some, slice_get}
use Rattle.std.specs.List.{AllByRecursion, Contains}
use Rattle.std.specs.Ordering.{is_lt}
use Rattle.std.proofs.lemmas.List.{take-append-drop, drop_all}
use Rattle.klsm_run.specs.declared.item.Item.{Item}
use Rattle.klsm_run.specs.ItemOrder.{is_smaller, IsSmaller}
use Rattle.klsm_run.specs.Content.{IsAscending, ShareNone}
use Rattle.klsm_run.proofs.AllLemmas.{all_append, all_back, all_weaker}
use Rattle.klsm_run.proofs.OrderLemmas.{smaller_trans, Below, Same, Above, ranked}
use Rattle.klsm_run.proofs.ContainsLemmas.{contains_sorted, contains_unsorted}
use Rattle.klsm_pile.specs.declared.fetched.Fetched.{Fetched}
use Rattle.klsm_pile.specs.Piece.{PieceState}
use Rattle.klsm_pile.specs.Pieces.{every_item, HaveSame}
use Rattle.klsm_pile.specs.Absorbing.{AreLow}
use Rattle.klsm_pile.specs.Fetching.{is_under, AreUnder}
use Rattle.klsm_pile.specs.Front.{parts, front_items, IsFront}
use Rattle.klsm_pile.proofs.BelowLemmas.{smaller_if}
use Rattle.klsm_pile.proofs.FetchLemmas.{items_in_front, items_of_parts, ascending_across}
use Rattle.klsm_pile.proofs.PutLemmas.{contains_front}

-- the items from one on that is not below another item are larger than that
stops_greater : (y : Item) (run : List Item) (low : ℕ) → IsAscending run → (Contains run y → ⊥) → ((x : Item) → low < length run → slice_get run low ≡ Some x → is_smaller x y ≡ false) → AllByRecursion (IsSmaller y) (drop low run)
stops_greater y [] zero up absent stops = tt
stops_greater y [] (suc n) up absent stops = tt
stops_greater y (z ∷ zs) zero up absent stops = elim (ranked z y) [
  | Below below above ↦ let bad : true ≡ false = sym (ap is_lt below) ∙ stops z (omega arith) refl in cc
  | Same same ↦ absurd (absent (0, omega arith, same))
  | Above above below ↦ (below, all_weaker (IsSmaller z) (IsSmaller y) (λ x less. smaller_trans y z x below less) zs up.0)
]
stops_greater y (z ∷ zs) (suc n) up absent stops =
    stops_greater y zs n up.1 (λ there. absent (suc there.0, omega (arith, there.1), there.2)) (λ x less at. stops x (omega (arith, less)) at)

-- what is larger than the last one of an ascending list is larger than all
all_smaller : (xs zs : List Item) (y : Item) → AllByRecursion (λ x. AllByRecursion (IsSmaller x) (y ∷ [])) xs → AllByRecursion (IsSmaller y) zs → AllByRecursion (λ x. AllByRecursion (IsSmaller x) zs) xs
all_smaller xs zs y less greater =
    all_weaker (λ x. AllByRecursion (IsSmaller x) (y ∷ [])) (λ x. AllByRecursion (IsSmaller x) zs) (λ x below. all_weaker (IsSmaller y) (IsSmaller x) (λ z above. smaller_trans x y z below.0 above) zs greater) xs less

-- the front with its last item
front_last : (front : List Fetched) (d : Fetched) → 0 < length front → d ≡ get_or front (length front - 1) d → front ≡ take (length front - 1) front ++ d ∷ []
front_last front d some is =
    sym (take-append-drop (length front - 1) front)
    ∙ ap (λ fs. take (length front - 1) front ++ fs)
    (drop-cons front (length front - 1) d (omega (arith, some))
    ∙ (ap (λ f. f ∷ drop (suc (length front - 1)) front) (sym is) ∙ ap (λ fs. d ∷ fs) (drop_all (suc (length front - 1)) front (omega arith))))

contains_last : (xs : List Item) (y : Item) → Contains (xs ++ y ∷ []) y
contains_last [] y = (0, omega arith, refl)
contains_last (x ∷ xs) y = let rest = contains_last xs y in (suc rest.0, omega (arith, rest.1), rest.2)

low_last : (before : List Fetched) (last : Fetched) (run : List Item) (low : ℕ) (ps : List PieceState) → IsAscending run → ShareNone (front_items (before ++ last ∷ [])) run → low ≤ length run → AreUnder (Some last.item) (take low run)
    → ((x : Item) → low < length run → slice_get run low ≡ Some x → is_under (Some last.item) x ≡ false) → IsFront (before ++ last ∷ []) ps → AreLow low run (before ++ last ∷ []) ps
low_last before last run low ps up apart within under stops front =
    let y : Item = last.item in
    let F : List Item = front_items before in
    let front_is : front_items (before ++ last ∷ []) ≡ F ++ y ∷ [] = items_in_front before (last ∷ []) in
    let least : AllByRecursion (IsSmaller y) (every_item ps) =
    (all_back (λ x. AllByRecursion (IsSmaller x) (every_item ps)) F (y ∷ []) (subst (AllByRecursion (λ x. AllByRecursion (IsSmaller x) (every_item ps))) front_is front.least)).0 in
    let greater : AllByRecursion (IsSmaller y) (drop low run) =
    stops_greater y run low up (apart y (subst (λ xs. Contains xs y) (sym front_is) (contains_last F y))) stops in
    record {
      within = within;
      smaller = all_weaker (λ x. is_smaller x y ≡ true) (λ x. AllByRecursion (IsSmaller x) (every_item ps))
          (λ x less. all_weaker (IsSmaller y) (IsSmaller x) (λ z above. smaller_trans x y z (smaller_if x y less) above) (every_item ps) least) (take low run) under;
      greater = subst (AllByRecursion (λ x. AllByRecursion (IsSmaller x) (drop low run))) (sym front_is)
          (all_append (λ x. AllByRecursion (IsSmaller x) (drop low run)) F (y ∷ []) (all_smaller F (drop low run) y (ascending_across F (y ∷ []) (subst IsAscending front_is front.ascending)) greater) (greater, tt));
    }

-- at the values of the code
pub low_under : (front : List Fetched) (last : Fetched) (run : List Item) (low n : ℕ) (ps : List PieceState) → n ≡ length front → 0 < n → last ≡ get_or front (n - 1) last → IsAscending run → ShareNone (front_items front) run → low ≤ length run → AreUnder (Some last.item) (take low run)
    → ((x : Item) → low < length run → slice_get run low ≡ Some x → is_under (Some last.item) x ≡ false) → IsFront front ps → AreLow low run front ps
low_under front last run low n ps size some is up apart within under stops ordered =
    let split : front ≡ take (length front - 1) front ++ last ∷ [] = front_last front last (omega (arith, size, some)) (is ∙ ap (λ k. get_or front (k - 1) last) size) in
    subst (λ fs. AreLow low run fs ps) (sym split)
    (low_last (take (length front - 1) front) last run low ps up (subst (λ fs. ShareNone (front_items fs) run) split apart) within under stops (subst (λ fs. IsFront fs ps) split ordered))

-- below an empty front there is nothing
pub low_none : (front : List Fetched) (run : List Item) (ps : List PieceState) → length front ≡ 0 → AreLow 0 run front ps
low_none [] run ps none = record { within = omega arith; smaller = tt; greater = tt }
low_none (f ∷ fs) run ps none = absurd (omega (arith, none))

-- the run shares no item with the front
pub front_apart : (front : List Fetched) (ps : List PieceState) (run : List Item) → ShareNone (every_item (parts front ps)) run → ShareNone (front_items front) run
front_apart front ps run apart x there = apart x (subst (λ xs. Contains xs x) (sym (items_of_parts front ps)) (contains_front x (front_items front) (every_item ps) there))

-- nor once other items are at other places
pub same_apart : (front after : List Fetched) (ps rest : List PieceState) (run : List Item) → HaveSame (parts after rest) (parts front ps) → ShareNone (every_item (parts front ps)) run → ShareNone (front_items after) run
same_apart front after ps rest run same apart =
    front_apart after rest run (λ x there. apart x (contains_unsorted x (every_item (parts front ps)) (subst (λ xs. Contains xs x) (same (λ n. true)) (contains_sorted x (every_item (parts after rest)) there))))
