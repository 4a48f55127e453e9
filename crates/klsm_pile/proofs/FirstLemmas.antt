-- The first items of the front go to places, one after another.
use Rattle.std.proofs.Common.{◌≡◌, ℕ, ◌+◌, ◌-◌, ◌<◌, ◌≤◌, List, [], ◌∷◌, ◌++◌, length, get_or, set, take, drop, refl, sym, ap, ◌∙◌, subst, arith, eq-eqb, ne_eqb, zero, suc, inl, inr}
use Rattle.std.proofs.lemmas.Bool.{cases_eq}
use Rattle.std.proofs.lemmas.List.{length-drop, take_all, take_more_set, get_or-set_same, get_or-set_other}
use Rattle.klsm_run.specs.declared.item.Item.{Item}
use Rattle.klsm_pile.specs.declared.fetched.Fetched.{Fetched}
use Rattle.klsm_pile.specs.Piece.{PieceState}
use Rattle.klsm_pile.specs.Pieces.{counted, at_level}
use Rattle.klsm_pile.specs.Counting.{AreCounts}
use Rattle.klsm_pile.specs.Front.{singles, parts, front_items}
use Rattle.klsm_pile.proofs.StoreLemmas.{AreBelowLevel}

-- an item that is the first of those that are left
pub record IsNext (i : ℕ) (old : List Fetched) (f : Fetched) (rest : List Fetched) : Type 0 where
  pub left : rest ≡ drop (suc i) old
  pub item : take (suc i) (front_items old) ≡ take i (front_items old) ++ f.item ∷ []

pub is_next : (i : ℕ) (old : List Fetched) (f : Fetched) (rest : List Fetched) → f ∷ rest ≡ drop i old → IsNext i old f rest
is_next zero [] f rest is = absurd (omega (arith, ap length is))
is_next zero (g ∷ gs) f rest is =
    let same : f ≡ g = cc in
    record { left = ap (drop 1) is; item = ap (λ (h : Fetched). h.item ∷ []) (sym same) }
is_next (suc i) [] f rest is = absurd (omega (arith, ap length is))
is_next (suc i) (g ∷ gs) f rest is =
    let next = is_next i gs f rest is in
    record { left = next.left; item = ap (λ xs. g.item ∷ xs) next.item }

-- one more item has left
pub left_more : (i : ℕ) (old front rest : List Fetched) (f : Fetched) → front ≡ drop i old → front ≡ f ∷ rest → rest ≡ drop (i + 1) old
left_more i old front rest f so_far is =
    let next : suc i ≡ i + 1 = omega arith in
    (is_next i old f rest (sym is ∙ so_far)).left ∙ ap (λ n. drop n old) next

-- and lies in its place
pub placed_more : (i : ℕ) (old front rest : List Fetched) (f : Fetched) (places : List Item) → i < length places → take i places ≡ take i (front_items old) → front ≡ drop i old → front ≡ f ∷ rest
    → take (i + 1) (set places i f.item) ≡ take (i + 1) (front_items old)
placed_more i old front rest f places within so_far left is =
    let next : suc i ≡ i + 1 = omega arith in
    take_more_set places i f.item within
    ∙ (ap (λ xs. xs ++ f.item ∷ []) so_far
    ∙ (sym (is_next i old f rest (sym is ∙ left)).item ∙ ap (λ n. take n (front_items old)) next))

-- an item is left until all places have theirs
pub some_left : (i n : ℕ) (old front : List Fetched) → i < n → n ≤ length old → front ≡ drop i old → 0 < length front
some_left i n old front less enough is = omega (arith, less, enough, ap length is, length-drop i old)

-- the level of an item that is left
level_left : (levels i : ℕ) (old : List Fetched) (f : Fetched) (rest : List Fetched) → f ∷ rest ≡ drop i old → AreBelowLevel levels (singles old) → f.level < levels
level_left levels zero [] f rest is below = absurd (omega (arith, ap length is))
level_left levels zero (g ∷ gs) f rest is below =
    let same : f ≡ g = cc in
    subst (λ (h : Fetched). h.level < levels) (sym same) below.0
level_left levels (suc i) [] f rest is below = absurd (omega (arith, ap length is))
level_left levels (suc i) (g ∷ gs) f rest is below = level_left levels i gs f rest is below.1

pub level_next : (levels i : ℕ) (old front rest : List Fetched) (f : Fetched) → front ≡ drop i old → front ≡ f ∷ rest → AreBelowLevel levels (singles old) → f.level < levels
level_next levels i old front rest f left is below = level_left levels i old f rest (sym is ∙ left) below

-- its level has an item
pub counted_next : (counts : List ℕ) (front rest : List Fetched) (f : Fetched) (ps : List PieceState) → f.level < length counts → front ≡ f ∷ rest → AreCounts counts (parts front ps) → 1 ≤ get_or counts f.level 0
counted_next counts front rest f ps fits is counts_are =
    let own : at_level f.level (parts front ps) ≡ f.item ∷ at_level f.level (parts rest ps) =
    ap (λ fs. at_level f.level (parts fs ps)) is ∙ ap (λ b. counted b (f.item ∷ []) ++ at_level f.level (parts rest ps)) (eq-eqb f.level f.level refl) in
    omega (arith, counts_are f.level fits, ap length own)

-- and one less once it has left
pub counts_next : (counts new : List ℕ) (front rest : List Fetched) (f : Fetched) (ps : List PieceState) → f.level < length counts → length new ≡ length counts → new ≡ set counts f.level (get_or counts f.level 0 - 1) → front ≡ f ∷ rest
    → AreCounts counts (parts front ps) → AreCounts new (parts rest ps)
counts_next counts new front rest f ps fits size new_is is counts_are k less = ap (λ cs. get_or cs k 0) new_is ∙ elim (cases_eq f.level k) [
  | inl same ↦ subst (λ n. get_or (set counts f.level (get_or counts f.level 0 - 1)) n 0 ≡ length (at_level n (parts rest ps))) same
      (get_or-set_same counts f.level (get_or counts f.level 0 - 1) 0 fits ∙ omega (arith, counts_are f.level fits, ap length own))
  | inr differ ↦
      get_or-set_other counts f.level k (get_or counts f.level 0 - 1) 0 (λ e. differ (sym e)) ∙ (counts_are k (omega (arith, less, size)) ∙ ap length (other differ))
] where
  own : at_level f.level (parts front ps) ≡ f.item ∷ at_level f.level (parts rest ps)
  own = ap (λ fs. at_level f.level (parts fs ps)) is ∙ ap (λ b. counted b (f.item ∷ []) ++ at_level f.level (parts rest ps)) (eq-eqb f.level f.level refl)

  other : (f.level ≡ k → ⊥) → at_level k (parts front ps) ≡ at_level k (parts rest ps)
  other differ = ap (λ fs. at_level k (parts fs ps)) is ∙ ap (λ b. counted b (f.item ∷ []) ++ at_level k (parts rest ps)) (ne_eqb f.level k differ)

-- all places have their items
pub placed_all : (i n : ℕ) (xs places : List Item) → length places ≡ n → i ≡ n → take i places ≡ take i xs → places ≡ take n xs
placed_all i n xs places size done so_far =
    sym (take_all n places (omega (arith, size))) ∙ (ap (λ m. take m places) (sym done) ∙ (so_far ∙ ap (λ m. take m xs) done))
