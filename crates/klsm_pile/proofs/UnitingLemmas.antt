-- Two pieces of one level become one.
use Rattle.std.proofs.Common.{◌≡◌, Bool, true, false, List, ◌∷◌, ◌++◌, refl, sym, ap, ◌∙◌}
use Rattle.std.proofs.lemmas.List.{append_assoc}
use Rattle.klsm_run.specs.declared.item.Item.{Item}
use Rattle.klsm_run.specs.Content.{sorted}
use Rattle.klsm_run.proofs.ContentLemmas.{sorted_same_behind, sorted_sorted}
use Rattle.klsm_lsm.proofs.CutLemmas.{sorted_swap_before}
use Rattle.klsm_pile.specs.Piece.{PieceState}
use Rattle.klsm_pile.specs.Pieces.{counted, items_where, HaveSame}
use Rattle.klsm_pile.proofs.RaisedLemmas.{picked_append}

one_for_two : (t : Bool) (a b M A : List Item) → sorted (counted t (sorted (a ++ b)) ++ (M ++ A)) ≡ sorted (counted t a ++ (M ++ (counted t b ++ A)))
one_for_two true a b M A =
    sorted_sorted (a ++ b) (M ++ A)
    ∙ (ap sorted (append_assoc a b (M ++ A))
    ∙ sorted_same_behind a (b ++ (M ++ A)) (M ++ (b ++ A)) (sorted_swap_before b M A))
one_for_two false a b M A = refl

pub unite_keeps : (before mid after : List PieceState) (a b u : PieceState) → a.level ≡ u.level → b.level ≡ u.level → u.items ≡ sorted (a.items ++ b.items)
    → HaveSame (before ++ u ∷ (mid ++ after)) (before ++ a ∷ (mid ++ b ∷ after))
unite_keeps before mid after a b u a_is b_is items test =
    let B : List Item = items_where test before in
    let M : List Item = items_where test mid in
    let A : List Item = items_where test after in
    let left : items_where test (before ++ u ∷ (mid ++ after)) ≡ B ++ (counted (test u.level) (sorted (a.items ++ b.items)) ++ (M ++ A)) =
    picked_append test before (u ∷ (mid ++ after))
    ∙ (ap (λ xs. B ++ (counted (test u.level) xs ++ items_where test (mid ++ after))) items
    ∙ ap (λ xs. B ++ (counted (test u.level) (sorted (a.items ++ b.items)) ++ xs)) (picked_append test mid after)) in
    let right : items_where test (before ++ a ∷ (mid ++ b ∷ after)) ≡ B ++ (counted (test u.level) a.items ++ (M ++ (counted (test u.level) b.items ++ A))) =
    picked_append test before (a ∷ (mid ++ b ∷ after))
    ∙ (ap (λ n. B ++ (counted (test n) a.items ++ items_where test (mid ++ b ∷ after))) a_is
    ∙ ap (λ xs. B ++ (counted (test u.level) a.items ++ xs)) (picked_append test mid (b ∷ after) ∙ ap (λ n. M ++ (counted (test n) b.items ++ A)) b_is)) in
    ap sorted left
    ∙ (sorted_same_behind B (counted (test u.level) (sorted (a.items ++ b.items)) ++ (M ++ A)) (counted (test u.level) a.items ++ (M ++ (counted (test u.level) b.items ++ A))) (one_for_two (test u.level) a.items b.items M A)
    ∙ ap sorted (sym right))
