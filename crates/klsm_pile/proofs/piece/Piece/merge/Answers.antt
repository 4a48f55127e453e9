use Rattle.std.proofs.Common.{◌≡◌, List, sym, ap, ◌∙◌, subst}
use Rattle.klsm_run.specs.declared.item.Item.{Item}
use Rattle.klsm_run.specs.Content.{ShareNone}
use Rattle.klsm_pile.specs.Body.{body_items}
use Rattle.klsm_pile.specs.Piece.{PieceState}
use Rattle.klsm_pile.proofs.piece.Piece.merge.Goals as goal

pub merged-requires-clause-apart : goal.merged-requires-clause-apart
merged-requires-clause-apart g c =
    let left : c.args.self.now.items ≡ c.in-One-One.left = ap (λ (p : PieceState). p.items) (sym c.self.view_is) ∙ ap body_items c.in-One-One.is-0 in
    let right : c.args.other.now.items ≡ c.in-One-One.right = ap (λ (p : PieceState). p.items) (sym c.other.view_is) ∙ ap body_items c.in-One-One.is-1 in
    subst (λ (ys : List Item). ShareNone c.in-One-One.left ys) right (subst (λ (xs : List Item). ShareNone xs c.args.other.now.items) left c.requires.apart)
