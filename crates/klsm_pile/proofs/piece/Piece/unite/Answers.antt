use Rattle.std.proofs.Common.{◌≡◌, List, sym, ap, ◌∙◌, subst}
use Rattle.klsm_run.specs.declared.item.Item.{Item}
use Rattle.klsm_run.specs.Content.{ShareNone}
use Rattle.klsm_pile.specs.Body.{body_items}
use Rattle.klsm_pile.specs.Piece.{PieceState}
use Rattle.klsm_pile.proofs.piece.Piece.unite.Goals as goal

pub united-both-requires-clause-apart : goal.united-both-requires-clause-apart
united-both-requires-clause-apart g c =
    let mine : c.args.self.now.items ≡ body_items c.replace.result = ap (λ (p : PieceState). p.items) (sym c.self.view_is) ∙ ap body_items (sym c.replace.ensures.value) in
    let theirs : c.args.other.items ≡ body_items c.other.inside.body = ap (λ (p : PieceState). p.items) (sym c.other.view_is) in
    subst (λ (ys : List Item). ShareNone (body_items c.replace.result) ys) theirs (subst (λ (xs : List Item). ShareNone xs c.args.other.items) mine c.requires.apart)
