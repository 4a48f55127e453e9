use Rattle.std.proofs.Common.{sym, ap, ◌∙◌, subst}
use Rattle.std.proofs.lemmas.List.{append-nil}
use Rattle.klsm_run.specs.Content.{sorted, IsAscending}
use Rattle.klsm_run.proofs.SortedLemmas.{sorted_ascending}
use Rattle.klsm_pile.specs.Body.{body_items}
use Rattle.klsm_pile.specs.Piece.{PieceState}
use Rattle.klsm_pile.proofs.piece.Piece.slices.Goals as goal

pub returns-in-One-clause-items : goal.returns-in-One-clause-items
returns-in-One-clause-items g c =
    ap sorted (append-nil c.as_slice.result.now)
    ∙ (sorted_ascending c.as_slice.result.now (subst IsAscending (sym c.as_slice.ensures.items) c.as_slice.ensures.ascending)
    ∙ (c.as_slice.ensures.items ∙ (sym (ap body_items c.in-One.is) ∙ ap (λ (p : PieceState). p.items) c.self.view_is)))
