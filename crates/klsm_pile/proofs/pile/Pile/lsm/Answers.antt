use Rattle.std.specs.Prelude.{◌≡◌, IfOk}
use Rattle.std.proofs.Common.{subst}
use Rattle.klsm_pile.specs.Piles.{PileState}
use Rattle.klsm_pile.proofs.CopyingLemmas.{pile_copied}
use Rattle.klsm_pile.proofs.pile.Pile.lsm.Goals as goal

pub copy_blocks-requires : goal.copy_blocks-requires
copy_blocks-requires g c =
    let f = pile_copied g.row.LEVELS _ _ _ _ _ _ _ _ c.self.invariant c.as_slice.ensures.value c.as_slice-2.ensures.value in
    (search, (f.0, (f.1, (f.2, (f.3, (f.4, (f.5, f.6)))))))

pub returns : goal.returns
returns g c = subst (λ (p : PileState). IfOk c.copy_blocks.result (λ lsm. lsm ≡ p.blocks)) c.self.view_is (rw c.as_slice.ensures.value at c.copy_blocks.ensures)
