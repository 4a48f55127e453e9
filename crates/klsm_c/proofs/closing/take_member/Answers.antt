use Rattle.std.proofs.Common.{ap, sym, ◌∙◌, ◌∷◌, []}
use Rattle.klsm_owned.specs.Owned.{member_of, members_of}
use Rattle.klsm_c.proofs.closing.take_member.Goals as goal

pub returns-clause-board : goal.returns-clause-board
returns-clause-board c =
    let told = c.into_parts-board.ensures in (
      c.into_parts-board.result.1,
      ap members_of c.in_ok-owned.ensures.taken ∙ ap (λ m. m ∷ []) (ap member_of (sym c.into_inner.ensures) ∙ sym told.member),
      told.fits,
    )
