use Rattle.std.proofs.Common.{◌≡◌, IfSome, List, sym, ap, subst, ◌∙◌}
use Rattle.klsm_run.specs.declared.item.Item.{Item}
use Rattle.klsm_parts.proofs.FitLemmas.{local_fits}
use Rattle.klsm_board.specs.declared.slot.Slot.TheVariants.{Own}
use Rattle.klsm_board.proofs.lemmas.slots.KindLemmas.{own_content}
use Rattle.klsm_board.proofs.slot.BoardSlotPartSlot.prepare_sharing.Goals as goal

pub copy_of_all-requires : goal.copy_of_all-requires
copy_of_all-requires g c = (local_fits _ c.requires.sized.0, c.requires.sized.0)

pub returns-clause-copy : goal.returns-clause-copy
returns-clause-copy g c =
    let own = c.get_mut-home.result.now in
    let own_is : c.args.self.now ≡ Own own = c.in-Own.is ∙ ap Own (sym c.get_mut-home.ensures.value) in
    subst (λ (z : List Item). IfSome c.copy_of_all.result (λ run. run ≡ z)) (sym (own_content c.args.self.now own own_is)) c.copy_of_all.ensures
