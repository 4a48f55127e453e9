use Rattle.std.proofs.Common.{◌+◌, ◌≤◌, length, sym, ap, ◌∙◌, subst}
use Rattle.klsm_lsm.specs.Adding.{without_items}
use Rattle.klsm_lsm.proofs.TwoSlotLemmas.{run_in_slot, set_in_slot}
use Rattle.klsm_lsm.proofs.slots.remove_in_slot.Goals as goal

pub returns : goal.returns
returns g c =
    set_in_slot g.R.Run.items _ _ _ _ (c.remove_from.ensures.rest ∙ ap (λ b. without_items b c.args.from c.args.count) (sym (run_in_slot g.R.Run.items _ _ _ _ c.requires.at c.in-Some.is)))

pub remove_from-requires : goal.remove_from-requires
remove_from-requires g c =
    let whole = run_in_slot g.R.Run.items _ _ _ _ c.requires.at c.in-Some.is in
    record { within = subst (λ b. c.args.from + c.args.count ≤ length b) whole c.requires.within; one = c.requires.one }
