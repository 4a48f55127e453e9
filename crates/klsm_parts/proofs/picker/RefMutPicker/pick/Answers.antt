use Rattle.klsm_parts.proofs.picker.RefMutPicker.pick.Goals as goal

pub returns-clause-picked : goal.returns-clause-picked
returns-clause-picked g c = c.pick.ensures.picked
