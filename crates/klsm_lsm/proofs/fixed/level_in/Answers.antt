use Rattle.std.proofs.Common.{rules, ◌∙◌, sym, ap, arith, length}
use Rattle.klsm_lsm.specs.Level.{level}
use Rattle.klsm_lsm.proofs.LevelLemmas.{level_is}
use Rattle.klsm_lsm.proofs.TwoSlotLemmas.{run_in_slot}
use Rattle.klsm_lsm.proofs.fixed.level_in.Goals as goal

pub returns : goal.returns
returns g c = level_is _ c.level.result c.level.ensures.enough c.level.ensures.least ∙ ap level (sym (run_in_slot (λ run. run) _ _ _ _ c.requires.within (sym c.index-slots-at.is ∙ c.in-Some.is)))

pub offset_bounds-slots-at : goal.offset_bounds-slots-at
offset_bounds-slots-at g c = search rules

pub bounds-slots-at : goal.bounds-slots-at
bounds-slots-at g c = c.requires.within

pub level-requires : goal.level-requires
level-requires g c = (search, omega (arith, ap length (run_in_slot (λ run. run) _ _ _ _ c.requires.within (sym c.index-slots-at.is ∙ c.in-Some.is)), c.requires.some))
