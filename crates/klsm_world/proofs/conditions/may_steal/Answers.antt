use Rattle.klsm_world.proofs.conditions.may_steal.Goals as goal

pub returns : goal.returns
returns c = (
  λ yes. let may = c.may_refill.ensures.0 yes in record { some = may.some; ascending = may.ascending; within = may.within; room = may.room },
  λ may. c.may_refill.ensures.1 (record { some = may.some; ascending = may.ascending; within = may.within; room = may.room }),
)
