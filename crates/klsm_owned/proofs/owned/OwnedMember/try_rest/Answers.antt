use Rattle.std.proofs.Common.{rules, ◌≡◌, ℕ, List, [], ◌∷◌, ◌++◌, Result, Ok, Err, IfErr, subst}
use Rattle.klsm_schedules.specs.declared.step.Entry.{Entry}
use Rattle.klsm_schedules.specs.declared.step.Entry.TheVariants.{Missed}
use Rattle.klsm_board.specs.declared.errors.Busy.{Busy}
use Rattle.klsm_board.specs.Inserting.{MissesOwn}
use Rattle.klsm_board.specs.Resting.{MissesRest}
use Rattle.klsm_owned.proofs.owned.OwnedMember.try_rest.Goals as goal

-- a rest that is refused met the own lock
own_missed : (t : ℕ) (es es' : List Entry) (result : Result Unit Busy)
    → IfErr result (MissesRest t es es') → IfErr result (MissesOwn t es es')
own_missed t es es' (Ok done) missed = missed
own_missed t es es' (Err busy) missed = record {
  lock = missed.0;
  steps = subst (λ (lock : ℕ). es' ≡ es ++ Missed lock busy.by ∷ []) missed.0 missed.1;
}

pub returns-clause-tries : goal.returns-clause-tries
returns-clause-tries c = record {
  ok = search rules;
  adds = search rules;
  busy = search (rules, own_missed);
  choice = search rules;
  balancing = search rules;
}
