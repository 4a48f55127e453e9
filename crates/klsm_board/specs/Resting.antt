-- What a rest adds to its member's list.
use Rattle.std.specs.Prelude.{◌≡◌, ℕ, zero, suc, List, [], ◌∷◌, ◌++◌}
use Rattle.klsm_run.specs.declared.item.Item.{Item}
use Rattle.klsm_schedules.specs.declared.step.Entry.{Entry}
use Rattle.klsm_schedules.specs.declared.step.Entry.TheVariants.{Missed}
use Rattle.klsm_schedules.specs.OwnSteps.{no_key, own_part}
use Rattle.klsm_board.specs.declared.errors.Busy.{Busy}
use Rattle.klsm_board.specs.Entries.{own_acquired, own_marked}

-- the own part was acquired, a mark made that the thread works at no item, and the part released
abbrev pub Rests : ℕ → List Entry → List Entry → Type 0
Rests t es es' = (own : List Item) × (es' ≡ own_acquired t own es ++ own_marked t no_key)

-- the own lock was not free
abbrev pub MissesRest : ℕ → List Entry → List Entry → Busy → Type 0
MissesRest t es es' busy = (busy.lock ≡ own_part t) × (es' ≡ es ++ Missed busy.lock busy.by ∷ [])

-- so many tries of which each met the own lock, one after another
abbrev pub MissesRestTimes : ℕ → ℕ → List Entry → List Entry → Type 0
MissesRestTimes zero t es es' = es' ≡ es
MissesRestTimes (suc n) t es es' = (before : List Entry) × (busy : Busy)
    × MissesRestTimes n t es before × MissesRest t before es' busy

-- a rest that may wait: some tries are refused for the lock, and the next one is not
pub record RestsWaiting (t : ℕ) (es es' : List Entry) : Type 0 where
  pub tries : ℕ
  pub now : List Entry
  pub missed : MissesRestTimes tries t es now
  pub rests : Rests t now es'
