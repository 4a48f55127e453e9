-- What a worker's calls were answered, as the events that its list gained tell.
use Rattle.std.specs.Prelude.{ℕ, ◌≡◌, ◌≢◌, ◌<◌, ◌+◌, ◌⊎◌, List, [], ◌∷◌, ◌++◌, length, replicate}
use Rattle.std.specs.List.{AllByRecursion}
use Rattle.klsm_schedules.specs.declared.step.Event.{Event}
use Rattle.klsm_schedules.specs.declared.step.Event.TheVariants.{Nothing}
use Rattle.klsm_schedules.specs.declared.step.Entry.{Entry}
use Rattle.klsm_schedules.specs.OwnSteps.{inserted}
use Rattle.klsm_board.specs.Effects.{committed_in}

-- the list gained events, none of which is an answer "nothing"
pub record GainsOthers (es es' : List Entry) : Type 0 where
  pub gained : List Event
  pub others : AllByRecursion (λ event. event ≢ Nothing) gained
  pub events : committed_in es' ≡ committed_in es ++ gained

-- and there are some
pub record GainsSome (es es' : List Entry) : Type 0 where
  pub gains : GainsOthers es es'
  pub some : 0 < length gains.gained

-- it gained one event, an answer "nothing"
abbrev pub GainsNothing : List Entry → List Entry → Type 0
GainsNothing es es' = committed_in es' ≡ committed_in es ++ Nothing ∷ []

-- of the events that it gained the last n are answers "nothing", and the one before them is none
pub record EndsIdle (n : ℕ) (es es' : List Entry) : Type 0 where
  pub before : List Event
  pub no_more : (others : List Event) → before ≢ others ++ Nothing ∷ []
  pub events : committed_in es' ≡ committed_in es ++ (before ++ replicate n Nothing)

-- a worker took nodes until it was answered "nothing" n times in a row, or had no two insertions of its quota left
abbrev pub IsIdle : ℕ → ℕ → List Entry → List Entry → Type 0
IsIdle n quota es es' = EndsIdle n es es' ⊎ (quota < length (inserted es') + 2)
