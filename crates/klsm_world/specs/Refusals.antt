-- Which steps are refused, and why.
use Rattle.std.specs.Prelude.{ℕ, ◌≡◌, ◌≢◌, ◌+◌, ◌<◌, ◌≤◌, ◌⊎◌, List, [], ◌∷◌, None}
use Rattle.std.specs.List.{Contains}
use Rattle.klsm_schedules.specs.declared.step.Event.{Event}
use Rattle.klsm_schedules.specs.declared.step.Event.TheVariants.{Put, Flush, Take, Early, Nothing, Spy, Refill, Steal, Share}
use Rattle.klsm_schedules.specs.declared.step.Step.{Step}
use Rattle.klsm_schedules.specs.declared.step.Step.TheVariants.{Acquire, Commit, Release, Miss, Look, Mark, See}
use Rattle.klsm_world.specs.declared.errors.StepError.{StepError}
use Rattle.klsm_world.specs.declared.errors.StepError.TheVariants.{NoSuchPart, Held, NotHeld, WrongEvent, NoMemory}
use Rattle.klsm_schedules.specs.OwnSteps.{shared_part, own_part, found_in}
use Rattle.klsm_schedules.specs.Worlds.{Limits, World, word_of, hand_in}
use Rattle.klsm_schedules.specs.LawfulWorlds.{IsLawful}
use Rattle.klsm_schedules.specs.Schedules.{MayStep}

-- the victim of a spy or a steal is not there, or is the thread itself
abbrev pub NamesNoVictim : Limits → ℕ → Event → Type 0
NamesNoVictim limits t (Put x) = ⊥
NamesNoVictim limits t (Flush x moved) = ⊥
NamesNoVictim limits t (Take x) = ⊥
NamesNoVictim limits t (Early x front) = ⊥
NamesNoVictim limits t Nothing = ⊥
NamesNoVictim limits t (Spy victim moved) = (limits.threads ≤ victim) ⊎ (victim ≡ t)
NamesNoVictim limits t (Steal victim moved) = (limits.threads ≤ victim) ⊎ (victim ≡ t)
NamesNoVictim limits t (Refill moved) = ⊥
NamesNoVictim limits t (Share moved) = ⊥

-- a step names a thread, a part or a victim that is not there, or the thread itself as the victim
abbrev pub NamesNone : Limits → Step → Type 0
NamesNone limits (Acquire t p) = (limits.threads ≤ t) ⊎ (limits.threads < p)
NamesNone limits (Commit t event) = (limits.threads ≤ t) ⊎ NamesNoVictim limits t event
NamesNone limits (Release t p) = (limits.threads ≤ t) ⊎ (limits.threads < p)
NamesNone limits (Miss t p) = (limits.threads ≤ t) ⊎ (limits.threads < p)
NamesNone limits (Look t) = limits.threads ≤ t
NamesNone limits (Mark t key) = limits.threads ≤ t
NamesNone limits (See t u) = (limits.threads ≤ t) ⊎ (limits.threads ≤ u)

-- the parts that thread t has to hold for an event
abbrev pub parts_for : ℕ → Event → List ℕ
parts_for t (Put x) = own_part t ∷ []
parts_for t (Flush x moved) = own_part t ∷ shared_part ∷ []
parts_for t (Take x) = own_part t ∷ shared_part ∷ []
parts_for t (Early x front) = own_part t ∷ []
parts_for t Nothing = own_part t ∷ shared_part ∷ []
parts_for t (Spy victim moved) = own_part t ∷ own_part victim ∷ []
parts_for t (Steal victim moved) = own_part t ∷ own_part victim ∷ []
parts_for t (Refill moved) = own_part t ∷ shared_part ∷ []
parts_for t (Share moved) = own_part t ∷ shared_part ∷ []

-- thread t does not hold one of these parts
abbrev pub LacksOne : World → ℕ → List ℕ → Type 0
LacksOne w t parts = (p : ℕ) × Contains parts p × (found_in (hand_in w t) p ≡ None)

-- the thread that steps does not hold a part that the step needs
abbrev pub LacksPart : World → Step → Type 0
LacksPart w (Acquire t p) = ⊥
LacksPart w (Commit t event) = LacksOne w t (parts_for t event)
LacksPart w (Release t p) = LacksOne w t (p ∷ [])
LacksPart w (Miss t p) = ⊥
LacksPart w (Look t) = ⊥
LacksPart w (Mark t key) = LacksOne w t (own_part t ∷ [])
LacksPart w (See t u) = LacksOne w t (own_part u ∷ [])

-- the part to be acquired is held by this thread
abbrev pub FindsHeld : World → Step → ℕ → Type 0
FindsHeld w (Acquire t p) by = word_of w p ≡ by + 1
FindsHeld w (Commit t event) by = ⊥
FindsHeld w (Release t p) by = ⊥
FindsHeld w (Miss t p) by = ⊥
FindsHeld w (Look t) by = ⊥
FindsHeld w (Mark t key) by = ⊥
FindsHeld w (See t u) by = ⊥

-- a step is refused for this reason, which is the first in the order of the reasons
abbrev pub Refuses : Limits → World → Step → StepError → Type 0
Refuses limits w step NoSuchPart = NamesNone limits step
Refuses limits w step (Held by) = (NamesNone limits step → ⊥) × FindsHeld w step by
Refuses limits w step NotHeld = (NamesNone limits step → ⊥) × LacksPart w step
Refuses limits w step WrongEvent =
    (NamesNone limits step → ⊥) × ((by : ℕ) → FindsHeld w step by → ⊥) × (LacksPart w step → ⊥)
    × (MayStep limits w step → ⊥)
Refuses limits w step NoMemory = MayStep limits w step

-- in a lawful world a step that is refused for another cause than memory is not legal
abbrev pub RefusedIsNotLegal : Type 0
RefusedIsNotLegal = (limits : Limits) (w : World) (step : Step) (why : StepError)
    → IsLawful limits w → Refuses limits w step why
    → why ≢ NoMemory → MayStep limits w step → ⊥
