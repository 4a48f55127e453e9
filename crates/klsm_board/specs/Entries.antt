-- What stands in a member's list where it acquires its parts, and looks at the front between.
use Rattle.std.specs.Prelude.{ℕ, List, [], ◌∷◌, ◌++◌, Option, Some, None}
use Rattle.klsm_run.specs.declared.item.Item.{Item}
use Rattle.klsm_schedules.specs.declared.step.Entry.{Entry}
use Rattle.klsm_schedules.specs.declared.step.Entry.TheVariants.{Acquired, Released, Looked, Marked}
use Rattle.klsm_schedules.specs.OwnSteps.{own_part, shared_part}

-- thread t acquired its own part
abbrev pub own_acquired : ℕ → List Item → List Entry → List Entry
own_acquired t own es = es ++ Acquired (own_part t) own ∷ []

-- and then the shared part
abbrev pub both_acquired : ℕ → List Item → List Item → List Entry → List Entry
both_acquired t own shared es = own_acquired t own es ++ Acquired shared_part shared ∷ []

-- a list, and behind it the load of the front that committed nothing, where there was one
abbrev pub with_look : Option ℕ → List Entry → List Entry
with_look None es = es
with_look (Some front) es = es ++ Looked front ∷ []

-- thread t acquired its own part, and perhaps looked at the front
abbrev pub own_looked : ℕ → List Item → Option ℕ → List Entry → List Entry
own_looked t own look es = with_look look (own_acquired t own es)

-- and then acquired the shared part
abbrev pub both_looked : ℕ → List Item → Option ℕ → List Item → List Entry → List Entry
both_looked t own look shared es = own_looked t own look es ++ Acquired shared_part shared ∷ []

-- both parts are released
abbrev pub both_released : ℕ → List Entry
both_released t = Released shared_part ∷ Released (own_part t) ∷ []

-- a thread marks the key that it works at, and releases its own part
abbrev pub own_marked : ℕ → ℕ → List Entry
own_marked t key = Marked key ∷ Released (own_part t) ∷ []

-- and before that the shared part
abbrev pub both_marked : ℕ → ℕ → List Entry
both_marked t key = Released shared_part ∷ own_marked t key
