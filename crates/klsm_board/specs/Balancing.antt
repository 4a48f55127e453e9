-- When a member balances, and with which other one.
use Rattle.std.specs.Prelude.{◌≡◌, ℕ, ◌+◌, ◌-◌, ◌⊎◌, Bool, nat_eq, ltb, not, ◌&&◌, List, Option, Some, None, if◌then◌else◌}
use Rattle.klsm_schedules.specs.declared.step.Entry.{Entry}
use Rattle.klsm_board.specs.declared.balancing.Balancing.{Balancing}
use Rattle.klsm_board.specs.declared.balancing.TheConstants.{MOST_BALANCED}
use Rattle.klsm_board.specs.declared.errors.Busy.{Busy}
use Rattle.klsm_board.specs.declared.sizes.Sizes.{Sizes}
use Rattle.klsm_board.specs.Deleting.{victim_of}
use Rattle.klsm_board.specs.Inserting.{MissesOwn}
use Rattle.klsm_board.specs.Stealing.{Balances}

-- the first balance comes before deletion `every`, with the next member; with 0 none comes
abbrev pub balancing_each : ℕ → Balancing
balancing_each every = record { every = every; left = every - 1; passed = 0 }

-- it is time, and there is another member
abbrev pub is_due : Balancing → ℕ → Bool
is_due b threads = (not (nat_eq b.every 0) && nat_eq b.left 0) && ltb 1 threads

-- with how many of the others it has balanced in this round; once it has with all, a new one begins
abbrev pub passed_in : Balancing → ℕ → ℕ
passed_in b threads = if ltb (b.passed + 1) threads then b.passed else 0

-- with which member t balances now, if with any
abbrev pub victim_now : Balancing → ℕ → ℕ → Option ℕ
victim_now b t threads = if is_due b threads then Some (victim_of threads t (passed_in b threads + 1)) else None

-- and then it is the next one's turn, after so many deletions more
abbrev pub after_turn : Balancing → ℕ → Balancing
after_turn b threads =
    if is_due b threads then record { every = b.every; left = b.every; passed = passed_in b threads + 1 } else b

-- a deletion was answered
abbrev pub after_deletion : Balancing → Balancing
after_deletion b = record b { left = b.left - 1 }

-- What a member's list gains where it balances with one or with none: it balanced, or its own part was held.
abbrev pub HasBalanced : Sizes → ℕ → Option ℕ → List Entry → List Entry → Type 0
HasBalanced m t None es es' = es' ≡ es
HasBalanced m t (Some victim) es es' =
    ((moves : Bool) × Balances m t MOST_BALANCED victim es es' moves) ⊎ ((busy : Busy) × MissesOwn t es es' busy)
