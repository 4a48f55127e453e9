-- A queue that was just opened.
use Rattle.std.specs.Prelude.{◌≡◌, ℕ, zero, suc, ◌-◌, ◌++◌, [], List, map, replicate}
use Rattle.klsm_run.specs.declared.limits.TheConstants.{MOST_THREADS}
use Rattle.klsm_parts.specs.declared.choice.Pick.{Pick}
use Rattle.klsm_parts.specs.declared.choice.Pick.TheVariants as pick
use Rattle.klsm_owned.specs.Owned.{AreNew}
use Rattle.klsm_c.specs.declared.slot.Slot.{Slot}
use Rattle.klsm_c.specs.Slots.{alone, held_in, owned_in}

-- the pick that C names by a number
abbrev pub pick_by : ℕ → Pick
pick_by zero = pick.First
pick_by (suc zero) = pick.Last
pick_by (suc (suc n)) = pick.Random

-- the first slots have the members of one new board of these sizes, in the order of their numbers, and
-- the others none
pub record AreOpened (threads k pick seed refill balance : ℕ) (slots : List Slot) : Type 0 where
  pub front : held_in slots ≡ map alone (owned_in slots) ++ replicate (MOST_THREADS - threads) []
  pub new : AreNew threads k (pick_by pick) seed refill balance (owned_in slots)
