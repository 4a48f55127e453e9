-- What the calls of a thread's member add to its list, one after another, and how they go by its picker.
use Rattle.std.specs.Prelude.{ℕ, ◌≡◌, ◌<◌, ◌⊎◌, Bool, List, length, slice_index_or, Option, Some, None}
use Rattle.klsm_run.specs.declared.item.Item.{Item}
use Rattle.klsm_run.specs.declared.limits.TheConstants.{PROGRAM_LEVELS}
use Rattle.klsm_parts.specs.Choices.{may_choose}
use Rattle.klsm_schedules.specs.declared.step.Entry.{Entry}
use Rattle.klsm_board.specs.declared.balancing.TheConstants.{MOST_BALANCED}
use Rattle.klsm_board.specs.declared.sizes.Sizes.{Sizes}
use Rattle.klsm_board.specs.Balancing.{HasBalanced, after_deletion, after_turn, victim_now}
use Rattle.klsm_board.specs.Deleting.{AnswersDeletion, AnswersWaiting}
use Rattle.klsm_board.specs.Inserting.{GivesUp, Inserts, InsertsWaiting, IsBelowLimit}
use Rattle.klsm_board.specs.Stealing.{Balances}
use Rattle.klsm_knapsack.specs.Courses.{IsOnCourse}
use Rattle.klsm_text.specs.declared.answer.Answer.{Answer}
use Rattle.klsm_text.specs.declared.answer.Answer.TheVariants.{Inserted, Deleted, Nothing}
use Rattle.klsm_words.specs.declared.settings.ScriptSettings.{ScriptSettings}
use Rattle.klsm_tool.specs.declared.picking.ThreadPicker.{ThreadPicker}
use Rattle.klsm_tool.specs.Crews.{board_sizes, steps_in}
use Rattle.klsm_tool.specs.Picking.{picker_of}

-- the item that a deletion answered
abbrev pub item_of : Answer → Option Item
item_of (Inserted x) = None
item_of (Deleted x) = Some x
item_of Nothing = None

-- Where it is time, thread t balances with the member whose turn it is. Then it deletes, and that counts.
pub record DeletesInTurn (m : Sizes) (t : ℕ) (picker picker' : ThreadPicker) (es es' : List Entry) (answer : Answer)
    : Type 0 where
  pub balanced : List Entry
  pub first : HasBalanced m t (victim_now picker.balancing t m.threads) es balanced
  pub deletes : AnswersWaiting may_choose picker.choice picker'.choice m t balanced es' (item_of answer)
  pub counted : picker'.balancing ≡ after_deletion (after_turn picker.balancing m.threads)

-- what a list gains where its thread balances with one or with none, and no lock is held
abbrev pub BalancesWith : Sizes → ℕ → Option ℕ → List Entry → List Entry → Type 0
BalancesWith m t None es es' = es' ≡ es
BalancesWith m t (Some victim) es es' = (moves : Bool) × Balances m t MOST_BALANCED victim es es' moves

-- the same as above, of a thread whose member is in one hand with all others
pub record DeletesInOneHand (m : Sizes) (t : ℕ) (picker picker' : ThreadPicker) (es es' : List Entry) (answer : Answer)
    : Type 0 where
  pub balanced : List Entry
  pub first : BalancesWith m t (victim_now picker.balancing t m.threads) es balanced
  pub deletes : AnswersDeletion may_choose picker.choice picker'.choice m t balanced es' (item_of answer)
  pub counted : picker'.balancing ≡ after_deletion (after_turn picker.balancing m.threads)

-- One call of thread t: an item was inserted, and the picker is as it was. Or the thread deleted by its picker.
abbrev pub CallsInTurn : Sizes → ℕ → ThreadPicker → ThreadPicker → List Entry → List Entry → Type 0
CallsInTurn m t picker picker' es es' =
    (((x : Item) × InsertsWaiting PROGRAM_LEVELS m.k t es es' x) × (picker' ≡ picker))
    ⊎ ((answer : Answer) × DeletesInTurn m t picker picker' es es' answer)

-- an item was inserted, or memory was wanted for that
abbrev pub InsertsOrLacksMemory : Sizes → ℕ → List Entry → List Entry → Type 0
InsertsOrLacksMemory m t es es' =
    ((x : Item) × Inserts PROGRAM_LEVELS m.k t es es' x) ⊎ GivesUp m.k t es es' (IsBelowLimit PROGRAM_LEVELS)

-- the same as above, of a thread whose member is in one hand with all others
abbrev pub CallsInOneHand : Sizes → ℕ → ThreadPicker → ThreadPicker → List Entry → List Entry → Type 0
CallsInOneHand m t picker picker' es es' =
    (InsertsOrLacksMemory m t es es' × (picker' ≡ picker))
    ⊎ ((answer : Answer) × DeletesInOneHand m t picker picker' es es' answer)

-- the lists of all threads, which are in one hand, are those of some calls, and the pickers stand behind these
abbrev pub AreOnCourse : Sizes → (ℕ → ThreadPicker) → List (List Entry) → List ThreadPicker → Type 0
AreOnCourse m first lists pickers = (t : ℕ) (d : ThreadPicker) → t < length pickers
    → IsOnCourse (CallsInOneHand m t) (first t) (slice_index_or pickers t d) (steps_in lists t)

-- Each thread's list is that of some calls over a board of these settings, the refill among them. Its deletions go
-- by the picker that the settings choose for it, which goes on from each of them to the next, and the balances
-- between are those that are due.
abbrev pub GoInTurn : ScriptSettings → List (List Entry) → Type 0
GoInTurn settings lists = (t : ℕ) → t < settings.threads → (picker : ThreadPicker)
    × IsOnCourse (CallsInTurn (board_sizes settings) t) (picker_of settings t) picker (steps_in lists t)

-- the same of threads that are in one hand
abbrev pub GoInOneHand : ScriptSettings → List (List Entry) → Type 0
GoInOneHand settings lists = (t : ℕ) → t < settings.threads → (picker : ThreadPicker)
    × IsOnCourse (CallsInOneHand (board_sizes settings) t) (picker_of settings t) picker (steps_in lists t)
