-- What the workers of a script do, each with a member of a board.
use Rattle.std.specs.Prelude.{ℕ, ◌≡◌, List, [], ◌∷◌, ◌++◌, length, Option, Some, None}
use Rattle.klsm_run.specs.declared.limits.TheConstants.{PROGRAM_LEVELS, PROGRAM_K}
use Rattle.klsm_schedules.specs.declared.step.Entry.{Entry}
use Rattle.klsm_schedules.specs.Account.{account}
use Rattle.klsm_board.specs.declared.board.Board.{Board}
use Rattle.klsm_board.specs.declared.board.Member.{Member}
use Rattle.klsm_board.specs.Boards.{IsOf, own_steps}
use Rattle.klsm_board.specs.declared.sizes.Sizes.{Sizes}
use Rattle.klsm_board.specs.Finishing.{AreListsAtEnd}
use Rattle.klsm_text.specs.declared.totals.Totals.{Totals}
use Rattle.klsm_words.specs.declared.settings.ScriptSettings.{ScriptSettings}
use Rattle.klsm_tool.specs.declared.member_calls.Want.{Want}
use Rattle.klsm_tool.specs.declared.picking.ThreadPicker.{ThreadPicker}
use Rattle.klsm_tool.specs.declared.worker.Worker.{Worker}
use Rattle.klsm_tool.specs.Picking.{picker_of}
use Rattle.klsm_knapsack.specs.Courses.{IsOnCourse}
use Rattle.klsm_tool.specs.Courses.{CallsInTurn}
use Rattle.klsm_tool.specs.Shown.{shown_in}
use Rattle.klsm_tool.specs.MemberCalls.{AreAnswers, Wants}
use Rattle.klsm_text.specs.declared.request.Operation.{Operation}

-- a thread's list answers what it was asked for up to a row at which it gave up
pub record GaveUpAt (k t : ℕ) (asked : List Operation) (es : List Entry) (want : Want) : Type 0 where
  pub earlier : List Operation
  pub here : Operation
  pub later : List Operation
  pub all : asked ≡ earlier ++ here ∷ later
  pub answers : AreAnswers earlier (shown_in es)
  pub wants : Wants PROGRAM_LEVELS k t es want

-- a list answers all that the thread was asked for, or up to where the thread gave up
abbrev pub Works : ℕ → ℕ → List Operation → List Entry → Option Want → Type 0
Works k t asked es None = AreAnswers asked (shown_in es)
Works k t asked es (Some want) = GaveUpAt k t asked es want

-- the worker that a member is before it begins
abbrev pub ready : Member PROGRAM_K PROGRAM_LEVELS → Option Worker
ready member = Some (record { member = member; passed = None; gave_up = None })

-- the member is thread t's of the board, and has made no step
pub record IsReady (board : Board PROGRAM_K PROGRAM_LEVELS) (t : ℕ) (member : Member PROGRAM_K PROGRAM_LEVELS) : Type 0 where
  pub of : IsOf member board
  pub number : member.number ≡ t
  pub no_steps : own_steps member ≡ []

-- It is, has passed the gate, and has run what it was asked for. Where it did not give up its list is that of calls as
-- the settings choose them.
pub record HasRunRows (settings : ScriptSettings) (board : Board PROGRAM_K PROGRAM_LEVELS) (t : ℕ) (asked : List Operation)
    (worker : Worker) : Type 0 where
  pub of : IsOf worker.member board
  pub number : worker.member.number ≡ t
  pub passed : worker.passed ≡ Some (record { worker = t })
  pub works : Works board.sizes.k t asked (own_steps worker.member) worker.gave_up
  pub course : worker.gave_up ≡ None → (picker : ThreadPicker)
      × IsOnCourse (CallsInTurn board.sizes t) (picker_of settings t) picker (own_steps worker.member)

-- at its place
abbrev pub IsReadyAt : Board PROGRAM_K PROGRAM_LEVELS → ℕ → Option Worker → Type 0
IsReadyAt board t None = ⊥
IsReadyAt board t (Some worker) = IsReady board t worker.member

abbrev pub HasRunAt : ScriptSettings → Board PROGRAM_K PROGRAM_LEVELS → ℕ → List Operation → Option Worker → Type 0
HasRunAt settings board t asked None = ⊥
HasRunAt settings board t asked (Some worker) = HasRunRows settings board t asked worker

-- its list
abbrev pub steps_at : Option Worker → List Entry
steps_at None = []
steps_at (Some worker) = own_steps worker.member

-- the members at their places
abbrev pub members_in : List (Option Worker) → List (Member PROGRAM_K PROGRAM_LEVELS)
members_in [] = []
members_in (None ∷ crew) = members_in crew
members_in (Some worker ∷ crew) = worker.member ∷ members_in crew

-- what it lacked when it gave up, if it did
abbrev pub gave_up_at : Option Worker → Option Want
gave_up_at None = None
gave_up_at (Some worker) = worker.gave_up

-- the lists are those of one world to which a schedule leads, and these are their totals
pub record AreAccounted (m : Sizes) (lists : List (List Entry)) (totals : Totals) : Type 0 where
  pub at_end : AreListsAtEnd m lists
  pub inserted_is : totals.inserted ≡ (account lists).inserted
  pub deleted_is : totals.deleted ≡ (account lists).deleted
  pub left_is : totals.left ≡ length (account lists).left
