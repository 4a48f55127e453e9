-- How a row is answered by a member of a board, and what a replay keeps beside the board.
use Rattle.std.specs.Prelude.{ℕ, ◌≡◌, List, [], ◌∷◌, length, max}
use Rattle.klsm_run.specs.declared.item.Item.{Item}
use Rattle.klsm_run.specs.Content.{sorted}
use Rattle.klsm_schedules.specs.declared.step.Entry.{Entry}
use Rattle.klsm_schedules.specs.Account.{account}
use Rattle.klsm_text.specs.declared.answer.Printed.{Printed}
use Rattle.klsm_tool.specs.declared.replay_state.ReplayState.{ReplayState}
use Rattle.klsm_tool.specs.declared.picking.ThreadPicker.{ThreadPicker}
use Rattle.klsm_text.specs.declared.request.Request.{Request}
use Rattle.klsm_text.specs.AnswerText.{live_after, skip_of}
use Rattle.klsm_tool.specs.Crews.{Goes}
use Rattle.klsm_tool.specs.SkipCounters.{live_content}
use Rattle.klsm_tool.specs.Shown.{IsFew}
use Rattle.klsm_tool.specs.MemberCalls.{IsAnswerTo}

-- the pickers
abbrev pub pickers_kept : ReplayState → List ThreadPicker
pickers_kept state = state.pickers.items

-- how many there are
abbrev pub picker_count : ReplayState → ℕ
picker_count state = length (pickers_kept state)

-- the live items
abbrev pub live_kept : ReplayState → List Item
live_kept state = live_content state.live

-- the answer is one to the row, the member's list has it, the live items are those after it, its skip is
-- counted, and it skips few of what the account left
pub record Answers (threads k : ℕ) (request : Request) (lists lists' : List (List Entry))
    (live live' : List Item) (most most' : ℕ) (printed : Printed) : Type 0 where
  pub thread : printed.line.thread ≡ request.thread
  pub answer : IsAnswerTo request.operation printed.line.answer
  pub goes : Goes request.thread lists lists' (printed.line.answer ∷ [])
  pub live_is : sorted live' ≡ sorted (live_after live printed.line.answer)
  pub skip : printed.skip ≡ skip_of live printed.line.answer
  pub few : IsFew threads k (skip_of (account lists).left printed.line.answer)
  pub most_is : most' ≡ max most printed.skip
