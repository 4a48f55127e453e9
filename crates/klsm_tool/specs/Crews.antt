-- The board that answers the rows of a script, the lists of its members, and how one of them goes on.
use Rattle.std.specs.Prelude.{ℕ, ◌≡◌, ◌≢◌, ◌+◌, ◌<◌, ◌≤◌, List, [], ◌∷◌, ◌++◌, length, map, slice_index_or}
use Rattle.klsm_run.specs.declared.item.Item.{Item}
use Rattle.klsm_run.specs.declared.limits.TheConstants.{PROGRAM_LEVELS, PROGRAM_K}
use Rattle.klsm_run.specs.Content.{without}
use Rattle.klsm_parts.specs.Events.{plus}
use Rattle.klsm_schedules.specs.declared.step.Entry.{Entry}
use Rattle.klsm_schedules.specs.Account.{account}
use Rattle.klsm_board.specs.declared.all_members.AllMembers.{AllMembers}
use Rattle.klsm_board.specs.declared.board.Member.{Member}
use Rattle.klsm_board.specs.declared.sizes.Sizes.{Sizes}
use Rattle.klsm_board.specs.Boards.{own_steps}
use Rattle.klsm_board.specs.Members.{sizes_of}
use Rattle.klsm_board.specs.Together.{sizes_of_all, steps_for}
use Rattle.klsm_text.specs.declared.answer.Answer.{Answer}
use Rattle.klsm_text.specs.declared.answer.Answer.TheVariants.{Inserted, Deleted, Nothing}
use Rattle.klsm_words.specs.declared.settings.ScriptSettings.{ScriptSettings}
use Rattle.klsm_tool.specs.Shown.{shown_in}

-- the sizes of a board over which a script is run by these settings
abbrev pub board_sizes : ScriptSettings → Sizes
board_sizes settings = record (sizes_of settings.threads settings.k) { refill = settings.refill }

module _ {CAP LEVELS : ℕ} where
  -- the lists of own steps of some members, in their order
  abbrev pub lists_in : List (Member CAP LEVELS) → List (List Entry)
  lists_in members = map own_steps members

-- one thread's list
abbrev pub steps_in : List (List Entry) → ℕ → List Entry
steps_in lists t = slice_index_or lists t []

-- a content after an answer, and after several
abbrev pub content_after : List Item → Answer → List Item
content_after left (Inserted x) = plus left (x ∷ [])
content_after left (Deleted x) = without x left
content_after left Nothing = left

abbrev pub content_by : List Item → List Answer → List Item
content_by left [] = left
content_by left (answer ∷ answers) = content_by (content_after left answer) answers

-- thread t's list shows these answers more, no other list has changed, and the account goes on by them
pub record Goes (t : ℕ) (lists lists' : List (List Entry)) (answers : List Answer) : Type 0 where
  pub here : shown_in (steps_in lists' t) ≡ shown_in (steps_in lists t) ++ answers
  pub else : (u : ℕ) → u ≢ t → steps_in lists' u ≡ steps_in lists u
  pub left_is : (account lists').left ≡ content_by (account lists).left answers
  pub inserted_are : (account lists').inserted ≤ (account lists).inserted + length answers

-- all threads together inserted at most n items
abbrev pub AreFew : ℕ → List (List Entry) → Type 0
AreFew n lists = (account lists).inserted ≤ n

-- no member has made a step
abbrev pub HaveNoSteps : AllMembers PROGRAM_K PROGRAM_LEVELS → Type 0
HaveNoSteps all = (t : ℕ) → t < (sizes_of_all all).threads → steps_for all t ≡ []
