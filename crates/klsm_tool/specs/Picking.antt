-- How the deletions of each thread pick, and when its member begins to balance.
use Rattle.std.specs.Prelude.{ℕ, ◌≡◌, ◌+◌, ◌%◌, ◌^◌, ◌<◌, List, length, slice_index_or}
use Rattle.klsm_parts.specs.Choices.{choice_by}
use Rattle.klsm_parts.specs.declared.choice.Choice.{Choice}
use Rattle.klsm_board.specs.Balancing.{balancing_each}
use Rattle.klsm_words.specs.declared.settings.ScriptSettings.{ScriptSettings}
use Rattle.klsm_tool.specs.declared.picking.ThreadPicker.{ThreadPicker}

-- that of thread t, whose seed is greater by t than that of thread 0
abbrev pub choice_for : ScriptSettings → ℕ → Choice
choice_for settings t = choice_by settings.pick ((settings.seed + t) % 2 ^ 64)

-- the picker of thread t, which has drawn nothing yet and has no deletion behind it
abbrev pub picker_of : ScriptSettings → ℕ → ThreadPicker
picker_of settings t = record {
  thread = t;
  choice = choice_for settings t;
  balancing = balancing_each settings.balance;
}

-- the pickers of all threads, at their beginning, each at the place of its thread
pub record ArePickers (settings : ScriptSettings) (pickers : List ThreadPicker) : Type 0 where
  pub many : length pickers ≡ settings.threads
  pub each : (t : ℕ) (d : ThreadPicker) → t < settings.threads
      → slice_index_or pickers t d ≡ picker_of settings t

-- each picker stands at the place of its thread
abbrev pub ArePlaced : List ThreadPicker → Type 0
ArePlaced pickers = (t : ℕ) (d : ThreadPicker) → t < length pickers
    → (slice_index_or pickers t d).thread ≡ t
