-- Settings with no refill and no balance, and the words of a search.
use Rattle.std.specs.Prelude.{ℕ}
use Rattle.klsm_words.specs.declared.settings.ScriptSettings.{ScriptSettings}
use Rattle.klsm_words.specs.declared.settings.Search.{Search}
use Rattle.klsm_tool.specs.declared.settings.Settings.{Settings}

abbrev pub script_settings : Settings → ScriptSettings
script_settings settings = record {
  threads = settings.threads;
  k = settings.k;
  refill = 0;
  balance = 0;
  pick = settings.pick;
  seed = settings.seed;
}

-- a search by so many workers
abbrev pub search_by : ℕ → ℕ → ℕ → Search
search_by threads k idle = record { threads = threads; k = k; idle = idle }
