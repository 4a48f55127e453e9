-- The command line, as the library clap reads it. Words are the bytes of those after the program's
-- name.
use Rattle.std.specs.Prelude.{ℕ, ⊤, ◌≡◌, ◌≤◌, true, if◌then◌else◌, List, [], ◌∷◌, Option, Some, None, codes, IsUtf8}
use Rattle.std.specs.Prelude.{option_and_then, option_map}
use Rattle.std.specs.Str.{bytes_eq}
use Rattle.std.specs.List.{All}
use Rattle.clap.specs.Words.{App, IsAmong, Kinds, fault_of, new_app, with_subcommand}
use Rattle.clap.specs.Words.{Row, Text, subcommand_of}
use Rattle.clap.specs.declared.error.kind.ErrorKind.{ErrorKind}
use Rattle.clap.specs.declared.error.kind.ErrorKind.TheVariants as kind
use Rattle.klsm_words.specs.declared.command_line.Action.{Action}
use Rattle.klsm_words.specs.declared.command_line.Action.TheVariants.{Replay, Live, Knapsack}
use Rattle.klsm_words.specs.declared.command_line.Fault.{Fault}
use Rattle.klsm_words.specs.declared.command_line.Fault.TheVariants.{Said, UnknownPick, BadRefill, NotText, NoMemory}
use Rattle.klsm_parts.specs.declared.choice.Pick.TheVariants.{First}
use Rattle.klsm_words.specs.declared.settings.ScriptSettings.{ScriptSettings}
use Rattle.klsm_words.specs.Options.{AreInRange, IsSearchInRange, search_at, settings_at, with_options, with_search_options}

-- the command `replay`
abbrev pub replay_app : App
replay_app = with_options (new_app (codes "replay"))

-- the command `live`
abbrev pub live_app : App
live_app = with_options (new_app (codes "live"))

-- the command `knapsack`
abbrev pub knapsack_app : App
knapsack_app = with_search_options (new_app (codes "knapsack"))

-- the command `klsm`, which has a version and wants a subcommand, with none yet
abbrev pub bare_app : App
bare_app =
    let name = new_app (codes "klsm") in
    record name {
      top = record (name.top) {
        no_binary_name = true;
        has_version = true;
        subcommand_required = true;
        arg_required_else_help = true;
      };
    }

-- with `replay`
abbrev pub command_over_rows : App
command_over_rows = with_subcommand bare_app replay_app.top

-- with `live` too
abbrev pub command_over_scripts : App
command_over_scripts = with_subcommand command_over_rows live_app.top

-- and with `knapsack`
abbrev pub klsm_command : App
klsm_command = with_subcommand command_over_scripts knapsack_app.top

-- the words that ask for a replay
abbrev pub replay_words : List (List ℕ)
replay_words = codes "replay" ∷ []

-- what the parser may find in words: a request for help or for the version, or a fault. In a command
-- it finds nothing
unfoldable pub found_in : List (List ℕ) → Kinds
found_in words = fault_of klsm_command words

-- what the command of this name does over scripts
abbrev pub script_action : Text → ScriptSettings → Action
script_action name settings =
    if bytes_eq name (codes "live") then Live settings else Replay settings

-- what the command of this name does by its options, where a word of `--pick` names a pick
abbrev pub action_of : Text → List Row → Option Action
action_of name rows =
    if bytes_eq name (codes "knapsack") then Some (Knapsack (search_at rows))
    else option_map (script_action name) (settings_at rows)

-- what the subcommand comes to that was found
abbrev pub action_under : Option (Text × List Row) → Option Action
action_under = option_and_then (λ found. action_of found.0 found.1)

-- what a command's words ask for
unfoldable pub action_in : List (List ℕ) → Option Action
action_in words = action_under (subcommand_of klsm_command words)

-- its settings are in their range
abbrev pub IsActionInRange : Action → Type 0
IsActionInRange (Replay settings) = AreInRange settings
IsActionInRange (Live settings) = AreInRange settings
IsActionInRange (Knapsack search) = IsSearchInRange search

-- its deletions move no more items to a thread than it keeps for itself
abbrev pub RefillsAtMostK : Action → Type 0
RefillsAtMostK (Replay settings) = settings.refill ≤ settings.k
RefillsAtMostK (Live settings) = settings.refill ≤ settings.k
RefillsAtMostK (Knapsack search) = ⊤

-- where no option is given
abbrev pub usual_settings : ScriptSettings
usual_settings = record { threads = 1; k = 64; refill = 0; balance = 0; pick = First; seed = 1 }

-- the words are text, in which the parser finds a command
abbrev pub IsCommand : List (List ℕ) → Type 0
IsCommand words = All IsUtf8 words × (found_in words ≡ [])

-- the status of a text of the parser: 0 for help and for the version, 2 for a fault
abbrev pub status_of_text : ErrorKind → ℕ
status_of_text kind.DisplayHelp = 0
status_of_text kind.DisplayVersion = 0
status_of_text _ = 2

-- the words are text, in which the parser may find what has this status
abbrev pub HasStatus : List (List ℕ) → ℕ → Type 0
HasStatus words status =
    All IsUtf8 words
    × ((what : ErrorKind) × IsAmong what (found_in words) × (status ≡ status_of_text what))

-- why what was asked for is not run: the word of `--pick` is none that it takes; or, where it is one,
-- the number of `--refill` is above that of `--k`
abbrev pub IsFaultOf : Option Action → Fault → Type 0
IsFaultOf asked UnknownPick = asked ≡ None
IsFaultOf asked BadRefill =
    (action : Action) × (asked ≡ Some action) × ¬ (RefillsAtMostK action)
IsFaultOf asked (Said text status) = ⊥
IsFaultOf asked NotText = ⊥
IsFaultOf asked NoMemory = ⊥

-- why words ask for no run: the parser has a text on them, the word of `--pick` or the number of
-- `--refill` is none that it takes, one of them is not UTF-8, or memory is wanted
abbrev pub IsFaultIn : List (List ℕ) → Fault → Type 0
IsFaultIn words (Said text status) = HasStatus words status
IsFaultIn words UnknownPick = IsCommand words × IsFaultOf (action_in words) UnknownPick
IsFaultIn words BadRefill = IsCommand words × IsFaultOf (action_in words) BadRefill
IsFaultIn words NotText = ¬ (All IsUtf8 words)
IsFaultIn words NoMemory = ⊤

-- what an error of the parser leads to
abbrev pub Explains : ErrorKind → Fault → Type 0
Explains what (Said text status) = status ≡ status_of_text what
Explains what UnknownPick = ⊥
Explains what BadRefill = ⊥
Explains what NotText = ⊥
Explains what NoMemory = ⊤
