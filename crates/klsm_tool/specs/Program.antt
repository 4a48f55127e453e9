-- What the program does on its words.
use Rattle.std.specs.Prelude.{ℕ, ◌≡◌, ◌<◌, ◌≤◌, ◌⊎◌, List, length, take, Option, Some, None, codes, IsUtf8}
use Rattle.std.specs.List.{All}
use Rattle.std.specs.Io.KnownBytes.{Appends}
use Rattle.klsm_words.specs.declared.command_line.Action.{Action}
use Rattle.klsm_words.specs.declared.command_line.Action.TheVariants.{Replay, Live, Knapsack}
use Rattle.klsm_text.specs.declared.report.End.{End}
use Rattle.klsm_text.specs.declared.report.End.TheVariants as end
use Rattle.klsm_text.specs.declared.report.Report.{Report}
use Rattle.klsm_words.specs.declared.settings.Search.{Search}
use Rattle.klsm_words.specs.declared.settings.ScriptSettings.{ScriptSettings}
use Rattle.klsm_words.specs.CommandLine.{HasStatus, IsCommand, action_in, usual_settings}
use Rattle.klsm_tool.specs.Replay.{ReplaysAlone}
use Rattle.klsm_tool.specs.Live.{Lives}
use Rattle.klsm_tool.specs.Knapsack.{Solves}

-- the status of a run
abbrev pub status_of : End → ℕ
status_of end.Done = 0
status_of end.Refused = 1
status_of end.Full = 3
status_of end.NoMemory = 3
status_of end.ReadFault = 4
status_of end.WriteFault = 4

-- a text goes out and the program ends with its status, or the writer fails before the text's end
abbrev pub Says : Option (List ℕ) → Option (List ℕ) → List ℕ → ℕ → ℕ → Type 0
Says before after text status result =
    (Appends before after text × (result ≡ status))
    ⊎ ((n : ℕ) × (n < length text) × Appends before after (take n text) × (result ≡ 4))

-- memory is wanted
abbrev pub LacksMemory : Option (List ℕ) → Option (List ℕ) → ℕ → Type 0
LacksMemory before after result = Says before after (codes "no memory\n") 3 result

-- a word is not UTF-8
abbrev pub RefusesBytes : Option (List ℕ) → Option (List ℕ) → ℕ → Type 0
RefusesBytes before after result =
    let text = codes "error: a word is not UTF-8\n\nFor more information, try '--help'.\n" in
    Says before after text 2 result

-- the words are answered, with a text of the parser and the status of what it found
abbrev pub AnswersWords : List (List ℕ) → Option (List ℕ) → Option (List ℕ) → ℕ → Type 0
AnswersWords words before after result =
    ((text : List ℕ) × (status : ℕ) × HasStatus words status × Says before after text status result)
    ⊎ ((¬ (All IsUtf8 words) × RefusesBytes before after result)
    ⊎ LacksMemory before after result)

-- the input is replayed, and the status is that of the replay's end
abbrev pub RunsReplay : ScriptSettings → Option (List ℕ) → Option (List ℕ) → Option (List ℕ) → ℕ → Type 0
RunsReplay settings input before after result =
    (report : Report) × ReplaysAlone settings input before after report
    × (result ≡ status_of report.end)

-- the rows of the input are run by threads, and the status is that of the run's end
abbrev pub RunsLive : ScriptSettings → Option (List ℕ) → Option (List ℕ) → Option (List ℕ) → ℕ → Type 0
RunsLive settings input before after result =
    (report : Report) × Lives settings input before after report
    × (result ≡ status_of report.end)

-- the instance of the input is solved, and the status is that of the end
abbrev pub RunsKnapsack : Search → Option (List ℕ) → Option (List ℕ) → Option (List ℕ) → ℕ → Type 0
RunsKnapsack search input before after result =
    (report : Report) × Solves search input before after report
    × (result ≡ status_of report.end)

-- a script is run by its settings, unless deletions were to move more items to a thread than it keeps
abbrev pub RunsIfFits : ScriptSettings → Type 0 → Option (List ℕ) → Option (List ℕ) → ℕ → Type 0
RunsIfFits settings Run before after result =
    ((settings.refill ≤ settings.k) × Run)
    ⊎ ((settings.k < settings.refill) × Says before after (codes "refused: refill\n") 2 result)

-- a command is run by its settings, unless it names an unknown pick, or these do not fit
abbrev pub RunsBy : Option Action → Option (List ℕ) → Option (List ℕ) → Option (List ℕ) → ℕ
    → Type 0
RunsBy (Some (Replay settings)) input before after result =
    RunsIfFits settings (RunsReplay settings input before after result) before after result
RunsBy (Some (Live settings)) input before after result =
    RunsIfFits settings (RunsLive settings input before after result) before after result
RunsBy (Some (Knapsack search)) input before after result =
    RunsKnapsack search input before after result
RunsBy None input before after result = Says before after (codes "refused: pick\n") 2 result

-- words that are a command are run; others are answered
abbrev pub Runs : List (List ℕ) → Option (List ℕ) → Option (List ℕ) → Option (List ℕ) → ℕ → Type 0
Runs words input before after result =
    (IsCommand words × RunsBy (action_in words) input before after result)
    ⊎ AnswersWords words before after result

-- a replay, unless there was no memory to read the words
abbrev pub RunsReplayOrLacksMemory : Option (List ℕ) → Option (List ℕ) → Option (List ℕ) → ℕ
    → Type 0
RunsReplayOrLacksMemory input before after result =
    RunsReplay usual_settings input before after result ⊎ LacksMemory before after result

-- what the program does on some words
abbrev pub RunsSome : Option (List ℕ) → Option (List ℕ) → Option (List ℕ) → ℕ → Type 0
RunsSome input before after result = (words : List (List ℕ)) × Runs words input before after result
