use Rattle.std.proofs.Common.{◌≡◌, ◌<◌, ◌≤◌, ◌∙◌, ℕ, List, Option, Some, None, ap, codes, arith, refl, sym, subst, inl, inr}
use Rattle.std.specs.Prelude.{IsUtf8, unwrap_or}
use Rattle.std.specs.List.{All}
use Rattle.klsm_words.specs.CommandLine.{HasStatus, IsCommand, RefillsAtMostK, action_in, usual_settings}
use Rattle.klsm_words.proofs.ReplayLemmas.{replay_has_no_status, replay_is_text, replay_is_usual}
use Rattle.klsm_tool.specs.Program.{RefusesBytes, Runs, RunsBy, RunsReplay, Says}
use Rattle.klsm_words.specs.declared.command_line.Action.{Action}
use Rattle.klsm_words.specs.declared.command_line.Action.TheVariants.{Replay, Live, Knapsack}
use Rattle.klsm_words.specs.declared.settings.ScriptSettings.{ScriptSettings}
use Rattle.klsm_tool.proofs.program.run_with.Goals as goal

pub returns-in-Err-Said-clause-replays : goal.returns-in-Err-Said-clause-replays
returns-in-Err-Said-clause-replays g c are = absurd (replay_has_no_status _ c.in-Err-Said.status are (rw c.in-Err-Said.field-0-is at c.in-Err-Said.ensures.fault))

pub returns-in-Err-NotText-clause-replays : goal.returns-in-Err-NotText-clause-replays
returns-in-Err-NotText-clause-replays g c are = absurd ((rw c.in-Err-NotText.field-0-is at c.in-Err-NotText.ensures.fault) (subst (All IsUtf8) (sym are) replay_is_text))

-- an action is a replay with these settings, or none or another
abbrev replay_of : Option Action → Option ScriptSettings
replay_of None = None
replay_of (Some (Replay settings)) = Some settings
replay_of (Some (Live settings)) = None
replay_of (Some (Knapsack search)) = None

abbrev settings_count : Option ScriptSettings → ℕ
settings_count None = 0
settings_count (Some settings) = 1

none_is_not_usual : (asked : Option Action) → replay_of asked ≡ None → asked ≡ Some (Replay usual_settings) → ⊥
none_is_not_usual asked none is = let same : 0 ≡ 1 = ap settings_count (sym none ∙ ap replay_of is) in omega (arith, same)

by_usual : (settings : ScriptSettings) (input before after : Option (List ℕ)) (n : ℕ) → settings ≡ usual_settings → RunsReplay settings input before after n → RunsReplay usual_settings input before after n
by_usual settings input before after n is runs = subst (λ (s : ScriptSettings). RunsReplay s input before after n) is runs

unknown : (asked : Option Action) (input before after : Option (List ℕ)) (n : ℕ) → asked ≡ None → Says before after (codes "refused: pick\n") 2 n → RunsBy asked input before after n
unknown asked input before after n is says = subst (λ (o : Option Action). RunsBy o input before after n) (sym is) says

-- an action that was refused for its refill
above_k : (settings : ScriptSettings) → (settings.refill ≤ settings.k → ⊥) → settings.k < settings.refill
above_k settings over = omega (arith, over)

unfit_action : (action : Action) (input before after : Option (List ℕ)) (n : ℕ) → (RefillsAtMostK action → ⊥) → Says before after (codes "refused: refill\n") 2 n → RunsBy (Some action) input before after n
unfit_action (Replay settings) input before after n over says = inr (above_k settings over, says)
unfit_action (Live settings) input before after n over says = inr (above_k settings over, says)
unfit_action (Knapsack search) input before after n over says = absurd (over tt)

unfit : (asked : Option Action) (action : Action) (input before after : Option (List ℕ)) (n : ℕ) → asked ≡ Some action → (RefillsAtMostK action → ⊥) → Says before after (codes "refused: refill\n") 2 n → RunsBy asked input before after n
unfit asked action input before after n is over says = subst (λ (o : Option Action). RunsBy o input before after n) (sym is) (unfit_action action input before after n over says)

-- the usual settings are no such
usual_fits : (action : Action) → Some action ≡ Some (Replay usual_settings) → (RefillsAtMostK action → ⊥) → ⊥
usual_fits (Replay settings) is over =
    let usual = ap (λ (o : Option Action). unwrap_or (replay_of o) usual_settings) is in
    over (subst (λ (s : ScriptSettings). s.refill ≤ s.k) (sym usual) (omega arith))
usual_fits (Live settings) is over = none_is_not_usual (Some (Live settings)) refl is
usual_fits (Knapsack search) is over = over tt

-- an action that is the usual replay runs one
runs_usual : (action : Action) (input before after : Option (List ℕ)) (n : ℕ) → Some action ≡ Some (Replay usual_settings) → RunsBy (Some action) input before after n → RunsReplay usual_settings input before after n
runs_usual (Replay settings) input before after n is (inl runs) =
    by_usual settings input before after n (ap (λ (o : Option Action). unwrap_or (replay_of o) usual_settings) is) runs.1
runs_usual (Replay settings) input before after n is (inr unfit) =
    let usual = ap (λ (o : Option Action). unwrap_or (replay_of o) usual_settings) is in
    absurd (let over = subst (λ (s : ScriptSettings). s.k < s.refill) usual unfit.0 in omega (arith, over))
runs_usual (Live settings) input before after n is runs = absurd (none_is_not_usual (Some (Live settings)) refl is)
runs_usual (Knapsack search) input before after n is runs = absurd (none_is_not_usual (Some (Knapsack search)) refl is)

pub returns-in-Ok-clause-replays : goal.returns-in-Ok-clause-replays
returns-in-Ok-clause-replays g c are = inl (runs_usual c.in-Ok.action _ _ _ c.run_action.result.code (sym c.in-Ok.ensures.action ∙ replay_is_usual _ are) c.run_action.ensures)

pub returns-in-Err-BadRefill-clause-replays : goal.returns-in-Err-BadRefill-clause-replays
returns-in-Err-BadRefill-clause-replays g c are =
    let fault = rw c.in-Err-BadRefill.field-0-is at c.in-Err-BadRefill.ensures.fault in
    absurd (usual_fits fault.1.0 (sym fault.1.1 ∙ replay_is_usual _ are) fault.1.2)

pub returns-in-Err-UnknownPick-clause-runs : goal.returns-in-Err-UnknownPick-clause-runs
returns-in-Err-UnknownPick-clause-runs g c =
    let fault = rw c.in-Err-UnknownPick.field-0-is at c.in-Err-UnknownPick.ensures.fault in
    inl (fault.0, unknown _ _ _ _ c.refuse_words-in-Err-UnknownPick.result.code fault.1 c.refuse_words-in-Err-UnknownPick.ensures)

pub returns-in-Err-UnknownPick-clause-replays : goal.returns-in-Err-UnknownPick-clause-replays
returns-in-Err-UnknownPick-clause-replays g c are =
    let fault = rw c.in-Err-UnknownPick.field-0-is at c.in-Err-UnknownPick.ensures.fault in
    absurd (none_is_not_usual None refl (sym fault.1 ∙ replay_is_usual _ are))

pub returns-in-Err-BadRefill-clause-runs : goal.returns-in-Err-BadRefill-clause-runs
returns-in-Err-BadRefill-clause-runs g c =
    let fault = rw c.in-Err-BadRefill.field-0-is at c.in-Err-BadRefill.ensures.fault in
    inl (fault.0, unfit _ fault.1.0 _ _ _ c.refuse_words-in-Err-BadRefill.result.code fault.1.1 fault.1.2 c.refuse_words-in-Err-BadRefill.ensures)

-- a command is run, or the words are answered
runs_command : (words : List (List ℕ)) (action : Action) (input before after : Option (List ℕ)) (n : ℕ) → IsCommand words → action_in words ≡ Some action → RunsBy (Some action) input before after n → Runs words input before after n
runs_command words action input before after n command asked runs = inl (command, subst (λ (o : Option Action). RunsBy o input before after n) (sym asked) runs)

answers_text : (words : List (List ℕ)) (text : List ℕ) (status : ℕ) (input before after : Option (List ℕ)) (n : ℕ) → HasStatus words status → Says before after text status n → Runs words input before after n
answers_text words text status input before after n has says = inr (inl (text, status, has, says))

refuses : (words : List (List ℕ)) (input before after : Option (List ℕ)) (n : ℕ) → (All IsUtf8 words → ⊥) → RefusesBytes before after n → Runs words input before after n
refuses words input before after n none says = inr (inr (inl (none, says)))

pub returns-in-Ok-clause-runs : goal.returns-in-Ok-clause-runs
returns-in-Ok-clause-runs g c = runs_command _ c.in-Ok.action _ _ _ c.run_action.result.code c.in-Ok.ensures.asked c.in-Ok.ensures.action c.run_action.ensures

pub returns-in-Err-Said-clause-runs : goal.returns-in-Err-Said-clause-runs
returns-in-Err-Said-clause-runs g c = answers_text _ c.as_bytes.result.now c.in-Err-Said.status _ _ _ c.refuse_words.result.code (rw c.in-Err-Said.field-0-is at c.in-Err-Said.ensures.fault) c.refuse_words.ensures

pub returns-in-Err-NotText-clause-runs : goal.returns-in-Err-NotText-clause-runs
returns-in-Err-NotText-clause-runs g c = refuses _ _ _ _ c.refuse_bytes.result.code (rw c.in-Err-NotText.field-0-is at c.in-Err-NotText.ensures.fault) c.refuse_bytes.ensures

pub returns-clause-runs : goal.returns-clause-runs
returns-clause-runs g c = inr (inr (inr c.say.ensures))

pub returns-clause-replays : goal.returns-clause-replays
returns-clause-replays g c are = inr c.say.ensures
