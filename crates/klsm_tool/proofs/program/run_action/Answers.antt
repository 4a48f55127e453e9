use Rattle.std.proofs.Common.{◌≡◌, ℕ, List, Option, Some, inl, sym, subst}
use Rattle.klsm_words.specs.CommandLine.{IsActionInRange}
use Rattle.klsm_words.specs.declared.command_line.Action.{Action}
use Rattle.klsm_words.specs.declared.command_line.Action.TheVariants.{Replay, Live, Knapsack}
use Rattle.klsm_tool.specs.Program.{RunsBy}
use Rattle.klsm_tool.proofs.program.run_action.Goals as goal

-- what is told of an action is told of the one that it is
by_action : (action is : Action) (input before after : Option (List ℕ)) (n : ℕ) → action ≡ is → RunsBy (Some is) input before after n → RunsBy (Some action) input before after n
by_action action is input before after n same = subst (λ (a : Action). RunsBy (Some a) input before after n) (sym same)

pub returns-in-Replay : goal.returns-in-Replay
returns-in-Replay g c =
    by_action _ (Replay c.in-Replay.settings) _ _ _ c.ended.result.code c.in-Replay.is
    (inl ((subst IsActionInRange c.in-Replay.is c.requires).3, (c.replay_with-report.result, c.replay_with-report.ensures, c.ended.ensures)))

pub returns-in-Live : goal.returns-in-Live
returns-in-Live g c =
    by_action _ (Live c.in-Live.settings) _ _ _ c.ended-in-Live.result.code c.in-Live.is
    (inl ((subst IsActionInRange c.in-Live.is c.requires).3, (c.live_with-report.result, c.live_with-report.ensures, c.ended-in-Live.ensures)))

pub returns-in-Knapsack : goal.returns-in-Knapsack
returns-in-Knapsack g c =
    by_action _ (Knapsack c.in-Knapsack.search) _ _ _ c.ended-in-Knapsack.result.code c.in-Knapsack.is
    (c.knapsack_with-report.result, c.knapsack_with-report.ensures, c.ended-in-Knapsack.ensures)
