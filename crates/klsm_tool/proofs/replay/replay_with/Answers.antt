use Rattle.std.proofs.Common.{rules, sym, subst, inl, inr, ◌∙◌, ◌≡◌, ◌≢◌, List}
use Rattle.klsm_board.specs.Finishing.{AreListsAtEnd}
use Rattle.klsm_schedules.specs.declared.step.Entry.{Entry}
use Rattle.klsm_text.specs.declared.report.End.TheVariants as end
use Rattle.klsm_board.specs.declared.sizes.Sizes.{Sizes}
use Rattle.klsm_board.specs.Together.{all_lists}
use Rattle.klsm_tool.proofs.AloneLemmas.{alone, alone_without, not_done, spread_lists_of}
use Rattle.klsm_tool.proofs.replay.replay_with.Goals as goal

pub returns-in_default : goal.returns-in_default
returns-in_default g c = alone_without c.args.settings.now _ _ _ c.write_last.result c.write_last.ensures.goes

pub returns-then-ne : goal.returns-then-ne
returns-then-ne g c =
    let told = c.replay_script-report.ensures in
    let other : c.replay_script-report.result.end ≢ end.Done = search rules in
    alone c.args.settings.now _ _ _ c.replay_script-report.result c.replay_script-report.new.all (told.of.1 ∙ c.in-Ok.ensures.sizes) told.course (inl (told.replays _ c.new-script.ensures)) (λ done. absurd (other done))

pub returns-in-Ok-finish : goal.returns-in-Ok-finish
returns-in-Ok-finish g c =
    let told = c.replay_script-report.ensures in let all = c.replay_script-report.new.all in let board = c.in-Ok.board in let members = c.spread-members.result in
    let sizes = told.of.1 in let back = c.spread-members.ensures in
    let lists = spread_lists_of board all members.items back.crew sizes back.steps in
    alone c.args.settings.now _ _ _ c.replay_script-report.result all (sizes ∙ c.in-Ok.ensures.sizes) told.course (inl (told.replays _ c.new-script.ensures))
    (λ _. subst (λ (m : Sizes). AreListsAtEnd m (all_lists all)) c.in-Ok.ensures.sizes (subst (λ (z : List (List Entry)). AreListsAtEnd board.sizes z) (sym lists) c.in-Ok-finish.ensures.ok.1))

pub returns : goal.returns
returns g c =
    let told = c.replay_script-report.ensures in let all = c.replay_script-report.new.all in
    let done : c.replay_script-report.result.end ≡ end.Done = search rules in
    let goes = c.write_last-in-Err.ensures.goes in
    alone c.args.settings.now _ _ _ c.write_last-in-Err.result all (told.of.1 ∙ c.in-Ok.ensures.sizes)
    told.course (inr (_, c.replay_script-report.result, told.replays _ c.new-script.ensures, done, goes)) (λ ended. absurd (not_done _ _ _ _ _ _ goes ended))
