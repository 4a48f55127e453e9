use Rattle.std.proofs.Common.{◌≡◌, ◌∙◌, List, Vec, Global, refl, sym, subst, lit<}
use Rattle.klsm_run.specs.declared.limits.TheConstants.{PROGRAM_K, PROGRAM_LEVELS}
use Rattle.klsm_board.specs.declared.board.Member.{Member}
use Rattle.klsm_board.specs.Boards.{AreMembersOf, AreNewMembersOf}
use Rattle.klsm_board.specs.Together.{all_lists}
use Rattle.klsm_board.proofs.lemmas.ending.MemberLemmas.{all_of_board, lists_in_order, none_missing}
use Rattle.klsm_schedules.specs.declared.step.Entry.{Entry}
use Rattle.klsm_words.specs.declared.settings.ScriptSettings.{ScriptSettings}
use Rattle.klsm_tool.specs.Courses.{GoInOneHand}
use Rattle.klsm_tool.specs.Crews.{lists_in}
use Rattle.klsm_tool.specs.Replay.{Replays}
use Rattle.klsm_tool.proofs.AloneLemmas.{spread_lists_of}
use Rattle.klsm_tool.proofs.CrewLemmas.{gathered_fresh}
use Rattle.klsm_tool.proofs.over.replay_on.Goals as goal

pub gather-requires : goal.gather-requires
gather-requires g c =
    let new : AreNewMembersOf c.args.board.now c.replace-taken.result.items = subst (λ (v : Vec (Member PROGRAM_K PROGRAM_LEVELS) Global). AreNewMembersOf c.args.board.now v.items) (sym c.replace-taken.ensures.value) c.requires.crew in
    (lit< tt, (lit< tt, (lit< tt, (lit< tt, all_of_board c.args.board.now c.replace-taken.result.items new.are))))

pub unreachable-requires : goal.unreachable-requires
unreachable-requires g c =
    let refused = c.in_default.field-0 in
    let new : AreNewMembersOf c.args.board.now c.replace-taken.result.items = subst (λ (v : Vec (Member PROGRAM_K PROGRAM_LEVELS) Global). AreNewMembersOf c.args.board.now v.items) (sym c.replace-taken.ensures.value) c.requires.crew in
    none_missing c.args.board.now c.replace-taken.result.items new.are refused.missing ((c.in_default.ensures.missing refused.missing).0 refl)

pub replay_script-report-requires-clause-fresh : goal.replay_script-report-requires-clause-fresh
replay_script-report-requires-clause-fresh g c κs within =
    let told = c.in-Ok.ensures in
    let new : AreNewMembersOf c.args.board.now c.replace-taken.result.items = subst (λ (v : Vec (Member PROGRAM_K PROGRAM_LEVELS) Global). AreNewMembersOf c.args.board.now v.items) (sym c.replace-taken.ensures.value) c.requires.crew in
    gathered_fresh c.in-Ok.all c.args.board.now c.replace-taken.result.items c.args.board.now.sizes told.of.1 told.same.0 told.same.1 new

pub returns-clause-replays : goal.returns-clause-replays
returns-clause-replays g c =
    let told = c.replay_script-report.ensures in let all = c.replay_script-report.new.all in let board = c.args.board.now in let members = c.spread.result.items in let back = c.spread.ensures in
    let lists : all_lists all ≡ lists_in members = spread_lists_of board all members back.crew told.of.1 back.steps ∙ sym (lists_in_order board members back.crew) in
    subst (λ (z : List (List Entry)). Replays c.args.settings.now.threads c.args.settings.now.k z (g.R.Read.remaining c.args.reader) (g.W.Write.contents c.args.writer.now) (g.W.Write.contents c.replay_script-report.new.writer) c.replay_script-report.result) lists
    (subst (λ (s : ScriptSettings). Replays s.threads s.k (all_lists all) (g.R.Read.remaining c.args.reader) (g.W.Write.contents c.args.writer.now) (g.W.Write.contents c.replay_script-report.new.writer) c.replay_script-report.result) c.script_settings-settings.ensures (told.replays _ c.new-script.ensures))

pub returns-clause-course : goal.returns-clause-course
returns-clause-course g c =
    let told = c.replay_script-report.ensures in let all = c.replay_script-report.new.all in let board = c.args.board.now in let members = c.spread.result.items in let back = c.spread.ensures in
    let lists : all_lists all ≡ lists_in members = spread_lists_of board all members back.crew told.of.1 back.steps ∙ sym (lists_in_order board members back.crew) in
    subst (λ (s : ScriptSettings). GoInOneHand s (lists_in members)) c.script_settings-settings.ensures (subst (λ (z : List (List Entry)). GoInOneHand c.script_settings-settings.result z) lists told.course)
