use Rattle.std.proofs.Common.{arith, ap, sym, ◌∙◌, ◌≡◌, ◌<◌, ℕ, []}
use Rattle.klsm_run.specs.declared.limits.TheConstants.{PROGRAM_LEVELS, PROGRAM_K}
use Rattle.klsm_board.specs.declared.all_members.AllMembers.{AllMembers}
use Rattle.klsm_board.specs.declared.sizes.Sizes.{Sizes}
use Rattle.klsm_board.specs.Together.{all_lists, sizes_of_all}
use Rattle.klsm_tool.specs.Crews.{HaveNoSteps}
use Rattle.klsm_tool.specs.Shown.{Show}
use Rattle.klsm_tool.proofs.AllLemmas.{fresh_inserts_none, fresh_leaves_none, fresh_shows_none, steps_of_all}
use Rattle.klsm_tool.proofs.ClosingLemmas.{fault_failed, refused_closing, replays, replays_nothing}
use Rattle.klsm_tool.proofs.ReplayLemmas.{first_stands}
use Rattle.klsm_tool.specs.Answering.{pickers_kept}
use Rattle.klsm_tool.proofs.CourseLemmas.{fresh_on_course, none_go}
use Rattle.klsm_tool.proofs.TellingLemmas.{nothing_told}
use Rattle.klsm_tool.proofs.replay.replay_script.Goals as goal

-- the lines of a replay that begins show that nothing was done
none_shown : (all : AllMembers PROGRAM_K PROGRAM_LEVELS) (threads k : ℕ) → HaveNoSteps all → threads ≡ (sizes_of_all all).threads → Show threads k (all_lists all) []
none_shown all threads k fresh same = record {
  answers = fresh_shows_none all fresh threads same;
  left_is = fresh_leaves_none all fresh;
  few = tt;
}

pub returns-in_default-clause-replays : goal.returns-in_default-clause-replays
returns-in_default-clause-replays g c = λ input read.
    replays_nothing c.args.settings.now.threads c.args.settings.now.k (all_lists c.args.all.now) input (g.W.Write.contents c.args.writer.now) _ c.write_last.result
    (none_shown c.args.all.now c.args.settings.now.threads c.args.settings.now.k c.requires.fresh (sym (ap (λ (z : Sizes). z.threads) (c.requires.of.1 ∙ c.requires.sizes)))) c.write_last.ensures.goes

pub answer_rows-closing-requires-clause-few : goal.answer_rows-closing-requires-clause-few
answer_rows-closing-requires-clause-few g c κs within = let none = fresh_inserts_none c.args.all.now c.requires.fresh in omega (arith, none)

pub answer_rows-closing-requires-clause-course : goal.answer_rows-closing-requires-clause-course
answer_rows-closing-requires-clause-course g c κs within t d below =
    let threads = ap (λ (z : Sizes). z.threads) (c.requires.of.1 ∙ c.requires.sizes) in
    fresh_on_course c.args.settings.now c.args.board.now.sizes c.args.all.now (pickers_kept c.in-Ok.replay.state) c.requires.fresh (sym threads) c.in-Ok.ensures.choices t d below

-- where a replay that begins is refused no step was made
pub returns-in_default-clause-course : goal.returns-in_default-clause-course
returns-in_default-clause-course g c =
    let all = c.args.all.now in
    let threads : (sizes_of_all all).threads ≡ c.args.settings.now.threads = ap (λ (z : Sizes). z.threads) (c.requires.of.1 ∙ c.requires.sizes) in
    none_go c.args.settings.now (all_lists all) (λ t below. let inside : t < (sizes_of_all all).threads = omega (arith, below, threads) in steps_of_all all t inside ∙ c.requires.fresh t inside)

pub returns-clause-course : goal.returns-clause-course
returns-clause-course g c = c.answer_rows-closing.ensures.course

pub returns-clause-replays : goal.returns-clause-replays
returns-clause-replays g c = λ input read.
    let e = c.answer_rows-closing.ensures in let threads = c.args.settings.now.threads in let k = c.args.settings.now.k in let before = g.W.Write.contents c.args.writer.now in let new = c.in-Ok.ensures in
    let stands = first_stands g.R.Read.remaining threads c.args.settings.now.k (all_lists c.args.all.now) input c.args.script.now _ _ (none_shown c.args.all.now threads c.args.settings.now.k c.requires.fresh (sym (ap (λ (z : Sizes). z.threads) (c.requires.of.1 ∙ c.requires.sizes)))) read new.live new.most in
    replays _ threads k (all_lists c.answer_rows-closing.new.all) input before (g.W.Write.contents c.answer_rows-closing.new.writer) (g.W.Write.contents c.close-report.new.writer) c.answer_rows-closing.result c.answer_rows-closing.new.self.output c.close-report.result
    (e.stops input before stands (nothing_told before _ new.written new.empty)) e.bound c.close-report.ensures.closes

pub returns-clause-fault : goal.returns-clause-fault
returns-clause-fault g c = λ input read.
    let threads = c.args.settings.now.threads in let before = g.W.Write.contents c.args.writer.now in let new = c.in-Ok.ensures in
    let stands = first_stands g.R.Read.remaining threads c.args.settings.now.k (all_lists c.args.all.now) input c.args.script.now _ _ (none_shown c.args.all.now threads c.args.settings.now.k c.requires.fresh (sym (ap (λ (z : Sizes). z.threads) (c.requires.of.1 ∙ c.requires.sizes)))) read new.live new.most in
    fault_failed _ threads c.args.settings.now.k _ input _ _ (g.W.Write.contents c.close-report.new.writer) c.answer_rows-closing.result c.answer_rows-closing.new.self.output c.close-report.result
    (c.answer_rows-closing.ensures.stops input before stands (nothing_told before _ new.written new.empty)) c.close-report.ensures.closes

pub returns-clause-refused : goal.returns-clause-refused
returns-clause-refused g c = λ input read is.
    let threads = c.args.settings.now.threads in let before = g.W.Write.contents c.args.writer.now in let new = c.in-Ok.ensures in
    let stands = first_stands g.R.Read.remaining threads c.args.settings.now.k (all_lists c.args.all.now) input c.args.script.now _ _ (none_shown c.args.all.now threads c.args.settings.now.k c.requires.fresh (sym (ap (λ (z : Sizes). z.threads) (c.requires.of.1 ∙ c.requires.sizes)))) read new.live new.most in
    let refusal = refused_closing _ _ c.answer_rows-closing.result c.answer_rows-closing.new.self.output c.close-report.result c.close-report.ensures.closes is in
    c.answer_rows-closing.ensures.refused input before stands (nothing_told before _ new.written new.empty) refusal.0 refusal.1

pub returns-clause-written : goal.returns-clause-written
returns-clause-written g c =
    let e = c.answer_rows-closing.ensures in
    let few = c.close-report.ensures.few in
    omega (arith, few, e.put)
