use Rattle.std.proofs.Common.{arith, ap, sym, ◌∙◌}
use Rattle.std.proofs.lemmas.Result.{err_from_is_err_and}
use Rattle.csv.specs.Records.{fields_of}
use Rattle.klsm_tool.specs.Answering.{live_kept}
use Rattle.klsm_board.specs.Together.{all_lists}
use Rattle.klsm_text.specs.Script.{request_of}
use Rattle.klsm_text.proofs.KeepingLemmas.{none_refused, refusal_read}
use Rattle.klsm_text.proofs.ScriptLemmas.{judged}
use Rattle.klsm_tool.proofs.ReplayLemmas.{refused, row_after, few_after, unanswered_stands}
use Rattle.klsm_tool.proofs.replay.next_line.Goals as goal

pub answer-requires-clause-thread : goal.answer-requires-clause-thread
answer-requires-clause-thread g c = let below = c.in-Ok.ensures.below in omega (arith, below, c.threads.ensures.threads)

pub returns-in-Ok-clause-few : goal.returns-in-Ok-clause-few
returns-in-Ok-clause-few g c = λ n few.
    few_after c.args.board.now.sizes.threads c.args.board.now.sizes.k n (all_lists c.args.all.now) (all_lists c.answer.new.all) (live_kept c.args.state.now) (live_kept c.answer.new.self) c.args.state.now.most c.answer.new.self.most c.in-Ok.request c.answer.result few c.answer.ensures.ok c.answer.ensures.refused

pub returns-in-Ok-clause-step : goal.returns-in-Ok-clause-step
returns-in-Ok-clause-step g c = λ input rows lines now below.
    let asks = ap (λ n. request_of n (fields_of c.advance.new.self.row)) (sym c.threads.ensures.threads) ∙ (sym c.request_of.ensures.request ∙ c.in-Ok.is) in
    row_after g.R.Read.remaining c.args.board.now.sizes.threads c.args.board.now.sizes.k (all_lists c.args.all.now) (all_lists c.answer.new.all) input rows lines c.args.script.now c.advance.new.self (live_kept c.args.state.now) (live_kept c.answer.new.self) c.args.state.now.most c.answer.new.self.most (fields_of c.advance.new.self.row) c.in-Ok.request c.answer.result
    now below (c.in_ok-advance.ensures input rows now.read) asks c.answer.ensures.ok c.answer.ensures.refused

pub returns-in-Err-clause-step : goal.returns-in-Err-clause-step
returns-in-Err-clause-step g c = λ input rows lines now below.
    let asks = ap (λ n. request_of n (fields_of c.advance.new.self.row)) (sym c.threads.ensures.threads) ∙ (sym c.request_of.ensures.request ∙ c.in-Err.is) in
    refused g.R.Read.remaining c.args.board.now.sizes.threads c.args.board.now.sizes.k (all_lists c.args.all.now) input rows lines c.args.script.now c.advance.new.self (live_kept c.args.state.now) c.args.state.now.most (fields_of c.advance.new.self.row) c.in-Err.why
    now below (c.in_ok-advance.ensures input rows now.read) asks

pub returns-in_err-advance-clause-refused : goal.returns-in_err-advance-clause-refused
returns-in_err-advance-clause-refused g c = λ input rows read accepted below.
    let p = err_from_is_err_and c.from_residual.result c.from_residual.ensures.1 in
    rw (p.1, p.2) (none_refused g.R.Read.remaining c.args.board.now.sizes.threads _ input rows c.advance.new.self _ (c.in_err-advance.ensures input rows read))

pub returns-in-Ok-clause-refused : goal.returns-in-Ok-clause-refused
returns-in-Ok-clause-refused g c = λ input rows read accepted below.
    unanswered_stands g.R.Read.remaining c.args.board.now.sizes.threads input c.advance.new.self _ _ c.answer.result c.answer.ensures.refused

pub returns-in-Err-clause-refused : goal.returns-in-Err-clause-refused
returns-in-Err-clause-refused g c = λ input rows read accepted below refusal is.
    let row = fields_of c.advance.new.self.row in
    let asks = ap (λ n. request_of n row) (sym c.threads.ensures.threads) ∙ (sym c.request_of.ensures.request ∙ c.in-Err.is) in
    refusal_read g.R.Read.remaining c.args.board.now.sizes.threads input rows c.advance.new.self row c.in-Err.why accepted (c.in_ok-advance.ensures input rows read) (judged c.args.board.now.sizes.threads rows row below ∙ asks)

pub returns-in_err-advance-clause-course : goal.returns-in_err-advance-clause-course
returns-in_err-advance-clause-course g c = λ first on. on

pub returns-in-Ok-clause-course : goal.returns-in-Ok-clause-course
returns-in-Ok-clause-course g c = λ first on. c.answer.ensures.course first on

pub returns-in-Err-clause-course : goal.returns-in-Err-clause-course
returns-in-Err-clause-course g c = λ first on. on
