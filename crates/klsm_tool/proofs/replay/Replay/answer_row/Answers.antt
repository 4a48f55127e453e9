use Rattle.std.proofs.Common.{arith, ◌∙◌}
use Rattle.std.proofs.lemmas.Result.{err_from_is_err_and}
use Rattle.klsm_board.specs.Together.{all_lists}
use Rattle.klsm_text.proofs.OutputLemmas.{puts_at_most}
use Rattle.klsm_tool.proofs.ReplayLemmas.{cut_stands}
use Rattle.klsm_tool.proofs.TellingLemmas.{stops_told, stops_cut, line_put, put_stands}
use Rattle.klsm_tool.proofs.replay.Replay.answer_row.Goals as goal

pub returns-in_err-send_before_wait-clause-step : goal.returns-in_err-send_before_wait-clause-step
returns-in_err-send_before_wait-clause-step g c input before rows lines now below told =
    let sizes = c.args.board.now.sizes in
    let p = err_from_is_err_and c.from_residual.result c.from_residual.ensures.1 in
    let failed = c.in_err-send_before_wait.ensures.told before lines told in
    rw (p.1, p.2, failed.0) (stops_cut g.R.Read.remaining _ sizes.threads sizes.k (all_lists c.args.all.now) input before _ rows lines c.args.script.now _ c.args.self.now.state.most _ now.answered now.shown now.read failed.1)

pub returns-in_err-line-clause-step : goal.returns-in_err-line-clause-step
returns-in_err-line-clause-step g c input before rows lines now below told =
    let sizes = c.args.board.now.sizes in
    let p = err_from_is_err_and c.from_residual-in_err-line.result c.from_residual-in_err-line.ensures.1 in
    let h = c.in_err-line.ensures.step input rows lines now below in
    rw (p.1, p.2) (stops_told _ sizes.threads sizes.k (all_lists c.next_line.new.all) input before _ rows lines c.next_line.new.state.most _ c.in_err-line.field-0.0 now.answered h (c.in_ok-send_before_wait.ensures.told before lines told))

pub returns-clause-put : goal.returns-clause-put
returns-clause-put g c =
    omega (arith, puts_at_most (g.W.Write.contents c.send_before_wait.new.writer) (g.W.Write.contents c.put.new.writer) c.as_bytes.result.now c.send_before_wait.new.output c.put.new.self c.put.result c.put.ensures, c.as_bytes.ensures.short, c.in_ok-send_before_wait.ensures.put)

pub returns-clause-step : goal.returns-clause-step
returns-clause-step g c input before rows lines now below told =
    let sizes = c.args.board.now.sizes in
    let h = c.in_ok-line.ensures.step input rows lines now below in
    let puts = rw (c.as_bytes.ensures.text ∙ c.text.ensures.text) at c.put.ensures in
    line_put g.R.Read.remaining _ sizes.threads sizes.k (all_lists c.args.all.now) (all_lists c.next_line.new.all) input before _ _ rows lines c.args.script.now c.next_line.new.script _ _ _ _ _ _ h.0 c.in_ok-line.line c.put.result now h.1 h.2 (c.in_ok-send_before_wait.ensures.told before lines told) puts

pub returns-in_err-send_before_wait-clause-refused : goal.returns-in_err-send_before_wait-clause-refused
returns-in_err-send_before_wait-clause-refused g c input rows read accepted below =
    let p = err_from_is_err_and c.from_residual.result c.from_residual.ensures.1 in
    rw (p.1, p.2) (cut_stands g.R.Read.remaining c.args.board.now.sizes.threads input c.args.script.now _ c.in_err-send_before_wait.ensures.fault)

pub returns-in_err-line-clause-refused : goal.returns-in_err-line-clause-refused
returns-in_err-line-clause-refused g c input rows read accepted below =
    let p = err_from_is_err_and c.from_residual-in_err-line.result c.from_residual-in_err-line.ensures.1 in
    rw (p.1, p.2) (c.in_err-line.ensures.refused input rows read accepted below)

pub returns-clause-refused : goal.returns-clause-refused
returns-clause-refused g c input rows read accepted below =
    put_stands g.R.Read.remaining c.args.board.now.sizes.threads input (g.W.Write.contents c.send_before_wait.new.writer) (g.W.Write.contents c.put.new.writer) c.next_line.new.script c.as_bytes.result.now c.send_before_wait.new.output c.put.new.self c.put.result c.put.ensures

pub returns-in_err-send_before_wait-clause-course : goal.returns-in_err-send_before_wait-clause-course
returns-in_err-send_before_wait-clause-course g c first on = on

pub returns-in_err-line-clause-course : goal.returns-in_err-line-clause-course
returns-in_err-line-clause-course g c first on = c.in_err-line.ensures.course first on

pub returns-clause-course : goal.returns-clause-course
returns-clause-course g c first on = c.in_ok-line.ensures.course first on
