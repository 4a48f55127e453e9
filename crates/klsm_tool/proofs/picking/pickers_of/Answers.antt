use Rattle.std.proofs.Common.{◌≡◌, ◌∙◌, arith}
use Rattle.klsm_tool.proofs.PickingLemmas.{one_picker_more}
use Rattle.klsm_tool.proofs.picking.pickers_of.Goals as goal

pub loop-thread-preserved : goal.loop-thread-preserved
loop-thread-preserved c =
    let was = c.loop-thread.invariant in
    let more = one_picker_more c.args.settings.now c.loop-thread.pickers.items c.push.new.self.items c.of.result c.loop-thread.thread was.many was.each c.in_ok-push.ensures.items c.of.ensures in
    record { many = more.0; each = more.1 }

pub returns : goal.returns
returns c =
    let many : c.loop-thread.thread ≡ c.args.settings.now.threads = omega (arith, c.loop-thread-test.false) in
    record { many = c.loop-thread.invariant.many ∙ many; each = λ t d below. c.loop-thread.invariant.each t d (omega (arith, below, many)) }
