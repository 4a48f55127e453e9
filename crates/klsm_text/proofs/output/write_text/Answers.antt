use Rattle.klsm_text.proofs.OutputLemmas.{front_more}
use Rattle.klsm_text.proofs.output.write_text.Goals as goal

pub loop-out-preserved : goal.loop-out-preserved
loop-out-preserved g c = front_more _ _ _ c.args.text.now c.loop-out.out c.in-Ok.taken c.loop-out.invariant.0 c.in-Ok.ensures.bound c.loop-out.invariant.1 c.in-Ok.ensures.bytes
