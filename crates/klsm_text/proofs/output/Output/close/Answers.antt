use Rattle.std.proofs.Common.{◌≢◌, inr, refl, rules, ◌∙◌}
use Rattle.klsm_text.specs.declared.stop.Stop.TheVariants as stop
use Rattle.klsm_text.specs.Output.{pending}
use Rattle.klsm_text.proofs.OutputLemmas.{goes_after}
use Rattle.klsm_text.proofs.output.Output.close.Goals as goal

pub returns-clause-closes : goal.returns-clause-closes
returns-clause-closes g c =
    let other : c.args.closing.stop ≢ stop.WriteFault = search rules in
    let sent = c.in_default.ensures in
    let goes = rw (c.as_bytes.ensures.text ∙ c.text.ensures.text, c.end-2.ensures) at c.write_last.ensures.goes in
    inr (other, goes_after _ _ _ (pending c.args.self.now) _ _ c.args.self.now.written c.flush.new.self.written _ _ _ sent.0 sent.1 refl goes)
