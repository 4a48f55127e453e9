use Rattle.std.proofs.Common.{rules, ◌≡◌, ◌+◌, length, ap}
use Rattle.std.proofs.Math.Seq.{take-length}
use Rattle.klsm_text.specs.Output.{pending}
use Rattle.klsm_text.proofs.output.Output.flush.Goals as goal

pub returns-then-whole : goal.returns-then-whole
returns-then-whole g c =
    let text = pending c.args.self.now in
    let whole : c.write_text-out.result ≡ length text = search rules in
    let sent = rw (c.as_slice.ensures.value, whole, take-length text) at c.write_text-out.ensures.bytes in
    (sent, ap (λ n. c.args.self.now.written + n) whole, c.clear.ensures.items)

pub returns-else-whole : goal.returns-else-whole
returns-else-whole g c = search rules
