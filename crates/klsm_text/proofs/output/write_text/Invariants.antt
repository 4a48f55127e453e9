use Rattle.std.proofs.Common.{◌≤◌, ◌-◌, length, take}
use Rattle.std.specs.Io.KnownBytes.{Appends}
use Rattle.klsm_text.proofs.output.write_text.Given as goal

-- the first bytes went out
abbrev pub invariant-loop-out : goal.invariant-loop-out
invariant-loop-out g l = (l.out ≤ length l.text) × Appends (g.W.Write.contents l.initial.writer) (g.W.Write.contents l.writer) (take l.out l.text)

abbrev pub decreases-loop-out : goal.decreases-loop-out
decreases-loop-out g l = length l.text - l.out
