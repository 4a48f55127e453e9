use Rattle.std.proofs.Common.{◌≡◌, map, take}
use Rattle.std.specs.Prelude.{string_bytes}
use Rattle.klsm_tool.proofs.program.bytes_of.Given as goal

abbrev pub invariant-loop-index : goal.invariant-loop-index
invariant-loop-index l = map (λ word. word.items) l.all.items ≡ map string_bytes (take l.index l.fn.words)
