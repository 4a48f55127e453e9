use Rattle.std.proofs.Common.{◌≡◌, ◌<◌, ◌^◌, drop}
use Rattle.klsm_rows.specs.Number.{number_of}
use Rattle.klsm_rows.proofs.NumberLemmas.{number_after}
use Rattle.klsm_rows.proofs.number.number_in.Given as goal

abbrev pub invariant-loop-byte : goal.invariant-loop-byte
invariant-loop-byte l =
    (l.number < 2 ^ 64) × (number_of l.field ≡ number_after l.number (drop l.byte-index l.field))
