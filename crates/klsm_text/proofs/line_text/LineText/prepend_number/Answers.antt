use Rattle.std.proofs.Common.{ℕ, ◌<◌, ◌≤◌, ◌^◌, length, arith}
use Rattle.std.specs.Fmt.{decimal}
use Rattle.std.proofs.lemmas.Fmt.{length-decimal-le}
use Rattle.klsm_text.proofs.line_text.LineText.prepend_number.Goals as goal

short : (n : ℕ) → n < 2 ^ 64 → length (decimal n) ≤ 20
short n fits = length-decimal-le 20 n (omega arith) (omega arith) fits

pub write_digits-self-requires : goal.write_digits-self-requires
write_digits-self-requires c =
    (omega (arith, short c.args.number c.ranges.number.fits, c.requires.0), omega (arith, c.requires.1))

pub returns-clause-start : goal.returns-clause-start
returns-clause-start c =
    omega (arith, short c.args.number c.ranges.number.fits, c.write_digits-self.ensures.start)
