-- Where an LSM has a place in memory, its store of blocks has one.
use Rattle.std.proofs.Common.{ℕ, ◌+◌, ◌<◌, arith}
use prog.Memory.{up}

pub store_fits : (a b c s n m limit : ℕ) → up a (up b (up c (0 + s) + n) + m) < limit → s < limit
store_fits a b c s n m limit whole = omega (arith, whole)
