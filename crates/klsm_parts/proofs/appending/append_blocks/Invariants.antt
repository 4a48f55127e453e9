use Rattle.std.proofs.Common.{vec_len, vec_capacity}
use Rattle.klsm_parts.proofs.AppendLemmas.{AreListed}
use Rattle.klsm_parts.proofs.appending.append_blocks.Given as goal

-- the items of the blocks before this one are listed
abbrev pub invariant-loop-block : goal.invariant-loop-block
invariant-loop-block g l = AreListed l.block l.lsm l.initial.all.items l.all.items (vec_len l.initial.all) (vec_capacity l.initial.all) (vec_len l.all) (vec_capacity l.all)
