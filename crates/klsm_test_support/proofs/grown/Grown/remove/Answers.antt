use Rattle.std.proofs.Common.{◌≡◌, [], ap, length, get_or, arith, rules}
use Rattle.std.proofs.lemmas.Option.{get_or_from_slice_get}
use Rattle.klsm_test_support.proofs.OwnerLemmas.{owned_cut}
use Rattle.klsm_test_support.proofs.grown.Grown.remove.Goals as goal

pub remove-requires : goal.remove-requires
remove-requires g c =
    let lsm = c.args.self.now.lsm in
    let found : get_or lsm c.args.block [] ≡ g.R.Run.items c.block.result.now = get_or_from_slice_get lsm c.args.block (g.R.Run.items c.block.result.now) [] c.block.ensures.block in
    (search rules, (omega (arith, c.if-block-blocks.false, c.blocks-2.ensures.blocks), omega (arith, c.if-index-len.false, c.len.ensures.len, ap length found)))

pub invariant_of-self : goal.invariant_of-self
invariant_of-self g c =
    let grown = c.args.self.now in
    record { owned = owned_cut grown.owners c.args.block c.args.index grown.lsm c.remove.new.self c.remove.ensures.rest grown.owned }
