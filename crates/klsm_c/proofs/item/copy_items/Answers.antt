use Rattle.std.proofs.Common.{◌<◌, length, map, slice_set, sym, ap, ◌∙◌, arith}
use Rattle.klsm_run.specs.declared.item.Item.{Item}
use Rattle.klsm_c.specs.Items.{plain_of}
use Rattle.klsm_c.proofs.ListLemmas.{copied_more, index_mapped}
use Rattle.klsm_c.proofs.item.copy_items.Goals as goal

pub loop-i-preserved : goal.loop-i-preserved
loop-i-preserved c =
    let items = c.args.items.now in let old = c.args.room.now in let i = c.loop-i.i in let x = c.of.result in
    let blank : Item = record { key = 0; stamp = record { owner = 0; number = 0 }; load = 0 } in
    let few : i < length items = omega (arith, c.loop-i-test.true, c.min-count.ensures) in
    let room : i < length old = omega (arith, c.loop-i-test.true, c.min-count.ensures) in
    ap (λ zs. slice_set zs i x) c.loop-i.invariant
    ∙ copied_more (map plain_of items) old i x (index_mapped plain_of items i blank x few).0 room ((index_mapped plain_of items i blank x few).1 ∙ sym c.of.ensures)
