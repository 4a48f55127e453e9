use Rattle.std.proofs.Common.{◌++◌, drop, get_or, sym, ap, arith}
use Rattle.klsm_run.specs.Content.{sorted}
use Rattle.klsm_world.proofs.lemmas.lists.PlacingLemmas.{length_smaller, merged_more, merged_all}
use Rattle.klsm_schedules.proofs.lemmas.lists.ListLemmas.{no_item}
use Rattle.klsm_world.proofs.contents.with_all.Goals as goal

pub loop-item-init : goal.loop-item-init
loop-item-init g c = record {
  within = omega arith;
  room = omega (arith, c.in-Ok.ensures.len, c.in-Ok.ensures.capacity, c.saturating_add.ensures, c.well_formed);
  merged = ap (λ xs. xs ++ sorted (c.args.joining.now ++ c.args.items.now)) (sym c.in-Ok.ensures.items);
}

pub push_smaller-at-requires : goal.push_smaller-at-requires
push_smaller-at-requires g c = record { start_within = c.loop-item.invariant.within; room = omega (arith, c.loop-item.invariant.room, c.loop-item-test.true) }

pub push_reserved-requires : goal.push_reserved-requires
push_reserved-requires g c =
    let item = get_or c.args.joining.now c.loop-item.item-index no_item in
    let longer = length_smaller item (drop c.loop-item.at c.args.items.now) c.loop-item.all.items c.push_smaller-at.new.all.items c.push_smaller-at.ensures.pushed in
    omega (arith, longer, c.push_smaller-at.ensures.stopped, c.push_smaller-at.ensures.within, c.push_smaller-at.ensures.capacity, c.loop-item.invariant.room, c.loop-item-test.true)

pub loop-item-preserved : goal.loop-item-preserved
loop-item-preserved g c =
    let items = c.args.items.now in let joining = c.args.joining.now in let at = c.loop-item.at in let index = c.loop-item.item-index in
    let longer = length_smaller (get_or joining index no_item) (drop at items) c.loop-item.all.items c.push_smaller-at.new.all.items c.push_smaller-at.ensures.pushed in
    record {
      within = c.push_smaller-at.ensures.within;
      room = omega (arith, longer, c.push_smaller-at.ensures.stopped, c.push_smaller-at.ensures.capacity, c.push_reserved.ensures.len, c.push_reserved.ensures.capacity, c.loop-item.invariant.room);
      merged = merged_more joining items (sorted (joining ++ items)) c.loop-item.all.items c.push_smaller-at.new.all.items c.push_reserved.new.self.items index at c.push_smaller-at.result no_item
          c.requires.joining_sorted c.requires.sorted c.loop-item-test.true c.loop-item.invariant.merged
          c.push_smaller-at.ensures.pushed c.push_smaller-at.ensures.stopped c.push_reserved.ensures.items;
    }

pub returns-clause-with_all : goal.returns-clause-with_all
returns-clause-with_all g c =
    let items = c.args.items.now in let joining = c.args.joining.now in
    merged_all joining items (sorted (joining ++ items)) c.loop-item.all.items c.extend_from_slice.new.self.items c.loop-item.item-index c.loop-item.at
    c.requires.sorted c.loop-item-test.false c.loop-item.invariant.merged c.in-Ok-extend_from_slice.ensures.items
