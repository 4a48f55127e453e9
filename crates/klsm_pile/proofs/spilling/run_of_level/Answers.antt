use Rattle.std.proofs.Common.{◌≤◌, ◌+◌, ◌++◌, sym, ap, ◌∙◌, subst, arith}
use Rattle.klsm_pile.proofs.SpillLemmas.{level_behind, level_few, level_ascending, united_here, united_other, united_all, united_apart, united_room}
use Rattle.klsm_pile.proofs.spilling.run_of_level.Goals as goal
use Rattle.klsm_pile.proofs.spilling.run_of_level.Goals.{then-fetched-level, else-fetched-level}

pub copy_of_for-requires-clause-room : goal.copy_of_for-requires-clause-room
copy_of_for-requires-clause-room g c = omega (arith, c.requires.count, c.requires.few, level_few c.args.level c.args.keep c.args.front.now.items)

pub loop-index-init : goal.loop-index-init
loop-index-init g c = record {
  items = ap (λ xs. xs ++ level_behind c.args.level c.args.keep c.args.front.now.items) (c.in-Ok.ensures.items ∙ c.empty-none.ensures);
  room = c.in-Ok.ensures.reserved.holds;
}

pub unite_items-requires-clause-apart : goal.unite_items-requires-clause-apart
unite_items-requires-clause-apart g c =
    united_apart c.args.level c.loop-index.index c.args.front.now.items c.at-fetched.result c.loop-index.run.items _ (omega (arith, c.loop-index-test.true, c.len-index-end.ensures)) c.at-fetched.ensures c.if-fetched-level.true
    (level_ascending c.args.level c.args.keep c.args.front.now.items c.requires.ascending) c.loop-index.invariant.items

pub unite_items-requires-clause-room : goal.unite_items-requires-clause-room
unite_items-requires-clause-room g c =
    omega (
      arith,
      c.requires.count,
      c.loop-index.invariant.room,
      united_room c.args.level c.loop-index.index c.args.front.now.items c.at-fetched.result c.loop-index.run.items _ (omega (arith, c.loop-index-test.true, c.len-index-end.ensures)) c.at-fetched.ensures c.if-fetched-level.true
          c.loop-index.invariant.items,
    )

pub loop-index-preserved : goal.loop-index-preserved
loop-index-preserved g c = elim c.if-fetched-level.branch [
  | then-fetched-level w ↦ record {
    items = united_here c.args.level c.loop-index.index c.args.front.now.items c.at-fetched.result c.loop-index.run.items _ _ (omega (arith, c.loop-index-test.true, c.len-index-end.ensures)) c.at-fetched.ensures
        w.if-fetched-level.true (level_ascending c.args.level c.args.keep c.args.front.now.items c.requires.ascending) c.loop-index.invariant.items (ap (λ run. run.items) w.run-is ∙ w.unite_items.ensures.union);
    room = subst (λ run. c.args.count ≤ run.capacity) (sym w.run-is) (subst (λ n. c.args.count ≤ n) (sym w.unite_items.ensures.capacity) c.loop-index.invariant.room);
  }
  | else-fetched-level w ↦ record {
    items = ap (λ run. run.items ++ level_behind c.args.level (c.loop-index.index + 1) c.args.front.now.items) w.run-is
        ∙ united_other c.args.level c.loop-index.index c.args.front.now.items c.at-fetched.result c.loop-index.run.items _ (omega (arith, c.loop-index-test.true, c.len-index-end.ensures)) c.at-fetched.ensures
        w.if-fetched-level.false c.loop-index.invariant.items;
    room = subst (λ run. c.args.count ≤ run.capacity) (sym w.run-is) c.loop-index.invariant.room;
  }
]

pub returns : goal.returns
returns g c = united_all c.args.level c.loop-index.index c.args.front.now.items c.loop-index.run.items _ (omega (arith, c.loop-index-test.false, c.len-index-end.ensures)) c.loop-index.invariant.items
