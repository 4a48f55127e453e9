use Rattle.std.proofs.Common.{◌<◌, refl, arith, length}
use Rattle.klsm_pile.specs.Front.{single, singles}
use Rattle.klsm_pile.proofs.ReadingLemmas.{length_singles, single_at}
use Rattle.klsm_pile.proofs.SeekingLemmas.{sought_here, sought_none, sought_elsewhere, sought_all, one_over, one_not_over}
use Rattle.klsm_pile.proofs.seeking.next_of_front.Goals as goal
use Rattle.klsm_pile.proofs.seeking.next_of_front.Goals.{then-fetched-level+then-is_above, else-fetched-level, else-fetched-level-via-then-fetched-level+else-is_above, else-fetched-level-via-else-fetched-level}

pub loop-at-init : goal.loop-at-init
loop-at-init g c = refl

pub loop-at-preserved : goal.loop-at-preserved
loop-at-preserved g c =
    let within : c.loop-at.at < length (singles c.args.front.now.items) =
    omega (arith, c.loop-at-test.true, c.len-at-end.ensures, length_singles c.args.front.now.items) in
    let there = single_at c.args.front.now.items c.loop-at.at c.at-fetched.result c.at-fetched.ensures in
    elim c.if-fetched-level.branch [
      | then-fetched-level+then-is_above w ↦
          sought_here c.args.level c.loop-at.at (singles c.args.front.now.items) (single c.at-fetched.result) c.args.bound c.loop-at.found c.if-fetched-level.found c.at-fetched.result.item w.lesser.result within there w.if-fetched-level.true
          c.loop-at.invariant (one_over c.args.bound c.at-fetched.result.item w.is_above.result w.is_above.ensures w.if-is_above.true) w.lesser.ensures w.found-is
      | else-fetched-level w ↦
          elim w.else-fetched-level.branch [
            | else-fetched-level-via-then-fetched-level+else-is_above v ↦
                sought_none c.args.level c.loop-at.at (singles c.args.front.now.items) (single c.at-fetched.result) c.args.bound c.loop-at.found c.if-fetched-level.found within there v.if-fetched-level.true c.loop-at.invariant
                (one_not_over c.args.bound c.at-fetched.result.item v.is_above.result v.is_above.ensures v.if-is_above.false) w.found-is
            | else-fetched-level-via-else-fetched-level v ↦
                sought_elsewhere c.args.level c.loop-at.at (singles c.args.front.now.items) (single c.at-fetched.result) c.args.bound c.loop-at.found c.if-fetched-level.found within there v.if-fetched-level.false c.loop-at.invariant w.found-is
          ]
    ]

pub returns : goal.returns
returns g c =
    sought_all c.args.level c.loop-at.at (singles c.args.front.now.items) c.args.bound c.loop-at.found (omega (arith, c.loop-at-test.false, c.len-at-end.ensures, length_singles c.args.front.now.items))
    c.loop-at.invariant
