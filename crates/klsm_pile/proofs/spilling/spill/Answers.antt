use Rattle.std.proofs.Common.{◌≡◌, drop, refl, sym, subst, ap, ◌∙◌, arith}
use Rattle.klsm_run.specs.Content.{sorted}
use Rattle.klsm_pile.specs.Pieces.{items_where}
use Rattle.klsm_pile.specs.Front.{parts}
use Rattle.klsm_pile.specs.Piles.{IsConsistent}
use Rattle.klsm_pile.proofs.SpillLemmas.{AreSpilled, spilled_first, spilled_more, spilled_room, spilled_back, spilled_all, spilled_held, spilled_keeps, spilled_few, front_few}
use Rattle.klsm_pile.proofs.spilling.spill.Goals as goal
use Rattle.klsm_pile.proofs.spilling.spill.Goals.{After-truncate, After-truncate-2}
use Rattle.klsm_pile.proofs.spilling.spill.Given as given

pub loop-level-init : goal.loop-level-init
loop-level-init g c = record { pieces = spilled_first c.args.pieces.now.items (drop c.args.keep c.args.front.now.items); capacity = refl }

pub copy_level-requires-clause-few : goal.copy_level-requires-clause-few
copy_level-requires-clause-few g c = front_few c.args.front.now.items c.args.pieces.now.items _ c.requires.few

pub copy_level-requires-clause-slots : goal.copy_level-requires-clause-slots
copy_level-requires-clause-slots g c =
    spilled_room c.loop-level.level c.args.levels _ (drop c.args.keep c.args.front.now.items) c.args.pieces.now.items c.loop-level.pieces.items c.loop-level-test.true (omega (arith, c.requires.slots, c.loop-level.invariant.capacity)) c.loop-level.invariant.pieces

pub loop-level-preserved : goal.loop-level-preserved
loop-level-preserved g c = record {
  pieces = spilled_more c.loop-level.level (drop c.args.keep c.args.front.now.items) c.args.pieces.now.items c.loop-level.pieces.items _ c.loop-level.invariant.pieces c.in-Ok.ensures.pieces;
  capacity = c.in-Ok.ensures.capacity ∙ c.loop-level.invariant.capacity;
}

-- memory was refused
back : (g : given.Over) (c : After-truncate g) → c.truncate.new.self.items ≡ c.args.pieces.now.items
back g c =
    spilled_back c.loop-level.level c.len-before.result (drop c.args.keep c.args.front.now.items) c.args.pieces.now.items c.copy_level.new.pieces.items c.truncate.new.self.items (c.len-before.ensures ∙ c.args.pieces.now.ok.0)
    (c.in_default.ensures.pieces ∙ c.loop-level.invariant.pieces) c.truncate.ensures.items

pub returns-in_default-clause-held : goal.returns-in_default-clause-held
returns-in_default-clause-held g c counts held = subst (λ ps. IsConsistent c.args.levels c.args.front.now.items ps counts) (sym (back g c)) held

pub returns-in_default-clause-same : goal.returns-in_default-clause-same
returns-in_default-clause-same g c test = ap (λ ps. sorted (items_where test (parts c.args.front.now.items ps))) (back g c)

pub returns-in_default-clause-unchanged : goal.returns-in_default-clause-unchanged
returns-in_default-clause-unchanged g c = (refl, back g c)

-- all levels are there
all : (g : given.Over) (c : After-truncate-2 g) → AreSpilled c.args.levels c.args.keep c.args.front.now.items c.truncate-2.new.self.items c.args.pieces.now.items c.loop-level.pieces.items
all g c =
    spilled_all c.args.levels c.loop-level.level c.args.keep c.args.front.now.items c.truncate-2.new.self.items c.args.pieces.now.items c.loop-level.pieces.items (omega (arith, c.loop-level-test.false, c.loop-level.auto.level-end)) c.truncate-2.ensures.items
    c.loop-level.invariant.pieces

pub returns-clause-held : goal.returns-clause-held
returns-clause-held g c counts held = spilled_held c.args.levels c.args.keep c.args.front.now.items _ c.args.pieces.now.items _ counts (all g c) held

pub returns-clause-same : goal.returns-clause-same
returns-clause-same g c = spilled_keeps c.args.levels c.args.keep c.args.front.now.items _ c.args.pieces.now.items _ c.requires.held.0 (all g c) c.requires.held.1

pub returns-clause-slots : goal.returns-clause-slots
returns-clause-slots g c = spilled_few c.args.levels c.args.keep c.args.front.now.items _ c.args.pieces.now.items _ (all g c)
