use Rattle.std.proofs.Common.{◌∙◌, ◌+◌, sym, arith}
use Rattle.klsm_pile.specs.Pieces.{at_level}
use Rattle.klsm_pile.specs.Front.{parts}
use Rattle.klsm_pile.proofs.SeekingLemmas.{least_first, next_of, ranked_there, ranked_last}
use Rattle.klsm_pile.proofs.seeking.item_of_level.Goals as goal

pub unreachable-requires : goal.unreachable-requires
unreachable-requires g c =
    absurd (ranked_there (at_level c.args.level (parts c.args.front.now.items c.args.pieces.now)) 0 c.next_of_level.result (omega (arith, c.requires.rank))
    (sym (c.next_of_level.ensures ∙ least_first (at_level c.args.level (parts c.args.front.now.items c.args.pieces.now)))) c.in_default.is)

pub loop-init : goal.loop-init
loop-init g c = sym (c.next_of_level.ensures ∙ least_first (at_level c.args.level (parts c.args.front.now.items c.args.pieces.now))) ∙ c.in-Some.is

pub unreachable-requires-in_default-next_of_level : goal.unreachable-requires-in_default-next_of_level
unreachable-requires-in_default-next_of_level g c =
    ranked_there (at_level c.args.level (parts c.args.front.now.items c.args.pieces.now)) (c.loop.counter + 1) c.next_of_level-in-loop.result (omega (arith, c.requires.rank, c.loop-test.true))
    (next_of c.args.level c.loop.counter (parts c.args.front.now.items c.args.pieces.now) c.loop.item c.next_of_level-in-loop.result c.requires.distinct c.loop.invariant c.next_of_level-in-loop.ensures) c.in_default-next_of_level.is

pub loop-preserved : goal.loop-preserved
loop-preserved g c =
    next_of c.args.level c.loop.counter (parts c.args.front.now.items c.args.pieces.now) c.loop.item c.next_of_level-in-loop.result c.requires.distinct c.loop.invariant c.next_of_level-in-loop.ensures
    ∙ c.in-Some-next_of_level.is

pub returns : goal.returns
returns g c = ranked_last _ c.loop.counter c.args.rank _ (omega (arith, c.loop-test.false, c.loop.auto.counter-end)) c.loop.invariant
