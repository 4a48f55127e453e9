use Rattle.std.proofs.Common.{arith}
use Rattle.klsm_parts.specs.Parts.{candidates_of}
use Rattle.klsm_parts.proofs.OwnOrderLemmas.{own_first_found, own_first_more, own_first_none}
use Rattle.klsm_parts.proofs.shared.Shared.own_first.Goals as goal

pub returns-then-item-owner-clause-first : goal.returns-then-item-owner-clause-first
returns-then-item-owner-clause-first g c =
    own_first_found c.args.owner c.args.index c.loop-earlier.earlier (candidates_of c.args.self.now) c.candidate-item.result c.loop-earlier-test.true c.candidate-item.ensures c.if-item-owner.true c.loop-earlier.invariant

pub loop-earlier-preserved : goal.loop-earlier-preserved
loop-earlier-preserved g c =
    own_first_more c.args.owner c.args.index c.loop-earlier.earlier (candidates_of c.args.self.now) c.candidate-item.result c.loop-earlier-test.true c.candidate-item.ensures c.if-item-owner.false c.loop-earlier.invariant

pub returns-clause-first : goal.returns-clause-first
returns-clause-first g c =
    own_first_none c.args.owner c.args.index c.loop-earlier.earlier (candidates_of c.args.self.now) (omega (arith, c.loop-earlier-test.false)) (omega (arith, c.loop-earlier.auto.earlier-end)) c.loop-earlier.invariant
