use Rattle.std.proofs.Common.{rules, ◌+◌, ◌≤◌, length, arith}
use Rattle.klsm_run.specs.Capacity.{heap_room}
use Rattle.klsm_lsm.specs.Limit.{limit_of}
use Rattle.klsm_lsm.specs.Lsm.{content}
use Rattle.klsm_parts.proofs.SharedLemmas.{put_in, apart_of}
use Rattle.klsm_parts.proofs.shared.Shared.absorb.Goals as goal

pub absorb_run-requires : goal.absorb_run-requires
absorb_run-requires g c =
    let size : length (content c.self.inside.pile.blocks) + length c.args.run ≤ limit_of g.row.LEVELS heap_room = omega (arith, c.if-len-limit.false, c.limit.ensures, c.len.ensures.len, c.len-2.ensures.len, c.len-2.ensures.limit) in
    (search rules, (c.requires.some, (apart_of c.self.inside.k c.self.inside.pile _ _ c.self.view_is c.requires.apart, size)))

pub invariant_of-self : goal.invariant_of-self
invariant_of-self g c = (put_in c.absorb_run.result g.row.LEVELS c.self.inside.k c.self.inside.pile c.absorb_run.new.pile c.args.self.now c.args.run c.self.invariant c.self.view_is (omega (arith, c.if-len-limit.false, c.limit.ensures, c.len.ensures.len, c.len-2.ensures.len, c.len-2.ensures.limit)) c.absorb_run.ensures.added c.absorb_run.ensures.memory c.absorb_run.ensures.unchanged).shared

pub returns-clause-added : goal.returns-clause-added
returns-clause-added g c = (put_in c.absorb_run.result g.row.LEVELS c.self.inside.k c.self.inside.pile c.absorb_run.new.pile c.args.self.now c.args.run c.self.invariant c.self.view_is (omega (arith, c.if-len-limit.false, c.limit.ensures, c.len.ensures.len, c.len-2.ensures.len, c.len-2.ensures.limit)) c.absorb_run.ensures.added c.absorb_run.ensures.memory c.absorb_run.ensures.unchanged).added

pub returns-clause-full : goal.returns-clause-full
returns-clause-full g c = (put_in c.absorb_run.result g.row.LEVELS c.self.inside.k c.self.inside.pile c.absorb_run.new.pile c.args.self.now c.args.run c.self.invariant c.self.view_is (omega (arith, c.if-len-limit.false, c.limit.ensures, c.len.ensures.len, c.len-2.ensures.len, c.len-2.ensures.limit)) c.absorb_run.ensures.added c.absorb_run.ensures.memory c.absorb_run.ensures.unchanged).full

pub returns-clause-unchanged : goal.returns-clause-unchanged
returns-clause-unchanged g c = (put_in c.absorb_run.result g.row.LEVELS c.self.inside.k c.self.inside.pile c.absorb_run.new.pile c.args.self.now c.args.run c.self.invariant c.self.view_is (omega (arith, c.if-len-limit.false, c.limit.ensures, c.len.ensures.len, c.len-2.ensures.len, c.len-2.ensures.limit)) c.absorb_run.ensures.added c.absorb_run.ensures.memory c.absorb_run.ensures.unchanged).unchanged
