use Rattle.std.proofs.Common.{rules, ◌≡◌, ◌+◌, ◌≤◌, length, sym, ap, subst, arith}
use Rattle.std.specs.Prelude.{OnOk}
use Rattle.klsm_run.specs.Content.{sorted, ShareNone}
use Rattle.klsm_run.proofs.SortedLemmas.{length_sorted}
use Rattle.klsm_lsm.specs.Adding.{add}
use Rattle.klsm_run.specs.Capacity.{heap_room}
use Rattle.klsm_lsm.specs.Limit.{limit_of}
use Rattle.klsm_lsm.specs.Lsm.{content}
use Rattle.klsm_lsm.proofs.JoinLemmas.{sharing_none_sorted}
use Rattle.klsm_parts.proofs.SharedLemmas.{put_in, apart_of}
use Rattle.klsm_parts.proofs.shared.Shared.absorb_copy.Goals as goal

pub absorb-requires : goal.absorb-requires
absorb-requires g c =
    let size : length (content c.self.inside.pile.blocks) + length c.in-Ok.copy.items ≤ limit_of g.row.LEVELS heap_room = omega (arith, c.if-len-limit.false, c.limit.ensures, c.len.ensures.len, c.len-2.ensures.len, c.len-2.ensures.limit, ap length c.in-Ok.ensures.items) in
    (search rules, (omega (arith, c.requires.some, ap length c.in-Ok.ensures.items), ((subst (ShareNone (content c.self.inside.pile.blocks)) (sym c.in-Ok.ensures.items) (apart_of c.self.inside.k c.self.inside.pile _ _ c.self.view_is c.requires.apart)), size)))

pub invariant_of-self : goal.invariant_of-self
invariant_of-self g c = (put_in c.absorb.result g.row.LEVELS c.self.inside.k c.self.inside.pile c.absorb.new.pile c.args.self.now (g.R.Run.items c.args.run.now) c.self.invariant c.self.view_is (omega (arith, c.if-len-limit.false, c.limit.ensures, c.len.ensures.len, c.len-2.ensures.len, c.len-2.ensures.limit)) (subst (λ xs. OnOk c.absorb.result (c.absorb.new.pile ≡ record { blocks = add c.self.inside.pile.blocks xs; reach = c.self.inside.pile.reach })) c.in-Ok.ensures.items c.absorb.ensures.added) c.absorb.ensures.memory c.absorb.ensures.unchanged).shared

pub returns-in-Ok-clause-added : goal.returns-in-Ok-clause-added
returns-in-Ok-clause-added g c = (put_in c.absorb.result g.row.LEVELS c.self.inside.k c.self.inside.pile c.absorb.new.pile c.args.self.now (g.R.Run.items c.args.run.now) c.self.invariant c.self.view_is (omega (arith, c.if-len-limit.false, c.limit.ensures, c.len.ensures.len, c.len-2.ensures.len, c.len-2.ensures.limit)) (subst (λ xs. OnOk c.absorb.result (c.absorb.new.pile ≡ record { blocks = add c.self.inside.pile.blocks xs; reach = c.self.inside.pile.reach })) c.in-Ok.ensures.items c.absorb.ensures.added) c.absorb.ensures.memory c.absorb.ensures.unchanged).added

pub returns-in-Ok-clause-full : goal.returns-in-Ok-clause-full
returns-in-Ok-clause-full g c = (put_in c.absorb.result g.row.LEVELS c.self.inside.k c.self.inside.pile c.absorb.new.pile c.args.self.now (g.R.Run.items c.args.run.now) c.self.invariant c.self.view_is (omega (arith, c.if-len-limit.false, c.limit.ensures, c.len.ensures.len, c.len-2.ensures.len, c.len-2.ensures.limit)) (subst (λ xs. OnOk c.absorb.result (c.absorb.new.pile ≡ record { blocks = add c.self.inside.pile.blocks xs; reach = c.self.inside.pile.reach })) c.in-Ok.ensures.items c.absorb.ensures.added) c.absorb.ensures.memory c.absorb.ensures.unchanged).full

pub returns-in-Ok-clause-unchanged : goal.returns-in-Ok-clause-unchanged
returns-in-Ok-clause-unchanged g c = (put_in c.absorb.result g.row.LEVELS c.self.inside.k c.self.inside.pile c.absorb.new.pile c.args.self.now (g.R.Run.items c.args.run.now) c.self.invariant c.self.view_is (omega (arith, c.if-len-limit.false, c.limit.ensures, c.len.ensures.len, c.len-2.ensures.len, c.len-2.ensures.limit)) (subst (λ xs. OnOk c.absorb.result (c.absorb.new.pile ≡ record { blocks = add c.self.inside.pile.blocks xs; reach = c.self.inside.pile.reach })) c.in-Ok.ensures.items c.absorb.ensures.added) c.absorb.ensures.memory c.absorb.ensures.unchanged).unchanged
