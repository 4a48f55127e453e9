use Rattle.std.proofs.Common.{rules, ◌≡◌, ◌+◌, ◌<◌, ◌≤◌, length, sym, ap, subst, arith}
use Rattle.std.specs.Prelude.{OnOk, IsErrAnd}
use Rattle.klsm_lsm.specs.declared.errors.LsmError.TheVariants.{Full}
use Rattle.klsm_run.specs.Content.{sorted, ShareNone}
use Rattle.klsm_run.proofs.SortedLemmas.{length_sorted}
use Rattle.klsm_lsm.specs.Adding.{add}
use Rattle.klsm_run.specs.Capacity.{heap_room}
use Rattle.klsm_lsm.specs.Limit.{limit_of}
use Rattle.klsm_lsm.specs.Lsm.{content}
use Rattle.klsm_lsm.proofs.JoinLemmas.{sharing_none_sorted}
use Rattle.klsm_parts.proofs.SharedLemmas.{put_in, apart_of}
use Rattle.klsm_parts.proofs.shared.Shared.absorb_all.Goals as goal

pub absorb-requires : goal.absorb-requires
absorb-requires g c =
    let size : length (content c.self.inside.pile.blocks) + length c.in-Ok.copy.items ≤ limit_of g.row.LEVELS heap_room = omega (arith, c.if-len-limit.false, c.limit.ensures, c.len.ensures.len, c.len-2.ensures.len, c.len-2.ensures.limit, ap length c.in-Ok.ensures, length_sorted (content c.args.others.now)) in
    (search rules, (omega (arith, c.requires.some, ap length c.in-Ok.ensures, length_sorted (content c.args.others.now)), ((sharing_none_sorted (content c.self.inside.pile.blocks) (content c.args.others.now) _ (apart_of c.self.inside.k c.self.inside.pile _ _ c.self.view_is c.requires.apart) c.in-Ok.ensures), size)))

pub invariant_of-self : goal.invariant_of-self
invariant_of-self g c = (put_in c.absorb.result g.row.LEVELS c.self.inside.k c.self.inside.pile c.absorb.new.pile c.args.self.now (sorted (content c.args.others.now)) c.self.invariant c.self.view_is (omega (arith, c.if-len-limit.false, c.limit.ensures, c.len.ensures.len, c.len-2.ensures.len, c.len-2.ensures.limit, length_sorted (content c.args.others.now))) (subst (λ xs. OnOk c.absorb.result (c.absorb.new.pile ≡ record { blocks = add c.self.inside.pile.blocks xs; reach = c.self.inside.pile.reach })) c.in-Ok.ensures c.absorb.ensures.added) c.absorb.ensures.memory c.absorb.ensures.unchanged).shared

pub returns-in-Ok-clause-added : goal.returns-in-Ok-clause-added
returns-in-Ok-clause-added g c = (put_in c.absorb.result g.row.LEVELS c.self.inside.k c.self.inside.pile c.absorb.new.pile c.args.self.now (sorted (content c.args.others.now)) c.self.invariant c.self.view_is (omega (arith, c.if-len-limit.false, c.limit.ensures, c.len.ensures.len, c.len-2.ensures.len, c.len-2.ensures.limit, length_sorted (content c.args.others.now))) (subst (λ xs. OnOk c.absorb.result (c.absorb.new.pile ≡ record { blocks = add c.self.inside.pile.blocks xs; reach = c.self.inside.pile.reach })) c.in-Ok.ensures c.absorb.ensures.added) c.absorb.ensures.memory c.absorb.ensures.unchanged).added

pub returns-in-Ok-clause-full : goal.returns-in-Ok-clause-full
returns-in-Ok-clause-full g c =
    subst (λ n. (IsErrAnd c.absorb.result (λ why. why ≡ Full) → limit_of g.row.LEVELS heap_room < length (content c.args.self.now.blocks) + n) × (limit_of g.row.LEVELS heap_room < length (content c.args.self.now.blocks) + n → IsErrAnd c.absorb.result (λ why. why ≡ Full))) (length_sorted (content c.args.others.now))
    (put_in c.absorb.result g.row.LEVELS c.self.inside.k c.self.inside.pile c.absorb.new.pile c.args.self.now (sorted (content c.args.others.now)) c.self.invariant c.self.view_is (omega (arith, c.if-len-limit.false, c.limit.ensures, c.len.ensures.len, c.len-2.ensures.len, c.len-2.ensures.limit, length_sorted (content c.args.others.now))) (subst (λ xs. OnOk c.absorb.result (c.absorb.new.pile ≡ record { blocks = add c.self.inside.pile.blocks xs; reach = c.self.inside.pile.reach })) c.in-Ok.ensures c.absorb.ensures.added) c.absorb.ensures.memory c.absorb.ensures.unchanged).full

pub returns-in-Ok-clause-unchanged : goal.returns-in-Ok-clause-unchanged
returns-in-Ok-clause-unchanged g c = (put_in c.absorb.result g.row.LEVELS c.self.inside.k c.self.inside.pile c.absorb.new.pile c.args.self.now (sorted (content c.args.others.now)) c.self.invariant c.self.view_is (omega (arith, c.if-len-limit.false, c.limit.ensures, c.len.ensures.len, c.len-2.ensures.len, c.len-2.ensures.limit, length_sorted (content c.args.others.now))) (subst (λ xs. OnOk c.absorb.result (c.absorb.new.pile ≡ record { blocks = add c.self.inside.pile.blocks xs; reach = c.self.inside.pile.reach })) c.in-Ok.ensures c.absorb.ensures.added) c.absorb.ensures.memory c.absorb.ensures.unchanged).unchanged
