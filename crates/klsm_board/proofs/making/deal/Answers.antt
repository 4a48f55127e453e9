use Rattle.std.proofs.Common.{arith, ◌≡◌, ◌<◌, ◌+◌, ◌-◌, List, [], ◌∷◌, ◌++◌, length, slice_index_or, sym, ap, ◌∙◌, length-append}
use Rattle.std.proofs.lemmas.Result.{IfOk-from_err}
use lib.ListN.{get_elem?}
use Rattle.klsm_parts.proofs.FitLemmas.{local_fits, shared_fits}
use Rattle.klsm_board.specs.declared.board.Member.{Member}
use Rattle.klsm_board.specs.Boards.{IsOf, own_steps}
use Rattle.klsm_board.proofs.lemmas.table.MakeLemmas.{so_many_fresh, none_at_start, at_new_end, found_at}
use Rattle.klsm_board.proofs.making.deal.Goals as goal

pub next_member-requires : goal.next_member-requires
next_member-requires g c =
    let inv = c.loop-number.invariant in let n = c.loop-number.number in let left = c.args.board.now.sizes.threads - n in
    let test : n < c.args.board.now.sizes.threads = c.loop-number-test.true in
    (search, (local_fits _ c.args.board.now.capacity, (shared_fits _ c.args.board.now.levels, (search, (test, (inv.of_table, (left - 1, so_many_fresh n left ((left - 1) + 1) c.loop-number.seat.me (omega (arith, test)) inv.left)))))))

pub loop-number-preserved : goal.loop-number-preserved
loop-number-preserved g c =
    let inv = c.loop-number.invariant in let n = c.loop-number.number in let left = c.args.board.now.sizes.threads - n in
    let test : n < c.args.board.now.sizes.threads = c.loop-number-test.true in
    let next = c.next_member.result in let outcome = c.next_member.ensures in
    let items : c.push.new.self.items ≡ c.loop-number.members.items ++ next ∷ [] = c.in_ok-push.ensures.items in
    record {
      of_table = outcome.table ∙ inv.of_table;
      left = so_many_fresh (n + 1) (left - 1) (c.args.board.now.sizes.threads - (n + 1)) c.next_member.new.seat.me (omega (arith, test))
          (outcome.seat (left - 1) (so_many_fresh n left ((left - 1) + 1) c.loop-number.seat.me (omega (arith, test)) inv.left));
      count = ap (λ (z : List (Member g.row.CAP g.row.LEVELS)). length z) items ∙ (length-append c.loop-number.members.items (next ∷ []) ∙ ap (λ z. z + 1) inv.count);
      members = λ i member at. at_new_end c.loop-number.members.items next n inv.count (λ j z. (z.number ≡ j) × IsOf z c.args.board.now × (own_steps z ≡ [])) inv.members outcome.member i member
          (ap (λ (z : List (Member g.row.CAP g.row.LEVELS)). get_elem? z i) (sym items) ∙ at);
    }

pub returns-clause-of : goal.returns-clause-of
returns-clause-of g c k d h =
    let members = c.loop-number.members.items in
    (c.loop-number.invariant.members k (slice_index_or members k d) (found_at members k d h)).1

pub returns-clause-crew : goal.returns-clause-crew
returns-clause-crew g c =
    let inv = c.loop-number.invariant in
    record {
      are = record {
        of = λ i member at. (inv.members i member at).1;
        many = omega (arith, inv.count, c.loop-number-test.false, c.loop-number.auto.number-end);
        numbered = λ i member at. (inv.members i member at).0;
      };
      new = λ i member at. (inv.members i member at).2;
    }

pub drop-seat-requires-room-S-Destruct : goal.drop-seat-requires-room-S-Destruct
drop-seat-requires-room-S-Destruct g c κs = shared_fits _ c.args.board.now.levels

pub drop-seat-requires-in_err-push-room-S-Destruct : goal.drop-seat-requires-in_err-push-room-S-Destruct
drop-seat-requires-in_err-push-room-S-Destruct g c κs = shared_fits _ c.args.board.now.levels

pub drop-seat-requires-2-room-S-Destruct : goal.drop-seat-requires-2-room-S-Destruct
drop-seat-requires-2-room-S-Destruct g c κs = shared_fits _ c.args.board.now.levels

pub loop-number-init : goal.loop-number-init
loop-number-init g c =
    let none = c.in_ok-members.ensures.items in
    record { of_table = c.requires.table; left = so_many_fresh 0 c.args.board.now.sizes.threads (c.args.board.now.sizes.threads - 0) c.args.seat.me (omega arith) c.requires.view; count = ap (λ z. length z) none; members = λ i member at. absurd (none_at_start c.in_ok-members.members.items none i member at) }

pub returns-in_err-members-clause-of : goal.returns-in_err-members-clause-of
returns-in_err-members-clause-of g c = IfOk-from_err c.from_residual.result _ c.from_residual.ensures.0

pub returns-in_err-members-clause-count : goal.returns-in_err-members-clause-count
returns-in_err-members-clause-count g c = IfOk-from_err c.from_residual.result _ c.from_residual.ensures.0

pub returns-in_err-members-clause-crew : goal.returns-in_err-members-clause-crew
returns-in_err-members-clause-crew g c = IfOk-from_err c.from_residual.result _ c.from_residual.ensures.0

pub returns-in_err-push-clause-of : goal.returns-in_err-push-clause-of
returns-in_err-push-clause-of g c = IfOk-from_err c.from_residual-in_err-push.result _ c.from_residual-in_err-push.ensures.0

pub returns-in_err-push-clause-count : goal.returns-in_err-push-clause-count
returns-in_err-push-clause-count g c = IfOk-from_err c.from_residual-in_err-push.result _ c.from_residual-in_err-push.ensures.0

pub returns-in_err-push-clause-crew : goal.returns-in_err-push-clause-crew
returns-in_err-push-clause-crew g c = IfOk-from_err c.from_residual-in_err-push.result _ c.from_residual-in_err-push.ensures.0

pub returns-clause-count : goal.returns-clause-count
returns-clause-count g c = omega (arith, c.loop-number.invariant.count, c.loop-number-test.false, c.loop-number.auto.number-end)
