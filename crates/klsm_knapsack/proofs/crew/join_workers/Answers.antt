use Rattle.std.proofs.Common.{◌∙◌, refl, ◌++◌, ◌≤◌, [], ◌∷◌, sym, ap, arith, List}
use Rattle.std.specs.Option.{option_or}
use Rattle.klsm_run.specs.declared.limits.TheConstants.{PROGRAM_K}
use Rattle.klsm_board.specs.declared.board.Member.{Member}
use Rattle.klsm_knapsack.specs.declared.rule.View.{View}
use Rattle.klsm_knapsack.specs.IncumbentSeats.{found_by}
use Rattle.klsm_knapsack.proofs.CrewLemmas.{first_refused, member_appended, found_too}
use Rattle.klsm_knapsack.proofs.crew.join_workers.Goals as goal

pub loop-worker-preserved : goal.loop-worker-preserved
loop-worker-preserved g c =
    let w = c.in-Some.worker in
    let inv = c.loop-worker.invariant in
    let found = ap (λ (v : View). v.found) c.join.ensures.both in
    let before : found_by c.loop-worker.first ≤ found_by c.join.new.seat = omega (arith, found) in
    let here : found_by w.seat ≤ found_by c.join.new.seat = omega (arith, found) in
    record {
      first = c.join.ensures.same ∙ inv.first;
      members = ◌∙◌ {A = List (Member PROGRAM_K g.row.LEVELS)} c.in-Ok.ensures.items (ap (λ (ms : List (Member PROGRAM_K g.row.LEVELS)). ms ++ w.member ∷ []) inv.members ∙ member_appended c.loop-worker.yielded w);
      room = omega (arith, c.in-Ok.ensures.capacity, inv.room);
      found = found_too c.loop-worker.yielded w (found_by c.loop-worker.first) (found_by c.join.new.seat) before here inv.found;
      refused = c.or-refused.ensures ∙ (ap (λ r. option_or r w.refused) inv.refused ∙ sym (first_refused c.loop-worker.yielded w));
    }

pub loop-worker-init : goal.loop-worker-init
loop-worker-init g c = record {
  first = c.requires.first;
  members = c.requires.empty;
  room = omega arith;
  found = λ k d lt. absurd (omega (arith, lt));
  refused = refl;
}

pub unreachable-unreachable : goal.unreachable-unreachable
unreachable-unreachable g c = c.unreachable.type_inv
