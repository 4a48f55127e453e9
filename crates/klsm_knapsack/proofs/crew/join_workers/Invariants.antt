use Rattle.std.proofs.Common.{◌≡◌, ◌≤◌, map, All, vec_capacity}
use Rattle.klsm_knapsack.specs.IncumbentSeats.{IsSeatAt, found_by}
use Rattle.klsm_knapsack.specs.Ends.{first_refusal}
use Rattle.klsm_knapsack.proofs.crew.join_workers.Given as goal

abbrev pub invariant-loop-worker : goal.invariant-loop-worker
invariant-loop-worker g l = record {
  first : IsSeatAt l.incumbent l.first;
  members : l.back.items ≡ map (λ w. w.member) l.yielded;
  room : vec_capacity l.fn.back ≤ vec_capacity l.back;
  found : All (λ w. found_by w.seat ≤ found_by l.first) l.yielded;
  refused : l.refused ≡ first_refusal (map (λ w. w.refused) l.yielded);
}
