use Rattle.std.proofs.Common.{◌≡◌, map, All, None}
use Rattle.klsm_parts.specs.Generators.{generator_of}
use Rattle.klsm_knapsack.specs.IncumbentSeats.{IsSeatAt, found_by}
use Rattle.klsm_knapsack.proofs.crew.make_workers.Given as goal

abbrev pub invariant-loop-member : goal.invariant-loop-member
invariant-loop-member g l = record {
  first : IsSeatAt l.incumbent l.first;
  members : map (λ w. w.member) l.crew.items ≡ l.yielded;
  seats : All (λ w. IsSeatAt l.incumbent w.seat × (found_by w.seat ≡ 0) × (w.refused ≡ None)) l.crew.items;
  pickers : All (λ w. w.picker ≡ generator_of w.member.number) l.crew.items;
}
