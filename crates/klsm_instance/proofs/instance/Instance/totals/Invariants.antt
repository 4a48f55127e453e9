use Rattle.std.proofs.Common.{◌≡◌, ◌+◌, drop}
use Rattle.klsm_instance.specs.Selections.{sum_selected}
use Rattle.klsm_instance.proofs.instance.Instance.totals.Given as goal

abbrev pub invariant-loop-thing : goal.invariant-loop-thing
invariant-loop-thing l = record {
  value : l.totals.value + sum_selected (λ x. x.value) (drop l.thing-index l.thing-items) l.rest ≡ sum_selected (λ x. x.value) l.thing-items l.picks;
  weight : l.totals.weight + sum_selected (λ x. x.weight) (drop l.thing-index l.thing-items) l.rest ≡ sum_selected (λ x. x.weight) l.thing-items l.picks;
}
