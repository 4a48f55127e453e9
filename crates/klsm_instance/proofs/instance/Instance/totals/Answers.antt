use Rattle.std.proofs.Common.{◌≡◌, ◌+◌, ◌*◌, ◌%◌, ◌≤◌, ◌<◌, ℕ, drop, length, arith, get_or, List}
use Rattle.std.specs.List.{AllByRecursion}
use Rattle.std.proofs.Math.Nat.{mul-le-mul_left}
use Rattle.klsm_instance.specs.declared.thing.Thing.{Thing}
use Rattle.klsm_instance.specs.Selections.{sum_selected}
use Rattle.klsm_instance.specs.Limits.{IsThing}
use Rattle.klsm_instance.proofs.BoundLemmas.{all_weaker}
use Rattle.klsm_instance.proofs.SumLemmas.{sum_next, sum_all, sum_small}
use Rattle.klsm_instance.proofs.instance.Instance.totals.Goals as goal

few : (m : ℕ) (f : Thing → ℕ) (xs : List Thing) (i s t : ℕ) (d : Thing) → (all : AllByRecursion (λ x. f x ≤ m) xs) → length xs ≤ 32 → i < length xs
    → (v : ℕ) → v + sum_selected f (drop i xs) s ≡ sum_selected f xs t → v + s % 2 * f (get_or xs i d) ≤ m * 32
few m f xs i s t d all short lt v same =
    let short_of : m * length xs ≤ m * 32 = mul-le-mul_left m short in
    omega (arith, sum_next f xs i s d lt, sum_all f xs t, sum_small f m xs all)

pub overflow_add-totals : goal.overflow_add-totals
overflow_add-totals c =
    let range = rw (← c.deref-thing-items.ensures.value) at c.self.invariant.in_range in
    let d : Thing = record { value = 0; weight = 0 } in
    let le = few 1000000 (λ x. x.value) c.deref-thing-items.result.now c.loop-thing.thing-index c.loop-thing.rest c.args.picks d (all_weaker IsThing (λ x. x.value ≤ 1000000) (λ x thing. thing.value_small) c.deref-thing-items.result.now range.things_are) range.few c.loop-thing-test.true c.loop-thing.totals.value c.loop-thing.invariant.value in
    omega (arith, le)

pub overflow_add-totals-in-loop-thing : goal.overflow_add-totals-in-loop-thing
overflow_add-totals-in-loop-thing c =
    let range = rw (← c.deref-thing-items.ensures.value) at c.self.invariant.in_range in
    let d : Thing = record { value = 0; weight = 0 } in
    let le = few 1000000000 (λ x. x.weight) c.deref-thing-items.result.now c.loop-thing.thing-index c.loop-thing.rest c.args.picks d (all_weaker IsThing (λ x. x.weight ≤ 1000000000) (λ x thing. thing.weight_small) c.deref-thing-items.result.now range.things_are) range.few c.loop-thing-test.true c.loop-thing.totals.weight c.loop-thing.invariant.weight in
    omega (arith, le)

pub loop-thing-preserved : goal.loop-thing-preserved
loop-thing-preserved c =
    let xs : List Thing = c.deref-thing-items.result.now in
    let i : ℕ = c.loop-thing.thing-index in
    let s : ℕ = c.loop-thing.rest in
    let d : Thing = record { value = 0; weight = 0 } in
    record {
      value = omega (arith, sum_next (λ x. x.value) xs i s d c.loop-thing-test.true, c.loop-thing.invariant.value);
      weight = omega (arith, sum_next (λ x. x.weight) xs i s d c.loop-thing-test.true, c.loop-thing.invariant.weight);
    }
