use Rattle.std.proofs.Common.{◌≡◌, ◌+◌, List, [], ◌∷◌, ◌++◌, length, length-append, sym, ap, subst, arith}
use Rattle.std.specs.List.{AllByRecursion}
use Rattle.klsm_instance.specs.declared.thing.Thing.{Thing}
use Rattle.klsm_instance.specs.Selections.{Problem}
use Rattle.klsm_instance.specs.Limits.{IsThing, IsInRange}
use Rattle.klsm_instance.specs.Format.{Give, IsProblemIn}
use Rattle.klsm_rows.proofs.RowLemmas.{first_rows}
use Rattle.klsm_instance.proofs.FormatLemmas.{good, in_range_more}
use Rattle.klsm_instance.proofs.instance.Instance.read.Goals as goal
use Rattle.klsm_instance.proofs.instance.Instance.read.Goals.{in-Ok-new, in-Err-new}

pub loop-before-init : goal.loop-before-init
loop-before-init g c =
    let rem = g.R.Read.remaining in
    let told = c.in-Ok.ensures (rem c.args.reader) c.new-rows.ensures in
    let empty : c.new-things.result.items ≡ [] = c.new-things.ensures.items in
    let none : length c.new-things.result.items ≡ 0 = ap length empty in
    record {
      read = (told.1.0 ∷ [], told.1.1, (told.1.2, empty), omega (arith, none));
      range = record {
        few = omega (arith, none);
        capacity_small = told.0;
        things_are = subst (λ (xs : List Thing). AllByRecursion IsThing xs) (sym empty) tt;
      };
      count = none;
    }

pub returns-in-Ok-None : goal.returns-in-Ok-None
returns-in-Ok-None g c =
    let rem = g.R.Read.remaining in
    let input = rem c.args.reader in
    let inv = c.loop-before.invariant in
    let rows = inv.read.0 in
    let p : Problem = record { capacity = c.in-Ok.capacity; things = c.loop-before.things.items } in
    let long : length rows ≡ c.loop-before.before + 1 = omega (arith, inv.count, inv.read.3) in
    let told = rw c.in-Ok-None.field-0-is at (c.in-Ok-None.ensures input rows p inv.read.1 inv.read.2 inv.count long) in
    elim c.match-new.branch [
      | in-Ok-new w ↦ rw w.result-is (subst (λ (q : Problem). IsProblemIn input q) (sym w.in-Ok-new.ensures) (rows, told, inv.read.2))
      | in-Err-new w ↦ rw w.result-is (rows, first_rows rem input rows c.loop-before.rows.reader inv.read.1, good rows p inv.read.2)
    ]

pub loop-before-preserved : goal.loop-before-preserved
loop-before-preserved g c =
    let rem = g.R.Read.remaining in
    let input = rem c.args.reader in
    let inv = c.loop-before.invariant in
    let rows = inv.read.0 in
    let xs : List Thing = c.loop-before.things.items in
    let x = c.in-Ok-Some.thing in
    let p : Problem = record { capacity = c.in-Ok.capacity; things = xs } in
    let long : length rows ≡ c.loop-before.before + 1 = omega (arith, inv.count, inv.read.3) in
    let told = rw c.in-Ok-Some.field-0-is at (c.in-Ok-Some.ensures input rows p inv.read.1 inv.read.2 inv.count long) in
    let items : c.push.new.self.items ≡ xs ++ x ∷ [] = c.in-Ok-push.ensures.items in
    let longer : length c.push.new.self.items ≡ length xs + 1 = omega (arith, ap length items, length-append xs (x ∷ [])) in
    let back : xs ++ x ∷ [] ≡ c.push.new.self.items = sym items in
    record {
      read = (told.2.0 ∷ rows, told.2.1, subst (λ (ys : List Thing). Give (told.2.0 ∷ rows) record { capacity = c.in-Ok.capacity; things = ys }) back told.2.2, omega (arith, inv.read.3, longer));
      range = subst (λ (ys : List Thing). IsInRange record { capacity = c.in-Ok.capacity; things = ys }) back (in_range_more c.in-Ok.capacity xs x inv.range told.0 (omega (arith, told.1, inv.count)));
      count = omega (arith, longer, inv.count);
    }

pub returns-in_default : goal.returns-in_default
returns-in_default g c =
    let inv = c.loop-before.invariant in
    (inv.read.0, first_rows g.R.Read.remaining (g.R.Read.remaining c.args.reader) inv.read.0 c.loop-before.rows.reader inv.read.1, good inv.read.0 record { capacity = c.in-Ok.capacity; things = c.loop-before.things.items } inv.read.2)
