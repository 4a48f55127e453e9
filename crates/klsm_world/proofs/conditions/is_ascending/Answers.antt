use Rattle.std.proofs.Common.{◌≡◌, ◌+◌, ◌-◌, get_or, false, refl, rules, arith, true}
use Rattle.std.specs.Ordering.{is_ge}
use Rattle.klsm_run.specs.ItemOrder.{item_cmp}
use Rattle.klsm_world.proofs.lemmas.lists.RestLemmas.{less_if_not_at_least, not_less_if_at_least, ascending_seen, not_ascending_seen, ascending_at_end}
use Rattle.klsm_schedules.proofs.lemmas.lists.ListLemmas.{no_item}
use Rattle.klsm_world.proofs.conditions.is_ascending.Goals as goal

pub returns-then-ge : goal.returns-then-ge
returns-then-ge c =
    let last : c.loop-next.next - 1 + 1 ≡ c.loop-next.next = omega (arith, c.loop-next.auto.next) in
    let before = get_or c.args.items.now (c.loop-next.next - 1) no_item in
    let at = get_or c.args.items.now c.loop-next.next no_item in
    let above : true ≡ is_ge (item_cmp before at) = search rules in
    (λ bad. cc, λ up. absurd (not_ascending_seen c.args.items.now (c.loop-next.next - 1) c.loop-next.next no_item last c.loop-next-test.true (not_less_if_at_least before at above) c.loop-next.invariant up))

pub returns : goal.returns
returns c =
    let last : c.loop-next.next - 1 + 1 ≡ c.loop-next.next = omega (arith, c.loop-next.auto.next) in
    (λ up. ascending_at_end c.args.items.now (c.loop-next.next - 1) c.loop-next.next last c.loop-next-test.false c.loop-next.invariant, λ up. refl)

pub loop-next-preserved : goal.loop-next-preserved
loop-next-preserved c =
    let last : c.loop-next.next - 1 + 1 ≡ c.loop-next.next = omega (arith, c.loop-next.auto.next) in
    let same : c.loop-next.next + 1 - 1 ≡ c.loop-next.next = omega arith in
    let before = get_or c.args.items.now (c.loop-next.next - 1) no_item in
    let at = get_or c.args.items.now c.loop-next.next no_item in
    let below : false ≡ is_ge (item_cmp before at) = search rules in
    ascending_seen c.args.items.now (c.loop-next.next - 1) c.loop-next.next (c.loop-next.next + 1 - 1) no_item last same c.loop-next-test.true (less_if_not_at_least before at below) c.loop-next.invariant
