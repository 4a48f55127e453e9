use Rattle.std.proofs.Common.{◌≡◌, ◌≢◌, ◌+◌, ◌-◌, ◌<◌, ◌∙◌, true, false, [], Some, None, inl, length, take, get_or, refl, sym, ap, subst, rules, arith}
use Rattle.std.specs.List.{slice_get}
use Rattle.std.specs.Ordering.{is_le}
use Rattle.std.proofs.lemmas.List.{length-take, nil_from_length}
use Rattle.std.proofs.lemmas.Option.{slice_get-get_or}
use Rattle.klsm_run.specs.Content.{sorted}
use Rattle.klsm_run.specs.ItemOrder.{item_cmp, is_smaller}
use Rattle.klsm_parts.specs.Least.{least}
use Rattle.klsm_parts.specs.Events.{times}
use Rattle.klsm_world.proofs.lemmas.lists.ConditionLemmas.{other_if_not_equal}
use Rattle.klsm_schedules.proofs.lemmas.lists.EqualLemmas.{same_if_equal}
use Rattle.klsm_schedules.proofs.lemmas.lists.ListLemmas.{no_item}
use Rattle.klsm_world.proofs.lemmas.lists.TakeConditionLemmas.{candidates_taken, take_candidate, candidate_if_taken, take_smaller_candidate, smaller_candidate_if_taken, take_least_own, greatest_if_taken, not_smaller_if_at_most, at_most_if_not_smaller}
use Rattle.klsm_world.proofs.conditions.is_in_reach.Goals as goal

pub returns-in_default : goal.returns-in_default
returns-in_default c =
    let k = c.args.k in let own = c.args.own.now in let shared = c.args.shared.now in let x = c.args.item in
    let none : slice_get (sorted own) 0 ≡ None = ap (λ xs. slice_get xs 0) c.requires.own_sorted ∙ sym c.in_default.ensures.value in
    let candidates = candidates_taken k c.min.result shared c.requires.shared_sorted c.min.ensures in (
      λ has. take_candidate k own shared x none (subst (λ xs. 0 < times x xs) candidates (c.has.ensures.0 has)),
      λ may. c.has.ensures.1 (subst (λ xs. 0 < times x xs) (sym candidates) (candidate_if_taken k own shared x none may)),
    )

pub returns-in-empty : goal.returns-in-empty
returns-in-empty c =
    let own = c.args.own.now in let shared = c.args.shared.now in let x = c.args.item in
    let same : c.in-Some.least.now ≡ x = same_if_equal c.in-Some.least.now x (sym c.if-eq.ensures) in
    let first : slice_get (sorted own) 0 ≡ Some x = ap (λ xs. slice_get xs 0) c.requires.own_sorted ∙ (sym c.in-Some.ensures.value ∙ ap Some same) in
    let none : shared ≡ [] = nil_from_length shared (omega (arith, c.in-empty.len_below, length-take c.min.result shared, c.min.ensures)) in
    (λ goes. inl (none, first), λ may. refl)

pub returns-in-len1-up : goal.returns-in-len1-up
returns-in-len1-up c =
    let k = c.args.k in let own = c.args.own.now in let shared = c.args.shared.now in let x = c.args.item in
    let same : c.in-Some.least.now ≡ x = same_if_equal c.in-Some.least.now x (sym c.if-eq.ensures) in
    let first : slice_get (sorted own) 0 ≡ Some x = ap (λ xs. slice_get xs 0) c.requires.own_sorted ∙ (sym c.in-Some.ensures.value ∙ ap Some same) in
    let candidates = candidates_taken k c.min.result shared c.requires.shared_sorted c.min.ensures in
    let last = length (take c.min.result shared) - 1 in
    let greatest = get_or (take c.min.result shared) last no_item in
    let within : last < length (take c.min.result shared) = omega (arith, c.in-len1-up.len_at_least) in
    let found : slice_get (least (k + 1) shared) last ≡ Some greatest = subst (λ xs. slice_get xs last ≡ Some greatest) candidates (slice_get-get_or (take c.min.result shared) last no_item within) in
    let count : length (least (k + 1) shared) ≡ last + 1 = omega (arith, ap length candidates, c.in-len1-up.len_at_least) in
    let test : c.le.result ≡ is_le (item_cmp x greatest) = search rules in (
      λ low. take_least_own k own shared x greatest last first found (not_smaller_if_at_most x greatest (sym test ∙ low)),
      λ may. test ∙ at_most_if_not_smaller x greatest (greatest_if_taken k own shared x greatest last first found count may),
    )

pub returns-then-lt : goal.returns-then-lt
returns-then-lt c =
    let k = c.args.k in let own = c.args.own.now in let shared = c.args.shared.now in let x = c.args.item in let y = c.in-Some.least.now in
    let other : y ≢ x = other_if_not_equal y x (sym c.if-eq.ensures) in
    let first : slice_get (sorted own) 0 ≡ Some y = ap (λ xs. slice_get xs 0) c.requires.own_sorted ∙ sym c.in-Some.ensures.value in
    let candidates = candidates_taken k c.min.result shared c.requires.shared_sorted c.min.ensures in
    let smaller : is_smaller x y ≡ true = search rules in (
      λ has. take_smaller_candidate k own shared x y first smaller (subst (λ xs. 0 < times x xs) candidates (c.has-then-lt.ensures.0 has)),
      λ may. c.has-then-lt.ensures.1 (subst (λ xs. 0 < times x xs) (sym candidates) (smaller_candidate_if_taken k own shared x y first other may).1),
    )

pub returns-else-lt : goal.returns-else-lt
returns-else-lt c =
    let k = c.args.k in let own = c.args.own.now in let shared = c.args.shared.now in let x = c.args.item in let y = c.in-Some.least.now in
    let other : y ≢ x = other_if_not_equal y x (sym c.if-eq.ensures) in
    let first : slice_get (sorted own) 0 ≡ Some y = ap (λ xs. slice_get xs 0) c.requires.own_sorted ∙ sym c.in-Some.ensures.value in
    let test : c.lt.result ≡ is_smaller x y = search rules in (
      λ less. let bad : true ≡ false = sym less ∙ c.if-lt.false in cc,
      λ may. test ∙ (smaller_candidate_if_taken k own shared x y first other may).0,
    )
