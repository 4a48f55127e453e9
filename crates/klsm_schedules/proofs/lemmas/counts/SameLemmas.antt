-- Contents with equal counts are one content.
use Rattle.std.proofs.Common.{◌≡◌, List, [], ◌∷◌, sym, refl, ap, ◌∙◌, arith}
use Rattle.klsm_run.specs.declared.item.Item.{Item}
use Rattle.klsm_run.specs.ItemOrder.{is_same}
use Rattle.klsm_run.specs.Content.{placed, sorted, without}
use Rattle.klsm_run.proofs.LeastLemmas.{Has}
use Rattle.klsm_run.proofs.RankLemmas.{count_sorted}
use Rattle.klsm_run.proofs.WithoutLemmas.{sorted_back}
use Rattle.klsm_run.proofs.ContainsLemmas.{has_if_contains}
use Rattle.klsm_parts.specs.Events.{times}
use Rattle.klsm_schedules.proofs.lemmas.counts.EventCountLemmas.{times_more, times_itself, contained_if_counted}

-- contents in which each item is as often are one content
pub same_if_counted : (c d : List Item) → ((x : Item) → times x c ≡ times x d) → sorted c ≡ sorted d
same_if_counted [] [] same = refl
same_if_counted [] (y ∷ ys) same = absurd (omega (arith, same y, times_more y y ys, times_itself y))
same_if_counted (y ∷ ys) d same =
    let has : Has y d = has_if_contains y d (contained_if_counted y d (omega (arith, same y, times_more y y ys, times_itself y))) in
    let back : sorted (y ∷ without y d) ≡ sorted d = sorted_back y d has in
    let rest : (x : Item) → times x ys ≡ times x (without y d) = λ x.
    let whole : times x (y ∷ without y d) ≡ times x d =
    sym (count_sorted (is_same x) (y ∷ without y d)) ∙ (ap (times x) back ∙ count_sorted (is_same x) d) in
    omega (arith, whole, same x, times_more x y ys, times_more x y (without y d)) in
    ap (placed y) (same_if_counted ys (without y d) rest) ∙ back
