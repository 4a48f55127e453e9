-- The nodes left are finished one after another.
use Rattle.std.proofs.Common.{◌≡◌, ℕ, ◌+◌, ◌<◌, ◌≤◌, ◌⊎◌, inl, inr, List, [], ◌∷◌, length, get_or, Some, sym, ap, ◌∙◌, subst, arith}
use Rattle.std.specs.List.{AllByRecursion, Contains}
use Rattle.std.proofs.lemmas.Bool.{cases_lt}
use Rattle.std.proofs.lemmas.Option.{slice_get-get_or, get_or_from_slice_get}
use Rattle.std.proofs.Math.Pow.{shr_mono}
use Rattle.klsm_run.specs.declared.item.Item.{Item}
use Rattle.klsm_instance.specs.declared.search.Best.{Best}
use Rattle.klsm_instance.specs.Selections.{Problem, IsFeasible, value_of}
use Rattle.klsm_instance.specs.Nodes.{NoneAbove, level_in, picks_in}
use Rattle.klsm_instance.specs.Answers.{IsAnswer, IsBestAnswer}
use Rattle.klsm_knapsack.specs.Numbers.{value_in}
use Rattle.klsm_knapsack.specs.Work.{Work, IsNodeItem}
use Rattle.klsm_knapsack.specs.Workers.{AreFinished, IsSearched}
use Rattle.klsm_instance.proofs.SearchLemmas.{covers_more}
use Rattle.klsm_knapsack.proofs.CoverageLemmas.{nothing_is_missed}

pub finished_more : (p : Problem) (left : List Item) (n before after : ℕ) (d : Item) → before ≤ after → AreFinished p left n before
    → (IsNodeItem p (get_or left n d) → NoneAbove p (level_in (get_or left n d).load) (picks_in (get_or left n d).load) after) → AreFinished p left (n + 1) after
finished_more p left n before after d le finished last k x lt found node = by_place (cases_lt k n)
  where
    by_place : (k < n) ⊎ (n ≤ k) → NoneAbove p (level_in x.load) (picks_in x.load) after
    by_place (inl less) = covers_more p (level_in x.load) (picks_in x.load) before after le (finished k x less found node)
    by_place (inr not_less) =
        let same : k ≡ n = omega arith in
        let is : get_or left n d ≡ x = ap (λ i. get_or left i d) (sym same) ∙ get_or_from_slice_get left k x d found in
        subst (λ (y : Item). NoneAbove p (level_in y.load) (picks_in y.load) after) is (last (subst (λ (y : Item). IsNodeItem p y) (sym is) node))

pub is_best : (p : Problem) (number : ℕ) (left : List Item) (best : Best) → IsSearched p number left → IsAnswer p best → value_in number ≤ best.value → AreFinished p left (length left) best.value → IsBestAnswer p best
is_best p number left best searched answer kept finished = record { value = answer.value; best_is = record { feasible = answer.feasible; greatest = greatest } }
  where
    below : (works : List Work) → AllByRecursion (λ w. w.found ≤ number) works → AllByRecursion (λ w. value_in w.found ≤ best.value) works
    below [] all = tt
    below (w ∷ works) all = (omega (arith, shr_mono 32 all.0), below works all.1)

    at_each : (x : Item) → Contains left x → IsNodeItem p x → NoneAbove p (level_in x.load) (picks_in x.load) best.value
    at_each x (k, lt, is) node = finished k x lt (slice_get-get_or left k x lt ∙ ap Some is) node

    greatest : (t : ℕ) → IsFeasible p t → value_of p t ≤ value_of p best.picks
    greatest t feasible =
        let le : value_of p t ≤ best.value = nothing_is_missed p searched.works left best.value record {
          root = searched.root;
          none_lost = searched.none_lost;
          have_worked = searched.have_worked;
          found = below searched.works searched.found;
          finished = at_each;
        } t feasible in
        omega (arith, answer.value)
