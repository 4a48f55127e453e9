-- No feasible selection is missed.
use Rattle.std.proofs.Common.{ℕ, zero, suc, ◌+◌, ◌^◌, ◌<◌, ◌≤◌, ◌⊎◌, inl, inr, List, [], ◌∷◌, length, sym, subst, arith}
use Rattle.std.specs.List.{AllByRecursion, Contains, flat_map}
use Rattle.std.proofs.lemmas.List.Elements.{Contains-append_left, Contains-append_right, Contains-append_cases}
use Rattle.klsm_run.specs.declared.item.Item.{Item}
use Rattle.klsm_instance.specs.Selections.{Problem}
use Rattle.klsm_instance.specs.Nodes.{NoneAbove, level_in, picks_in}
use Rattle.klsm_knapsack.specs.Numbers.{value_in}
use Rattle.klsm_knapsack.specs.Work.{IsNodeItem, HasNode, Work, IsDone, HasWorked, IsWorkedOff, NothingIsMissed, all_inserted}
use Rattle.klsm_instance.proofs.NodeLemmas.{completes_root}
use Rattle.klsm_instance.proofs.SearchLemmas.{covers_both, covers_more}

-- an item of one of the workers' lists
record One (p : Problem) (works : List Work) (value : ℕ) (list : Work → List Item) (x : Item) : Type 0 where
  worker : Work
  has_worked : HasWorked p worker
  below : value_in worker.found ≤ value
  here : Contains (list worker) x
  inserted_by_all : (y : Item) → Contains worker.inserted y → Contains (all_inserted works) y

one_of : (p : Problem) (works : List Work) (value : ℕ) (list : Work → List Item) (x : Item) → AllByRecursion (HasWorked p) works → AllByRecursion (λ w. value_in w.found ≤ value) works → Contains (flat_map list works) x → One p works value list x
one_of p [] value list x worked found (k, lt, e) = absurd (omega arith)
one_of p (w ∷ works) value list x worked found there =
    by_place (Contains-append_cases (list w) (flat_map list works) x there) (λ later. one_of p works value list x worked.1 found.1 later)
  where
    by_place : Contains (list w) x ⊎ Contains (flat_map list works) x → (Contains (flat_map list works) x → One p works value list x) → One p (w ∷ works) value list x
    by_place (inl here) later = record {
      worker = w;
      has_worked = worked.0;
      below = found.0;
      here = here;
      inserted_by_all = λ y is. Contains-append_left w.inserted (all_inserted works) y is;
    }
    by_place (inr rest) later =
        let one = later rest in
        record {
          worker = one.worker;
          has_worked = one.has_worked;
          below = one.below;
          here = one.here;
          inserted_by_all = λ y is. Contains-append_right w.inserted (all_inserted works) y (one.inserted_by_all y is);
        }

-- where items are among others, so is each node of theirs
pub wider : (xs ys : List Item) (level picks : ℕ) → ((y : Item) → Contains xs y → Contains ys y) → HasNode xs level picks → HasNode ys level picks
wider xs ys level picks within (y, there, is_level, is_picks) = (y, within y there, is_level, is_picks)

-- each item inserted is covered, by the number of things that its node leaves free
covered : (p : Problem) (works : List Work) (left : List Item) (value : ℕ) → IsWorkedOff p works left value → (n level picks : ℕ) → length p.things < level + n → HasNode (all_inserted works) level picks → NoneAbove p level picks value
covered p works left value off zero level picks free (x, there, is_level, is_picks) =
    let one = one_of p works value (λ w. w.inserted) x off.have_worked off.found there in
    absurd (omega (arith, (one.has_worked.inserts_nodes x one.here).node.of_things))
covered p works left value off (suc n) level picks free (x, there, is_level, is_picks) =
    let all = all_inserted works in
    let inserter = one_of p works value (λ w. w.inserted) x off.have_worked off.found there in
    let node : IsNodeItem p x = inserter.has_worked.inserts_nodes x inserter.here in
    let below : (q : ℕ) → HasNode all (level + 1) q → NoneAbove p (level + 1) q value = λ q has. covered p works left value off n (level + 1) q (omega arith) has in
    let here : NoneAbove p (level_in x.load) (picks_in x.load) value = elim (off.none_lost x there) [
      | inl gone ↦
          let one = one_of p works value (λ w. w.deleted) x off.have_worked off.found gone in
          by_work p works value x one (one.has_worked.is_done x one.here node) (subst (λ (l : ℕ). (q : ℕ) → HasNode all (l + 1) q → NoneAbove p (l + 1) q value) (sym is_level) below)
      | inr rest ↦ off.finished x rest node
    ] in
    subst (λ (l : ℕ). NoneAbove p l picks value) is_level (subst (λ (q : ℕ). NoneAbove p (level_in x.load) q value) is_picks here)
  where
    by_work : (p : Problem) (works : List Work) (value : ℕ) (x : Item) (one : One p works value (λ w. w.deleted) x) → IsDone p one.worker x → ((q : ℕ) → HasNode (all_inserted works) (level_in x.load + 1) q → NoneAbove p (level_in x.load + 1) q value) → NoneAbove p (level_in x.load) (picks_in x.load) value
    by_work p works value x one (inl closed) below = covers_more p (level_in x.load) (picks_in x.load) (value_in one.worker.found) value one.below closed
    by_work p works value x one (inr split) below =
        covers_both p (level_in x.load) (picks_in x.load) value
        (below (picks_in x.load) (wider one.worker.inserted (all_inserted works) (level_in x.load + 1) (picks_in x.load) one.inserted_by_all split.leaves))
        (λ fits. below (picks_in x.load + 2 ^ level_in x.load) (wider one.worker.inserted (all_inserted works) (level_in x.load + 1) (picks_in x.load + 2 ^ level_in x.load) one.inserted_by_all (split.takes fits)))

pub nothing_is_missed : NothingIsMissed
nothing_is_missed p works left value off s feasible =
    covered p works left value off (suc (length p.things)) 0 0 (omega arith) off.root s (completes_root p s feasible)
