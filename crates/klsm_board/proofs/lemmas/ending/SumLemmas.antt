-- How many items the members of a board inserted and deleted.
use Rattle.std.proofs.Common.{◌≡◌, ℕ, ◌+◌, ◌*◌, ◌<◌, ◌≤◌, List, length, add-one, sym, ap, subst, ◌∙◌, arith, length-append}
use Rattle.std.specs.List.{flat_map}
use mathlib.Core.Logic.{dite}
use native.Mathlib.Decide.{ℕ_discrete}
use Rattle.klsm_run.specs.declared.item.Item.{Item}
use Rattle.klsm_schedules.specs.declared.step.Entry.{Entry}
use Rattle.klsm_schedules.specs.OwnSteps.{inserted, deleted}
use Rattle.klsm_schedules.proofs.lemmas.counts.ItemGrowthLemmas.{flat_map_more}
use Rattle.klsm_board.specs.declared.board.Member.{Member}
use Rattle.klsm_board.specs.Members.{most_insertions, most_deletions}
use Rattle.klsm_board.specs.Finishing.{HasMember, lists_of, steps_among}

module _ {CAP LEVELS : ℕ} where
  -- the numbers below n have members, whose lists have so many insertions and deletions
  pub record AreSummed (members : List (Member CAP LEVELS)) (n insertions deletions : ℕ) : Type 0 where
    pub all : (t : ℕ) → t < n → HasMember members t
    pub insertions_are : insertions ≡ length (flat_map inserted (lists_of n members))
    pub deletions_are : deletions ≡ length (flat_map deleted (lists_of n members))
    pub few_insertions : insertions ≤ n * most_insertions
    pub few_deletions : deletions ≤ n * most_deletions

  -- one list more adds what it has
  more : (f : List Entry → List Item) (members : List (Member CAP LEVELS)) (n : ℕ)
      → length (flat_map f (lists_of (n + 1) members)) ≡ length (flat_map f (lists_of n members)) + length (f (steps_among members n))
  more f members n =
      ap (λ i. length (flat_map f (lists_of i members))) (add-one n)
      ∙ (ap length (flat_map_more f (lists_of n members) (steps_among members n)) ∙ length-append (flat_map f (lists_of n members)) (f (steps_among members n)))

  -- one member more is counted
  pub one_more : (members : List (Member CAP LEVELS)) (n insertions deletions i d : ℕ) → AreSummed members n insertions deletions → HasMember members n
      → i ≡ length (inserted (steps_among members n)) → d ≡ length (deleted (steps_among members n)) → i ≤ most_insertions → d ≤ most_deletions
      → AreSummed members (n + 1) (insertions + i) (deletions + d)
  one_more members n insertions deletions i d summed there is js few fews =
      let a = more inserted members n in let b = more deleted members n in
      record {
        all = λ t below. dite (ℕ_discrete t n) (λ here. subst (HasMember members) (sym here) there) (λ other. summed.all t (omega (arith, below, other)));
        insertions_are = omega (arith, a, is, summed.insertions_are);
        deletions_are = omega (arith, b, js, summed.deletions_are);
        few_insertions = omega (arith, summed.few_insertions, few);
        few_deletions = omega (arith, summed.few_deletions, fews);
      }
