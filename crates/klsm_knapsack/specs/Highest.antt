-- The rule of the incumbent's word, and what each step on it tells.
use Rattle.std.specs.Prelude.{ℕ, ◌≡◌, ◌≤◌, ◌⊎◌, ◌++◌, List, [], ◌∷◌, length, slice_index, max}
use Rattle.std.specs.List.{AllByRecursion, Contains}
use mathlib.Core.Option.{some}
use lib.ListN.{get_elem?}
use Rattle.atomic_table.specs.Table.{State, Me, Step}
use Rattle.klsm_knapsack.specs.declared.rule.View.{View}
use Rattle.klsm_instance.specs.Selections.{Problem}
use Rattle.klsm_knapsack.specs.Numbers.{IsIncumbent}

abbrev pub nothing_yet : View
nothing_yet = record { raised = []; found = 0 }

-- what two seats know
abbrev pub together : View → View → View
together v w = record { raised = v.raised ++ w.raised; found = max v.found w.found }

-- some seat raised the word by this number
abbrev pub WasRaisedBy : List View → ℕ → Type 0
WasRaisedBy views n = (seat : ℕ) × (v : View) × (get_elem? views seat ≡ some v)
    × Contains v.raised n

-- what a seat knows, where the word has this number
pub record IsSeen (p : Problem) (word : ℕ) (v : View) : Type 0 where
  -- each number that it raised the word by is the value and the picks of a feasible selection, and
  -- none is above the word
  pub raised : AllByRecursion (λ n. (n ≤ word) × IsIncumbent p n) v.raised
  -- nor is a number that it found there
  pub found : v.found ≤ word

-- the word is the greatest of the numbers that the seats raised it by, or its first value 0, and
-- never below a number that a seat found there
pub record IsHighest {S : Type 0} (p : Problem) (s : State S View) : Type 0 where
  pub one_word : length s.words ≡ 1
  pub is_one : (slice_index s.words 0 ≡ 0) ⊎ WasRaisedBy s.views (slice_index s.words 0)
  pub seen : (seat : ℕ) (v : View) → get_elem? s.views seat ≡ some v
      → IsSeen p (slice_index s.words 0) v

module _ {S : Type 0} where
  -- a load finds the value and the picks of a feasible selection, and notes the number
  abbrev pub finds : Problem → Step S → Me S View → ℕ → Me S View → Type 0
  finds p st me n me' = (me.0.found ≤ n) × IsIncumbent p n
      × (me' ≡ (record { raised = me.0.raised; found = n }, me.1))

  -- a fetch-max finds such a number too, and notes the one that it raises the word by, and the one that
  -- the word then has
  abbrev pub raises : Problem → Step S → Me S View → ℕ → Me S View → Type 0
  raises p st me n me' = (me.0.found ≤ n) × IsIncumbent p n
      × (me' ≡ (record { raised = st.first ∷ me.0.raised; found = max n st.first }, me.1))

-- the word had this number in a state under the rule in which this seat knew this
abbrev pub LastSeen : (S : Type 0) → Problem → ℕ → View → ℕ → Type 0
LastSeen S p seat v n = (s : State S View) × IsHighest p s × (get_elem? s.views seat ≡ some v)
    × (slice_index s.words 0 ≡ n)
