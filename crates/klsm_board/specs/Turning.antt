-- Lists of several threads, of which one comes to the front.
use Rattle.std.specs.Prelude.{ℕ, zero, suc, ◌≤◌, ◌==◌, if◌then◌else◌, List, [], ◌∷◌, ◌++◌}
use Rattle.klsm_schedules.specs.declared.step.Entry.{Entry}
use Rattle.klsm_board.specs.declared.rule.Own.{Own}
use Rattle.klsm_board.specs.Rule.{list_count}

-- thread t's list among these, and none where it has none there
abbrev pub steps_known : List Own → ℕ → List Entry
steps_known [] t = []
steps_known (o ∷ os) t = if o.thread == t then o.steps else steps_known os t

-- the lists of threads 0 to n - 1, in the order of their numbers
abbrev pub lists_known : ℕ → List Own → List (List Entry)
lists_known zero os = []
lists_known (suc n) os = lists_known n os ++ steps_known os n ∷ []

-- thread t has a list among these
abbrev pub HasList : List Own → ℕ → Type 0
HasList os t = 1 ≤ list_count t os

-- thread t's list comes to the front
abbrev pub picked : ℕ → List Own → List Own
picked t [] = []
picked t (o ∷ os) = if o.thread == t then o ∷ [] else picked t os

abbrev pub left_behind : ℕ → List Own → List Own
left_behind t [] = []
left_behind t (o ∷ os) = if o.thread == t then os else o ∷ left_behind t os

abbrev pub turned : ℕ → List Own → List Own
turned t os = picked t os ++ left_behind t os
