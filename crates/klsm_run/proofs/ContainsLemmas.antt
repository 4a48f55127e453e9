-- What a content and its sorted list contain.
use Rattle.std.proofs.Common.{◌≢◌, List, [], ◌∷◌, arith, suc, inl, inr}
use Rattle.std.specs.List.{Contains}
use Rattle.klsm_run.specs.declared.item.Item.{Item}
use Rattle.klsm_run.specs.Content.{sorted}
use Rattle.klsm_run.proofs.ContentLemmas.{absent_if_new}
use Rattle.klsm_run.proofs.LeastLemmas.{Has, all_unsorted, has_unsorted}
use Rattle.klsm_run.proofs.WithoutLemmas.{has_or_new}

-- `Has`, by recursion on the list, says what `Contains` says by index
pub contains_if_has : (x : Item) (c : List Item) → Has x c → Contains c x
contains_if_has x [] has = absurd has
contains_if_has x (y ∷ ys) (inl here) = (0, omega arith, here)
contains_if_has x (y ∷ ys) (inr there) = let rest = contains_if_has x ys there in (suc rest.0, omega (arith, rest.1), rest.2)

pub has_if_contains : (x : Item) (c : List Item) → Contains c x → Has x c
has_if_contains x c within = elim (has_or_new x c) [ inl has ↦ has | inr new ↦ absurd (absent_if_new x c new within) ]

-- the sorted list of a content contains what the content does
pub contains_sorted : (x : Item) (c : List Item) → Contains c x → Contains (sorted c) x
contains_sorted x c within = elim (has_or_new x (sorted c)) [
  | inl has ↦ contains_if_has x (sorted c) has
  | inr new ↦ absurd (absent_if_new x c (all_unsorted (λ y. y ≢ x) c new) within)
]

pub contains_unsorted : (x : Item) (c : List Item) → Contains (sorted c) x → Contains c x
contains_unsorted x c within = contains_if_has x c (has_unsorted x c (has_if_contains x (sorted c) within))
