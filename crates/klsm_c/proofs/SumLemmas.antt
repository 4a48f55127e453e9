-- The members of some slots, taken one slot after another, and the items of their lists.
use Rattle.std.proofs.Common.{◌≡◌, ◌<◌, ◌≤◌, ◌+◌, ℕ, List, [], ◌∷◌, ◌++◌, length, map, slice_index_or, append-nil, append_assoc, length-append, refl, sym, ap, ◌∙◌, arith}
use Rattle.std.specs.Prelude.{take}
use Rattle.std.specs.List.{flat_map}
use Rattle.std.proofs.lemmas.List.{take_more}
use Rattle.std.proofs.lemmas.Grind.{flat_map-append}
use Rattle.klsm_run.specs.declared.item.Item.{Item}
use Rattle.klsm_schedules.specs.declared.step.Entry.{Entry}
use Rattle.klsm_board.specs.Boards.{own_steps}
use Rattle.klsm_owned.specs.declared.owned.OwnedMember.{OwnedMember}
use Rattle.klsm_owned.specs.Owned.{member_of, members_of}
use Rattle.klsm_c.specs.Calls.{count_in}
use Rattle.klsm_c.specs.Closing.{all_steps}
use Rattle.klsm_c.specs.Slots.{one_after_another}
use Rattle.klsm_c.proofs.ListLemmas.{map_behind}

abbrev none : List OwnedMember
none = []

joined_push : (xss : List (List OwnedMember)) (xs : List OwnedMember) → one_after_another (xss ++ xs ∷ []) ≡ one_after_another xss ++ xs
joined_push [] xs = append-nil xs
joined_push (ys ∷ yss) xs = ap (λ zs. ys ++ zs) (joined_push yss xs) ∙ sym (append_assoc ys (one_after_another yss) xs)

-- one slot more
pub joined_more : (hs : List (List OwnedMember)) (i : ℕ) → i < length hs → one_after_another (take (i + 1) hs) ≡ one_after_another (take i hs) ++ slice_index_or hs i none
joined_more hs i h = ap one_after_another (take_more hs i none h) ∙ joined_push (take i hs) (slice_index_or hs i none)

pub members_more : (hs : List (List OwnedMember)) (i : ℕ) → i < length hs
    → members_of (one_after_another (take (i + 1) hs)) ≡ members_of (one_after_another (take i hs)) ++ members_of (slice_index_or hs i none)
members_more hs i h = ap members_of (joined_more hs i h) ∙ map_behind member_of (one_after_another (take i hs)) (slice_index_or hs i none)

steps_behind : (xs ys : List OwnedMember) → all_steps (xs ++ ys) ≡ all_steps xs ++ all_steps ys
steps_behind xs ys = ap (map own_steps) (map_behind member_of xs ys) ∙ map_behind own_steps (members_of xs) (members_of ys)

module _ (f : List Entry → List Item) where
  count_one : (xs : List OwnedMember) → length xs ≤ 1 → length (flat_map f (all_steps xs)) ≡ count_in f xs
  count_one [] few = refl
  count_one (x ∷ []) few = ap length (append-nil (f (own_steps (member_of x))))
  count_one (x ∷ y ∷ ys) few = let no : ⊥ = omega (arith, few) in absurd no

  -- and the items of its member's list
  pub count_more : (hs : List (List OwnedMember)) (i : ℕ) → i < length hs → length (slice_index_or hs i none) ≤ 1
      → length (flat_map f (all_steps (one_after_another (take (i + 1) hs)))) ≡ length (flat_map f (all_steps (one_after_another (take i hs)))) + count_in f (slice_index_or hs i none)
  count_more hs i h few =
      let before = one_after_another (take i hs) in let one = slice_index_or hs i none in
      ap (λ xs. length (flat_map f (all_steps xs))) (joined_more hs i h)
      ∙ (ap (λ es. length (flat_map f es)) (steps_behind before one)
      ∙ (ap length (flat_map-append f (all_steps before) (all_steps one))
      ∙ (length-append (flat_map f (all_steps before)) (flat_map f (all_steps one))
      ∙ ap (λ n. length (flat_map f (all_steps before)) + n) (count_one one few))))
