-- With one thread a deletion skips nothing.
use Rattle.std.proofs.Common.{◌≡◌, ℕ, ◌+◌, ◌<◌, false, List, [], ◌∷◌, ◌++◌, slice_index_or, ap, ◌∙◌, subst, arith}
use Rattle.std.specs.List.{AllByRecursion, Contains, flat_map}
use Rattle.std.proofs.lemmas.List.Elements.{All-contains_itself, recursion_from_All}
use Rattle.klsm_run.specs.declared.item.Item.{Item}
use Rattle.klsm_run.specs.Content.{skipped}
use Rattle.klsm_run.specs.ItemOrder.{is_smaller}
use Rattle.klsm_run.proofs.RankLemmas.{count_none}
use Rattle.klsm_parts.specs.Events.{times, SkipsNoneOf}
use Rattle.klsm_schedules.specs.OwnSteps.{inserted, own_part, shared_part}
use Rattle.klsm_schedules.specs.Worlds.{Limits, World, content_of, live, live_below, steps_of}
use Rattle.klsm_schedules.specs.LawfulWorlds.{IsLawful}
use Rattle.klsm_schedules.proofs.lemmas.counts.EventCountLemmas.{contained_if_counted, times_contained}
use Rattle.klsm_schedules.proofs.lemmas.theorems.StampLemmas.{inserted_bears, inserted_somewhere}

-- where all items are the owner's, and none of the owner's is smaller, none is
none_smaller : (t : ℕ) (x : Item) (c : List Item) → AllByRecursion (λ y. y.stamp.owner ≡ t) c → SkipsNoneOf t c x → AllByRecursion (λ y. is_smaller y x ≡ false) c
none_smaller t x [] owned none = tt
none_smaller t x (y ∷ c) owned none = (none.0 owned.0, none_smaller t x c owned.1 none.1)

-- what holds of each of two lists holds of the second one first
turned_over : (P : Item → Type 0) (c d : List Item) → AllByRecursion P (c ++ d) → AllByRecursion P (d ++ c)
turned_over P c [] all = subst (AllByRecursion P) (Rattle.std.proofs.lemmas.List.append-nil c) all
turned_over P c (y ∷ d) all = (middle c all, turned_over P c d (without_it c all))
  where
    middle : (c : List Item) → AllByRecursion P (c ++ y ∷ d) → P y
    middle [] all = all.0
    middle (z ∷ c) all = middle c all.1

    without_it : (c : List Item) → AllByRecursion P (c ++ y ∷ d) → AllByRecursion P (c ++ d)
    without_it [] all = all.1
    without_it (z ∷ c) all = (all.0, without_it c all.1)

module _ (limits : Limits) (w : World) (lawful : IsLawful limits w) (one : limits.threads ≡ 1) where
  -- each live item is that thread's
  owned : (y : Item) → Contains (live w) y → y.stamp.owner ≡ 0
  owned y within =
      let some = times_contained y (live w) within in
      let counted : 0 < times y (flat_map inserted w.lists) = omega (arith, some, lawful.each_once y) in
      let there = inserted_somewhere w.lists y (contained_if_counted y (flat_map inserted w.lists) counted) in
      let inside : there.0 < limits.threads = omega (arith, there.1, lawful.agreed.lists_are) in
      let bears = inserted_bears limits.k there.0 (steps_of w there.0) (lawful.legal there.0 inside) y there.2 in
      let first : there.0 ≡ 0 = omega (arith, inside, one) in
      bears.owner ∙ first

  pub skips_none : (t : ℕ) (x : Item) → t < limits.threads → SkipsNoneOf t (content_of w (own_part t) ++ content_of w shared_part) x → skipped (live w) x ≡ 0
  skips_none t x thread none =
      let first : t ≡ 0 = omega (arith, thread, one) in
      let two : live w ≡ content_of w 0 ++ content_of w 1 = ap (live_below w) (lawful.agreed.homes_are ∙ ap (λ n. n + 1) one) in
      let all : AllByRecursion (λ (y : Item). y.stamp.owner ≡ 0) (content_of w 0 ++ content_of w 1) = subst (AllByRecursion (λ (y : Item). y.stamp.owner ≡ 0)) two
      (recursion_from_All (λ (y : Item). y.stamp.owner ≡ 0) (live w) (λ k d h. owned (slice_index_or (live w) k d) (All-contains_itself (live w) k d h))) in
      let here : SkipsNoneOf 0 (content_of w 1 ++ content_of w 0) x = subst (λ u. SkipsNoneOf u (content_of w (own_part u) ++ content_of w shared_part) x) first none in
      ap (λ c. skipped c x) two ∙ count_none (λ y. is_smaller y x) (content_of w 0 ++ content_of w 1) (none_smaller 0 x (content_of w 0 ++ content_of w 1) all (turned_over (λ (y : Item). y.stamp.owner ≡ 0 → is_smaller y x ≡ false) (content_of w 1) (content_of w 0) here))
