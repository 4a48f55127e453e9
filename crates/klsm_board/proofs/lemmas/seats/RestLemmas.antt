-- A member between two of its calls.
use Rattle.std.proofs.Common.{◌≡◌, ℕ, ◌*◌, ◌≤◌, List, [], ◌∷◌, length, refl, sym, ap, ◌∙◌, subst, arith}
use Rattle.std.specs.Prelude.{Option, None, Some, IfSome, slice_get, unwrap_or}
use mathlib.Core.HLevel.{⊥_prop}
use Rattle.std.specs.Coded.{×_prop, Unit-prop, le_prop, Coded, Coded-set, code_by, coded_ℕ, coded_list, coded_option, coded×}
use Rattle.std.proofs.Math.Logic.{∥∥₁_elim}
use Rattle.klsm_run.specs.declared.item.Item.{Item}
use Rattle.std.proofs.Math.Nat.{mul-le-mul_left, mul-le-mul_right}
use Rattle.atomic_table.specs.Table.{Me}
use Rattle.klsm_run.specs.declared.limits.TheConstants.{MOST_THREADS}
use Rattle.klsm_parts.specs.Parts.{PartState}
use Rattle.klsm_parts.specs.Flushing.{IsLargest}
use Rattle.klsm_schedules.specs.OwnSteps.{Hand, content_in, hand_of, inserted, deleted}
use Rattle.klsm_schedules.proofs.lemmas.hands.HandLemmas.{found_first}
use Rattle.klsm_schedules.proofs.lemmas.theorems.OwnListLemmas.{own_deletions_are_few}
use Rattle.klsm_board.specs.declared.sizes.Sizes.{Sizes}
use Rattle.klsm_board.specs.declared.rule.View.{View}
use Rattle.klsm_board.specs.declared.slot.Slot.{Slot}
use Rattle.klsm_board.specs.declared.slot.Slot.TheVariants.{Own, Common, Vacant}
use Rattle.klsm_board.specs.Rule.{world_limits}
use Rattle.klsm_board.specs.Steps.{mine}
use Rattle.klsm_board.specs.Seats.{AreSuited, Has, Stands, contents}
use Rattle.klsm_board.specs.Slots.{slot_content, IsSlotOf}
use Rattle.klsm_board.specs.Members.{AreSizes, IsHolding, IsResting, most_deletions}
use Rattle.klsm_board.proofs.lemmas.hands.PossibleLemmas.{possible_of}
use Rattle.klsm_board.proofs.lemmas.seats.CarryLemmas.{none_behind}

-- what a hand with one part has of it
pub content_held : (lock : ℕ) (found : List Item) (hand : Hand) → hand ≡ (lock, found) ∷ [] → content_in hand lock ≡ found
content_held lock found hand is = ap (λ h. content_in h lock) is ∙ ap (λ o. unwrap_or o []) (found_first [] lock found)

-- an item by its four numbers
coded_item : Coded Item
coded_item =
    code_by (ℕ × (ℕ × (ℕ × ℕ))) (coded× coded_ℕ (coded× coded_ℕ (coded× coded_ℕ coded_ℕ))) (λ x. (x.key, (x.stamp.owner, (x.stamp.number, x.load))))
    (λ t. record { key = t.0; stamp = record { owner = t.1.0; number = t.1.1.0 }; load = t.1.1.1 }) (λ x. refl)

-- a copy is of the largest block in one way at most
copies-prop : (copy : Option (List Item)) (blocks : List (List Item)) → IsProp (IfSome copy (λ run. IsLargest run blocks))
copies-prop None blocks = Unit-prop
copies-prop (Some run) blocks = hlevel (le_prop, Coded-set (coded_option (coded_list coded_item)))

-- a slot suits in one way at most
suits-prop : (k p : ℕ) (y : Slot PartState PartState) → IsProp (IsSlotOf k p y)
suits-prop k p (Own home) = hlevel (le_prop, Coded-set coded_ℕ, copies-prop home.copy home.part.blocks)
suits-prop k p (Common shared) = ×_prop (Coded-set coded_ℕ _ _) (Coded-set coded_ℕ _ _)
suits-prop k p Vacant = ⊥_prop

suited-prop : (m : Sizes) (t : ℕ) (xs : List (ℕ × Slot PartState PartState)) → IsProp (AreSuited slot_content IsSlotOf m t xs)
suited-prop m t [] = Unit-prop
suited-prop m t (x ∷ xs) = ×_prop (suits-prop m.k x.0 x.1) (suited-prop m t xs)

module _ (capacity : ℕ) (m : Sizes) (sizes : AreSizes capacity m) (t : ℕ) where
  -- at the start of a call
  pub stands_at_rest : (i d : ℕ) (me : Me (Slot PartState PartState) View) → IsResting m t i d me → Stands slot_content IsSlotOf m t [] me
  stands_at_rest i d me rests = record {
    carries = record {
      acts = rests.acts;
      contents_are = ap (contents slot_content IsSlotOf m t) rests.carries_none;
      suited = subst (AreSuited slot_content IsSlotOf m t) (sym rests.carries_none) tt;
    };
    hand_is = rests.hand_is;
    marked = rests.marked;
  }

  -- and at its end
  pub rests_after : (i d : ℕ) (me : Me (Slot PartState PartState) View) → Has slot_content IsSlotOf m t [] me → length (inserted (mine me.0)) ≡ i → length (deleted (mine me.0)) ≡ d → IsResting m t i d me
  rests_after i d me has counts counts' =
      let carries = has.carries in let reached = has.reached in
      let room : length (inserted (mine me.0)) ≤ m.quota = subst (λ es. length (inserted es) ≤ m.quota) reached.list_is (reached.within t reached.thread) in
      let most : ℕ = m.threads * m.quota in
      let few : length (deleted (mine me.0)) ≤ most = own_deletions_are_few (world_limits m) m.quota t (mine me.0) (possible_of m t me.0 reached) reached.thread in
      let more : ℕ = MOST_THREADS * m.quota in
      let a : most ≤ more = mul-le-mul_right m.quota sizes.threads in
      let b : more ≤ most_deletions = mul-le-mul_left MOST_THREADS sizes.quota in
      record {
        acts = carries.acts;
        carries_none = none_behind slot_content IsSlotOf m t me.1 carries.contents_are;
        hand_is = has.hand_is;
        marked = has.marked;
        insertions_are = counts;
        deletions_are = counts';
        within = omega (arith, room, counts);
        few = omega (arith, few, counts', a, b);
        thread = reached.thread;
        reached = ∣ reached ∣₁;
      }

  -- a member that acquired a part holds it
  pub holds_after : (i d lock count : ℕ) (least : Option Item) (found : List Item) (me : Me (Slot PartState PartState) View) → Has slot_content IsSlotOf m t ((lock, found) ∷ []) me → lock ≤ m.threads
      → count ≡ length found → least ≡ slice_get found 0 → length (inserted (mine me.0)) ≡ i → length (deleted (mine me.0)) ≡ d
      → IsHolding m t i d lock count least me
  holds_after i d lock count least found me has inside counted least_is counts counts' =
      let carries = has.carries in let reached = has.reached in
      let same : content_in (hand_of t (mine me.0)) lock ≡ found = content_held lock found (hand_of t (mine me.0)) has.hand_is in
      record {
        acts = carries.acts;
        contents_are = carries.contents_are ∙ sym has.hand_is;
        suited = ∣ carries.suited ∣₁;
        hand_is = has.hand_is ∙ ap (λ c. (lock, c) ∷ []) (sym same);
        marked = has.marked;
        insertions_are = counts;
        deletions_are = counts';
        reached = ∣ reached ∣₁;
        thread = reached.thread;
        lock_is = inside;
        count_is = counted ∙ ap (λ (z : List Item). length z) (sym same);
        least_is = least_is ∙ ap (λ (z : List Item). slice_get z 0) (sym same);
      }

  -- it stands with that part, and can release it
  pub stands_holding : (i d lock count : ℕ) (least : Option Item) (me : Me (Slot PartState PartState) View) → IsHolding m t i d lock count least me
      → Stands slot_content IsSlotOf m t ((lock, content_in (hand_of t (mine me.0)) lock) ∷ []) me
  stands_holding i d lock count least me holds = record {
    carries = record {
      acts = holds.acts;
      contents_are = holds.contents_are ∙ holds.hand_is;
      suited = ∥∥₁_elim holds.suited (suited-prop m t me.1) (λ x. x);
    };
    hand_is = holds.hand_is;
    marked = holds.marked;
  }
