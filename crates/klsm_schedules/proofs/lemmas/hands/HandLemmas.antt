-- Which parts a hand holds after one part's content changed, after a part was released, and after an event.
use Rattle.std.proofs.Common.{ℕ, ◌≡◌, ◌≢◌, eqb, cond, List, [], ◌∷◌, Option, Some, None, refl, sym, ap, ◌∙◌, subst, inl, inr}
use Rattle.std.proofs.lemmas.Bool.{cases_eq, eq-eqb, ne_eqb}
use Rattle.std.proofs.lemmas.Option.{none-some, same_Some}
use Rattle.klsm_run.specs.declared.item.Item.{Item}
use Rattle.klsm_parts.specs.Events.{own_after_put, own_after_flush, shared_after_flush, own_after_take, shared_after_take, own_after_early, own_after_spy, victim_after_spy, own_after_refill, shared_after_refill}
use Rattle.klsm_parts.specs.Stealing.{own_after_steal, victim_after_steal}
use Rattle.klsm_schedules.specs.declared.step.Event.{Event}
use Rattle.klsm_schedules.specs.declared.step.Event.TheVariants.{Put, Flush, Take, Early, Nothing, Spy, Refill, Steal, Share}
use Rattle.klsm_parts.specs.Sharing.{own_after_share, shared_after_share}
use Rattle.klsm_schedules.specs.OwnSteps.{Hand, Holds, found_in, content_in, changed, without_part, after_event, own_part, shared_part}

-- by cases on whether two parts are one
pub by_parts : {X : Type 0} (p q : ℕ) (x y : X) (F : X → Type 0) → (p ≡ q → F x) → (p ≢ q → F y) → F (cond (eqb p q) x y)
by_parts p q x y F hit miss = elim (cases_eq p q) [
  | inl same ↦ subst (λ b. F (cond b x y)) (sym (eq-eqb p q same)) (hit same)
  | inr differ ↦ subst (λ b. F (cond b x y)) (sym (ne_eqb p q differ)) (miss differ)
]

-- a choice between two parts that are one, or that differ
pub choice_hit : {X : Type 0} (p q : ℕ) (x y : X) → p ≡ q → cond (eqb p q) x y ≡ x
choice_hit p q x y same = ap (λ b. cond b x y) (eq-eqb p q same)

pub choice_miss : {X : Type 0} (p q : ℕ) (x y : X) → p ≢ q → cond (eqb p q) x y ≡ y
choice_miss p q x y differ = ap (λ b. cond b x y) (ne_eqb p q differ)

-- a part last taken is found with the content recorded
pub found_first : (hand : Hand) (p : ℕ) (c : List Item) → found_in ((p, c) ∷ hand) p ≡ Some c
found_first hand p c = choice_hit p p (Some c) (found_in hand p) refl

-- another part is found as it was before one was taken
pub found_behind : (hand : Hand) (p q : ℕ) (c : List Item) → q ≢ p → found_in ((p, c) ∷ hand) q ≡ found_in hand q
found_behind hand p q c other = choice_miss p q (Some c) (found_in hand q) (λ same. other (sym same))

-- a part that was held has the new content
pub found_changed : (hand : Hand) (p : ℕ) (c d : List Item) → Holds hand p d → Holds (changed hand p c) p c
found_changed [] p c d found = absurd (none-some d found)
found_changed (held ∷ hand) p c d found = by_parts held.0 p ((p, c) ∷ hand) (held ∷ changed hand p c) (λ z. found_in z p ≡ Some c)
    (λ same. choice_hit p p (Some c) (found_in hand p) refl)
    (λ differ. choice_miss held.0 p (Some held.1) (found_in (changed hand p c) p) differ
    ∙ found_changed hand p c d (sym (choice_miss held.0 p (Some held.1) (found_in hand p) differ) ∙ found))

-- another part is found as before
pub found_elsewhere : (hand : Hand) (p q : ℕ) (c : List Item) → q ≢ p → found_in (changed hand p c) q ≡ found_in hand q
found_elsewhere [] p q c other = refl
found_elsewhere (held ∷ hand) p q c other =
    by_parts held.0 p ((p, c) ∷ hand) (held ∷ changed hand p c) (λ z. found_in z q ≡ cond (eqb held.0 q) (Some held.1) (found_in hand q))
    (λ same. choice_miss p q (Some c) (found_in hand q) (λ e. other (sym e))
    ∙ sym (choice_miss held.0 q (Some held.1) (found_in hand q) (λ e. other (sym e ∙ same))))
    (λ differ. ap (λ z. cond (eqb held.0 q) (Some held.1) z) (found_elsewhere hand p q c other))

-- a part that is not held is not held after a change
pub not_found_changed : (hand : Hand) (p q : ℕ) (c : List Item) → found_in hand q ≡ None → found_in (changed hand p c) q ≡ None
not_found_changed [] p q c absent = refl
not_found_changed (held ∷ hand) p q c absent = elim (cases_eq held.0 q) [
  | inl here ↦ absurd (none-some held.1 (sym absent ∙ choice_hit held.0 q (Some held.1) (found_in hand q) here))
  | inr elsewhere ↦ by_parts held.0 p ((p, c) ∷ hand) (held ∷ changed hand p c) (λ z. found_in z q ≡ None)
      (λ same. choice_miss p q (Some c) (found_in hand q) (λ e. elsewhere (same ∙ e)) ∙ rest elsewhere)
      (λ differ. choice_miss held.0 q (Some held.1) (found_in (changed hand p c) q) elsewhere ∙ not_found_changed hand p q c (rest elsewhere))
]
  where
    rest : held.0 ≢ q → found_in hand q ≡ None
    rest elsewhere = sym (choice_miss held.0 q (Some held.1) (found_in hand q) elsewhere) ∙ absent

by_found : (hand : Hand) (p : ℕ) (P : Type 0) → (found_in hand p ≡ None → P) → ((c : List Item) → Holds hand p c → P) → P
by_found hand p P absent present = cases (found_in hand p) refl
  where
    cases : (o : Option (List Item)) → found_in hand p ≡ o → P
    cases None found = absent found
    cases (Some c) found = present c found

-- a part that is held after a change was held before
pub held_before_change : (hand : Hand) (p q : ℕ) (c d : List Item) → Holds (changed hand p c) q d → (e : List Item) × Holds hand q e
held_before_change hand p q c d found = by_found hand q ((e : List Item) × Holds hand q e)
    (λ absent. absurd (none-some d (sym (not_found_changed hand p q c absent) ∙ found)))
    (λ e before. (e, before))

-- a part that is held is held after a change
pub held_after_change : (hand : Hand) (p q : ℕ) (c e : List Item) → Holds hand q e → (d : List Item) × Holds (changed hand p c) q d
held_after_change hand p q c e found = elim (cases_eq q p) [
  | inl same ↦ (c, subst (λ z. Holds hand z e → Holds (changed hand p c) z c) (sym same) (found_changed hand p c e) found)
  | inr other ↦ (e, found_elsewhere hand p q c other ∙ found)
]

-- what a part has after a change of it, where it is held then
pub held_changed : (hand : Hand) (p : ℕ) (c d : List Item) → Holds (changed hand p c) p d → c ≡ d
held_changed hand p c d found =
    let before = held_before_change hand p p c d found in
    same_Some c d (sym (found_changed hand p c before.0 before.1) ∙ found)

-- a part that was released is not held
pub without_part_not_found : (hand : Hand) (p : ℕ) → found_in (without_part hand p) p ≡ None
without_part_not_found [] p = refl
without_part_not_found (held ∷ hand) p = by_parts held.0 p (without_part hand p) (held ∷ without_part hand p) (λ z. found_in z p ≡ None)
    (λ same. without_part_not_found hand p)
    (λ differ. choice_miss held.0 p (Some held.1) (found_in (without_part hand p) p) differ ∙ without_part_not_found hand p)

-- another part is found as it was before one was released
pub without_part_elsewhere : (hand : Hand) (p q : ℕ) → q ≢ p → found_in (without_part hand p) q ≡ found_in hand q
without_part_elsewhere [] p q other = refl
without_part_elsewhere (held ∷ hand) p q other =
    by_parts held.0 p (without_part hand p) (held ∷ without_part hand p) (λ z. found_in z q ≡ cond (eqb held.0 q) (Some held.1) (found_in hand q))
    (λ same. without_part_elsewhere hand p q other ∙ sym (choice_miss held.0 q (Some held.1) (found_in hand q) (λ e. other (sym e ∙ same))))
    (λ differ. ap (λ z. cond (eqb held.0 q) (Some held.1) z) (without_part_elsewhere hand p q other))

-- a part that is held after two changes was held before, and the other way round
pub held_before_two : (hand : Hand) (p q r : ℕ) (c e d : List Item) → Holds (changed (changed hand p c) q e) r d → (f : List Item) × Holds hand r f
held_before_two hand p q r c e d found =
    let between = held_before_change (changed hand p c) q r e d found in
    held_before_change hand p r c between.0 between.1

pub held_after_two : (hand : Hand) (p q r : ℕ) (c e f : List Item) → Holds hand r f → (d : List Item) × Holds (changed (changed hand p c) q e) r d
held_after_two hand p q r c e f found =
    let between = held_after_change hand p r c f found in
    held_after_change (changed hand p c) q r e between.0 between.1

-- what is held after an event was held before
pub held_before_event : (t : ℕ) (hand : Hand) (e : Event) (q : ℕ) (d : List Item) → Holds (after_event t hand e) q d → (c : List Item) × Holds hand q c
held_before_event t hand (Put x) q d found = held_before_change hand (own_part t) q (own_after_put (content_in hand (own_part t)) x) d found
held_before_event t hand (Flush x moved) q d found =
    held_before_two hand (own_part t) shared_part q
    (own_after_flush (content_in hand (own_part t)) x moved) (shared_after_flush (content_in hand shared_part) moved) d found
held_before_event t hand (Take x) q d found =
    held_before_two hand (own_part t) shared_part q
    (own_after_take (content_in hand (own_part t)) x) (shared_after_take (content_in hand (own_part t)) (content_in hand shared_part) x) d found
held_before_event t hand (Early x front) q d found = held_before_change hand (own_part t) q (own_after_early (content_in hand (own_part t)) x) d found
held_before_event t hand Nothing q d found = (d, found)
held_before_event t hand (Spy victim moved) q d found =
    held_before_two hand (own_part t) (own_part victim) q
    (own_after_spy moved) (victim_after_spy (content_in hand (own_part victim)) moved) d found
held_before_event t hand (Refill moved) q d found =
    held_before_two hand (own_part t) shared_part q
    (own_after_refill (content_in hand (own_part t)) moved) (shared_after_refill (content_in hand shared_part) moved) d found
held_before_event t hand (Steal victim moved) q d found =
    held_before_two hand (own_part t) (own_part victim) q
    (own_after_steal (content_in hand (own_part t)) moved) (victim_after_steal (content_in hand (own_part victim)) moved) d found
held_before_event t hand (Share moved) q d found =
    held_before_two hand (own_part t) shared_part q
    (own_after_share (content_in hand (own_part t)) moved) (shared_after_share (content_in hand shared_part) moved) d found

-- what is held before an event is held after it
pub held_after_event : (t : ℕ) (hand : Hand) (e : Event) (q : ℕ) (c : List Item) → Holds hand q c → (d : List Item) × Holds (after_event t hand e) q d
held_after_event t hand (Put x) q c found = held_after_change hand (own_part t) q (own_after_put (content_in hand (own_part t)) x) c found
held_after_event t hand (Flush x moved) q c found =
    held_after_two hand (own_part t) shared_part q
    (own_after_flush (content_in hand (own_part t)) x moved) (shared_after_flush (content_in hand shared_part) moved) c found
held_after_event t hand (Take x) q c found =
    held_after_two hand (own_part t) shared_part q
    (own_after_take (content_in hand (own_part t)) x) (shared_after_take (content_in hand (own_part t)) (content_in hand shared_part) x) c found
held_after_event t hand (Early x front) q c found = held_after_change hand (own_part t) q (own_after_early (content_in hand (own_part t)) x) c found
held_after_event t hand Nothing q c found = (c, found)
held_after_event t hand (Spy victim moved) q c found =
    held_after_two hand (own_part t) (own_part victim) q
    (own_after_spy moved) (victim_after_spy (content_in hand (own_part victim)) moved) c found
held_after_event t hand (Refill moved) q c found =
    held_after_two hand (own_part t) shared_part q
    (own_after_refill (content_in hand (own_part t)) moved) (shared_after_refill (content_in hand shared_part) moved) c found
held_after_event t hand (Steal victim moved) q c found =
    held_after_two hand (own_part t) (own_part victim) q
    (own_after_steal (content_in hand (own_part t)) moved) (victim_after_steal (content_in hand (own_part victim)) moved) c found
held_after_event t hand (Share moved) q c found =
    held_after_two hand (own_part t) shared_part q
    (own_after_share (content_in hand (own_part t)) moved) (shared_after_share (content_in hand shared_part) moved) c found
