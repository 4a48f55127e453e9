-- A step that is refused for another cause than memory is not legal.
use Rattle.std.proofs.Common.{◌≡◌, inl, inr, ℕ, zero, suc, List, [], ◌∷◌, None, refl, sym, ap, ◌∙◌, arith}
use Rattle.std.specs.List.{Contains}
use Rattle.std.proofs.lemmas.Option.{none-some}
use Rattle.klsm_run.specs.declared.item.Item.{Item}
use Rattle.klsm_schedules.specs.declared.step.Event.{Event}
use Rattle.klsm_schedules.specs.declared.step.Event.TheVariants.{Put, Flush, Take, Early, Nothing, Spy, Refill, Steal, Share}
use Rattle.klsm_schedules.specs.declared.step.Step.{Step}
use Rattle.klsm_schedules.specs.declared.step.Step.TheVariants.{Acquire, Commit, Release, Miss, Look, Mark, See}
use Rattle.klsm_world.specs.declared.errors.StepError.TheVariants.{NoSuchPart, Held, NotHeld, WrongEvent, NoMemory}
use Rattle.klsm_schedules.specs.OwnSteps.{Hand, Holds, found_in, shared_part, own_part}
use Rattle.klsm_schedules.specs.LegalSteps.{MayCommit}
use Rattle.klsm_schedules.specs.Worlds.{Limits, World, hand_in}
use Rattle.klsm_schedules.specs.LawfulWorlds.{IsLawful}
use Rattle.klsm_schedules.specs.Schedules.{MayStep}
use Rattle.klsm_world.specs.Refusals.{NamesNone, RefusedIsNotLegal, parts_for}

module _ (hand : Hand) where
  held_not_lacked : (p : ℕ) (c : List Item) → Holds hand p c → found_in hand p ≡ None → ⊥
  held_not_lacked p c holds lacks = none-some c (sym lacks ∙ holds)

  lacks_one : (p q : ℕ) (c : List Item) → Holds hand q c → Contains (q ∷ []) p → found_in hand p ≡ None → ⊥
  lacks_one p q c holds (zero, less, same) lacks = held_not_lacked q c holds (ap (found_in hand) same ∙ lacks)
  lacks_one p q c holds (suc i, less, same) lacks = absurd (omega (arith, less))

  lacks_two : (p q r : ℕ) (c d : List Item) → Holds hand q c → Holds hand r d → Contains (q ∷ r ∷ []) p → found_in hand p ≡ None → ⊥
  lacks_two p q r c d holds holds' (zero, less, same) lacks = held_not_lacked q c holds (ap (found_in hand) same ∙ lacks)
  lacks_two p q r c d holds holds' (suc zero, less, same) lacks = held_not_lacked r d holds' (ap (found_in hand) same ∙ lacks)
  lacks_two p q r c d holds holds' (suc (suc i), less, same) lacks = absurd (omega (arith, less))

  committer_holds : (k t n : ℕ) (event : Event) → MayCommit k t hand n event → (p : ℕ) → Contains (parts_for t event) p → found_in hand p ≡ None → ⊥
  committer_holds k t n (Put x) may p within lacks = lacks_one p (own_part t) may.held.own may.held.holds_own within lacks
  committer_holds k t n (Flush x moved) may p within lacks = lacks_two p (own_part t) shared_part may.held.own may.held.other may.held.holds_own may.held.holds_other within lacks
  committer_holds k t n (Take x) may p within lacks = lacks_two p (own_part t) shared_part may.own may.other may.holds_own may.holds_other within lacks
  committer_holds k t n (Early x front) may p within lacks = lacks_one p (own_part t) may.own may.holds_own within lacks
  committer_holds k t n Nothing may p within lacks = lacks_two p (own_part t) shared_part may.own may.other may.holds_own may.holds_other within lacks
  committer_holds k t n (Spy victim moved) may p within lacks = lacks_two p (own_part t) (own_part victim) may.held.own may.held.other may.held.holds_own may.held.holds_other within lacks
  committer_holds k t n (Steal victim moved) may p within lacks = lacks_two p (own_part t) (own_part victim) may.held.own may.held.other may.held.holds_own may.held.holds_other within lacks
  committer_holds k t n (Refill moved) may p within lacks = lacks_two p (own_part t) shared_part may.own may.other may.holds_own may.holds_other within lacks
  committer_holds k t n (Share moved) may p within lacks = lacks_two p (own_part t) shared_part may.own may.other may.holds_own may.holds_other within lacks

names_none : (limits : Limits) (w : World) (step : Step) → IsLawful limits w → NamesNone limits step → MayStep limits w step → ⊥
names_none limits w (Acquire t p) lawful (inl many) may = omega (arith, many, may.thread)
names_none limits w (Acquire t p) lawful (inr beyond) may = omega (arith, beyond, may.part)
names_none limits w (Commit t event) lawful (inl many) may = omega (arith, many, may.thread)
names_none limits w (Commit t (Put x)) lawful (inr none) may = absurd none
names_none limits w (Commit t (Flush x moved)) lawful (inr none) may = absurd none
names_none limits w (Commit t (Take x)) lawful (inr none) may = absurd none
names_none limits w (Commit t (Early x front)) lawful (inr none) may = absurd none
names_none limits w (Commit t Nothing) lawful (inr none) may = absurd none
names_none limits w (Commit t (Refill moved)) lawful (inr none) may = absurd none
names_none limits w (Commit t (Share moved)) lawful (inr none) may = absurd none
names_none limits w (Commit t (Spy victim moved)) lawful (inr (inl beyond)) may =
    let at = lawful.agreed.named t (own_part victim) may.commit.held.other may.thread may.commit.held.holds_other in
    omega (arith, beyond, at.0)
names_none limits w (Commit t (Spy victim moved)) lawful (inr (inr itself)) may = may.commit.another itself
names_none limits w (Commit t (Steal victim moved)) lawful (inr (inl beyond)) may =
    let at = lawful.agreed.named t (own_part victim) may.commit.held.other may.thread may.commit.held.holds_other in
    omega (arith, beyond, at.0)
names_none limits w (Commit t (Steal victim moved)) lawful (inr (inr itself)) may = may.commit.another itself
names_none limits w (Release t p) lawful (inl many) may = omega (arith, many, may.thread)
names_none limits w (Release t p) lawful (inr beyond) may =
    let at = lawful.agreed.named t p may.held.content may.thread may.held.holds in
    omega (arith, beyond, at.0)
names_none limits w (Miss t p) lawful (inl many) may = omega (arith, many, may.thread)
names_none limits w (Miss t p) lawful (inr beyond) may = omega (arith, beyond, may.part)
names_none limits w (Look t) lawful many may = omega (arith, many, may.thread)
names_none limits w (Mark t key) lawful many may = omega (arith, many, may.thread)
names_none limits w (See t u) lawful (inl many) may = omega (arith, many, may.thread)
names_none limits w (See t u) lawful (inr many) may = omega (arith, many, may.other)

pub refused_is_not_legal : RefusedIsNotLegal
refused_is_not_legal limits w step NoSuchPart lawful refuses other may = names_none limits w step lawful refuses may
refused_is_not_legal limits w (Acquire t p) (Held by) lawful refuses other may = omega (arith, refuses.1, may.free)
refused_is_not_legal limits w (Commit t event) (Held by) lawful refuses other may = absurd refuses.1
refused_is_not_legal limits w (Release t p) (Held by) lawful refuses other may = absurd refuses.1
refused_is_not_legal limits w (Miss t p) (Held by) lawful refuses other may = absurd refuses.1
refused_is_not_legal limits w (Look t) (Held by) lawful refuses other may = absurd refuses.1
refused_is_not_legal limits w (Mark t key) (Held by) lawful refuses other may = absurd refuses.1
refused_is_not_legal limits w (See t u) (Held by) lawful refuses other may = absurd refuses.1
refused_is_not_legal limits w (Acquire t p) NotHeld lawful refuses other may = absurd refuses.1
refused_is_not_legal limits w (Commit t event) NotHeld lawful refuses other may =
    committer_holds (hand_in w t) limits.k t _ event may.commit refuses.1.0 refuses.1.1 refuses.1.2
refused_is_not_legal limits w (Release t p) NotHeld lawful refuses other may =
    lacks_one (hand_in w t) refuses.1.0 p may.held.content may.held.holds refuses.1.1 refuses.1.2
refused_is_not_legal limits w (Miss t p) NotHeld lawful refuses other may = absurd refuses.1
refused_is_not_legal limits w (Look t) NotHeld lawful refuses other may = absurd refuses.1
refused_is_not_legal limits w (Mark t key) NotHeld lawful refuses other may =
    lacks_one (hand_in w t) refuses.1.0 (own_part t) may.held.content may.held.holds refuses.1.1 refuses.1.2
refused_is_not_legal limits w (See t u) NotHeld lawful refuses other may =
    lacks_one (hand_in w t) refuses.1.0 (own_part u) may.held.content may.held.holds refuses.1.1 refuses.1.2
refused_is_not_legal limits w step WrongEvent lawful refuses other may = refuses.3 may
refused_is_not_legal limits w step NoMemory lawful refuses other may = other refl
