-- Each legal step keeps the front word the front of the shared part.
use Rattle.std.proofs.Common.{◌≡◌, ◌≢◌, ℕ, ◌+◌, refl, sym, ap, ◌∙◌, arith}
use Rattle.klsm_parts.specs.Events.{front_of, own_after_put, own_after_early, own_after_spy, victim_after_spy}
use Rattle.klsm_parts.specs.Stealing.{own_after_steal, victim_after_steal}
use Rattle.klsm_schedules.specs.declared.step.Event.{Event}
use Rattle.klsm_schedules.specs.declared.step.Event.TheVariants.{Put, Flush, Take, Early, Nothing, Spy, Refill, Steal, Share}
use Rattle.klsm_schedules.specs.declared.step.Step.{Step}
use Rattle.klsm_schedules.specs.declared.step.Step.TheVariants.{Acquire, Commit, Release, Miss, Look, Mark, See}
use Rattle.klsm_schedules.specs.OwnSteps.{content_in, changed, own_part, shared_part}
use Rattle.klsm_schedules.specs.Worlds.{Limits, World, hand_in, content_of}
use Rattle.klsm_schedules.specs.LawfulWorlds.{AreAgreed}
use Rattle.klsm_schedules.specs.Schedules.{MayStep, next}
use Rattle.klsm_schedules.proofs.lemmas.hands.HandLemmas.{found_elsewhere}
use Rattle.klsm_schedules.proofs.lemmas.hands.PartContentLemmas.{content_acquired, content_released, content_missed, content_looked, content_marked, content_seen, content_unchanged, content_committed}

-- the front word of a world is that of its shared part
abbrev pub IsFront : World → Type 0
IsFront w = w.front ≡ front_of (content_of w shared_part)

not_own : (t : ℕ) → shared_part ≢ own_part t
not_own t same = let bad : 0 ≡ t + 1 = same in absurd (omega (arith, bad))

module _ (limits : Limits) (w : World) (agreed : AreAgreed limits w) (is : IsFront w) where
  -- where neither changes
  stays : (v : World) → v.front ≡ w.front → content_of v shared_part ≡ content_of w shared_part → IsFront v
  stays v same content = same ∙ (is ∙ ap front_of (sym content))

  front_committed : (t : ℕ) (event : Event) → MayStep limits w (Commit t event) → IsFront (next w (Commit t event))
  front_committed t (Put x) may =
      stays (next w (Commit t (Put x))) refl (content_unchanged limits w t (Put x) shared_part agreed may.thread
      (found_elsewhere (hand_in w t) (own_part t) shared_part (own_after_put (content_in (hand_in w t) (own_part t)) x) (not_own t)))
  front_committed t (Flush x moved) may =
      ap front_of (sym (content_committed limits w t (Flush x moved) shared_part may.commit.held.other agreed may.thread may.commit.held.holds_other))
  front_committed t (Take x) may =
      ap front_of (sym (content_committed limits w t (Take x) shared_part may.commit.other agreed may.thread may.commit.holds_other))
  front_committed t (Refill moved) may =
      ap front_of (sym (content_committed limits w t (Refill moved) shared_part may.commit.other agreed may.thread may.commit.holds_other))
  front_committed t (Share moved) may =
      ap front_of (sym (content_committed limits w t (Share moved) shared_part may.commit.other agreed may.thread may.commit.holds_other))
  front_committed t (Early x front) may =
      stays (next w (Commit t (Early x front))) refl (content_unchanged limits w t (Early x front) shared_part agreed may.thread
      (found_elsewhere (hand_in w t) (own_part t) shared_part (own_after_early (content_in (hand_in w t) (own_part t)) x) (not_own t)))
  front_committed t Nothing may = stays (next w (Commit t Nothing)) refl (content_unchanged limits w t Nothing shared_part agreed may.thread refl)
  front_committed t (Spy victim moved) may =
      let hand = hand_in w t in
      stays (next w (Commit t (Spy victim moved))) refl (content_unchanged limits w t (Spy victim moved) shared_part agreed may.thread
      (found_elsewhere (changed hand (own_part t) (own_after_spy moved)) (own_part victim) shared_part (victim_after_spy (content_in hand (own_part victim)) moved) (not_own victim)
      ∙ found_elsewhere hand (own_part t) shared_part (own_after_spy moved) (not_own t)))
  front_committed t (Steal victim moved) may =
      let hand = hand_in w t in
      stays (next w (Commit t (Steal victim moved))) refl (content_unchanged limits w t (Steal victim moved) shared_part agreed may.thread
      (found_elsewhere (changed hand (own_part t) (own_after_steal (content_in hand (own_part t)) moved)) (own_part victim) shared_part (victim_after_steal (content_in hand (own_part victim)) moved) (not_own victim)
      ∙ found_elsewhere hand (own_part t) shared_part (own_after_steal (content_in hand (own_part t)) moved) (not_own t)))

  -- a legal step leads to a world of which this is true
  pub front_kept : (step : Step) → MayStep limits w step → IsFront (next w step)
  front_kept (Acquire t p) may = stays (next w (Acquire t p)) refl (content_acquired limits w t p shared_part agreed may)
  front_kept (Commit t event) may = front_committed t event may
  front_kept (Release t p) may = stays (next w (Release t p)) refl (content_released limits w t p shared_part agreed may)
  front_kept (Miss t p) may = stays (next w (Miss t p)) refl (content_missed limits w t p shared_part agreed may)
  front_kept (Look t) may = stays (next w (Look t)) refl (content_looked limits w t shared_part agreed may)
  front_kept (Mark t key) may = stays (next w (Mark t key)) refl (content_marked limits w t key shared_part agreed may)
  front_kept (See t u) may = stays (next w (See t u)) refl (content_seen limits w t u shared_part agreed may)
