-- How often an item is live after each event that a thread may commit.
use Rattle.std.proofs.Common.{◌≡◌, ◌≢◌, ℕ, ◌+◌, ◌<◌, List, [], ◌∷◌, length, refl, sym, ap, ◌∙◌, arith, unwrap_or}
use Rattle.klsm_run.specs.declared.item.Item.{Item}
use Rattle.klsm_parts.specs.Events.{times, own_after_put, own_after_flush, shared_after_flush, own_after_take, shared_after_take, own_after_early, own_after_spy, victim_after_spy, own_after_refill, shared_after_refill}
use Rattle.klsm_parts.specs.Stealing.{own_after_steal, victim_after_steal}
use Rattle.klsm_schedules.specs.declared.step.Event.{Event}
use Rattle.klsm_schedules.specs.declared.step.Event.TheVariants.{Put, Flush, Take, Early, Nothing, Spy, Refill, Steal, Share}
use Rattle.klsm_parts.specs.Sharing.{own_after_share, shared_after_share}
use Rattle.klsm_schedules.specs.declared.step.Step.TheVariants.{Commit}
use Rattle.klsm_schedules.specs.OwnSteps.{Hand, Holds, found_in, content_in, changed, after_event, own_part, shared_part}
use Rattle.klsm_schedules.specs.LegalSteps.{MayCommit}
use Rattle.klsm_schedules.specs.Worlds.{Limits, World, hand_in, content_of, live}
use Rattle.klsm_schedules.specs.LawfulWorlds.{AreAgreed}
use Rattle.klsm_schedules.specs.Schedules.{next}
use Rattle.klsm_schedules.proofs.lemmas.counts.EventCountLemmas.{put_counts, flush_counts, take_counts, early_counts, spy_counts, refill_counts, steal_counts, share_counts}
use Rattle.klsm_schedules.proofs.lemmas.hands.HandLemmas.{found_changed, found_elsewhere}
use Rattle.klsm_schedules.proofs.lemmas.counts.LiveCountLemmas.{live_same, live_changed, live_changed_two}
use Rattle.klsm_schedules.proofs.lemmas.hands.PartContentLemmas.{content_held, held_away, content_unchanged, content_committed}

-- two different parts of a hand change, each once
first_of_two : (hand : Hand) (q r : ℕ) (c d e : List Item) → q ≢ r → Holds hand q c → Holds (changed (changed hand q d) r e) q d
first_of_two hand q r c d e apart has = found_elsewhere (changed hand q d) r q e apart ∙ found_changed hand q d c has

second_of_two : (hand : Hand) (q r : ℕ) (c d e : List Item) → q ≢ r → Holds hand r c → Holds (changed (changed hand q d) r e) r e
second_of_two hand q r c d e apart has = found_changed (changed hand q d) r e c (found_elsewhere hand q r d (λ same. apart (sym same)) ∙ has)

neither_of_two : (hand : Hand) (q r : ℕ) (d e : List Item) (p : ℕ) → p ≢ q → p ≢ r → found_in (changed (changed hand q d) r e) p ≡ found_in hand p
neither_of_two hand q r d e p not_q not_r = found_elsewhere (changed hand q d) r p e not_r ∙ found_elsewhere hand q p d not_q

module _ (limits : Limits) (w : World) (agreed : AreAgreed limits w) (t : ℕ) (inside : t < limits.threads) (x : Item) where
  within_homes : (q : ℕ) (c : List Item) → Holds (hand_in w t) q c → q < length w.homes
  within_homes q c has = omega (arith, (held_away limits w t q c agreed inside has).0, agreed.homes_are)

  -- a commit that changes one part
  pub live_after_one : (event : Event) (q : ℕ) (c d : List Item) → Holds (hand_in w t) q c → Holds (after_event t (hand_in w t) event) q d
      → ((p : ℕ) → p ≢ q → found_in (after_event t (hand_in w t) event) p ≡ found_in (hand_in w t) p)
      → times x (live (next w (Commit t event))) + times x c ≡ times x (live w) + times x d
  live_after_one event q c d has later else =
      let v = next w (Commit t event) in
      let before : times x (content_of w q) ≡ times x c = ap (times x) (content_held limits w t q c agreed inside has) in
      let after : times x (content_of v q) ≡ times x d = ap (times x) (content_committed limits w t event q c agreed inside has ∙ ap (λ o. unwrap_or o []) later) in
      omega (
        arith,
        before,
        after,
        live_changed w v x (length w.homes) q (within_homes q c has) (λ p less other. content_unchanged limits w t event p agreed inside (else p other)),
      )

  -- a commit that changes two parts
  pub live_after_two : (event : Event) (q r : ℕ) (c d c' d' : List Item) → q ≢ r → Holds (hand_in w t) q c → Holds (hand_in w t) r d
      → Holds (after_event t (hand_in w t) event) q c' → Holds (after_event t (hand_in w t) event) r d'
      → ((p : ℕ) → p ≢ q → p ≢ r → found_in (after_event t (hand_in w t) event) p ≡ found_in (hand_in w t) p)
      → (times x (live (next w (Commit t event))) + times x c) + times x d ≡ (times x (live w) + times x c') + times x d'
  live_after_two event q r c d c' d' apart has_q has_r later_q later_r else =
      let v = next w (Commit t event) in
      let before_q : times x (content_of w q) ≡ times x c = ap (times x) (content_held limits w t q c agreed inside has_q) in
      let before_r : times x (content_of w r) ≡ times x d = ap (times x) (content_held limits w t r d agreed inside has_r) in
      let after_q : times x (content_of v q) ≡ times x c' = ap (times x) (content_committed limits w t event q c agreed inside has_q ∙ ap (λ o. unwrap_or o []) later_q) in
      let after_r : times x (content_of v r) ≡ times x d' = ap (times x) (content_committed limits w t event r d agreed inside has_r ∙ ap (λ o. unwrap_or o []) later_r) in
      omega (
        arith,
        before_q,
        before_r,
        after_q,
        after_r,
        live_changed_two w v x (length w.homes) q r apart (within_homes q c has_q) (within_homes r d has_r)
            (λ p less not_q not_r. content_unchanged limits w t event p agreed inside (else p not_q not_r)),
      )

  -- a Put adds its item to the live ones
  pub live_after_put : (n : ℕ) (y : Item) → MayCommit limits.k t (hand_in w t) n (Put y) → times x (live (next w (Commit t (Put y)))) ≡ times x (live w) + times x (y ∷ [])
  live_after_put n y may =
      let hand = hand_in w t in
      let own = may.held.own in
      let had : content_in hand (own_part t) ≡ own = ap (λ o. unwrap_or o []) may.held.holds_own in
      let left : List Item = own_after_put (content_in hand (own_part t)) y in
      let left_is : times x left ≡ times x (own_after_put own y) = ap (λ c. times x (own_after_put c y)) had in
      omega (
        arith,
        left_is,
        put_counts y x own,
        live_after_one (Put y) (own_part t) own left may.held.holds_own (found_changed hand (own_part t) left own may.held.holds_own) (λ p other. found_elsewhere hand (own_part t) p left other),
      )

  -- so does a Flush
  pub live_after_flush : (n : ℕ) (y : Item) (moved : List Item) → MayCommit limits.k t (hand_in w t) n (Flush y moved) → times x (live (next w (Commit t (Flush y moved)))) ≡ times x (live w) + times x (y ∷ [])
  live_after_flush n y moved may =
      let hand = hand_in w t in
      let own = may.held.own in
      let shared = may.held.other in
      let has_own = may.held.holds_own in
      let has_shared = may.held.holds_other in
      let left_own : List Item = own_after_flush (content_in hand (own_part t)) y moved in
      let left_shared : List Item = shared_after_flush (content_in hand shared_part) moved in
      let own_is : times x left_own ≡ times x (own_after_flush own y moved) = ap (λ o. times x (own_after_flush (unwrap_or o []) y moved)) has_own in
      let shared_is : times x left_shared ≡ times x (shared_after_flush shared moved) = ap (λ o. times x (shared_after_flush (unwrap_or o []) moved)) has_shared in
      let apart : own_part t ≢ shared_part = λ same. let bad : t + 1 ≡ 0 = same in absurd (omega (arith, bad)) in
      omega (
        arith,
        own_is,
        shared_is,
        flush_counts limits.k own shared y x moved may.held.fits,
        live_after_two (Flush y moved) (own_part t) shared_part own shared left_own left_shared apart has_own has_shared
            (first_of_two hand (own_part t) shared_part own left_own left_shared apart has_own) (second_of_two hand (own_part t) shared_part shared left_own left_shared apart has_shared)
            (neither_of_two hand (own_part t) shared_part left_own left_shared),
      )

  -- a Take leaves its item live once less
  pub live_after_take : (n : ℕ) (y : Item) → MayCommit limits.k t (hand_in w t) n (Take y) → times x (live (next w (Commit t (Take y)))) + times x (y ∷ []) ≡ times x (live w)
  live_after_take n y may =
      let hand = hand_in w t in
      let own = may.own in
      let shared = may.other in
      let has_own = may.holds_own in
      let has_shared = may.holds_other in
      let left_own : List Item = own_after_take (content_in hand (own_part t)) y in
      let left_shared : List Item = shared_after_take (content_in hand (own_part t)) (content_in hand shared_part) y in
      let own_is : times x left_own ≡ times x (own_after_take own y) = ap (λ o. times x (own_after_take (unwrap_or o []) y)) has_own in
      let shared_is : times x left_shared ≡ times x (shared_after_take own shared y) =
      ap (λ o. times x (shared_after_take (unwrap_or o []) (content_in hand shared_part) y)) has_own ∙ ap (λ o. times x (shared_after_take own (unwrap_or o []) y)) has_shared in
      let apart : own_part t ≢ shared_part = λ same. let bad : t + 1 ≡ 0 = same in absurd (omega (arith, bad)) in
      omega (
        arith,
        own_is,
        shared_is,
        take_counts limits.k own shared y x may.fits.in_reach,
        live_after_two (Take y) (own_part t) shared_part own shared left_own left_shared apart has_own has_shared
            (first_of_two hand (own_part t) shared_part own left_own left_shared apart has_own) (second_of_two hand (own_part t) shared_part shared left_own left_shared apart has_shared)
            (neither_of_two hand (own_part t) shared_part left_own left_shared),
      )

  -- so does an Early
  pub live_after_early : (n : ℕ) (y : Item) (front : ℕ) → MayCommit limits.k t (hand_in w t) n (Early y front) → times x (live (next w (Commit t (Early y front)))) + times x (y ∷ []) ≡ times x (live w)
  live_after_early n y front may =
      let hand = hand_in w t in
      let own = may.own in
      let left : List Item = own_after_early (content_in hand (own_part t)) y in
      let left_is : times x left ≡ times x (own_after_early own y) = ap (λ o. times x (own_after_early (unwrap_or o []) y)) may.holds_own in
      omega (
        arith,
        left_is,
        early_counts own y x front may.fits,
        live_after_one (Early y front) (own_part t) own left may.holds_own (found_changed hand (own_part t) left own may.holds_own) (λ p other. found_elsewhere hand (own_part t) p left other),
      )

  -- a Spy leaves the live items as they were
  pub live_after_spy : (n victim : ℕ) (moved : List Item) → MayCommit limits.k t (hand_in w t) n (Spy victim moved) → times x (live (next w (Commit t (Spy victim moved)))) ≡ times x (live w)
  live_after_spy n victim moved may =
      let hand = hand_in w t in
      let own = may.held.own in
      let from = may.held.other in
      let has_own = may.held.holds_own in
      let has_from = may.held.holds_other in
      let left : List Item = victim_after_spy (content_in hand (own_part victim)) moved in
      let left_is : times x left ≡ times x (victim_after_spy from moved) = ap (λ o. times x (victim_after_spy (unwrap_or o []) moved)) has_from in
      let apart : own_part t ≢ own_part victim = λ same. let equal : t + 1 ≡ victim + 1 = same in may.another (omega (arith, equal)) in
      omega (
        arith,
        left_is,
        spy_counts own from x moved may.held.fits,
        live_after_two (Spy victim moved) (own_part t) (own_part victim) own from (own_after_spy moved) left apart has_own has_from
            (first_of_two hand (own_part t) (own_part victim) own (own_after_spy moved) left apart has_own) (second_of_two hand (own_part t) (own_part victim) from (own_after_spy moved) left apart has_from)
            (neither_of_two hand (own_part t) (own_part victim) (own_after_spy moved) left),
      )

  -- so does a Refill
  pub live_after_refill : (n : ℕ) (moved : List Item) → MayCommit limits.k t (hand_in w t) n (Refill moved) → times x (live (next w (Commit t (Refill moved)))) ≡ times x (live w)
  live_after_refill n moved may =
      let hand = hand_in w t in
      let own = may.own in
      let shared = may.other in
      let has_own = may.holds_own in
      let has_shared = may.holds_other in
      let left_own : List Item = own_after_refill (content_in hand (own_part t)) moved in
      let left_shared : List Item = shared_after_refill (content_in hand shared_part) moved in
      let own_is : times x left_own ≡ times x (own_after_refill own moved) = ap (λ o. times x (own_after_refill (unwrap_or o []) moved)) has_own in
      let shared_is : times x left_shared ≡ times x (shared_after_refill shared moved) = ap (λ o. times x (shared_after_refill (unwrap_or o []) moved)) has_shared in
      let apart : own_part t ≢ shared_part = λ same. let bad : t + 1 ≡ 0 = same in absurd (omega (arith, bad)) in
      omega (
        arith,
        own_is,
        shared_is,
        refill_counts limits.k own shared x moved may.fits,
        live_after_two (Refill moved) (own_part t) shared_part own shared left_own left_shared apart has_own has_shared
            (first_of_two hand (own_part t) shared_part own left_own left_shared apart has_own) (second_of_two hand (own_part t) shared_part shared left_own left_shared apart has_shared)
            (neither_of_two hand (own_part t) shared_part left_own left_shared),
      )

  -- so does a Steal
  pub live_after_steal : (n victim : ℕ) (moved : List Item) → MayCommit limits.k t (hand_in w t) n (Steal victim moved) → times x (live (next w (Commit t (Steal victim moved)))) ≡ times x (live w)
  live_after_steal n victim moved may =
      let hand = hand_in w t in
      let own = may.held.own in
      let from = may.held.other in
      let has_own = may.held.holds_own in
      let has_from = may.held.holds_other in
      let left_own : List Item = own_after_steal (content_in hand (own_part t)) moved in
      let left : List Item = victim_after_steal (content_in hand (own_part victim)) moved in
      let own_is : times x left_own ≡ times x (own_after_steal own moved) = ap (λ o. times x (own_after_steal (unwrap_or o []) moved)) has_own in
      let left_is : times x left ≡ times x (victim_after_steal from moved) = ap (λ o. times x (victim_after_steal (unwrap_or o []) moved)) has_from in
      let apart : own_part t ≢ own_part victim = λ same. let equal : t + 1 ≡ victim + 1 = same in may.another (omega (arith, equal)) in
      omega (
        arith,
        own_is,
        left_is,
        steal_counts limits.k own from x moved may.held.fits,
        live_after_two (Steal victim moved) (own_part t) (own_part victim) own from left_own left apart has_own has_from
            (first_of_two hand (own_part t) (own_part victim) own left_own left apart has_own) (second_of_two hand (own_part t) (own_part victim) from left_own left apart has_from)
            (neither_of_two hand (own_part t) (own_part victim) left_own left),
      )

  -- so does a Share
  pub live_after_share : (n : ℕ) (moved : List Item) → MayCommit limits.k t (hand_in w t) n (Share moved) → times x (live (next w (Commit t (Share moved)))) ≡ times x (live w)
  live_after_share n moved may =
      let hand = hand_in w t in
      let own = may.own in
      let shared = may.other in
      let has_own = may.holds_own in
      let has_shared = may.holds_other in
      let left_own : List Item = own_after_share (content_in hand (own_part t)) moved in
      let left_shared : List Item = shared_after_share (content_in hand shared_part) moved in
      let own_is : times x left_own ≡ times x (own_after_share own moved) = ap (λ o. times x (own_after_share (unwrap_or o []) moved)) has_own in
      let shared_is : times x left_shared ≡ times x (shared_after_share shared moved) = ap (λ o. times x (shared_after_share (unwrap_or o []) moved)) has_shared in
      let apart : own_part t ≢ shared_part = λ same. let bad : t + 1 ≡ 0 = same in absurd (omega (arith, bad)) in
      omega (
        arith,
        own_is,
        shared_is,
        share_counts own shared x moved may.fits,
        live_after_two (Share moved) (own_part t) shared_part own shared left_own left_shared apart has_own has_shared
            (first_of_two hand (own_part t) shared_part own left_own left_shared apart has_own) (second_of_two hand (own_part t) shared_part shared left_own left_shared apart has_shared)
            (neither_of_two hand (own_part t) shared_part left_own left_shared),
      )

  -- so does an answer of nothing
  pub live_after_nothing : times x (live (next w (Commit t Nothing))) ≡ times x (live w)
  live_after_nothing = live_same w (next w (Commit t Nothing)) x (length w.homes) (λ p less. content_unchanged limits w t Nothing p agreed inside refl)
