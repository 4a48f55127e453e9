-- What a running world keeps, after a commit.
use Rattle.std.proofs.Common.{◌≡◌, ◌≢◌, ℕ, ◌+◌, ◌<◌, ◌≤◌, true, false, eqb, cond, List, [], ◌∷◌, ◌++◌, length, get_or, set, Option, refl, sym, ap, ◌∙◌, subst, inl, inr, arith, unwrap_or}
use Rattle.std.proofs.lemmas.Bool.{cases_eq, ne_eqb, eq-eqb}
use Rattle.std.proofs.lemmas.List.{length-set, get_or-set_same, get_or-set_other, set-get_or}
use Rattle.klsm_run.specs.declared.item.Item.{Item}
use Rattle.klsm_run.specs.Content.{sorted, without}
use Rattle.klsm_run.proofs.ContentLemmas.{sorted_itself}
use Rattle.klsm_run.proofs.SortedLemmas.{sorted_ascending}
use Rattle.klsm_run.proofs.WithoutLemmas.{sorted_without}
use Rattle.klsm_parts.specs.Events.{times, plus, minus, own_after_put, own_after_flush, shared_after_flush, own_after_take, shared_after_take, own_after_early, own_after_spy, victim_after_spy, own_after_refill, shared_after_refill, front_of}
use Rattle.klsm_parts.specs.Stealing.{own_after_steal, victim_after_steal}
use Rattle.klsm_schedules.specs.declared.step.Event.{Event}
use Rattle.klsm_schedules.specs.declared.step.Event.TheVariants.{Put, Flush, Take, Early, Nothing, Spy, Refill, Steal, Share}
use Rattle.klsm_parts.specs.Sharing.{own_after_share, shared_after_share}
use Rattle.klsm_schedules.specs.declared.step.Step.TheVariants.{Commit}
use Rattle.klsm_schedules.specs.declared.step.Entry.{Entry}
use Rattle.klsm_schedules.specs.declared.step.Entry.TheVariants.{Committed}
use Rattle.klsm_world.specs.Kept.{IsKept, homes_of, world_of}
use Rattle.klsm_schedules.specs.OwnSteps.{Hand, Holds, content_in, changed, after_event, own_part, shared_part}
use Rattle.klsm_schedules.specs.Worlds.{Limits, World, hand_in, content_of}
use Rattle.klsm_schedules.specs.Schedules.{MayStep, next}
use Rattle.klsm_schedules.proofs.lemmas.counts.EventCountLemmas.{without_uncounted}
use Rattle.klsm_schedules.proofs.lemmas.hands.HandLemmas.{held_changed, found_elsewhere, held_after_event}
use Rattle.klsm_world.proofs.lemmas.kept.HomesLemmas.{homes_changed}
use Rattle.klsm_world.proofs.lemmas.kept.KeptLemmas.{lists_with, kept_after, hand_has}
use Rattle.klsm_schedules.proofs.lemmas.lawful.LawfulLemmas.{lawful_kept}
use Rattle.klsm_schedules.proofs.lemmas.lawful.LegalLemmas.{not_held}
use Rattle.klsm_schedules.proofs.lemmas.hands.PartContentLemmas.{content_held, content_committed, content_not_held}

-- ascending items stay ascending without some of them
sorted_minus : (leaving c : List Item) → sorted c ≡ c → sorted (minus c leaving) ≡ minus c leaving
sorted_minus [] c up = up
sorted_minus (x ∷ leaving) c up = sorted_minus leaving (without x c) (sorted_without x c ∙ ap (without x) up)

-- so does what a deletion leaves of the shared part
shared_taken : (x : Item) (own shared : List Item) → sorted shared ≡ shared → sorted (shared_after_take own shared x) ≡ shared_after_take own shared x
shared_taken x own shared up = elim (eqb (times x own) 0) as (λ b. sorted (cond b (without x shared) shared) ≡ cond b (without x shared) shared) [
  | true ↦ sorted_minus (x ∷ []) shared up
  | false ↦ up
]

module _ (limits : Limits) (words : List ℕ) (contents : List (List Item)) (lists : List (List Entry)) (t : ℕ) where
  -- contents that a thread's hand says, where they differ from those before only at parts that the thread holds
  record IsAsHand (hand : Hand) (now : List (List Item)) : Type 0 where
    pub many : length now ≡ limits.threads + 1
    pub homes : homes_of words now ≡ homes_of words contents
    pub shown : (p : ℕ) (c : List Item) → p ≤ limits.threads → Holds hand p c → c ≡ get_or now p []
    pub others : (p : ℕ) → get_or words p 0 ≢ t + 1 → get_or now p [] ≡ get_or contents p []
    pub ascending : (p : ℕ) → p ≤ limits.threads → sorted (get_or now p []) ≡ get_or now p []

  module _ (kept : IsKept limits words contents lists) (less : t < limits.threads) where
    -- before the event
    as_hand_first : IsAsHand (hand_in (world_of words contents lists) t) contents
    as_hand_first = record {
      many = kept.contents_are;
      homes = refl;
      shown = λ p c within has. sym (content_held limits (world_of words contents lists) t p c kept.lawful.agreed less has) ∙ kept.current p within;
      others = λ p other. refl;
      ascending = kept.ascending;
    }

    -- after one more part's content changed
    as_hand_changed : (hand : Hand) (now : List (List Item)) (p : ℕ) (c : List Item) → IsAsHand hand now → p ≤ limits.threads → get_or words p 0 ≡ t + 1 → sorted c ≡ c
        → IsAsHand (changed hand p c) (set now p c)
    as_hand_changed hand now p c old within word up =
        let inside : p < length now = omega (arith, old.many, within) in
        record {
          many = length-set now p c ∙ old.many;
          homes = homes_changed words now p c (λ zeros. let bad : 0 ≡ t + 1 = sym zeros ∙ word in omega (arith, bad)) ∙ old.homes;
          shown = λ q d few has. elim (cases_eq q p) [
            | inl same ↦ subst (λ z. Holds (changed hand p c) z d → d ≡ get_or (set now p c) z []) (sym same)
                (λ here. sym (held_changed hand p c d here) ∙ sym (get_or-set_same now p c [] inside)) has
            | inr other ↦ old.shown q d few (sym (found_elsewhere hand p q c other) ∙ has) ∙ sym (get_or-set_other now p q c [] other)
          ];
          others = λ q other. get_or-set_other now p q c [] (λ same. other (ap (λ z. get_or words z 0) same ∙ word)) ∙ old.others q other;
          ascending = λ q few. elim (cases_eq q p) [
            | inl same ↦ subst (λ z. sorted (get_or (set now p c) z []) ≡ get_or (set now p c) z []) (sym same)
                (subst (λ d. sorted d ≡ d) (sym (get_or-set_same now p c [] inside)) up)
            | inr other ↦ subst (λ d. sorted d ≡ d) (sym (get_or-set_other now p q c [] other)) (old.ascending q few)
          ];
        }

    -- after the event
    as_hand_committed : (event : Event) (now : List (List Item)) → MayStep limits (world_of words contents lists) (Commit t event) → IsAsHand (after_event t (hand_in (world_of words contents lists) t) event) now
        → (world_of words now (lists_with lists t (Committed event)) ≡ next (world_of words contents lists) (Commit t event)) × IsKept limits words now (lists_with lists t (Committed event))
    as_hand_committed event now may as_hand =
        let w : World = world_of words contents lists in
        let v : World = next w (Commit t event) in
        let lists' : List (List Entry) = lists_with lists t (Committed event) in
        let current : (p : ℕ) → p ≤ limits.threads → content_of v p ≡ get_or now p [] = λ p within. elim (cases_eq (get_or words p 0) (t + 1)) [
          | inl mine ↦
              let has = hand_has limits words contents lists t p kept less within mine in
              let after = held_after_event t (hand_in w t) event p (get_or contents p []) has in
              content_committed limits w t event p (get_or contents p []) kept.lawful.agreed less has ∙ (ap (λ o. unwrap_or o []) after.1 ∙ as_hand.shown p after.0 within after.1)
          | inr other ↦
              content_not_held limits w t event p kept.lawful.agreed less (not_held limits w t p kept.lawful.agreed less other)
              ∙ (kept.current p within ∙ sym (as_hand.others p other))
        ] in
        let front : front_of (get_or now 0 []) ≡ v.front = sym ((lawful_kept limits w (Commit t event) kept.lawful may).front_is ∙ ap front_of (current 0 (omega arith))) in
        let is : world_of words now lists' ≡ v =
        ap (λ (f : ℕ). record { words = words; front = f; homes = homes_of words now; lists = lists' }) front
        ∙ ap (λ (homes : List (Option (List Item))). record { words = words; front = v.front; homes = homes; lists = lists' }) as_hand.homes in (
          is,
          kept_after limits words words contents now lists lists' (Commit t event) kept may is as_hand.many current as_hand.ascending,
        )

-- the contents after an event
abbrev pub contents_after : List (List Item) → ℕ → Event → List (List Item)
contents_after contents t (Put x) = set contents (t + 1) (plus (get_or contents (t + 1) []) (x ∷ []))
contents_after contents t (Flush x moved) =
    set (set contents (t + 1) (minus (plus (get_or contents (t + 1) []) (x ∷ [])) moved)) 0 (plus (get_or contents 0 []) moved)
contents_after contents t (Take x) =
    set (set contents (t + 1) (without x (get_or contents (t + 1) []))) 0 (shared_after_take (get_or contents (t + 1) []) (get_or contents 0 []) x)
contents_after contents t (Early x front) = set contents (t + 1) (without x (get_or contents (t + 1) []))
contents_after contents t Nothing = contents
contents_after contents t (Spy victim moved) = set (set contents (t + 1) moved) (victim + 1) (minus (get_or contents (victim + 1) []) moved)
contents_after contents t (Refill moved) = set (set contents (t + 1) (plus (get_or contents (t + 1) []) moved)) 0 (minus (get_or contents 0 []) moved)
contents_after contents t (Steal victim moved) =
    set (set contents (t + 1) (plus (get_or contents (t + 1) []) moved)) (victim + 1) (minus (get_or contents (victim + 1) []) moved)
contents_after contents t (Share moved) = set (set contents (t + 1) (minus (get_or contents (t + 1) []) moved)) 0 (plus (get_or contents 0 []) moved)

module _ (limits : Limits) (words : List ℕ) (contents : List (List Item)) (lists : List (List Entry)) (t : ℕ) (kept : IsKept limits words contents lists) where
  abbrev hand : Hand
  hand = hand_in (world_of words contents lists) t

  abbrev content : ℕ → List Item
  content p = get_or contents p []

  named : (p : ℕ) (c : List Item) → t < limits.threads → Holds hand p c → (p ≤ limits.threads) × (get_or words p 0 ≡ t + 1)
  named p c less has = kept.lawful.agreed.named t p c less has

  at_hand : (p : ℕ) → t < limits.threads → p ≤ limits.threads → get_or words p 0 ≡ t + 1 → content_in hand p ≡ content p
  at_hand p less within word = ap (λ o. unwrap_or o []) (hand_has limits words contents lists t p kept less within word)

  one_part : t < limits.threads → (p : ℕ) (c : List Item) → p ≤ limits.threads → get_or words p 0 ≡ t + 1 → sorted c ≡ c
      → IsAsHand limits words contents lists t (changed hand p c) (set contents p c)
  one_part less p c within word up =
      as_hand_changed limits words contents lists t kept less hand contents p c (as_hand_first limits words contents lists t kept less) within word up

  two_parts : t < limits.threads → (p q : ℕ) (c d : List Item) → p ≤ limits.threads → get_or words p 0 ≡ t + 1 → q ≤ limits.threads → get_or words q 0 ≡ t + 1 → sorted c ≡ c → sorted d ≡ d
      → IsAsHand limits words contents lists t (changed (changed hand p c) q d) (set (set contents p c) q d)
  two_parts less p q c d p_within p_word q_within q_word c_up d_up =
      as_hand_changed limits words contents lists t kept less (changed hand p c) (set contents p c) q d (one_part less p c p_within p_word c_up) q_within q_word d_up

  by_event : (event : Event) → MayStep limits (world_of words contents lists) (Commit t event)
      → IsAsHand limits words contents lists t (after_event t (hand_in (world_of words contents lists) t) event) (contents_after contents t event)
  by_event (Put x) may =
      let own = named (own_part t) may.commit.held.own may.thread may.commit.held.holds_own in
      subst (λ c. IsAsHand limits words contents lists t (changed hand (own_part t) (own_after_put c x)) (contents_after contents t (Put x))) (sym (at_hand (own_part t) may.thread own.0 own.1))
      (one_part may.thread (own_part t) (own_after_put (content (own_part t)) x) own.0 own.1 (sorted_itself (x ∷ content (own_part t))))
  by_event (Flush x moved) may =
      let own = named (own_part t) may.commit.held.own may.thread may.commit.held.holds_own in
      let shared = named shared_part may.commit.held.other may.thread may.commit.held.holds_other in
      subst (λ c. IsAsHand limits words contents lists t (changed (changed hand (own_part t) (own_after_flush c x moved)) shared_part (shared_after_flush (content_in hand shared_part) moved)) (contents_after contents t (Flush x moved)))
      (sym (at_hand (own_part t) may.thread own.0 own.1))
      (subst (λ c. IsAsHand limits words contents lists t (changed (changed hand (own_part t) (own_after_flush (content (own_part t)) x moved)) shared_part (shared_after_flush c moved)) (contents_after contents t (Flush x moved)))
      (sym (at_hand shared_part may.thread shared.0 shared.1))
      (two_parts may.thread (own_part t) shared_part (own_after_flush (content (own_part t)) x moved) (shared_after_flush (content shared_part) moved) own.0 own.1 shared.0 shared.1
      (sorted_minus moved (plus (content (own_part t)) (x ∷ [])) (sorted_itself (x ∷ content (own_part t)))) (sorted_itself (moved ++ content shared_part))))
  by_event (Take x) may =
      let own = named (own_part t) may.commit.own may.thread may.commit.holds_own in
      let shared = named shared_part may.commit.other may.thread may.commit.holds_other in
      subst (λ c. IsAsHand limits words contents lists t (changed (changed hand (own_part t) (own_after_take c x)) shared_part (shared_after_take c (content_in hand shared_part) x)) (contents_after contents t (Take x)))
      (sym (at_hand (own_part t) may.thread own.0 own.1))
      (subst (λ c. IsAsHand limits words contents lists t (changed (changed hand (own_part t) (own_after_take (content (own_part t)) x)) shared_part (shared_after_take (content (own_part t)) c x)) (contents_after contents t (Take x)))
      (sym (at_hand shared_part may.thread shared.0 shared.1))
      (two_parts may.thread (own_part t) shared_part (own_after_take (content (own_part t)) x) (shared_after_take (content (own_part t)) (content shared_part) x) own.0 own.1 shared.0 shared.1
      (sorted_minus (x ∷ []) (content (own_part t)) (kept.ascending (own_part t) own.0)) (shared_taken x (content (own_part t)) (content shared_part) (kept.ascending shared_part shared.0))))
  by_event (Early x front) may =
      let own = named (own_part t) may.commit.own may.thread may.commit.holds_own in
      subst (λ c. IsAsHand limits words contents lists t (changed hand (own_part t) (own_after_early c x)) (contents_after contents t (Early x front))) (sym (at_hand (own_part t) may.thread own.0 own.1))
      (one_part may.thread (own_part t) (own_after_early (content (own_part t)) x) own.0 own.1 (sorted_minus (x ∷ []) (content (own_part t)) (kept.ascending (own_part t) own.0)))
  by_event Nothing may = as_hand_first limits words contents lists t kept may.thread
  by_event (Spy victim moved) may =
      let own = named (own_part t) may.commit.held.own may.thread may.commit.held.holds_own in
      let from = named (own_part victim) may.commit.held.other may.thread may.commit.held.holds_other in
      subst (λ c. IsAsHand limits words contents lists t (changed (changed hand (own_part t) (own_after_spy moved)) (own_part victim) (victim_after_spy c moved)) (contents_after contents t (Spy victim moved)))
      (sym (at_hand (own_part victim) may.thread from.0 from.1))
      (two_parts may.thread (own_part t) (own_part victim) (own_after_spy moved) (victim_after_spy (content (own_part victim)) moved) own.0 own.1 from.0 from.1
      (sorted_ascending moved may.commit.held.fits.ascending) (sorted_minus moved (content (own_part victim)) (kept.ascending (own_part victim) from.0)))
  by_event (Refill moved) may =
      let own = named (own_part t) may.commit.own may.thread may.commit.holds_own in
      let shared = named shared_part may.commit.other may.thread may.commit.holds_other in
      subst (λ c. IsAsHand limits words contents lists t (changed (changed hand (own_part t) (own_after_refill c moved)) shared_part (shared_after_refill (content_in hand shared_part) moved)) (contents_after contents t (Refill moved)))
      (sym (at_hand (own_part t) may.thread own.0 own.1))
      (subst (λ c. IsAsHand limits words contents lists t (changed (changed hand (own_part t) (own_after_refill (content (own_part t)) moved)) shared_part (shared_after_refill c moved)) (contents_after contents t (Refill moved)))
      (sym (at_hand shared_part may.thread shared.0 shared.1))
      (two_parts may.thread (own_part t) shared_part (own_after_refill (content (own_part t)) moved) (shared_after_refill (content shared_part) moved) own.0 own.1 shared.0 shared.1
      (sorted_itself (moved ++ content (own_part t))) (sorted_minus moved (content shared_part) (kept.ascending shared_part shared.0))))
  by_event (Steal victim moved) may =
      let own = named (own_part t) may.commit.held.own may.thread may.commit.held.holds_own in
      let from = named (own_part victim) may.commit.held.other may.thread may.commit.held.holds_other in
      subst (λ c. IsAsHand limits words contents lists t (changed (changed hand (own_part t) (own_after_steal c moved)) (own_part victim) (victim_after_steal (content_in hand (own_part victim)) moved)) (contents_after contents t (Steal victim moved)))
      (sym (at_hand (own_part t) may.thread own.0 own.1))
      (subst (λ c. IsAsHand limits words contents lists t (changed (changed hand (own_part t) (own_after_steal (content (own_part t)) moved)) (own_part victim) (victim_after_steal c moved)) (contents_after contents t (Steal victim moved)))
      (sym (at_hand (own_part victim) may.thread from.0 from.1))
      (two_parts may.thread (own_part t) (own_part victim) (own_after_steal (content (own_part t)) moved) (victim_after_steal (content (own_part victim)) moved) own.0 own.1 from.0 from.1
      (sorted_itself (moved ++ content (own_part t))) (sorted_minus moved (content (own_part victim)) (kept.ascending (own_part victim) from.0))))
  by_event (Share moved) may =
      let own = named (own_part t) may.commit.own may.thread may.commit.holds_own in
      let shared = named shared_part may.commit.other may.thread may.commit.holds_other in
      subst (λ c. IsAsHand limits words contents lists t (changed (changed hand (own_part t) (own_after_share c moved)) shared_part (shared_after_share (content_in hand shared_part) moved)) (contents_after contents t (Share moved)))
      (sym (at_hand (own_part t) may.thread own.0 own.1))
      (subst (λ c. IsAsHand limits words contents lists t (changed (changed hand (own_part t) (own_after_share (content (own_part t)) moved)) shared_part (shared_after_share c moved)) (contents_after contents t (Share moved)))
      (sym (at_hand shared_part may.thread shared.0 shared.1))
      (two_parts may.thread (own_part t) shared_part (own_after_share (content (own_part t)) moved) (shared_after_share (content shared_part) moved) own.0 own.1 shared.0 shared.1
      (sorted_minus moved (content (own_part t)) (kept.ascending (own_part t) own.0)) (sorted_itself (moved ++ content shared_part))))

-- after a commit
pub kept_committed : (limits : Limits) (words : List ℕ) (contents : List (List Item)) (lists : List (List Entry)) (t : ℕ) (event : Event)
    → IsKept limits words contents lists → MayStep limits (world_of words contents lists) (Commit t event)
    → (world_of words (contents_after contents t event) (lists_with lists t (Committed event)) ≡ next (world_of words contents lists) (Commit t event))
    × IsKept limits words (contents_after contents t event) (lists_with lists t (Committed event))
kept_committed limits words contents lists t event kept may =
    as_hand_committed limits words contents lists t kept may.thread event (contents_after contents t event) may (by_event limits words contents lists t kept event may)

-- the contents after a Take of an item that the own part has
pub contents_taken : (contents : List (List Item)) (t : ℕ) (x : Item) → 0 < times x (get_or contents (t + 1) []) → contents_after contents t (Take x) ≡ set contents (t + 1) (minus (get_or contents (t + 1) []) (x ∷ []))
contents_taken contents t x has =
    let own : List Item = get_or contents (t + 1) [] in
    let some : times x own ≢ 0 = λ none. omega (arith, has, none) in
    let now : List (List Item) = set contents (t + 1) (without x own) in
    ap (λ b. set now 0 (cond b (without x (get_or contents 0 [])) (get_or contents 0 []))) (ne_eqb (times x own) 0 some)
    ∙ (ap (set now 0) (sym (get_or-set_other contents (t + 1) 0 (without x own) [] (λ bad. omega (arith, bad)))) ∙ set-get_or now 0 [])

-- and where the own part has no such item
pub contents_taken_shared : (contents : List (List Item)) (t : ℕ) (x : Item) → times x (get_or contents (t + 1) []) ≡ 0 → contents_after contents t (Take x) ≡ set contents 0 (minus (get_or contents 0 []) (x ∷ []))
contents_taken_shared contents t x none =
    let own : List Item = get_or contents (t + 1) [] in
    ap (λ b. set (set contents (t + 1) (without x own)) 0 (cond b (without x (get_or contents 0 [])) (get_or contents 0 []))) (eq-eqb (times x own) 0 none)
    ∙ ap (λ now. set now 0 (without x (get_or contents 0 []))) (ap (set contents (t + 1)) (without_uncounted x own none) ∙ set-get_or contents (t + 1) [])
