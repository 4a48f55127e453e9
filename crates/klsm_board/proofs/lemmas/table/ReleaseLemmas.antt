-- A release of a part keeps the rule, and so does a commit with the release after it.
use Rattle.std.proofs.Common.{◌≡◌, ◌≢◌, ℕ, ◌+◌, ◌<◌, ◌≤◌, List, [], ◌∷◌, ◌++◌, map, length, length-set, set, sym, refl, ap, ◌∙◌, subst, ⊎_elim, arith}
use Rattle.std.specs.Prelude.{Some}
use mathlib.Core.Option.{none, some, some-injective}
use lib.ListN.{get_elem?}
use lib.Seq.{map-set}
use mathlib.Core.Logic.{dite}
use native.Mathlib.Decide.{ℕ_discrete}
use Rattle.atomic_table.specs.Table.{State, step, gives, Allows}
use Rattle.atomic_table.proofs.Lists.{at_set, set_here, set_else}
use Rattle.klsm_run.specs.declared.item.Item.{Item}
use Rattle.klsm_schedules.specs.declared.step.Event.{Event}
use Rattle.klsm_schedules.specs.declared.step.Entry.{Entry}
use Rattle.klsm_schedules.specs.declared.step.Entry.TheVariants.{Committed, Released}
use Rattle.klsm_schedules.specs.declared.step.Step.{Step as WorldStep}
use Rattle.klsm_schedules.specs.declared.step.Step.TheVariants.{Commit, Release}
use Rattle.klsm_schedules.specs.OwnSteps.{Holds, found_in, content_in, after_event, hand_of, inserted, own_part}
use Rattle.klsm_schedules.specs.LegalSteps.{MayCommit}
use Rattle.klsm_schedules.specs.Worlds.{World, steps_of}
use Rattle.klsm_schedules.specs.Schedules.{MayStep, front_after, Leads}
use Rattle.klsm_schedules.proofs.lemmas.theorems.RunLemmas.{schedules_keep_lawful}
use Rattle.klsm_schedules.proofs.lemmas.hands.NotedLemmas.{hand_of_more}
use Rattle.std.specs.Prelude.{unwrap_or}
use Rattle.klsm_board.specs.declared.sizes.Sizes.{Sizes}
use Rattle.klsm_board.specs.declared.rule.Own.{Own}
use Rattle.klsm_board.specs.declared.rule.View.{View}
use Rattle.klsm_board.specs.Rule.{place, lock_words, front_word, world_limits, content_at, board_world, Ruled}
use Rattle.klsm_board.specs.Steps.{on_part, released, committed}
use Rattle.klsm_board.specs.Seats.{IsMarked, QuotaAllows, LeavesShared, LeavesWork}
use Rattle.klsm_board.proofs.lemmas.hands.WorkLemmas.{away_before_release, leaves_work, mark_more, marked_on, own_held_after}
use Rattle.klsm_board.proofs.lemmas.table.PlaceLemmas.{at_place, front_stays}
use Rattle.klsm_board.proofs.lemmas.table.FrontLemmas.{no_front, front_left}
use Rattle.klsm_board.proofs.lemmas.table.KeepLemmas.{Goes, world, acting, list_at, insertions_more, room_for, IsMarkedAway, keeps_rule, keeps_reached, here, same_steps, inside, few_now, few_more, word_set, stays, marks_stay, marked_now}

module _ {S : Type 0} (content : S → List Item) (suits : ℕ → ℕ → S → Type 0) (m : Sizes) where
  module _ (s : State S View) (r : Ruled content suits m s) (id t : ℕ) (xs : List Entry) (behind : List Own) (at : get_elem? s.views id ≡ some (acting content suits m t xs behind)) (lt : t < m.threads)
      (slots p : ℕ) (y : S) (cs : List (ℕ × S)) (le : p ≤ m.threads) (suit : suits m.k p y) where
    -- the words and the homes when the part is at home again
    abbrev ws : List ℕ
    ws = set s.words (place p) 0

    -- the part goes home, from a list to which the schedule has led
    frees : (es : List Entry) (ls : List (List Entry)) (ms : List WorldStep) → Leads (world_limits m) ms (world content suits m s ls) → get_elem? ls t ≡ some es → Holds (hand_of t es) p (content y)
        → Leads (world_limits m) (Release t p ∷ ms) (board_world content (lock_words m ws) (front_word m ws) (set s.homes p (some y)) (set ls t (es ++ Released p ∷ [])))
    frees es ls ms led is has =
        let w1 : World = world content suits m s ls in
        let st : steps_of w1 t ≡ es = list_at ls t es is in
        let has' : Holds (hand_of t (steps_of w1 t)) p (content y) = ap (λ z. found_in (hand_of t z) p) st ∙ has in
        let back : content_in (hand_of t (steps_of w1 t)) p ≡ content y = ap (λ z. unwrap_or z []) has' in
        record {
          before = w1;
          led = led;
          legal = record { thread = lt; held = record { content = content y; holds = has' } };
          after = λ i. record { words = word_set content suits m s r id t xs behind at lt p 0 le i; front = front_stays m s.words p 0 le i; homes = (map-set (content_at content) s.homes p (some y) ∙ ap (λ z. set (map (content_at content) s.homes) p (Some z)) (sym back)) i; lists = set ls t (sym st i ++ Released p ∷ []) };
        }

    still_suited : (q : ℕ) (z : S) → get_elem? (set s.homes p (some y)) q ≡ some (some z) → suits m.k q z
    still_suited q z h = let old_suits = r.suited in ⊎_elim (λ (k : (q ≡ p) × (some y ≡ some z)). subst (λ (x : ℕ × S). suits m.k x.0 x.1) (λ i. (sym k.0 i, some-injective y z k.1 i)) suit)
        (λ (k : (q ≢ p) × (get_elem? s.homes q ≡ some (some z))). old_suits q z k.1) (at_set s.homes p q (some y) (some z) h)

    -- a list with a release more, where the thread has marked the key that it works at
    marked_release : (es : List Entry) → (p ≡ own_part t → IsMarked es) → IsMarkedAway content suits m t es → IsMarkedAway content suits m t (es ++ Released p ∷ [])
    marked_release es own else gone = marked_on es (Released p) (λ _. refl) (λ _. refl) (dite (ℕ_discrete p (own_part t)) own (λ n. else (away_before_release t p es (λ is. n (sym is)) gone)))

    releases : Holds (hand_of t xs) p (content y) → (p ≡ own_part t → IsMarked xs) → Goes content suits m s id p ((p, y) ∷ cs) (λ _. on_part (released m t) (step slots (place p) 0 0 none) (acting content suits m t xs behind, (p, y) ∷ cs) 0) 0
    releases has own_marked =
        let es : List Entry = xs ++ Released p ∷ [] in
        let ls : List (List Entry) = set r.lists t es in
        let ms : List WorldStep = Release t p ∷ r.schedule in
        let led = frees xs r.lists r.schedule r.leads (here content suits m s r id t xs behind at lt) has in
        let stands : get_elem? ls t ≡ some es = set_here r.lists t es (inside content suits m s r id t xs behind at lt) in
        let else : (u : ℕ) → u ≢ t → get_elem? ls u ≡ get_elem? r.lists u = (λ u d. set_else r.lists t u es d) in
        let few = few_more content suits m s r id t xs behind at lt (Released p) refl in (
          acting content suits m t es behind,
          gives,
          tt,
          keeps_rule content suits m s r id t xs es behind at lt ws (set s.homes p (some y)) ls ms (stays content suits m s r id t xs behind at lt p 0) led stands else still_suited few
              (marks_stay content suits m s r id t xs behind at lt p 0 es ls stands else (mark_more xs (Released p)))
              (marked_release xs own_marked (marked_now content suits m s r id t xs behind at lt)),
          at_place (λ q. released m t (step slots q 0 0 none) (acting content suits m t xs behind, (p, y) ∷ cs) 0 (acting content suits m t es behind, cs)) p
              (refl, keeps_reached content suits m s r id t xs es behind at lt ws (set s.homes p (some y)) ls ms led stands else few),
        )

    commits : (fits : Event → Type 0) (e : Event) → fits e → MayCommit m.k t (hand_of t xs) (length (inserted xs)) e → QuotaAllows m.quota xs e → LeavesShared t (hand_of t xs) e → Holds (after_event t (hand_of t xs) e) p (content y) → (p ≡ own_part t → IsMarked xs × LeavesWork e)
        → Goes content suits m s id p ((p, y) ∷ cs) (λ _. on_part (committed fits m t) (step slots (place p) 0 0 none) (acting content suits m t xs behind, (p, y) ∷ cs) 0) 0
    commits fits e fit may room leaves has own_marked =
        let w0 : World = world content suits m s r.lists in
        let same : steps_of w0 t ≡ xs = same_steps content suits m s r id t xs behind at lt in
        let within : t < length r.lists = inside content suits m s r id t xs behind at lt in
        let es1 : List Entry = xs ++ Committed e ∷ [] in
        let es : List Entry = es1 ++ Released p ∷ [] in
        let ls1 : List (List Entry) = set r.lists t es1 in
        let ls : List (List Entry) = set ls1 t es in
        let ms1 : List WorldStep = Commit t e ∷ r.schedule in
        let here1 : get_elem? ls1 t ≡ some es1 = set_here r.lists t es1 within in
        let may' : MayCommit m.k t (hand_of t (steps_of w0 t)) (length (inserted (steps_of w0 t))) e = subst (λ z. MayCommit m.k t (hand_of t z) (length (inserted z)) e) (sym same) may in
        let legal : MayStep (world_limits m) w0 (Commit t e) = record { thread = lt; commit = may'; front = no_front w0.front t (hand_of t xs) e leaves } in
        let kept : front_after w0.front t (hand_of t (steps_of w0 t)) e ≡ w0.front =
        front_left (world_limits m) w0 t e (schedules_keep_lawful (world_limits m) r.schedule w0 r.leads) legal (subst (λ z. LeavesShared t (hand_of t z) e) (sym same) leaves) in
        let led1 : Leads (world_limits m) ms1 (world content suits m s ls1) = record {
          before = w0;
          led = r.leads;
          legal = legal;
          after = λ i. record { words = lock_words m s.words; front = sym kept i; homes = map (content_at content) s.homes; lists = set r.lists t (sym same i ++ Committed e ∷ []) };
        } in
        let has1 : Holds (hand_of t es1) p (content y) = ap (λ z. found_in z p) (hand_of_more t xs (Committed e)) ∙ has in
        let led = frees es1 ls1 ms1 led1 here1 has1 in
        let stands : get_elem? ls t ≡ some es = set_here ls1 t es (let k : length ls1 ≡ length r.lists = length-set r.lists t es1 in omega (arith, k, within)) in
        let else : (u : ℕ) → u ≢ t → get_elem? ls u ≡ get_elem? r.lists u = (λ u d. set_else ls1 t u es d ∙ set_else r.lists t u es1 d) in
        let few : length (inserted es) ≤ m.quota = (let a : length (inserted es1) ≤ m.quota = room_for m.quota xs e room (few_now content suits m s r id t xs behind at lt) in let b : length (inserted es) ≡ length (inserted es1) + 0 = insertions_more es1 (Released p) in omega (arith, a, b)) in (
          acting content suits m t es behind,
          gives,
          tt,
          keeps_rule content suits m s r id t xs es behind at lt ws (set s.homes p (some y)) ls (Release t p ∷ ms1) (stays content suits m s r id t xs behind at lt p 0) led stands else still_suited few
              (marks_stay content suits m s r id t xs behind at lt p 0 es ls stands else (mark_more es1 (Released p) ∙ mark_more xs (Committed e)))
              (marked_release es1 (λ is. marked_on xs (Committed e) (λ _. refl) (leaves_work e (own_marked is).1) (own_marked is).0) (λ gone. absurd (own_held_after m.k t (length (inserted xs)) xs e may gone))),
          at_place (λ q. committed fits m t (step slots q 0 0 none) (acting content suits m t xs behind, (p, y) ∷ cs) 0 (acting content suits m t es behind, cs)) p
              (e, fit, refl, keeps_reached content suits m s r id t xs es behind at lt ws (set s.homes p (some y)) ls (Release t p ∷ ms1) led stands else few),
        )

  -- a part that the thread holds is released
  pub release_allows : (slots id p t : ℕ) (xs : List Entry) (behind : List Own) (y : S) (cs : List (ℕ × S)) → t < m.threads → p ≤ m.threads → suits m.k p y → Holds (hand_of t xs) p (content y) → (p ≡ own_part t → IsMarked xs)
      → Allows (Ruled content suits m) slots id (acting content suits m t xs behind, (p, y) ∷ cs) (place p) (λ _. 0) (λ _. on_part (released m t) (step slots (place p) 0 0 none) (acting content suits m t xs behind, (p, y) ∷ cs) 0)
  release_allows slots id p t xs behind y cs lt le suit has own_marked s r deep at small = releases s r id t xs behind at lt slots p y cs le suit has own_marked

  -- an event that fits is committed, and a part that the thread holds is released
  pub commit_allows : (fits : Event → Type 0) (slots id p t : ℕ) (xs : List Entry) (behind : List Own) (y : S) (cs : List (ℕ × S)) (e : Event) → fits e → t < m.threads → p ≤ m.threads → suits m.k p y → MayCommit m.k t (hand_of t xs) (length (inserted xs)) e
      → QuotaAllows m.quota xs e → LeavesShared t (hand_of t xs) e → Holds (after_event t (hand_of t xs) e) p (content y) → (p ≡ own_part t → IsMarked xs × LeavesWork e)
      → Allows (Ruled content suits m) slots id (acting content suits m t xs behind, (p, y) ∷ cs) (place p) (λ _. 0) (λ _. on_part (committed fits m t) (step slots (place p) 0 0 none) (acting content suits m t xs behind, (p, y) ∷ cs) 0)
  commit_allows fits slots id p t xs behind y cs e fit lt le suit may room leaves has own_marked s r deep at small = commits s r id t xs behind at lt slots p y cs le suit fits e fit may room leaves has own_marked
