-- A try to acquire a part keeps the rule, and so does a look at its lock.
use Rattle.std.proofs.Common.{◌≡◌, ◌≢◌, ℕ, ◌+◌, ◌-◌, ◌<◌, ◌≤◌, ◌==◌, List, [], ◌∷◌, ◌++◌, map, get_or, set, sym, refl, ap, ◌∙◌, subst, ⊎_elim, eq-eqb, ne_eqb, arith}
use Rattle.std.specs.Prelude.{MatchBool, Some, None}
use mathlib.Core.Option.{none, some, some-ne-none}
use mathlib.Core.Logic.{dite}
use native.Mathlib.Decide.{ℕ_discrete}
use lib.ListN.{get_elem?}
use lib.Seq.{set-get_or, map-set}
use prog.Atomic.{either}
use Rattle.std.proofs.lemmas.Option.{none-some}
use Rattle.atomic_table.specs.Table.{State, Me, step, keeps, takes, Allows}
use Rattle.atomic_table.proofs.Lists.{at_set, set_here, set_else, set_again, exchanged}
use Rattle.klsm_run.specs.declared.item.Item.{Item}
use Rattle.klsm_schedules.specs.declared.step.Entry.{Entry}
use Rattle.klsm_schedules.specs.declared.step.Entry.TheVariants.{Acquired, Missed}
use Rattle.klsm_schedules.specs.declared.step.Step.{Step as WorldStep}
use Rattle.klsm_schedules.specs.declared.step.Step.TheVariants.{Acquire, Miss}
use Rattle.klsm_schedules.specs.OwnSteps.{HoldsSome, found_in, hand_of}
use Rattle.klsm_schedules.specs.Worlds.{World, steps_of, hand_in, home_of}
use Rattle.klsm_schedules.specs.Schedules.{Leads}
use Rattle.std.specs.Prelude.{unwrap_or}
use Rattle.klsm_board.specs.declared.sizes.Sizes.{Sizes}
use Rattle.klsm_board.specs.declared.rule.Own.{Own}
use Rattle.klsm_board.specs.declared.rule.View.{View}
use Rattle.klsm_board.specs.Rule.{place, lock_words, front_word, world_limits, content_at, board_world, Ruled}
use Rattle.klsm_board.specs.Steps.{AreReached, HasHolder, on_part, gain, is_reached, missed, attempted, watched}
use Rattle.klsm_board.proofs.lemmas.table.PlaceLemmas.{at_place, front_stays}
use Rattle.klsm_board.proofs.lemmas.hands.WorkLemmas.{away_before_acquire, away_before_note, mark_more, marked_on}
use Rattle.klsm_board.proofs.lemmas.table.KeepLemmas.{Goes, world, acting, home_back, keeps_rule, keeps_reached, reached_now, agrees, same_steps, inside, few_more, word_is, word_set, stays, marks_stay, marked_now}

module _ {S : Type 0} (content : S → List Item) (suits : ℕ → ℕ → S → Type 0) (m : Sizes) where
  module _ (s : State S View) (r : Ruled content suits m s) (id t : ℕ) (xs : List Entry) (behind : List Own) (at : get_elem? s.views id ≡ some (acting content suits m t xs behind)) (lt : t < m.threads)
      (slots p : ℕ) (cs : List (ℕ × S)) (le : p ≤ m.threads) (away : found_in (hand_of t xs) p ≡ None) where
    abbrev w0 : World
    w0 = world content suits m s r.lists

    abbrev me0 : Me S View
    me0 = (acting content suits m t xs behind, cs)

    abbrev Outcome : ℕ → Me S View → Type 0
    Outcome = on_part (attempted content suits m t) (step slots (place p) 0 (t + 1) none) me0

    abbrev Seen : ℕ → Me S View → Type 0
    Seen = on_part (watched m t) (step slots (place p) 0 0 none) me0

    -- what a step tells by which a part is missed: where the word is 0, this holds of the part
    abbrev Missing : (ℕ → Me S View → Type 0) → ℕ → Me S View → Type 0
    Missing free n me' = (q : ℕ) → place q ≡ place p → MatchBool (n == 0) (free q me') (missed m t (step slots q 0 0 none) me0 n me') × is_reached m t me'

    -- the part is free, and comes to the seat
    wins : get_or s.words (place p) 0 ≡ 0 → Goes content suits m s id p cs Outcome (t + 1)
    wins e =
        let a = agrees content suits m s r id t xs behind at lt in
        let same = same_steps content suits m s r id t xs behind at lt in
        let free : get_or (lock_words m s.words) p 0 ≡ 0 = word_is content suits m s r id t xs behind at lt p le ∙ e in
        let f = a.free p le free in
        let b = home_back content suits m s.homes p f.0 f.1 in
        let y : S = b.0 in
        let es : List Entry = xs ++ Acquired p (content y) ∷ [] in
        let ls : List (List Entry) = set r.lists t es in
        let ms : List WorldStep = Acquire t p ∷ r.schedule in
        let ws : List ℕ = set s.words (place p) (t + 1) in
        let hc : content y ≡ unwrap_or (home_of w0 p) [] = b.2 ∙ sym (ap (λ z. unwrap_or z []) f.1) in
        let led : Leads (world_limits m) ms (board_world content (lock_words m ws) (front_word m ws) (set s.homes p none) ls) = record {
          before = w0;
          led = r.leads;
          legal = record { thread = lt; part = le; free = free };
          after = λ i. record { words = word_set content suits m s r id t xs behind at lt p (t + 1) le i; front = front_stays m s.words p (t + 1) le i; homes = map-set (content_at content) s.homes p none i; lists = set r.lists t (sym same i ++ Acquired p (hc i) ∷ []) };
        } in
        let old_suits = r.suited in
        let stands : get_elem? ls t ≡ some es = set_here r.lists t es (inside content suits m s r id t xs behind at lt) in
        let else : (u : ℕ) → u ≢ t → get_elem? ls u ≡ get_elem? r.lists u = (λ u n. set_else r.lists t u es n) in
        let few = few_more content suits m s r id t xs behind at lt (Acquired p (content y)) refl in
        let reached : AreReached m t (acting content suits m t es behind) = keeps_reached content suits m s r id t xs es behind at lt ws (set s.homes p none) ls ms led stands else few in
        let now : Me S View = (acting content suits m t es behind, (p, y) ∷ cs) in
        let lost : Me S View = (gain me0.0 (Missed p (get_or s.words (place p) 0 - 1)), cs) in
        let won : S → Me S View = (λ z. (gain me0.0 (Acquired p (content z)), (p, z) ∷ cs)) in (
          acting content suits m t es behind,
          takes p y,
          b.1,
          keeps_rule content suits m s r id t xs es behind at lt ws (set s.homes p none) ls ms (stays content suits m s r id t xs behind at lt p (t + 1)) led stands else
              (λ q z h. ⊎_elim (λ (k : (q ≡ p) × (none ≡ some z)). absurd (some-ne-none z (sym k.1))) (λ (k : (q ≢ p) × (get_elem? s.homes q ≡ some (some z))). old_suits q z k.1) (at_set s.homes p q none (some z) h))
              few
              (marks_stay content suits m s r id t xs behind at lt p (t + 1) es ls stands else (mark_more xs (Acquired p (content y))))
              (λ gone. marked_on xs (Acquired p (content y)) (λ _. refl) (λ _. refl) (marked_now content suits m s r id t xs behind at lt (away_before_acquire t p (content y) xs gone))),
          at_place (λ q. attempted content suits m t (step slots q 0 (t + 1) none) me0 (get_or s.words (place p) 0) now) p (
            subst (λ b'. MatchBool b' ((z : S) × suits m.k p z × (now ≡ won z)) ((now ≡ lost) × (get_or s.words (place p) 0 ≤ m.threads) × HasHolder m t me0.0 p (get_or s.words (place p) 0 - 1)))
                (sym (eq-eqb (get_or s.words (place p) 0) 0 e))
                (y, old_suits p y b.1, refl),
            reached,
          ),
        )

    -- the part is free, and nothing changes
    sees_free : get_or s.words (place p) 0 ≡ 0 → Goes content suits m s id p cs Seen (get_or s.words (place p) 0)
    sees_free e =
        let n : ℕ = get_or s.words (place p) 0 in (
          me0.0,
          keeps,
          tt,
          subst (λ (z : List ℕ × List View). Ruled content suits m (record { words = z.0; homes = s.homes; views = z.1 })) (λ i. (sym (set-get_or s.words (place p) 0) i, sym (set_again s.views id me0.0 at) i)) r,
          at_place (λ q. watched m t (step slots q 0 0 none) me0 n me0) p (
            subst (λ b'. MatchBool b' (me0 ≡ me0) (missed m t (step slots p 0 0 none) me0 n me0)) (sym (eq-eqb n 0 e)) refl,
            (reached_now content suits m s r id t xs behind at lt).0,
          ),
        )

    -- another thread holds it, whatever is told where it is free
    loses : (free : ℕ → Me S View → Type 0) → get_or s.words (place p) 0 ≢ 0 → Goes content suits m s id p cs (Missing free) (get_or s.words (place p) 0)
    loses free ne =
        let a = agrees content suits m s r id t xs behind at lt in
        let same = same_steps content suits m s r id t xs behind at lt in
        let n : ℕ = get_or s.words (place p) 0 in
        let same_word : get_or (lock_words m s.words) p 0 ≡ n = word_is content suits m s r id t xs behind at lt p le in
        let ne' : get_or (lock_words m s.words) p 0 ≢ 0 = (λ z. ne (sym same_word ∙ z)) in
        let k = a.held p le ne' in
        let some_of = k.held in
        let by : n ≡ k.by + 1 = sym same_word ∙ k.word in
        let other : n ≢ t + 1 = (λ e. let u_is : k.by ≡ t = omega (arith, by, e) in
        let had : found_in (hand_of t xs) p ≡ Some some_of.content = ap (λ z. found_in (hand_of t z) p) (sym same) ∙ (ap (λ z. found_in (hand_of z (steps_of w0 z)) p) (sym u_is) ∙ some_of.holds) in none-some some_of.content (sym away ∙ had)) in
        let small : n ≤ m.threads = (let l = k.thread in omega (arith, by, l)) in
        let by_is : k.by ≡ n - 1 = omega (arith, by) in
        let seen = reached_now content suits m s r id t xs behind at lt in
        let holder : HasHolder m t me0.0 p (n - 1) = record {
          reached = seen.0;
          thread = subst (λ u. u < m.threads) by_is k.thread;
          another = λ is. other (by ∙ ap (λ u. u + 1) (by_is ∙ is));
          holds = subst (λ (z : World × ℕ). HoldsSome (hand_in z.0 z.1) p) (λ i. (sym seen.1 i, by_is i)) some_of;
        } in
        let es : List Entry = xs ++ Missed p (n - 1) ∷ [] in
        let ls : List (List Entry) = set r.lists t es in
        let ms : List WorldStep = Miss t p ∷ r.schedule in
        let ws : List ℕ = set s.words (place p) n in
        let led : Leads (world_limits m) ms (board_world content (lock_words m ws) (front_word m ws) s.homes ls) = record {
          before = w0;
          led = r.leads;
          legal = record { thread = lt; part = le; taken = ne'; by_another = λ e. other (sym same_word ∙ e) };
          after = λ i. record { words = lock_words m (set-get_or s.words (place p) 0 i); front = front_word m (set-get_or s.words (place p) 0 i); homes = map (content_at content) s.homes; lists = set r.lists t (sym same i ++ Missed p (sym same_word i - 1) ∷ []) };
        } in
        let stands : get_elem? ls t ≡ some es = set_here r.lists t es (inside content suits m s r id t xs behind at lt) in
        let else : (u : ℕ) → u ≢ t → get_elem? ls u ≡ get_elem? r.lists u = (λ u d. set_else r.lists t u es d) in
        let few = few_more content suits m s r id t xs behind at lt (Missed p (n - 1)) refl in
        let reached : AreReached m t (acting content suits m t es behind) = keeps_reached content suits m s r id t xs es behind at lt ws s.homes ls ms led stands else few in
        let now : Me S View = (acting content suits m t es behind, cs) in (
          acting content suits m t es behind,
          keeps,
          tt,
          keeps_rule content suits m s r id t xs es behind at lt ws s.homes ls ms (stays content suits m s r id t xs behind at lt p n) led stands else r.suited few
              (marks_stay content suits m s r id t xs behind at lt p n es ls stands else (mark_more xs (Missed p (n - 1))))
              (λ gone. marked_on xs (Missed p (n - 1)) (λ _. refl) (λ _. refl) (marked_now content suits m s r id t xs behind at lt (away_before_note t (Missed p (n - 1)) xs (λ _. refl) gone))),
          at_place (λ q. MatchBool (n == 0) (free q now) (missed m t (step slots q 0 0 none) me0 n now) × is_reached m t now) p (
            subst (λ b'. MatchBool b' (free p now) (missed m t (step slots p 0 0 none) me0 n now)) (sym (ne_eqb n 0 ne)) (refl, small, holder),
            reached,
          ),
        )

  -- a try to acquire a part that is not in the thread's hand
  pub acquire_allows : (slots id p t : ℕ) (xs : List Entry) (behind : List Own) (cs : List (ℕ × S)) → t < m.threads → p ≤ m.threads → found_in (hand_of t xs) p ≡ None
      → Allows (Ruled content suits m) slots id (acting content suits m t xs behind, cs) (place p) (λ n. either (n == 0) (t + 1) n) (on_part (attempted content suits m t) (step slots (place p) 0 (t + 1) none) (acting content suits m t xs behind, cs))
  acquire_allows slots id p t xs behind cs lt le away s r deep at small = exchanged (get_or s.words (place p) 0) 0 (t + 1) (Goes content suits m s id p cs (on_part (attempted content suits m t) (step slots (place p) 0 (t + 1) none) (acting content suits m t xs behind, cs))) (wins s r id t xs behind at lt slots p cs le away)
      (loses s r id t xs behind at lt slots p cs le away (λ q me'. (y : S) × suits m.k q y × (me' ≡ (gain (acting content suits m t xs behind) (Acquired q (content y)), (q, y) ∷ cs))))

  -- a look at the lock of such a part
  pub watch_allows : (slots id p t : ℕ) (xs : List Entry) (behind : List Own) (cs : List (ℕ × S)) → t < m.threads → p ≤ m.threads → found_in (hand_of t xs) p ≡ None
      → Allows (Ruled content suits m) slots id (acting content suits m t xs behind, cs) (place p) (λ n. n) (on_part (watched m t) (step slots (place p) 0 0 none) (acting content suits m t xs behind, cs))
  watch_allows slots id p t xs behind cs lt le away s r deep at small = dite (ℕ_discrete (get_or s.words (place p) 0) 0) (sees_free s r id t xs behind at lt slots p cs le away)
      (loses s r id t xs behind at lt slots p cs le away (λ q me'. me' ≡ (acting content suits m t xs behind, cs)))
