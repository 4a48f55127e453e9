-- A step on the word of a mark keeps the rule: a thread sets its own, or sees that of a thread whose own part it has.
use Rattle.std.proofs.Common.{◌≡◌, ◌≢◌, ℕ, zero, suc, ◌+◌, ◌*◌, ◌-◌, ◌<◌, ◌≤◌, ◌⊎◌, List, [], ◌∷◌, ◌++◌, map, length, get_or, set, sym, refl, ap, ◌∙◌, subst, arith}
use Rattle.std.specs.Prelude.{Option, Some, None}
use mathlib.Core.Logic.{dite}
use mathlib.Core.Option.{none, some, some-injective}
use native.Mathlib.Decide.{ℕ_discrete}
use lib.ListN.{get_elem?}
use lib.Seq.{set-get_or}
use Rattle.atomic_table.specs.Table.{State, step, keeps, Allows}
use Rattle.atomic_table.proofs.Lists.{set_here, set_else}
use Rattle.klsm_run.specs.declared.item.Item.{Item}
use Rattle.klsm_schedules.specs.declared.step.Entry.{Entry}
use Rattle.klsm_schedules.specs.declared.step.Entry.TheVariants.{Marked, Saw}
use Rattle.klsm_schedules.specs.declared.step.Step.{Step as WorldStep}
use Rattle.klsm_schedules.specs.declared.step.Step.TheVariants.{Mark, See}
use Rattle.klsm_schedules.specs.OwnSteps.{Holds, HoldsSome, found_in, hand_of, mark_of, no_key, own_part, work_of}
use Rattle.klsm_schedules.specs.Worlds.{World, steps_of, hand_in}
use Rattle.klsm_schedules.specs.Schedules.{Leads}
use Rattle.klsm_board.specs.declared.sizes.Sizes.{Sizes}
use Rattle.klsm_board.specs.declared.rule.Own.{Own}
use Rattle.klsm_board.specs.declared.rule.View.{View}
use Rattle.klsm_board.specs.Rule.{mark_place, lock_words, front_word, world_limits, content_at, board_world, Ruled}
use Rattle.klsm_board.specs.Steps.{on_mark, mark_stored, saw}
use Rattle.klsm_board.specs.Seats.{IsMarked}
use Rattle.klsm_board.proofs.lemmas.hands.WorkLemmas.{away_before_note, mark_more, marked_on, work_more}
use Rattle.klsm_board.proofs.lemmas.table.PlaceLemmas.{at_mark, front_stays_marked, locks_stay_marked, mark_set, other_mark_stays, others_stay_marked}
use Rattle.klsm_board.proofs.lemmas.table.KeepLemmas.{AreMarks, world, acting, agrees, keeps_rule, keeps_reached, same_steps, inside, few_more, marks_kept, marked_now}

-- a list that there is stands in its place
list_there : (ls : List (List Entry)) (u : ℕ) → u < length ls → get_elem? ls u ≡ some (get_or ls u [])
list_there [] u lt = absurd (omega (arith, lt))
list_there (es ∷ ls) zero lt = refl
list_there (es ∷ ls) (suc u) lt = list_there ls u (omega (arith, lt))

module _ {S : Type 0} (content : S → List Item) (suits : ℕ → ℕ → S → Type 0) (m : Sizes) where
  module _ (s : State S View) (r : Ruled content suits m s) (id t : ℕ) (xs : List Entry) (behind : List Own) (at : get_elem? s.views id ≡ some (acting content suits m t xs behind)) (lt : t < m.threads) where
    abbrev w0 : World
    w0 = world content suits m s r.lists

    -- a thread whose own part another one has does not have it itself
    away_of_other : (u : ℕ) → u ≢ t → u < m.threads → HoldsSome (hand_of t xs) (own_part u) → found_in (hand_in w0 u) (own_part u) ≡ None
    away_of_other u other ltu held =
        let a = agrees content suits m s r id t xs behind at lt in
        let same = same_steps content suits m s r id t xs behind at lt in
        let mine : Holds (hand_in w0 t) (own_part u) held.content = ap (λ z. found_in (hand_of t z) (own_part u)) same ∙ held.holds in
        let name = a.named t (own_part u) held.content lt mine in
        by_found (found_in (hand_in w0 u) (own_part u)) refl (λ c has. let twice = a.named u (own_part u) c ltu has in let one = name.1 in let two = twice.1 in other (omega (arith, one, two)))
      where
        by_found : (o : Option (List Item)) → found_in (hand_in w0 u) (own_part u) ≡ o → ((c : List Item) → found_in (hand_in w0 u) (own_part u) ≡ Some c → ⊥) → found_in (hand_in w0 u) (own_part u) ≡ None
        by_found None is never = is
        by_found (Some c) is never = absurd (never c is)

    -- so the mark of a thread whose own part is in hand is the key that it works at
    mark_is_work : (u : ℕ) → u < m.threads → HoldsSome (hand_of t xs) (own_part u) → IsMarked xs → no_key - get_or s.words (mark_place u) 0 ≡ work_of (steps_of w0 u)
    mark_is_work u ltu held is =
        let a = agrees content suits m s r id t xs behind at lt in
        let fs : List Entry = steps_of w0 u in
        let many : length r.lists ≡ m.threads = a.lists_are in
        let there : get_elem? r.lists u ≡ some fs = list_there r.lists u (omega (arith, many, ltu)) in
        let marks = r.marks in let marked_away = r.marked in
        let word : get_or s.words (mark_place u) 0 + mark_of fs ≡ no_key = marks u fs there in
        let work : mark_of fs ≡ work_of fs = dite (ℕ_discrete u t)
        (λ same. subst IsMarked (sym (ap (λ z. steps_of w0 z) same ∙ same_steps content suits m s r id t xs behind at lt)) is)
        (λ other. marked_away u fs there (away_of_other u other ltu held)) in
        let rest : no_key - get_or s.words (mark_place u) 0 ≡ mark_of fs = omega (arith, word) in
        rest ∙ work

  -- a thread with its own part in hand sets its mark to the key that it works at, or to the greatest number
  pub mark_allows : (slots id t : ℕ) (xs : List Entry) (behind : List Own) (cs : List (ℕ × S)) (key : ℕ) → t < m.threads → HoldsSome (hand_of t xs) (own_part t) → (key ≡ work_of xs) ⊎ (key ≡ no_key) → key ≤ no_key
      → Allows (Ruled content suits m) slots id (acting content suits m t xs behind, cs) (mark_place t) (λ _. no_key - key) (λ _. mark_stored m t (step slots (mark_place t) (no_key - key) 0 none) (acting content suits m t xs behind, cs) (no_key - key))
  mark_allows slots id t xs behind cs key lt held key_is fits s r deep at small =
      let w0 : World = world content suits m s r.lists in
      let same : steps_of w0 t ≡ xs = same_steps content suits m s r id t xs behind at lt in
      let es : List Entry = xs ++ Marked key ∷ [] in
      let ls : List (List Entry) = set r.lists t es in
      let ms : List WorldStep = Mark t key ∷ r.schedule in
      let ws : List ℕ = set s.words (mark_place t) (no_key - key) in
      let led : Leads (world_limits m) ms (board_world content (lock_words m ws) (front_word m ws) s.homes ls) = record {
        before = w0;
        led = r.leads;
        legal = record {
          thread = lt;
          held = subst (λ z. HoldsSome (hand_of t z) (own_part t)) (sym same) held;
          key_is = subst (λ z. (key ≡ work_of z) ⊎ (key ≡ no_key)) (sym same) key_is;
        };
        after = λ i. record { words = locks_stay_marked 0 (m.threads + 1) s.words t (no_key - key) i; front = front_stays_marked m s.words t (no_key - key) i; homes = map (content_at content) s.homes; lists = set r.lists t (sym same i ++ Marked key ∷ []) };
      } in
      let stands : get_elem? ls t ≡ some es = set_here r.lists t es (inside content suits m s r id t xs behind at lt) in
      let else : (u : ℕ) → u ≢ t → get_elem? ls u ≡ get_elem? r.lists u = (λ u d. set_else r.lists t u es d) in
      let few = few_more content suits m s r id t xs behind at lt (Marked key) refl in
      let wide : length s.words ≡ (m.threads + 2) * 16 = r.wide in
      let marks = r.marks in
      let all : AreMarks content suits m ws ls = (λ u fs e. dite (ℕ_discrete u t)
      (λ is. let fs_is : es ≡ fs = some-injective es fs (sym stands ∙ (ap (λ z. get_elem? ls z) (sym is) ∙ e)) in
      let word : get_or ws (mark_place u) 0 ≡ no_key - key = ap (λ z. get_or ws (mark_place z) 0) is ∙ mark_set s.words t (no_key - key) (omega (arith, wide, lt)) in
      let mark : mark_of fs ≡ key = ap mark_of (sym fs_is) ∙ mark_more xs (Marked key) in
      omega (arith, word, mark, fits))
      (λ n. ap (λ z. z + mark_of fs) (other_mark_stays s.words t u (no_key - key) n) ∙ marks u fs (sym (else u n) ∙ e))) in (
        acting content suits m t es behind,
        keeps,
        tt,
        keeps_rule content suits m s r id t xs es behind at lt ws s.homes ls ms (others_stay_marked s.words t (no_key - key)) led stands else r.suited few all
            (λ gone. mark_more xs (Marked key) ∙ sym (work_more xs (Marked key))),
        (
          let twice : key ≡ no_key - (no_key - key) = omega (arith, fits) in (λ i. (acting content suits m t (xs ++ Marked (twice i) ∷ []) behind, cs)),
          keeps_reached content suits m s r id t xs es behind at lt ws s.homes ls ms led stands else few,
        ),
      )

  -- and a thread with another's own part in hand, or its own, sees the key that this one works at
  pub see_allows : (slots id t u : ℕ) (xs : List Entry) (behind : List Own) (cs : List (ℕ × S)) → t < m.threads → u < m.threads → HoldsSome (hand_of t xs) (own_part u) → IsMarked xs
      → Allows (Ruled content suits m) slots id (acting content suits m t xs behind, cs) (mark_place u) (λ n. n) (on_mark (saw m t) (step slots (mark_place u) 0 0 none) (acting content suits m t xs behind, cs))
  see_allows slots id t u xs behind cs lt ltu held is s r deep at small =
      let w0 : World = world content suits m s r.lists in
      let same : steps_of w0 t ≡ xs = same_steps content suits m s r id t xs behind at lt in
      let n : ℕ = get_or s.words (mark_place u) 0 in
      let key : ℕ = no_key - n in
      let es : List Entry = xs ++ Saw u key ∷ [] in
      let ls : List (List Entry) = set r.lists t es in
      let ms : List WorldStep = See t u ∷ r.schedule in
      let ws : List ℕ = set s.words (mark_place u) n in
      let words : ws ≡ s.words = set-get_or s.words (mark_place u) 0 in
      let works : key ≡ work_of (steps_of w0 u) = mark_is_work s r id t xs behind at lt u ltu held is in
      let led : Leads (world_limits m) ms (board_world content (lock_words m ws) (front_word m ws) s.homes ls) = record {
        before = w0;
        led = r.leads;
        legal = record { thread = lt; other = ltu; held = subst (λ z. HoldsSome (hand_of t z) (own_part u)) (sym same) held };
        after = λ i. record { words = lock_words m (words i); front = front_word m (words i); homes = map (content_at content) s.homes; lists = set r.lists t (sym same i ++ Saw u (works i) ∷ []) };
      } in
      let stands : get_elem? ls t ≡ some es = set_here r.lists t es (inside content suits m s r id t xs behind at lt) in
      let else : (v : ℕ) → v ≢ t → get_elem? ls v ≡ get_elem? r.lists v = (λ v d. set_else r.lists t v es d) in
      let few = few_more content suits m s r id t xs behind at lt (Saw u key) refl in (
        acting content suits m t es behind,
        keeps,
        tt,
        keeps_rule content suits m s r id t xs es behind at lt ws s.homes ls ms (others_stay_marked s.words u n) led stands else r.suited few
            (subst (λ z. AreMarks content suits m z ls) (sym words) (marks_kept content suits m s r id t xs behind at lt es ls stands else (mark_more xs (Saw u key))))
            (λ gone. marked_on xs (Saw u key) (λ _. refl) (λ _. refl) (marked_now content suits m s r id t xs behind at lt (away_before_note t (Saw u key) xs (λ _. refl) gone))),
        at_mark (λ v. saw m t (step slots v 0 0 none) (acting content suits m t xs behind, cs) n (acting content suits m t es behind, cs)) u
            (refl, keeps_reached content suits m s r id t xs es behind at lt ws s.homes ls ms led stands else few),
      )
