-- Which events leave the front, and the steps on the front word keep the rule.
use Rattle.std.proofs.Common.{◌≡◌, ◌≢◌, ℕ, ◌+◌, ◌<◌, ◌≤◌, List, [], ◌∷◌, ◌++◌, map, length, set, Bool, true, false, refl, sym, ap, ◌∙◌, subst, ltb}
use Rattle.std.specs.Prelude.{MatchBool, unwrap_or}
use Rattle.std.proofs.lemmas.Bool.{ltb-true}
use mathlib.Core.Option.{none, some}
use lib.ListN.{get_elem?}
use lib.Seq.{set-get_or}
use Rattle.atomic_table.specs.Table.{State, Me, step, keeps, Allows}
use Rattle.atomic_table.proofs.Lists.{set_here, set_else}
use Rattle.klsm_run.specs.declared.item.Item.{Item}
use Rattle.klsm_parts.specs.Least.{IsLeast}
use Rattle.klsm_parts.specs.Events.{front_of}
use Rattle.klsm_schedules.specs.declared.step.Event.{Event}
use Rattle.klsm_schedules.specs.declared.step.Event.TheVariants.{Put, Flush, Take, Early, Nothing, Spy, Refill, Steal, Share}
use Rattle.klsm_schedules.specs.declared.step.Entry.{Entry}
use Rattle.klsm_schedules.specs.declared.step.Entry.TheVariants.{Committed, Looked}
use Rattle.klsm_schedules.specs.declared.step.Step.{Step as WorldStep}
use Rattle.klsm_schedules.specs.declared.step.Step.TheVariants.{Commit, Look}
use Rattle.klsm_schedules.specs.OwnSteps.{Hand, Holds, found_in, content_in, own_part, shared_part, hand_of, inserted}
use Rattle.klsm_schedules.specs.LegalSteps.{MayCommit}
use Rattle.klsm_schedules.specs.Worlds.{Limits, World, steps_of, hand_in, content_of}
use Rattle.klsm_schedules.specs.LawfulWorlds.{IsLawful}
use Rattle.klsm_schedules.specs.Schedules.{NamesFront, MayStep, front_after, Leads}
use Rattle.klsm_schedules.proofs.lemmas.hands.PartContentLemmas.{content_held}
use Rattle.klsm_schedules.proofs.lemmas.theorems.RunLemmas.{schedules_keep_lawful}
use Rattle.klsm_board.specs.declared.sizes.Sizes.{Sizes}
use Rattle.klsm_board.specs.declared.rule.Own.{Own}
use Rattle.klsm_board.specs.declared.rule.View.{View}
use Rattle.klsm_board.specs.Rule.{place, lock_words, front_word, world_limits, content_at, board_world, Ruled}
use Rattle.klsm_board.specs.Steps.{AreReached, gain, glanced, looked, set_front}
use Rattle.klsm_board.specs.Seats.{QuotaAllows, LeavesShared, SetsFront}
use Rattle.klsm_board.proofs.lemmas.table.PlaceLemmas.{locks_stay, front_set_at}
use Rattle.klsm_board.proofs.lemmas.hands.WorkLemmas.{away_before_note, mark_more, marked_on, own_held_after}
use Rattle.klsm_board.proofs.lemmas.table.KeepLemmas.{Goes, world, acting, reached_now, keeps_rule, keeps_reached, same_steps, inside, few_now, few_more, room_for, stays, marks_stay, marked_now}

-- an event that leaves the shared part names no front
pub no_front : (word t : ℕ) (hand : Hand) (event : Event) → LeavesShared t hand event → NamesFront word event
no_front word t hand (Put x) leaves = tt
no_front word t hand (Flush x moved) leaves = tt
no_front word t hand (Take x) leaves = tt
no_front word t hand (Early x front) leaves = absurd leaves
no_front word t hand Nothing leaves = tt
no_front word t hand (Spy victim moved) leaves = tt
no_front word t hand (Steal victim moved) leaves = tt
no_front word t hand (Refill moved) leaves = absurd leaves
no_front word t hand (Share moved) leaves = absurd leaves

-- and leaves the front as it was
pub front_left : (limits : Limits) (w : World) (t : ℕ) (event : Event) → IsLawful limits w → MayStep limits w (Commit t event) → LeavesShared t (hand_in w t) event
    → front_after w.front t (hand_in w t) event ≡ w.front
front_left limits w t (Put x) lawful may leaves = refl
front_left limits w t (Flush x moved) lawful may leaves = absurd leaves
front_left limits w t (Take x) lawful may leaves =
    let both = may.commit in
    let held : content_in (hand_in w t) shared_part ≡ both.other = ap (λ o. unwrap_or o []) both.holds_other in
    ap front_of (leaves ∙ (held ∙ sym (content_held limits w t shared_part both.other lawful.agreed may.thread both.holds_other))) ∙ sym lawful.front_is
front_left limits w t (Early x front) lawful may leaves = absurd leaves
front_left limits w t Nothing lawful may leaves = refl
front_left limits w t (Spy victim moved) lawful may leaves = refl
front_left limits w t (Steal victim moved) lawful may leaves = refl
front_left limits w t (Refill moved) lawful may leaves = absurd leaves
front_left limits w t (Share moved) lawful may leaves = absurd leaves

-- an event that sets the front names none, and sets it to what it leaves
pub front_named : (word t : ℕ) (hand : Hand) (event : Event) (front : ℕ) → SetsFront t hand event front → NamesFront word event
front_named word t hand (Put x) front sets = absurd sets
front_named word t hand (Flush x moved) front sets = tt
front_named word t hand (Take x) front sets = tt
front_named word t hand (Early x least) front sets = absurd sets
front_named word t hand Nothing front sets = absurd sets
front_named word t hand (Spy victim moved) front sets = absurd sets
front_named word t hand (Steal victim moved) front sets = absurd sets
front_named word t hand (Refill moved) front sets = tt
front_named word t hand (Share moved) front sets = tt

front_is_set : (word t : ℕ) (hand : Hand) (event : Event) (front : ℕ) → SetsFront t hand event front → front ≡ front_after word t hand event
front_is_set word t hand (Put x) front sets = absurd sets
front_is_set word t hand (Flush x moved) front sets = sets
front_is_set word t hand (Take x) front sets = sets.1
front_is_set word t hand (Early x least) front sets = absurd sets
front_is_set word t hand Nothing front sets = absurd sets
front_is_set word t hand (Spy victim moved) front sets = absurd sets
front_is_set word t hand (Steal victim moved) front sets = absurd sets
front_is_set word t hand (Refill moved) front sets = sets
front_is_set word t hand (Share moved) front sets = sets

module _ {S : Type 0} (content : S → List Item) (suits : ℕ → ℕ → S → Type 0) (m : Sizes) where
  module _ (s : State S View) (r : Ruled content suits m s) (id t : ℕ) (xs : List Entry) (behind : List Own) (at : get_elem? s.views id ≡ some (acting content suits m t xs behind)) (lt : t < m.threads)
      (slots : ℕ) (cs : List (ℕ × S)) where
    abbrev w0 : World
    w0 = world content suits m s r.lists

    -- the front is set, and some event that fits is committed by it
    sets : (fits : Event → Type 0) (e : Event) (front : ℕ) → fits e → MayCommit m.k t (hand_of t xs) (length (inserted xs)) e → QuotaAllows m.quota xs e → SetsFront t (hand_of t xs) e front
        → Goes content suits m s id (m.threads + 1) cs (λ _. set_front fits m t (step slots (place (m.threads + 1)) front 0 none) (acting content suits m t xs behind, cs) front) front
    sets fits e front fit may room set_by =
        let same : steps_of w0 t ≡ xs = same_steps content suits m s r id t xs behind at lt in
        let es : List Entry = xs ++ Committed e ∷ [] in
        let ls : List (List Entry) = set r.lists t es in
        let ms : List WorldStep = Commit t e ∷ r.schedule in
        let ws : List ℕ = set s.words (place (m.threads + 1)) front in
        let may' : MayCommit m.k t (hand_of t (steps_of w0 t)) (length (inserted (steps_of w0 t))) e = subst (λ z. MayCommit m.k t (hand_of t z) (length (inserted z)) e) (sym same) may in
        let set' : SetsFront t (hand_of t (steps_of w0 t)) e front = subst (λ z. SetsFront t (hand_of t z) e front) (sym same) set_by in
        let led : Leads (world_limits m) ms (board_world content (lock_words m ws) (front_word m ws) s.homes ls) = record {
          before = w0;
          led = r.leads;
          legal = record { thread = lt; commit = may'; front = front_named w0.front t (hand_of t xs) e front set_by };
          after = λ i. record { words = locks_stay m s.words front i; front = (front_set_at m s.words front r.wide ∙ front_is_set w0.front t (hand_of t (steps_of w0 t)) e front set') i; homes = map (content_at content) s.homes; lists = set r.lists t (sym same i ++ Committed e ∷ []) };
        } in
        let stands : get_elem? ls t ≡ some es = set_here r.lists t es (inside content suits m s r id t xs behind at lt) in
        let else : (u : ℕ) → u ≢ t → get_elem? ls u ≡ get_elem? r.lists u = (λ u d. set_else r.lists t u es d) in
        let few : length (inserted es) ≤ m.quota = room_for m.quota xs e room (few_now content suits m s r id t xs behind at lt) in (
          acting content suits m t es behind,
          keeps,
          tt,
          keeps_rule content suits m s r id t xs es behind at lt ws s.homes ls ms (stays content suits m s r id t xs behind at lt (m.threads + 1) front) led stands else r.suited few
              (marks_stay content suits m s r id t xs behind at lt (m.threads + 1) front es ls stands else (mark_more xs (Committed e)))
              (λ gone. absurd (own_held_after m.k t (length (inserted xs)) xs e may gone)),
          (e, fit, refl, keeps_reached content suits m s r id t xs es behind at lt ws s.homes ls ms led stands else few),
        )

    -- the front is loaded, and the least item of the own part is deleted where its key is below it
    looks_below : (own : List Item) (x : Item) → Holds (hand_of t xs) (own_part t) own → IsLeast x own → ltb x.key (front_word m s.words) ≡ true
        → Goes content suits m s id (m.threads + 1) cs (looked x m t (step slots (place (m.threads + 1)) 0 0 none) (acting content suits m t xs behind, cs)) (front_word m s.words)
    looks_below own x holds least below =
        let n : ℕ = front_word m s.words in
        let e : Event = Early x n in
        let same : steps_of w0 t ≡ xs = same_steps content suits m s r id t xs behind at lt in
        let es : List Entry = xs ++ Committed e ∷ [] in
        let ls : List (List Entry) = set r.lists t es in
        let ms : List WorldStep = Commit t e ∷ r.schedule in
        let ws : List ℕ = set s.words (place (m.threads + 1)) n in
        let holds' : Holds (hand_of t (steps_of w0 t)) (own_part t) own = ap (λ z. found_in (hand_of t z) (own_part t)) same ∙ holds in
        let led : Leads (world_limits m) ms (board_world content (lock_words m ws) (front_word m ws) s.homes ls) = record {
          before = w0;
          led = r.leads;
          legal = record { thread = lt; commit = record { own = own; holds_own = holds'; fits = record { least = least; below = ltb-true x.key n below } }; front = refl };
          after = λ i. record { words = lock_words m (set-get_or s.words (place (m.threads + 1)) 0 i); front = front_word m (set-get_or s.words (place (m.threads + 1)) 0 i); homes = map (content_at content) s.homes; lists = set r.lists t (sym same i ++ Committed e ∷ []) };
        } in
        let stands : get_elem? ls t ≡ some es = set_here r.lists t es (inside content suits m s r id t xs behind at lt) in
        let else : (u : ℕ) → u ≢ t → get_elem? ls u ≡ get_elem? r.lists u = (λ u d. set_else r.lists t u es d) in
        let few = few_more content suits m s r id t xs behind at lt (Committed e) refl in
        let now : Me S View = (acting content suits m t es behind, cs) in
        let before : Me S View = (acting content suits m t xs behind, cs) in
        let seen = reached_now content suits m s r id t xs behind at lt in
        let Took : Type 0 = (now ≡ (gain (before.0) (Committed e), cs)) × AreReached m t now.0 × ((z : AreReached m t before.0) × (z.world.front ≡ n)) in (
          acting content suits m t es behind,
          keeps,
          tt,
          keeps_rule content suits m s r id t xs es behind at lt ws s.homes ls ms (stays content suits m s r id t xs behind at lt (m.threads + 1) n) led stands else r.suited few
              (marks_stay content suits m s r id t xs behind at lt (m.threads + 1) n es ls stands else (mark_more xs (Committed e)))
              (λ gone. absurd (own_held_after m.k t (length (inserted xs)) xs e (record { own = own; holds_own = holds; fits = record { least = least; below = ltb-true x.key n below } }) gone)),
          subst (λ b. MatchBool b Took ((now ≡ (gain before.0 (Looked n), cs)) × AreReached m t now.0)) (sym below) (refl, keeps_reached content suits m s r id t xs es behind at lt ws s.homes ls ms led stands else few, (seen.0, ap (λ (w : World). w.front) seen.1)),
        )

    -- the front is loaded, and the look noted
    notes : Ruled content suits m (record { words = set s.words (place (m.threads + 1)) (front_word m s.words); homes = s.homes; views = set s.views id (acting content suits m t (xs ++ Looked (front_word m s.words) ∷ []) behind) })
        × AreReached m t (acting content suits m t (xs ++ Looked (front_word m s.words) ∷ []) behind)
    notes =
        let n : ℕ = front_word m s.words in
        let same : steps_of w0 t ≡ xs = same_steps content suits m s r id t xs behind at lt in
        let es : List Entry = xs ++ Looked n ∷ [] in
        let ls : List (List Entry) = set r.lists t es in
        let ms : List WorldStep = Look t ∷ r.schedule in
        let ws : List ℕ = set s.words (place (m.threads + 1)) n in
        let led : Leads (world_limits m) ms (board_world content (lock_words m ws) (front_word m ws) s.homes ls) = record {
          before = w0;
          led = r.leads;
          legal = record { thread = lt };
          after = λ i. record { words = lock_words m (set-get_or s.words (place (m.threads + 1)) 0 i); front = front_word m (set-get_or s.words (place (m.threads + 1)) 0 i); homes = map (content_at content) s.homes; lists = set r.lists t (sym same i ++ Looked n ∷ []) };
        } in
        let stands : get_elem? ls t ≡ some es = set_here r.lists t es (inside content suits m s r id t xs behind at lt) in
        let else : (u : ℕ) → u ≢ t → get_elem? ls u ≡ get_elem? r.lists u = (λ u d. set_else r.lists t u es d) in
        let few = few_more content suits m s r id t xs behind at lt (Looked n) refl in (
          keeps_rule content suits m s r id t xs es behind at lt ws s.homes ls ms (stays content suits m s r id t xs behind at lt (m.threads + 1) n) led stands else r.suited few
              (marks_stay content suits m s r id t xs behind at lt (m.threads + 1) n es ls stands else (mark_more xs (Looked n)))
              (λ gone. marked_on xs (Looked n) (λ _. refl) (λ _. refl) (marked_now content suits m s r id t xs behind at lt (away_before_note t (Looked n) xs (λ _. refl) gone))),
          keeps_reached content suits m s r id t xs es behind at lt ws s.homes ls ms led stands else few,
        )

    -- the least item of the own part stays where its key is not below the front
    looks_only : (x : Item) → ltb x.key (front_word m s.words) ≡ false
        → Goes content suits m s id (m.threads + 1) cs (looked x m t (step slots (place (m.threads + 1)) 0 0 none) (acting content suits m t xs behind, cs)) (front_word m s.words)
    looks_only x above =
        let n : ℕ = front_word m s.words in
        let before : Me S View = (acting content suits m t xs behind, cs) in
        let now : Me S View = (acting content suits m t (xs ++ Looked n ∷ []) behind, cs) in
        let Took : Type 0 = (now ≡ (gain before.0 (Committed (Early x n)), cs)) × AreReached m t now.0 × ((z : AreReached m t before.0) × (z.world.front ≡ n)) in (
          now.0,
          keeps,
          tt,
          notes.0,
          subst (λ b. MatchBool b Took ((now ≡ (gain before.0 (Looked n), cs)) × AreReached m t now.0)) (sym above) (refl, notes.1),
        )

    -- the front is loaded, whatever the own part has
    glances : Goes content suits m s id (m.threads + 1) cs (glanced m t (step slots (place (m.threads + 1)) 0 0 none) (acting content suits m t xs behind, cs)) (front_word m s.words)
    glances =
        let lawful : IsLawful (world_limits m) w0 = schedules_keep_lawful (world_limits m) r.schedule w0 r.leads in
        let seen = reached_now content suits m s r id t xs behind at lt in (
          acting content suits m t (xs ++ Looked (front_word m s.words) ∷ []) behind,
          keeps,
          tt,
          notes.0,
          (
            refl,
            notes.1,
            record { reached = seen.0; front_is = lawful.front_is ∙ ap (λ (w : World). front_of (content_of w shared_part)) (sym seen.1) },
          ),
        )

  -- an event that sets the front is committed by the store of it
  pub set_allows : (fits : Event → Type 0) (slots id t : ℕ) (xs : List Entry) (behind : List Own) (cs : List (ℕ × S)) (e : Event) (front : ℕ) → fits e → t < m.threads → MayCommit m.k t (hand_of t xs) (length (inserted xs)) e
      → QuotaAllows m.quota xs e → SetsFront t (hand_of t xs) e front
      → Allows (Ruled content suits m) slots id (acting content suits m t xs behind, cs) (place (m.threads + 1)) (λ _. front) (λ _. set_front fits m t (step slots (place (m.threads + 1)) front 0 none) (acting content suits m t xs behind, cs) front)
  set_allows fits slots id t xs behind cs e front fit lt may room set_by s r deep at small = sets s r id t xs behind at lt slots cs fits e front fit may room set_by

  -- the least item of the own part is deleted by a load of the front, where its key is below it
  pub look_allows : (slots id t : ℕ) (xs : List Entry) (behind : List Own) (cs : List (ℕ × S)) (own : List Item) (x : Item) → t < m.threads → Holds (hand_of t xs) (own_part t) own → IsLeast x own
      → Allows (Ruled content suits m) slots id (acting content suits m t xs behind, cs) (place (m.threads + 1)) (λ n. n) (looked x m t (step slots (place (m.threads + 1)) 0 0 none) (acting content suits m t xs behind, cs))
  look_allows slots id t xs behind cs own x lt holds least s r deep at small = by_test (ltb x.key (front_word m s.words)) refl
    where
      by_test : (b : Bool) → ltb x.key (front_word m s.words) ≡ b
          → Goes content suits m s id (m.threads + 1) cs (looked x m t (step slots (place (m.threads + 1)) 0 0 none) (acting content suits m t xs behind, cs)) (front_word m s.words)
      by_test true is = looks_below s r id t xs behind at lt slots cs own x holds least is
      by_test false is = looks_only s r id t xs behind at lt slots cs x is

  -- a load of the front alone
  pub glance_allows : (slots id t : ℕ) (xs : List Entry) (behind : List Own) (cs : List (ℕ × S)) → t < m.threads
      → Allows (Ruled content suits m) slots id (acting content suits m t xs behind, cs) (place (m.threads + 1)) (λ n. n) (glanced m t (step slots (place (m.threads + 1)) 0 0 none) (acting content suits m t xs behind, cs))
  glance_allows slots id t xs behind cs lt s r deep at small = glances s r id t xs behind at lt slots cs
