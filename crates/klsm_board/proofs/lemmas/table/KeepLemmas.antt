-- A seat that goes on with its list keeps the rule, wherever a schedule leads to the new world.
use Rattle.std.proofs.Common.{◌≡◌, ◌≢◌, ℕ, zero, suc, ◌+◌, ◌*◌, ◌<◌, ◌≤◌, List, [], ◌∷◌, ◌++◌, map, length, get_or, set, sym, refl, ap, ◌∙◌, subst, arith}
use Rattle.std.specs.Prelude.{Some, None}
use Rattle.std.specs.List.{flat_map}
use mathlib.Core.Option.{some, some-injective, some-ne-none}
use mathlib.Core.Option.{Option as Maybe, none}
use mathlib.Core.Logic.{dite}
use native.Mathlib.Decide.{ℕ_discrete}
use lib.ListN.{get_elem?}
use Rattle.std.proofs.lemmas.Option.{none-some, same_Some}
use Rattle.std.proofs.lemmas.List.{length-append}
use Rattle.atomic_table.specs.Table.{State, Me, Act, Valid, stepped, carried_after}
use Rattle.klsm_run.specs.declared.item.Item.{Item}
use Rattle.klsm_schedules.specs.declared.step.Event.{Event}
use Rattle.klsm_schedules.specs.declared.step.Event.TheVariants.{Put, Flush, Take, Early, Nothing, Spy, Refill, Steal, Share}
use Rattle.klsm_schedules.specs.declared.step.Entry.{Entry}
use Rattle.klsm_schedules.specs.declared.step.Entry.TheVariants.{Committed}
use Rattle.klsm_schedules.specs.declared.step.Step.{Step as WorldStep}
use Rattle.klsm_schedules.specs.OwnSteps.{found_in, hand_of, inserted, inserted_by, event_at, mark_of, no_key, own_part, work_of}
use Rattle.klsm_schedules.specs.Worlds.{World, steps_of}
use Rattle.klsm_schedules.specs.Schedules.{Leads}
use Rattle.klsm_schedules.specs.LawfulWorlds.{IsLawful, AreAgreed}
use Rattle.klsm_schedules.proofs.lemmas.counts.ItemGrowthLemmas.{items_grow}
use Rattle.klsm_schedules.proofs.lemmas.theorems.RunLemmas.{schedules_keep_lawful}
use Rattle.klsm_board.specs.declared.sizes.Sizes.{Sizes}
use Rattle.klsm_board.specs.declared.rule.View.{View}
use Rattle.klsm_board.specs.Rule.{own, view, place, mark_place, lock_words, front_word, world_limits, content_at, board_world, Ruled}
use Rattle.klsm_board.specs.declared.rule.Own.{Own}
use Rattle.klsm_board.specs.Steps.{AreReached}
use Rattle.klsm_board.specs.Seats.{QuotaAllows}
use Rattle.klsm_board.proofs.lemmas.table.PlaceLemmas.{StayBetween, others_stay, mark_stays, word_at, word_set_at}
use Rattle.klsm_board.proofs.lemmas.table.DealtLemmas.{my_list, deals_on, once_on}

-- a thread's list, as a world has it
pub list_at : (ls : List (List Entry)) (t : ℕ) (es : List Entry) → get_elem? ls t ≡ some es → get_or ls t [] ≡ es
list_at [] t es e = absurd (some-ne-none es (sym e))
list_at (x ∷ ls) zero es e = some-injective x es e
list_at (x ∷ ls) (suc t) es e = list_at ls t es e

-- where each list is within the quota, each thread's is
pub each_within : (quota : ℕ) (ls : List (List Entry)) → ((t : ℕ) (es : List Entry) → get_elem? ls t ≡ some es → length (inserted es) ≤ quota) → (t : ℕ) → length (inserted (get_or ls t [])) ≤ quota
each_within quota [] few t = omega arith
each_within quota (x ∷ ls) few zero = few 0 x refl
each_within quota (x ∷ ls) few (suc t) = each_within quota ls (λ u es e. few (suc u) es e) t

-- how many items a list with one entry more inserts
pub insertions_more : (es : List Entry) (e : Entry) → length (inserted (es ++ e ∷ [])) ≡ length (inserted es) + length (flat_map inserted_by (event_at e))
insertions_more es e = ap length (items_grow inserted_by es e) ∙ length-append (inserted es) (flat_map inserted_by (event_at e))

-- an event for which there is room keeps the list within the quota
pub room_for : (quota : ℕ) (es : List Entry) (event : Event) → QuotaAllows quota es event → length (inserted es) ≤ quota → length (inserted (es ++ Committed event ∷ [])) ≤ quota
room_for quota es (Put x) room few = let a : length (inserted (es ++ Committed (Put x) ∷ [])) ≡ length (inserted es) + 1 = insertions_more es (Committed (Put x)) in let b : length (inserted es) < quota = room (omega arith) in omega (arith, a, b)
room_for quota es (Flush x moved) room few = let a : length (inserted (es ++ Committed (Flush x moved) ∷ [])) ≡ length (inserted es) + 1 = insertions_more es (Committed (Flush x moved)) in let b : length (inserted es) < quota = room (omega arith) in omega (arith, a, b)
room_for quota es (Take x) room few = let a : length (inserted (es ++ Committed (Take x) ∷ [])) ≡ length (inserted es) + 0 = insertions_more es (Committed (Take x)) in omega (arith, a, few)
room_for quota es (Early x front) room few = let a : length (inserted (es ++ Committed (Early x front) ∷ [])) ≡ length (inserted es) + 0 = insertions_more es (Committed (Early x front)) in omega (arith, a, few)
room_for quota es Nothing room few = let a : length (inserted (es ++ Committed Nothing ∷ [])) ≡ length (inserted es) + 0 = insertions_more es (Committed Nothing) in omega (arith, a, few)
room_for quota es (Spy victim moved) room few = let a : length (inserted (es ++ Committed (Spy victim moved) ∷ [])) ≡ length (inserted es) + 0 = insertions_more es (Committed (Spy victim moved)) in omega (arith, a, few)
room_for quota es (Steal victim moved) room few = let a : length (inserted (es ++ Committed (Steal victim moved) ∷ [])) ≡ length (inserted es) + 0 = insertions_more es (Committed (Steal victim moved)) in omega (arith, a, few)
room_for quota es (Refill moved) room few = let a : length (inserted (es ++ Committed (Refill moved) ∷ [])) ≡ length (inserted es) + 0 = insertions_more es (Committed (Refill moved)) in omega (arith, a, few)
room_for quota es (Share moved) room few = let a : length (inserted (es ++ Committed (Share moved) ∷ [])) ≡ length (inserted es) + 0 = insertions_more es (Committed (Share moved)) in omega (arith, a, few)

module _ {S : Type 0} (content : S → List Item) (suits : ℕ → ℕ → S → Type 0) (m : Sizes) where
  abbrev pub St : Type 0
  St = State S View

  abbrev pub Rule : St → Type 0
  Rule = Ruled content suits m

  abbrev pub world : St → List (List Entry) → World
  world s ls = board_world content (lock_words m s.words) (front_word m s.words) s.homes ls

  -- what a seat knows that acts for thread t
  abbrev pub acting : ℕ → List Entry → List Own → View
  acting t es behind = view (own t es ∷ behind)

  -- a content at home is that of a slot
  pub home_back : (os : List (Maybe S)) (p : ℕ) (c : List Item) → get_or (map (content_at content) os) p None ≡ Some c → (y : S) × (get_elem? os p ≡ some (some y)) × (content y ≡ c)
  home_back [] p c e = absurd (none-some c e)
  home_back (none ∷ os) zero c e = absurd (none-some c e)
  home_back (some y ∷ os) zero c e = (y, refl, same_Some (content y) c e)
  home_back (o ∷ os) (suc p) c e = home_back os p c e

  -- each list is within the quota where one list has another
  within_on : (t : ℕ) (es : List Entry) (old ls : List (List Entry)) → get_elem? ls t ≡ some es → ((u : ℕ) → u ≢ t → get_elem? ls u ≡ get_elem? old u) → length (inserted es) ≤ m.quota
      → ((u : ℕ) (fs : List Entry) → get_elem? old u ≡ some fs → length (inserted fs) ≤ m.quota)
      → (u : ℕ) (fs : List Entry) → get_elem? ls u ≡ some fs → length (inserted fs) ≤ m.quota
  within_on t es old ls here else few within u fs e = dite (ℕ_discrete u t)
      (λ is. subst (λ z. length (inserted z) ≤ m.quota) (some-injective es fs (sym here ∙ (ap (λ z. get_elem? ls z) (sym is) ∙ e))) few)
      (λ n. within u fs (sym (else u n) ∙ e))

  -- what the words of the marks say of these lists
  abbrev pub AreMarks : List ℕ → List (List Entry) → Type 0
  AreMarks ws ls = (u : ℕ) (fs : List Entry) → get_elem? ls u ≡ some fs → get_or ws (mark_place u) 0 + mark_of fs ≡ no_key

  -- thread t has marked the key that it works at, where it does not have its own part
  abbrev pub IsMarkedAway : ℕ → List Entry → Type 0
  IsMarkedAway t es = found_in (hand_of t es) (own_part t) ≡ None → mark_of es ≡ work_of es

  -- each thread has, where one list has another
  marked_on_all : (t : ℕ) (es : List Entry) (old ls : List (List Entry)) → get_elem? ls t ≡ some es → ((u : ℕ) → u ≢ t → get_elem? ls u ≡ get_elem? old u) → IsMarkedAway t es
      → ((u : ℕ) (fs : List Entry) → get_elem? old u ≡ some fs → IsMarkedAway u fs)
      → (u : ℕ) (fs : List Entry) → get_elem? ls u ≡ some fs → IsMarkedAway u fs
  marked_on_all t es old ls here else now all u fs e = dite (ℕ_discrete u t)
      (λ is. subst (λ (z : ℕ × List Entry). IsMarkedAway z.0 z.1) (λ i. (sym is i, some-injective es fs (sym here ∙ (ap (λ z. get_elem? ls z) (sym is) ∙ e)) i)) now)
      (λ n. all u fs (sym (else u n) ∙ e))

  -- a seat goes on with its list, and the schedule with it
  pub keeps_rule : (s : St) (r : Rule s) (id t : ℕ) (xs es : List Entry) (behind : List Own) → get_elem? s.views id ≡ some (acting t xs behind) → t < m.threads → (ws : List ℕ) (os : List (Maybe S)) (ls : List (List Entry)) (ms : List WorldStep)
      → StayBetween s.words ws → Leads (world_limits m) ms (board_world content (lock_words m ws) (front_word m ws) os ls) → get_elem? ls t ≡ some es → ((u : ℕ) → u ≢ t → get_elem? ls u ≡ get_elem? r.lists u) → ((p : ℕ) (y : S) → get_elem? os p ≡ some (some y) → suits m.k p y)
      → length (inserted es) ≤ m.quota → AreMarks ws ls → IsMarkedAway t es
      → Rule record { words = ws; homes = os; views = set s.views id (acting t es behind) }
  keeps_rule s r id t xs es behind at lt ws os ls ms stay leads here else suited few marks marked = record {
    lists = ls;
    schedule = ms;
    wide = stay.as_many ∙ r.wide;
    between = λ i none unmarked. stay.same i none unmarked ∙ r.between i none unmarked;
    leads = leads;
    dealt = deals_on m.threads r.lists s.views id (acting t xs behind) t xs behind r.dealt at refl es (r.once t lt) ls here else;
    once = λ u ltu. once_on m.threads r.lists s.views id (acting t xs behind) t xs behind r.dealt at refl es u (r.once u ltu);
    suited = suited;
    marks = marks;
    marked = marked_on_all t es r.lists ls here else marked r.marked;
    within = within_on t es r.lists ls here else few r.within;
  }

  -- the lists that it knows are then those of a world to which the schedule leads
  pub keeps_reached : (s : St) (r : Rule s) (id t : ℕ) (xs es : List Entry) (behind : List Own) → get_elem? s.views id ≡ some (acting t xs behind) → t < m.threads → (ws : List ℕ) (os : List (Maybe S)) (ls : List (List Entry)) (ms : List WorldStep)
      → Leads (world_limits m) ms (board_world content (lock_words m ws) (front_word m ws) os ls) → get_elem? ls t ≡ some es → ((u : ℕ) → u ≢ t → get_elem? ls u ≡ get_elem? r.lists u)
      → length (inserted es) ≤ m.quota
      → AreReached m t (acting t es behind)
  keeps_reached s r id t xs es behind at lt ws os ls ms leads here else few = record {
    world = board_world content (lock_words m ws) (front_word m ws) os ls;
    schedule = ms;
    leads = leads;
    within = λ u ltu. each_within m.quota ls (within_on t es r.lists ls here else few r.within) u;
    list_is = list_at ls t es here;
    thread = lt;
    has = λ i o there. deals_on m.threads r.lists s.views id (acting t xs behind) t xs behind r.dealt at refl es (r.once t lt) ls here else id (acting t es behind) (at_place_set s.views id (acting t xs behind) (acting t es behind) at) i o there;
  }
    where
      at_place_set : (vs : List View) (i : ℕ) (v w : View) → get_elem? vs i ≡ some v → get_elem? (set vs i w) i ≡ some w
      at_place_set [] i v w there = absurd (some-ne-none v (sym there))
      at_place_set (x ∷ vs) zero v w there = refl
      at_place_set (x ∷ vs) (suc i) v w there = at_place_set vs i v w there

  -- what a step on the lock of a part has to show
  abbrev pub Goes : St → ℕ → ℕ → List (ℕ × S) → (ℕ → Me S View → Type 0) → ℕ → Type 0
  Goes s id p cs then z = (w : View) × (a : Act S) × Valid s.homes cs a × Rule (stepped s (place p) z id cs w a) × then (get_or s.words (place p) 0) (w, carried_after cs a)

  -- where the rule holds, and a seat acts for thread t
  module _ (s : St) (r : Rule s) (id t : ℕ) (xs : List Entry) (behind : List Own) (at : get_elem? s.views id ≡ some (acting t xs behind)) (lt : t < m.threads) where
    pub agrees : AreAgreed (world_limits m) (world s r.lists)
    agrees = let l : IsLawful (world_limits m) (world s r.lists) = schedules_keep_lawful (world_limits m) r.schedule (world s r.lists) r.leads in l.agreed

    pub here : get_elem? r.lists t ≡ some xs
    here = my_list m.threads r.lists s.views id (acting t xs behind) t xs behind r.dealt at refl

    pub same_steps : steps_of (world s r.lists) t ≡ xs
    same_steps = list_at r.lists t xs here

    pub inside : t < length r.lists
    inside = let a = agrees in let b : length r.lists ≡ m.threads = a.lists_are in omega (arith, b, lt)

    -- the insertions so far
    pub few_now : length (inserted xs) ≤ m.quota
    few_now = let old = r.within in old t xs here

    pub few_more : (e : Entry) → length (flat_map inserted_by (event_at e)) ≡ 0 → length (inserted (xs ++ e ∷ [])) ≤ m.quota
    few_more e adds = let a = insertions_more xs e in let b = few_now in omega (arith, a, b, adds)

    -- what it knows is of the world that there is
    pub reached_now : (z : AreReached m t (acting t xs behind)) × (z.world ≡ world s r.lists)
    unfolding keeps_reached
    reached_now = (keeps_reached s r id t xs xs behind at lt s.words s.homes r.lists r.schedule r.leads here (λ u d. refl) few_now, refl)

    -- the word of the part, as the world has it
    pub word_is : (p : ℕ) → p ≤ m.threads → get_or (lock_words m s.words) p 0 ≡ get_or s.words (place p) 0
    word_is p le = word_at (m.threads + 1) s.words p (omega (arith, le))

    pub word_set : (p x : ℕ) → p ≤ m.threads → lock_words m (set s.words (place p) x) ≡ set (lock_words m s.words) p x
    word_set p x le = let wide = r.wide in let wide' : length s.words ≡ (m.threads + 2) * 16 = wide in word_set_at (m.threads + 1) s.words p x (omega (arith, wide', le))

    pub stays : (p x : ℕ) → StayBetween s.words (set s.words (place p) x)
    stays p x = others_stay s.words p x

    -- the marks, where the words and the thread's mark are as they were
    pub marks_kept : (es : List Entry) (ls : List (List Entry)) → get_elem? ls t ≡ some es → ((u : ℕ) → u ≢ t → get_elem? ls u ≡ get_elem? r.lists u) → mark_of es ≡ mark_of xs → AreMarks s.words ls
    marks_kept es ls is else same u fs e = let old = r.marks in dite (ℕ_discrete u t)
        (λ there. let fs_is : es ≡ fs = some-injective es fs (sym is ∙ (ap (λ z. get_elem? ls z) (sym there) ∙ e)) in
        ap (λ (z : ℕ × ℕ). get_or s.words (mark_place z.0) 0 + z.1) (λ i. (there i, (ap mark_of (sym fs_is) ∙ same) i)) ∙ old t xs here)
        (λ n. old u fs (sym (else u n) ∙ e))

    -- and where a step is made on a lock or on the front
    pub marks_stay : (p x : ℕ) (es : List Entry) (ls : List (List Entry)) → get_elem? ls t ≡ some es → ((u : ℕ) → u ≢ t → get_elem? ls u ≡ get_elem? r.lists u) → mark_of es ≡ mark_of xs
        → AreMarks (set s.words (place p) x) ls
    marks_stay p x es ls is else same u fs e = ap (λ n. n + mark_of fs) (mark_stays s.words p x u) ∙ marks_kept es ls is else same u fs e

    -- and whether the own part is at home is known of its list
    pub marked_now : IsMarkedAway t xs
    marked_now = let old = r.marked in old t xs here
