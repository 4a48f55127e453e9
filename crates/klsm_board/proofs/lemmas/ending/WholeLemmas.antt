-- All members of a board in one hand.
use Rattle.std.proofs.Common.{◌≡◌, ◌≢◌, ℕ, zero, suc, ◌+◌, ◌*◌, ◌-◌, ◌<◌, ◌≤◌, List, [], ◌∷◌, ◌++◌, length, get_or, set, refl, sym, ap, subst, ◌∙◌, arith, length-append}
use Rattle.std.specs.List.{flat_map}
use Rattle.std.specs.Prelude.{Option}
use Rattle.std.proofs.lemmas.List.{get_or-set_same, get_or-set_other}
use Rattle.std.proofs.lemmas.Option.{none-some}
use Rattle.std.proofs.lemmas.Grind.{flat_map-append}
use mathlib.Core.Logic.{dite}
use native.Mathlib.Decide.{ℕ_discrete}
use mathlib.Core.Option.{some, some-injective, some-ne-none}
use lib.ListN.{get_elem?}
use Rattle.atomic_table.specs.Table.{Me}
use Rattle.klsm_run.specs.declared.item.Item.{Item}
use Rattle.klsm_run.specs.Content.{sorted, skipped}
use Rattle.klsm_run.specs.ItemOrder.{is_smaller}
use Rattle.klsm_run.proofs.ContentLemmas.{sorted_itself}
use Rattle.klsm_run.proofs.RankLemmas.{count_sorted}
use Rattle.klsm_run.proofs.SortedLemmas.{length_sorted}
use Rattle.klsm_parts.specs.Events.{minus}
use Rattle.klsm_parts.specs.Parts.{PartState}
use Rattle.klsm_schedules.specs.declared.step.Event.{Event}
use Rattle.klsm_schedules.specs.declared.step.Event.TheVariants.{Put, Flush, Take, Early, Nothing, Spy, Refill, Steal, Share}
use Rattle.klsm_schedules.specs.declared.step.Entry.{Entry}
use Rattle.klsm_schedules.specs.OwnSteps.{found_in, hand_of, inserted, deleted}
use Rattle.klsm_schedules.specs.Worlds.{live, steps_of}
use Rattle.klsm_schedules.specs.LawfulWorlds.{IsLawful}
use Rattle.klsm_schedules.specs.Account.{account}
use Rattle.klsm_schedules.proofs.lemmas.theorems.AccountLemmas.{left_is_live}
use Rattle.klsm_schedules.proofs.lemmas.theorems.OwnEventLemmas.{lists_have_events}
use Rattle.klsm_schedules.proofs.lemmas.theorems.RunLemmas.{schedules_are_runs, schedules_keep_lawful}
use Rattle.klsm_board.specs.declared.board.Member.{Member}
use Rattle.klsm_board.specs.declared.bounding.Bound.{Bound}
use Rattle.klsm_board.specs.declared.errors.Busy.{Busy}
use Rattle.klsm_board.specs.declared.rule.Own.{Own}
use Rattle.klsm_board.specs.declared.rule.View.{View}
use Rattle.klsm_board.specs.declared.sizes.Sizes.{Sizes}
use Rattle.klsm_board.specs.declared.slot.Slot.{Slot}
use Rattle.klsm_board.specs.Boards.{IsSame, known_of_others, own_steps}
use Rattle.klsm_board.specs.Bounding.{IsBoundOf, SeesAllLive}
use Rattle.klsm_board.specs.Effects.{MeetsHolder, PassesFew, TakesEffect}
use Rattle.klsm_board.specs.Finishing.{AreAll, AreListsAtEnd, HasMember, Knows, lists_of, steps_among}
use Rattle.klsm_board.specs.Knowing.{AreCounted, IsAtRest, IsWhole}
use Rattle.klsm_board.specs.Members.{IsResting}
use Rattle.klsm_board.specs.Rule.{own, view, world_limits}
use Rattle.klsm_board.specs.Seats.{IsMarked}
use Rattle.klsm_board.specs.Steps.{mine, rest_of, IsMine, AreReached, HasFront}
use Rattle.klsm_board.specs.Together.{IsFrontOf, PassesFewLeft}
use Rattle.klsm_board.specs.Turning.{steps_known, lists_known, HasList, left_behind, turned}
use Rattle.klsm_board.proofs.lemmas.calls.AddedLemmas.{quiet_same}
use Rattle.klsm_board.proofs.lemmas.calls.ReadingLemmas.{bound_same}
use Rattle.klsm_board.proofs.lemmas.ending.EndLemmas.{found_first, place_within, same_lists}
use Rattle.klsm_board.proofs.lemmas.ending.JoinLemmas.{at_end, at_front}
use Rattle.klsm_board.proofs.lemmas.table.DealtLemmas.{has_one}
use Rattle.klsm_board.proofs.lemmas.table.KeepLemmas.{list_at}
use Rattle.klsm_board.proofs.lemmas.table.KnownLemmas.{finds, has_turned, into_turned, known_here, known_later, same_turned, turned_first}

-- the list of each thread, by its number
pub so_many_known : (n : ℕ) (os : List Own) → length (lists_known n os) ≡ n
so_many_known zero os = refl
so_many_known (suc n) os = let h = so_many_known n os in length-append (lists_known n os) (steps_known os n ∷ []) ∙ omega (arith, h)

pub known_at : (n : ℕ) (os : List Own) (t : ℕ) → t < n → get_elem? (lists_known n os) t ≡ some (steps_known os t)
known_at zero os t below = absurd (omega (arith, below))
known_at (suc n) os t below = dite (ℕ_discrete t n)
    (λ here. ap (λ j. get_elem? (lists_known n os ++ steps_known os n ∷ []) j) (here ∙ sym (so_many_known n os))
    ∙ (at_end (lists_known n os) (steps_known os n) [] ∙ ap (λ j. some (steps_known os j)) (sym here)))
    (λ other. at_front (lists_known n os) (steps_known os n ∷ []) t (steps_known os t) (known_at n os t (omega (arith, below, other))))

-- lists are the same where each thread's is
pub same_known : (n : ℕ) (os os' : List Own) → ((t : ℕ) → t < n → steps_known os t ≡ steps_known os' t) → lists_known n os ≡ lists_known n os'
same_known zero os os' each = refl
same_known (suc n) os os' each = λ i. same_known n os os' (λ t below. each t (omega (arith, below))) i ++ each n (omega arith) i ∷ []

-- and have the same of what each has
pub same_items : (f : List Entry → List Item) (n : ℕ) (os os' : List Own) → ((t : ℕ) → t < n → f (steps_known os t) ≡ f (steps_known os' t)) → flat_map f (lists_known n os) ≡ flat_map f (lists_known n os')
same_items f zero os os' each = refl
same_items f (suc n) os os' each =
    flat_map-append f (lists_known n os) (steps_known os n ∷ [])
    ∙ ((λ i. same_items f n os os' (λ t below. each t (omega (arith, below))) i ++ (each n (omega arith) i ++ []))
    ∙ sym (flat_map-append f (lists_known n os') (steps_known os' n ∷ [])))

-- in one world, the list of each thread that has one is the world's
pub world_has : (m : Sizes) (t : ℕ) (v : View) → (r : AreReached m t v) → (u : ℕ) → HasList v.lists u → get_elem? r.world.lists u ≡ some (steps_known v.lists u)
world_has m t v r u has = let found = finds u v.lists has in r.has found.place (own u (steps_known v.lists u)) found.there

-- where each thread has one, they are all lists of the world
pub world_lists : (m : Sizes) (t : ℕ) (v : View) → (r : AreReached m t v) → ((u : ℕ) → u < m.threads → HasList v.lists u) → r.world.lists ≡ lists_known m.threads v.lists
world_lists m t v r each =
    let many : length r.world.lists ≡ m.threads = (schedules_keep_lawful (world_limits m) r.schedule r.world r.leads).agreed.lists_are in
    sym (same_lists (lists_known m.threads v.lists) r.world.lists (so_many_known m.threads v.lists ∙ sym many)
    (λ u es there. let below = place_within r.world.lists u es there in let u_below : u < m.threads = omega (arith, below, many) in
    known_at m.threads v.lists u u_below ∙ (sym (world_has m t v r u (each u u_below)) ∙ there)))

pub all_at_end : (m : Sizes) (t : ℕ) (v : View) → AreReached m t v → ((u : ℕ) → u < m.threads → HasList v.lists u) → AreListsAtEnd m (lists_known m.threads v.lists)
all_at_end m t v r each = record {
  world = r.world;
  schedule = r.schedule;
  leads = r.leads;
  within = r.within;
  lists_are = world_lists m t v r each;
  in_order = λ u below. lists_have_events (world_limits m) r.schedule r.world u r.leads below;
  run = schedules_are_runs (world_limits m) r.schedule r.world r.leads;
}

pub front_at_end : (m : Sizes) (t : ℕ) (v : View) (front : ℕ) → HasFront m t v front → ((u : ℕ) → u < m.threads → HasList v.lists u) → IsFrontOf m (lists_known m.threads v.lists) front
unfolding all_at_end
front_at_end m t v front seen each = record { at_end = all_at_end m t v seen.reached each; front_is = seen.front_is }

-- what is said of live items is said of their ascending list
in_order : (m : Sizes) (event : Event) (items : List Item) → PassesFew m event items → PassesFew m event (sorted items)
in_order m (Put x) items few = few
in_order m (Flush x moved) items few = few
in_order m (Take x) items few = let same : skipped (sorted items) x ≡ skipped items x = count_sorted (λ y. is_smaller y x) items in (subst (λ n. n ≤ m.threads * m.k) (sym same) few.0, λ one. same ∙ few.1 one)
in_order m (Early x front) items few = let same : skipped (sorted items) x ≡ skipped items x = count_sorted (λ y. is_smaller y x) items in (subst (λ n. n ≤ (m.threads - 1) * m.k) (sym same) few.0, λ one. same ∙ few.1 one)
in_order m Nothing items few = let n : ℕ = (m.threads - 1) * m.k in let same : length (sorted items) ≡ length items = length_sorted items in let few' : length items ≤ n = few in omega (arith, same, few')
in_order m (Spy victim moved) items few = few
in_order m (Steal victim moved) items few = few
in_order m (Refill moved) items few = few
in_order m (Share moved) items few = few

-- a thread's list in place of another one of its own
known_changed : (f : List Entry → List Item) (t : ℕ) (es fs : List Entry) (behind : List Own) → f es ≡ f fs → (u : ℕ) → f (steps_known (own t es ∷ behind) u) ≡ f (steps_known (own t fs ∷ behind) u)
known_changed f t es fs behind same u = dite (ℕ_discrete t u)
    (λ is. ap f (known_here u (own t es) behind is) ∙ (same ∙ ap f (sym (known_here u (own t fs) behind is))))
    (λ not. ap f (known_later u (own t es) behind not) ∙ ap f (sym (known_later u (own t fs) behind not)))

has_changed : (t : ℕ) (es fs : List Entry) (behind : List Own) (u : ℕ) → HasList (own t es ∷ behind) u → HasList (own t fs ∷ behind) u
has_changed t es fs behind u has = has

-- the items that lived while a seat knew all lists are those that their account left, where its thread's list had the same insertions
-- and deletions
left_when : (m : Sizes) (t : ℕ) (behind : List Own) (es at : List Entry) → ((u : ℕ) → u < m.threads → HasList (own t es ∷ behind) u) → inserted at ≡ inserted es → deleted at ≡ deleted es
    → (r : AreReached m t (view (own t at ∷ behind))) → sorted (live r.world) ≡ (account (lists_known m.threads (own t es ∷ behind))).left
left_when m t behind es at each inserted_are deleted_are r =
    let now : View = view (own t at ∷ behind) in
    let lawful : IsLawful (world_limits m) r.world = schedules_keep_lawful (world_limits m) r.schedule r.world r.leads in
    let lists : r.world.lists ≡ lists_known m.threads now.lists = world_lists m t now r (λ u below. has_changed t es at behind u (each u below)) in
    let ins : flat_map inserted (lists_known m.threads now.lists) ≡ flat_map inserted (lists_known m.threads (own t es ∷ behind)) =
    same_items inserted m.threads now.lists (own t es ∷ behind) (λ u below. known_changed inserted t at es behind inserted_are u) in
    let dels : flat_map deleted (lists_known m.threads now.lists) ≡ flat_map deleted (lists_known m.threads (own t es ∷ behind)) =
    same_items deleted m.threads now.lists (own t es ∷ behind) (λ u below. known_changed deleted t at es behind deleted_are u) in
    sym (left_is_live (world_limits m) r.world lawful)
    ∙ (ap (λ z. (account z).left) lists ∙ λ i. minus (sorted (ins i)) (dels i))

-- a deletion of a seat that knows all lists passed over few of the items that their account left
pub passes_few : (m : Sizes) (t : ℕ) (behind : List Own) (es es' : List Entry) (answer : Option Item) → ((u : ℕ) → u < m.threads → HasList (own t es ∷ behind) u) → TakesEffect m t behind es es' answer
    → PassesFewLeft m (lists_known m.threads (own t es ∷ behind)) es' answer
passes_few m t behind es es' answer each effect =
    let r = effect.reached in
    let left = left_when m t behind es effect.at each effect.inserted_are effect.deleted_are r in
    record {
      at = effect.at;
      event = effect.event;
      after = effect.after;
      steps = effect.steps;
      answers = effect.answers;
      few = subst (PassesFew m effect.event) left (in_order m effect.event (live r.world) effect.few);
    }

-- and its bound is that of those items
pub bounds_left : (m : Sizes) (t : ℕ) (behind : List Own) (es es' : List Entry) (bound : Bound) → ((u : ℕ) → u < m.threads → HasList (own t es ∷ behind) u) → SeesAllLive m t behind es es' bound
    → IsBoundOf (account (lists_known m.threads (own t es ∷ behind))).left bound
bounds_left m t behind es es' bound each sees =
    let r = sees.reached in let quiet = quiet_same es sees.added (es ++ sees.added) refl sees.none in
    let left = left_when m t behind es (es ++ sees.added) each quiet.inserted_are quiet.deleted_are r in
    subst (λ items. IsBoundOf items bound) left (bound_same (live r.world) (sorted (live r.world)) bound (sym (sorted_itself (live r.world))) sees.is)

-- where a seat goes on that knows all, each list but its thread's is what it was
pub known_elsewhere : (t : ℕ) (v w : View) → IsMine v t → IsMine w t → rest_of w ≡ rest_of v → (u : ℕ) → u ≢ t → steps_known w.lists u ≡ steps_known v.lists u
known_elsewhere t v w acts acts' same u other =
    ap (λ (z : List Own). steps_known z u) acts'
    ∙ (known_later u (own t (mine w)) (rest_of w) (λ is. other (sym is))
    ∙ (ap (λ (z : List Own). steps_known z u) same
    ∙ (sym (known_later u (own t (mine v)) (rest_of v) (λ is. other (sym is))) ∙ ap (λ (z : List Own). steps_known z u) (sym acts))))

pub known_mine : (t : ℕ) (v : View) → IsMine v t → steps_known v.lists t ≡ mine v
known_mine t v acts = ap (λ (z : List Own). steps_known z t) acts ∙ known_here t (own t (mine v)) (rest_of v) refl

pub has_elsewhere : (t : ℕ) (v w : View) → IsMine v t → IsMine w t → rest_of w ≡ rest_of v → (u : ℕ) → HasList v.lists u → HasList w.lists u
has_elsewhere t v w acts acts' same u has =
    subst (λ (z : List Own). HasList z u) (sym (acts' ∙ ap (λ (z : List Own). own t (mine w) ∷ z) same))
    (has_changed t (mine v) (mine w) (rest_of v) u (subst (λ (z : List Own). HasList z u) acts has))

-- and stays whole
pub whole_after : (m : Sizes) (t : ℕ) (v w : View) (ins dels : List ℕ) → IsMine v t → IsMine w t → rest_of w ≡ rest_of v → IsWhole m t v.lists ins dels → IsWhole m t w.lists ins dels
whole_after m t v w ins dels acts acts' same whole = record {
  has = λ u below. has_elsewhere t v w acts acts' same u (whole.has u below);
  rests = λ u below other. subst (λ es. IsAtRest m u es (get_or ins u 0) (get_or dels u 0)) (sym (known_elsewhere t v w acts acts' same u other)) (whole.rests u below other);
}

-- a thread that rests takes its turn
pub rests_at_turn : (m : Sizes) (t i d : ℕ) (me me' : Me (Slot PartState PartState) View) → HasList me.0.lists t → me'.0 ≡ view (turned t me.0.lists) → me'.1 ≡ [] → AreReached m t me'.0 → IsAtRest m t (steps_known me.0.lists t) i d → IsResting m t i d me'
rests_at_turn m t i d me me' has is none reached rest =
    let first : me'.0.lists ≡ own t (steps_known me.0.lists t) ∷ left_behind t me.0.lists = ap (λ (z : View). z.lists) is ∙ turned_first t me.0.lists has in
    let list : mine me'.0 ≡ steps_known me.0.lists t = ap (λ (z : List Own). mine (view z)) first in
    let acts : me'.0.lists ≡ own t (mine me'.0) ∷ rest_of me'.0 = first ∙ (λ j. own t (sym list j) ∷ rest_of (view (sym first j))) in
    record {
      acts = acts;
      carries_none = none;
      hand_is = ap (hand_of t) list ∙ rest.hand_is;
      marked = subst IsMarked (sym list) rest.marked;
      insertions_are = ap (λ es. length (inserted es)) list ∙ rest.insertions_are;
      deletions_are = ap (λ es. length (deleted es)) list ∙ rest.deletions_are;
      within = rest.within;
      few = rest.few;
      thread = reached.thread;
      reached = ∣ reached ∣₁;
    }

-- a list that leaves the others is of the same world
pub reached_alone : (m : Sizes) (t : ℕ) (es : List Entry) (behind : List Own) → AreReached m t (view (own t es ∷ behind)) → AreReached m t (view (own t es ∷ []))
reached_alone m t es behind r = record {
  world = r.world;
  schedule = r.schedule;
  leads = r.leads;
  within = r.within;
  list_is = r.list_is;
  thread = r.thread;
  has = only;
}
  where
    only : (i : ℕ) (o : Own) → get_elem? (own t es ∷ []) i ≡ some o → get_elem? r.world.lists o.thread ≡ some o.steps
    only zero o there = r.has 0 o there
    only (suc i) o there = absurd (some-ne-none o (sym there))

-- a thread that rests leaves with its list
pub rests_alone : (m : Sizes) (t i d : ℕ) (lists : List Own) (me : Me (Slot PartState PartState) View) → HasList lists t → me ≡ (view (own t (steps_known lists t) ∷ []), []) → AreReached m t (view (turned t lists)) → IsAtRest m t (steps_known lists t) i d → IsResting m t i d me
rests_alone m t i d lists me has is reached rest =
    let r = reached_alone m t (steps_known lists t) (left_behind t lists) (subst (λ (z : List Own). AreReached m t (view z)) (turned_first t lists has) reached) in
    subst (λ (z : Me (Slot PartState PartState) View). IsResting m t i d z) (sym is) (record {
      acts = refl;
      carries_none = refl;
      hand_is = rest.hand_is;
      marked = rest.marked;
      insertions_are = rest.insertions_are;
      deletions_are = rest.deletions_are;
      within = rest.within;
      few = rest.few;
      thread = r.thread;
      reached = ∣ r ∣₁;
    })

-- and the one before it rests, with its counts among them
pub rests_as : (m : Sizes) (t i d : ℕ) (me : Me (Slot PartState PartState) View) → IsResting m t i d me → IsAtRest m t (steps_known me.0.lists t) i d
rests_as m t i d me rests = subst (λ es. IsAtRest m t es i d) (sym (known_mine t me.0 rests.acts)) (record {
  hand_is = rests.hand_is;
  marked = rests.marked;
  insertions_are = rests.insertions_are;
  deletions_are = rests.deletions_are;
  within = rests.within;
  few = rests.few;
})

-- all rest then
pub all_rest : (m : Sizes) (t i d : ℕ) (lists : List Own) (ins dels : List ℕ) → t < length ins → t < length dels → IsWhole m t lists ins dels → IsAtRest m t (steps_known lists t) i d
    → (u : ℕ) → u < m.threads → IsAtRest m u (steps_known lists u) (get_or (set ins t i) u 0) (get_or (set dels t d) u 0)
all_rest m t i d lists ins dels inside inside' whole rest u below = dite (ℕ_discrete u t)
    (λ here. subst (λ (z : ℕ × ℕ × ℕ). IsAtRest m z.0 (steps_known lists z.0) z.1 z.2)
    (λ j. (sym here j, sym (ap (λ n. get_or (set ins t i) n 0) here ∙ get_or-set_same ins t i 0 inside) j, sym (ap (λ n. get_or (set dels t d) n 0) here ∙ get_or-set_same dels t d 0 inside') j))
    rest)
    (λ other. subst (λ (z : ℕ × ℕ). IsAtRest m u (steps_known lists u) z.0 z.1)
    (λ j. (sym (get_or-set_other ins t u i 0 other) j, sym (get_or-set_other dels t u d 0 other) j))
    (whole.rests u below other))

-- so any one may take its turn
pub whole_at_turn : (m : Sizes) (t : ℕ) (lists : List Own) (ins dels : List ℕ) → HasList lists t → ((u : ℕ) → u < m.threads → HasList lists u)
    → ((u : ℕ) → u < m.threads → IsAtRest m u (steps_known lists u) (get_or ins u 0) (get_or dels u 0)) → IsWhole m t (turned t lists) ins dels
whole_at_turn m t lists ins dels has each rests = record {
  has = λ u below. has_turned t u lists (each u below);
  rests = λ u below other. subst (λ es. IsAtRest m u es (get_or ins u 0) (get_or dels u 0)) (sym (same_turned t lists has u)) (rests u below);
}

-- a list without one element
abbrev removed : {A : Type 0} → List A → ℕ → List A
removed [] i = []
removed (x ∷ xs) zero = xs
removed (x ∷ xs) (suc i) = x ∷ removed xs i

shorter : {A : Type 0} (xs : List A) (i : ℕ) → i < length xs → length (removed xs i) + 1 ≡ length xs
shorter [] i inside = absurd (omega (arith, inside))
shorter (x ∷ xs) zero inside = omega arith
shorter (x ∷ xs) (suc i) inside = let h = shorter xs i (omega (arith, inside)) in omega (arith, h)

-- has the others
still_there : {A : Type 0} (xs : List A) (i j : ℕ) (a : A) → j ≢ i → get_elem? xs j ≡ some a → (k : ℕ) × (get_elem? (removed xs i) k ≡ some a)
still_there [] i j a other there = absurd (some-ne-none a (sym there))
still_there (x ∷ xs) zero zero a other there = absurd (other refl)
still_there (x ∷ xs) zero (suc j) a other there = (j, there)
still_there (x ∷ xs) (suc i) zero a other there = (0, there)
still_there (x ∷ xs) (suc i) (suc j) a other there = let k = still_there xs i j a (λ same. other (ap suc same)) there in (suc k.0, k.1)

module _ {CAP LEVELS : ℕ} where
  -- so many numbers have as many members
  pub as_many : (members : List (Member CAP LEVELS)) (n : ℕ) → AreAll members n → n ≤ length members
  as_many members zero all = omega arith
  as_many members (suc n) all =
      let last = all n (omega arith) in
      let inside = place_within members last.0 last.1 last.2 in
      let rest = as_many (removed members last.0) n (λ t below.
      let one = all t (omega (arith, below)) in
      let other : one.0 ≢ last.0 = (λ same. let alike = some-injective one.1 last.1 (sym one.2 ∙ (ap (λ i. get_elem? members i) same ∙ last.2)) in let number = ap (λ (z : Member CAP LEVELS). z.number) alike in omega (arith, number, one.3, last.3, below)) in
      let there = still_there members last.0 one.0 one.1 other one.2 in (there.0, one.1, there.1, one.3)) in
      let less = shorter members last.0 inside in
      omega (arith, rest, less)

  -- one number more has a member, whose counts are among them
  pub one_more_counted : (members : List (Member CAP LEVELS)) (n : ℕ) (ins dels : List ℕ) (i d : ℕ) → n < length ins → n < length dels → AreCounted members n ins dels → HasMember members n
      → i ≡ length (inserted (steps_among members n)) → d ≡ length (deleted (steps_among members n)) → AreCounted members (n + 1) (set ins n i) (set dels n d)
  one_more_counted members n ins dels i d inside inside' so_far there is js = record {
    all = λ t below. dite (ℕ_discrete t n) (λ here. subst (HasMember members) (sym here) there) (λ other. so_far.all t (omega (arith, below, other)));
    insertions_are = λ t below. dite (ℕ_discrete t n)
        (λ here. ap (λ j. length (inserted (steps_among members j))) here ∙ (sym is ∙ (sym (get_or-set_same ins n i 0 inside) ∙ ap (λ j. get_or (set ins n i) j 0) (sym here))))
        (λ other. so_far.insertions_are t (omega (arith, below, other)) ∙ sym (get_or-set_other ins n t i 0 other));
    deletions_are = λ t below. dite (ℕ_discrete t n)
        (λ here. ap (λ j. length (deleted (steps_among members j))) here ∙ (sym js ∙ (sym (get_or-set_same dels n d 0 inside') ∙ ap (λ j. get_or (set dels n d) j 0) (sym here))))
        (λ other. so_far.deletions_are t (omega (arith, below, other)) ∙ sym (get_or-set_other dels n t d 0 other));
  }

  -- a seat that knows each member has a list for each number
  pub has_each : (members : List (Member CAP LEVELS)) (threads : ℕ) (v : View) → AreAll members threads → ((i : ℕ) (member : Member CAP LEVELS) → get_elem? members i ≡ some member → Knows v member) → (t : ℕ) → t < threads → HasList v.lists t
  has_each members threads v all knows t below =
      let first = found_first members t (all t below) in let k = knows first.0 first.1 first.2 in
      has_one t v.lists k.0 (own first.1.number (own_steps first.1)) k.1 first.3

  -- in one world it is that member's
  pub known_among : (m : Sizes) (members : List (Member CAP LEVELS)) (v : View) (u : ℕ) → AreAll members m.threads → ((i : ℕ) (member : Member CAP LEVELS) → get_elem? members i ≡ some member → Knows v member)
      → HasList v.lists u → AreReached m u (view (turned u v.lists)) → (t : ℕ) → t < m.threads → steps_known v.lists t ≡ steps_among members t
  known_among m members v u all knows has r t below =
      let first = found_first members t (all t below) in let k = knows first.0 first.1 first.2 in
      let here = world_has m u (view (turned u v.lists)) r t (has_turned u t v.lists (has_each members m.threads v all knows t below)) in
      let moved = into_turned u v.lists k.0 (own first.1.number (own_steps first.1)) k.1 in
      let there = r.has moved.0 (own first.1.number (own_steps first.1)) moved.1 in
      sym (same_turned u v.lists has t)
      ∙ (some-injective (steps_known (turned u v.lists) t) (own_steps first.1) (sym here ∙ (ap (λ n. get_elem? r.world.lists n) (sym first.3) ∙ there)) ∙ sym first.4)

  pub lists_among : (n : ℕ) (members : List (Member CAP LEVELS)) (os : List Own) → ((t : ℕ) → t < n → steps_known os t ≡ steps_among members t) → lists_known n os ≡ lists_of n members
  lists_among zero members os each = refl
  lists_among (suc n) members os each = λ i. lists_among n members os (λ t below. each t (omega (arith, below))) i ++ each n (omega arith) i ∷ []

  -- each member rests, with the counts of the tally
  pub members_rest : (m : Sizes) (members : List (Member CAP LEVELS)) (os : List Own) (ins dels : List ℕ) → AreCounted members m.threads ins dels → ((i : ℕ) (member : Member CAP LEVELS) → get_elem? members i ≡ some member → member.sizes ≡ m)
      → ((t : ℕ) → t < m.threads → steps_known os t ≡ steps_among members t) → (t : ℕ) → t < m.threads → IsAtRest m t (steps_known os t) (get_or ins t 0) (get_or dels t 0)
  members_rest m members os ins dels tallied sizes each t below =
      let first = found_first members t (tallied.all t below) in let member : Member CAP LEVELS = first.1 in let rests = member.rests in
      let is : steps_known os t ≡ own_steps member = each t below ∙ first.4 in
      let i = tallied.insertions_are t below in let d = tallied.deletions_are t below in
      let counted : length (inserted (own_steps member)) ≡ get_or ins t 0 = ap (λ es. length (inserted es)) (sym first.4) ∙ i in
      let counted' : length (deleted (own_steps member)) ≡ get_or dels t 0 = ap (λ es. length (deleted es)) (sym first.4) ∙ d in
      let quota : member.sizes.quota ≡ m.quota = ap (λ (z : Sizes). z.quota) (sizes first.0 member first.2) in
      record {
        hand_is = ap (hand_of t) is ∙ (ap (λ n. hand_of n (own_steps member)) (sym first.3) ∙ rests.hand_is);
        marked = subst IsMarked (sym is) rests.marked;
        insertions_are = ap (λ es. length (inserted es)) is ∙ counted;
        deletions_are = ap (λ es. length (deleted es)) is ∙ counted';
        within = omega (arith, rests.within, rests.insertions_are, counted, quota);
        few = subst (λ n. n ≤ Rattle.klsm_board.specs.Members.most_deletions) (sym rests.deletions_are ∙ counted') rests.few;
      }

  -- the list of the member whose turn it is
  pub own_known : (member : Member CAP LEVELS) (n : ℕ) → member.number ≡ n → own_steps member ≡ steps_known member.seat.me.0.lists n
  own_known member n is = let rests = member.rests in sym (known_mine member.number member.seat.me.0 rests.acts) ∙ ap (steps_known member.seat.me.0.lists) is

  -- all are there after its call
  pub whole_acted : (before after : Member CAP LEVELS) (ins dels : List ℕ) → IsSame before after → known_of_others after ≡ known_of_others before
      → IsWhole before.sizes before.number before.seat.me.0.lists ins dels → IsWhole after.sizes after.number after.seat.me.0.lists ins dels
  whole_acted before after ins dels same others whole =
      let rests = before.rests in let rests' = after.rests in
      let acts' : IsMine after.seat.me.0 before.number = subst (λ n. IsMine after.seat.me.0 n) same.0 rests'.acts in
      subst (λ (z : Sizes × ℕ). IsWhole z.0 z.1 after.seat.me.0.lists ins dels) (λ i. (sym same.1 i, sym same.0 i))
      (whole_after before.sizes before.number before.seat.me.0 after.seat.me.0 ins dels rests.acts acts' others whole)

  -- and its deletion passed over few of what was left
  pub few_of_all : (before after : Member CAP LEVELS) (m : Sizes) (n : ℕ) (ins dels : List ℕ) (lists : List (List Entry)) (answer : Option Item) → before.number ≡ n → before.sizes ≡ m → IsSame before after
      → IsWhole before.sizes before.number before.seat.me.0.lists ins dels → lists_known m.threads before.seat.me.0.lists ≡ lists
      → TakesEffect before.sizes before.number (known_of_others before) (own_steps before) (own_steps after) answer
      → PassesFewLeft m lists (steps_known after.seat.me.0.lists n) answer
  few_of_all before after m n ins dels lists answer turn sizes same whole is effect =
      let rests = before.rests in let v : View = before.seat.me.0 in
      let alike : v.lists ≡ own before.number (own_steps before) ∷ known_of_others before = rests.acts in
      let few = passes_few before.sizes before.number (known_of_others before) (own_steps before) (own_steps after) answer (λ u below. subst (λ (z : List Own). HasList z u) alike (whole.has u below)) effect in
      let known : lists_known before.sizes.threads (own before.number (own_steps before) ∷ known_of_others before) ≡ lists = ap (λ (z : List Own). lists_known before.sizes.threads z) (sym alike) ∙ (ap (λ (z : Sizes). lists_known z.threads v.lists) sizes ∙ is) in
      subst (λ (z : Sizes × List (List Entry) × List Entry). PassesFewLeft z.0 z.1 z.2 answer) (λ i. (sizes i, known i, own_known after n (same.0 ∙ turn) i)) few

  -- it meets no lock that is held, as each other member rests
  pub none_holds : (member : Member CAP LEVELS) (ins dels : List ℕ) (es' : List Entry) (busy : Busy) → IsWhole member.sizes member.number member.seat.me.0.lists ins dels
      → MeetsHolder member.sizes member.number (known_of_others member) es' busy → ⊥
  none_holds member ins dels es' busy whole met =
      let t : ℕ = member.number in let by : ℕ = busy.by in let behind : List Own = known_of_others member in let rests = member.rests in
      let h = met.holder in let held = h.holds in let now : View = view (own t met.at ∷ behind) in
      let alike : member.seat.me.0.lists ≡ own t (own_steps member) ∷ behind = rests.acts in
      let has = has_changed t (own_steps member) met.at behind by (subst (λ (z : List Own). HasList z by) alike (whole.has by h.thread)) in
      let list : steps_of h.reached.world by ≡ steps_known now.lists by = list_at h.reached.world.lists by (steps_known now.lists by) (world_has member.sizes t now h.reached by has) in
      let later : (es : List Entry) → steps_known (own t es ∷ behind) by ≡ steps_known behind by = (λ es. known_later by (own t es) behind (λ is. h.another (sym is))) in
      let before : steps_known now.lists by ≡ steps_known member.seat.me.0.lists by = later met.at ∙ (sym (later (own_steps member)) ∙ ap (λ (z : List Own). steps_known z by) (sym alike)) in
      let empty : hand_of by (steps_of h.reached.world by) ≡ [] = ap (hand_of by) (list ∙ before) ∙ (whole.rests by h.thread h.another).hand_is in
      none-some held.content (sym (ap (λ z. found_in z busy.lock) empty) ∙ held.holds)
