-- A bound, from the hand that has all parts to the world that it is of, and what its entries commit: nothing.
use Rattle.std.proofs.Common.{◌≡◌, ◌≢◌, ℕ, zero, suc, ◌+◌, ◌*◌, ◌<◌, ◌≤◌, List, [], ◌∷◌, ◌++◌, length, None, unwrap_or, Result, Ok, Err, IfOk, IfErr, refl, sym, ap, ◌∙◌, subst, arith, add-one, append_assoc, inl, inr, if◌then◌else◌}
use Rattle.std.proofs.lemmas.Bool.{cases_eq, cases_lt, lt-ltb, le-ltb}
use Rattle.std.proofs.lemmas.List.{append-nil}
use Rattle.std.proofs.lemmas.Option.{none-some}
use Rattle.std.proofs.Math.Nat.{mul-le-mul_left, mul-le-mul_right}
use Rattle.klsm_run.specs.declared.item.Item.{Item}
use Rattle.klsm_run.specs.declared.limits.TheConstants.{MOST_THREADS}
use Rattle.klsm_schedules.specs.declared.step.Entry.{Entry}
use Rattle.klsm_schedules.specs.declared.step.Entry.TheVariants.{Acquired, Missed, Released, Saw}
use Rattle.klsm_schedules.specs.OwnSteps.{Hand, Holds, HoldsSome, content_in, found_in, hand_of, shared_part}
use Rattle.klsm_schedules.specs.Worlds.{hand_in, live}
use Rattle.klsm_schedules.specs.LiveLaws.{HasAllParts, held_below}
use Rattle.klsm_schedules.specs.WorkLaws.{least_work}
use Rattle.klsm_schedules.proofs.lemmas.hands.HandLemmas.{found_behind, found_first}
use Rattle.klsm_schedules.proofs.lemmas.theorems.LiveLemmas.{full_hands_have_live, live_are_few}
use Rattle.klsm_board.specs.declared.bounding.Bound.{Bound}
use Rattle.klsm_board.specs.declared.errors.Busy.{Busy}
use Rattle.klsm_board.specs.declared.rule.Own.{Own}
use Rattle.klsm_board.specs.declared.rule.View.{View}
use Rattle.klsm_board.specs.declared.sizes.Sizes.{Sizes}
use Rattle.klsm_board.specs.Boards.{Gains}
use Rattle.klsm_board.specs.Bounding.{Bounds, IsBoundOf, MissesSome, MissesSomeTimes, SeesAllLive, all_acquired, all_in_hand, all_items, all_released, keys_seen, lock_behind, owns_acquired, owns_in_hand, owns_items, owns_released}
use Rattle.klsm_board.specs.Effects.{committed_in}
use Rattle.klsm_board.specs.Members.{most_deletions, most_insertions}
use Rattle.klsm_board.specs.Rule.{own, view, world_limits}
use Rattle.klsm_board.specs.Steps.{mine, rest_of, AreReached, IsMine}
use Rattle.klsm_board.proofs.lemmas.calls.AddedLemmas.{quiet_gains}
use Rattle.klsm_board.proofs.lemmas.calls.EffectLemmas.{lawful_there}
use Rattle.klsm_board.proofs.lemmas.calls.EventLemmas.{IsQuiet, quiet_append, same_events}

-- which parts a hand with own parts has, and which it lacks
pub owns_lack_shared : (owns : List (List Item)) → found_in (owns_in_hand owns) 0 ≡ None
owns_lack_shared [] = refl
owns_lack_shared (c ∷ cs) = found_behind (owns_in_hand cs) (length cs + 1) 0 c (λ same. omega (arith, same)) ∙ owns_lack_shared cs

pub owns_lack : (owns : List (List Item)) (p : ℕ) → length owns < p → found_in (owns_in_hand owns) p ≡ None
owns_lack [] p later = refl
owns_lack (c ∷ cs) p later =
    found_behind (owns_in_hand cs) (length cs + 1) p c (λ same. omega (arith, same, later)) ∙ owns_lack cs p (omega (arith, later))

owns_has : (owns : List (List Item)) (p : ℕ) → 0 < p → p ≤ length owns → HoldsSome (owns_in_hand owns) p
owns_has [] p some within = absurd (omega (arith, some, within))
owns_has (c ∷ cs) p some within = elim (cases_eq p (length cs + 1)) [
  | inl last ↦ record {
    content = c;
    holds = subst (λ q. Holds (owns_in_hand (c ∷ cs)) q c) (sym last) (found_first (owns_in_hand cs) (length cs + 1) c);
  }
  | inr other ↦
      let has = owns_has cs p some (omega (arith, within, other)) in record {
        content = has.content;
        holds = found_behind (owns_in_hand cs) (length cs + 1) p c other ∙ has.holds;
      }
]

-- with the shared part it has all
pub all_has : (owns : List (List Item)) (shared : List Item) (p : ℕ) → p ≤ length owns → HoldsSome (all_in_hand owns shared) p
all_has owns shared p within = elim (cases_eq p 0) [
  | inl first ↦ record {
    content = shared;
    holds = subst (λ q. Holds (all_in_hand owns shared) q shared) (sym first) (found_first (owns_in_hand owns) 0 shared);
  }
  | inr other ↦
      let has = owns_has owns p (omega (arith, other)) within in record {
        content = has.content;
        holds = found_behind (owns_in_hand owns) 0 p shared other ∙ has.holds;
      }
]

-- what it has of the shared part and of the own ones
held_owns : (hand : Hand) (shared : List Item) (owns : List (List Item)) → content_in hand 0 ≡ shared
    → ((p : ℕ) (c : List Item) → Holds (owns_in_hand owns) p c → content_in hand p ≡ c) → held_below hand (suc (length owns)) ≡ all_items owns shared
held_owns hand shared [] first each = first ∙ sym (append-nil shared)
held_owns hand shared (c ∷ cs) first each =
    let rest : held_below hand (suc (length cs)) ≡ all_items cs shared = held_owns hand shared cs first (λ p d holds.
    each p d (found_behind (owns_in_hand cs) (length cs + 1) p c (λ same. none-some d (sym (owns_lack cs p (omega (arith, same))) ∙ holds)) ∙ holds)) in
    let last : content_in hand (suc (length cs)) ≡ c = ap (content_in hand) (sym (add-one (length cs))) ∙ each (length cs + 1) c (found_first (owns_in_hand cs) (length cs + 1) c) in
    (λ i. rest i ++ last i) ∙ append_assoc shared (owns_items cs) c

all_held : (owns : List (List Item)) (shared : List Item) → held_below (all_in_hand owns shared) (suc (length owns)) ≡ all_items owns shared
all_held owns shared =
    let lacks : (p : ℕ) (d : List Item) → Holds (owns_in_hand owns) p d → p ≢ 0 = (λ p d holds same.
    none-some d (sym (owns_lack_shared owns) ∙ (ap (found_in (owns_in_hand owns)) (sym same) ∙ holds))) in
    held_owns (all_in_hand owns shared) shared owns (ap (λ o. unwrap_or o []) (found_first (owns_in_hand owns) 0 shared))
    (λ p d holds. ap (λ o. unwrap_or o []) (found_behind (owns_in_hand owns) 0 p shared (lacks p d holds) ∙ holds))

-- own parts bring no event where they are acquired, nor where they are released
owns_quiet : (owns : List (List Item)) → IsQuiet (owns_acquired owns)
owns_quiet [] = refl
owns_quiet (c ∷ cs) = quiet_append (owns_acquired cs) (Acquired (length cs + 1) c ∷ []) (owns_quiet cs) refl

all_quiet : (owns : List (List Item)) (shared : List Item) → IsQuiet (all_acquired owns shared)
all_quiet owns shared = quiet_append (owns_acquired owns) (Acquired shared_part shared ∷ []) (owns_quiet owns) refl

released_quiet : (n : ℕ) → IsQuiet (owns_released n)
released_quiet zero = refl
released_quiet (suc n) = quiet_append (Released (n + 1) ∷ []) (owns_released n) refl (released_quiet n)

-- nor do keys that are seen
keys_quiet : (keys : List ℕ) → IsQuiet (keys_seen keys)
keys_quiet [] = refl
keys_quiet (key ∷ keys) = quiet_append (keys_seen keys) (Saw (length keys) key ∷ []) (keys_quiet keys) refl

-- so a bound commits nothing
bounds_quiet : (threads : ℕ) (es es' : List Entry) (bound : Bound) → Bounds threads es es' bound → committed_in es' ≡ committed_in es
bounds_quiet threads es es' bound did =
    let acquired = es ++ all_acquired did.owns did.shared in
    same_events (acquired ++ keys_seen did.keys) (all_released threads) es' did.steps (quiet_append (Released shared_part ∷ []) (owns_released threads) refl (released_quiet threads))
    ∙ (same_events acquired (keys_seen did.keys) (acquired ++ keys_seen did.keys) refl (keys_quiet did.keys)
    ∙ same_events es (all_acquired did.owns did.shared) acquired refl (all_quiet did.owns did.shared))

-- what a refused try adds
missed_entries : (threads : ℕ) (es es' : List Entry) (busy : Busy) → MissesSome threads es es' busy → (more : List Entry) × (es' ≡ es ++ more) × IsQuiet more
missed_entries threads es es' busy missed =
    let n : ℕ = length missed.owns in
    let last : List Entry = Missed busy.lock busy.by ∷ owns_released n in (
      owns_acquired missed.owns ++ last,
      missed.steps ∙ append_assoc es (owns_acquired missed.owns) last,
      quiet_append (owns_acquired missed.owns) last (owns_quiet missed.owns) (quiet_append (Missed busy.lock busy.by ∷ []) (owns_released n) refl (released_quiet n)),
    )

missed_quiet : (threads : ℕ) (es es' : List Entry) (busy : Busy) → MissesSome threads es es' busy → committed_in es' ≡ committed_in es
missed_quiet threads es es' busy missed = let k = missed_entries threads es es' busy missed in same_events es k.0 es' k.1 k.2

-- and several
pub times_entries : (n threads : ℕ) (es es' : List Entry) → MissesSomeTimes n threads es es' → (more : List Entry) × (es' ≡ es ++ more) × IsQuiet more
times_entries zero threads es es' none = ([], none ∙ sym (append-nil es), refl)
times_entries (suc n) threads es es' some =
    let a = times_entries n threads es some.0 some.2 in let b = missed_entries threads some.0 es' some.1 some.3 in
    (a.0 ++ b.0, b.1 ∙ (ap (λ z. z ++ b.0) a.1 ∙ append_assoc es a.0 b.0), quiet_append a.0 b.0 a.2 b.2)

pub times_missed_quiet : (n threads : ℕ) (es es' : List Entry) → MissesSomeTimes n threads es es' → committed_in es' ≡ committed_in es
times_missed_quiet n threads es es' some = let k = times_entries n threads es es' some in same_events es k.0 es' k.1 k.2

-- no answer inserts or deletes anything
pub bound_gains : (threads : ℕ) (es es' : List Entry) (answer : Result Bound Busy) → IfOk answer (Bounds threads es es') → IfErr answer (MissesSome threads es es') → Gains es es' [] []
bound_gains threads es es' (Ok bound) ok err = quiet_gains es es' (bounds_quiet threads es es' bound ok)
bound_gains threads es es' (Err busy) ok err = quiet_gains es es' (missed_quiet threads es es' busy err)

module _ (m : Sizes) (t : ℕ) where
  -- in the world of such a hand just these items live
  all_are_live : (v : View) (owns : List (List Item)) (shared : List Item) → (r : AreReached m t v) → hand_of t (mine v) ≡ all_in_hand owns shared → length owns ≡ m.threads
      → all_items owns shared ≡ live r.world
  all_are_live v owns shared r hand_is many =
      let hand : hand_in r.world t ≡ all_in_hand owns shared = ap (hand_of t) r.list_is ∙ hand_is in
      let all : HasAllParts m.threads (hand_in r.world t) = subst (HasAllParts m.threads) (sym hand) (λ p within. all_has owns shared p (omega (arith, within, many))) in
      let held : held_below (hand_in r.world t) (m.threads + 1) ≡ all_items owns shared =
      ap (λ h. held_below h (m.threads + 1)) hand ∙ (ap (held_below (all_in_hand owns shared)) (add-one m.threads ∙ ap suc (sym many)) ∙ all_held owns shared) in
      sym held ∙ full_hands_have_live (world_limits m) r.world t (lawful_there m t v r) r.thread all

  -- so they are no more than all members may insert
  pub all_are_few : (v : View) (owns : List (List Item)) (shared : List Item) → AreReached m t v → hand_of t (mine v) ≡ all_in_hand owns shared → length owns ≡ m.threads
      → m.threads ≤ MOST_THREADS → m.quota ≤ most_insertions → length (all_items owns shared) ≤ most_deletions
  all_are_few v owns shared r hand_is many threads quota =
      let most : ℕ = m.threads * m.quota in let more : ℕ = MOST_THREADS * m.quota in
      let few : length (live r.world) ≤ most = live_are_few (world_limits m) m.quota r.world (lawful_there m t v r) r.within in
      let a : most ≤ more = mul-le-mul_right m.quota threads in
      let b : more ≤ most_deletions = mul-le-mul_left MOST_THREADS quota in
      let same : length (all_items owns shared) ≡ length (live r.world) = ap length (all_are_live v owns shared r hand_is many) in
      omega (arith, few, same, a, b)

  -- the bound of what is in hand, and of the keys that were seen, is that of what lives and is in work then
  pub sees_all : (v : View) (behind : List Own) (es es' after : List Entry) (owns : List (List Item)) (shared : List Item) (keys : List ℕ) (bound : Bound) → IsMine v t → rest_of v ≡ behind → (r : AreReached m t v)
      → hand_of t (mine v) ≡ all_in_hand owns shared → length owns ≡ m.threads → mine v ≡ (es ++ all_acquired owns shared) ++ keys_seen keys → es' ≡ ((es ++ all_acquired owns shared) ++ keys_seen keys) ++ after → IsBoundOf (all_items owns shared) bound
      → bound.work ≡ least_work r.world.lists
      → SeesAllLive m t behind es es' bound
  sees_all v behind es es' after owns shared keys bound acts same r hand_is many list steps bounds work =
      let more : List Entry = all_acquired owns shared ++ keys_seen keys in
      let joined : (es ++ all_acquired owns shared) ++ keys_seen keys ≡ es ++ more = append_assoc es (all_acquired owns shared) (keys_seen keys) in
      let list' : mine v ≡ es ++ more = list ∙ joined in
      let at : List Entry = es ++ more in
      let is : v ≡ view (own t at ∷ behind) = (λ i. view ((acts ∙ (λ j. own t (list' j) ∷ same j)) i)) in
      let lives : IsBoundOf (live r.world) bound = subst (λ items. IsBoundOf items bound) (all_are_live v owns shared r hand_is many) bounds in
      let moved : (z : AreReached m t (view (own t at ∷ behind))) × IsBoundOf (live z.world) bound × (bound.work ≡ least_work z.world.lists) =
      subst (λ (w : View). (z : AreReached m t w) × IsBoundOf (live z.world) bound × (bound.work ≡ least_work z.world.lists)) is (r, lives, work) in
      record {
        added = more;
        after = after;
        steps = steps ∙ ap (λ z. z ++ after) joined;
        none = quiet_append (all_acquired owns shared) (keys_seen keys) (all_quiet owns shared) (keys_quiet keys);
        in_hand = subst (λ z. HasAllParts m.threads (hand_of t z)) list' (subst (HasAllParts m.threads) (sym hand_is) (λ p within. all_has owns shared p (omega (arith, within, many))));
        reached = moved.0;
        is = moved.1;
        work = moved.2;
      }

  -- the call may have begun earlier
  pub sees_since : (behind : List Own) (es more now es' : List Entry) (bound : Bound) → now ≡ es ++ more → IsQuiet more → SeesAllLive m t behind now es' bound → SeesAllLive m t behind es es' bound
  sees_since behind es more now es' bound is quiet sees =
      let same : now ++ sees.added ≡ es ++ (more ++ sees.added) = ap (λ z. z ++ sees.added) is ∙ append_assoc es more sees.added in
      let moved : (z : AreReached m t (view (own t (es ++ (more ++ sees.added)) ∷ behind))) × IsBoundOf (live z.world) bound × (bound.work ≡ least_work z.world.lists) =
      subst (λ at. (z : AreReached m t (view (own t at ∷ behind))) × IsBoundOf (live z.world) bound × (bound.work ≡ least_work z.world.lists)) same (sees.reached, sees.is, sees.work) in
      record {
        added = more ++ sees.added;
        after = sees.after;
        steps = sees.steps ∙ ap (λ z. z ++ sees.after) same;
        none = quiet_append more sees.added quiet sees.none;
        in_hand = subst (λ at. HasAllParts m.threads (hand_of t at)) same sees.in_hand;
        reached = moved.0;
        is = moved.1;
        work = moved.2;
      }

-- the lock behind n own parts: the next own one, or behind all of them the shared one
pub own_behind : (threads n : ℕ) → n < threads → lock_behind threads n ≡ n + 1
own_behind threads n less = ap (λ b. if b then n + 1 else shared_part) (lt-ltb n threads less)

pub shared_behind : (threads : ℕ) → lock_behind threads threads ≡ 0
shared_behind threads = ap (λ b. if b then threads + 1 else shared_part) (le-ltb threads threads (omega arith))

-- it is one of the board
pub missed_within : (threads : ℕ) (es es' : List Entry) (busy : Busy) → MissesSome threads es es' busy → busy.lock ≤ threads
missed_within threads es es' busy missed =
    let n : ℕ = length missed.owns in let is = missed.lock in
    elim (cases_lt n threads) [
      | inl less ↦ let here = own_behind threads n less in omega (arith, is, here, less)
      | inr all ↦
          let whole : n ≡ threads = omega (arith, all, missed.within) in
          let here : lock_behind threads n ≡ 0 = ap (lock_behind threads) whole ∙ shared_behind threads in omega (arith, is, here)
    ]

-- how a refused try comes about: some own parts were acquired, a lock was missed, and they were released
pub misses_some : (threads n : ℕ) (es found_es missed_es es' : List Entry) (busy : Busy) (owns : List (List Item)) → length owns ≡ n → n ≤ threads → busy.lock ≡ lock_behind threads n
    → found_es ≡ es ++ owns_acquired owns → missed_es ≡ found_es ++ Missed busy.lock busy.by ∷ [] → es' ≡ missed_es ++ owns_released n → MissesSome threads es es' busy
misses_some threads n es found_es missed_es es' busy owns many within lock found missed steps =
    let miss : List Entry = Missed busy.lock busy.by ∷ [] in
    record {
      owns = owns;
      within = omega (arith, many, within);
      lock = lock ∙ ap (lock_behind threads) (sym many);
      steps = steps
          ∙ (ap (λ z. z ++ owns_released n) (missed ∙ ap (λ z. z ++ miss) found)
          ∙ (append_assoc (es ++ owns_acquired owns) miss (owns_released n) ∙ ap (λ k. (es ++ owns_acquired owns) ++ Missed busy.lock busy.by ∷ owns_released k) (sym many)));
    }
