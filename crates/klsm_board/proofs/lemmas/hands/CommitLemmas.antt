-- Which events may be committed with the parts in hand, once they are carried out in them.
use Rattle.std.proofs.Common.{◌≡◌, ◌≢◌, ℕ, ◌+◌, List, [], ◌∷◌, length, sym, ap, ◌∙◌, subst, arith}
use Rattle.atomic_table.specs.Table.{Me}
use Rattle.klsm_run.specs.declared.item.Item.{Item}
use Rattle.klsm_run.specs.Content.{IsAscending}
use Rattle.klsm_run.proofs.ContentLemmas.{sorted_swap}
use Rattle.klsm_run.proofs.SortedLemmas.{sorted_ascending}
use Rattle.klsm_run.proofs.WithoutLemmas.{sorted_cancel}
use Rattle.klsm_parts.specs.Events.{MayPut, MayFlush, MayTake, MayTakeEarly, MaySpy, MayRefill, own_after_put, own_after_flush, shared_after_flush, own_after_take, shared_after_take, own_after_early, own_after_spy, victim_after_spy, own_after_refill, shared_after_refill, front_of}
use Rattle.klsm_parts.specs.Stealing.{MaySteal, own_after_steal, victim_after_steal}
use Rattle.klsm_parts.specs.Sharing.{MayShare, own_after_share, shared_after_share}
use Rattle.klsm_schedules.specs.declared.step.Event.TheVariants.{Put, Flush, Take, Early, Spy, Refill, Steal, Share}
use Rattle.klsm_schedules.specs.OwnSteps.{Hand, Holds, found_in, hand_of, inserted, content_in, after_event, shared_part}
use Rattle.klsm_schedules.specs.LegalSteps.{BearsStamp, MayCommit}
use Rattle.klsm_schedules.proofs.lemmas.counts.EventCountLemmas.{length_plus}
use Rattle.std.specs.Prelude.{unwrap_or}
use Rattle.std.proofs.lemmas.Option.{same_Some}
use Rattle.klsm_board.specs.declared.sizes.Sizes.{Sizes}
use Rattle.klsm_board.specs.declared.rule.View.{View}
use Rattle.klsm_board.specs.Steps.{mine, AreReached}
use Rattle.klsm_board.specs.Seats.{Carries, Has, CarriedOut, IsMarked, LeavesShared, SetsFront, own_in_hand, both_in_hand, three_in_hand, victim_in_hand}
use Rattle.klsm_board.proofs.lemmas.hands.EventLemmas.{own_in_one, own_in_both, shared_in_both, own_in_three, victim_in_three, put_leaves, flush_leaves, take_leaves, early_leaves, spy_leaves, refill_leaves, share_leaves, own_beside_victim, victim_beside_own, steal_leaves}

-- the content of the part that was acquired last
abbrev first_content : Hand → List Item
first_content [] = []
first_content (held ∷ hand) = held.1

-- that of the one acquired before it
abbrev second_content : Hand → List Item
second_content [] = []
second_content (held ∷ hand) = first_content hand

-- and that of the one acquired first of three
abbrev third_content : Hand → List Item
third_content [] = []
third_content (held ∷ []) = []
third_content (held ∷ (next ∷ hand)) = first_content hand

module _ {S : Type 0} (content : S → List Item) (suits : ℕ → ℕ → S → Type 0) (m : Sizes) (t : ℕ) where
  -- the hand by the list, while the seat works
  still : (hand : Hand) (me me' : Me S View) → Has content suits m t hand me → me'.0 ≡ me.0 → hand_of t (mine me'.0) ≡ hand
  still hand me me' has same = ap (λ v. hand_of t (mine v)) same ∙ has.hand_is

  marked_still : (hand : Hand) (me me' : Me S View) → Has content suits m t hand me → me'.0 ≡ me.0 → IsMarked (mine me'.0)
  marked_still hand me me' has same = subst (λ v. IsMarked (mine v)) (sym same) has.marked

  -- a seat that carries what it did still has it
  pub has_still : (hand : Hand) (me me' : Me S View) → Has content suits m t hand me → me'.0 ≡ me.0 → Carries content suits m t hand me' → Has content suits m t hand me'
  has_still hand me me' has same carries = record {
    carries = carries;
    hand_is = still hand me me' has same;
    marked = marked_still hand me me' has same;
    reached = subst (λ v. AreReached m t v) (sym same) has.reached;
  }

  holds_still : (hand : Hand) (me me' : Me S View) (p : ℕ) (c : List Item) → Has content suits m t hand me → me'.0 ≡ me.0 → Holds hand p c → Holds (hand_of t (mine me'.0)) p c
  holds_still hand me me' p c has same holds = ap (λ h. found_in h p) (still hand me me' has same) ∙ holds

  bears_still : (me me' : Me S View) (x : Item) → me'.0 ≡ me.0 → BearsStamp t (length (inserted (mine me.0))) x → BearsStamp t (length (inserted (mine me'.0))) x
  bears_still me me' x same bears = subst (λ v. BearsStamp t (length (inserted (mine v))) x) (sym same) bears

  pub put_out : (own : List Item) (x : Item) (me me' : Me S View) → Has content suits m t (own_in_hand t own) me → me'.0 ≡ me.0 → BearsStamp t (length (inserted (mine me.0))) x → MayPut m.k own
      → Carries content suits m t (own_in_hand t (own_after_put own x)) me' → CarriedOut content suits m t (Put x) (own_in_hand t (own_after_put own x)) me'
  put_out own x me me' has same bears may carries = record {
    carries = carries;
    may = record {
      held = record { own = own; holds_own = holds_still (own_in_hand t own) me me' (t + 1) own has same (own_in_one t own); fits = may };
      stamp = bears_still me me' x same bears;
    };
    done = put_leaves t (hand_of t (mine me'.0)) own x (still (own_in_hand t own) me me' has same);
    marked = marked_still (own_in_hand t own) me me' has same;
  }

  pub flush_out : (own shared : List Item) (x : Item) (moved : List Item) (me me' : Me S View) → Has content suits m t (both_in_hand t own shared) me → me'.0 ≡ me.0 → BearsStamp t (length (inserted (mine me.0))) x → MayFlush m.k own x moved
      → Carries content suits m t (both_in_hand t (own_after_flush own x moved) (shared_after_flush shared moved)) me'
      → CarriedOut content suits m t (Flush x moved) (both_in_hand t (own_after_flush own x moved) (shared_after_flush shared moved)) me'
  flush_out own shared x moved me me' has same bears may carries = record {
    carries = carries;
    may = record {
      held = record {
        own = own;
        other = shared;
        holds_own = holds_still (both_in_hand t own shared) me me' (t + 1) own has same (own_in_both t own shared);
        holds_other = holds_still (both_in_hand t own shared) me me' 0 shared has same (shared_in_both t own shared);
        fits = may;
      };
      stamp = bears_still me me' x same bears;
    };
    done = flush_leaves t (hand_of t (mine me'.0)) own shared (still (both_in_hand t own shared) me me' has same) x moved;
    marked = marked_still (both_in_hand t own shared) me me' has same;
  }

  -- what is known of the items that a commit names as moved: as many moved as were moved
  pub flush_told : (own shared : List Item) (x : Item) (moved named : List Item) (me me' : Me S View) → Has content suits m t (both_in_hand t own shared) me → me'.0 ≡ me.0
      → CarriedOut content suits m t (Flush x named) (both_in_hand t (own_after_flush own x moved) (shared_after_flush shared moved)) me'
      → MayFlush m.k own x named × (length named ≡ length moved)
  flush_told own shared x moved named me me' has same out =
      let held = out.may.held in
      let own_is : held.own ≡ own = same_Some held.own own (sym held.holds_own ∙ holds_still (both_in_hand t own shared) me me' (t + 1) own has same (own_in_both t own shared)) in
      let left : both_in_hand t (own_after_flush own x named) (shared_after_flush shared named) ≡ both_in_hand t (own_after_flush own x moved) (shared_after_flush shared moved) =
      sym (flush_leaves t (hand_of t (mine me'.0)) own shared (still (both_in_hand t own shared) me me' has same) x named) ∙ out.done in
      let lengths : length (shared_after_flush shared named) ≡ length (shared_after_flush shared moved) = ap (λ h. length (first_content h)) left in
      let a = length_plus shared named in let b = length_plus shared moved in
      (subst (λ c. MayFlush m.k c x named) own_is held.fits, omega (arith, a, b, lengths))

  pub take_done : (own shared : List Item) (x : Item) (me me' : Me S View) → Has content suits m t (both_in_hand t own shared) me → me'.0 ≡ me.0 → MayTake m.k t own shared x
      → Carries content suits m t (both_in_hand t (own_after_take own x) (shared_after_take own shared x)) me'
      → CarriedOut content suits m t (Take x) (both_in_hand t (own_after_take own x) (shared_after_take own shared x)) me'
  take_done own shared x me me' has same may carries = record {
    carries = carries;
    may = record {
      own = own;
      other = shared;
      holds_own = holds_still (both_in_hand t own shared) me me' (t + 1) own has same (own_in_both t own shared);
      holds_other = holds_still (both_in_hand t own shared) me me' 0 shared has same (shared_in_both t own shared);
      fits = may;
    };
    done = take_leaves t (hand_of t (mine me'.0)) own shared (still (both_in_hand t own shared) me me' has same) x;
    marked = marked_still (both_in_hand t own shared) me me' has same;
  }

  -- a Take may be committed by whoever has both parts in hand
  pub take_may : (own shared : List Item) (x : Item) (v : View) → hand_of t (mine v) ≡ both_in_hand t own shared → MayTake m.k t own shared x
      → MayCommit m.k t (hand_of t (mine v)) (length (inserted (mine v))) (Take x)
  take_may own shared x v hand_is may = record {
    own = own;
    other = shared;
    holds_own = ap (λ h. found_in h (t + 1)) hand_is ∙ own_in_both t own shared;
    holds_other = ap (λ h. found_in h 0) hand_is ∙ shared_in_both t own shared;
    fits = may;
  }

  -- and so may a Refill
  pub refill_may : (own shared moved : List Item) (v : View) → hand_of t (mine v) ≡ both_in_hand t own shared → MayRefill m.k own shared moved
      → MayCommit m.k t (hand_of t (mine v)) (length (inserted (mine v))) (Refill moved)
  refill_may own shared moved v hand_is may = record {
    own = own;
    other = shared;
    holds_own = ap (λ h. found_in h (t + 1)) hand_is ∙ own_in_both t own shared;
    holds_other = ap (λ h. found_in h 0) hand_is ∙ shared_in_both t own shared;
    fits = may;
  }

  pub share_done : (own shared moved : List Item) (me me' : Me S View) → Has content suits m t (both_in_hand t own shared) me → me'.0 ≡ me.0 → MayShare own moved
      → Carries content suits m t (both_in_hand t (own_after_share own moved) (shared_after_share shared moved)) me'
      → CarriedOut content suits m t (Share moved) (both_in_hand t (own_after_share own moved) (shared_after_share shared moved)) me'
  share_done own shared moved me me' has same may carries = record {
    carries = carries;
    may = record {
      own = own;
      other = shared;
      holds_own = holds_still (both_in_hand t own shared) me me' (t + 1) own has same (own_in_both t own shared);
      holds_other = holds_still (both_in_hand t own shared) me me' 0 shared has same (shared_in_both t own shared);
      fits = may;
    };
    done = share_leaves t (hand_of t (mine me'.0)) own shared (still (both_in_hand t own shared) me me' has same) moved;
    marked = marked_still (both_in_hand t own shared) me me' has same;
  }

  -- the items that a Share names are the ones that the shared part gained
  pub share_told : (own shared moved named : List Item) (me me' : Me S View) → Has content suits m t (both_in_hand t own shared) me → me'.0 ≡ me.0 → IsAscending moved
      → CarriedOut content suits m t (Share named) (both_in_hand t (own_after_share own moved) (shared_after_share shared moved)) me'
      → named ≡ moved
  share_told own shared moved named me me' has same up out =
      let left : both_in_hand t (own_after_share own named) (shared_after_share shared named) ≡ both_in_hand t (own_after_share own moved) (shared_after_share shared moved) =
      sym (share_leaves t (hand_of t (mine me'.0)) own shared (still (both_in_hand t own shared) me me' has same) named) ∙ out.done in
      let joined = ap first_content left in
      let same_items = sorted_cancel shared named moved (sorted_swap shared named ∙ (joined ∙ sorted_swap moved shared)) in
      sym (sorted_ascending named out.may.fits.ascending) ∙ (same_items ∙ sorted_ascending moved up)

  pub early_done : (own : List Item) (x : Item) (front : ℕ) (me me' : Me S View) → Has content suits m t (own_in_hand t own) me → me'.0 ≡ me.0 → MayTakeEarly own x front
      → Carries content suits m t (own_in_hand t (own_after_early own x)) me'
      → CarriedOut content suits m t (Early x front) (own_in_hand t (own_after_early own x)) me'
  early_done own x front me me' has same may carries = record {
    carries = carries;
    may = record { own = own; holds_own = holds_still (own_in_hand t own) me me' (t + 1) own has same (own_in_one t own); fits = may };
    done = early_leaves t (hand_of t (mine me'.0)) own x front (still (own_in_hand t own) me me' has same);
    marked = marked_still (own_in_hand t own) me me' has same;
  }

  -- a Take leaves the shared part, where that is as it was
  pub take_leaves_shared : (own shared : List Item) (x : Item) (me me' : Me S View) → Has content suits m t (both_in_hand t own shared) me → me'.0 ≡ me.0 → shared_after_take own shared x ≡ shared
      → LeavesShared t (hand_of t (mine me'.0)) (Take x)
  take_leaves_shared own shared x me me' has same stays =
      let hand_is = still (both_in_hand t own shared) me me' has same in
      ap (λ h. unwrap_or (found_in h 0) []) (take_leaves t (hand_of t (mine me'.0)) own shared hand_is x)
      ∙ (ap (λ o. unwrap_or o []) (shared_in_both t (own_after_take own x) (shared_after_take own shared x))
      ∙ (stays ∙ sym (ap (λ h. unwrap_or (found_in h 0) []) hand_is ∙ ap (λ o. unwrap_or o []) (shared_in_both t own shared))))

  -- and else sets the front to that of what it leaves
  pub take_sets_front : (own shared : List Item) (x : Item) (front : ℕ) (me me' : Me S View) → Has content suits m t (both_in_hand t own shared) me → me'.0 ≡ me.0 → shared_after_take own shared x ≢ shared → front ≡ front_of (shared_after_take own shared x)
      → SetsFront t (hand_of t (mine me'.0)) (Take x) front
  take_sets_front own shared x front me me' has same changed is =
      let hand_is = still (both_in_hand t own shared) me me' has same in
      let after : content_in (after_event t (hand_of t (mine me'.0)) (Take x)) shared_part ≡ shared_after_take own shared x =
      ap (λ h. unwrap_or (found_in h 0) []) (take_leaves t (hand_of t (mine me'.0)) own shared hand_is x) ∙ ap (λ o. unwrap_or o []) (shared_in_both t (own_after_take own x) (shared_after_take own shared x)) in
      let before : content_in (hand_of t (mine me'.0)) shared_part ≡ shared = ap (λ h. unwrap_or (found_in h 0) []) hand_is ∙ ap (λ o. unwrap_or o []) (shared_in_both t own shared) in
      (λ stays. changed (sym after ∙ (stays ∙ before)), is ∙ ap front_of (sym after))

  -- and so does a Flush
  pub flush_sets_front : (own shared : List Item) (x : Item) (moved : List Item) (front : ℕ) (me me' : Me S View) → Has content suits m t (both_in_hand t own shared) me → me'.0 ≡ me.0 → front ≡ front_of (shared_after_flush shared moved)
      → SetsFront t (hand_of t (mine me'.0)) (Flush x moved) front
  flush_sets_front own shared x moved front me me' has same is =
      let hand_is = still (both_in_hand t own shared) me me' has same in
      is ∙ sym (ap (λ h. front_of (unwrap_or (found_in h 0) [])) (flush_leaves t (hand_of t (mine me'.0)) own shared hand_is x moved)
      ∙ ap (λ o. front_of (unwrap_or o [])) (shared_in_both t (own_after_flush own x moved) (shared_after_flush shared moved)))

  -- and so does a Refill
  pub refill_sets_front : (own shared moved : List Item) (front : ℕ) (v : View) → hand_of t (mine v) ≡ both_in_hand t own shared → front ≡ front_of (shared_after_refill shared moved)
      → SetsFront t (hand_of t (mine v)) (Refill moved) front
  refill_sets_front own shared moved front v hand_is is =
      is ∙ sym (ap (λ h. front_of (unwrap_or (found_in h 0) [])) (refill_leaves t (hand_of t (mine v)) own shared hand_is moved)
      ∙ ap (λ o. front_of (unwrap_or o [])) (shared_in_both t (own_after_refill own moved) (shared_after_refill shared moved)))

  -- and so does a Share
  pub share_sets_front : (own shared moved : List Item) (front : ℕ) (me me' : Me S View) → Has content suits m t (both_in_hand t own shared) me → me'.0 ≡ me.0 → front ≡ front_of (shared_after_share shared moved)
      → SetsFront t (hand_of t (mine me'.0)) (Share moved) front
  share_sets_front own shared moved front me me' has same is =
      let hand_is = still (both_in_hand t own shared) me me' has same in
      is ∙ sym (ap (λ h. front_of (unwrap_or (found_in h 0) [])) (share_leaves t (hand_of t (mine me'.0)) own shared hand_is moved)
      ∙ ap (λ o. front_of (unwrap_or o [])) (shared_in_both t (own_after_share own moved) (shared_after_share shared moved)))

  pub spy_done : (v : ℕ) (found own shared moved : List Item) (me me' : Me S View) → v ≢ t → Has content suits m t (three_in_hand t v found own shared) me → me'.0 ≡ me.0 → MaySpy own found moved
      → Carries content suits m t (three_in_hand t v (victim_after_spy found moved) (own_after_spy moved) shared) me'
      → CarriedOut content suits m t (Spy v moved) (three_in_hand t v (victim_after_spy found moved) (own_after_spy moved) shared) me'
  spy_done v found own shared moved me me' other has same may carries = record {
    carries = carries;
    may = record {
      held = record {
        own = own;
        other = found;
        holds_own = holds_still (three_in_hand t v found own shared) me me' (t + 1) own has same (own_in_three t v found own shared other);
        holds_other = holds_still (three_in_hand t v found own shared) me me' (v + 1) found has same (victim_in_three t v found own shared);
        fits = may;
      };
      another = other;
    };
    done = spy_leaves t v (hand_of t (mine me'.0)) found own shared other (still (three_in_hand t v found own shared) me me' has same) moved;
    marked = marked_still (three_in_hand t v found own shared) me me' has same;
  }

  -- and of those that a Spy names: they are the ones that the own part has
  pub spy_told : (v : ℕ) (found own shared moved named : List Item) (me me' : Me S View) → v ≢ t → Has content suits m t (three_in_hand t v found own shared) me → me'.0 ≡ me.0
      → CarriedOut content suits m t (Spy v named) (three_in_hand t v (victim_after_spy found moved) (own_after_spy moved) shared) me'
      → named ≡ moved
  spy_told v found own shared moved named me me' other has same out =
      ap third_content
      (sym (spy_leaves t v (hand_of t (mine me'.0)) found own shared other (still (three_in_hand t v found own shared) me me' has same) named) ∙ out.done)

  pub steal_done : (v : ℕ) (found own moved : List Item) (me me' : Me S View) → v ≢ t → Has content suits m t (victim_in_hand t v found own) me → me'.0 ≡ me.0 → MaySteal m.k own found moved
      → Carries content suits m t (victim_in_hand t v (victim_after_steal found moved) (own_after_steal own moved)) me'
      → CarriedOut content suits m t (Steal v moved) (victim_in_hand t v (victim_after_steal found moved) (own_after_steal own moved)) me'
  steal_done v found own moved me me' other has same may carries = record {
    carries = carries;
    may = record {
      held = record {
        own = own;
        other = found;
        holds_own = holds_still (victim_in_hand t v found own) me me' (t + 1) own has same (own_beside_victim t v found own other);
        holds_other = holds_still (victim_in_hand t v found own) me me' (v + 1) found has same (victim_beside_own t v found own);
        fits = may;
      };
      another = other;
    };
    done = steal_leaves t v (hand_of t (mine me'.0)) found own other (still (victim_in_hand t v found own) me me' has same) moved;
    marked = marked_still (victim_in_hand t v found own) me me' has same;
  }

  -- the items that a Steal names are the ones that the own part gained
  pub steal_told : (v : ℕ) (found own moved named : List Item) (me me' : Me S View) → v ≢ t → Has content suits m t (victim_in_hand t v found own) me → me'.0 ≡ me.0 → IsAscending moved
      → CarriedOut content suits m t (Steal v named) (victim_in_hand t v (victim_after_steal found moved) (own_after_steal own moved)) me'
      → named ≡ moved
  steal_told v found own moved named me me' other has same up out =
      let left : victim_in_hand t v (victim_after_steal found named) (own_after_steal own named) ≡ victim_in_hand t v (victim_after_steal found moved) (own_after_steal own moved) =
      sym (steal_leaves t v (hand_of t (mine me'.0)) found own other (still (victim_in_hand t v found own) me me' has same) named) ∙ out.done in
      let joined = ap second_content left in
      let same_items = sorted_cancel own named moved (sorted_swap own named ∙ (joined ∙ sorted_swap moved own)) in
      sym (sorted_ascending named out.may.held.fits.ascending) ∙ (same_items ∙ sorted_ascending moved up)
