-- What events leave of a hand with the own part, the shared one and a victim's.
use Rattle.std.proofs.Common.{◌≡◌, ◌≢◌, ℕ, ◌+◌, List, [], ◌∷◌, refl, sym, ap, ◌∙◌, arith, Some, None}
use Rattle.klsm_run.specs.declared.item.Item.{Item}
use Rattle.klsm_parts.specs.Events.{own_after_put, own_after_flush, shared_after_flush, own_after_take, shared_after_take, own_after_early, own_after_spy, victim_after_spy, own_after_refill, shared_after_refill}
use Rattle.klsm_parts.specs.Stealing.{own_after_steal, victim_after_steal}
use Rattle.klsm_parts.specs.Sharing.{own_after_share, shared_after_share}
use Rattle.klsm_schedules.specs.declared.step.Event.TheVariants.{Put, Flush, Take, Early, Spy, Refill, Steal, Share}
use Rattle.klsm_schedules.specs.OwnSteps.{Hand, found_in, content_in, changed, after_event}
use Rattle.klsm_schedules.proofs.lemmas.hands.HandLemmas.{choice_hit, choice_miss, found_first, found_behind}
use Rattle.klsm_board.specs.Seats.{own_in_hand, both_in_hand, three_in_hand, victim_in_hand}
use Rattle.std.specs.Prelude.{unwrap_or}

-- own parts are not the shared one
pub not_shared : (t : ℕ) → t + 1 ≢ 0
not_shared t e = omega (arith, e)

not_own : (t : ℕ) → 0 ≢ t + 1
not_own t e = omega (arith, e)

pub differ : (v t : ℕ) → v ≢ t → v + 1 ≢ t + 1
differ v t other e = omega (arith, e, other)

-- a change of the first part of a hand, and of another
change_first : (p : ℕ) (c d : List Item) (h : Hand) → changed ((p, c) ∷ h) p d ≡ (p, d) ∷ h
change_first p c d h = choice_hit p p ((p, d) ∷ h) ((p, c) ∷ changed h p d) refl

change_behind : (p q : ℕ) (c d : List Item) (h : Hand) → q ≢ p → changed ((q, c) ∷ h) p d ≡ (q, c) ∷ changed h p d
change_behind p q c d h other = choice_miss q p ((p, d) ∷ h) ((q, c) ∷ changed h p d) other

-- where the parts are
pub own_in_one : (t : ℕ) (own : List Item) → found_in (own_in_hand t own) (t + 1) ≡ Some own
own_in_one t own = found_first [] (t + 1) own

pub shared_not_in_one : (t : ℕ) (own : List Item) → found_in (own_in_hand t own) 0 ≡ None
shared_not_in_one t own = found_behind [] (t + 1) 0 own (not_own t)

pub own_in_both : (t : ℕ) (own shared : List Item) → found_in (both_in_hand t own shared) (t + 1) ≡ Some own
own_in_both t own shared = found_behind (own_in_hand t own) 0 (t + 1) shared (not_shared t) ∙ own_in_one t own

pub shared_in_both : (t : ℕ) (own shared : List Item) → found_in (both_in_hand t own shared) 0 ≡ Some shared
shared_in_both t own shared = found_first (own_in_hand t own) 0 shared

pub victim_not_in_both : (t v : ℕ) (own shared : List Item) → v ≢ t → found_in (both_in_hand t own shared) (v + 1) ≡ None
victim_not_in_both t v own shared other =
    found_behind (own_in_hand t own) 0 (v + 1) shared (not_shared v) ∙ found_behind [] (t + 1) (v + 1) own (differ v t other)

pub own_in_three : (t v : ℕ) (found own shared : List Item) → v ≢ t → found_in (three_in_hand t v found own shared) (t + 1) ≡ Some own
own_in_three t v found own shared other =
    found_behind (both_in_hand t own shared) (v + 1) (t + 1) found (λ e. differ v t other (sym e)) ∙ own_in_both t own shared

pub victim_in_three : (t v : ℕ) (found own shared : List Item) → found_in (three_in_hand t v found own shared) (v + 1) ≡ Some found
victim_in_three t v found own shared = found_first (both_in_hand t own shared) (v + 1) found

-- a Put
pub put_leaves : (t : ℕ) (h : Hand) (own : List Item) (x : Item) → h ≡ own_in_hand t own → after_event t h (Put x) ≡ own_in_hand t (own_after_put own x)
put_leaves t h own x is =
    let own_is : content_in h (t + 1) ≡ own = ap (λ z. unwrap_or z []) (ap (λ z. found_in z (t + 1)) is ∙ own_in_one t own) in
    (λ i. changed (is i) (t + 1) (own_after_put (own_is i) x)) ∙ change_first (t + 1) own (own_after_put own x) []

-- an Early
pub early_leaves : (t : ℕ) (h : Hand) (own : List Item) (x : Item) (front : ℕ) → h ≡ own_in_hand t own → after_event t h (Early x front) ≡ own_in_hand t (own_after_early own x)
early_leaves t h own x front is =
    let own_is : content_in h (t + 1) ≡ own = ap (λ z. unwrap_or z []) (ap (λ z. found_in z (t + 1)) is ∙ own_in_one t own) in
    (λ i. changed (is i) (t + 1) (own_after_early (own_is i) x)) ∙ change_first (t + 1) own (own_after_early own x) []

change_both : (t : ℕ) (own shared own' shared' : List Item) → changed (changed (both_in_hand t own shared) (t + 1) own') 0 shared' ≡ both_in_hand t own' shared'
change_both t own shared own' shared' =
    ap (λ h. changed h 0 shared') (change_behind (t + 1) 0 shared own' (own_in_hand t own) (not_own t) ∙ ap (λ (h : Hand). (0, shared) ∷ h) (change_first (t + 1) own own' []))
    ∙ change_first 0 shared shared' (own_in_hand t own')

-- a Flush, a Take, a Refill and a Share
module _ (t : ℕ) (h : Hand) (own shared : List Item) (is : h ≡ both_in_hand t own shared) where
  own_is : content_in h (t + 1) ≡ own
  own_is = ap (λ z. unwrap_or z []) (ap (λ z. found_in z (t + 1)) is ∙ own_in_both t own shared)

  shared_is : content_in h 0 ≡ shared
  shared_is = ap (λ z. unwrap_or z []) (ap (λ z. found_in z 0) is ∙ shared_in_both t own shared)

  pub flush_leaves : (x : Item) (moved : List Item) → after_event t h (Flush x moved) ≡ both_in_hand t (own_after_flush own x moved) (shared_after_flush shared moved)
  flush_leaves x moved =
      (λ i. changed (changed (is i) (t + 1) (own_after_flush (own_is i) x moved)) 0 (shared_after_flush (shared_is i) moved))
      ∙ change_both t own shared (own_after_flush own x moved) (shared_after_flush shared moved)

  pub take_leaves : (x : Item) → after_event t h (Take x) ≡ both_in_hand t (own_after_take own x) (shared_after_take own shared x)
  take_leaves x =
      (λ i. changed (changed (is i) (t + 1) (own_after_take (own_is i) x)) 0 (shared_after_take (own_is i) (shared_is i) x))
      ∙ change_both t own shared (own_after_take own x) (shared_after_take own shared x)

  pub refill_leaves : (moved : List Item) → after_event t h (Refill moved) ≡ both_in_hand t (own_after_refill own moved) (shared_after_refill shared moved)
  refill_leaves moved =
      (λ i. changed (changed (is i) (t + 1) (own_after_refill (own_is i) moved)) 0 (shared_after_refill (shared_is i) moved))
      ∙ change_both t own shared (own_after_refill own moved) (shared_after_refill shared moved)

  pub share_leaves : (moved : List Item) → after_event t h (Share moved) ≡ both_in_hand t (own_after_share own moved) (shared_after_share shared moved)
  share_leaves moved =
      (λ i. changed (changed (is i) (t + 1) (own_after_share (own_is i) moved)) 0 (shared_after_share (shared_is i) moved))
      ∙ change_both t own shared (own_after_share own moved) (shared_after_share shared moved)

-- a Spy
pub spy_leaves : (t v : ℕ) (h : Hand) (found own shared : List Item) → v ≢ t → h ≡ three_in_hand t v found own shared → (moved : List Item)
    → after_event t h (Spy v moved) ≡ three_in_hand t v (victim_after_spy found moved) (own_after_spy moved) shared
spy_leaves t v h found own shared other is moved =
    let victim_is : content_in h (v + 1) ≡ found = ap (λ z. unwrap_or z []) (ap (λ z. found_in z (v + 1)) is ∙ victim_in_three t v found own shared) in
    let moves : Hand = both_in_hand t (own_after_spy moved) shared in
    (λ i. changed (changed (is i) (t + 1) (own_after_spy moved)) (v + 1) (victim_after_spy (victim_is i) moved))
    ∙ (ap (λ z. changed z (v + 1) (victim_after_spy found moved))
    (change_behind (t + 1) (v + 1) found (own_after_spy moved) (both_in_hand t own shared) (differ v t other)
    ∙ ap (λ (z : Hand). (v + 1, found) ∷ z) (change_behind (t + 1) 0 shared (own_after_spy moved) (own_in_hand t own) (not_own t) ∙ ap (λ (z : Hand). (0, shared) ∷ z) (change_first (t + 1) own (own_after_spy moved) [])))
    ∙ change_first (v + 1) found (victim_after_spy found moved) moves)

-- a victim's part beside the own one
pub victim_not_in_one : (t v : ℕ) (own : List Item) → v ≢ t → found_in (own_in_hand t own) (v + 1) ≡ None
victim_not_in_one t v own other = found_behind [] (t + 1) (v + 1) own (differ v t other)

pub own_beside_victim : (t v : ℕ) (found own : List Item) → v ≢ t → found_in (victim_in_hand t v found own) (t + 1) ≡ Some own
own_beside_victim t v found own other = found_behind (own_in_hand t own) (v + 1) (t + 1) found (λ e. differ v t other (sym e)) ∙ own_in_one t own

pub victim_beside_own : (t v : ℕ) (found own : List Item) → found_in (victim_in_hand t v found own) (v + 1) ≡ Some found
victim_beside_own t v found own = found_first (own_in_hand t own) (v + 1) found

-- a Steal
pub steal_leaves : (t v : ℕ) (h : Hand) (found own : List Item) → v ≢ t → h ≡ victim_in_hand t v found own → (moved : List Item)
    → after_event t h (Steal v moved) ≡ victim_in_hand t v (victim_after_steal found moved) (own_after_steal own moved)
steal_leaves t v h found own other is moved =
    let victim_is : content_in h (v + 1) ≡ found = ap (λ z. unwrap_or z []) (ap (λ z. found_in z (v + 1)) is ∙ victim_beside_own t v found own) in
    let own_was : content_in h (t + 1) ≡ own = ap (λ z. unwrap_or z []) (ap (λ z. found_in z (t + 1)) is ∙ own_beside_victim t v found own other) in
    (λ i. changed (changed (is i) (t + 1) (own_after_steal (own_was i) moved)) (v + 1) (victim_after_steal (victim_is i) moved))
    ∙ (ap (λ z. changed z (v + 1) (victim_after_steal found moved))
    (change_behind (t + 1) (v + 1) found (own_after_steal own moved) (own_in_hand t own) (differ v t other)
    ∙ ap (λ (z : Hand). (v + 1, found) ∷ z) (change_first (t + 1) own (own_after_steal own moved) []))
    ∙ change_first (v + 1) found (victim_after_steal found moved) (own_in_hand t (own_after_steal own moved)))
