-- No item is live twice, so no two parts share one.
use Rattle.std.proofs.Common.{◌≡◌, ◌≢◌, inl, inr, ℕ, zero, suc, ◌+◌, ◌<◌, ◌≤◌, List, [], ◌∷◌, length, get_or, take, sym, refl, ap, ◌∙◌, subst, arith}
use Rattle.std.specs.List.{Contains, flat_map}
use Rattle.std.proofs.Math.Seq.{take-length}
use Rattle.std.proofs.lemmas.Bool.{cases_eq}
use Rattle.std.proofs.lemmas.Option.{slice_get-get_or}
use Rattle.std.proofs.lemmas.List.Concat.{flat_map-cons}
use Rattle.std.proofs.lemmas.List.Sums.{count_by-le-length}
use Rattle.klsm_run.specs.declared.item.Item.{Item}
use Rattle.klsm_run.specs.ItemOrder.{is_same}
use Rattle.klsm_run.specs.Content.{ShareNone}
use Rattle.klsm_parts.specs.Events.{times}
use Rattle.klsm_schedules.specs.declared.step.Entry.{Entry}
use Rattle.klsm_schedules.specs.declared.step.Entry.TheVariants.{Released}
use Rattle.klsm_schedules.specs.OwnSteps.{Holds, inserted_by, event_at, inserted}
use Rattle.klsm_schedules.specs.LegalSteps.{BearsStamp, IsLegal}
use Rattle.klsm_schedules.specs.Worlds.{Limits, World, steps_of, hand_in, content_of, live_below}
use Rattle.klsm_schedules.specs.LawfulWorlds.{IsLawful}
use Rattle.klsm_schedules.specs.Laws.{LiveItemsDiffer, PartsShareNone}
use Rattle.klsm_schedules.proofs.lemmas.counts.EventCountLemmas.{times_append, times_contained, contained_if_counted}
use Rattle.klsm_schedules.proofs.lemmas.hands.PartContentLemmas.{content_held}
use Rattle.klsm_schedules.proofs.lemmas.theorems.RunLemmas.{live_part}
use Rattle.klsm_schedules.proofs.lemmas.theorems.StampLemmas.{inserted_bears, inserted_longer, inserted_somewhere, stamp_at, stamps_below, next_is_not_live}

counted : (x : Item) (c : List Item) → times x c ≢ 0 → Contains c x
counted x c some = contained_if_counted x c (omega (arith, some))

-- a legal list inserts each item at most once
once_in_prefix : (k t : ℕ) (own : List Entry) → IsLegal k t own → (x : Item) (n : ℕ) → n ≤ length own → times x (inserted (take n own)) ≤ 1
once_in_prefix k t own legal x zero some = let none : times x (inserted (take zero own)) ≡ 0 = refl in omega (arith, none)
once_in_prefix k t own legal x (suc n) some =
    let entry : Entry = get_or own n (Released 0) in
    let inside : n < length own = omega (arith, some) in
    let longer = inserted_longer own n inside in
    let count : times x (inserted (take (suc n) own)) ≡ times x (inserted (take n own)) + times x (flat_map inserted_by (event_at entry)) =
    ap (times x) longer ∙ times_append x (inserted (take n own)) (flat_map inserted_by (event_at entry)) in
    let before : times x (inserted (take n own)) ≤ 1 = once_in_prefix k t own legal x n (omega (arith, some)) in
    elim (cases_eq (times x (flat_map inserted_by (event_at entry))) 0) [
      | inl none ↦ omega (arith, count, before, none)
      | inr one ↦
          let stamp = stamp_at k t (take n own) entry x (legal n entry (slice_get-get_or own n (Released 0) inside)) (counted x (flat_map inserted_by (event_at entry)) one) in
          let most : times x (flat_map inserted_by (event_at entry)) ≤ length (flat_map inserted_by (event_at entry)) = count_by-le-length (is_same x) (flat_map inserted_by (event_at entry)) in
          elim (cases_eq (times x (inserted (take n own))) 0) [
            | inl none ↦ omega (arith, count, most, stamp.1, none)
            | inr earlier ↦
                let old = stamps_below k t own legal n (omega (arith, some)) x (counted x (inserted (take n own)) earlier) in
                absurd (omega (arith, old.number, stamp.0.number))
          ]
    ]

once_in_list : (k t : ℕ) (own : List Entry) → IsLegal k t own → (x : Item) → times x (inserted own) ≤ 1
once_in_list k t own legal x = subst (λ o. times x (inserted o) ≤ 1) (take-length own) (once_in_prefix k t own legal x (length own) (omega arith))

-- legal lists of different threads insert each item at most once together
once_in_lists : (k from : ℕ) (lists : List (List Entry)) → ((t : ℕ) → t < length lists → IsLegal k (from + t) (get_or lists t [])) → (x : Item) → times x (flat_map inserted lists) ≤ 1
once_in_lists k from [] legal x = let none : times x (flat_map inserted []) ≡ 0 = refl in omega (arith, none)
once_in_lists k from (own ∷ lists) legal x =
    let rest_legal : (t : ℕ) → t < length lists → IsLegal k (suc from + t) (get_or lists t []) = λ t less.
    let one : from + suc t ≡ suc from + t = omega arith in
    subst (λ u. IsLegal k u (get_or lists t [])) one (legal (suc t) (omega (arith, less))) in
    let mine : IsLegal k (from + 0) own = legal 0 (omega arith) in
    let count : times x (flat_map inserted (own ∷ lists)) ≡ times x (inserted own) + times x (flat_map inserted lists) =
    ap (times x) (flat_map-cons inserted own lists) ∙ times_append x (inserted own) (flat_map inserted lists) in
    let here : times x (inserted own) ≤ 1 = once_in_list k (from + 0) own mine x in
    let there : times x (flat_map inserted lists) ≤ 1 = once_in_lists k (suc from) lists rest_legal x in
    elim (cases_eq (times x (inserted own)) 0) [
      | inl none ↦ omega (arith, count, there, none)
      | inr one ↦ elim (cases_eq (times x (flat_map inserted lists)) 0) [
        | inl none ↦ omega (arith, count, here, none)
        | inr other ↦
            let first = inserted_bears k (from + 0) own mine x (counted x (inserted own) one) in
            let place = inserted_somewhere lists x (counted x (flat_map inserted lists) other) in
            let second = inserted_bears k (suc from + place.0) (get_or lists place.0 []) (rest_legal place.0 place.1) x place.2 in
            absurd (omega (arith, first.owner, second.owner))
      ]
    ]

-- no item is inserted twice
pub inserted_once : (limits : Limits) (w : World) (x : Item) → IsLawful limits w → times x (flat_map inserted w.lists) ≤ 1
inserted_once limits w x lawful =
    once_in_lists limits.k 0 w.lists (λ t less.
    let same : t ≡ 0 + t = omega arith in
    subst (λ u. IsLegal limits.k u (get_or w.lists t [])) same (lawful.legal t (omega (arith, less, lawful.agreed.lists_are)))) x

-- no item is live twice
pub live_items_differ : LiveItemsDiffer
live_items_differ limits w x lawful = omega (arith, inserted_once limits w x lawful, lawful.each_once x)

-- what the first n parts hold counts each of them
part_counts : (w : World) (x : Item) (n p : ℕ) → p < n → times x (content_of w p) ≤ times x (live_below w n)
part_counts w x zero p less = absurd (omega (arith, less))
part_counts w x (suc n) p less =
    let more = times_append x (live_below w n) (content_of w n) in
    elim (cases_eq p n) [
      | inl same ↦ let one : times x (content_of w p) ≡ times x (content_of w n) = ap (λ q. times x (content_of w q)) same in omega (arith, more, one)
      | inr other ↦ let before = part_counts w x n p (omega (arith, less, other)) in omega (arith, more, before)
    ]

two_count : (w : World) (x : Item) (n p q : ℕ) → p ≢ q → p < n → q < n → times x (content_of w p) + times x (content_of w q) ≤ times x (live_below w n)
two_count w x zero p q apart less less' = absurd (omega (arith, less))
two_count w x (suc n) p q apart less less' =
    let more = times_append x (live_below w n) (content_of w n) in
    elim (cases_eq p n) [
      | inl same ↦
          let one : times x (content_of w p) ≡ times x (content_of w n) = ap (λ r. times x (content_of w r)) same in
          let before = part_counts w x n q (omega (arith, less', apart, same)) in
          omega (arith, more, one, before)
      | inr other ↦ elim (cases_eq q n) [
        | inl same ↦
            let one : times x (content_of w q) ≡ times x (content_of w n) = ap (λ r. times x (content_of w r)) same in
            let before = part_counts w x n p (omega (arith, less, other)) in
            omega (arith, more, one, before)
        | inr other' ↦
            let before = two_count w x n p q apart (omega (arith, less, other)) (omega (arith, less', other')) in
            omega (arith, more, before)
      ]
    ]

-- nor has a part an item twice
pub content_is_once : (limits : Limits) (w : World) (p : ℕ) (x : Item) → IsLawful limits w → p ≤ limits.threads → times x (content_of w p) ≤ 1
content_is_once limits w p x lawful within =
    omega (arith, part_counts w x (length w.homes) p (omega (arith, within, lawful.agreed.homes_are)), live_items_differ limits w x lawful)

-- no two parts share an item
pub parts_share_none : PartsShareNone
parts_share_none limits w p q lawful within within' apart x here there =
    let parts = lawful.agreed.homes_are in
    let both = two_count w x (length w.homes) p q apart (omega (arith, within, parts)) (omega (arith, within', parts)) in
    let one = live_items_differ limits w x lawful in
    absurd (omega (arith, both, one, times_contained x (content_of w p) here, times_contained x (content_of w q) there))

-- nor do two parts in a thread's hand
pub hands_share_none : (limits : Limits) (w : World) (t p q : ℕ) (c d : List Item) → IsLawful limits w → t < limits.threads → p ≢ q
    → Holds (hand_in w t) p c → Holds (hand_in w t) q d → ShareNone c d
hands_share_none limits w t p q c d lawful inside apart holds holds' =
    let c_is = content_held limits w t p c lawful.agreed inside holds in
    let d_is = content_held limits w t q d lawful.agreed inside holds' in
    let at = lawful.agreed.named t p c inside holds in
    let at' = lawful.agreed.named t q d inside holds' in
    subst (λ e. ShareNone e d) c_is (subst (λ e. ShareNone (content_of w p) e) d_is (parts_share_none limits w p q lawful at.0 at'.0 apart))

-- and none has the item of a thread's next insertion
pub next_is_new_to_hand : (limits : Limits) (w : World) (t p : ℕ) (c : List Item) (x : Item) → IsLawful limits w → t < limits.threads
    → BearsStamp t (length (inserted (steps_of w t))) x → Holds (hand_in w t) p c → Contains c x → ⊥
next_is_new_to_hand limits w t p c x lawful inside bears holds within =
    let c_is = content_held limits w t p c lawful.agreed inside holds in
    let at = lawful.agreed.named t p c inside holds in
    next_is_not_live limits w t x lawful bears
    (live_part w (length w.homes) p x (omega (arith, at.0, lawful.agreed.homes_are)) (subst (λ e. Contains e x) (sym c_is) within))
