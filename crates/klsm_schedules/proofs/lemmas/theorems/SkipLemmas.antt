-- A deletion skips few live items of a lawful world, and few items live where nothing is answered.
use Rattle.std.proofs.Common.{◌≡◌, inl, inr, ℕ, zero, suc, ◌+◌, ◌-◌, ◌*◌, ◌<◌, ◌≤◌, List, [], ◌++◌, length, sym, refl, ap, ◌∙◌, subst, arith, suc-mul}
use Rattle.std.proofs.lemmas.Bool.{cases_eq}
use Rattle.std.proofs.lemmas.List.{length-append}
use Rattle.std.proofs.lemmas.List.Sums.{count_by-le-length}
use Rattle.klsm_run.specs.declared.item.Item.{Item}
use Rattle.klsm_run.specs.ItemOrder.{is_smaller}
use Rattle.klsm_run.specs.Content.{skipped}
use Rattle.klsm_run.proofs.RankLemmas.{skipped_append}
use Rattle.klsm_parts.specs.Least.{IsLeast}
use Rattle.klsm_parts.specs.Events.{SkipsNoneOf, MayTakeEarly, front_of}
use Rattle.klsm_parts.proofs.EventLemmas.{take_skips_few}
use Rattle.klsm_parts.proofs.OwnOrderLemmas.{early_skips_none, early_keeps_order}
use Rattle.klsm_schedules.specs.declared.step.Event.TheVariants.{Early}
use Rattle.klsm_schedules.specs.declared.step.Step.TheVariants.{Commit}
use Rattle.klsm_schedules.specs.OwnSteps.{Holds, own_part, shared_part}
use Rattle.klsm_schedules.specs.Worlds.{Limits, World, hand_in, content_of, live_below, live}
use Rattle.klsm_schedules.specs.LawfulWorlds.{IsLawful}
use Rattle.klsm_schedules.specs.Schedules.{MayStep}
use Rattle.klsm_schedules.specs.Laws.{TakesSkipFew, EarliesSkipFew, TakesKeepOwnOrder, EarliesKeepOwnOrder, NothingLeavesFew}
use Rattle.klsm_schedules.proofs.lemmas.hands.PartContentLemmas.{content_held}

-- a number of each content, which adds up: here how many items are smaller than one, or how many there are
module _ (f : List Item → ℕ) (none : f [] ≡ 0) (adds : (c d : List Item) → f (c ++ d) ≡ f c + f d) (w : World) (k : ℕ) where
  all_few : (n : ℕ) → ((t : ℕ) → t < n → f (content_of w (suc t)) ≤ k) → f (live_below w (suc n)) ≤ f (content_of w 0) + n * k
  all_few zero each = omega (arith, adds [] (content_of w 0), none)
  all_few (suc n) each =
      let before = all_few n (λ t less. each t (omega (arith, less))) in
      let some : ℕ = n * k in
      let before' : f (live_below w (suc n)) ≤ f (content_of w 0) + some = before in
      let more : suc n * k ≡ some + k = suc-mul n k in
      omega (arith, before', each n (omega arith), adds (live_below w (suc n)) (content_of w (suc n)), more)

  -- where one thread's part counts apart
  others_few : (n u : ℕ) → u < n → ((t : ℕ) → t < n → f (content_of w (suc t)) ≤ k)
      → f (live_below w (suc n)) + k ≤ (f (content_of w (suc u)) + f (content_of w 0)) + n * k
  others_few zero u within each = absurd (omega (arith, within))
  others_few (suc n) u within each =
      let some : ℕ = n * k in
      let more : suc n * k ≡ some + k = suc-mul n k in
      let last = adds (live_below w (suc n)) (content_of w (suc n)) in
      elim (cases_eq u n) [
        | inl same ↦
            let before : f (live_below w (suc n)) ≤ f (content_of w 0) + some = all_few n (λ t less. each t (omega (arith, less))) in
            let there : f (content_of w (suc u)) ≡ f (content_of w (suc n)) = ap (λ i. f (content_of w (suc i))) same in
            omega (arith, before, there, last, more)
        | inr other ↦
            let before : f (live_below w (suc n)) + k ≤ (f (content_of w (suc u)) + f (content_of w 0)) + some = others_few n u (omega (arith, within, other)) (λ t less. each t (omega (arith, less))) in
            omega (arith, before, each n (omega arith), last, more)
      ]

-- of a lawful world, where thread t's own part and the shared one count apart
two_parts : (f : List Item → ℕ) → f [] ≡ 0 → ((c d : List Item) → f (c ++ d) ≡ f c + f d) → ((c : List Item) → f c ≤ length c)
    → (limits : Limits) (w : World) (t : ℕ) → IsLawful limits w → t < limits.threads
    → f (live w) + limits.k ≤ (f (content_of w (own_part t)) + f (content_of w shared_part)) + limits.threads * limits.k
two_parts f none adds most limits w t lawful within =
    let next : t + 1 ≡ suc t = omega arith in
    let own_is : content_of w (own_part t) ≡ content_of w (suc t) = ap (content_of w) next in
    let each : (u : ℕ) → u < limits.threads → f (content_of w (suc u)) ≤ limits.k = λ u less.
    let one : u + 1 ≡ suc u = omega arith in
    subst (λ p. f (content_of w p) ≤ limits.k) one (omega (arith, most (content_of w (own_part u)), lawful.few u less)) in
    let bound = others_few f none adds w limits.k limits.threads t within each in
    let parts : length w.homes ≡ suc limits.threads = omega (arith, lawful.agreed.homes_are) in
    let all : f (live w) ≡ f (live_below w (suc limits.threads)) = ap (λ n. f (live_below w n)) parts in
    let some : ℕ = limits.threads * limits.k in
    let bound' : f (live_below w (suc limits.threads)) + limits.k ≤ (f (content_of w (suc t)) + f (content_of w 0)) + some = bound in
    let total : f (live w) + limits.k ≤ (f (content_of w (own_part t)) + f (content_of w shared_part)) + some = omega (arith, bound', all, ap f own_is) in
    total

-- where the thread holds both, with these contents
both_parts : (f : List Item → ℕ) → f [] ≡ 0 → ((c d : List Item) → f (c ++ d) ≡ f c + f d) → ((c : List Item) → f c ≤ length c)
    → (limits : Limits) (w : World) (t : ℕ) (own shared : List Item) → IsLawful limits w → t < limits.threads → Holds (hand_in w t) (own_part t) own → Holds (hand_in w t) shared_part shared
    → f (live w) + limits.k ≤ (f own + f shared) + limits.threads * limits.k
both_parts f none adds most limits w t own shared lawful within holds_own holds_shared =
    let own_is : content_of w (own_part t) ≡ own = content_held limits w t (own_part t) own lawful.agreed within holds_own in
    let shared_is : content_of w shared_part ≡ shared = content_held limits w t shared_part shared lawful.agreed within holds_shared in
    let some : ℕ = limits.threads * limits.k in
    let bound : f (live w) + limits.k ≤ (f (content_of w (own_part t)) + f (content_of w shared_part)) + some = two_parts f none adds most limits w t lawful within in
    let total : f (live w) + limits.k ≤ (f own + f shared) + some = omega (arith, bound, ap f own_is, ap f shared_is) in
    total

-- a deletion skips at most T·k live items
pub live_takes_skip_few : TakesSkipFew
live_takes_skip_few limits w t x lawful may =
    let both = may.commit in
    let taken : skipped (both.own ++ both.other) x ≤ limits.k = take_skips_few limits.k both.own both.other x both.fits.in_reach in
    let bound = both_parts (λ c. skipped c x) refl (λ c d. skipped_append c d x) (λ c. count_by-le-length (λ y. is_smaller y x) c)
    limits w t both.own both.other lawful may.thread both.holds_own both.holds_other in
    let some : ℕ = limits.threads * limits.k in
    let bound' : skipped (live w) x + limits.k ≤ (skipped both.own x + skipped both.other x) + some = bound in
    let few : skipped (live w) x ≤ some = omega (arith, bound', taken, skipped_append both.own both.other x) in
    few

-- one that thread t may commit keeps own order
pub live_takes_keep_order : TakesKeepOwnOrder
live_takes_keep_order limits w t x lawful may =
    let both = may.commit in
    let own_is = content_held limits w t (own_part t) both.own lawful.agreed may.thread both.holds_own in
    let shared_is = content_held limits w t shared_part both.other lawful.agreed may.thread both.holds_other in
    subst (λ c. SkipsNoneOf t (c ++ content_of w shared_part) x) (sym own_is) (subst (λ c. SkipsNoneOf t (both.own ++ c) x) (sym shared_is) both.fits.own_order)

-- the item of an Early is the least of its thread's part, and its key is below the front of the shared part
early_by_front : (limits : Limits) (w : World) (t : ℕ) (x : Item) (front : ℕ) → IsLawful limits w → MayStep limits w (Commit t (Early x front))
    → MayTakeEarly (content_of w (own_part t)) x (front_of (content_of w shared_part))
early_by_front limits w t x front lawful may =
    let own = may.commit in
    let own_is = content_held limits w t (own_part t) own.own lawful.agreed may.thread own.holds_own in
    record { least = subst (IsLeast x) (sym own_is) own.fits.least; below = subst (λ n. x.key < n) (may.front ∙ lawful.front_is) own.fits.below }

-- so it skips at most (T-1)·k live items
pub live_earlies_skip_few : EarliesSkipFew
live_earlies_skip_few limits w t x front lawful may =
    let own = content_of w (own_part t) in
    let shared = content_of w shared_part in
    let none : skipped (own ++ shared) x ≡ 0 = early_skips_none own shared x (early_by_front limits w t x front lawful may) in
    let bound = two_parts (λ c. skipped c x) refl (λ c d. skipped_append c d x) (λ c. count_by-le-length (λ y. is_smaller y x) c) limits w t lawful may.thread in
    let others : ℕ = (limits.threads - 1) * limits.k in
    let threads : limits.threads ≡ suc (limits.threads - 1) = omega (arith, may.thread) in
    let some : ℕ = limits.threads * limits.k in
    let more : some ≡ others + limits.k = ap (λ n. n * limits.k) threads ∙ suc-mul (limits.threads - 1) limits.k in
    let bound' : skipped (live w) x + limits.k ≤ (skipped own x + skipped shared x) + some = bound in
    let few : skipped (live w) x ≤ others = omega (arith, bound', none, skipped_append own shared x, more) in
    few

-- and keeps own order
pub live_earlies_keep_order : EarliesKeepOwnOrder
live_earlies_keep_order limits w t x front lawful may =
    early_keeps_order t (content_of w (own_part t)) (content_of w shared_part) x (early_by_front limits w t x front lawful may)

-- where nothing is answered at most (T-1)·k items live
pub live_nothing_leaves_few : NothingLeavesFew
live_nothing_leaves_few limits w t lawful may =
    let both = may.commit in
    let bound = both_parts length refl length-append (λ c. omega arith) limits w t both.own both.other lawful may.thread both.holds_own both.holds_other in
    let own_none : length both.own ≡ 0 = ap length both.fits.own_empty in
    let shared_none : length both.other ≡ 0 = ap length both.fits.shared_empty in
    let others : ℕ = (limits.threads - 1) * limits.k in
    let threads : limits.threads ≡ suc (limits.threads - 1) = omega (arith, may.thread) in
    let some : ℕ = limits.threads * limits.k in
    let more : some ≡ others + limits.k = ap (λ n. n * limits.k) threads ∙ suc-mul (limits.threads - 1) limits.k in
    let bound' : length (live w) + limits.k ≤ (length both.own + length both.other) + some = bound in
    let few : length (live w) ≤ others = omega (arith, bound', own_none, shared_none, more) in
    few
