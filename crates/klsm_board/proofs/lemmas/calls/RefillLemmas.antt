-- What a refill adds to a list.
use Rattle.std.proofs.Common.{◌≡◌, ◌≢◌, ℕ, ◌==◌, true, false, List, [], ◌∷◌, length, take, refl, sym, ap, ◌∙◌, arith, inl, inr, if◌then◌else◌}
use Rattle.std.proofs.lemmas.Bool.{cases_eq, eq-eqb, ne_eqb}
use Rattle.klsm_run.specs.declared.item.Item.{Item}
use Rattle.klsm_run.specs.Content.{without}
use Rattle.klsm_parts.specs.Least.{IsLeast}
use Rattle.klsm_parts.specs.Events.{times, MayTake, own_after_take, shared_after_take}
use Rattle.klsm_parts.specs.Refilling.{refill_count, refill_of}
use Rattle.klsm_parts.proofs.EventLemmas.{is_in}
use Rattle.klsm_schedules.specs.declared.step.Event.TheVariants.{Refill}
use Rattle.klsm_schedules.specs.declared.step.Entry.TheVariants.{Committed}
use Rattle.klsm_schedules.proofs.lemmas.counts.EventCountLemmas.{length_without, times_contained, taken_from_shared}
use Rattle.klsm_board.specs.Deleting.{refilled, refilled_after}

-- items that move add one entry
pub some_refilled : (moved : List Item) → moved ≢ [] → refilled moved ≡ Committed (Refill moved) ∷ []
some_refilled [] some = absurd (some refl)
some_refilled (x ∷ moved) some = refl

-- behind a Take that left the shared part as it was, nothing moved
pub none_refilled : (most k owner : ℕ) (own shared : List Item) (x : Item) → MayTake k owner own shared x → shared_after_take own shared x ≡ shared → refilled_after most k own shared x ≡ []
none_refilled most k owner own shared x may stays = elim (cases_eq (times x own) 0) [
  | inl none ↦
      let left = ap (λ b. if b then without x shared else shared) (eq-eqb (times x own) 0 none) in
      absurd (omega (arith, length_without x shared (taken_from_shared k own shared x may.in_reach none), ap length (sym left ∙ stays)))
  | inr some ↦ ap (λ b. if b then refilled (refill_of most k (own_after_take own x) (shared_after_take own shared x)) else []) (ne_eqb (times x own) 0 some)
]

-- behind another, the least of what it left there
pub then_refilled : (most k : ℕ) (own shared : List Item) (x : Item) → shared_after_take own shared x ≢ shared → refilled_after most k own shared x ≡ refilled (refill_of most k (own_after_take own x) (shared_after_take own shared x))
then_refilled most k own shared x changed = elim (cases_eq (times x own) 0) [
  | inl none ↦ ap (λ b. if b then refilled (refill_of most k (own_after_take own x) (shared_after_take own shared x)) else []) (eq-eqb (times x own) 0 none)
  | inr some ↦ absurd (changed (ap (λ b. if b then without x shared else shared) (ne_eqb (times x own) 0 some)))
]

-- where the shared part is empty, nothing moves
pub none_refilled_alone : (most k : ℕ) (own : List Item) (x : Item) → IsLeast x own → refilled_after most k own [] x ≡ []
none_refilled_alone most k own x least =
    let some : times x own ≢ 0 = λ none. omega (arith, none, times_contained x own (is_in x own least)) in
    ap (λ b. if b then refilled (refill_of most k (own_after_take own x) (shared_after_take own [] x)) else []) (ne_eqb (times x own) 0 some)

-- some items moved, or none
pub is_refilled : (most k : ℕ) (own shared : List Item) (x : Item) → (moved : List Item) × (refilled_after most k own shared x ≡ refilled moved)
is_refilled most k own shared x = elim (times x own == 0) as (λ b. (moved : List Item) × ((if b then refilled (refill_of most k (own_after_take own x) (shared_after_take own shared x)) else []) ≡ refilled moved)) [
  | true ↦ (refill_of most k (own_after_take own x) (shared_after_take own shared x), refl)
  | false ↦ ([], refl)
]

-- where no item may move, none does
pub refills_none : (most k : ℕ) (own shared : List Item) → most ≡ 0 → refill_of most k own shared ≡ []
refills_none most k own shared none =
    let zero : refill_count most k own shared ≡ 0 = omega (arith, none) in
    ap (λ n. take n shared) zero

-- so a board that says 0 adds nothing behind a Take
pub refills_none_after : (most k : ℕ) (own shared : List Item) (x : Item) → most ≡ 0 → refilled_after most k own shared x ≡ []
refills_none_after most k own shared x none = elim (times x own == 0) as (λ b. (if b then refilled (refill_of most k (own_after_take own x) (shared_after_take own shared x)) else []) ≡ []) [
  | true ↦ ap refilled (refills_none most k (own_after_take own x) (shared_after_take own shared x) none)
  | false ↦ refl
]
