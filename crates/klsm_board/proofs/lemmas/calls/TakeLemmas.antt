-- What is left of two parts, out of which a deletion took an item.
use Rattle.std.proofs.Common.{◌≡◌, ℕ, ◌+◌, List, [], length, ap, subst, inl, inr, arith, if◌then◌else◌}
use Rattle.std.proofs.lemmas.Bool.{cases_eq, eq-eqb, ne_eqb}
use Rattle.std.proofs.Math.Seq.{take-nil}
use Rattle.std.specs.List.{Contains}
use Rattle.klsm_run.specs.declared.item.Item.{Item}
use Rattle.klsm_run.specs.Content.{without}
use Rattle.klsm_parts.specs.Least.{IsLeast}
use Rattle.klsm_parts.specs.Events.{times, IsInReach, MayTake, shared_after_take}
use Rattle.klsm_schedules.proofs.lemmas.counts.EventCountLemmas.{length_without, taken_from_shared}

none_within : (x : Item) → Contains [] x → ⊥
none_within x within = omega (arith, within.1)

in_reach_alone : (k : ℕ) (own : List Item) (x : Item) → IsInReach k own [] x → IsLeast x own
in_reach_alone k own x (inl alone) = alone.1
in_reach_alone k own x (inr chosen) = absurd (none_within chosen.0 (subst (λ c. Contains c chosen.0) (take-nil (k + 1)) chosen.1))

-- where the shared part is empty, it is the least own item
pub least_alone : (k owner : ℕ) (own : List Item) (x : Item) → MayTake k owner own [] x → IsLeast x own
least_alone k owner own x may = in_reach_alone k own x may.in_reach

-- where the shared part has as many items as before, it is as it was
pub stays_if_as_many : (k owner : ℕ) (own shared : List Item) (x : Item) → MayTake k owner own shared x → length (shared_after_take own shared x) ≡ length shared → shared_after_take own shared x ≡ shared
stays_if_as_many k owner own shared x may same = elim (cases_eq (times x own) 0) [
  | inl none ↦
      let leaves : shared_after_take own shared x ≡ without x shared = ap (λ b. if b then without x shared else shared) (eq-eqb (times x own) 0 none) in
      absurd (omega (arith, ap length leaves, same, length_without x shared (taken_from_shared k own shared x may.in_reach none)))
  | inr some ↦ ap (λ b. if b then without x shared else shared) (ne_eqb (times x own) 0 some)
]
