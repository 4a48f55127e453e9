-- The first world is lawful.
use Rattle.std.proofs.Common.{ℕ, zero, suc, ◌≡◌, ◌+◌, ◌≤◌, List, [], ◌++◌, length, replicate, Some, None, refl, sym, ap, ◌∙◌, subst, arith}
use Rattle.std.specs.List.{flat_map}
use Rattle.std.proofs.lemmas.List.{get_or-replicate}
use Rattle.klsm_run.specs.declared.item.Item.{Item}
use Rattle.klsm_parts.specs.Events.{times, front_of}
use Rattle.klsm_schedules.specs.declared.step.Entry.{Entry}
use Rattle.klsm_schedules.specs.OwnSteps.{shared_part, own_part, inserted, deleted}
use Rattle.klsm_schedules.specs.Worlds.{Limits, content_of, live_below, live, first_world}
use Rattle.klsm_schedules.specs.LawfulWorlds.{IsLawful}
use Rattle.klsm_schedules.proofs.lemmas.hands.AgreeLemmas.{agreed_first, content_at_home}
use Rattle.klsm_schedules.proofs.lemmas.lawful.LegalLemmas.{legal_first}

-- each part is empty
pub empty_first : (limits : Limits) (p : ℕ) → p ≤ limits.threads → content_of (first_world limits) p ≡ []
empty_first limits p at_most = content_at_home (first_world limits) p [] (get_or-replicate (limits.threads + 1) p (Some []) None (omega (arith, at_most)))

none_below : (limits : Limits) (n : ℕ) → n ≤ limits.threads + 1 → live_below (first_world limits) n ≡ []
none_below limits zero at_most = refl
none_below limits (suc n) at_most =
    ap (λ c. c ++ content_of (first_world limits) n) (none_below limits n (omega (arith, at_most))) ∙ empty_first limits n (omega (arith, at_most))

-- no item is live
pub none_live_first : (limits : Limits) → live (first_world limits) ≡ []
none_live_first limits = none_below limits (length (first_world limits).homes) (omega (arith, (agreed_first limits).homes_are))

no_items : (f : List Entry → List Item) → f [] ≡ [] → (n : ℕ) → flat_map f (replicate n []) ≡ []
no_items f nothing zero = refl
no_items f nothing (suc n) = ap (λ c. c ++ flat_map f (replicate n [])) nothing ∙ no_items f nothing n

-- no item was inserted, and none deleted
pub none_inserted_first : (limits : Limits) → flat_map inserted (first_world limits).lists ≡ []
none_inserted_first limits = no_items inserted refl limits.threads

pub none_deleted_first : (limits : Limits) → flat_map deleted (first_world limits).lists ≡ []
none_deleted_first limits = no_items deleted refl limits.threads

-- the first world is lawful
pub first_is_lawful : (limits : Limits) → IsLawful limits (first_world limits)
first_is_lawful limits = record {
  legal = legal_first limits;
  agreed = agreed_first limits;
  few = λ t less. subst (λ c. length c ≤ limits.k) (sym (empty_first limits (own_part t) (omega (arith, less)))) (omega arith);
  front_is = ap front_of (sym (empty_first limits shared_part (omega arith)));
  each_once = λ x.
      let some_in : times x (flat_map inserted (first_world limits).lists) ≡ 0 = ap (times x) (none_inserted_first limits) in
      let some_out : times x (flat_map deleted (first_world limits).lists) ≡ 0 = ap (times x) (none_deleted_first limits) in
      let some_live : times x (live (first_world limits)) ≡ 0 = ap (times x) (none_live_first limits) in
      omega (arith, some_in, some_out, some_live);
}
