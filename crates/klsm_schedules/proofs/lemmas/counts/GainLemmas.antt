-- What one more step of a thread adds to what all threads inserted and deleted, and so to the live items of lawful worlds.
use Rattle.std.proofs.Common.{◌≡◌, ℕ, ◌+◌, ◌<◌, length, ap, ◌∙◌, arith}
use Rattle.std.specs.List.{flat_map}
use Rattle.klsm_run.specs.declared.item.Item.{Item}
use Rattle.klsm_parts.specs.Events.{times}
use Rattle.klsm_schedules.specs.declared.step.Entry.{Entry}
use Rattle.klsm_schedules.specs.OwnSteps.{inserted_by, deleted_by, event_at, inserted, deleted}
use Rattle.klsm_schedules.specs.Worlds.{Limits, World, live}
use Rattle.klsm_schedules.specs.LawfulWorlds.{IsLawful}
use Rattle.klsm_schedules.specs.Schedules.{noted}
use Rattle.klsm_schedules.proofs.lemmas.counts.LiveCountLemmas.{inserted_noted, deleted_noted}

-- where a thread's step leads from a lawful world to a lawful one, what it inserts comes to the live items and what it deletes goes
pub live_gains : (limits : Limits) (v w : World) (t : ℕ) (entry : Entry) → IsLawful limits v → IsLawful limits w → t < limits.threads → w.lists ≡ noted v t entry
    → (x : Item) → times x (live w) + times x (flat_map deleted_by (event_at entry)) ≡ times x (live v) + times x (flat_map inserted_by (event_at entry))
live_gains limits v w t entry lawful after within lists x =
    let inside : t < length v.lists = omega (arith, within, lawful.agreed.lists_are) in
    let came : times x (flat_map inserted w.lists) ≡ times x (flat_map inserted v.lists) + times x (flat_map inserted_by (event_at entry)) =
    ap (λ ls. times x (flat_map inserted ls)) lists ∙ inserted_noted x v.lists t entry inside in
    let went : times x (flat_map deleted w.lists) ≡ times x (flat_map deleted v.lists) + times x (flat_map deleted_by (event_at entry)) =
    ap (λ ls. times x (flat_map deleted ls)) lists ∙ deleted_noted x v.lists t entry inside in
    omega (arith, came, went, lawful.each_once x, after.each_once x)
