-- What was inserted is what was deleted and what is live, each item as often, also after a legal step.
use Rattle.std.proofs.Common.{◌≡◌, ℕ, ◌+◌, ◌<◌, [], length, Some, None, refl, ap, ◌∙◌, arith, unwrap_or}
use Rattle.std.specs.List.{flat_map}
use Rattle.std.proofs.lemmas.List.{length-set}
use Rattle.klsm_run.specs.declared.item.Item.{Item}
use Rattle.klsm_parts.specs.Events.{times}
use Rattle.klsm_schedules.specs.declared.step.Event.{Event}
use Rattle.klsm_schedules.specs.declared.step.Event.TheVariants.{Put, Flush, Take, Early, Nothing, Spy, Refill, Steal, Share}
use Rattle.klsm_schedules.specs.declared.step.Step.{Step}
use Rattle.klsm_schedules.specs.declared.step.Step.TheVariants.{Acquire, Commit, Release, Miss, Look, Mark, See}
use Rattle.klsm_schedules.specs.declared.step.Entry.{Entry}
use Rattle.klsm_schedules.specs.declared.step.Entry.TheVariants.{Acquired, Committed, Released, Missed, Looked, Marked, Saw}
use Rattle.klsm_schedules.specs.OwnSteps.{content_in, inserted, deleted, inserted_by, deleted_by, event_at, work_of}
use Rattle.klsm_schedules.specs.LegalSteps.{MayCommit}
use Rattle.klsm_schedules.specs.Worlds.{Limits, World, home_of, steps_of, hand_in, content_of, live_below, live, holder_of}
use Rattle.klsm_schedules.specs.LawfulWorlds.{AreAgreed}
use Rattle.klsm_schedules.specs.Schedules.{MayStep, noted, next}
use Rattle.klsm_schedules.proofs.lemmas.lawful.LiveAfterLemmas.{live_after_put, live_after_flush, live_after_take, live_after_early, live_after_spy, live_after_refill, live_after_steal, live_after_share, live_after_nothing}
use Rattle.klsm_schedules.proofs.lemmas.counts.LiveCountLemmas.{inserted_noted, deleted_noted, live_same}
use Rattle.klsm_schedules.proofs.lemmas.hands.PartContentLemmas.{listed, content_acquired, content_released, content_missed, content_looked, content_marked, content_seen}

-- an item is inserted as often as it is deleted and live
abbrev pub IsOnce : World → Item → Type 0
IsOnce w x = times x (flat_map inserted w.lists) ≡ times x (flat_map deleted w.lists) + times x (live w)

-- where a list gains an entry, and the live items change by what it inserts and deletes, this stays so
pub once_noted : (w v : World) (t : ℕ) (entry : Entry) (x : Item) → t < length w.lists → v.lists ≡ noted w t entry
    → times x (live v) + times x (flat_map deleted_by (event_at entry)) ≡ times x (live w) + times x (flat_map inserted_by (event_at entry)) → IsOnce w x → IsOnce v x
once_noted w v t entry x within lists moved old =
    omega (
      arith,
      moved,
      old,
      ap (λ ls. times x (flat_map inserted ls)) lists,
      inserted_noted x w.lists t entry within,
      ap (λ ls. times x (flat_map deleted ls)) lists,
      deleted_noted x w.lists t entry within,
    )

-- a step that leaves each content as it was leaves the live items so
pub live_unchanged : (w v : World) (x : Item) → length v.homes ≡ length w.homes → ((p : ℕ) → content_of v p ≡ content_of w p) → times x (live v) ≡ times x (live w)
live_unchanged w v x homes each = ap (λ n. times x (live_below v n)) homes ∙ live_same w v x (length w.homes) (λ p less. each p)

-- what a commit does to the live items
live_committed : (limits : Limits) (w : World) (t n : ℕ) (event : Event) (x : Item) → AreAgreed limits w → t < limits.threads → MayCommit limits.k t (hand_in w t) n event
    → times x (live (next w (Commit t event))) + times x (flat_map deleted_by (event_at (Committed event))) ≡ times x (live w) + times x (flat_map inserted_by (event_at (Committed event)))
live_committed limits w t n (Put y) x agreed inside may = let none : times x [] ≡ 0 = refl in omega (arith, none, live_after_put limits w agreed t inside x n y may)
live_committed limits w t n (Flush y moved) x agreed inside may = let none : times x [] ≡ 0 = refl in omega (arith, none, live_after_flush limits w agreed t inside x n y moved may)
live_committed limits w t n (Take y) x agreed inside may = let none : times x [] ≡ 0 = refl in omega (arith, none, live_after_take limits w agreed t inside x n y may)
live_committed limits w t n (Early y front) x agreed inside may = let none : times x [] ≡ 0 = refl in omega (arith, none, live_after_early limits w agreed t inside x n y front may)
live_committed limits w t n Nothing x agreed inside may = let none : times x [] ≡ 0 = refl in omega (arith, none, live_after_nothing limits w agreed t inside x)
live_committed limits w t n (Spy victim moved) x agreed inside may = let none : times x [] ≡ 0 = refl in omega (arith, none, live_after_spy limits w agreed t inside x n victim moved may)
live_committed limits w t n (Steal victim moved) x agreed inside may = let none : times x [] ≡ 0 = refl in omega (arith, none, live_after_steal limits w agreed t inside x n victim moved may)
live_committed limits w t n (Refill moved) x agreed inside may = let none : times x [] ≡ 0 = refl in omega (arith, none, live_after_refill limits w agreed t inside x n moved may)
live_committed limits w t n (Share moved) x agreed inside may = let none : times x [] ≡ 0 = refl in omega (arith, none, live_after_share limits w agreed t inside x n moved may)

-- a legal step keeps each item inserted as often as it is deleted and live
pub once_kept : (limits : Limits) (w : World) (step : Step) → AreAgreed limits w → ((x : Item) → times x (flat_map inserted w.lists) ≡ times x (flat_map deleted w.lists) + times x (live w)) → MayStep limits w step
    → (x : Item) → times x (flat_map inserted (next w step).lists) ≡ times x (flat_map deleted (next w step).lists) + times x (live (next w step))
once_kept limits w (Acquire t p) agreed once may x =
    let v = next w (Acquire t p) in
    let none : times x [] ≡ 0 = refl in
    let same = live_unchanged w v x (length-set w.homes p None) (λ q. content_acquired limits w t p q agreed may) in
    once_noted w v t (Acquired p (unwrap_or (home_of w p) [])) x (listed limits w t agreed may.thread) refl (omega (arith, none, same)) (once x)
once_kept limits w (Commit t event) agreed once may x =
    once_noted w (next w (Commit t event)) t (Committed event) x (listed limits w t agreed may.thread) refl
    (live_committed limits w t (length (inserted (steps_of w t))) event x agreed may.thread may.commit) (once x)
once_kept limits w (Release t p) agreed once may x =
    let v = next w (Release t p) in
    let none : times x [] ≡ 0 = refl in
    let same = live_unchanged w v x (length-set w.homes p (Some (content_in (hand_in w t) p))) (λ q. content_released limits w t p q agreed may) in
    once_noted w v t (Released p) x (listed limits w t agreed may.thread) refl (omega (arith, none, same)) (once x)
once_kept limits w (Miss t p) agreed once may x =
    let v = next w (Miss t p) in
    let none : times x [] ≡ 0 = refl in
    let same = live_unchanged w v x refl (λ q. content_missed limits w t p q agreed may) in
    once_noted w v t (Missed p (holder_of w p)) x (listed limits w t agreed may.thread) refl (omega (arith, none, same)) (once x)
once_kept limits w (Look t) agreed once may x =
    let v = next w (Look t) in
    let none : times x [] ≡ 0 = refl in
    let same = live_unchanged w v x refl (λ q. content_looked limits w t q agreed may) in
    once_noted w v t (Looked w.front) x (listed limits w t agreed may.thread) refl (omega (arith, none, same)) (once x)
once_kept limits w (Mark t key) agreed once may x =
    let v = next w (Mark t key) in
    let none : times x [] ≡ 0 = refl in
    let same = live_unchanged w v x refl (λ q. content_marked limits w t key q agreed may) in
    once_noted w v t (Marked key) x (listed limits w t agreed may.thread) refl (omega (arith, none, same)) (once x)
once_kept limits w (See t u) agreed once may x =
    let v = next w (See t u) in
    let none : times x [] ≡ 0 = refl in
    let same = live_unchanged w v x refl (λ q. content_seen limits w t u q agreed may) in
    once_noted w v t (Saw u (work_of (steps_of w u))) x (listed limits w t agreed may.thread) refl (omega (arith, none, same)) (once x)
