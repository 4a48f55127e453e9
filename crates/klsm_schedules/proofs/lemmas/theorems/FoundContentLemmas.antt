-- An acquire that leads from a lawful world to a lawful one records the content that was at home.
use Rattle.std.proofs.Common.{◌≡◌, ◌≢◌, ℕ, ◌+◌, ◌<◌, ◌≤◌, List, length, set, Some, None, refl, ap, ◌∙◌, subst, arith, length-set, get_or-set_other}
use Rattle.klsm_run.specs.declared.item.Item.{Item}
use Rattle.klsm_run.specs.Content.{sorted}
use Rattle.klsm_parts.specs.Events.{times}
use Rattle.klsm_schedules.specs.declared.step.Entry.TheVariants.{Acquired}
use Rattle.klsm_schedules.specs.OwnSteps.{Holds, found_in}
use Rattle.klsm_schedules.specs.Worlds.{Limits, World, home_of, hand_in, content_of, live_below, live}
use Rattle.klsm_schedules.specs.LawfulWorlds.{IsLawful}
use Rattle.klsm_schedules.specs.Schedules.{acquired}
use Rattle.klsm_schedules.specs.Laws.{AcquiresFindContents}
use Rattle.klsm_schedules.proofs.lemmas.hands.HandLemmas.{found_first, found_behind}
use Rattle.klsm_schedules.proofs.lemmas.hands.NotedLemmas.{hand_noted}
use Rattle.klsm_schedules.proofs.lemmas.hands.AgreeLemmas.{content_at_home}
use Rattle.klsm_schedules.proofs.lemmas.hands.PartContentLemmas.{content_held, content_same, found_same}
use Rattle.klsm_schedules.proofs.lemmas.counts.LiveCountLemmas.{live_changed}
use Rattle.klsm_schedules.proofs.lemmas.counts.SameLemmas.{same_if_counted}
use Rattle.klsm_schedules.proofs.lemmas.counts.GainLemmas.{live_gains}

-- where thread t acquired part p and recorded a content
module _ (v : World) (t p : ℕ) (found : List Item) (inside : t < length v.lists) where
  abbrev after_acquire : World
  after_acquire = acquired v t p found

  holds_found : Holds (hand_in after_acquire t) p found
  holds_found = ap (λ hand. found_in hand p) (hand_noted v after_acquire t (Acquired p found) inside refl) ∙ found_first (hand_in v t) p found

  content_else : (q : ℕ) → q ≢ p → content_of after_acquire q ≡ content_of v q
  content_else q other =
      content_same v after_acquire q (get_or-set_other v.words p q (t + 1) 0 other) (get_or-set_other v.homes p q None None other)
      (found_same v after_acquire t (Acquired p found) q inside refl (found_behind (hand_in v t) p q found other))

  found_is_home : (limits : Limits) (c : List Item) → IsLawful limits v → IsLawful limits after_acquire → t < limits.threads → p ≤ limits.threads → home_of v p ≡ Some c → sorted found ≡ sorted c
  found_is_home limits c lawful after within part home =
      let found_is : content_of after_acquire p ≡ found = content_held limits after_acquire t p found after.agreed within holds_found in
      let home_is : content_of v p ≡ c = content_at_home v p c home in
      let parts : length (set v.homes p None) ≡ length v.homes = length-set v.homes p None in
      same_if_counted found c (λ x.
      let differs = live_changed v after_acquire x (length v.homes) p (omega (arith, part, lawful.agreed.homes_are)) (λ q less. content_else q) in
      let whole : times x (live after_acquire) ≡ times x (live_below after_acquire (length v.homes)) = ap (λ n. times x (live_below after_acquire n)) parts in
      let gains : times x (live after_acquire) + 0 ≡ times x (live v) + 0 = live_gains limits v after_acquire t (Acquired p found) lawful after within refl x in
      omega (arith, differs, whole, gains, ap (times x) found_is, ap (times x) home_is))

-- the content recorded is the one that was at home
pub found_is_content : AcquiresFindContents
found_is_content limits v w t p found lawful after within part free same =
    let home = lawful.agreed.free p part free in
    let inside : t < length v.lists = omega (arith, within, lawful.agreed.lists_are) in
    (home.0, home.1, found_is_home v t p found inside limits home.0 lawful (subst (IsLawful limits) same after) within part home.1)
