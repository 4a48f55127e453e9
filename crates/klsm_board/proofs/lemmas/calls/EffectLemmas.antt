-- Where a deletion takes effect, and in which world.
use Rattle.std.proofs.Common.{◌≡◌, ℕ, List, ◌∷◌, ◌++◌, ap, ◌∙◌, subst}
use Rattle.std.specs.Prelude.{MatchOption, Option, Some, None}
use Rattle.std.specs.List.{flat_map}
use Rattle.std.specs.Option.{option_to_list}
use Rattle.klsm_run.specs.declared.item.Item.{Item}
use Rattle.klsm_schedules.specs.declared.step.Event.{Event}
use Rattle.klsm_schedules.specs.declared.step.Entry.{Entry}
use Rattle.klsm_schedules.specs.declared.step.Entry.TheVariants.{Committed}
use Rattle.klsm_run.specs.Content.{skipped}
use Rattle.klsm_parts.specs.Events.{SkipsNoneOf}
use Rattle.klsm_schedules.specs.OwnSteps.{inserted, inserted_by, deleted, deleted_by, own_part, shared_part}
use Rattle.klsm_schedules.specs.Worlds.{content_of, live}
use Rattle.klsm_schedules.specs.LawfulWorlds.{IsLawful}
use Rattle.klsm_schedules.proofs.lemmas.theorems.RunLemmas.{schedules_keep_lawful}
use Rattle.klsm_board.specs.declared.sizes.Sizes.{Sizes}
use Rattle.klsm_board.specs.declared.rule.Own.{Own}
use Rattle.klsm_board.specs.declared.rule.View.{View}
use Rattle.klsm_board.specs.Rule.{own, view, world_limits}
use Rattle.klsm_board.specs.Steps.{mine, rest_of, IsMine, AreReached}
use Rattle.klsm_board.specs.Effects.{committed_in, PassesFew, TakesEffect}
use Rattle.klsm_board.proofs.lemmas.calls.LoneLemmas.{skips_none}

module _ (m : Sizes) (t : ℕ) where
  -- the world of a seat's lists is lawful
  pub lawful_there : (v : View) → (r : AreReached m t v) → IsLawful (world_limits m) r.world
  lawful_there v r = schedules_keep_lawful (world_limits m) r.schedule r.world r.leads

  -- with one thread, a deletion that keeps own order skips none
  pub alone_skips_none : (v : View) (x : Item) → (r : AreReached m t v) → SkipsNoneOf t (content_of r.world (own_part t) ++ content_of r.world shared_part) x → m.threads ≡ 1 → skipped (live r.world) x ≡ 0
  alone_skips_none v x r none one = skips_none (world_limits m) r.world (lawful_there v r) one t x r.thread none

  -- a call takes effect where it commits an event
  pub effect_at : (v : View) (behind : List Own) (es es' after : List Entry) (event : Event) (answer : Option Item) → IsMine v t → rest_of v ≡ behind → (r : AreReached m t v) → PassesFew m event (live r.world)
      → es' ≡ mine v ++ Committed event ∷ after → deleted_by event ≡ option_to_list answer → inserted (mine v) ≡ inserted es → deleted (mine v) ≡ deleted es → TakesEffect m t behind es es' answer
  effect_at v behind es es' after event answer acts same r few steps answers inserts deletes =
      let is : v ≡ view (own t (mine v) ∷ behind) = (λ i. view ((acts ∙ ap (λ (l : List Own). own t (mine v) ∷ l) same) i)) in
      let moved : (z : AreReached m t (view (own t (mine v) ∷ behind))) × PassesFew m event (live z.world) = subst (λ (w : View). (z : AreReached m t w) × PassesFew m event (live z.world)) is (r, few) in
      record {
        at = mine v;
        event = event;
        after = after;
        steps = steps;
        answers = answers;
        inserted_are = inserts;
        deleted_are = deletes;
        reached = moved.0;
        few = moved.1;
      }

  -- the list may have begun earlier, with the same events
  pub effect_since : (behind : List Own) (es now es' : List Entry) (answer : Option Item) → committed_in now ≡ committed_in es → TakesEffect m t behind now es' answer → TakesEffect m t behind es es' answer
  effect_since behind es now es' answer same effect = record {
    at = effect.at;
    event = effect.event;
    after = effect.after;
    steps = effect.steps;
    answers = effect.answers;
    inserted_are = effect.inserted_are ∙ ap (flat_map inserted_by) same;
    deleted_are = effect.deleted_are ∙ ap (flat_map deleted_by) same;
    reached = effect.reached;
    few = effect.few;
  }

  -- where an item has to be answered
  pub effect_of_some : (behind : List Own) (es es' : List Entry) (answer : Option Item) (A : Type 0) (B : Item → Type 0) → MatchOption answer A B → (A → ⊥) → ((x : Item) → B x → TakesEffect m t behind es es' (Some x))
      → TakesEffect m t behind es es' answer
  effect_of_some behind es es' None A B outcome none some = absurd (none outcome)
  effect_of_some behind es es' (Some x) A B outcome none some = some x outcome
