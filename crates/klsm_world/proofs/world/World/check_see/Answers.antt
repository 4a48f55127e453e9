use Rattle.std.proofs.Common.{◌≡◌, ◌+◌, ◌<◌, ◌≤◌, false, true, refl, sym, subst, ◌∷◌, [], inr, arith}
use Rattle.klsm_schedules.specs.OwnSteps.{own_part}
use Rattle.klsm_schedules.specs.Worlds.{word_of}
use Rattle.klsm_world.proofs.lemmas.refusals.RefusalLemmas.{named_thread, holds_some, lacks_one}
use Rattle.klsm_world.proofs.world.World.check_see.Goals as goal

pub returns-then-not-holds-clause-refused : goal.returns-then-not-holds-clause-refused
returns-then-not-holds-clause-refused g c =
    let w = c.args.self.now in
    let less : c.args.thread < w.limits.threads = named_thread w.limits c.args.thread (w.limits.threads ≤ c.args.of) c.requires in (
      c.requires,
      lacks_one w.limits w.world c.args.thread c.holds.ensures.lawful.agreed less (own_part c.args.of ∷ []) (λ all.
          let has : word_of w.world c.own_part.result ≡ c.args.thread + 1 = subst (λ p. word_of w.world p ≡ c.args.thread + 1) (sym c.own_part.ensures) all.0 in
          let bad : false ≡ true = c.if-not-holds.ensures.held.1 has in cc),
    )

pub returns-clause-legal : goal.returns-clause-legal
returns-clause-legal g c =
    let w = c.args.self.now in
    let less : c.args.thread < w.limits.threads = named_thread w.limits c.args.thread (w.limits.threads ≤ c.args.of) c.requires in
    let other : w.limits.threads ≤ c.args.of → ⊥ = λ beyond. c.requires (inr beyond) in
    let has : word_of w.world (own_part c.args.of) ≡ c.args.thread + 1 = subst (λ p. word_of w.world p ≡ c.args.thread + 1) c.own_part.ensures (c.if-not-holds.ensures.held.0 refl) in
    record {
      thread = less;
      other = omega (arith, other);
      held = holds_some w.limits w.world c.args.thread c.holds.ensures.lawful.agreed less (own_part c.args.of) has;
    }
