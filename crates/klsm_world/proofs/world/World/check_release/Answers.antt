use Rattle.std.proofs.Common.{◌≡◌, ◌<◌, false, true, refl, ◌∷◌, []}
use Rattle.klsm_schedules.specs.Worlds.{content_of}
use Rattle.klsm_world.proofs.lemmas.refusals.RefusalLemmas.{named_thread, holds_named, lacks_one}
use Rattle.klsm_world.proofs.world.World.check_release.Goals as goal

pub returns-then-not-holds-clause-refused : goal.returns-then-not-holds-clause-refused
returns-then-not-holds-clause-refused g c =
    let w = c.args.self.now in
    let less : c.args.thread < w.limits.threads = named_thread w.limits c.args.thread (w.limits.threads < c.args.part) c.requires in (
      c.requires,
      lacks_one w.limits w.world c.args.thread c.holds.ensures.lawful.agreed less (c.args.part ∷ [])
          (λ all. let bad : false ≡ true = c.if-not-holds.ensures.held.1 all.0 in cc),
    )

pub returns-clause-legal : goal.returns-clause-legal
returns-clause-legal g c =
    let w = c.args.self.now in
    let less : c.args.thread < w.limits.threads = named_thread w.limits c.args.thread (w.limits.threads < c.args.part) c.requires in
    let has = holds_named w.limits w.world c.args.thread c.holds.ensures.lawful.agreed less c.args.part (c.if-not-holds.ensures.held.0 refl) in
    record { thread = less; held = record { content = content_of w.world c.args.part; holds = has } }
