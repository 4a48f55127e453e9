use Rattle.std.proofs.Common.{◌≡◌, ◌<◌, false, true}
use Rattle.klsm_world.specs.Refusals.{NamesNoVictim, parts_for}
use Rattle.klsm_world.proofs.lemmas.refusals.RefusalLemmas.{named_thread, lacks_one}
use Rattle.klsm_world.proofs.world.World.check_commit.Goals as goal

pub returns-then-not-holds_all-clause-refused : goal.returns-then-not-holds_all-clause-refused
returns-then-not-holds_all-clause-refused g c =
    let w = c.args.self.now in
    let less : c.args.thread < w.limits.threads = named_thread w.limits c.args.thread (NamesNoVictim w.limits c.args.thread c.args.event.now) c.requires in (
      c.requires,
      lacks_one w.limits w.world c.args.thread c.holds_all.ensures.lawful.agreed less (parts_for c.args.thread c.args.event.now)
          (λ all. let bad : false ≡ true = c.if-not-holds_all.ensures.held.1 all in cc),
    )
