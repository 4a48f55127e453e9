use Rattle.std.proofs.Common.{sym, subst}
use Rattle.klsm_world.specs.Kept.{IsKept}
use Rattle.klsm_schedules.specs.Worlds.{Limits, limits_of}
use Rattle.klsm_world.proofs.lemmas.kept.TakenLemmas.{look_taken}
use Rattle.klsm_world.proofs.lemmas.kept.MemoryLemmas.{lists_kept, refused_for_memory}
use Rattle.klsm_world.proofs.lemmas.kept.PlaceLemmas.{list_place}
use Rattle.klsm_world.proofs.world.World.look.Goals as goal

pub invariant_of-self-2 : goal.invariant_of-self-2
invariant_of-self-2 g c =
    let limits : Limits = limits_of c.self.inside.threads c.self.inside.k in
    (look_taken c.args.self.now limits c.self.inside.words.items c.self.inside.contents.items c.self.inside.lists.items c.note.new.lists.items c.args.thread c.self.view_is c.self.invariant
    c.front-front.result c.requires c.in_ok-note.ensures.noted c.front-front.ensures.word).0

pub returns : goal.returns
returns g c =
    let limits : Limits = limits_of c.self.inside.threads c.self.inside.k in
    (look_taken c.args.self.now limits c.self.inside.words.items c.self.inside.contents.items c.self.inside.lists.items c.note.new.lists.items c.args.thread c.self.view_is c.self.invariant
    c.front-front.result c.requires c.in_ok-note.ensures.noted c.front-front.ensures.word).1

pub invariant_of-self : goal.invariant_of-self
invariant_of-self g c = subst (IsKept _ c.self.inside.words.items c.self.inside.contents.items) (sym c.in_err-note.ensures.unchanged) c.self.invariant

pub returns-in_err-note : goal.returns-in_err-note
returns-in_err-note g c =
    refused_for_memory _ _ _ _ _ c.requires c.from_residual.ensures.1 c.in_err-note.ensures.refused
    (lists_kept c.self.inside.words.items c.self.inside.contents.items c.in_err-note.ensures.unchanged c.self.view_is)

pub note-requires : goal.note-requires
note-requires g c = list_place c.self.invariant c.self.view_is c.requires.thread c.self.inside.lists.ok.0
