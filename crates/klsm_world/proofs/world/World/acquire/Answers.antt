use Rattle.std.proofs.Common.{[], ◌∙◌, sym, subst, refl, arith}
use Rattle.std.proofs.lemmas.List.{get_or_read}
use Rattle.klsm_world.specs.Kept.{IsKept}
use Rattle.klsm_schedules.specs.Worlds.{Limits, limits_of}
use Rattle.klsm_world.proofs.lemmas.kept.TakenLemmas.{acquire_taken}
use Rattle.klsm_world.proofs.lemmas.kept.MemoryLemmas.{lists_kept, refused_for_memory}
use Rattle.klsm_world.proofs.lemmas.kept.PlaceLemmas.{part_place, list_place}
use Rattle.klsm_world.proofs.world.World.acquire.Goals as goal

pub invariant_of-self-2 : goal.invariant_of-self-2
invariant_of-self-2 g c =
    let limits : Limits = limits_of c.self.inside.threads c.self.inside.k in
    (acquire_taken c.args.self.now limits c.self.inside.words.items c.self.inside.contents.items c.self.inside.lists.items c.note.new.lists.items c.args.thread c.self.view_is c.self.invariant
    c.args.part c.new-found.result c.requires c.in_ok-note.ensures.noted
    (λ within. c.new-found.ensures ∙ (c.in_ok-copied.ensures.copy ∙ (c.as_slice.ensures ∙ get_or_read c.self.inside.contents.items _ _ within c.index.ensures [])))).0

pub returns : goal.returns
returns g c =
    let limits : Limits = limits_of c.self.inside.threads c.self.inside.k in
    (acquire_taken c.args.self.now limits c.self.inside.words.items c.self.inside.contents.items c.self.inside.lists.items c.note.new.lists.items c.args.thread c.self.view_is c.self.invariant
    c.args.part c.new-found.result c.requires c.in_ok-note.ensures.noted
    (λ within. c.new-found.ensures ∙ (c.in_ok-copied.ensures.copy ∙ (c.as_slice.ensures ∙ get_or_read c.self.inside.contents.items _ _ within c.index.ensures [])))).1

pub returns-in_err-copied : goal.returns-in_err-copied
returns-in_err-copied g c = refused_for_memory _ _ _ _ _ c.requires c.from_residual.ensures.1 c.in_err-copied.ensures.refused refl

pub invariant_of-self : goal.invariant_of-self
invariant_of-self g c = subst (IsKept _ c.self.inside.words.items c.self.inside.contents.items) (sym c.in_err-note.ensures.unchanged) c.self.invariant

pub returns-in_err-note : goal.returns-in_err-note
returns-in_err-note g c =
    refused_for_memory _ _ _ _ _ c.requires c.from_residual-in_err-note.ensures.1 c.in_err-note.ensures.refused
    (lists_kept c.self.inside.words.items c.self.inside.contents.items c.in_err-note.ensures.unchanged c.self.view_is)

pub note-requires : goal.note-requires
note-requires g c = list_place c.self.invariant c.self.view_is c.requires.thread c.self.inside.lists.ok.0

pub index_mut-requires : goal.index_mut-requires
index_mut-requires g c =
    part_place c.self.invariant c.self.view_is c.requires.thread c.requires.part
    (omega (arith, c.self.inside.words.ok.0, c.self.invariant.lawful.agreed.words_are, c.self.invariant.contents_are))

pub index-requires : goal.index-requires
index-requires g c = part_place c.self.invariant c.self.view_is c.requires.thread c.requires.part c.self.inside.contents.ok.0
