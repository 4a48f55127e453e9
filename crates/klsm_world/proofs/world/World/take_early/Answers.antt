use Rattle.std.proofs.Common.{◌∙◌, sym, subst, refl}
use Rattle.klsm_world.specs.Kept.{IsKept}
use Rattle.klsm_schedules.specs.Worlds.{Limits, limits_of}
use Rattle.klsm_world.proofs.lemmas.kept.CommitTakenLemmas.{early_taken}
use Rattle.klsm_world.proofs.lemmas.kept.MemoryLemmas.{lists_kept, refused_for_memory}
use Rattle.klsm_world.proofs.lemmas.kept.PlaceLemmas.{list_place, own_place}
use Rattle.klsm_world.proofs.world.World.take_early.Goals as goal

pub invariant_of-self-2 : goal.invariant_of-self-2
invariant_of-self-2 g c =
    let limits : Limits = limits_of c.self.inside.threads c.self.inside.k in
    (early_taken c.args.self.now limits c.self.inside.words.items c.self.inside.contents.items c.self.inside.lists.items c.note.new.lists.items c.args.thread c.self.view_is c.self.invariant
    c.args.item c.args.front c.own_part-own.result c.index.result.now c.as_slice.result.now c.new-2.result c.requires c.in_ok-note.ensures.noted
    c.own_part-own.ensures c.index.ensures c.as_slice.ensures (c.new-2.ensures ∙ c.in_ok-after.ensures.without_all)).0

pub returns : goal.returns
returns g c =
    let limits : Limits = limits_of c.self.inside.threads c.self.inside.k in
    (early_taken c.args.self.now limits c.self.inside.words.items c.self.inside.contents.items c.self.inside.lists.items c.note.new.lists.items c.args.thread c.self.view_is c.self.invariant
    c.args.item c.args.front c.own_part-own.result c.index.result.now c.as_slice.result.now c.new-2.result c.requires c.in_ok-note.ensures.noted
    c.own_part-own.ensures c.index.ensures c.as_slice.ensures (c.new-2.ensures ∙ c.in_ok-after.ensures.without_all)).1

pub returns-in_err-after : goal.returns-in_err-after
returns-in_err-after g c = refused_for_memory _ _ _ _ _ c.requires c.from_residual.ensures.1 c.in_err-after.ensures.refused refl

pub invariant_of-self : goal.invariant_of-self
invariant_of-self g c = subst (IsKept _ c.self.inside.words.items c.self.inside.contents.items) (sym c.in_err-note.ensures.unchanged) c.self.invariant

pub returns-in_err-note : goal.returns-in_err-note
returns-in_err-note g c =
    refused_for_memory _ _ _ _ _ c.requires c.from_residual-in_err-note.ensures.1 c.in_err-note.ensures.refused
    (lists_kept c.self.inside.words.items c.self.inside.contents.items c.in_err-note.ensures.unchanged c.self.view_is)

pub index-requires : goal.index-requires
index-requires g c = own_place c.self.invariant c.self.view_is c.requires.thread c.own_part-own.ensures c.self.inside.contents.ok.0

pub slice_bounds-without_all-end : goal.slice_bounds-without_all-end
slice_bounds-without_all-end g c = refl

pub note-requires : goal.note-requires
note-requires g c = list_place c.self.invariant c.self.view_is c.requires.thread c.self.inside.lists.ok.0

pub index_mut-requires : goal.index_mut-requires
index_mut-requires g c = own_place c.self.invariant c.self.view_is c.requires.thread c.own_part-own.ensures c.self.inside.contents.ok.0
