use Rattle.std.proofs.Common.{◌∙◌, refl, sym, subst}
use Rattle.klsm_run.proofs.SortedLemmas.{sorted_ascending}
use Rattle.klsm_world.specs.Kept.{IsKept}
use Rattle.klsm_schedules.specs.Worlds.{Limits, limits_of}
use Rattle.klsm_world.proofs.lemmas.kept.CommitTakenLemmas.{refill_taken}
use Rattle.klsm_world.proofs.lemmas.kept.MemoryLemmas.{lists_kept, refused_for_memory}
use Rattle.klsm_world.proofs.lemmas.kept.PlaceLemmas.{ascending_place, list_place, own_place, shared_place}
use Rattle.klsm_world.proofs.world.World.refill.Goals as goal

-- what moves at a legal refill ascends
pub with_all-requires-clause-joining_sorted : goal.with_all-requires-clause-joining_sorted
with_all-requires-clause-joining_sorted g c = sorted_ascending c.args.moved.now c.requires.commit.fits.ascending

pub invariant_of-self-2 : goal.invariant_of-self-2
invariant_of-self-2 g c =
    let limits : Limits = limits_of c.self.inside.threads c.self.inside.k in
    (refill_taken c.args.self.now limits c.self.inside.words.items c.self.inside.contents.items c.self.inside.lists.items c.note.new.lists.items c.args.thread c.self.view_is c.self.invariant
    c.args.moved.now c.new-listed.result c.own_part-own.result c.index.result.now c.as_slice.result.now c.new.result c.index-2.result.now c.as_slice-2.result.now c.new-2.result
    c.requires c.in_ok-note.ensures.noted (c.new-listed.ensures ∙ c.in_ok-copied.ensures.copy) c.own_part-own.ensures c.index.ensures c.as_slice.ensures
    (c.new.ensures ∙ c.in_ok-own_after.ensures.with_all)
    c.index-2.ensures c.as_slice-2.ensures (c.new-2.ensures ∙ c.in_ok-left.ensures.without_all)).0

pub returns : goal.returns
returns g c =
    let limits : Limits = limits_of c.self.inside.threads c.self.inside.k in
    (refill_taken c.args.self.now limits c.self.inside.words.items c.self.inside.contents.items c.self.inside.lists.items c.note.new.lists.items c.args.thread c.self.view_is c.self.invariant
    c.args.moved.now c.new-listed.result c.own_part-own.result c.index.result.now c.as_slice.result.now c.new.result c.index-2.result.now c.as_slice-2.result.now c.new-2.result
    c.requires c.in_ok-note.ensures.noted (c.new-listed.ensures ∙ c.in_ok-copied.ensures.copy) c.own_part-own.ensures c.index.ensures c.as_slice.ensures
    (c.new.ensures ∙ c.in_ok-own_after.ensures.with_all)
    c.index-2.ensures c.as_slice-2.ensures (c.new-2.ensures ∙ c.in_ok-left.ensures.without_all)).1

pub returns-in_err-own_after : goal.returns-in_err-own_after
returns-in_err-own_after g c = refused_for_memory _ _ _ _ _ c.requires c.from_residual.ensures.1 c.in_err-own_after.ensures.refused refl

pub returns-in_err-left : goal.returns-in_err-left
returns-in_err-left g c = refused_for_memory _ _ _ _ _ c.requires c.from_residual-in_err-left.ensures.1 c.in_err-left.ensures.refused refl

pub returns-in_err-copied : goal.returns-in_err-copied
returns-in_err-copied g c = refused_for_memory _ _ _ _ _ c.requires c.from_residual-in_err-copied.ensures.1 c.in_err-copied.ensures.refused refl

pub invariant_of-self : goal.invariant_of-self
invariant_of-self g c = subst (IsKept _ c.self.inside.words.items c.self.inside.contents.items) (sym c.in_err-note.ensures.unchanged) c.self.invariant

pub returns-in_err-note : goal.returns-in_err-note
returns-in_err-note g c =
    refused_for_memory _ _ _ _ _ c.requires c.from_residual-in_err-note.ensures.1 c.in_err-note.ensures.refused
    (lists_kept c.self.inside.words.items c.self.inside.contents.items c.in_err-note.ensures.unchanged c.self.view_is)

pub index-requires : goal.index-requires
index-requires g c = own_place c.self.invariant c.self.view_is c.requires.thread c.own_part-own.ensures c.self.inside.contents.ok.0

pub with_all-requires-clause-sorted : goal.with_all-requires-clause-sorted
with_all-requires-clause-sorted g c =
    ascending_place c.self.invariant (own_place c.self.invariant c.self.view_is c.requires.thread c.own_part-own.ensures refl) c.index.ensures c.as_slice.ensures

pub index-requires-2 : goal.index-requires-2
index-requires-2 g c = shared_place c.self.invariant c.self.inside.contents.ok.0

pub note-requires : goal.note-requires
note-requires g c = list_place c.self.invariant c.self.view_is c.requires.thread c.self.inside.lists.ok.0

pub index_mut-requires : goal.index_mut-requires
index_mut-requires g c = own_place c.self.invariant c.self.view_is c.requires.thread c.own_part-own.ensures c.self.inside.contents.ok.0

pub index_mut-requires-2 : goal.index_mut-requires-2
index_mut-requires-2 g c = shared_place c.self.invariant c.self.inside.contents.ok.0
