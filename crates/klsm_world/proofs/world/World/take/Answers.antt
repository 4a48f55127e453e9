use Rattle.std.proofs.Common.{◌≡◌, ◌⊎◌, true, false, inl, inr, ◌∙◌, sym, subst, refl}
use Rattle.klsm_world.proofs.world.World.take.Goals.{then-is_own, else-is_own}
use Rattle.klsm_world.specs.Kept.{IsKept}
use Rattle.klsm_schedules.specs.Worlds.{Limits, limits_of}
use Rattle.klsm_world.proofs.lemmas.kept.CommitTakenLemmas.{take_taken}
use Rattle.klsm_world.proofs.lemmas.kept.MemoryLemmas.{lists_kept, refused_for_memory}
use Rattle.klsm_world.proofs.lemmas.kept.PlaceLemmas.{held_place, list_place, own_place}
use Rattle.klsm_world.proofs.world.World.take.Goals as goal

pub invariant_of-self-2 : goal.invariant_of-self-2
invariant_of-self-2 g c =
    let limits : Limits = limits_of c.self.inside.threads c.self.inside.k in
    let place : ((c.if-is_own.part ≡ c.own_part-own.result) × (c.has-is_own.result ≡ true)) ⊎ ((c.if-is_own.part ≡ 0) × (c.has-is_own.result ≡ false)) =
    elim c.if-is_own.branch [ then-is_own w ↦ inl (w.part-is, w.if-is_own.true) | else-is_own w ↦ inr (w.part-is, w.if-is_own.false) ] in
    (take_taken c.args.self.now limits c.self.inside.words.items c.self.inside.contents.items c.self.inside.lists.items c.note.new.lists.items c.args.thread c.self.view_is c.self.invariant
    c.args.item c.own_part-own.result c.if-is_own.part c.has-is_own.result c.index.result.now c.as_slice.result.now c.index-2.result.now c.as_slice-2.result.now c.new-2.result
    c.requires c.in_ok-note.ensures.noted c.own_part-own.ensures c.index.ensures c.as_slice.ensures c.has-is_own.ensures.0 c.has-is_own.ensures.1 place
    c.index-2.ensures c.as_slice-2.ensures (c.new-2.ensures ∙ c.in_ok-after.ensures.without_all)).0

pub returns : goal.returns
returns g c =
    let limits : Limits = limits_of c.self.inside.threads c.self.inside.k in
    let place : ((c.if-is_own.part ≡ c.own_part-own.result) × (c.has-is_own.result ≡ true)) ⊎ ((c.if-is_own.part ≡ 0) × (c.has-is_own.result ≡ false)) =
    elim c.if-is_own.branch [ then-is_own w ↦ inl (w.part-is, w.if-is_own.true) | else-is_own w ↦ inr (w.part-is, w.if-is_own.false) ] in
    (take_taken c.args.self.now limits c.self.inside.words.items c.self.inside.contents.items c.self.inside.lists.items c.note.new.lists.items c.args.thread c.self.view_is c.self.invariant
    c.args.item c.own_part-own.result c.if-is_own.part c.has-is_own.result c.index.result.now c.as_slice.result.now c.index-2.result.now c.as_slice-2.result.now c.new-2.result
    c.requires c.in_ok-note.ensures.noted c.own_part-own.ensures c.index.ensures c.as_slice.ensures c.has-is_own.ensures.0 c.has-is_own.ensures.1 place
    c.index-2.ensures c.as_slice-2.ensures (c.new-2.ensures ∙ c.in_ok-after.ensures.without_all)).1

pub returns-in_err-after : goal.returns-in_err-after
returns-in_err-after g c = refused_for_memory _ _ _ _ _ c.requires c.from_residual.ensures.1 c.in_err-after.ensures.refused refl

pub invariant_of-self : goal.invariant_of-self
invariant_of-self g c = subst (IsKept _ c.self.inside.words.items c.self.inside.contents.items) (sym c.in_err-note.ensures.unchanged) c.self.invariant

pub returns-in_err-note : goal.returns-in_err-note
returns-in_err-note g c =
    refused_for_memory _ _ _ _ _ c.requires c.from_residual-in_err-note.ensures.1 c.in_err-note.ensures.refused
    (lists_kept c.self.inside.words.items c.self.inside.contents.items c.in_err-note.ensures.unchanged c.self.view_is)

pub index-requires : goal.index-requires
index-requires g c = own_place c.self.invariant c.self.view_is c.requires.thread c.own_part-own.ensures c.self.inside.contents.ok.0

pub slice_bounds-without_all-end : goal.slice_bounds-without_all-end
slice_bounds-without_all-end g c = refl

pub note-requires : goal.note-requires
note-requires g c = list_place c.self.invariant c.self.view_is c.requires.thread c.self.inside.lists.ok.0

pub index-requires-2 : goal.index-requires-2
index-requires-2 g c = elim c.if-is_own.branch [
  | then-is_own w ↦ own_place c.self.invariant c.self.view_is c.requires.thread (w.part-is ∙ c.own_part-own.ensures) c.self.inside.contents.ok.0
  | else-is_own w ↦ held_place c.self.invariant c.self.view_is c.requires.thread w.part-is c.requires.commit.holds_other c.self.inside.contents.ok.0
]

pub index_mut-requires : goal.index_mut-requires
index_mut-requires g c = elim c.if-is_own.branch [
  | then-is_own w ↦ own_place c.self.invariant c.self.view_is c.requires.thread (w.part-is ∙ c.own_part-own.ensures) c.self.inside.contents.ok.0
  | else-is_own w ↦ held_place c.self.invariant c.self.view_is c.requires.thread w.part-is c.requires.commit.holds_other c.self.inside.contents.ok.0
]
