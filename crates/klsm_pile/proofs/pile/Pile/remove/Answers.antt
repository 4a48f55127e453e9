use Rattle.std.proofs.Common.{◌-◌, length, arith, subst, ◌∙◌, ap, inl, inr}
use Rattle.klsm_lsm.proofs.SlotLemmas.{refill_same}
use Rattle.klsm_pile.specs.Front.{parts}
use Rattle.klsm_pile.specs.Pieces.{blocks_below}
use Rattle.klsm_pile.specs.Piles.{IsConsistent, IsItemCut}
use Rattle.klsm_pile.proofs.PileLemmas.{in_front, item_shown, pile_length, parts_length, rested, same_blocks, cut_of}
use Rattle.klsm_pile.proofs.pile.Pile.remove.Goals as goal

pub remove_at-item-requires-clause-rank : goal.remove_at-item-requires-clause-rank
remove_at-item-requires-clause-rank g c = in_front g.row.LEVELS _ _ _ c.args.rank _ _ _ _ c.self.invariant c.self.view_is c.requires.reach c.requires.there

pub overflow_sub-self : goal.overflow_sub-self
overflow_sub-self g c = omega (arith, c.requires.there, pile_length g.row.LEVELS _ _ _ _ _ _ _ c.self.invariant c.self.view_is)

pub refill-requires-clause-room : goal.refill-requires-clause-room
refill-requires-clause-room g c = elim c.self.invariant.room [
  | inl none ↦ omega (arith, none, c.requires.there, pile_length g.row.LEVELS _ _ _ _ _ _ _ c.self.invariant c.self.view_is)
  | inr room ↦ omega (arith, room, c.batch_for.ensures, c.remove_at-item.ensures.capacity.0)
]

pub invariant_of-self : goal.invariant_of-self
invariant_of-self g c =
    let told = c.self.invariant in
    let out = c.remove_at-item.ensures in
    let again = c.refill.ensures in
    let there = in_front g.row.LEVELS _ _ _ c.args.rank _ _ _ _ c.self.invariant c.self.view_is c.requires.reach c.requires.there in
    let before = parts_length c.self.inside.front.items c.self.inside.pieces.items in
    let mid = parts_length c.remove_at-item.new.front.items c.remove_at-item.new.pieces.items in
    rested g.row.LEVELS c.self.inside.reach (c.self.inside.len - 1) _ c.remove_at-item.new.front.items _ c.remove_at-item.new.pieces.items _ c.remove_at-item.new.counts _
    (subst (λ n. IsConsistent n c.remove_at-item.new.front.items c.remove_at-item.new.pieces.items c.remove_at-item.new.counts) (ap length c.as_mut_slice.ensures.value ∙ told.level_counts) out.held)
    (again.held g.row.LEVELS c.remove_at-item.new.counts (subst (λ n. IsConsistent n c.remove_at-item.new.front.items c.remove_at-item.new.pieces.items c.remove_at-item.new.counts) (ap length c.as_mut_slice.ensures.value ∙ told.level_counts) out.held))
    again.same again.enough (omega (arith, again.few, c.batch_for.ensures)) (omega (arith, told.few, out.one_less.0))
    (omega (arith, before, mid, out.one_less.0, ap length out.one_less.1, told.total, there))
    (omega (arith, told.limit))
    (refill_same c.self.inside.counts.items c.remove_at-item.new.counts (out.len ∙ ap length c.as_mut_slice.ensures.value))
    (out.len ∙ (ap length c.as_mut_slice.ensures.value ∙ told.level_counts))
    (elim told.room [
      | inl none ↦ inl (omega (arith, none))
      | inr room ↦ inr (omega (arith, room, again.capacity, out.capacity.0))
    ])
    told.reach_in_range told.levels_in_range

pub returns-clause-item : goal.returns-clause-item
returns-clause-item g c =
    item_shown g.row.LEVELS _ _ _ c.args.rank _ _ _ _ _ c.self.invariant c.self.view_is c.remove_at-item.ensures.item

pub returns-clause-cut : goal.returns-clause-cut
returns-clause-cut g c =
    let levels = ap length c.as_mut_slice.ensures.value ∙ c.self.invariant.level_counts in
    let out = subst (λ n. IsItemCut c.remove_at-item.result (blocks_below n (parts c.self.inside.front.items c.self.inside.pieces.items)) (blocks_below n (parts c.remove_at-item.new.front.items c.remove_at-item.new.pieces.items))) levels c.remove_at-item.ensures.cut in
    cut_of g.row.LEVELS c.self.inside.reach c.remove_at-item.result c.self.inside.front.items c.refill.new.front.items c.self.inside.pieces.items c.refill.new.pieces.items c.args.self.now _ c.self.view_is out
    (same_blocks g.row.LEVELS c.refill.new.front.items c.remove_at-item.new.front.items c.refill.new.pieces.items c.remove_at-item.new.pieces.items c.refill.ensures.same)
