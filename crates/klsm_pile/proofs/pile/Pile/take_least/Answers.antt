use Rattle.std.proofs.Common.{◌≡◌, ◌-◌, ◌+◌, length, drop, ap, ◌∙◌, subst, arith, inl, inr}
use Rattle.std.proofs.lemmas.List.{length-drop}
use Rattle.klsm_run.specs.Content.{sorted}
use Rattle.klsm_lsm.specs.Lsm.{content}
use Rattle.klsm_lsm.proofs.SlotLemmas.{refill_same}
use Rattle.klsm_pile.specs.Front.{parts, front_items}
use Rattle.klsm_pile.specs.Leaving.{cut_least}
use Rattle.klsm_pile.specs.Pieces.{blocks_below}
use Rattle.klsm_pile.specs.Piles.{PileState, IsConsistent}
use Rattle.klsm_pile.proofs.MergeLemmas.{items_length}
use Rattle.klsm_pile.proofs.PileLemmas.{all_in_front, pile_length, parts_length, rested, same_blocks, left_shown, taken_shown}
use Rattle.klsm_pile.proofs.pile.Pile.take_least.Goals as goal

pub take_first-requires-clause-there : goal.take_first-requires-clause-there
take_first-requires-clause-there g c = all_in_front g.row.LEVELS _ _ _ (length c.args.places.now) _ _ _ _ c.self.invariant c.self.view_is c.requires.reach c.requires.there

pub overflow_sub-self : goal.overflow_sub-self
overflow_sub-self g c = omega (arith, c.requires.there, pile_length g.row.LEVELS _ _ _ _ _ _ _ c.self.invariant c.self.view_is)

pub refill-requires-clause-room : goal.refill-requires-clause-room
refill-requires-clause-room g c = elim c.self.invariant.room [
  | inl none ↦ omega (arith, none, c.requires.some, c.requires.there, pile_length g.row.LEVELS _ _ _ _ _ _ _ c.self.invariant c.self.view_is)
  | inr room ↦ omega (arith, room, c.batch_for.ensures, c.take_first.ensures.capacity.0)
]

pub invariant_of-self : goal.invariant_of-self
invariant_of-self g c =
    let told = c.self.invariant in
    let out = c.take_first.ensures in
    let again = c.refill.ensures in
    let levels = ap length c.as_mut_slice.ensures.value ∙ told.level_counts in
    let within = all_in_front g.row.LEVELS _ _ _ (length c.args.places.now) _ _ _ _ c.self.invariant c.self.view_is c.requires.reach c.requires.there in
    let held = subst (λ n. IsConsistent n c.take_first.new.front.items c.take_first.new.pieces.items c.take_first.new.counts) levels out.held in
    let fewer : length c.take_first.new.front.items + length c.args.places.now ≡ length c.self.inside.front.items = omega (arith, items_length c.take_first.new.front.items, ap length out.left, length-drop (length c.args.places.now) (front_items c.self.inside.front.items), items_length c.self.inside.front.items, within) in
    rested g.row.LEVELS c.self.inside.reach (c.self.inside.len - length c.args.places.now) _ c.take_first.new.front.items _ c.take_first.new.pieces.items _ c.take_first.new.counts _
    held (again.held g.row.LEVELS c.take_first.new.counts held)
    again.same again.enough (omega (arith, again.few, c.batch_for.ensures)) (omega (arith, told.few, fewer))
    (omega (arith, parts_length c.self.inside.front.items c.self.inside.pieces.items, parts_length c.take_first.new.front.items c.take_first.new.pieces.items, fewer, ap length out.pieces, told.total))
    (omega (arith, told.limit))
    (refill_same c.self.inside.counts.items c.take_first.new.counts (out.len ∙ ap length c.as_mut_slice.ensures.value))
    (out.len ∙ levels)
    (elim told.room [
      | inl none ↦ inl (omega (arith, none))
      | inr room ↦ inr (omega (arith, room, again.capacity, out.capacity.0))
    ])
    told.reach_in_range told.levels_in_range

pub returns-clause-taken : goal.returns-clause-taken
returns-clause-taken g c =
    let within = all_in_front g.row.LEVELS _ _ _ (length c.args.places.now) _ _ _ _ c.self.invariant c.self.view_is c.requires.reach c.requires.there in
    taken_shown g.row.LEVELS _ _ _ (length c.args.places.now) _ _ _ _ _ c.self.invariant c.self.view_is within c.take_first.ensures.taken

pub returns-clause-blocks : goal.returns-clause-blocks
returns-clause-blocks g c =
    let levels = ap length c.as_mut_slice.ensures.value ∙ c.self.invariant.level_counts in
    let cut = subst (λ n. blocks_below n (parts c.take_first.new.front.items c.take_first.new.pieces.items) ≡ cut_least (length c.args.places.now) (blocks_below n (parts c.self.inside.front.items c.self.inside.pieces.items))) levels c.take_first.ensures.blocks in
    same_blocks g.row.LEVELS c.refill.new.front.items c.take_first.new.front.items c.refill.new.pieces.items c.take_first.new.pieces.items c.refill.ensures.same
    ∙ (cut ∙ ap (λ (p : PileState). cut_least (length c.args.places.now) p.blocks) c.self.view_is)

pub returns-clause-left : goal.returns-clause-left
returns-clause-left g c =
    let out = c.take_first.ensures in
    let levels = ap length c.as_mut_slice.ensures.value ∙ c.self.invariant.level_counts in
    let within = all_in_front g.row.LEVELS _ _ _ (length c.args.places.now) _ _ _ _ c.self.invariant c.self.view_is c.requires.reach c.requires.there in
    let held = subst (λ n. IsConsistent n c.take_first.new.front.items c.take_first.new.pieces.items c.take_first.new.counts) levels out.held in
    ap (λ bs. sorted (content bs)) (same_blocks g.row.LEVELS c.refill.new.front.items c.take_first.new.front.items c.refill.new.pieces.items c.take_first.new.pieces.items c.refill.ensures.same)
    ∙ (left_shown g.row.LEVELS (length c.args.places.now) c.self.inside.front.items _ c.self.inside.pieces.items _ _ _ c.self.invariant.held held within out.left out.pieces
    ∙ ap (λ (p : PileState). drop (length c.args.places.now) (sorted (content p.blocks))) c.self.view_is)
