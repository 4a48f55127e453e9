use Rattle.std.proofs.Common.{◌≡◌, ◌+◌, List, length, sym, ap, ◌∙◌, subst, arith, inr}
use Rattle.std.specs.List.{refill}
use Rattle.klsm_run.specs.declared.item.Item.{Item}
use Rattle.klsm_lsm.specs.Adding.{add}
use Rattle.klsm_lsm.proofs.SlotLemmas.{refill_same}
use Rattle.klsm_pile.specs.Front.{parts}
use Rattle.klsm_pile.specs.Pieces.{blocks_below}
use Rattle.klsm_pile.specs.Piles.{PileState, IsConsistent, IsPile}
use Rattle.klsm_pile.proofs.AbsorbLemmas.{pieces_distinct, pieces_few, reserved_pile, reserved_shown, pile_again, shown_again, apart_inside, on_err}
use Rattle.klsm_pile.proofs.PileLemmas.{pile_length, rested, same_blocks}
use Rattle.klsm_pile.proofs.pile.Pile.absorb.Goals as goal

pub reserve-requires-clause-distinct : goal.reserve-requires-clause-distinct
reserve-requires-clause-distinct g c = pieces_distinct g.row.LEVELS _ _ _ c.self.invariant.held

pub reserve-requires-clause-few : goal.reserve-requires-clause-few
reserve-requires-clause-few g c =
    omega (arith, c.self.invariant.total, c.self.invariant.limit, pieces_few c.self.inside.front.items c.self.inside.pieces.items)

pub invariant_of-self : goal.invariant_of-self
invariant_of-self g c =
    reserved_pile g.row.LEVELS c.self.inside.reach c.self.inside.len _ _ _ _ _ _ c.self.inside.counts.items c.self.invariant c.reserve.ensures.front c.reserve.ensures.same c.reserve.ensures.below c.reserve.ensures.capacity

pub returns-in_err-reserve-clause-unchanged : goal.returns-in_err-reserve-clause-unchanged
returns-in_err-reserve-clause-unchanged g c =
    on_err c.from_residual.result (reserved_shown g.row.LEVELS c.self.inside.reach _ _ _ _ _ c.reserve.ensures.front c.reserve.ensures.same c.self.view_is)

pub absorb-requires-clause-held : goal.absorb-requires-clause-held
absorb-requires-clause-held g c =
    let reserved = reserved_pile g.row.LEVELS c.self.inside.reach c.self.inside.len _ _ _ _ _ _ c.self.inside.counts.items c.self.invariant c.reserve.ensures.front c.reserve.ensures.same c.reserve.ensures.below c.reserve.ensures.capacity in
    let levels = ap length c.as_mut_slice.ensures.value ∙ c.self.invariant.level_counts in
    subst (λ n. IsConsistent n c.reserve.new.front.items c.reserve.new.pieces.items c.as_mut_slice.result.now) (sym levels)
    (subst (IsConsistent g.row.LEVELS c.reserve.new.front.items c.reserve.new.pieces.items) (sym c.as_mut_slice.ensures.value) reserved.held)

pub absorb-requires-clause-apart : goal.absorb-requires-clause-apart
absorb-requires-clause-apart g c =
    let reserved = reserved_pile g.row.LEVELS c.self.inside.reach c.self.inside.len _ _ _ _ _ _ c.self.inside.counts.items c.self.invariant c.reserve.ensures.front c.reserve.ensures.same c.reserve.ensures.below c.reserve.ensures.capacity in
    let shown = reserved_shown g.row.LEVELS c.self.inside.reach _ _ _ _ _ c.reserve.ensures.front c.reserve.ensures.same c.self.view_is in
    apart_inside g.row.LEVELS _ _ _ _ _ _ _ c.args.run reserved shown c.requires.apart

pub absorb-requires-clause-limit : goal.absorb-requires-clause-limit
absorb-requires-clause-limit g c =
    let reserved = reserved_pile g.row.LEVELS c.self.inside.reach c.self.inside.len _ _ _ _ _ _ c.self.inside.counts.items c.self.invariant c.reserve.ensures.front c.reserve.ensures.same c.reserve.ensures.below c.reserve.ensures.capacity in
    let shown = reserved_shown g.row.LEVELS c.self.inside.reach _ _ _ _ _ c.reserve.ensures.front c.reserve.ensures.same c.self.view_is in
    let levels = ap length c.as_mut_slice.ensures.value ∙ c.self.invariant.level_counts in
    rw levels (omega (arith, c.requires.limit, reserved.total, pile_length g.row.LEVELS _ _ _ _ _ _ _ reserved shown))

pub absorb-requires-clause-few : goal.absorb-requires-clause-few
absorb-requires-clause-few g c =
    let reserved = reserved_pile g.row.LEVELS c.self.inside.reach c.self.inside.len _ _ _ _ _ _ c.self.inside.counts.items c.self.invariant c.reserve.ensures.front c.reserve.ensures.same c.reserve.ensures.below c.reserve.ensures.capacity in
    let shown = reserved_shown g.row.LEVELS c.self.inside.reach _ _ _ _ _ c.reserve.ensures.front c.reserve.ensures.same c.self.view_is in
    omega (arith, c.requires.limit, reserved.total, pile_length g.row.LEVELS _ _ _ _ _ _ _ reserved shown)

pub invariant_of-self-in_err-absorb : goal.invariant_of-self-in_err-absorb
invariant_of-self-in_err-absorb g c =
    let reserved = reserved_pile g.row.LEVELS c.self.inside.reach c.self.inside.len _ _ _ _ _ _ c.self.inside.counts.items c.self.invariant c.reserve.ensures.front c.reserve.ensures.same c.reserve.ensures.below c.reserve.ensures.capacity in
    let same = c.in_err-absorb.ensures.unchanged in
    subst (IsPile g.row.LEVELS c.self.inside.reach c.self.inside.len c.absorb.new.front.items c.absorb.new.pieces.items (refill (length c.self.inside.counts.items) c.self.inside.counts.items c.absorb.new.counts)) (sym c.absorb.ensures.capacity)
    (pile_again g.row.LEVELS c.self.inside.reach c.self.inside.len c.reserve.new.front.capacity _ _ _ _ c.self.inside.counts.items _ reserved same.0 same.1
    (refill_same c.self.inside.counts.items c.absorb.new.counts (c.absorb.ensures.len ∙ ap length c.as_mut_slice.ensures.value) ∙ (same.2 ∙ c.as_mut_slice.ensures.value)))

pub returns-in_err-absorb-clause-unchanged : goal.returns-in_err-absorb-clause-unchanged
returns-in_err-absorb-clause-unchanged g c =
    let shown = reserved_shown g.row.LEVELS c.self.inside.reach _ _ _ _ _ c.reserve.ensures.front c.reserve.ensures.same c.self.view_is in
    let same = c.in_err-absorb.ensures.unchanged in
    on_err c.from_residual-in_err-absorb.result (shown_again g.row.LEVELS c.self.inside.reach _ _ _ _ _ same.0 same.1 shown)

pub invariant_of-self-2 : goal.invariant_of-self-2
invariant_of-self-2 g c =
    let reserved = reserved_pile g.row.LEVELS c.self.inside.reach c.self.inside.len _ _ _ _ _ _ c.self.inside.counts.items c.self.invariant c.reserve.ensures.front c.reserve.ensures.same c.reserve.ensures.below c.reserve.ensures.capacity in
    let shown = reserved_shown g.row.LEVELS c.self.inside.reach _ _ _ _ _ c.reserve.ensures.front c.reserve.ensures.same c.self.view_is in
    let levels = ap length c.as_mut_slice.ensures.value ∙ c.self.invariant.level_counts in
    let put = c.in_ok-absorb.ensures in
    let again = c.refill.ensures in
    let held = subst (λ n. IsConsistent n c.absorb.new.front.items c.absorb.new.pieces.items c.absorb.new.counts) levels put.held in
    rested g.row.LEVELS c.self.inside.reach (c.self.inside.len + c.len-added.result) _ c.absorb.new.front.items _ c.absorb.new.pieces.items _ c.absorb.new.counts _
    held (again.held g.row.LEVELS c.absorb.new.counts held) again.same again.enough
    (omega (arith, again.few, c.batch_for.ensures)) (omega (arith, put.few, c.places_for-places.ensures))
    (omega (arith, put.total, reserved.total, c.len-added.ensures.len))
    (omega (arith, c.requires.limit, c.len-added.ensures.len, pile_length g.row.LEVELS _ _ _ _ _ _ _ reserved shown))
    (refill_same c.self.inside.counts.items c.absorb.new.counts (put.len ∙ ap length c.as_mut_slice.ensures.value))
    (put.len ∙ levels)
    (inr (omega (arith, c.in_ok-reserve.ensures.room, c.places_for-places.ensures, put.capacity, again.capacity)))
    reserved.reach_in_range reserved.levels_in_range

pub returns-clause-added : goal.returns-clause-added
returns-clause-added g c =
    let shown = reserved_shown g.row.LEVELS c.self.inside.reach _ _ _ _ _ c.reserve.ensures.front c.reserve.ensures.same c.self.view_is in
    let levels = ap length c.as_mut_slice.ensures.value ∙ c.self.invariant.level_counts in
    let state : List (List Item) → PileState = λ bs. record { blocks = bs; reach = c.self.inside.reach } in
    let blocks = subst (λ n. blocks_below n (parts c.absorb.new.front.items c.absorb.new.pieces.items) ≡ add (blocks_below n (parts c.reserve.new.front.items c.reserve.new.pieces.items)) c.args.run) levels c.in_ok-absorb.ensures.blocks in
    ap state (same_blocks g.row.LEVELS c.refill.new.front.items c.absorb.new.front.items c.refill.new.pieces.items c.absorb.new.pieces.items c.refill.ensures.same ∙ blocks)
    ∙ ap (λ (p : PileState). record { blocks = add p.blocks c.args.run; reach = p.reach }) shown
