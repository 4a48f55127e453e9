use Rattle.std.proofs.Common.{sym, ap, subst, ◌∙◌}
use Rattle.klsm_parts.proofs.FitLemmas.{local_fits, shared_fits}
use Rattle.klsm_board.specs.declared.sizes.Sizes.{Sizes}
use Rattle.klsm_board.specs.Steps.{AreReached}
use Rattle.klsm_board.proofs.lemmas.ending.WholeLemmas.{rests_at_turn}
use Rattle.klsm_board.proofs.together.hand_on.Goals as goal

pub turn_to-requires-room-S-Holding : goal.turn_to-requires-room-S-Holding
turn_to-requires-room-S-Holding g c κs = local_fits _ c.args.acting.now.capacity

pub turn_to-requires-room-S-Holding-2 : goal.turn_to-requires-room-S-Holding-2
turn_to-requires-room-S-Holding-2 g c κs = shared_fits _ c.args.acting.now.levels

pub invariant_of-acting : goal.invariant_of-acting
invariant_of-acting g c =
    let me = c.args.acting.now in let n = c.args.number in let outcome = c.turn_to.ensures in
    let reached = subst (λ (m : Sizes). AreReached m n c.turn_to.new.seat.me.0) (c.args.board.now.key ∙ sym c.requires.of.1) outcome.reached in
    record {
      rests = rests_at_turn me.sizes n c.args.inserted c.args.deleted me.seat.me c.turn_to.new.seat.me c.requires.has (ap (λ z. z.0) outcome.turned) (ap (λ z. z.1) outcome.turned ∙ me.rests.carries_none) reached c.requires.rests;
      in_range = me.in_range;
      capacity = me.capacity;
      levels = me.levels;
    }
