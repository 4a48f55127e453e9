use Rattle.std.proofs.Common.{arith, ◌≡◌, ◌+◌, ◌*◌, List, [], ◌∷◌, sym, ap, ◌∙◌, subst}
use Rattle.atomic_table.specs.Table.{Splits}
use Rattle.klsm_parts.proofs.FitLemmas.{local_fits, shared_fits}
use Rattle.klsm_board.specs.declared.rule.Own.{Own}
use Rattle.klsm_board.specs.declared.rule.View.{View}
use Rattle.klsm_board.specs.declared.sizes.Sizes.{Sizes}
use Rattle.klsm_board.specs.Slots.{slot_content, IsSlotOf}
use Rattle.klsm_board.specs.Rule.{own, view, Ruled}
use Rattle.klsm_board.specs.Steps.{mine, others, first_of_all, AreReached}
use Rattle.klsm_board.specs.Turning.{left_behind, steps_known}
use Rattle.klsm_board.proofs.lemmas.table.KnownLemmas.{turned_first}
use Rattle.klsm_board.proofs.lemmas.table.OpeningLemmas.{divides}
use Rattle.klsm_board.proofs.lemmas.ending.WholeLemmas.{rests_alone}
use Rattle.klsm_board.proofs.together.member_of.Goals as goal

pub turn_to-requires-room-S-Holding : goal.turn_to-requires-room-S-Holding
turn_to-requires-room-S-Holding g c κs = local_fits _ c.args.board.now.capacity

pub turn_to-requires-room-S-Holding-2 : goal.turn_to-requires-room-S-Holding-2
turn_to-requires-room-S-Holding-2 g c κs = shared_fits _ c.args.board.now.levels

pub split_seat-requires-room-P-TableRule : goal.split_seat-requires-room-P-TableRule
split_seat-requires-room-P-TableRule g c κs = local_fits _ c.args.board.now.capacity

pub split_seat-requires-room-P-TableRule-2 : goal.split_seat-requires-room-P-TableRule-2
split_seat-requires-room-P-TableRule-2 g c κs = shared_fits _ c.args.board.now.levels

pub split_seat-requires : goal.split_seat-requires
split_seat-requires g c =
    let board = c.args.board.now in let seat = c.turn_to.new.seat in let n = c.args.number in let lists = c.args.seat.now.me.0.lists in
    let words : board.table.shared.table_id.words ≡ (board.sizes.threads + 2) * 16 = board.sized.0 in
    let is : seat.me.0.lists ≡ own n (steps_known lists n) ∷ left_behind n lists = ap (λ z. z.0.lists) c.turn_to.ensures.turned ∙ turned_first n lists c.requires.has in (
      c.turn_to.ensures.same.0 ∙ c.requires.table,
      omega (arith, words),
      subst (λ (z : List Own). Splits (Ruled slot_content IsSlotOf board.table.shared.key) seat.id seat.me.0 (view (others z)) (view (first_of_all z))) (sym is) (divides slot_content IsSlotOf board.table.shared.key seat.id seat.me.0 (own n (steps_known lists n)) (left_behind n lists) is),
    )

pub invariant_of-result : goal.invariant_of-result
invariant_of-result g c =
    let board = c.args.board.now in let n = c.args.number in let lists = c.args.seat.now.me.0.lists in let outcome = c.turn_to.ensures in
    let is : c.turn_to.new.seat.me.0.lists ≡ own n (steps_known lists n) ∷ left_behind n lists = ap (λ z. z.0.lists) outcome.turned ∙ turned_first n lists c.requires.has in
    let reached = subst (λ (m : Sizes). AreReached m n c.turn_to.new.seat.me.0) board.key outcome.reached in
    record {
      rests = rests_alone board.sizes n c.args.inserted c.args.deleted lists c.split_seat.result.me c.requires.has (c.split_seat.ensures.4 ∙ ap (λ (z : List Own). (view (first_of_all z), [])) is)
          (subst (λ (z : View). AreReached board.sizes n z) (ap (λ z. z.0) outcome.turned) reached) c.requires.rests;
      in_range = board.in_range;
      capacity = board.capacity;
      levels = board.levels;
    }

pub returns-clause-left : goal.returns-clause-left
returns-clause-left g c =
    let n = c.args.number in let lists = c.args.seat.now.me.0.lists in let outcome = c.turn_to.ensures in
    let is : c.turn_to.new.seat.me.0.lists ≡ own n (steps_known lists n) ∷ left_behind n lists = ap (λ z. z.0.lists) outcome.turned ∙ turned_first n lists c.requires.has in
    c.split_seat.ensures.2 ∙ λ i. (view (others (is i)), (ap (λ z. z.1) outcome.turned ∙ c.requires.none) i)

pub returns-clause-member : goal.returns-clause-member
returns-clause-member g c =
    let n = c.args.number in let lists = c.args.seat.now.me.0.lists in let outcome = c.turn_to.ensures in
    let is : c.turn_to.new.seat.me.0.lists ≡ own n (steps_known lists n) ∷ left_behind n lists = ap (λ z. z.0.lists) outcome.turned ∙ turned_first n lists c.requires.has in
    (λ i. n, (c.split_seat.ensures.3 ∙ (outcome.same.0 ∙ c.requires.table), λ i. c.args.board.now.sizes), ap (λ z. mine z.0) c.split_seat.ensures.4 ∙ ap (λ (z : List Own). mine (view (first_of_all z))) is)
