use Rattle.std.proofs.Common.{arith, ◌≡◌, ◌+◌, ◌*◌, List, [], ◌∷◌, sym, ap, ◌∙◌, subst}
use Rattle.atomic_table.specs.Table.{Splits}
use Rattle.klsm_parts.proofs.FitLemmas.{local_fits, shared_fits}
use Rattle.klsm_board.specs.declared.rule.Own.{Own}
use Rattle.klsm_board.specs.Slots.{slot_content, IsSlotOf}
use Rattle.klsm_board.specs.Rule.{own, view, fresh, Ruled}
use Rattle.klsm_board.specs.Steps.{others, first_of_all}
use Rattle.klsm_board.proofs.lemmas.table.OpeningLemmas.{divides}
use Rattle.klsm_board.proofs.lemmas.table.MakeLemmas.{one_more_fresh, rests_at_first}
use Rattle.klsm_board.proofs.making.next_member.Goals as goal

pub split_seat-requires : goal.split_seat-requires
split_seat-requires g c =
    let board = c.args.board.now in let seat = c.args.seat.now in let h = c.requires.view in let n = c.args.number in
    let words : board.table.shared.table_id.words ≡ (board.sizes.threads + 2) * 16 = board.sized.0 in
    let is : seat.me.0.lists ≡ own n [] ∷ fresh (n + 1) h.0 = ap (λ z. z.0.lists) h.1 ∙ one_more_fresh h.0 n in (
      c.requires.table,
      omega (arith, words),
      subst (λ (z : List Own). Splits (Ruled slot_content IsSlotOf board.table.shared.key) seat.id seat.me.0 (view (others z)) (view (first_of_all z))) (sym is) (divides slot_content IsSlotOf board.table.shared.key seat.id seat.me.0 (own n []) (fresh (n + 1) h.0) is),
    )

pub invariant_of-result-clause-rests : goal.invariant_of-result-clause-rests
invariant_of-result-clause-rests g c =
    let h = c.requires.view in let n = c.args.number in
    let is : c.args.seat.now.me.0.lists ≡ own n [] ∷ fresh (n + 1) h.0 = ap (λ z. z.0.lists) h.1 ∙ one_more_fresh h.0 n in
    rests_at_first c.args.board.now.sizes n c.split_seat.result.me c.requires.number (c.split_seat.ensures.4 ∙ ap (λ (z : List Own). (view (first_of_all z), [])) is)

pub split_seat-requires-room-P-TableRule : goal.split_seat-requires-room-P-TableRule
split_seat-requires-room-P-TableRule g c κs = local_fits _ c.args.board.now.capacity

pub split_seat-requires-room-P-TableRule-2 : goal.split_seat-requires-room-P-TableRule-2
split_seat-requires-room-P-TableRule-2 g c κs = shared_fits _ c.args.board.now.levels

pub invariant_of-result-clause-in_range : goal.invariant_of-result-clause-in_range
invariant_of-result-clause-in_range g c = c.args.board.now.in_range

pub invariant_of-result-clause-capacity : goal.invariant_of-result-clause-capacity
invariant_of-result-clause-capacity g c = c.args.board.now.capacity

pub invariant_of-result-clause-levels : goal.invariant_of-result-clause-levels
invariant_of-result-clause-levels g c = c.args.board.now.levels
