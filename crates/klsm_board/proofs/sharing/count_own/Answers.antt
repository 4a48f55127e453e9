use Rattle.std.proofs.Common.{[], ap}
use Rattle.klsm_board.specs.Steps.{mine}
use Rattle.klsm_board.specs.Seats.{own_in_hand}
use Rattle.klsm_board.proofs.lemmas.hands.CommitLemmas.{has_still}
use Rattle.klsm_board.proofs.sharing.count_own.Goals as goal

pub look-requires : goal.look-requires
look-requires g c = let k = c.requires.has in record { seat = c.requires.seat.0; carries = (k.0, [], k.1.carries) }

pub returns-clause-counted : goal.returns-clause-counted
returns-clause-counted g c own has =
    let content = g.S.Holding.content in let suits = g.S.Holding.suits in let m = c.args.table.now.key in let t = c.args.thread in
    let looked = c.look.ensures.looked own [] has.carries in (
      looked.1,
      has_still content suits m t (own_in_hand t own) c.args.seat.now.me c.look.new.seat.me has c.look.ensures.same.1 looked.0,
      ap mine c.look.ensures.same.1,
    )
