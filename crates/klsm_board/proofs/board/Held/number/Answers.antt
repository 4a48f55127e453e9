use Rattle.klsm_board.proofs.lemmas.hands.PossibleLemmas.{each_reached}
use Rattle.klsm_board.proofs.board.Held.number.Goals as goal

pub returns-clause-rule : goal.returns-clause-rule
returns-clause-rule g c = let me = c.args.self.now in each_reached me.sizes me.number me.seat.me.0 me.holds.reached
