use Rattle.klsm_board.proofs.lemmas.hands.PossibleLemmas.{each_reached}
use Rattle.std.proofs.Common.{rules}
use Rattle.klsm_board.proofs.board.Member.number.Goals as goal

pub returns-clause-number : goal.returns-clause-number
returns-clause-number g c = search rules

pub returns-clause-rule : goal.returns-clause-rule
returns-clause-rule g c = let me = c.args.self.now in each_reached me.sizes me.number me.seat.me.0 me.rests.reached
