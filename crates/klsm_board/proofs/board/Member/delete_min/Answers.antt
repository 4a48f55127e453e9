use Rattle.std.proofs.Common.{subst}
use Rattle.klsm_board.specs.declared.sizes.Sizes.{Sizes}
use Rattle.klsm_board.specs.Boards.{own_steps}
use Rattle.klsm_board.specs.Deleting.{AnswersWaiting}
use Rattle.klsm_board.proofs.lemmas.calls.DeletedLemmas.{own_refill}
use Rattle.klsm_board.proofs.board.Member.delete_min.Goals as goal

pub returns-clause-ok : goal.returns-clause-ok
returns-clause-ok g c =
    let me = c.args.self.now in let did = c.delete in
    subst (λ (m : Sizes). AnswersWaiting g.P.Picker.may_pick c.args.picker.now did.new.picker m me.number (own_steps me) (own_steps did.new.self) did.result) (own_refill me.sizes) did.ensures.ok
