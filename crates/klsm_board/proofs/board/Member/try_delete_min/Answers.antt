use Rattle.std.proofs.Common.{IfOk, subst}
use Rattle.klsm_board.specs.declared.sizes.Sizes.{Sizes}
use Rattle.klsm_board.specs.Boards.{own_steps}
use Rattle.klsm_board.specs.Deleting.{AnswersDeletion}
use Rattle.klsm_board.proofs.lemmas.calls.DeletedLemmas.{own_refill}
use Rattle.klsm_board.proofs.board.Member.try_delete_min.Goals as goal

pub returns-clause-ok : goal.returns-clause-ok
returns-clause-ok g c =
    let me = c.args.self.now in let did = c.try_delete in
    subst (λ (m : Sizes). IfOk did.result (λ answer. AnswersDeletion g.P.Picker.may_pick c.args.picker.now did.new.picker m me.number (own_steps me) (own_steps did.new.self) answer)) (own_refill me.sizes) did.ensures.ok
