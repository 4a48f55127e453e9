use Rattle.std.proofs.Common.{inl, inr, refl, subst, rules}
use Rattle.klsm_run.specs.declared.limits.TheConstants.{PROGRAM_LEVELS}
use Rattle.klsm_board.specs.declared.sizes.Sizes.{Sizes}
use Rattle.klsm_board.specs.Boards.{own_steps}
use Rattle.klsm_board.specs.Inserting.{InsertsWaiting}
use Rattle.klsm_tool.specs.Courses.{CallsInTurn, DeletesInTurn}
use Rattle.klsm_knapsack.proofs.CourseLemmas.{one_call}
use Rattle.klsm_tool.proofs.worker.answer.Goals as goal

pub returns-in-Delete-clause-shown : goal.returns-in-Delete-clause-shown
returns-in-Delete-clause-shown g c = search rules

pub returns-in-Delete-clause-deletes : goal.returns-in-Delete-clause-deletes
returns-in-Delete-clause-deletes g c is = c.delete.ensures.deletes

pub returns-in-Delete-clause-course : goal.returns-in-Delete-clause-course
returns-in-Delete-clause-course g c first on =
    let t = c.args.member.now.number in let before = c.args.picker.now in let after = c.delete.new.picker in let es = own_steps c.args.member.now in let es' = own_steps c.delete.new.member in
    one_call (CallsInTurn c.args.board.now.sizes t) first before after es es' on
    (inr (c.delete.result, subst (λ (z : Sizes). DeletesInTurn z t before after es es' c.delete.result) c.requires.of.1 c.delete.ensures.deletes))

pub returns-in-Ok-clause-course : goal.returns-in-Ok-clause-course
returns-in-Ok-clause-course g c first on =
    let t = c.args.member.now.number in let picker = c.args.picker.now in let es = own_steps c.args.member.now in let es' = own_steps c.insert.new.member in
    one_call (CallsInTurn c.args.board.now.sizes t) first picker picker es es' on
    (inl ((c.in-Ok.item, subst (λ (z : Sizes). InsertsWaiting PROGRAM_LEVELS z.k t es es' c.in-Ok.item) c.requires.of.1 c.in-Ok.ensures.inserts), refl))
