use Rattle.std.proofs.Common.{[], ◌∷◌, Some, None, ap, subst, arith}
use Rattle.klsm_board.specs.declared.sizes.Sizes.{Sizes}
use Rattle.klsm_board.specs.Deleting.{AnswersDeletion}
use Rattle.klsm_board.specs.Together.{all_lists, left_of, steps_for}
use Rattle.klsm_run.specs.Content.{skipped}
use Rattle.klsm_text.specs.declared.answer.Answer.TheVariants.{Deleted, Nothing}
use Rattle.klsm_parts.specs.Choices.{may_choose}
use Rattle.klsm_tool.specs.Shown.{IsFew}
use Rattle.klsm_tool.proofs.AllLemmas.{all_go, few_answered}
use Rattle.klsm_tool.proofs.ShownLemmas.{one_item, one_none}
use Rattle.klsm_tool.proofs.member_calls.delete_item_by.Goals as goal

pub returns-in-Some-clause-goes : goal.returns-in-Some-clause-goes
returns-in-Some-clause-goes c =
    let all = c.args.all.now in let after = c.delete_min.new.self in let t = c.args.thread in let told = c.in-Some.ensures in let ok = told.ok in
    let threads = ap (λ (z : Sizes). z.threads) c.requires.of.1 in
    all_go all after t told.same (omega (arith, c.requires.thread, threads)) (Deleted c.in-Some.item ∷ [])
    (one_item may_choose c.args.choice.now c.delete_min.new.picker all.acting.sizes t (steps_for all t) (steps_for after t) c.in-Some.item ok) told.left (omega (arith, told.counts))

pub returns-in-None-clause-goes : goal.returns-in-None-clause-goes
returns-in-None-clause-goes c =
    let all = c.args.all.now in let after = c.delete_min.new.self in let t = c.args.thread in let told = c.in-None.ensures in let ok = told.ok in
    let threads = ap (λ (z : Sizes). z.threads) c.requires.of.1 in
    all_go all after t told.same (omega (arith, c.requires.thread, threads)) (Nothing ∷ [])
    (one_none may_choose c.args.choice.now c.delete_min.new.picker all.acting.sizes t (steps_for all t) (steps_for after t) ok) told.left (omega (arith, told.counts))

pub returns-in-Some-clause-few : goal.returns-in-Some-clause-few
returns-in-Some-clause-few c =
    let all = c.args.all.now in
    subst (λ (z : Sizes). IsFew z.threads z.k (skipped (left_of all) c.in-Some.item)) c.requires.of.1 (few_answered all.acting.sizes (all_lists all) _ c.in-Some.item c.in-Some.ensures.few)

pub returns-in-Some-clause-ok : goal.returns-in-Some-clause-ok
returns-in-Some-clause-ok c =
    let t = c.args.thread in
    subst (λ (z : Sizes). AnswersDeletion may_choose c.args.choice.now c.delete_min.new.picker z t (steps_for c.args.all.now t) (steps_for c.delete_min.new.self t) (Some c.in-Some.item)) c.requires.of.1 c.in-Some.ensures.ok

pub returns-in-None-clause-ok : goal.returns-in-None-clause-ok
returns-in-None-clause-ok c =
    let t = c.args.thread in
    subst (λ (z : Sizes). AnswersDeletion may_choose c.args.choice.now c.delete_min.new.picker z t (steps_for c.args.all.now t) (steps_for c.delete_min.new.self t) None) c.requires.of.1 c.in-None.ensures.ok
