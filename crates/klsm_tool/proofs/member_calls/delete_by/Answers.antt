use Rattle.std.proofs.Common.{List, ◌∷◌, [], ap, subst, ◌∙◌}
use Rattle.klsm_run.specs.declared.item.Item.{Item}
use Rattle.klsm_board.specs.Balancing.{after_deletion}
use Rattle.klsm_board.specs.Together.{all_lists, steps_for}
use Rattle.klsm_text.specs.AnswerText.{skip_of}
use Rattle.klsm_tool.specs.Shown.{IsFew}
use Rattle.klsm_tool.proofs.AllLemmas.{goes_then}
use Rattle.klsm_tool.proofs.member_calls.delete_by.Goals as goal

pub returns-clause-goes : goal.returns-clause-goes
returns-clause-goes c =
    goes_then c.args.thread (all_lists c.args.all.now) (all_lists c.balance_by.new.all) (all_lists c.delete_item_by-answer.new.all) (c.delete_item_by-answer.result ∷ []) c.balance_by.ensures.goes c.delete_item_by-answer.ensures.goes

pub returns-clause-few : goal.returns-clause-few
returns-clause-few c =
    let sizes = c.args.board.now.sizes in
    subst (λ (left : List Item). IsFew sizes.threads sizes.k (skip_of left c.delete_item_by-answer.result)) c.balance_by.ensures.goes.left_is c.delete_item_by-answer.ensures.few

pub returns-clause-deletes : goal.returns-clause-deletes
returns-clause-deletes c = record {
  balanced = steps_for c.balance_by.new.all c.args.thread;
  first = c.balance_by.ensures.balances;
  deletes = c.delete_item_by-answer.ensures.ok;
  counted = c.count_deletion.ensures ∙ ap after_deletion c.balance_by.ensures.turn;
}
