use Rattle.std.proofs.Common.{◌∷◌, ◌++◌, [], ℕ, ap, subst, ◌∙◌}
use Rattle.klsm_parts.specs.Choices.{may_choose}
use Rattle.klsm_board.specs.declared.sizes.Sizes.{Sizes}
use Rattle.klsm_board.specs.Balancing.{after_deletion, victim_now}
use Rattle.klsm_board.specs.Boards.{own_steps}
use Rattle.klsm_board.specs.Deleting.{AnswersWaiting}
use Rattle.klsm_tool.specs.Courses.{item_of}
use Rattle.klsm_tool.proofs.ShownLemmas.{balanced_shows}
use Rattle.klsm_tool.proofs.member_calls.delete.Goals as goal

pub returns-clause-same : goal.returns-clause-same
returns-clause-same g c =
    let first = c.balance.ensures.same in let later = c.delete_item-answer.ensures.same in
    (later.0 ∙ first.0, later.1 ∙ first.1, later.2 ∙ first.2)

pub returns-clause-shown : goal.returns-clause-shown
returns-clause-shown g c =
    let me = c.args.member.now in let between = c.balance.new.member in let victim = victim_now c.args.picker.now.balancing me.number me.sizes.threads in
    let quiet = balanced_shows me.sizes me.number victim (own_steps me) (own_steps between) c.balance.ensures.balances in
    c.delete_item-answer.ensures.shown ∙ ap (λ z. z ++ c.delete_item-answer.result ∷ []) quiet

pub returns-clause-deletes : goal.returns-clause-deletes
returns-clause-deletes g c =
    let me = c.args.member.now in let between = c.balance.new.member in let now = c.delete_item-answer.new.member in let same = c.balance.ensures.same in
    let choice = c.args.picker.now.choice in let picked = c.delete_item-answer.new.choice in let item = item_of c.delete_item-answer.result in
    record {
      balanced = own_steps between;
      first = c.balance.ensures.balances;
      deletes = subst (λ (z : Sizes × ℕ). AnswersWaiting may_choose choice picked z.0 z.1 (own_steps between) (own_steps now) item) (λ i. (same.1 i, same.0 i)) c.delete_item-answer.ensures.ok;
      counted = c.count_deletion.ensures ∙ ap after_deletion c.balance.ensures.turn;
    }
