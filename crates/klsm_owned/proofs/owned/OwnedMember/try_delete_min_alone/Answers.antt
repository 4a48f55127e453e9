use Rattle.std.proofs.Common.{ℕ, ap, subst, ◌∙◌}
use Rattle.std.specs.Option.{option_to_list}
use Rattle.klsm_parts.specs.declared.choice.Choice.{Choice}
use Rattle.klsm_parts.specs.Choices.{may_choose}
use Rattle.klsm_board.specs.declared.sizes.Sizes.{Sizes}
use Rattle.klsm_board.specs.Balancing.{after_deletion}
use Rattle.klsm_board.specs.Boards.{own_steps}
use Rattle.klsm_board.specs.Deleting.{AnswersDeletion, moving_at_most}
use Rattle.klsm_owned.proofs.OwnedLemmas.{gains_on}
use Rattle.klsm_owned.proofs.owned.OwnedMember.try_delete_min_alone.Goals as goal

pub returns-clause-tries : goal.returns-clause-tries
returns-clause-tries c =
    let before = c.args.self.now.member in let between = c.balance.new.self.member in let now = c.try_delete_min_alone.new.self in
    let same = c.balance.ensures.same.member in let first = c.balance.ensures.balances in
    let picked = c.try_delete_min_alone.new.picker in let answer = c.in_ok-answer.answer in
    record {
      balanced = own_steps between;
      first = first.first;
      ok = subst (λ (p : Choice). AnswersDeletion may_choose p picked (moving_at_most 0 before.sizes) before.number (own_steps between) (own_steps now) answer) first.choice
          (subst (λ (n : ℕ). AnswersDeletion may_choose c.balance.new.self.choice picked (moving_at_most 0 before.sizes) n (own_steps between) (own_steps now) answer) same.0
          (subst (λ (m : Sizes). AnswersDeletion may_choose c.balance.new.self.choice picked (moving_at_most 0 m) between.number (own_steps between) (own_steps now) answer) same.1 c.in_ok-answer.ensures.ok));
      counted = c.count_deletion.ensures ∙ ap after_deletion first.balancing;
      adds = gains_on (own_steps before) (own_steps between) (own_steps now) (option_to_list answer) first.adds c.in_ok-answer.ensures.adds;
      busy = tt;
    }
