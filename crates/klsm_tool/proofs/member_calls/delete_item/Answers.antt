use Rattle.klsm_parts.specs.Choices.{may_choose}
use Rattle.klsm_board.specs.Boards.{own_steps}
use Rattle.klsm_tool.proofs.ShownLemmas.{item_shows, none_shows}
use Rattle.klsm_tool.proofs.member_calls.delete_item.Goals as goal

pub returns-in-Some-clause-shown : goal.returns-in-Some-clause-shown
returns-in-Some-clause-shown g c =
    let me = c.args.member.now in let told = c.in-Some.ensures.ok in
    item_shows may_choose c.args.choice.now c.delete_min.new.picker me.sizes me.number (own_steps me) (own_steps c.delete_min.new.self) c.in-Some.item told

pub returns-in-None-clause-shown : goal.returns-in-None-clause-shown
returns-in-None-clause-shown g c =
    let me = c.args.member.now in let told = c.in-None.ensures.ok in
    none_shows may_choose c.args.choice.now c.delete_min.new.picker me.sizes me.number (own_steps me) (own_steps c.delete_min.new.self) told

pub returns-in-Some-clause-ok : goal.returns-in-Some-clause-ok
returns-in-Some-clause-ok g c = c.in-Some.ensures.ok

pub returns-in-None-clause-ok : goal.returns-in-None-clause-ok
returns-in-None-clause-ok g c = c.in-None.ensures.ok
