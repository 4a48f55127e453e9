use Rattle.std.proofs.Common.{◌≡◌, length, subst}
use Rattle.klsm_schedules.specs.OwnSteps.{inserted}
use Rattle.klsm_board.specs.Inserting.{RefusesInsertWaiting}
use Rattle.klsm_board.specs.declared.errors.InsertError.TheVariants as insert
use Rattle.klsm_board.specs.Boards.{own_steps}
use Rattle.klsm_tool.proofs.ShownLemmas.{insertion_shows, refusal_shows}
use Rattle.klsm_tool.proofs.member_calls.insert.Goals as goal

pub returns-in-Ok-clause-shown : goal.returns-in-Ok-clause-shown
returns-in-Ok-clause-shown g c =
    let me = c.args.member.now in let told = c.in-Ok.ensures.ok in
    insertion_shows g.row.LEVELS me.sizes.k me.number (own_steps me) (own_steps c.insert.new.self) _ told

pub returns-in-Ok-clause-inserts : goal.returns-in-Ok-clause-inserts
returns-in-Ok-clause-inserts g c = c.in-Ok.ensures.ok

pub returns-in-Err-Full-clause-refused : goal.returns-in-Err-Full-clause-refused
returns-in-Err-Full-clause-refused g c =
    let me = c.args.member.now in let spent : Type 0 = length (inserted (own_steps me)) ≡ me.sizes.quota in
    let told = subst (RefusesInsertWaiting spent g.row.LEVELS me.sizes.k me.number (own_steps me) (own_steps c.insert.new.self)) c.in-Err-Full.field-0-is c.in-Err-Full.ensures.refused.1 in
    (refusal_shows g.row.LEVELS me.sizes.k me.number (own_steps me) (own_steps c.insert.new.self) insert.Full told, (own_steps me, told))

pub returns-in-Err-NoMemory-clause-refused : goal.returns-in-Err-NoMemory-clause-refused
returns-in-Err-NoMemory-clause-refused g c =
    let me = c.args.member.now in let spent : Type 0 = length (inserted (own_steps me)) ≡ me.sizes.quota in
    let told = subst (RefusesInsertWaiting spent g.row.LEVELS me.sizes.k me.number (own_steps me) (own_steps c.insert.new.self)) c.in-Err-NoMemory.field-0-is c.in-Err-NoMemory.ensures.refused.1 in
    (refusal_shows g.row.LEVELS me.sizes.k me.number (own_steps me) (own_steps c.insert.new.self) insert.NoMemory told, tt)

pub unreachable-unreachable : goal.unreachable-unreachable
unreachable-unreachable g c = c.unreachable.type_inv
