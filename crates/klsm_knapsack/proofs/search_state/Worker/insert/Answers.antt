use Rattle.std.proofs.Common.{◌≡◌, ◌∙◌, inl, inr, length, refl, rules, subst}
use Rattle.std.proofs.lemmas.List.{append-nil}
use Rattle.klsm_run.specs.declared.item.Item.{Item}
use Rattle.klsm_schedules.specs.OwnSteps.{inserted}
use Rattle.klsm_board.specs.declared.errors.InsertError.TheVariants as insert
use Rattle.klsm_board.specs.Boards.{own_steps}
use Rattle.klsm_board.specs.Inserting.{RefusesInsertWaiting}
use Rattle.klsm_knapsack.specs.Courses.{CallsOfWorker}
use Rattle.klsm_knapsack.specs.Work.{IsNodeItem}
use Rattle.klsm_knapsack.proofs.AnswerLemmas.{insertion_gains, refusal_gains}
use Rattle.klsm_knapsack.proofs.CourseLemmas.{one_call}
use Rattle.klsm_knapsack.proofs.search_state.Worker.insert.Goals as goal

pub returns-in-Ok-clause-same : goal.returns-in-Ok-clause-same
returns-in-Ok-clause-same g c = record { member = c.in-Ok.ensures.same; seat = refl }

pub returns-in-Ok-clause-inserts : goal.returns-in-Ok-clause-inserts
returns-in-Ok-clause-inserts g c =
    let x : Item = record { key = c.key_of-key.result; stamp = c.in-Ok.field-0; load = c.load_of-load.result } in
    let load = c.load_of-load.ensures in
    let node : IsNodeItem c.args.instance.now x = record {
      node = rw (load.level, load.picks) c.requires.node.is_node;
      key = rw (load.level, load.picks) c.key_of-key.ensures;
    } in
    (x, node, load.level, load.picks, c.in-Ok.ensures.adds.inserted_are)

pub returns-in-Ok-clause-gains : goal.returns-in-Ok-clause-gains
returns-in-Ok-clause-gains g c =
    let ok = c.in-Ok.ensures.ok in
    insertion_gains _ _ _ _ _ _ ok

pub returns-in-Err-Full-clause-same : goal.returns-in-Err-Full-clause-same
returns-in-Err-Full-clause-same g c = record { member = c.in-Err-Full.ensures.same; seat = refl }

pub returns-in-Err-Full-clause-refuses : goal.returns-in-Err-Full-clause-refuses
returns-in-Err-Full-clause-refuses g c = c.in-Err-Full.ensures.refused.0.inserted_are ∙ append-nil _

pub returns-in-Err-Full-clause-deletes : goal.returns-in-Err-Full-clause-deletes
returns-in-Err-Full-clause-deletes g c = c.in-Err-Full.ensures.refused.0.deleted_are ∙ append-nil _

pub returns-in-Err-Full-clause-gains : goal.returns-in-Err-Full-clause-gains
returns-in-Err-Full-clause-gains g c =
    let refused = rw c.in-Err-Full.field-0-is at c.in-Err-Full.ensures.refused.1 in
    refusal_gains _ _ _ _ _ refused

pub returns-in-Err-NoMemory-clause-refuses : goal.returns-in-Err-NoMemory-clause-refuses
returns-in-Err-NoMemory-clause-refuses g c = c.in-Err-NoMemory.ensures.refused.0.inserted_are ∙ append-nil _

pub returns-in-Err-NoMemory-clause-deletes : goal.returns-in-Err-NoMemory-clause-deletes
returns-in-Err-NoMemory-clause-deletes g c = c.in-Err-NoMemory.ensures.refused.0.deleted_are ∙ append-nil _

pub returns-in-Err-NoMemory-clause-gains : goal.returns-in-Err-NoMemory-clause-gains
returns-in-Err-NoMemory-clause-gains g c =
    let refused = rw c.in-Err-NoMemory.field-0-is at c.in-Err-NoMemory.ensures.refused.1 in
    refusal_gains _ _ _ _ _ refused

pub returns-in-Err-NoMemory-clause-same : goal.returns-in-Err-NoMemory-clause-same
returns-in-Err-NoMemory-clause-same g c = record { member = c.in-Err-NoMemory.ensures.same; seat = refl }

pub returns-in-Err-NoMemory-clause-refused : goal.returns-in-Err-NoMemory-clause-refused
returns-in-Err-NoMemory-clause-refused g c = search rules

pub unreachable-unreachable : goal.unreachable-unreachable
unreachable-unreachable g c = c.unreachable.type_inv

pub returns-in-Ok-clause-course : goal.returns-in-Ok-clause-course
returns-in-Ok-clause-course g c first on =
    let me = c.args.self.now.member in let picker = c.args.self.now.picker in
    let x : Item = record { key = c.key_of-key.result; stamp = c.in-Ok.field-0; load = c.load_of-load.result } in
    one_call (CallsOfWorker g.row.LEVELS me.sizes me.number) first picker picker (own_steps me) (own_steps c.insert.new.self) on (inl (inl (x, c.in-Ok.ensures.ok), refl))

pub returns-in-Err-Full-clause-course : goal.returns-in-Err-Full-clause-course
returns-in-Err-Full-clause-course g c first on =
    let me = c.args.self.now.member in let picker = c.args.self.now.picker in let spent : Type 0 = length (inserted (own_steps me)) ≡ me.sizes.quota in
    let refused = subst (RefusesInsertWaiting spent g.row.LEVELS me.sizes.k me.number (own_steps me) (own_steps c.insert.new.self)) c.in-Err-Full.field-0-is c.in-Err-Full.ensures.refused.1 in
    one_call (CallsOfWorker g.row.LEVELS me.sizes me.number) first picker picker (own_steps me) (own_steps c.insert.new.self) on (inl (inr (insert.Full, refused), refl))

pub returns-in-Err-NoMemory-clause-course : goal.returns-in-Err-NoMemory-clause-course
returns-in-Err-NoMemory-clause-course g c first on =
    let me = c.args.self.now.member in let picker = c.args.self.now.picker in let spent : Type 0 = length (inserted (own_steps me)) ≡ me.sizes.quota in
    let refused = subst (RefusesInsertWaiting spent g.row.LEVELS me.sizes.k me.number (own_steps me) (own_steps c.insert.new.self)) c.in-Err-NoMemory.field-0-is c.in-Err-NoMemory.ensures.refused.1 in
    one_call (CallsOfWorker g.row.LEVELS me.sizes me.number) first picker picker (own_steps me) (own_steps c.insert.new.self) on (inl (inr (insert.NoMemory, refused), refl))
