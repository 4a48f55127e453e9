use Rattle.std.proofs.Common.{◌≡◌, ℕ, List, [], ◌∷◌, arith, length, sym, ap, subst, ◌∙◌}
use Rattle.std.specs.Prelude.{None}
use Rattle.klsm_schedules.specs.declared.step.Entry.{Entry}
use Rattle.klsm_board.specs.declared.errors.TryInsertError.{TryInsertError}
use Rattle.klsm_board.specs.declared.sizes.Sizes.{Sizes}
use Rattle.klsm_schedules.specs.OwnSteps.{inserted}
use Rattle.klsm_board.specs.Boards.{Gains, own_steps}
use Rattle.klsm_board.specs.Inserting.{Inserts, RefusesInsert, as_tried, stamped}
use Rattle.klsm_board.specs.Together.{sizes_of_all, steps_for}
use Rattle.klsm_board.specs.Turning.{lists_known}
use Rattle.klsm_board.proofs.lemmas.calls.MissLemmas.{only_spent}
use Rattle.klsm_board.proofs.lemmas.ending.FullLemmas.{full_of_all}
use Rattle.klsm_board.proofs.lemmas.ending.LeftLemmas.{counts_more, left_less, left_more}
use Rattle.klsm_board.proofs.lemmas.ending.WholeLemmas.{none_holds, own_known, same_known, whole_acted}
use Rattle.klsm_board.proofs.all_members.AllMembers.insert.Goals as goal

pub invariant_of-self : goal.invariant_of-self
invariant_of-self g c =
    let all = c.call.new.self in let outcome = c.try_insert.ensures in let threads = ap (λ (z : Sizes). z.threads) outcome.same.1 in
    record { whole = whole_acted all.acting c.try_insert.new.self all.tally.inserted all.tally.deleted outcome.same outcome.others all.whole; empty = all.empty; roomy = omega (arith, threads, all.roomy) }

pub refusal_of-requires : goal.refusal_of-requires
refusal_of-requires g c =
    let all = c.call.new.self in record {
      free = λ busy is. none_holds all.acting all.tally.inserted all.tally.deleted (own_steps c.try_insert.new.self) busy all.whole (c.in-Err.ensures.holder busy is);
    }

pub returns-in-Ok-clause-ok : goal.returns-in-Ok-clause-ok
returns-in-Ok-clause-ok g c =
    let all = c.call.new.self in let n = c.args.number in let after = c.try_insert.new.self in let outcome = c.in-Ok.ensures in let called = c.call.ensures in
    let before : own_steps all.acting ≡ steps_for c.args.self.now n = own_known all.acting n called.turn ∙ called.lists n in
    let behind = own_known after n (outcome.same.0 ∙ called.turn) in
    subst (λ (z : Sizes × ℕ × List Entry × List Entry). Inserts g.row.LEVELS z.0.k z.1 z.2 z.3 (stamped c.args.key c.in-Ok.stamp c.args.load))
    (λ i. (called.sizes i, called.turn i, before i, behind i)) outcome.ok

pub returns-in-Ok-clause-left : goal.returns-in-Ok-clause-left
returns-in-Ok-clause-left g c =
    let old = c.args.self.now in let all = c.call.new.self in let before = all.acting in let outcome = c.in-Ok.ensures in let called = c.call.ensures in
    let known = same_known old.acting.sizes.threads before.seat.me.0.lists old.acting.seat.me.0.lists (λ t below. called.lists t) in
    left_more before c.try_insert.new.self (sizes_of_all old) all.tally.inserted all.tally.deleted (lists_known old.acting.sizes.threads old.acting.seat.me.0.lists) (stamped c.args.key c.in-Ok.stamp c.args.load ∷ []) called.sizes outcome.same outcome.others all.whole known outcome.adds

pub returns-in-Ok-clause-counts : goal.returns-in-Ok-clause-counts
returns-in-Ok-clause-counts g c =
    let old = c.args.self.now in let all = c.call.new.self in let before = all.acting in let outcome = c.in-Ok.ensures in let called = c.call.ensures in let adds = outcome.adds in
    let known = same_known old.acting.sizes.threads before.seat.me.0.lists old.acting.seat.me.0.lists (λ t below. called.lists t) in
    counts_more before c.try_insert.new.self (sizes_of_all old) (lists_known old.acting.sizes.threads old.acting.seat.me.0.lists) (stamped c.args.key c.in-Ok.stamp c.args.load ∷ []) called.sizes outcome.same outcome.others known adds.inserted_are

pub returns-in-Ok-clause-spent : goal.returns-in-Ok-clause-spent
returns-in-Ok-clause-spent g c =
    let all = c.call.new.self in let n = c.args.number in let called = c.call.ensures in
    let before : own_steps all.acting ≡ steps_for c.args.self.now n = own_known all.acting n called.turn ∙ called.lists n in (
      λ no. absurd no,
      λ full. c.in-Ok.ensures.spent.1 (subst (λ (z : Sizes × List Entry). length (inserted z.1) ≡ z.0.quota) (λ i. (sym called.sizes i, sym before i)) full),
    )

pub returns-in-Err-clause-refused : goal.returns-in-Err-clause-refused
returns-in-Err-clause-refused g c =
    let all = c.call.new.self in let n = c.args.number in let after = c.try_insert.new.self in let told = c.in-Err.ensures in let called = c.call.ensures in
    let before : own_steps all.acting ≡ steps_for c.args.self.now n = own_known all.acting n called.turn ∙ called.lists n in
    let behind = own_known after n (told.same.0 ∙ called.turn) in let is = c.refusal_of.ensures in
    subst
    (λ (z : Sizes × ℕ × List Entry × List Entry × TryInsertError). Gains z.2 z.3 [] [] × RefusesInsert (length (inserted z.2) ≡ z.0.quota) g.row.LEVELS z.0.k z.1 z.2 z.3 z.4)
    (λ i. (called.sizes i, called.turn i, before i, behind i, sym is i)) told.refused

pub returns-in-Err-clause-spent : goal.returns-in-Err-clause-spent
returns-in-Err-clause-spent g c =
    let all = c.call.new.self in let n = c.args.number in let called = c.call.ensures in let spent = c.in-Err.ensures.spent in let is = c.refusal_of.ensures in
    let before : own_steps all.acting ≡ steps_for c.args.self.now n = own_known all.acting n called.turn ∙ called.lists n in (
      λ same. subst (λ (z : Sizes × List Entry). length (inserted z.1) ≡ z.0.quota) (λ i. (called.sizes i, before i)) (spent.0 (sym is ∙ ap as_tried same)),
      λ full. only_spent c.refusal_of.result (is ∙ spent.1 (subst (λ (z : Sizes × List Entry). length (inserted z.1) ≡ z.0.quota) (λ i. (sym called.sizes i, sym before i)) full)),
    )

pub returns-in-Err-clause-full : goal.returns-in-Err-clause-full
returns-in-Err-clause-full g c same =
    let old = c.args.self.now in let all = c.call.new.self in let before = all.acting in let after = c.try_insert.new.self in let told = c.in-Err.ensures in let called = c.call.ensures in
    let known = same_known old.acting.sizes.threads before.seat.me.0.lists old.acting.seat.me.0.lists (λ t below. called.lists t) in
    let up = subst (RefusesInsert (length (inserted (own_steps before)) ≡ before.sizes.quota) g.row.LEVELS before.sizes.k before.number (own_steps before) (own_steps after)) (sym c.refusal_of.ensures ∙ ap as_tried same) told.refused.1 in
    full_of_all before after (sizes_of_all old) all.tally.inserted all.tally.deleted (lists_known old.acting.sizes.threads old.acting.seat.me.0.lists) (own_steps before) called.sizes told.same told.others all.whole known told.refused.0 up

pub returns-in-Err-clause-left_alone : goal.returns-in-Err-clause-left_alone
returns-in-Err-clause-left_alone g c =
    let old = c.args.self.now in let all = c.call.new.self in let before = all.acting in let told = c.in-Err.ensures in let called = c.call.ensures in
    let known = same_known old.acting.sizes.threads before.seat.me.0.lists old.acting.seat.me.0.lists (λ t below. called.lists t) in
    left_less before c.try_insert.new.self (sizes_of_all old) all.tally.inserted all.tally.deleted (lists_known old.acting.sizes.threads old.acting.seat.me.0.lists) None called.sizes told.same told.others all.whole known told.refused.0

pub returns-in-Err-clause-counts_alone : goal.returns-in-Err-clause-counts_alone
returns-in-Err-clause-counts_alone g c =
    let old = c.args.self.now in let all = c.call.new.self in let before = all.acting in let told = c.in-Err.ensures in let called = c.call.ensures in let gains = told.refused.0 in
    let known = same_known old.acting.sizes.threads before.seat.me.0.lists old.acting.seat.me.0.lists (λ t below. called.lists t) in
    let now = counts_more before c.try_insert.new.self (sizes_of_all old) (lists_known old.acting.sizes.threads old.acting.seat.me.0.lists) [] called.sizes told.same told.others known gains.inserted_are in omega (arith, now)
