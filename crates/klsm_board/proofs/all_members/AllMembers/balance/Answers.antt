use Rattle.std.proofs.Common.{◌≡◌, ℕ, List, [], arith, ap, subst, lit<, ◌∙◌}
use Rattle.std.specs.Prelude.{None}
use Rattle.klsm_schedules.specs.declared.step.Entry.{Entry}
use Rattle.klsm_board.specs.declared.sizes.Sizes.{Sizes}
use Rattle.klsm_board.specs.Boards.{own_steps}
use Rattle.klsm_board.specs.Stealing.{Balances}
use Rattle.klsm_board.specs.Together.{steps_for, sizes_of_all}
use Rattle.klsm_board.specs.Turning.{lists_known}
use Rattle.klsm_board.proofs.lemmas.ending.LeftLemmas.{counts_more, left_less}
use Rattle.klsm_board.proofs.lemmas.ending.WholeLemmas.{none_holds, own_known, same_known, whole_acted}
use Rattle.klsm_board.proofs.all_members.AllMembers.balance.Goals as goal

pub try_balance-requires : goal.try_balance-requires
try_balance-requires g c =
    let victim = c.requires.victim in let called = c.call.ensures in let threads = ap (λ (z : Sizes). z.threads) called.sizes in
    (lit< tt, (lit< tt, (called.of, (omega (arith, victim.0, threads), λ same. victim.1 (same ∙ called.turn)))))

pub invariant_of-self : goal.invariant_of-self
invariant_of-self g c =
    let all = c.call.new.self in let outcome = c.try_balance.ensures in let threads = ap (λ (z : Sizes). z.threads) outcome.same.1 in
    record { whole = whole_acted all.acting c.try_balance.new.self all.tally.inserted all.tally.deleted outcome.same outcome.others all.whole; empty = all.empty; roomy = omega (arith, threads, all.roomy) }

pub returns-clause-ok : goal.returns-clause-ok
returns-clause-ok g c =
    let all = c.call.new.self in let n = c.args.number in let after = c.try_balance.new.self in let outcome = c.in-Ok.ensures in let called = c.call.ensures in
    let before : own_steps all.acting ≡ steps_for c.args.self.now n = own_known all.acting n called.turn ∙ called.lists n in
    let behind = own_known after n (outcome.same.0 ∙ called.turn) in
    subst (λ (z : Sizes × ℕ × List Entry × List Entry). Balances z.0 z.1 c.args.most c.args.victim z.2 z.3 c.in-Ok.moved)
    (λ i. (called.sizes i, called.turn i, before i, behind i)) outcome.ok

pub returns-clause-left : goal.returns-clause-left
returns-clause-left g c =
    let old = c.args.self.now in let all = c.call.new.self in let after = c.try_balance.new.self in let outcome = c.in-Ok.ensures in let called = c.call.ensures in
    left_less all.acting after (sizes_of_all old) all.tally.inserted all.tally.deleted (lists_known old.acting.sizes.threads old.acting.seat.me.0.lists) None called.sizes outcome.same outcome.others all.whole
    (same_known old.acting.sizes.threads all.acting.seat.me.0.lists old.acting.seat.me.0.lists (λ t below. called.lists t)) outcome.adds

pub returns-clause-counts : goal.returns-clause-counts
returns-clause-counts g c =
    let old = c.args.self.now in let all = c.call.new.self in let outcome = c.in-Ok.ensures in let called = c.call.ensures in let adds = outcome.adds in
    let now = counts_more all.acting c.try_balance.new.self (sizes_of_all old) (lists_known old.acting.sizes.threads old.acting.seat.me.0.lists) [] called.sizes outcome.same outcome.others
    (same_known old.acting.sizes.threads all.acting.seat.me.0.lists old.acting.seat.me.0.lists (λ t below. called.lists t)) adds.inserted_are in
    omega (arith, now)

pub unreachable-requires : goal.unreachable-requires
unreachable-requires g c =
    let all = c.call.new.self in
    none_holds all.acting all.tally.inserted all.tally.deleted (own_steps c.try_balance.new.self) c.in_default.field-0 all.whole c.in_default.ensures.holder
