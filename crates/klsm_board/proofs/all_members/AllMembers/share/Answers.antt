use Rattle.std.proofs.Common.{◌≡◌, ℕ, List, [], arith, sym, ap, subst, ◌∙◌}
use Rattle.std.specs.Prelude.{None}
use Rattle.klsm_schedules.specs.declared.step.Entry.{Entry}
use Rattle.klsm_board.specs.declared.errors.TryShareError.{TryShareError}
use Rattle.klsm_board.specs.declared.sizes.Sizes.{Sizes}
use Rattle.klsm_board.specs.Boards.{Gains, own_steps}
use Rattle.klsm_board.specs.Sharing.{RefusesShare, Shares}
use Rattle.klsm_board.specs.Together.{sizes_of_all, steps_for}
use Rattle.klsm_board.specs.Turning.{lists_known}
use Rattle.klsm_board.proofs.lemmas.ending.LeftLemmas.{counts_more, left_less}
use Rattle.klsm_board.proofs.lemmas.ending.WholeLemmas.{none_holds, own_known, same_known, whole_acted}
use Rattle.klsm_board.proofs.all_members.AllMembers.share.Goals as goal

pub invariant_of-self : goal.invariant_of-self
invariant_of-self g c =
    let all = c.call.new.self in let outcome = c.try_share.ensures in let threads = ap (λ (z : Sizes). z.threads) outcome.same.1 in
    record { whole = whole_acted all.acting c.try_share.new.self all.tally.inserted all.tally.deleted outcome.same outcome.others all.whole; empty = all.empty; roomy = omega (arith, threads, all.roomy) }

pub share_refusal_of-requires : goal.share_refusal_of-requires
share_refusal_of-requires g c =
    let all = c.call.new.self in record {
      free = λ busy is. none_holds all.acting all.tally.inserted all.tally.deleted (own_steps c.try_share.new.self) busy all.whole (c.in-Err.ensures.holder busy is);
    }

pub returns-in-Ok-clause-ok : goal.returns-in-Ok-clause-ok
returns-in-Ok-clause-ok g c =
    let all = c.call.new.self in let n = c.args.number in let after = c.try_share.new.self in let outcome = c.in-Ok.ensures in let called = c.call.ensures in
    let before : own_steps all.acting ≡ steps_for c.args.self.now n = own_known all.acting n called.turn ∙ called.lists n in
    let behind = own_known after n (outcome.same.0 ∙ called.turn) in
    subst (λ (z : ℕ × List Entry × List Entry). Shares g.row.LEVELS z.0 z.1 z.2 c.in-Ok.count) (λ i. (called.turn i, before i, behind i)) outcome.ok

pub returns-in-Ok-clause-adds : goal.returns-in-Ok-clause-adds
returns-in-Ok-clause-adds g c =
    let all = c.call.new.self in let n = c.args.number in let after = c.try_share.new.self in let outcome = c.in-Ok.ensures in let called = c.call.ensures in
    let before : own_steps all.acting ≡ steps_for c.args.self.now n = own_known all.acting n called.turn ∙ called.lists n in
    let behind = own_known after n (outcome.same.0 ∙ called.turn) in
    subst (λ (z : List Entry × List Entry). Gains z.0 z.1 [] []) (λ i. (before i, behind i)) outcome.adds

pub returns-in-Ok-clause-left : goal.returns-in-Ok-clause-left
returns-in-Ok-clause-left g c =
    let old = c.args.self.now in let all = c.call.new.self in let outcome = c.in-Ok.ensures in let called = c.call.ensures in
    left_less all.acting c.try_share.new.self (sizes_of_all old) all.tally.inserted all.tally.deleted (lists_known old.acting.sizes.threads old.acting.seat.me.0.lists) None called.sizes outcome.same outcome.others all.whole
    (same_known old.acting.sizes.threads all.acting.seat.me.0.lists old.acting.seat.me.0.lists (λ t below. called.lists t)) outcome.adds

pub returns-in-Ok-clause-counts : goal.returns-in-Ok-clause-counts
returns-in-Ok-clause-counts g c =
    let old = c.args.self.now in let all = c.call.new.self in let outcome = c.in-Ok.ensures in let called = c.call.ensures in let adds = outcome.adds in
    let now = counts_more all.acting c.try_share.new.self (sizes_of_all old) (lists_known old.acting.sizes.threads old.acting.seat.me.0.lists) [] called.sizes outcome.same outcome.others
    (same_known old.acting.sizes.threads all.acting.seat.me.0.lists old.acting.seat.me.0.lists (λ t below. called.lists t)) adds.inserted_are in
    omega (arith, now)

pub returns-in-Err-clause-refused : goal.returns-in-Err-clause-refused
returns-in-Err-clause-refused g c =
    let all = c.call.new.self in let n = c.args.number in let after = c.try_share.new.self in let told = c.in-Err.ensures in let called = c.call.ensures in
    let before : own_steps all.acting ≡ steps_for c.args.self.now n = own_known all.acting n called.turn ∙ called.lists n in
    let behind = own_known after n (told.same.0 ∙ called.turn) in let is = c.share_refusal_of.ensures in
    subst (λ (z : ℕ × List Entry × List Entry × TryShareError). RefusesShare g.row.LEVELS z.0 z.1 z.2 z.3) (λ i. (called.turn i, before i, behind i, sym is i)) told.refused

pub returns-in-Err-clause-adds : goal.returns-in-Err-clause-adds
returns-in-Err-clause-adds g c =
    let all = c.call.new.self in let n = c.args.number in let after = c.try_share.new.self in let told = c.in-Err.ensures in let called = c.call.ensures in
    let before : own_steps all.acting ≡ steps_for c.args.self.now n = own_known all.acting n called.turn ∙ called.lists n in
    let behind = own_known after n (told.same.0 ∙ called.turn) in
    subst (λ (z : List Entry × List Entry). Gains z.0 z.1 [] []) (λ i. (before i, behind i)) told.adds

pub returns-in-Err-clause-left : goal.returns-in-Err-clause-left
returns-in-Err-clause-left g c =
    let old = c.args.self.now in let all = c.call.new.self in let told = c.in-Err.ensures in let called = c.call.ensures in
    left_less all.acting c.try_share.new.self (sizes_of_all old) all.tally.inserted all.tally.deleted (lists_known old.acting.sizes.threads old.acting.seat.me.0.lists) None called.sizes told.same told.others all.whole
    (same_known old.acting.sizes.threads all.acting.seat.me.0.lists old.acting.seat.me.0.lists (λ t below. called.lists t)) told.adds

pub returns-in-Err-clause-counts : goal.returns-in-Err-clause-counts
returns-in-Err-clause-counts g c =
    let old = c.args.self.now in let all = c.call.new.self in let told = c.in-Err.ensures in let called = c.call.ensures in let adds = told.adds in
    let now = counts_more all.acting c.try_share.new.self (sizes_of_all old) (lists_known old.acting.sizes.threads old.acting.seat.me.0.lists) [] called.sizes told.same told.others
    (same_known old.acting.sizes.threads all.acting.seat.me.0.lists old.acting.seat.me.0.lists (λ t below. called.lists t)) adds.inserted_are in
    omega (arith, now)
