use Rattle.std.proofs.Common.{rules, ◌≡◌, Ok, Err, sym, ap}
use Rattle.std.specs.Prelude.{pos}
use Rattle.klsm_board.specs.declared.errors.TryInsertError.TheVariants.{Spent, Busy, Full, NoMemory}
use Rattle.klsm_c.specs.Calls.{insert_code}
use Rattle.klsm_c.proofs.CallLemmas.{inserts_told}
use Rattle.klsm_c.proofs.calls.klsm_try_insert.Goals as goal

pub returns-in-Ok : goal.returns-in-Ok
returns-in-Ok c =
    let answer = c.try_insert.result in let is : answer ≡ Ok c.in-Ok.field-0 = search rules in
    inserts_told _ _ c.in-Some.member.now c.try_insert.new.self c.args.key c.args.load (pos 0) answer
    c.in-Some.ensures.value (rw c.in-Some.is at (c.member_mut.follows.holds c.try_insert.new.self)) c.try_insert.ensures.same c.try_insert.ensures.tries
    (sym (ap insert_code is))

pub returns-in-Err-Busy : goal.returns-in-Err-Busy
returns-in-Err-Busy c =
    let answer = c.try_insert.result in let is : answer ≡ Err (Busy c.in-Err-Busy.field-0-0) = search rules in
    inserts_told _ _ c.in-Some.member.now c.try_insert.new.self c.args.key c.args.load (pos 2) answer
    c.in-Some.ensures.value (rw c.in-Some.is at (c.member_mut.follows.holds c.try_insert.new.self)) c.try_insert.ensures.same c.try_insert.ensures.tries
    (sym (ap insert_code is))

pub returns-in-Err-Full : goal.returns-in-Err-Full
returns-in-Err-Full c =
    let answer = c.try_insert.result in let is : answer ≡ Err Full = search rules in
    inserts_told _ _ c.in-Some.member.now c.try_insert.new.self c.args.key c.args.load (pos 3) answer
    c.in-Some.ensures.value (rw c.in-Some.is at (c.member_mut.follows.holds c.try_insert.new.self)) c.try_insert.ensures.same c.try_insert.ensures.tries
    (sym (ap insert_code is))

pub returns-in-Err-NoMemory : goal.returns-in-Err-NoMemory
returns-in-Err-NoMemory c =
    let answer = c.try_insert.result in let is : answer ≡ Err NoMemory = search rules in
    inserts_told _ _ c.in-Some.member.now c.try_insert.new.self c.args.key c.args.load (pos 4) answer
    c.in-Some.ensures.value (rw c.in-Some.is at (c.member_mut.follows.holds c.try_insert.new.self)) c.try_insert.ensures.same c.try_insert.ensures.tries
    (sym (ap insert_code is))

pub returns-in-Err-Spent : goal.returns-in-Err-Spent
returns-in-Err-Spent c =
    let answer = c.try_insert.result in let is : answer ≡ Err Spent = search rules in
    inserts_told _ _ c.in-Some.member.now c.try_insert.new.self c.args.key c.args.load (pos 5) answer
    c.in-Some.ensures.value (rw c.in-Some.is at (c.member_mut.follows.holds c.try_insert.new.self)) c.try_insert.ensures.same c.try_insert.ensures.tries
    (sym (ap insert_code is))
