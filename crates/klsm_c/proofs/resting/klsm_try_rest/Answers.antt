use Rattle.std.proofs.Common.{rules, ◌≡◌, Ok, Err, sym, ap}
use Rattle.std.specs.Prelude.{pos}
use Rattle.klsm_c.specs.Calls.{rest_code}
use Rattle.klsm_c.proofs.CallLemmas.{rests_told}
use Rattle.klsm_c.proofs.resting.klsm_try_rest.Goals as goal

pub returns-in-Ok : goal.returns-in-Ok
returns-in-Ok c =
    let answer = c.try_rest.result in let is : answer ≡ Ok tt = search rules in
    rests_told _ _ c.in-Some.member.now c.try_rest.new.self (pos 0) answer
    c.in-Some.ensures.value (rw c.in-Some.is at (c.member_mut.follows.holds c.try_rest.new.self)) c.try_rest.ensures.same c.try_rest.ensures.tries
    (sym (ap rest_code is))

pub returns-in-Err : goal.returns-in-Err
returns-in-Err c =
    let answer = c.try_rest.result in let is : answer ≡ Err c.in-Err.field-0 = search rules in
    rests_told _ _ c.in-Some.member.now c.try_rest.new.self (pos 2) answer
    c.in-Some.ensures.value (rw c.in-Some.is at (c.member_mut.follows.holds c.try_rest.new.self)) c.try_rest.ensures.same c.try_rest.ensures.tries
    (sym (ap rest_code is))
