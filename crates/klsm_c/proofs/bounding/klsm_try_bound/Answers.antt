use Rattle.std.proofs.Common.{rules, ◌≡◌, Ok, Err, sym, ap, ◌∙◌}
use Rattle.std.specs.Prelude.{pos}
use Rattle.klsm_c.specs.Calls.{bound_code, bound_written}
use Rattle.klsm_c.proofs.CallLemmas.{bounds_told}
use Rattle.klsm_c.proofs.bounding.klsm_try_bound.Goals as goal

pub returns-in-Ok : goal.returns-in-Ok
returns-in-Ok c =
    let answer = c.try_bound.result in let is : answer ≡ Ok c.in-Ok.found = search rules in
    bounds_told _ _ c.in-Some.member.now c.try_bound.new.self c.args.bound.now c.of.result (pos 0) answer
    c.in-Some.ensures.value (rw c.in-Some.is at (c.member_mut.follows.holds c.try_bound.new.self)) c.try_bound.ensures.same c.try_bound.ensures.tries
    (sym (ap bound_code is)) (c.of.ensures ∙ sym (ap (bound_written c.args.bound.now) is))

pub returns-in-Err : goal.returns-in-Err
returns-in-Err c =
    let answer = c.try_bound.result in let is : answer ≡ Err c.in-Err.field-0 = search rules in
    bounds_told _ _ c.in-Some.member.now c.try_bound.new.self c.args.bound.now c.args.bound.now (pos 2) answer
    c.in-Some.ensures.value (rw c.in-Some.is at (c.member_mut.follows.holds c.try_bound.new.self)) c.try_bound.ensures.same c.try_bound.ensures.tries
    (sym (ap bound_code is)) (sym (ap (bound_written c.args.bound.now) is))
