use Rattle.std.proofs.Common.{rules, ◌≡◌, Ok, Err, Some, None, sym, ap, ◌∙◌}
use Rattle.std.specs.Prelude.{pos}
use Rattle.klsm_c.specs.Calls.{delete_code, written}
use Rattle.klsm_c.proofs.CallLemmas.{deletes_alone_told}
use Rattle.klsm_c.proofs.sharing.klsm_try_delete_min_alone.Goals as goal

pub returns-in-Ok-Some : goal.returns-in-Ok-Some
returns-in-Ok-Some c =
    let answer = c.try_delete_min_alone.result in let is : answer ≡ Ok (Some c.in-Ok-Some.found) = search rules in
    deletes_alone_told _ _ c.in-Some.member.now c.try_delete_min_alone.new.self c.args.item.now c.of.result (pos 0) answer
    c.in-Some.ensures.value (rw c.in-Some.is at (c.member_mut.follows.holds c.try_delete_min_alone.new.self)) c.try_delete_min_alone.ensures.same c.try_delete_min_alone.ensures.tries
    (sym (ap delete_code is)) (c.of.ensures ∙ sym (ap (written c.args.item.now) is))

pub returns-in-Ok-None : goal.returns-in-Ok-None
returns-in-Ok-None c =
    let answer = c.try_delete_min_alone.result in let is : answer ≡ Ok None = search rules in
    deletes_alone_told _ _ c.in-Some.member.now c.try_delete_min_alone.new.self c.args.item.now c.args.item.now (pos 1) answer
    c.in-Some.ensures.value (rw c.in-Some.is at (c.member_mut.follows.holds c.try_delete_min_alone.new.self)) c.try_delete_min_alone.ensures.same c.try_delete_min_alone.ensures.tries
    (sym (ap delete_code is)) (sym (ap (written c.args.item.now) is))

pub returns-in-Err : goal.returns-in-Err
returns-in-Err c =
    let answer = c.try_delete_min_alone.result in let is : answer ≡ Err c.in-Err.field-0 = search rules in
    deletes_alone_told _ _ c.in-Some.member.now c.try_delete_min_alone.new.self c.args.item.now c.args.item.now (pos 2) answer
    c.in-Some.ensures.value (rw c.in-Some.is at (c.member_mut.follows.holds c.try_delete_min_alone.new.self)) c.try_delete_min_alone.ensures.same c.try_delete_min_alone.ensures.tries
    (sym (ap delete_code is)) (sym (ap (written c.args.item.now) is))
