use Rattle.std.proofs.Common.{rules, ◌≡◌, Ok, Err, sym, ap}
use Rattle.std.specs.Prelude.{pos}
use Rattle.klsm_board.specs.declared.errors.TryShareError.TheVariants.{Busy, Full, NoMemory}
use Rattle.klsm_c.specs.Calls.{share_code, count_written}
use Rattle.klsm_c.proofs.CallLemmas.{shares_told}
use Rattle.klsm_c.proofs.sharing.klsm_try_share.Goals as goal

pub returns-in-Ok : goal.returns-in-Ok
returns-in-Ok c =
    let answer = c.try_share.result in let is : answer ≡ Ok c.in-Ok.count = search rules in
    shares_told _ _ c.in-Some.member.now c.try_share.new.self c.args.moved.now c.in-Ok.count (pos 0) answer
    c.in-Some.ensures.value (rw c.in-Some.is at (c.member_mut.follows.holds c.try_share.new.self)) c.try_share.ensures.same c.try_share.ensures.tries
    (sym (ap share_code is)) (sym (ap (count_written c.args.moved.now) is))

pub returns-in-Err-Busy : goal.returns-in-Err-Busy
returns-in-Err-Busy c =
    let answer = c.try_share.result in let is : answer ≡ Err (Busy c.in-Err-Busy.field-0-0) = search rules in
    shares_told _ _ c.in-Some.member.now c.try_share.new.self c.args.moved.now c.args.moved.now (pos 2) answer
    c.in-Some.ensures.value (rw c.in-Some.is at (c.member_mut.follows.holds c.try_share.new.self)) c.try_share.ensures.same c.try_share.ensures.tries
    (sym (ap share_code is)) (sym (ap (count_written c.args.moved.now) is))

pub returns-in-Err-Full : goal.returns-in-Err-Full
returns-in-Err-Full c =
    let answer = c.try_share.result in let is : answer ≡ Err Full = search rules in
    shares_told _ _ c.in-Some.member.now c.try_share.new.self c.args.moved.now c.args.moved.now (pos 3) answer
    c.in-Some.ensures.value (rw c.in-Some.is at (c.member_mut.follows.holds c.try_share.new.self)) c.try_share.ensures.same c.try_share.ensures.tries
    (sym (ap share_code is)) (sym (ap (count_written c.args.moved.now) is))

pub returns-in-Err-NoMemory : goal.returns-in-Err-NoMemory
returns-in-Err-NoMemory c =
    let answer = c.try_share.result in let is : answer ≡ Err NoMemory = search rules in
    shares_told _ _ c.in-Some.member.now c.try_share.new.self c.args.moved.now c.args.moved.now (pos 4) answer
    c.in-Some.ensures.value (rw c.in-Some.is at (c.member_mut.follows.holds c.try_share.new.self)) c.try_share.ensures.same c.try_share.ensures.tries
    (sym (ap share_code is)) (sym (ap (count_written c.args.moved.now) is))
