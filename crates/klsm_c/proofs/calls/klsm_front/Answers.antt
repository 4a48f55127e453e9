use Rattle.klsm_c.proofs.CallLemmas.{looks_told}
use Rattle.klsm_c.proofs.calls.klsm_front.Goals as goal

pub returns : goal.returns
returns c =
    looks_told _ _ c.in-Some.member.now c.front.new.self c.front.result
    c.in-Some.ensures.value (rw c.in-Some.is at (c.member_mut.follows.holds c.front.new.self)) c.front.ensures.same c.front.ensures.looks
