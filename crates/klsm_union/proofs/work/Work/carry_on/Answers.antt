use Rattle.std.proofs.Common.{arith}
use Rattle.klsm_union.proofs.WorkLemmas.{work_stepped, work_done}
use Rattle.klsm_union.proofs.work.Work.carry_on.Goals as goal

pub invariant_of-result : goal.invariant_of-result
invariant_of-result g c =
    work_stepped c.self.inside.both c.in_ok-both.both c.unite.new.both c.self.inside.left c.self.inside.right c.unite.new.left c.unite.new.right _ c.self.invariant c.in_ok-both.ensures.items
    (omega (arith, c.in_ok-both.ensures.room, c.len.ensures.len, c.len-2.ensures.len)) c.unite.ensures.capacity c.unite.ensures.items

pub give-requires : goal.give-requires
give-requires g c =
    let work = work_stepped c.self.inside.both c.in_ok-both.both c.unite.new.both c.self.inside.left c.self.inside.right c.unite.new.left c.unite.new.right _ c.self.invariant c.in_ok-both.ensures.items
    (omega (arith, c.in_ok-both.ensures.room, c.len.ensures.len, c.len-2.ensures.len)) c.unite.ensures.capacity c.unite.ensures.items in
    work_done c.unite.new.both.items c.unite.new.left c.unite.new.right _ (omega (arith, c.if-len-gt0.false, c.len-3.ensures.len, c.len-4.ensures.len)) work.owes
