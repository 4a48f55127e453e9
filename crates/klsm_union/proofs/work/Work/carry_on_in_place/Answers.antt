use Rattle.klsm_union.proofs.WorkLemmas.{begun_stepped}
use Rattle.klsm_union.proofs.work.Work.carry_on_in_place.Goals as goal

pub invariant_of-result-2 : goal.invariant_of-result-2
invariant_of-result-2 g c =
    begun_stepped c.self.inside.both c.in-Some.store c.unite.new.both c.self.inside.left c.self.inside.right c.unite.new.left c.unite.new.right _ c.in-Some.is c.self.invariant c.unite.ensures.capacity c.unite.ensures.items
