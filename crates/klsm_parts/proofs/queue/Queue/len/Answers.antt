use Rattle.std.proofs.Common.{rules, ◌≡◌, ◌+◌, length, subst, arith}
use Rattle.std.specs.List.{All}
use Rattle.klsm_run.specs.Content.{IsAscending}
use Rattle.klsm_parts.specs.Queues.{QueueState, IsNumbered, items_of}
use Rattle.klsm_parts.proofs.FitLemmas.{field_fits, own_fits}
use Rattle.klsm_parts.proofs.QueueLemmas.{length_both, ascending_both, all_of_both}
use Rattle.klsm_parts.proofs.queue.Queue.len.Goals as goal

pub len-requires-2 : goal.len-requires-2
len-requires-2 g c = search field_fits

pub overflow_add-result : goal.overflow_add-result
overflow_add-result g c =
    omega (arith, c.len.ensures.len, c.len.ensures.few, c.self.invariant.k_in_range, c.self.invariant.capacity_in_range.at_most, c.len-2.ensures.len, c.len-2.ensures.limit)

pub returns-clause-len : goal.returns-clause-len
returns-clause-len g c =
    let own = c.self.inside.own in
    let shared = c.self.inside.shared in
    subst (λ (s : QueueState). c.len.result + c.len-2.result ≡ length (items_of s)) c.self.view_is (omega (arith, c.len.ensures.len, c.len-2.ensures.len, length_both own shared))

pub returns-clause-ascending : goal.returns-clause-ascending
returns-clause-ascending g c =
    subst (λ (s : QueueState). IsAscending (items_of s)) c.self.view_is
    (ascending_both c.self.inside.own c.self.inside.shared c.len.ensures.lawful c.len-2.ensures.lawful c.self.invariant.apart)

pub returns-clause-numbered : goal.returns-clause-numbered
returns-clause-numbered g c =
    subst (λ (s : QueueState). All (IsNumbered s.inserted) (items_of s)) c.self.view_is
    (all_of_both (IsNumbered c.self.inside.inserted) c.self.inside.own c.self.inside.shared c.self.invariant.own_numbered c.self.invariant.shared_numbered)

pub len-requires : goal.len-requires
len-requires g c = search own_fits
