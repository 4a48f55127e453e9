use Rattle.std.proofs.Common.{rules, ◌≡◌, ◌≤◌, ◌∙◌, ap, subst, sym}
use Rattle.klsm_parts.specs.Queues.{QueueState}
use Rattle.klsm_parts.proofs.FitLemmas.{own_fits}
use Rattle.klsm_parts.proofs.queue.Queue.k.Goals as goal

pub returns-clause-same : goal.returns-clause-same
returns-clause-same g c = subst (λ (s : QueueState). s.shared.k ≡ s.own.k) c.self.view_is (sym c.self.invariant.same_k)

pub k-requires : goal.k-requires
k-requires g c = search own_fits

pub returns-clause-k : goal.returns-clause-k
returns-clause-k g c = c.k.ensures.k ∙ ap (λ (s : QueueState). s.own.k) c.self.view_is

pub returns-clause-within : goal.returns-clause-within
returns-clause-within g c = subst (λ (s : QueueState). s.own.k ≤ g.row.CAP) c.self.view_is c.k.ensures.within
