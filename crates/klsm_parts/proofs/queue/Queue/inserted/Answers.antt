use Rattle.std.proofs.Common.{ap}
use Rattle.klsm_parts.specs.Queues.{QueueState}
use Rattle.klsm_parts.proofs.queue.Queue.inserted.Goals as goal

pub returns : goal.returns
returns g c = ap (λ (s : QueueState). s.inserted) c.self.view_is
