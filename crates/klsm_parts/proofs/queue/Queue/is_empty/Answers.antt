use Rattle.klsm_parts.specs.Queues.{items_of}
use Rattle.klsm_parts.proofs.EmptyLemmas.{is_none}
use Rattle.klsm_parts.proofs.queue.Queue.is_empty.Goals as goal

pub returns : goal.returns
returns g c = is_none (items_of c.args.self.now) c.len.result c.len.ensures.len

pub len-requires : goal.len-requires
len-requires g c = search
