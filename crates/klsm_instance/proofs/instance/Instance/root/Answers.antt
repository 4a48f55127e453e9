use Rattle.klsm_instance.proofs.NodeLemmas.{root_is}
use Rattle.klsm_instance.proofs.instance.Instance.root.Goals as goal

pub returns-clause-node : goal.returns-clause-node
returns-clause-node c = root_is c.args.self.now
