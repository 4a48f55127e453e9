use Rattle.klsm_instance.proofs.NodeLemmas.{leaving}
use Rattle.klsm_instance.proofs.instance.Instance.leaving.Goals as goal

pub returns-clause-node : goal.returns-clause-node
returns-clause-node c = record {
  is_node = leaving c.args.self.now c.args.node.now.level c.args.node.now.picks c.requires.free c.requires.node.is_node;
  value = c.requires.node.value;
  weight = c.requires.node.weight;
}
