use Rattle.klsm_tool.proofs.SkipCounterLemmas.{joined_apart, joined_set}
use Rattle.klsm_tool.proofs.skip_counter.SkipCounter.insert.Goals as goal

pub returns-then-not-adds : goal.returns-then-not-adds
returns-then-not-adds c = joined_apart c.args.item c.args.self.now.ascending.keys c.adds.new.items.keys c.args.self.now.apart.items c.push_reserved.new.self.items (c.adds.ensures.refused c.if-not-adds.true) c.push_reserved.ensures.items

pub returns-else-not-adds : goal.returns-else-not-adds
returns-else-not-adds c = joined_set c.args.item c.args.self.now.ascending.keys c.adds.new.items.keys c.args.self.now.apart.items (c.adds.ensures.added c.if-not-adds.false)
