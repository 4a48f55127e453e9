use Rattle.std.proofs.Common.{List, ◌∙◌, ◌++◌, ap}
use Rattle.klsm_run.specs.declared.item.Item.{Item}
use Rattle.klsm_lsm.specs.Lsm.{content}
use Rattle.klsm_test_support.proofs.apart.shared_items.Goals as goal

pub returns : goal.returns
returns g c = c.in-Ok.ensures.items ∙ ap (λ (z : List Item). z ++ content c.args.shared.now.blocks) c.new-items.ensures.items
