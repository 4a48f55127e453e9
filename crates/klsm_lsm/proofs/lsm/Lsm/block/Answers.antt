use Rattle.std.proofs.Common.{subst, List, arith, get_or, length, Some, ap, sym, ◌≡◌, ◌∙◌, []}
use Rattle.std.proofs.lemmas.List.{length-map}
use Rattle.std.proofs.lemmas.Option.{slice_get-get_or}
use Rattle.klsm_run.specs.declared.item.Item.{Item}
use Rattle.klsm_lsm.specs.Lsm.{IsLsm}
use Rattle.klsm_lsm.proofs.lsm.Lsm.block.Goals as goal

pub held-requires-clause-lawful : goal.held-requires-clause-lawful
held-requires-clause-lawful g c = subst IsLsm (sym c.filled.ensures.blocks) c.filled.ensures.lawful

pub held-requires-clause-index : goal.held-requires-clause-index
held-requires-clause-index g c =
    let many : length c.filled.result.now ≡ length c.args.self.now = rw length-map at (ap length c.filled.ensures.blocks) in
    omega (arith, many, c.requires)

pub returns-clause-block : goal.returns-clause-block
returns-clause-block g c = slice_get-get_or c.args.self.now c.args.index [] c.requires ∙ ap Some (sym (c.held.ensures.block ∙ ap (λ (bs : List (List Item)). get_or bs c.args.index []) c.filled.ensures.blocks))

pub returns-clause-some : goal.returns-clause-some
returns-clause-some g c = c.held.ensures.some
