use Rattle.std.proofs.Common.{◌≡◌, ◌<◌, [], length, MatchOption, IsTrue, sym, subst, arith}
use Rattle.std.proofs.lemmas.Option.{get_or_from_slice_get}
use Rattle.klsm_run.specs.ItemOrder.{is_smaller}
use Rattle.klsm_lsm.proofs.LeastBlockLemmas.{IsFirstFound, first_found_here, first_found_before, none_found, some_found}
use Rattle.klsm_lsm.proofs.lsm.Lsm.least_block.Goals as goal
use Rattle.klsm_lsm.proofs.lsm.Lsm.least_block.Goals.{then-comes_before, else-comes_before}

pub loop-block-preserved : goal.loop-block-preserved
loop-block-preserved g c =
    let bs = c.args.self.now in
    let here : c.loop-block.block < length bs = omega (arith, c.loop-block-test.true, c.blocks-block-end.ensures.blocks) in
    let block = sym (get_or_from_slice_get bs c.loop-block.block _ [] c.block.ensures.block) in
    elim c.if-comes_before.branch [
      | then-comes_before w ↦ rw w.found-is (first_found_here bs c.loop-block.block _ c.loop-block.found c.item_at-first.result c.len-known.ensures.lawful here block c.item_at-first.ensures (subst (λ b. MatchOption c.loop-block.found (IsTrue b) (λ f. b ≡ is_smaller c.item_at-first.result f.1)) w.if-comes_before.true c.comes_before.ensures) c.loop-block.invariant)
      | else-comes_before w ↦ rw w.found-is (first_found_before bs c.loop-block.block _ c.loop-block.found c.item_at-first.result c.len-known.ensures.lawful here block c.item_at-first.ensures (subst (λ b. MatchOption c.loop-block.found (IsTrue b) (λ f. b ≡ is_smaller c.item_at-first.result f.1)) w.if-comes_before.false c.comes_before.ensures) c.loop-block.invariant)
    ]

pub returns-in_default : goal.returns-in_default
returns-in_default g c =
    none_found c.args.self.now c.loop-block.block c.len-known.ensures.lawful (omega (arith, c.loop-block-test.false, c.blocks-block-end.ensures.blocks)) (subst (IsFirstFound c.args.self.now c.loop-block.block) c.in_default.is c.loop-block.invariant)

pub returns : goal.returns
returns g c =
    some_found c.args.self.now c.loop-block.block c.in-Some.block c.in-Some.field-0-1 (omega (arith, c.loop-block.auto, c.loop-block-test.false, c.blocks-block-end.ensures.blocks)) (subst (IsFirstFound c.args.self.now c.loop-block.block) c.in-Some.is c.loop-block.invariant)
