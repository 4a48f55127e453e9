use Rattle.std.proofs.Common.{◌≡◌, ◌<◌, ◌+◌, [], ap, sym, ◌∙◌, get_or, append-nil, length, vec_len, vec_capacity, arith}
use Rattle.std.proofs.lemmas.Option.{get_or_from_slice_get}
use Rattle.klsm_parts.proofs.AppendLemmas.{next_listed, next_within, all_listed}
use Rattle.klsm_parts.proofs.appending.append_blocks.Goals as goal

pub returns-in_err-extend_from_slice-clause-succeeds : goal.returns-in_err-extend_from_slice-clause-succeeds
returns-in_err-extend_from_slice-clause-succeeds g c =
    let bs = c.args.lsm.now in let n = c.loop-block.block in let next = c.as_slice.result.now in let listed = c.loop-block.invariant in
    let within : n < length bs = omega (arith, c.loop-block-test.true, c.blocks-block-end.ensures.blocks, c.loop-block.auto.block-end) in
    let is : get_or bs n [] ≡ next = get_or_from_slice_get bs n _ [] c.block.ensures.block ∙ sym c.as_slice.ensures.items in
    let part = next_within bs n within in
    let same : length (get_or bs n []) ≡ length next = ap length is in
    let full : vec_capacity c.loop-block.all < vec_len c.loop-block.all + length next = c.in_err-extend_from_slice.ensures.full in
    λ room. absurd (omega (arith, room, listed.len_is, listed.room, part, same, full))

pub loop-block-preserved : goal.loop-block-preserved
loop-block-preserved g c =
    let bs = c.args.lsm.now in let n = c.loop-block.block in let next = c.as_slice.result.now in let told = c.in_ok-extend_from_slice.ensures in
    let within : n < length bs = omega (arith, c.loop-block-test.true, c.blocks-block-end.ensures.blocks, c.loop-block.auto.block-end) in
    let is : get_or bs n [] ≡ next = get_or_from_slice_get bs n _ [] c.block.ensures.block ∙ sym c.as_slice.ensures.items in
    let listed = next_listed n bs c.args.all.now.items c.loop-block.all.items _ _ (vec_len c.loop-block.all) (vec_capacity c.loop-block.all) next (vec_capacity c.extend_from_slice.new.self) within is told.capacity c.loop-block.invariant in
    record { items = told.items ∙ listed.items; len_is = told.len ∙ listed.len_is; room = listed.room }

pub loop-block-init : goal.loop-block-init
loop-block-init g c = record { items = sym (append-nil _); len_is = omega arith; room = omega arith }

pub returns-clause-items : goal.returns-clause-items
returns-clause-items g c = (all_listed _ c.args.lsm.now c.args.all.now.items c.loop-block.all.items _ _ _ _ (omega (arith, c.loop-block-test.false, c.blocks-block-end.ensures.blocks)) c.loop-block.invariant).0

pub returns-clause-len : goal.returns-clause-len
returns-clause-len g c = (all_listed _ c.args.lsm.now c.args.all.now.items c.loop-block.all.items _ _ _ _ (omega (arith, c.loop-block-test.false, c.blocks-block-end.ensures.blocks)) c.loop-block.invariant).1

pub returns-clause-capacity : goal.returns-clause-capacity
returns-clause-capacity g c = c.loop-block.invariant.room

pub returns-in_err-extend_from_slice-clause-capacity : goal.returns-in_err-extend_from_slice-clause-capacity
returns-in_err-extend_from_slice-clause-capacity g c = omega (arith, c.loop-block.invariant.room, c.in_err-extend_from_slice.ensures.capacity)
