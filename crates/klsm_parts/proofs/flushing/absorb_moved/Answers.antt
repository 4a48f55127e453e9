use Rattle.std.proofs.Common.{◌≡◌, [], List, length, get_or, OnOk, subst, sym, ◌∙◌, arith}
use Rattle.std.proofs.lemmas.Option.{get_or_from_slice_get}
use Rattle.klsm_run.specs.declared.item.Item.{Item}
use Rattle.klsm_lsm.specs.Lsm.{content}
use Rattle.klsm_lsm.specs.Adding.{add}
use Rattle.klsm_parts.specs.Flushing.{moved}
use Rattle.klsm_parts.proofs.FlushLemmas.{moved_none, moved_some, some_block, one_apart, block_apart}
use Rattle.klsm_parts.proofs.FitLemmas.{first_fits, fixed_run_fits, one_fits, run_fits}
use Rattle.klsm_parts.proofs.flushing.absorb_moved.Goals as goal

pub absorb_copy-requires : goal.absorb_copy-requires
absorb_copy-requires g c = (search, (rw c.single.ensures (omega arith), rw c.single.ensures (one_apart (content c.args.shared.now.blocks) c.args.item c.requires.new)))

pub block-requires : goal.block-requires
block-requires g c =
    let some : length (content c.args.own.now.blocks) ≡ 0 → ⊥ = λ none. c.if-len-eq0.false (c.len.ensures.len ∙ none) in
    (search first_fits, rw c.lsm.ensures (some_block c.args.own.now.blocks some))

pub absorb_copy-requires-else-len-eq0 : goal.absorb_copy-requires-else-len-eq0
absorb_copy-requires-else-len-eq0 g c =
    let block = get_or_from_slice_get c.lsm.result.now 0 _ [] c.block.ensures.block in
    (search, (c.block.ensures.some, rw (← block, c.lsm.ensures) (block_apart c.args.own.now.blocks (content c.args.shared.now.blocks) c.requires.apart)))

pub returns-then-len-eq0-clause-added : goal.returns-then-len-eq0-clause-added
returns-then-len-eq0-clause-added g c =
    let run = c.single.ensures ∙ sym (moved_none c.args.own.now.blocks c.args.item c.len.ensures.lawful (sym c.len.ensures.len ∙ c.if-len-eq0.true)) in
    subst (λ (r : List Item). OnOk c.absorb_copy.result (c.absorb_copy.new.self ≡ record { k = c.args.shared.now.k; blocks = add c.args.shared.now.blocks r })) run c.absorb_copy.ensures.added

pub returns-then-len-eq0-clause-full : goal.returns-then-len-eq0-clause-full
returns-then-len-eq0-clause-full g c =
    let run = c.single.ensures ∙ sym (moved_none c.args.own.now.blocks c.args.item c.len.ensures.lawful (sym c.len.ensures.len ∙ c.if-len-eq0.true)) in
    rw (← run) c.absorb_copy.ensures.full

pub returns-else-len-eq0-clause-added : goal.returns-else-len-eq0-clause-added
returns-else-len-eq0-clause-added g c =
    let some : length (content c.args.own.now.blocks) ≡ 0 → ⊥ = λ none. c.if-len-eq0.false (c.len.ensures.len ∙ none) in
    let block = get_or_from_slice_get c.lsm.result.now 0 _ [] c.block.ensures.block in
    let run : get_or c.lsm.result.now 0 [] ≡ moved c.args.own.now.blocks c.args.item = rw c.lsm.ensures (sym (moved_some c.args.own.now.blocks c.args.item some)) in
    subst (λ (r : List Item). OnOk c.absorb_copy-else-len-eq0.result (c.absorb_copy-else-len-eq0.new.self ≡ record { k = c.args.shared.now.k; blocks = add c.args.shared.now.blocks r })) (sym block ∙ run) c.absorb_copy-else-len-eq0.ensures.added

pub returns-else-len-eq0-clause-full : goal.returns-else-len-eq0-clause-full
returns-else-len-eq0-clause-full g c =
    let some : length (content c.args.own.now.blocks) ≡ 0 → ⊥ = λ none. c.if-len-eq0.false (c.len.ensures.len ∙ none) in
    let block = get_or_from_slice_get c.lsm.result.now 0 _ [] c.block.ensures.block in
    let run : get_or c.lsm.result.now 0 [] ≡ moved c.args.own.now.blocks c.args.item = rw c.lsm.ensures (sym (moved_some c.args.own.now.blocks c.args.item some)) in
    rw (← run, block) c.absorb_copy-else-len-eq0.ensures.full

pub len-requires : goal.len-requires
len-requires g c = search

pub single-requires : goal.single-requires
single-requires g c = (fixed_run_fits 1 one_fits, one_fits)

pub lsm-requires : goal.lsm-requires
lsm-requires g c = (search, (search first_fits, search run_fits))

pub block-requires-room-R-Run : goal.block-requires-room-R-Run
block-requires-room-R-Run g c κs = search run_fits

pub absorb_copy-requires-else-len-eq0-room-R-Run : goal.absorb_copy-requires-else-len-eq0-room-R-Run
absorb_copy-requires-else-len-eq0-room-R-Run g c κs = search run_fits

pub returns-then-len-eq0-clause-lawful : goal.returns-then-len-eq0-clause-lawful
returns-then-len-eq0-clause-lawful g c = c.len.ensures.lawful

pub returns-then-len-eq0-clause-unchanged : goal.returns-then-len-eq0-clause-unchanged
returns-then-len-eq0-clause-unchanged g c = c.absorb_copy.ensures.unchanged

pub returns-else-len-eq0-clause-lawful : goal.returns-else-len-eq0-clause-lawful
returns-else-len-eq0-clause-lawful g c = c.len.ensures.lawful

pub returns-else-len-eq0-clause-unchanged : goal.returns-else-len-eq0-clause-unchanged
returns-else-len-eq0-clause-unchanged g c = c.absorb_copy-else-len-eq0.ensures.unchanged
