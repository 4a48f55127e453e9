use Rattle.std.proofs.Common.{◌≡◌, [], length, get_or, ap, ◌∙◌, arith}
use Rattle.std.proofs.lemmas.Option.{get_or_from_slice_get}
use Rattle.klsm_lsm.specs.Lsm.{content}
use Rattle.klsm_parts.proofs.FlushLemmas.{some_block, first_few}
use Rattle.klsm_parts.proofs.FitLemmas.{first_fits, run_fits}
use Rattle.klsm_parts.proofs.flushing.copy_to_move.Goals as goal

pub len-requires : goal.len-requires
len-requires g c = search

pub k-known-requires : goal.k-known-requires
k-known-requires g c = search

pub lsm-requires : goal.lsm-requires
lsm-requires g c = (search, (search first_fits, search run_fits))

pub block-requires : goal.block-requires
block-requires g c =
    let some : length (content c.args.own.now.blocks) ≡ 0 → ⊥ = λ none. c.if-len-eq0.false (c.len.ensures.len ∙ none) in
    (search first_fits, rw c.lsm.ensures (some_block c.args.own.now.blocks some))

pub copy_of-requires : goal.copy_of-requires
copy_of-requires g c =
    let block = get_or_from_slice_get c.lsm.result.now 0 _ [] c.block.ensures.block in
    let few = first_few c.lsm.result.now in
    omega (arith, few, ap length block, ap (λ blocks. length (content blocks)) c.lsm.ensures, c.len.ensures.few, c.k-known.ensures.within, c.k-known.ensures.k, c.requires.capacity.at_most)
