use Rattle.std.proofs.Common.{List, [], ◌∷◌, length, sym, ap, ◌∙◌, arith}
use Rattle.std.specs.Option.{option_to_list}
use Rattle.klsm_run.specs.declared.item.Item.{Item}
use Rattle.klsm_lsm.specs.Lsm.{content}
use Rattle.klsm_lsm.proofs.InsertLemmas.{first_items}
use Rattle.klsm_lsm.proofs.SpyLemmas.{none_spied, first_spied}
use Rattle.klsm_lsm.proofs.fixed.Lsm+FixedRun+CAP+LEVELS.spy.Goals as goal

pub fill-requires : goal.fill-requires
fill-requires g c =
    let items = c.as_slice.ensures.items in
    (search, (search, (c.requires.capacity, (c.requires.empty, (rw items c.block.ensures.some, (rw items c.as_slice.ensures.ascending, omega (arith, ap length items, first_items _ _ c.block.ensures.block, c.len-known.ensures.limit)))))))

pub blocks-requires : goal.blocks-requires
blocks-requires g c = search

pub returns-then-blocks-eq0-clause-taken : goal.returns-then-blocks-eq0-clause-taken
returns-then-blocks-eq0-clause-taken g c = c.requires.empty ∙ ap option_to_list (none_spied c.args.victim.now (omega (arith, c.blocks-2.ensures.blocks, c.if-blocks-eq0.true))).0

pub returns-then-blocks-eq0-clause-rest : goal.returns-then-blocks-eq0-clause-rest
returns-then-blocks-eq0-clause-rest g c = (none_spied c.args.victim.now (omega (arith, c.blocks-2.ensures.blocks, c.if-blocks-eq0.true))).1

pub returns-then-blocks-eq0-clause-count : goal.returns-then-blocks-eq0-clause-count
returns-then-blocks-eq0-clause-count g c = sym (ap (λ (bs : List (List Item)). length (content bs)) c.requires.empty)

pub blocks-requires-2 : goal.blocks-requires-2
blocks-requires-2 g c = search

pub spy_half-requires : goal.spy_half-requires
spy_half-requires g c = (search, (search, (c.requires.capacity, (c.requires.empty, omega arith))))

pub returns-then-blocks-eq1-clause-taken : goal.returns-then-blocks-eq1-clause-taken
returns-then-blocks-eq1-clause-taken g c = c.spy_half.ensures.taken

pub returns-then-blocks-eq1-clause-rest : goal.returns-then-blocks-eq1-clause-rest
returns-then-blocks-eq1-clause-rest g c = c.spy_half.ensures.rest

pub returns-then-blocks-eq1-clause-count : goal.returns-then-blocks-eq1-clause-count
returns-then-blocks-eq1-clause-count g c = c.spy_half.ensures.count

pub len-known-requires : goal.len-known-requires
len-known-requires g c = search

pub block-requires : goal.block-requires
block-requires g c = (search, omega arith)

pub as_slice-requires : goal.as_slice-requires
as_slice-requires g c = search

pub discard_largest-requires : goal.discard_largest-requires
discard_largest-requires g c = (search, omega arith)

pub len-requires : goal.len-requires
len-requires g c = search

pub returns-clause-taken : goal.returns-clause-taken
returns-clause-taken g c =
    c.fill.ensures ∙ (ap (λ (b : List Item). b ∷ []) c.as_slice.ensures.items ∙ ap option_to_list (first_spied c.args.victim.now _ (omega arith) c.block.ensures.block).0)

pub returns-clause-rest : goal.returns-clause-rest
returns-clause-rest g c = c.discard_largest.ensures ∙ (first_spied c.args.victim.now _ (omega arith) c.block.ensures.block).1

pub returns-clause-count : goal.returns-clause-count
returns-clause-count g c = c.len.ensures.len

pub blocks-requires-room-R-Run : goal.blocks-requires-room-R-Run
blocks-requires-room-R-Run g c κs = search

pub blocks-requires-2-room-R-Run : goal.blocks-requires-2-room-R-Run
blocks-requires-2-room-R-Run g c κs = search

pub len-known-requires-room-R-Run : goal.len-known-requires-room-R-Run
len-known-requires-room-R-Run g c κs = search

pub block-requires-room-R-Run : goal.block-requires-room-R-Run
block-requires-room-R-Run g c κs = search

pub discard_largest-requires-room-R-Run : goal.discard_largest-requires-room-R-Run
discard_largest-requires-room-R-Run g c κs = search

pub len-requires-room-R-Run : goal.len-requires-room-R-Run
len-requires-room-R-Run g c κs = search
