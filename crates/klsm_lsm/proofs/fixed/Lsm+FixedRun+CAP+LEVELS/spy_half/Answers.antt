use Rattle.std.proofs.Common.{◌≤◌, length, ap, ◌∙◌, arith, rules}
use Rattle.std.specs.Option.{option_to_list}
use Rattle.std.proofs.lemmas.List.{take_rest}
use Rattle.klsm_run.proofs.HalfLemmas.{ascending_drop}
use Rattle.klsm_lsm.specs.Limit.{limit_of}
use Rattle.klsm_lsm.proofs.InsertLemmas.{first_items, some_behind, few_behind}
use Rattle.klsm_lsm.proofs.SpyLemmas.{half_spied}
use Rattle.klsm_lsm.proofs.fixed.Lsm+FixedRun+CAP+LEVELS.spy_half.Goals as goal

pub fill-requires : goal.fill-requires
fill-requires g c =
    let items = c.as_slice-items.ensures.items in
    let few : length c.block.result.now ≤ limit_of g.row.LEVELS g.row.CAP = omega (arith, first_items _ _ c.block.ensures.block, c.len-known.ensures.limit) in
    (search, (search, (c.requires.capacity, (c.requires.empty, (rw (items, take_rest) (some_behind _ c.block.ensures.some), (rw (items, take_rest) (ascending_drop _ _ c.as_slice-items.ensures.ascending), rw (items, take_rest) (few_behind _ _ few)))))))

pub len-known-requires : goal.len-known-requires
len-known-requires g c = search

pub block-requires : goal.block-requires
block-requires g c = (search, omega (arith, c.requires.only))

pub as_slice-items-requires : goal.as_slice-items-requires
as_slice-items-requires g c = search

pub offset_bounds-items-items : goal.offset_bounds-items-items
offset_bounds-items-items g c = search rules

pub slice_bounds-fill-count : goal.slice_bounds-fill-count
slice_bounds-fill-count g c = omega arith

pub lose_half-requires : goal.lose_half-requires
lose_half-requires g c = (search, (search, c.requires.only))

pub len-requires : goal.len-requires
len-requires g c = search

pub returns-clause-taken : goal.returns-clause-taken
returns-clause-taken g c = c.fill.ensures ∙ rw (c.as_slice-items.ensures.items, take_rest) (ap option_to_list (half_spied c.args.victim.now _ c.requires.only c.block.ensures.block))

pub returns-clause-rest : goal.returns-clause-rest
returns-clause-rest g c = c.lose_half.ensures

pub returns-clause-count : goal.returns-clause-count
returns-clause-count g c = c.len.ensures.len

pub slice_bounds-fill-start : goal.slice_bounds-fill-start
slice_bounds-fill-start g c = omega arith

pub slice_bounds-fill-end : goal.slice_bounds-fill-end
slice_bounds-fill-end g c = omega arith

pub len-known-requires-room-R-Run : goal.len-known-requires-room-R-Run
len-known-requires-room-R-Run g c κs = search

pub block-requires-room-R-Run : goal.block-requires-room-R-Run
block-requires-room-R-Run g c κs = search

pub len-requires-room-R-Run : goal.len-requires-room-R-Run
len-requires-room-R-Run g c κs = search
