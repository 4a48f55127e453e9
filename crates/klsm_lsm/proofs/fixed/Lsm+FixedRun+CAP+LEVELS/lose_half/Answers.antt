use Rattle.std.proofs.Common.{◌/◌, [], ◌∷◌, length, get_or, take, ap, ◌∙◌, arith}
use Rattle.std.proofs.lemmas.Option.{get_or_from_slice_get}
use Rattle.klsm_lsm.proofs.SpyLemmas.{none_left, half_left}
use Rattle.klsm_lsm.proofs.fixed.Lsm+FixedRun+CAP+LEVELS.lose_half.Goals as goal

pub block-requires : goal.block-requires
block-requires g c = (search, omega (arith, c.requires))

pub len-kept-requires : goal.len-kept-requires
len-kept-requires g c = search

pub discard_largest-requires : goal.discard_largest-requires
discard_largest-requires g c = (search, omega (arith, c.requires))

pub keep_least-requires : goal.keep_least-requires
keep_least-requires g c =
    let block = get_or_from_slice_get c.args.self.now 0 _ [] c.block.ensures.block in
    (search, (search, (c.requires, (omega (arith, c.if-kept-eq0.false), omega (arith, ap length block, c.len-kept.ensures.len)))))

pub returns-then-kept-eq0 : goal.returns-then-kept-eq0
returns-then-kept-eq0 g c = c.discard_largest.ensures ∙ none_left _ _ c.requires c.block.ensures.block c.block.ensures.some (omega (arith, c.len-kept.ensures.len, c.if-kept-eq0.true))

pub returns-else-kept-eq0 : goal.returns-else-kept-eq0
returns-else-kept-eq0 g c =
    c.keep_least.ensures ∙ (ap (λ n. take (n / 2) (get_or c.args.self.now 0 []) ∷ []) c.len-kept.ensures.len ∙ half_left _ _ c.requires c.block.ensures.block (λ none. c.if-kept-eq0.false (omega (arith, none, c.len-kept.ensures.len))))

pub block-requires-room-R-Run : goal.block-requires-room-R-Run
block-requires-room-R-Run g c κs = search

pub discard_largest-requires-room-R-Run : goal.discard_largest-requires-room-R-Run
discard_largest-requires-room-R-Run g c κs = search
