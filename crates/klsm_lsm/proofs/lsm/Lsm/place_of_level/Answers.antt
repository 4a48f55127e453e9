use Rattle.std.proofs.Common.{◌≡◌, ◌-◌, [], get_or, sym, ap, ◌∙◌, arith}
use Rattle.std.proofs.lemmas.Option.{get_or_from_slice_get}
use Rattle.klsm_lsm.specs.Level.{level}
use Rattle.klsm_lsm.proofs.LevelLemmas.{level_is}
use Rattle.klsm_lsm.proofs.PlaceLemmas.{below_more, above_all_before}
use Rattle.klsm_lsm.proofs.lsm.Lsm.place_of_level.Goals as goal

pub loop-place-preserved : goal.loop-place-preserved
loop-place-preserved g c =
    let block = get_or_from_slice_get c.args.self.now (c.loop-place.place - 1) _ [] c.block.ensures.block in
    let at : c.level.result ≡ level (get_or c.args.self.now (c.loop-place.place - 1) []) =
    level_is _ c.level.result c.level.ensures.enough c.level.ensures.least ∙ ap level (sym block) in
    record {
      within = omega (arith, c.loop-place.invariant.within);
      below = below_more c.args.self.now c.loop-place.place c.args.least (omega arith) c.loop-place.invariant.within (omega (arith, at)) c.loop-place.invariant.below;
    }

pub returns-else-level-least-clause-above : goal.returns-else-level-least-clause-above
returns-else-level-least-clause-above g c =
    let block = get_or_from_slice_get c.args.self.now (c.loop-place.place - 1) _ [] c.block.ensures.block in
    let at : c.level.result ≡ level (get_or c.args.self.now (c.loop-place.place - 1) []) =
    level_is _ c.level.result c.level.ensures.enough c.level.ensures.least ∙ ap level (sym block) in
    above_all_before c.args.self.now c.loop-place.place c.args.least c.len-known.ensures.lawful (omega arith) c.loop-place.invariant.within (omega (arith, at))
