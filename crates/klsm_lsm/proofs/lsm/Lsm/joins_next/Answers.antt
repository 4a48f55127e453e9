use Rattle.std.proofs.Common.{◌+◌, ◌-◌, ◌<◌, ◌≤◌, [], length, get_or, sym, ap, ◌∙◌, subst, arith}
use Rattle.std.proofs.lemmas.Bool.{leb-true, le-leb, ltb-true}
use Rattle.std.proofs.lemmas.Option.{get_or_from_slice_get}
use Rattle.klsm_lsm.specs.Level.{least_level, level}
use Rattle.klsm_lsm.proofs.FallLemmas.{next_level, shifted_one, joins_if_few, few_if_joins}
use Rattle.klsm_lsm.proofs.LevelLemmas.{level_is}
use Rattle.klsm_lsm.proofs.lsm.Lsm.joins_next.Goals as goal

pub overflow_shl-result : goal.overflow_shl-result
overflow_shl-result g c =
    let count = c.len.ensures.len ∙ ap length (sym (get_or_from_slice_get c.args.self.now c.args.block _ [] c.block.ensures.block)) in
    let is = level_is _ c.level.result c.level.ensures.enough c.level.ensures.least ∙ ap level (sym (get_or_from_slice_get c.args.self.now (c.args.block + 1) _ [] c.block-then-left-gt0.ensures.block)) in
    let within : c.args.block + 1 < length c.args.self.now = omega (arith, c.requires.block, c.if-blocks-block-eq1.false, c.blocks-2.ensures.blocks) in
    next_level c.args.self.now c.args.block c.len.result c.level.result c.len-known.ensures.lawful within c.len.type_inv count is

pub returns-then-left-gt0 : goal.returns-then-left-gt0
returns-then-left-gt0 g c =
    let count = c.len.ensures.len ∙ ap length (sym (get_or_from_slice_get c.args.self.now c.args.block _ [] c.block.ensures.block)) in
    let is = level_is _ c.level.result c.level.ensures.enough c.level.ensures.least ∙ ap level (sym (get_or_from_slice_get c.args.self.now (c.args.block + 1) _ [] c.block-then-left-gt0.ensures.block)) in
    let within : c.args.block + 1 < length c.args.self.now = omega (arith, c.requires.block, c.if-blocks-block-eq1.false, c.blocks-2.ensures.blocks) in
    let small = next_level c.args.self.now c.args.block c.len.result c.level.result c.len-known.ensures.lawful within c.len.type_inv count is in
    let left = c.len.result - c.args.count in
    let whole = shifted_one c.level.result small in (
      λ few. record {
        within = within;
        some_left = omega (arith, c.if-left-gt0.true, count);
        no_greater = subst (λ n. least_level (n - c.args.count) ≤ level (get_or c.args.self.now (c.args.block + 1) [])) count (subst (λ l. least_level left ≤ l) is (joins_if_few left c.level.result _ whole (leb-true _ _ few)));
      },
      λ joins.
          let less : least_level left ≤ c.level.result = subst (λ l. least_level left ≤ l) (sym is) (subst (λ n. least_level (n - c.args.count) ≤ level (get_or c.args.self.now (c.args.block + 1) [])) (sym count) joins.no_greater) in
          le-leb _ _ (few_if_joins left c.level.result _ whole less),
    )

pub returns-else-left-gt0 : goal.returns-else-left-gt0
returns-else-left-gt0 g c =
    let count = c.len.ensures.len ∙ ap length (sym (get_or_from_slice_get c.args.self.now c.args.block _ [] c.block.ensures.block)) in
    (λ more. absurd (omega (arith, c.if-left-gt0.false, ltb-true _ _ more)), λ joins. absurd (omega (arith, count, c.if-left-gt0.false, joins.some_left)))
