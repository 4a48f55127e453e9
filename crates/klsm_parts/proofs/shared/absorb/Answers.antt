use Rattle.std.proofs.Common.{rules, ◌<◌, ◌+◌, ◌≤◌, List, length, sym, subst}
use Rattle.klsm_run.specs.declared.item.Item.{Item}
use Rattle.klsm_run.specs.Capacity.{heap_room}
use Rattle.klsm_run.specs.Content.{ShareNone}
use Rattle.klsm_lsm.specs.Limit.{limit_of}
use Rattle.klsm_lsm.specs.Lsm.{content}
use Rattle.klsm_parts.proofs.shared.absorb.Goals as goal

pub absorb_run-requires : goal.absorb_run-requires
absorb_run-requires g c = (
  search rules,
  (
    subst (λ (xs : List Item). 0 < length xs) (sym c.in-Ok.ensures.items) c.requires.some,
    (
      subst (λ (xs : List Item). ShareNone (content c.args.pile.now.blocks) xs) (sym c.in-Ok.ensures.items) c.requires.apart,
      subst (λ (xs : List Item). length (content c.args.pile.now.blocks) + length xs ≤ limit_of g.row.LEVELS heap_room) (sym c.in-Ok.ensures.items) c.requires.limit,
    ),
  ),
)
