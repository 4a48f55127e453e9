use Rattle.std.proofs.Common.{◌≡◌, ◌+◌, ◌-◌, ◌≤◌, List}
use Rattle.klsm_run.specs.declared.item.Item.{Item}
use Rattle.klsm_run.specs.Block.{IsBlock}
use Rattle.klsm_run.specs.Content.{ShareNone}
use Rattle.klsm_lsm.specs.Lsm.{content}
use Rattle.klsm_lsm.proofs.UnitedLemmas.{IsUniting}
use Rattle.klsm_lsm.proofs.lsm.Lsm.cascade.Given as goal

-- each run of the level becomes one with the blocks from `first` up to `end`, and is then of level `joined`
abbrev pub invariant-loop-first : goal.invariant-loop-first
invariant-loop-first g l = record {
  order : l.first ≤ l.end;
  level_is : l.joined ≡ l.level + (l.end - l.first);
  uniting : (run : List Item) → IsBlock l.level run → ShareNone (content l.self) run → IsUniting l.self l.level l.first (l.end - l.first) l.end run;
}

abbrev pub decreases-loop-first : goal.decreases-loop-first
decreases-loop-first g l = l.first
