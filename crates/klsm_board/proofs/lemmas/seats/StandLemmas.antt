-- A seat that has its parts stands with them.
use Rattle.std.proofs.Common.{ℕ, List}
use Rattle.atomic_table.specs.Table.{Me}
use Rattle.klsm_run.specs.declared.item.Item.{Item}
use Rattle.klsm_schedules.specs.OwnSteps.{Hand}
use Rattle.klsm_board.specs.declared.sizes.Sizes.{Sizes}
use Rattle.klsm_board.specs.declared.rule.View.{View}
use Rattle.klsm_board.specs.Seats.{Stands, Has}

pub stands : {S : Type 0} {content : S → List Item} {suits : ℕ → ℕ → S → Type 0} {m : Sizes} {t : ℕ} {hand : Hand} {me : Me S View} → Has content suits m t hand me → Stands content suits m t hand me
stands has = record { carries = has.carries; hand_is = has.hand_is; marked = has.marked }
