use Rattle.std.proofs.Common.{◌≡◌, ℕ, Result, Ok, Err, refl}
use Rattle.std.specs.Prelude.{IfErr}
use Rattle.klsm_instance.specs.declared.search.Best.{Best}
use Rattle.klsm_knapsack.specs.declared.errors.SearchError.{SearchError}
use Rattle.klsm_knapsack.specs.declared.search_state.NoRoom.TheVariants as no_room
use Rattle.klsm_knapsack.specs.Refusals.{RefusesSearch}
use Rattle.klsm_knapsack.proofs.solving.solve_with.Goals as goal

refused : (levels threads k refill : ℕ) (r : Result Best SearchError) → IfErr r (λ why. no_room.Refuses ≡ no_room.Refuses → RefusesSearch levels threads k refill why) → IfErr r (RefusesSearch levels threads k refill)
refused levels threads k refill (Ok best) told = tt
refused levels threads k refill (Err why) told = told refl

pub returns-clause-refused : goal.returns-clause-refused
returns-clause-refused g c = let options = c.args.options.now in refused g.row.LEVELS options.threads options.k options.refill c.solve_on_board.result c.solve_on_board.ensures.refused
