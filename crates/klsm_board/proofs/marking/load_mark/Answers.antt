use Rattle.std.proofs.Common.{ℕ, sym, subst, refl, List}
use mathlib.Core.Option.{none}
use Rattle.atomic_table.specs.Table.{Allows, step}
use Rattle.klsm_board.specs.declared.sizes.Sizes.{Sizes}
use Rattle.klsm_board.specs.declared.rule.Own.{Own}
use Rattle.klsm_board.specs.Rule.{view, mark_place, Ruled}
use Rattle.klsm_board.specs.Steps.{on_mark, mine, rest_of, saw}
use Rattle.klsm_board.proofs.lemmas.table.PlaceLemmas.{mark_inside}
use Rattle.klsm_board.proofs.lemmas.table.MarkLemmas.{see_allows}
use Rattle.klsm_board.proofs.marking.load_mark.Goals as goal

pub load-requires : goal.load-requires
load-requires g c =
    let m = c.args.table.now.key in let slots = c.args.table.now.table_id.slots in
    let me = c.args.seat.now.me in let t = c.args.thread in let u = c.args.other in
    let seat = c.requires.seat in let outcome = c.requires.outcome in
    let content = g.S.Holding.content in let suits = g.S.Holding.suits in (
      seat.0,
      mark_inside c.args.table.now.table_id m u seat.1 c.requires.other,
      subst (λ (l : Sizes × ℕ). Allows (Ruled content suits m) slots c.args.seat.now.id me (mark_place u) (λ n. n) (on_mark (saw l.0 l.1) (step slots (mark_place u) 0 0 none) me))
          (λ i. (sym outcome.0 i, sym outcome.1 i))
          (subst (λ (os : List Own). Allows (Ruled content suits m) slots c.args.seat.now.id (view os, me.1) (mark_place u) (λ n. n) (on_mark (saw m t) (step slots (mark_place u) 0 0 none) (view os, me.1)))
          (sym c.requires.view)
          (see_allows content suits m slots c.args.seat.now.id t u (mine me.0) (rest_of me.0) me.1 seat.2 c.requires.other c.requires.held c.requires.marked)),
    )

pub returns-clause-outcome : goal.returns-clause-outcome
returns-clause-outcome g c =
    let outcome = c.requires.outcome in let slots = c.args.table.now.table_id.slots in
    subst (λ (l : Sizes × ℕ). saw l.0 l.1 (step slots c.args.other 0 0 none) c.args.seat.now.me c.load.result c.load.new.seat.me)
    (λ i. (outcome.0 i, outcome.1 i)) (c.load.ensures.2 c.args.other refl)
