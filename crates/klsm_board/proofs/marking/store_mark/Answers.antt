use Rattle.std.proofs.Common.{ℕ, sym, subst, List, ◌-◌, ◌≤◌, arith}
use mathlib.Core.Option.{none}
use Rattle.atomic_table.specs.Table.{Allows, step}
use Rattle.klsm_schedules.specs.OwnSteps.{no_key}
use Rattle.klsm_board.specs.declared.sizes.Sizes.{Sizes}
use Rattle.klsm_board.specs.declared.rule.Own.{Own}
use Rattle.klsm_board.specs.Rule.{view, mark_place, Ruled}
use Rattle.klsm_board.specs.Steps.{mine, rest_of, mark_stored}
use Rattle.klsm_board.proofs.lemmas.table.PlaceLemmas.{mark_inside}
use Rattle.klsm_board.proofs.lemmas.table.MarkLemmas.{mark_allows}
use Rattle.klsm_board.proofs.marking.store_mark.Goals as goal

pub store-requires : goal.store-requires
store-requires g c =
    let m = c.args.table.now.key in let slots = c.args.table.now.table_id.slots in
    let me = c.args.seat.now.me in let t = c.args.thread in let key = c.args.key in
    let seat = c.requires.seat in let outcome = c.requires.outcome in
    let content = g.S.Holding.content in let suits = g.S.Holding.suits in
    let fits : key ≤ no_key = omega arith in (
      seat.0,
      mark_inside c.args.table.now.table_id m t seat.1 seat.2,
      subst (λ (l : Sizes × ℕ). Allows (Ruled content suits m) slots c.args.seat.now.id me (mark_place t) (λ _. no_key - key) (λ _. mark_stored l.0 l.1 (step slots (mark_place t) (no_key - key) 0 none) me (no_key - key)))
          (λ i. (sym outcome.0 i, sym outcome.1 i))
          (subst (λ (os : List Own). Allows (Ruled content suits m) slots c.args.seat.now.id (view os, me.1) (mark_place t) (λ _. no_key - key) (λ _. mark_stored m t (step slots (mark_place t) (no_key - key) 0 none) (view os, me.1) (no_key - key)))
          (sym c.requires.view)
          (mark_allows content suits m slots c.args.seat.now.id t (mine me.0) (rest_of me.0) me.1 key seat.2 c.requires.held c.requires.key fits)),
    )

pub returns-clause-outcome : goal.returns-clause-outcome
returns-clause-outcome g c =
    let outcome = c.requires.outcome in let slots = c.args.table.now.table_id.slots in let key = c.args.key in
    subst (λ (l : Sizes × ℕ). mark_stored l.0 l.1 (step slots (mark_place c.args.thread) (no_key - key) 0 none) c.args.seat.now.me (no_key - key) c.store.new.seat.me)
    (λ i. (outcome.0 i, outcome.1 i)) c.store.ensures.2
