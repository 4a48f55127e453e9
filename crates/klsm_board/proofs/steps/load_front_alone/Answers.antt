use Rattle.std.proofs.Common.{ℕ, sym, subst, List, ◌+◌, ◌<◌}
use mathlib.Core.Option.{none}
use Rattle.atomic_table.specs.Table.{Allows, step}
use Rattle.klsm_board.specs.declared.sizes.Sizes.{Sizes}
use Rattle.klsm_board.specs.declared.rule.Own.{Own}
use Rattle.klsm_board.specs.Rule.{view, place, Ruled}
use Rattle.klsm_board.specs.Steps.{mine, rest_of, glanced}
use Rattle.klsm_board.proofs.lemmas.table.PlaceLemmas.{front_inside}
use Rattle.klsm_board.proofs.lemmas.table.FrontLemmas.{glance_allows}
use Rattle.klsm_board.proofs.steps.load_front_alone.Goals as goal

pub load-requires : goal.load-requires
load-requires g c =
    let m = c.args.table.now.key in let slots = c.args.table.now.table_id.slots in
    let me = c.args.seat.now.me in let t = c.args.thread in
    let seat = c.requires.seat in let outcome = c.requires.outcome in
    let content = g.S.Holding.content in let suits = g.S.Holding.suits in (
      seat.0,
      subst (λ n. place (n + 1) < c.args.table.now.table_id.words) (sym c.requires.threads) (front_inside c.args.table.now.table_id m seat.1),
      subst (λ (l : Sizes × ℕ × ℕ). Allows (Ruled content suits m) slots c.args.seat.now.id me (place (l.2 + 1)) (λ n. n) (glanced l.0 l.1 (step slots (place (l.2 + 1)) 0 0 none) me))
          (λ i. (sym outcome.0 i, sym outcome.1 i, sym c.requires.threads i))
          (subst (λ (os : List Own). Allows (Ruled content suits m) slots c.args.seat.now.id (view os, me.1) (place (m.threads + 1)) (λ n. n) (glanced m t (step slots (place (m.threads + 1)) 0 0 none) (view os, me.1)))
          (sym c.requires.view)
          (glance_allows content suits m slots c.args.seat.now.id t (mine me.0) (rest_of me.0) me.1 seat.2)),
    )

pub returns-clause-outcome : goal.returns-clause-outcome
returns-clause-outcome g c =
    let outcome = c.requires.outcome in let slots = c.args.table.now.table_id.slots in
    subst (λ (l : Sizes × ℕ). glanced l.0 l.1 (step slots (place (c.args.threads + 1)) 0 0 none) c.args.seat.now.me c.load.result c.load.new.seat.me)
    (λ i. (outcome.0 i, outcome.1 i)) c.load.ensures.2
