use Rattle.std.proofs.Common.{ℕ, sym, refl, subst, List}
use mathlib.Core.Option.{none}
use Rattle.atomic_table.specs.Table.{Allows, step}
use Rattle.klsm_board.specs.declared.sizes.Sizes.{Sizes}
use Rattle.klsm_board.specs.declared.rule.Own.{Own}
use Rattle.klsm_board.specs.Rule.{view, place, Ruled}
use Rattle.klsm_board.specs.Steps.{on_part, mine, rest_of, watched}
use Rattle.klsm_board.proofs.lemmas.table.PlaceLemmas.{inside}
use Rattle.klsm_board.proofs.lemmas.table.AcquireLemmas.{watch_allows}
use Rattle.klsm_board.proofs.steps.load_lock.Goals as goal

pub load-requires : goal.load-requires
load-requires g c =
    let m = c.args.table.now.key in let slots = c.args.table.now.table_id.slots in
    let me = c.args.seat.now.me in let p = c.args.part in let t = c.args.thread in
    let le = c.requires.part in let seat = c.requires.seat in let outcome = c.requires.outcome in
    let content = g.S.Holding.content in let suits = g.S.Holding.suits in (
      seat.0,
      inside c.args.table.now.table_id m p seat.1 le,
      subst (λ (l : Sizes × ℕ). Allows (Ruled content suits m) slots c.args.seat.now.id me (place p) (λ n. n) (on_part (watched l.0 l.1) (step slots (place p) 0 0 none) me))
          (λ i. (sym outcome.0 i, sym outcome.1 i))
          (subst (λ (os : List Own). Allows (Ruled content suits m) slots c.args.seat.now.id (view os, me.1) (place p) (λ n. n) (on_part (watched m t) (step slots (place p) 0 0 none) (view os, me.1)))
          (sym c.requires.view)
          (watch_allows content suits m slots c.args.seat.now.id p t (mine me.0) (rest_of me.0) me.1 seat.2 le c.requires.away)),
    )

pub returns-clause-outcome : goal.returns-clause-outcome
returns-clause-outcome g c =
    let slots = c.args.table.now.table_id.slots in let me = c.args.seat.now.me in let p = c.args.part in
    let outcome = c.requires.outcome in
    subst (λ (l : Sizes × ℕ). watched l.0 l.1 (step slots p 0 0 none) me c.load.result c.load.new.seat.me)
    (λ i. (outcome.0 i, outcome.1 i)) (c.load.ensures.2 p refl)
