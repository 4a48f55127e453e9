use Rattle.std.proofs.Common.{ℕ, sym, subst, List, ◌+◌, ◌<◌}
use mathlib.Core.Option.{none}
use Rattle.atomic_table.specs.Table.{Allows, step}
use Rattle.klsm_board.specs.declared.sizes.Sizes.{Sizes}
use Rattle.klsm_board.specs.declared.rule.Own.{Own}
use Rattle.klsm_board.specs.Rule.{view, place, Ruled}
use Rattle.klsm_board.specs.Steps.{mine, rest_of, set_front}
use Rattle.klsm_board.proofs.lemmas.table.PlaceLemmas.{front_inside}
use Rattle.klsm_board.proofs.lemmas.table.FrontLemmas.{set_allows}
use Rattle.klsm_board.proofs.steps.store_front.Goals as goal

pub store-requires : goal.store-requires
store-requires g c =
    let m = c.args.table.now.key in let slots = c.args.table.now.table_id.slots in
    let me = c.args.seat.now.me in let t = c.args.thread in let front = c.args.front in
    let seat = c.requires.seat in let outcome = c.requires.outcome in let event = c.requires.event in let fits = g.D.Intent.fits in
    let content = g.S.Holding.content in let suits = g.S.Holding.suits in (
      seat.0,
      subst (λ n. place (n + 1) < c.args.table.now.table_id.words) (sym c.requires.threads) (front_inside c.args.table.now.table_id m seat.1),
      subst (λ (l : Sizes × ℕ × ℕ). Allows (Ruled content suits m) slots c.args.seat.now.id me (place (l.2 + 1)) (λ _. front) (λ _. set_front fits l.0 l.1 (step slots (place (l.2 + 1)) front 0 none) me front))
          (λ i. (sym outcome.0 i, sym outcome.1 i, sym c.requires.threads i))
          (subst (λ (os : List Own). Allows (Ruled content suits m) slots c.args.seat.now.id (view os, me.1) (place (m.threads + 1)) (λ _. front) (λ _. set_front fits m t (step slots (place (m.threads + 1)) front 0 none) (view os, me.1) front))
          (sym c.requires.view)
          (set_allows content suits m fits slots c.args.seat.now.id t (mine me.0) (rest_of me.0) me.1 event.0 front event.1 seat.2 event.2 event.3 event.4)),
    )

pub returns-clause-outcome : goal.returns-clause-outcome
returns-clause-outcome g c =
    let outcome = c.requires.outcome in let slots = c.args.table.now.table_id.slots in let front = c.args.front in
    subst (λ (l : Sizes × ℕ). set_front g.D.Intent.fits l.0 l.1 (step slots (place (c.args.threads + 1)) front 0 none) c.args.seat.now.me front c.store.new.seat.me)
    (λ i. (outcome.0 i, outcome.1 i)) c.store.ensures.2
