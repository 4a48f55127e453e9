use Rattle.std.proofs.Common.{ℕ, sym, subst, refl, List}
use mathlib.Core.Option.{none}
use Rattle.atomic_table.specs.Table.{Allows, step, rest}
use Rattle.klsm_board.specs.declared.sizes.Sizes.{Sizes}
use Rattle.klsm_board.specs.declared.rule.Own.{Own}
use Rattle.klsm_board.specs.Rule.{view, place, Ruled}
use Rattle.klsm_board.specs.Steps.{on_part, mine, rest_of, committed}
use Rattle.klsm_board.proofs.lemmas.table.PlaceLemmas.{inside}
use Rattle.klsm_board.proofs.lemmas.table.ReleaseLemmas.{commit_allows}
use Rattle.klsm_board.proofs.steps.commit.Goals as goal

pub store-requires : goal.store-requires
store-requires g c =
    let m = c.args.table.now.key in let slots = c.args.table.now.table_id.slots in
    let me = c.args.seat.now.me in let p = c.args.part in let t = c.args.thread in
    let le = c.requires.part in let seat = c.requires.seat in let outcome = c.requires.outcome in
    let event = c.requires.event in let k = event.5 in let fits = g.D.Intent.fits in
    let content = g.S.Holding.content in let suits = g.S.Holding.suits in (
      seat.0,
      inside c.args.table.now.table_id m p seat.1 le,
      subst (λ (l : Sizes × ℕ). Allows (Ruled content suits m) slots c.args.seat.now.id me (place p) (λ _. 0) (λ _. on_part (committed fits l.0 l.1) (step slots (place p) 0 0 none) me 0))
          (λ i. (sym outcome.0 i, sym outcome.1 i))
          (subst (λ (z : List Own × List (ℕ × g.row.S.Denot)). Allows (Ruled content suits m) slots c.args.seat.now.id (view z.0, z.1) (place p) (λ _. 0) (λ _. on_part (committed fits m t) (step slots (place p) 0 0 none) (view z.0, z.1) 0))
          (λ i. (sym c.requires.view i, sym k.1 i))
          (commit_allows content suits m fits slots c.args.seat.now.id p t (mine me.0) (rest_of me.0) k.0 (rest me.1) event.0 event.1 seat.2 le k.2 event.2 event.3 event.4 k.3 event.6)),
    )

pub returns-clause-outcome : goal.returns-clause-outcome
returns-clause-outcome g c =
    let outcome = c.requires.outcome in
    subst (λ (l : Sizes × ℕ). committed g.D.Intent.fits l.0 l.1 (step c.args.table.now.table_id.slots c.args.part 0 0 none) c.args.seat.now.me 0 c.store.new.seat.me)
    (λ i. (outcome.0 i, outcome.1 i)) (c.store.ensures.2 c.args.part refl)
