use Rattle.std.proofs.Common.{ℕ, sym, subst, arith, ◌*◌, ◌≡◌, ◌+◌}
use mathlib.Core.Option.{none}
use Rattle.atomic_table.specs.Table.{Allows, step}
use Rattle.klsm_board.specs.declared.sizes.Sizes.{Sizes}
use Rattle.klsm_board.specs.Rule.{Ruled}
use Rattle.klsm_board.specs.Steps.{turned_to}
use Rattle.klsm_board.proofs.lemmas.table.KnownLemmas.{turn_allows}
use Rattle.klsm_board.proofs.steps.load_turning.Goals as goal

pub load-requires : goal.load-requires
load-requires g c =
    let m = c.args.table.now.key in let slots = c.args.table.now.table_id.slots in
    let me = c.args.seat.now.me in let t = c.args.thread in
    let seat = c.requires.seat in let outcome = c.requires.outcome in
    let words : c.args.table.now.table_id.words ≡ (m.threads + 2) * 16 = seat.1.0 in
    let content = g.S.Holding.content in let suits = g.S.Holding.suits in (
      seat.0,
      omega (arith, words),
      subst (λ (l : Sizes × ℕ). Allows (Ruled content suits m) slots c.args.seat.now.id me 0 (λ n. n) (turned_to l.0 l.1 (step slots 0 0 0 none) me))
          (λ i. (sym outcome.0 i, sym outcome.1 i))
          (turn_allows content suits m slots c.args.seat.now.id t me seat.2 c.requires.has),
    )

pub returns-clause-outcome : goal.returns-clause-outcome
returns-clause-outcome g c =
    let outcome = c.requires.outcome in let slots = c.args.table.now.table_id.slots in
    subst (λ (l : Sizes × ℕ). turned_to l.0 l.1 (step slots 0 0 0 none) c.args.seat.now.me c.load.result c.load.new.seat.me)
    (λ i. (outcome.0 i, outcome.1 i)) c.load.ensures.2
