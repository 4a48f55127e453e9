use Rattle.std.proofs.Common.{List, length, ap, subst, sym, ◌∙◌}
use Rattle.klsm_run.specs.declared.item.Item.{Item}
use Rattle.klsm_parts.specs.Events.{front_of}
use Rattle.klsm_board.specs.TakingOut.{FetchesTo}
use Rattle.klsm_board.proofs.lemmas.calls.TakeLemmas.{stays_if_as_many}
use Rattle.klsm_board.proofs.taking.take_and_fetch.Goals as goal

pub returns-then-len-count-clause-done : goal.returns-then-len-count-clause-done
returns-then-len-count-clause-done g c k t suits =
    let content = g.S.Holding.content in let own = content c.args.own.now in let shared = content c.args.shared.now in let item = c.in_ok-item.item in
    let took = c.in_ok-item.ensures.done k t suits in
    let as_many = ap (λ (z : List Item). length z) (sym took.2) ∙ (sym c.len.ensures ∙ (c.if-len-count.true ∙ c.len-count.ensures)) in
    (took.0, took.3, took.1, (stays_if_as_many k c.args.owner own shared item took.0 as_many, took.2))

pub returns-clause-done : goal.returns-clause-done
returns-clause-done g c k t suits =
    let content = g.S.Holding.content in let own = content c.args.own.now in let shared = content c.args.shared.now in let item = c.in_ok-item.item in
    let took = c.in_ok-item.ensures.done k t suits in let fetch = c.fetch_from-refilled in (
      took.0,
      took.3,
      fetch.ensures.same ∙ took.1,
      (
        λ same. c.if-len-count.false (c.len.ensures ∙ (ap (λ (z : List Item). length z) (took.2 ∙ same) ∙ sym c.len-count.ensures)),
        c.front-taken.ensures ∙ ap front_of took.2,
        subst (λ (z : List Item × List Item). FetchesTo c.args.refill k z.0 z.1 fetch.result (content fetch.new.shared) (g.S.Holding.arriving fetch.new.own)) (λ i. (took.1 i, took.2 i))
            (fetch.ensures.done k t (c.take.ensures.kind k t suits)),
      ),
    )
