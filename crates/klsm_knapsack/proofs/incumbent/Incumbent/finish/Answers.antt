use Rattle.std.proofs.Common.{◌≡◌, ℕ, get_or, ap, ◌∙◌, subst, arith}
use lib.ListN.{get_elem?}
use Rattle.klsm_knapsack.specs.Numbers.{IsIncumbent}
use Rattle.klsm_knapsack.proofs.RuleLemmas.{is_incumbent, read_at}
use Rattle.klsm_knapsack.proofs.incumbent.Incumbent.finish.Goals as goal

pub returns-clause-incumbent : goal.returns-clause-incumbent
returns-clause-incumbent c =
    let final = c.close_with-closed.ensures.values.2 in
    let s = final.0 in
    let p = c.args.self.table.shared.key in
    let is : get_or s.words 0 0 ≡ c.word-number.result = read_at s.words 0 c.word-number.result (ap (λ ws. get_elem? ws 0) final.2 ∙ c.word-number.ensures) in
    subst (λ (n : ℕ). IsIncumbent p n) is (is_incumbent p s final.1.0)

pub returns-clause-found : goal.returns-clause-found
returns-clause-found c =
    let final = c.close_with-closed.ensures.values.2 in
    let s = final.0 in
    let is : get_or s.words 0 0 ≡ c.word-number.result = read_at s.words 0 c.word-number.result (ap (λ ws. get_elem? ws 0) final.2 ∙ c.word-number.ensures) in
    let seen = final.1.0.seen c.args.seat.table_seat.id c.args.seat.table_seat.me.0 final.1.1 in
    omega (arith, seen.found, is)

pub returns-clause-rule : goal.returns-clause-rule
returns-clause-rule c =
    let final = c.close_with-closed.ensures.values.2 in
    let s = final.0 in
    (s, final.1.0, final.1.1, read_at s.words 0 c.word-number.result (ap (λ ws. get_elem? ws 0) final.2 ∙ c.word-number.ensures))
