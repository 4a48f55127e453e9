use Rattle.std.proofs.Common.{rules, ◌≡◌, ℕ, ◌<◌, ◌≤◌, ◌⊎◌, inl, inr, max, refl, sym, subst, arith}
use Rattle.std.proofs.lemmas.Bool.{cases_lt}
use Rattle.klsm_instance.specs.Selections.{Problem}
use Rattle.klsm_knapsack.specs.Numbers.{IsIncumbent}
use Rattle.klsm_knapsack.proofs.incumbent.Incumbent.fetch_max.Goals as goal

pub fetch_max_about-before-requires-clause-problem : goal.fetch_max_about-before-requires-clause-problem
fetch_max_about-before-requires-clause-problem c = refl

-- the greater of two such numbers is one
greater : (p : Problem) (n m : ℕ) → IsIncumbent p n → IsIncumbent p m → IsIncumbent p (max n m)
greater p n m a b = by_order (cases_lt n m)
  where
    by_order : (n < m) ⊎ (m ≤ n) → IsIncumbent p (max n m)
    by_order (inl lt) = subst (IsIncumbent p) (let e : m ≡ max n m = omega arith in e) b
    by_order (inr ge) = subst (IsIncumbent p) (let e : n ≡ max n m = omega arith in e) a

pub returns-clause-incumbent : goal.returns-clause-incumbent
returns-clause-incumbent c =
    let p = c.args.self.now.table.shared.key in
    let is : c.max.result ≡ max c.fetch_max_about-before.result c.args.number = search rules in
    subst (IsIncumbent p) (sym is) (greater p c.fetch_max_about-before.result c.args.number c.fetch_max_about-before.ensures.incumbent c.requires.number)
