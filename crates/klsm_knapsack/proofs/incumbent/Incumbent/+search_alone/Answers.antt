use Rattle.std.proofs.Common.{◌+◌, ◌^◌, ℕ, subst, arith, rules}
use Rattle.std.proofs.Math.Pow.{shr_mono}
use Rattle.klsm_instance.specs.Nodes.{NoneAbove}
use Rattle.klsm_instance.proofs.NodeLemmas.{completed_fits}
use Rattle.klsm_instance.proofs.SearchLemmas.{covers_last, covers_more}
use Rattle.klsm_knapsack.specs.Numbers.{value_in}
use Rattle.klsm_knapsack.specs.IncumbentSeats.{found_by}
use Rattle.klsm_knapsack.proofs.incumbent.Incumbent.+search_alone.Goals as goal
use Rattle.klsm_knapsack.proofs.incumbent.Incumbent.+search_alone.Goals.{then-node-len-via-then-node-len, then-node-len-via-else-node-len+then-is_bounded_by, in-Some, in_default}

pub returns-then-node-len-clause-covers : goal.returns-then-node-len-clause-covers
returns-then-node-len-clause-covers g t c =
    let p = c.args.instance.now in
    let l : ℕ = c.args.node.level in
    let q : ℕ = c.args.node.picks in
    let raised = c.raise_to-found.ensures in
    let closed : NoneAbove p l q c.raise_to-found.result = elim c.then-node-len.branch [
      | then-node-len-via-then-node-len w ↦ covers_last p l q c.raise_to-found.result (search rules) raised.raises
      | then-node-len-via-else-node-len+then-is_bounded_by w ↦ w.is_bounded_by.ensures.sound w.if-is_bounded_by.true
    ] in
    subst (λ (n : ℕ). NoneAbove p l q n) raised.found.0 closed

pub returns-clause-covers : goal.returns-clause-covers
returns-clause-covers g t c =
    let p = c.args.instance.now in
    let l : ℕ = c.args.node.level in
    let q : ℕ = c.args.node.picks in
    let n : ℕ = value_in (found_by c.search_alone-2.new.seat) in
    let rest : NoneAbove p c.leaving_alike-rest.result.level q n = rw c.leaving_alike-rest.ensures.picks at c.search_alone-2.ensures.covers in
    let take : NoneAbove p (l + 1) (q + 2 ^ l) n = elim c.match-taking.branch [
      | in-Some w ↦
          let child = w.in-Some.ensures in
          let covers = rw (child.1, child.2) at w.search_alone.ensures.covers in
          covers_more p (l + 1) (q + 2 ^ l) (value_in (found_by w.search_alone.new.seat)) n (shr_mono 32 (rw w.seat-is at c.search_alone-2.ensures.found)) covers
      | in_default w ↦ λ s completion. absurd (omega (arith, completed_fits p (l + 1) (q + 2 ^ l) s completion, w.in_default.ensures))
    ] in
    c.leaving_alike-rest.ensures.covers n take rest
