use Rattle.std.proofs.Common.{◌+◌, ◌^◌, ℕ, arith, rules}
use Rattle.klsm_instance.specs.Nodes.{NoneAbove}
use Rattle.klsm_instance.specs.Answers.{IsAnswer}
use Rattle.klsm_instance.proofs.NodeLemmas.{completed_fits, own_feasible}
use Rattle.klsm_instance.proofs.SearchLemmas.{raised_answer, covers_last, covers_more}
use Rattle.klsm_instance.proofs.instance.Instance.+finish.Goals as goal
use Rattle.klsm_instance.proofs.instance.Instance.+finish.Goals.{then-node-len-via-then-node-len, then-node-len-via-else-node-len+then-is_bounded_by, in-Some, in-None}

pub returns-then-node-len-clause-answer : goal.returns-then-node-len-clause-answer
returns-then-node-len-clause-answer t c =
    raised_answer c.args.self.now c.args.best c.raised-best.result c.args.node.picks c.args.node.taken.value c.requires.best (own_feasible _ _ _ c.requires.node.is_node) c.requires.node.value c.raised-best.ensures.one

pub returns-then-node-len-clause-covers : goal.returns-then-node-len-clause-covers
returns-then-node-len-clause-covers t c = elim c.then-node-len.branch [
  | then-node-len-via-then-node-len w ↦
      covers_last c.args.self.now c.args.node.level c.args.node.picks c.raised-best.result.value (search rules) (omega (arith, c.requires.node.value, c.raised-best.ensures.better.1))
  | then-node-len-via-else-node-len+then-is_bounded_by w ↦ w.is_bounded_by.ensures.sound w.if-is_bounded_by.true
]

pub finish-best-requires : goal.finish-best-requires
finish-best-requires t c =
    let p = c.args.self.now in
    let child = c.in-Some.ensures in (
      search rules,
      (
        child.0,
        raised_answer p c.args.best c.raised-best.result c.args.node.picks c.args.node.taken.value c.requires.best (own_feasible _ _ _ c.requires.node.is_node) c.requires.node.value c.raised-best.ensures.one,
      ),
    )

pub finish-requires : goal.finish-requires
finish-requires t c =
    let p = c.args.self.now in
    let before : IsAnswer p c.raised-best.result = raised_answer p c.args.best c.raised-best.result c.args.node.picks c.args.node.taken.value c.requires.best (own_feasible _ _ _ c.requires.node.is_node) c.requires.node.value c.raised-best.ensures.one in
    let after : IsAnswer p c.match-taking.best = elim c.match-taking.branch [
      | in-Some w ↦ rw w.best-is w.finish-best.ensures.answer
      | in-None w ↦ rw w.best-is before
    ] in
    (search rules, (c.leaving_alike.ensures.node, after))

pub returns-clause-covers : goal.returns-clause-covers
returns-clause-covers t c =
    let p = c.args.self.now in
    let l : ℕ = c.args.node.level in
    let q : ℕ = c.args.node.picks in
    let n : ℕ = c.finish.result.value in
    let rest : NoneAbove p c.leaving_alike.result.level q n = rw c.leaving_alike.ensures.picks at c.finish.ensures.covers in
    let take : NoneAbove p (l + 1) (q + 2 ^ l) n = elim c.match-taking.branch [
      | in-Some w ↦
          let child = w.in-Some.ensures in
          let covers = rw (child.1, child.2) at w.finish-best.ensures.covers in
          covers_more p (l + 1) (q + 2 ^ l) w.finish-best.result.value n (rw w.best-is at c.finish.ensures.kept) covers
      | in-None w ↦ λ s completion. absurd (omega (arith, completed_fits p (l + 1) (q + 2 ^ l) s completion, w.in-None.ensures))
    ] in
    c.leaving_alike.ensures.covers n take rest
