use Rattle.std.proofs.Common.{◌≡◌, ◌+◌, ◌-◌, ℕ, List, [], drop, arith, rules, sym, subst, ap, ◌∙◌, inl, refl, lit<}
use Rattle.std.proofs.lemmas.List.{drop_all}
use Rattle.std.proofs.lemmas.Result.{IfOk-weaker}
use Rattle.klsm_instance.specs.declared.thing.Thing.{Thing}
use Rattle.klsm_instance.specs.Selections.{value_of, weight_of}
use Rattle.klsm_instance.specs.Nodes.{IsBound, IsGain, NoneAbove, level_in, picks_in}
use Rattle.klsm_knapsack.specs.Numbers.{value_in}
use Rattle.std.proofs.Math.Pow.{shr_mono}
use Rattle.klsm_knapsack.specs.Workers.{work_by}
use Rattle.klsm_knapsack.proofs.WorkLemmas.{done_node, inserts_none, extends_none, extends_both, same_both}
use Rattle.klsm_instance.proofs.SearchLemmas.{covers_last, covers_more}
use Rattle.klsm_knapsack.proofs.search_state.Worker.examine.Goals as goal
use Rattle.klsm_knapsack.proofs.search_state.Worker.examine.Goals.{then-node-len-via-then-node-len, then-node-len-via-else-node-len+then-bound_of-found}

pub returns-then-node-len-clause-done : goal.returns-then-node-len-clause-done
returns-then-node-len-clause-done g c = λ x is is_item.
    let p = c.args.instance.now in
    let node = c.in-Some.ensures in
    let l : ℕ = c.in-Some.node.level in
    let q : ℕ = c.in-Some.node.picks in
    let found : ℕ = c.raise_to-found.result in
    let closed : NoneAbove p l q found = elim c.then-node-len.branch [
      | then-node-len-via-then-node-len w ↦ covers_last p l q found (search rules) c.raise_to-found.ensures.raises
      | then-node-len-via-else-node-len+then-bound_of-found w ↦ covers_more p l q w.bound_of.result found w.if-bound_of-found.true w.bound_of.ensures.sound
    ] in
    let level : l ≡ level_in x.load = node.1 ∙ ap level_in (sym is) in
    let picks : q ≡ picks_in x.load = node.2 ∙ ap picks_in (sym is) in
    inl (subst (λ (n : ℕ). NoneAbove p (level_in x.load) (picks_in x.load) n) c.raise_to-found.ensures.found.0
    (subst (λ (m : ℕ). NoneAbove p m (picks_in x.load) found) level
    (subst (λ (m : ℕ). NoneAbove p l m found) picks closed)))

pub returns-in_default-clause-extends : goal.returns-in_default-clause-extends
returns-in_default-clause-extends g c = extends_none _ _

pub returns-then-node-len-clause-extends : goal.returns-then-node-len-clause-extends
returns-then-node-len-clause-extends g c = record { inserts = inserts_none _ _; deletes = refl; finds = c.raise_to-found.ensures.found.1 }

pub expand-requires-after_bounds : goal.expand-requires-after_bounds
expand-requires-after_bounds g c κs within =
    let node = c.in-Some.ensures in
    (lit< tt, (lit< tt, (record { member = c.requires.of.member; seat = c.raise_to-found.ensures.same ∙ c.requires.of.seat }, (c.requires.room, (c.requires.problem, (node.3, (node.0, (omega (arith, node.0.is_node.of_things, c.if-node-len.false, c.len.ensures.len), c.requires.answered))))))))

pub returns-clause-same : goal.returns-clause-same
returns-clause-same g c = same_both c.args.self.now _ c.expand.new.self record { member = (refl, refl, refl); seat = c.raise_to-found.ensures.same } c.expand.ensures.same

pub returns-clause-extends : goal.returns-clause-extends
returns-clause-extends g c =
    IfOk-weaker c.expand.result _ _ (λ _ more. extends_both _ _ _ _ record { inserts = inserts_none _ _; deletes = refl; finds = c.raise_to-found.ensures.found.1 } more) c.expand.ensures.extends

pub returns-clause-done : goal.returns-clause-done
returns-clause-done g c =
    let node = c.in-Some.ensures in
    IfOk-weaker c.expand.result _ _ (λ _ done x is is_item. done_node c.args.instance.now (work_by c.expand.new.self) x c.in-Some.node.level c.in-Some.node.picks (node.1 ∙ ap level_in (sym is)) (node.2 ∙ ap picks_in (sym is)) done) c.expand.ensures.done

pub returns-in_default-clause-raises : goal.returns-in_default-clause-raises
returns-in_default-clause-raises g c = λ node. absurd (c.in_default.ensures node)

pub returns-then-node-len-clause-raises : goal.returns-then-node-len-clause-raises
returns-then-node-len-clause-raises g c = λ is_node.
    let raised = c.raise_to-found.ensures in
    omega (arith, raised.raises, ap (λ q. value_of c.args.instance.now q) c.in-Some.ensures.2, raised.found.0)

pub returns-clause-raises : goal.returns-clause-raises
returns-clause-raises g c = λ is_node.
    let raised = c.raise_to-found.ensures in
    omega (arith, raised.raises, ap (λ q. value_of c.args.instance.now q) c.in-Some.ensures.2, raised.found.0, shr_mono 32 c.expand.ensures.finds)

pub returns-in_default-clause-closes : goal.returns-in_default-clause-closes
returns-in_default-clause-closes g c = λ node. absurd (c.in_default.ensures node)

pub returns-then-node-len-clause-closes : goal.returns-then-node-len-clause-closes
returns-then-node-len-clause-closes g c = λ is_node not_alone.
    let p = c.args.instance.now in
    let node = c.in-Some.ensures in
    let l : ℕ = c.in-Some.node.level in
    let q : ℕ = c.in-Some.node.picks in
    let bounded : (bound : ℕ) × IsBound p l q bound = elim c.then-node-len.branch [
      | then-node-len-via-then-node-len w ↦
          let none : drop l p.things ≡ [] = drop_all l p.things (search rules) in
          (value_of p q + 0, (0, subst (λ (xs : List Thing). IsGain xs (p.capacity - weight_of p q) 0) (sym none) refl, refl))
      | then-node-len-via-else-node-len+then-bound_of-found w ↦ (w.bound_of.result, w.bound_of.ensures.exact)
    ] in
    (bounded.0, subst (λ (m : ℕ). IsBound p m (picks_in c.args.load) bounded.0) node.1 (subst (λ (m : ℕ). IsBound p l m bounded.0) node.2 bounded.1), λ few. refl)

pub returns-clause-closes : goal.returns-clause-closes
returns-clause-closes g c = λ is_node not_alone.
    let p = c.args.instance.now in
    let node = c.in-Some.ensures in
    let l : ℕ = c.in-Some.node.level in
    let bound : ℕ = c.bound_of.result in
    let raised = c.raise_to-found.ensures in (
      bound,
      subst (λ (m : ℕ). IsBound p m (picks_in c.args.load) bound) node.1 (subst (λ (m : ℕ). IsBound p l m bound) node.2 c.bound_of.ensures.exact),
      λ few. absurd (omega (arith, few, c.if-bound_of-found.false, raised.found.0, ap value_in (c.expand.ensures.splits not_alone))),
    )

pub returns-in_default-clause-course : goal.returns-in_default-clause-course
returns-in_default-clause-course g c = λ first on. on

pub returns-then-node-len-clause-course : goal.returns-then-node-len-clause-course
returns-then-node-len-clause-course g c = λ first on. on

pub returns-clause-course : goal.returns-clause-course
returns-clause-course g c = λ first on. c.expand.ensures.course first on

pub returns-clause-memory : goal.returns-clause-memory
returns-clause-memory g c = c.expand.ensures.goes_on
