use Rattle.std.proofs.Common.{rules, arith, ◌≡◌, ℕ, suc, ◌+◌, ◌-◌, ◌<◌, ◌++◌, refl, sym, ap, ◌∙◌, subst, append_assoc}
use Rattle.klsm_board.specs.Steps.{mine}
use Rattle.klsm_board.specs.Deleting.{Passes, PassesBy, Spies, victim_of}
use Rattle.klsm_board.proofs.spying.search_victims.Goals as goal

next_is : (n : ℕ) → 0 < n → suc (n - 1) ≡ n
next_is n pos = omega (arith, pos)

pub try_victim-requires-clause-seat : goal.try_victim-requires-clause-seat
try_victim-requires-clause-seat g c = let inv = c.loop-step.invariant in let seat = c.requires.seat in (inv.same ∙ seat.0, seat.1, seat.2)

pub try_victim-requires-clause-has : goal.try_victim-requires-clause-has
try_victim-requires-clause-has g c = let inv = c.loop-step.invariant in let k = c.requires.has in (k.0, (inv.still k.0 k.1).0)

pub returns-then-try_victim-clause-done : goal.returns-then-try_victim-clause-done
returns-then-try_victim-clause-done g c shared has =
    let t = c.args.thread in let n : ℕ = c.loop-step.step in let inv = c.loop-step.invariant in
    let so_far = inv.still shared has in
    let pos : 0 < n = search rules in let less : n < c.args.threads = search rules in
    let spied = (let h = c.try_victim.ensures.done shared so_far.0 in rw c.if-try_victim.true at h) in (
      spied.0,
      spied.1,
      record {
        passed = n - 1;
        some_left = omega (arith, pos, less);
        added = so_far.1.0;
        passes = so_far.1.1;
        spies = subst (λ v. Spies v (mine c.args.seat.now.me.0 ++ so_far.1.0) (mine c.try_victim.new.seat.me.0) spied.0) (c.victim_at.ensures.value ∙ ap (victim_of c.args.threads t) (sym (next_is n pos)))
            (subst (λ es. Spies c.victim_at.result es (mine c.try_victim.new.seat.me.0) spied.0) so_far.1.2 spied.2);
      },
    )

pub loop-step-preserved : goal.loop-step-preserved
loop-step-preserved g c =
    let t = c.args.thread in let n : ℕ = c.loop-step.step in let inv = c.loop-step.invariant in
    let pos : 0 < n = search rules in let on : suc (n - 1) ≡ (n + 1) - 1 = omega (arith, pos) in
    record {
      same = c.try_victim.ensures.same ∙ inv.same;
      others = c.try_victim.ensures.others ∙ inv.others;
      still = λ shared has.
          let so_far = inv.still shared has in
          let passed = (let h = c.try_victim.ensures.done shared so_far.0 in rw c.if-try_victim.false at h) in (
            passed.0,
            (
              so_far.1.0 ++ passed.1.0,
              subst (λ k. Passes c.args.threads t k (so_far.1.0 ++ passed.1.0)) on
                  (so_far.1.0, passed.1.0, so_far.1.1, subst (λ v. PassesBy v passed.1.0) (c.victim_at.ensures.value ∙ ap (victim_of c.args.threads t) (sym (next_is n pos))) passed.1.1, refl),
              passed.1.2 ∙ (ap (λ z. z ++ passed.1.0) so_far.1.2 ∙ append_assoc (mine c.args.seat.now.me.0) so_far.1.0 passed.1.0),
            ),
          );
    }

pub returns-clause-done : goal.returns-clause-done
returns-clause-done g c shared has =
    let inv = c.loop-step.invariant in let so_far = inv.still shared has in
    let ends : c.loop-step.step ≡ c.args.threads = search rules in
    (so_far.0, (so_far.1.0, subst (λ k. Passes c.args.threads c.args.thread (k - 1) so_far.1.0) ends so_far.1.1, so_far.1.2))

pub loop-step-init : goal.loop-step-init
loop-step-init g c = search rules

pub returns-then-try_victim-clause-others : goal.returns-then-try_victim-clause-others
returns-then-try_victim-clause-others g c = let inv = c.loop-step.invariant in c.try_victim.ensures.others ∙ inv.others

pub returns-clause-others : goal.returns-clause-others
returns-clause-others g c = let inv = c.loop-step.invariant in inv.others
