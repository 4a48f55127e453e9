use Rattle.std.proofs.Common.{◌≡◌, arith, length, drop, ◌-◌, ◌+◌, ◌++◌, List, [], ◌∷◌, None, refl, ap, ◌∙◌}
use Rattle.std.proofs.lemmas.List.{length-drop, length-append}
use Rattle.klsm_instance.specs.declared.tail.Tail.{Tail}
use Rattle.klsm_instance.specs.Limits.{IsThing}
use Rattle.klsm_instance.specs.Prepared.{IsTail, AreTails}
use Rattle.klsm_instance.proofs.BoundLemmas.{all_drop}
use Rattle.klsm_instance.proofs.TailLemmas.{tail_small, steepest_thing, tails_more, tails_none, before}
use Rattle.klsm_instance.proofs.tail.tails_of.Goals as goal

pub with-tail-requires-clause-value : goal.with-tail-requires-clause-value
with-tail-requires-clause-value c =
    let xs = drop (length c.args.things.now - c.loop-n.n) c.args.things.now in
    tail_small xs c.loop-n.tail (omega (arith, length-drop (length c.args.things.now - c.loop-n.n) c.args.things.now)) (all_drop IsThing _ _ c.requires.things) c.loop-n.invariant.tail

pub with-tail-requires-clause-steepest : goal.with-tail-requires-clause-steepest
with-tail-requires-clause-steepest c =
    let xs = drop (length c.args.things.now - c.loop-n.n) c.args.things.now in
    steepest_thing xs c.loop-n.tail.steepest (all_drop IsThing _ _ c.requires.things) c.loop-n.invariant.tail.steepest

pub loop-n-preserved : goal.loop-n-preserved
loop-n-preserved c =
    let things = c.args.things.now in
    let n = c.loop-n.n in
    let tail : IsTail (drop (length things - (n + 1)) things) c.with-tail.result
    = rw (before things n (record { value = 0; weight = 0 }) c.loop-n-test.true) (c.with-tail.ensures (drop (length things - n) things) c.loop-n.invariant.tail) in
    record {
      as_many = rw c.in_ok-push-2.ensures.items (omega (arith, length-append c.loop-n.tails.items (c.with-tail.result ∷ []), c.loop-n.invariant.as_many));
      tail = tail;
      are = rw c.in_ok-push-2.ensures.items (tails_more things c.loop-n.tails.items c.with-tail.result (n + 1) c.loop-n.invariant.as_many tail c.loop-n.invariant.are);
    }

pub loop-n-init : goal.loop-n-init
loop-n-init c =
    let things = c.args.things.now in
    let tail : Tail = record { value = 0; steepest = None } in
    let none : IsTail [] tail = record { value = refl; steepest = refl } in
    let items : c.push.new.self.items ≡ tail ∷ [] = c.in_ok-push.ensures.items ∙ ap (λ (ts : List Tail). ts ++ tail ∷ []) c.new-tails.ensures.items in
    let are : AreTails things (tail ∷ []) = tails_none things tail none in
    record { as_many = ap length items; tail = are 0 tail refl; are = rw items are }
