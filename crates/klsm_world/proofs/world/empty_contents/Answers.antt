use Rattle.std.proofs.Common.{◌≡◌, [], ◌∷◌, ◌++◌, replicate, arith, ap, ◌∙◌}
use Rattle.std.proofs.lemmas.List.{replicate_more}
use Rattle.klsm_world.proofs.world.empty_contents.Goals as goal

pub loop-init : goal.loop-init
loop-init g c = record { empty = c.in-Ok.ensures.items; counted = c.in-Ok.ensures.len; room = c.in-Ok.ensures.capacity }

pub push_reserved-requires : goal.push_reserved-requires
push_reserved-requires g c = omega (arith, c.loop.invariant.counted, c.loop.invariant.room, c.loop-test.true)

pub loop-preserved : goal.loop-preserved
loop-preserved g c = record {
  empty =
      c.push_reserved.ensures.items
      ∙ (ap (λ xs. xs ++ c.new-in-loop.result ∷ []) c.loop.invariant.empty
      ∙ (ap (λ x. replicate c.loop.counter [] ++ x ∷ []) (c.new-in-loop.ensures ∙ c.new.ensures.items) ∙ replicate_more c.loop.counter []));
  counted = omega (arith, c.push_reserved.ensures.len, c.loop.invariant.counted);
  room = omega (arith, c.push_reserved.ensures.capacity, c.loop.invariant.room);
}

pub returns-clause-empty : goal.returns-clause-empty
returns-clause-empty g c =
    let all : c.loop.counter ≡ c.args.parts = omega (arith, c.loop-test.false, c.loop.auto.counter-end) in
    c.loop.invariant.empty ∙ ap (λ n. replicate n []) all
