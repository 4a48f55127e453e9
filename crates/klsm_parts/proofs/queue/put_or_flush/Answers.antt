use Rattle.std.proofs.Common.{◌≡◌, length, Result, Ok, Err, OnOk, OnErr, refl, sym, subst, inl, inr, arith}
use Rattle.klsm_lsm.specs.Lsm.{content}
use Rattle.klsm_parts.specs.Parts.{PartState}
use Rattle.klsm_parts.specs.Queues.{Joins}
use Rattle.klsm_parts.proofs.queue.put_or_flush.Goals as goal

-- what follows from two facts of a success
on_ok_both : {T E P Q R : Type 0} (r : Result T E) → OnOk r P → OnOk r Q → (P → Q → R) → OnOk r R
on_ok_both (Ok x) p q both = both p q
on_ok_both (Err e) p q both = tt

pub returns-clause-joins : goal.returns-clause-joins
returns-clause-joins g c =
    let full : length (content c.args.own.now.blocks) ≡ c.args.own.now.k = omega (arith, c.if-len-k.false, c.len.ensures.len, c.len.ensures.few, c.k.ensures.k) in
    subst (λ (shared : PartState). OnOk c.flush-answer.result (Joins c.args.item c.args.own.now c.flush-answer.new.own c.args.shared.now shared)) (sym c.exchange.ensures)
    (on_ok_both c.flush-answer.result c.flush-answer.ensures.own c.flush-answer.ensures.shared (λ own shared. inr (full, own, shared)))

pub returns-clause-full : goal.returns-clause-full
returns-clause-full g c =
    let full : length (content c.args.own.now.blocks) ≡ c.args.own.now.k = omega (arith, c.if-len-k.false, c.len.ensures.len, c.len.ensures.few, c.k.ensures.k) in
    (λ why. (full, c.flush-answer.ensures.full.0 why), λ no_place. c.flush-answer.ensures.full.1 no_place.1)

pub len-requires : goal.len-requires
len-requires g c = search

pub k-requires : goal.k-requires
k-requires g c = search

pub put-requires : goal.put-requires
put-requires g c = (search, (c.requires.capacity, (omega (arith, c.if-len-k.true, c.len.ensures.len, c.k.ensures.k), c.requires.new_to_own)))

pub flush-answer-requires : goal.flush-answer-requires
flush-answer-requires g c =
    let full : length (content c.args.own.now.blocks) ≡ c.args.own.now.k = omega (arith, c.if-len-k.false, c.len.ensures.len, c.len.ensures.few, c.k.ensures.k) in
    (search, (search, (c.requires.capacity, (full, (c.requires.apart, (c.requires.new_to_own, c.requires.new_to_shared))))))

pub returns-clause-lawful : goal.returns-clause-lawful
returns-clause-lawful g c = c.len.ensures.lawful

pub returns-then-len-k-clause-lawful : goal.returns-then-len-k-clause-lawful
returns-then-len-k-clause-lawful g c = c.len.ensures.lawful

pub returns-clause-unchanged : goal.returns-clause-unchanged
returns-clause-unchanged g c =
    subst (λ (shared : PartState). OnErr c.flush-answer.result ((c.flush-answer.new.own ≡ c.args.own.now) × (shared ≡ c.args.shared.now))) (sym c.exchange.ensures) c.flush-answer.ensures.unchanged

pub returns-then-len-k-clause-joins : goal.returns-then-len-k-clause-joins
returns-then-len-k-clause-joins g c = inl (omega (arith, c.if-len-k.true, c.len.ensures.len, c.k.ensures.k), c.put.ensures.blocks, refl)

pub returns-then-len-k-clause-full : goal.returns-then-len-k-clause-full
returns-then-len-k-clause-full g c = (λ bad. absurd bad, λ none. omega (arith, none.0, c.if-len-k.true, c.len.ensures.len, c.k.ensures.k))

pub returns-then-len-k-clause-put : goal.returns-then-len-k-clause-put
returns-then-len-k-clause-put g c room = refl

pub returns-then-len-k-clause-unchanged : goal.returns-then-len-k-clause-unchanged
returns-then-len-k-clause-unchanged g c = tt

pub returns-clause-put : goal.returns-clause-put
returns-clause-put g c room = absurd (omega (arith, room, c.if-len-k.false, c.len.ensures.len, c.k.ensures.k))
