use Rattle.std.proofs.Common.{◌≡◌, ℕ, ◌-◌, ◌<◌, ◌≤◌, List, [], ◌∷◌, ◌++◌, length, take, drop, remove, refl, sym, ap, ◌∙◌, arith, zero, suc}
use Rattle.std.proofs.lemmas.List.{take-append-drop}
use Rattle.klsm_lsm.proofs.slots.replace.Goals as goal

-- the last one of so many is gone
last_gone : {X : Type 0} (xs rest : List X) (n : ℕ) → suc n ≤ length xs → remove (take (suc n) xs ++ rest) n ≡ take n xs ++ rest
last_gone [] rest n within = absurd (omega (arith, within))
last_gone (x ∷ xs) rest zero within = refl
last_gone {X} (x ∷ xs) rest (suc n) within = ap (λ (l : List X). x ∷ l) (last_gone xs rest n (omega (arith, within)))

one_gone : {X : Type 0} (xs rest old now : List X) (last : ℕ) → 0 < last → last ≤ length xs → old ≡ take last xs ++ rest → now ≡ remove old (last - 1) → now ≡ take (last - 1) xs ++ rest
one_gone xs rest old now last some within were is =
    let back : suc (last - 1) ≡ last = omega (arith, some) in
    is ∙ (ap (λ l. remove l (last - 1)) were ∙ (ap (λ n. remove (take n xs ++ rest) (last - 1)) (sym back) ∙ last_gone xs rest (last - 1) (omega (arith, back, within))))

-- what stands before and behind a place
before_place : {X : Type 0} (xs rest : List X) (n : ℕ) → n ≤ length xs → take n (take n xs ++ rest) ≡ take n xs
before_place xs rest zero within = refl
before_place [] rest (suc n) within = absurd (omega (arith, within))
before_place {X} (x ∷ xs) rest (suc n) within = ap (λ (l : List X). x ∷ l) (before_place xs rest n (omega (arith, within)))

behind_place : {X : Type 0} (xs rest : List X) (n : ℕ) → n ≤ length xs → drop n (take n xs ++ rest) ≡ rest
behind_place xs rest zero within = refl
behind_place [] rest (suc n) within = absurd (omega (arith, within))
behind_place (x ∷ xs) rest (suc n) within = behind_place xs rest n (omega (arith, within))

put_there : {X : Type 0} (xs rest old : List X) (x : X) (n : ℕ) → n ≤ length xs → old ≡ take n xs ++ rest → take n old ++ x ∷ drop n old ≡ take n xs ++ x ∷ rest
put_there xs rest old x n within were = rw (were, before_place xs rest n within, behind_place xs rest n within) refl

pub loop-last-init : goal.loop-last-init
loop-last-init g c = record {
  from_start = c.requires.order;
  to_end = omega arith;
  gone = sym (take-append-drop c.args.end c.args.slots.now.items);
}

pub overflow_sub-last : goal.overflow_sub-last
overflow_sub-last g c = omega (arith, c.loop-last-test.true)

pub loop-last-smaller-in-loop-last : goal.loop-last-smaller-in-loop-last
loop-last-smaller-in-loop-last g c = omega (arith, c.loop-last-test.true)

pub loop-last-preserved-in-loop-last : goal.loop-last-preserved-in-loop-last
loop-last-preserved-in-loop-last g c = record {
  from_start = omega (arith, c.loop-last-test.true);
  to_end = omega (arith, c.loop-last.invariant.to_end);
  gone = one_gone c.args.slots.now.items _ _ _ c.loop-last.last (omega (arith, c.loop-last-test.true)) (omega (arith, c.loop-last.invariant.to_end, c.requires.within)) c.loop-last.invariant.gone c.remove-merged.ensures.items;
}

pub loop-last-smaller : goal.loop-last-smaller
loop-last-smaller g c = omega (arith, c.loop-last-test.true)

pub loop-last-preserved : goal.loop-last-preserved
loop-last-preserved g c = record {
  from_start = omega (arith, c.loop-last-test.true);
  to_end = omega (arith, c.loop-last.invariant.to_end);
  gone = one_gone c.args.slots.now.items _ _ _ c.loop-last.last (omega (arith, c.loop-last-test.true)) (omega (arith, c.loop-last.invariant.to_end, c.requires.within)) c.loop-last.invariant.gone c.remove-merged.ensures.items;
}

pub returns : goal.returns
returns g c =
    let same : c.loop-last.last ≡ c.args.start = omega (arith, c.loop-last-test.false, c.loop-last.invariant.from_start) in
    c.insert.ensures.items ∙ put_there c.args.slots.now.items (drop c.args.end c.args.slots.now.items) _ _ c.args.start (omega (arith, c.requires.order, c.requires.within)) (c.loop-last.invariant.gone ∙ ap (λ n. take n c.args.slots.now.items ++ drop c.args.end c.args.slots.now.items) same)
