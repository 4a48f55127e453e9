use Rattle.std.proofs.Common.{rules, ◌≡◌, ◌+◌, ◌-◌, ◌<◌, ◌≤◌, length, take, drop, refl, sym, ap, ◌∙◌, inl, inr, arith}
use Rattle.std.proofs.lemmas.List.{length-take, length-drop, take_all}
use borrow.Rule.Slice.PartMut.{same_len_mid}
use Rattle.klsm_parts.specs.Parts.{items_in}
use Rattle.klsm_pile.specs.Leaving.{cut_least}
use Rattle.klsm_parts.proofs.RefillLemmas.{moved_on}
use Rattle.klsm_parts.proofs.refilling.move_least.Goals as goal

pub loop-done-init : goal.loop-done-init
loop-done-init g c = record { few = omega arith; len = refl; moved = refl; left = refl; blocks = λ few. inl (refl, refl); shared_k = refl }

pub candidates-requires : goal.candidates-requires
candidates-requires g c = search rules

pub take_least-requires : goal.take_least-requires
take_least-requires g c =
    let now = c.loop-done.invariant in
    let k = c.loop-done.done + c.min-count.result - c.loop-done.done in
    let lent = length-take k (drop c.loop-done.done c.loop-done.places) in
    let rest = length-drop c.loop-done.done c.loop-done.places in
    let left : length (items_in c.loop-done.shared) ≡ length (items_in c.args.shared.now) - c.loop-done.done = ap length now.left ∙ length-drop c.loop-done.done (items_in c.args.shared.now) in
    let count = length-take (c.loop-done.shared.k + 1) (items_in c.loop-done.shared) in
    (search rules, (omega (arith, lent, rest, left, count, c.min-count.ensures, c.candidates.ensures, c.loop-done-test.true, now.len, c.requires), omega (arith, lent, c.min-count.ensures, c.candidates.ensures)))

pub loop-done-preserved : goal.loop-done-preserved
loop-done-preserved g c =
    let now = c.loop-done.invariant in let all = items_in c.args.shared.now in
    let n = c.loop-done.done in let m = c.min-count.result in let k = n + m - n in
    let is : k ≡ m = omega arith in
    let few : n + m ≤ length c.loop-done.places = omega (arith, c.min-count.ensures, c.loop-done-test.true) in
    let lent : length (take k (drop n c.loop-done.places)) ≡ k = omega (arith, length-take k (drop n c.loop-done.places), length-drop n c.loop-done.places, few, is) in
    let on = moved_on n m k all c.loop-done.places c.take_least.new.places (items_in c.loop-done.shared) (items_in c.take_least.new.self) is few now.moved now.left (omega (arith, few, now.len, c.requires))
    (c.take_least.ensures.taken ∙ ap (λ i. take i (items_in c.loop-done.shared)) lent) (c.take_least.ensures.left ∙ ap (λ i. drop i (items_in c.loop-done.shared)) lent) in
    record {
      few = on.few;
      len = on.len ∙ now.len;
      moved = on.moved;
      left = on.left_is;
      blocks = λ at_once. elim (now.blocks at_once) [
        | inl start ↦
            let size : length (items_in c.loop-done.shared) ≡ length all - n = ap length now.left ∙ length-drop n all in
            let most : m ≡ length c.args.places.now = omega (arith, c.min-count.ensures, c.candidates.ensures, start.0, now.len, at_once, c.requires, size, now.shared_k, length-take (c.loop-done.shared.k + 1) (items_in c.loop-done.shared)) in
            inr (omega (arith, most, start.0), c.take_least.ensures.blocks ∙ (ap (λ i. cut_least i c.loop-done.shared.blocks) (lent ∙ (is ∙ most)) ∙ ap (cut_least (length c.args.places.now)) start.1))
        | inr gone ↦ absurd (omega (arith, gone.0, c.loop-done-test.true, now.len))
      ];
      shared_k = c.take_least.ensures.k ∙ now.shared_k;
    }

pub loop-done-smaller : goal.loop-done-smaller
loop-done-smaller g c =
    let now = c.loop-done.invariant in
    let n = c.loop-done.done in let m = c.min-count.result in let k = n + m - n in
    let is : k ≡ m = omega arith in
    let few : n + m ≤ length c.loop-done.places = omega (arith, c.min-count.ensures, c.loop-done-test.true) in
    let left : length (items_in c.loop-done.shared) ≡ length (items_in c.args.shared.now) - n = ap length now.left ∙ length-drop n (items_in c.args.shared.now) in
    let some : 0 < m = omega (arith, c.min-count.ensures, c.candidates.ensures, c.loop-done-test.true, now.len, c.requires, left, length-take (c.loop-done.shared.k + 1) (items_in c.loop-done.shared)) in
    let lent : length c.take_least.new.places ≡ length (take k (drop n c.loop-done.places)) = c.take_least.auto.places in
    let size = same_len_mid n k c.loop-done.places c.take_least.new.places lent in
    omega (arith, some, few, size)

pub returns-clause-moved : goal.returns-clause-moved
returns-clause-moved g c =
    let now = c.loop-done.invariant in
    let done : c.loop-done.done ≡ length c.args.places.now = omega (arith, now.few, now.len, c.loop-done-test.false) in
    let all : length c.loop-done.places ≤ c.loop-done.done = omega (arith, done, now.len) in
    (sym (take_all c.loop-done.done c.loop-done.places all)) ∙ (now.moved ∙ ap (λ i. take i (items_in c.args.shared.now)) done)

pub returns-clause-left : goal.returns-clause-left
returns-clause-left g c =
    let now = c.loop-done.invariant in
    let done : c.loop-done.done ≡ length c.args.places.now = omega (arith, now.few, now.len, c.loop-done-test.false) in
    now.left ∙ ap (λ i. drop i (items_in c.args.shared.now)) done

pub returns-clause-blocks : goal.returns-clause-blocks
returns-clause-blocks g c some at_once =
    let now = c.loop-done.invariant in
    let done : c.loop-done.done ≡ length c.args.places.now = omega (arith, now.few, now.len, c.loop-done-test.false) in
    elim (now.blocks at_once) [
      | inl start ↦ absurd (omega (arith, start.0, done, some))
      | inr gone ↦ gone.1
    ]
