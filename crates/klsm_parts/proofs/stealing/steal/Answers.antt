use Rattle.std.proofs.Common.{◌≡◌, ◌+◌, ◌<◌, ◌++◌, length, take, drop, refl, sym, ap, ◌∙◌, subst, arith}
use Rattle.std.proofs.lemmas.List.{drop-drop, length-append, length-take, length-drop}
use Rattle.klsm_run.specs.Content.{ShareNone}
use Rattle.klsm_run.proofs.SortedLemmas.{length_sorted}
use Rattle.klsm_lsm.specs.Lsm.{content}
use Rattle.klsm_lsm.specs.Adding.{add}
use Rattle.klsm_lsm.proofs.ContentLemmas.{ascending_content}
use Rattle.klsm_parts.specs.Parts.{items_in}
use Rattle.klsm_parts.specs.Events.{plus}
use Rattle.klsm_parts.specs.Stealing.{MaySteal, AreCutFrom, own_after_steal, victim_after_steal, with_each}
use Rattle.klsm_parts.proofs.StealLemmas.{plus_none, plus_more, still_apart, are_stolen, with_one_more, cut_one_more}
use Rattle.klsm_parts.proofs.stealing.steal.Goals as goal

pub returns-then-count-eq0-clause-count : goal.returns-then-count-eq0-clause-count
returns-then-count-eq0-clause-count g c = sym c.if-count-eq0.true ∙ c.count_to_steal-count.ensures.count

pub loop-done-init : goal.loop-done-init
loop-done-init g c = record { few = omega arith; moved = plus_none (content c.args.own.now.blocks); left = refl; own_blocks = refl; victim_blocks = refl; own_k = refl; victim_k = refl }

pub steal_least-requires : goal.steal_least-requires
steal_least-requires g c =
    let now = c.loop-done.invariant in let n = c.loop-done.done in
    let own = items_in c.args.own.now in let victim = items_in c.args.victim.now in
    let told = c.count_to_steal-count.ensures in
    let up = ascending_content c.args.victim.now.blocks told.lawful in
    let some : 0 < length (items_in c.loop-done.victim) = omega (arith, ap length now.left, length-drop n victim, told.count, c.loop-done-test.true) in
    let size : length (items_in c.loop-done.own) ≡ length (take n victim) + length own = ap length now.moved ∙ (length_sorted (take n victim ++ own) ∙ length-append (take n victim) own) in
    let room : length (items_in c.loop-done.own) < c.loop-done.own.k = omega (arith, size, length-take n victim, told.count, told.few, c.loop-done-test.true, now.own_k) in
    let apart : ShareNone (items_in c.loop-done.own) (items_in c.loop-done.victim) =
    subst (λ xs. ShareNone xs (items_in c.loop-done.victim)) (sym now.moved) (subst (λ xs. ShareNone (plus own (take n victim)) xs) (sym now.left) (still_apart n own victim up c.requires.apart)) in
    (search, (c.requires.capacity, (some, (room, apart))))

pub loop-done-preserved : goal.loop-done-preserved
loop-done-preserved g c =
    let now = c.loop-done.invariant in let n = c.loop-done.done in
    let own = items_in c.args.own.now in let victim = items_in c.args.victim.now in
    record {
      few = omega (arith, c.loop-done-test.true);
      moved = c.steal_least.ensures.own ∙ (ap (λ xs. plus xs (take 1 (items_in c.loop-done.victim))) now.moved ∙ (ap (λ xs. plus (plus own (take n victim)) (take 1 xs)) now.left ∙ plus_more n own victim));
      left = c.steal_least.ensures.victim ∙ (ap (λ xs. drop 1 xs) now.left ∙ drop-drop 1 n victim);
      own_blocks = c.steal_least.ensures.own_blocks ∙ (ap (λ bs. add bs (take 1 (items_in c.loop-done.victim))) now.own_blocks ∙ (ap (λ xs. add (with_each c.args.own.now.blocks (take n victim)) (take 1 xs)) now.left ∙ with_one_more n c.args.own.now.blocks victim (omega (arith, c.count_to_steal-count.ensures.count, c.loop-done-test.true))));
      victim_blocks = cut_one_more n victim c.args.victim.now.blocks c.loop-done.victim.blocks c.steal_least.new.victim.blocks now.victim_blocks (subst (λ xs. AreCutFrom (take 1 xs) c.loop-done.victim.blocks c.steal_least.new.victim.blocks) now.left c.steal_least.ensures.victim_blocks);
      own_k = c.steal_least.ensures.own_k ∙ now.own_k;
      victim_k = c.steal_least.ensures.victim_k ∙ now.victim_k;
    }

pub loop-done-smaller : goal.loop-done-smaller
loop-done-smaller g c = omega (arith, c.loop-done-test.true)

pub returns-clause-count : goal.returns-clause-count
returns-clause-count g c = c.count_to_steal-count.ensures.count

pub returns-then-count-eq0-clause-own : goal.returns-then-count-eq0-clause-own
returns-then-count-eq0-clause-own g c = ap (λ n. with_each c.args.own.now.blocks (take n (items_in c.args.victim.now))) (sym c.if-count-eq0.true ∙ c.count_to_steal-count.ensures.count)

pub returns-then-count-eq0-clause-victim : goal.returns-then-count-eq0-clause-victim
returns-then-count-eq0-clause-victim g c = subst (λ n. AreCutFrom (take n (items_in c.args.victim.now)) c.args.victim.now.blocks c.args.victim.now.blocks) (sym c.if-count-eq0.true ∙ c.count_to_steal-count.ensures.count) refl

pub returns-clause-own : goal.returns-clause-own
returns-clause-own g c =
    let done : c.loop-done.done ≡ c.count_to_steal-count.result = omega (arith, c.loop-done.invariant.few, c.loop-done-test.false) in
    subst (λ i. c.loop-done.own.blocks ≡ with_each c.args.own.now.blocks (take i (items_in c.args.victim.now))) (done ∙ c.count_to_steal-count.ensures.count) c.loop-done.invariant.own_blocks

pub returns-clause-victim : goal.returns-clause-victim
returns-clause-victim g c =
    let done : c.loop-done.done ≡ c.count_to_steal-count.result = omega (arith, c.loop-done.invariant.few, c.loop-done-test.false) in
    subst (λ i. AreCutFrom (take i (items_in c.args.victim.now)) c.args.victim.now.blocks c.loop-done.victim.blocks) (done ∙ c.count_to_steal-count.ensures.count) c.loop-done.invariant.victim_blocks

pub returns-clause-own_k : goal.returns-clause-own_k
returns-clause-own_k g c = c.loop-done.invariant.own_k

pub returns-clause-victim_k : goal.returns-clause-victim_k
returns-clause-victim_k g c = c.loop-done.invariant.victim_k

pub returns-clause-event : goal.returns-clause-event
returns-clause-event g c some =
    let now = c.loop-done.invariant in
    let own = items_in c.args.own.now in let bs = c.args.victim.now.blocks in let victim = items_in c.args.victim.now in
    let k = c.args.own.now.k in let n = c.count_to_steal-count.result in
    let told = c.count_to_steal-count.ensures in
    let done : c.loop-done.done ≡ n = omega (arith, now.few, c.loop-done-test.false) in
    let up = ascending_content bs told.lawful in
    let stolen = are_stolen k n own (content bs) (items_in c.loop-done.own) (items_in c.loop-done.victim) some
    (omega (arith, told.count, length_sorted (content bs))) (omega (arith, told.count, told.few)) up
    (subst (λ i. items_in c.loop-done.own ≡ plus own (take i victim)) done now.moved) (subst (λ i. items_in c.loop-done.victim ≡ drop i victim) done now.left) in
    subst (λ m. MaySteal k own victim (take m victim) × (items_in c.loop-done.own ≡ own_after_steal own (take m victim)) × (items_in c.loop-done.victim ≡ victim_after_steal victim (take m victim))) told.count
    (stolen.may, stolen.own_is, stolen.left_is)
