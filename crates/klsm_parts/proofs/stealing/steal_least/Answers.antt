use Rattle.std.proofs.Common.{refl, ap, sym, subst, ◌∙◌, arith}
use Rattle.klsm_run.proofs.SortedLemmas.{length_sorted}
use Rattle.klsm_lsm.specs.Lsm.{content}
use Rattle.klsm_lsm.specs.Adding.{add}
use Rattle.klsm_parts.specs.Parts.{PartState, items_in}
use Rattle.klsm_parts.specs.Events.{plus}
use Rattle.klsm_parts.specs.Stealing.{AreCutFrom}
use Rattle.klsm_parts.proofs.StealLemmas.{first_taken, without_least, least_is_new}
use Rattle.klsm_parts.proofs.stealing.steal_least.Goals as goal

pub take_least-least-requires : goal.take_least-least-requires
take_least-least-requires g c = (search, omega (arith, c.requires.some, length_sorted (content c.args.victim.now.blocks)))

pub put-requires : goal.put-requires
put-requires g c =
    let own = content c.args.own.now.blocks in let victim = content c.args.victim.now.blocks in
    (search, (c.requires.capacity, (omega (arith, c.requires.room, length_sorted own), least_is_new own victim c.take_least-least.result c.requires.apart c.take_least-least.ensures.least)))

pub returns-clause-own_k : goal.returns-clause-own_k
returns-clause-own_k g c = ap (λ (p : PartState). p.k) c.put.ensures.blocks

pub returns-clause-victim_k : goal.returns-clause-victim_k
returns-clause-victim_k g c = c.take_least-least.ensures.k

pub returns-clause-own : goal.returns-clause-own
returns-clause-own g c =
    c.put.ensures.event.1 ∙ ap (λ xs. plus (items_in c.args.own.now) xs) (sym (first_taken (items_in c.args.victim.now) c.take_least-least.result c.take_least-least.ensures.least))

pub returns-clause-victim : goal.returns-clause-victim
returns-clause-victim g c = c.take_least-least.ensures.event.1 ∙ without_least (items_in c.args.victim.now) c.take_least-least.result c.take_least-least.ensures.least

pub returns-clause-own_blocks : goal.returns-clause-own_blocks
returns-clause-own_blocks g c =
    ap (λ (p : PartState). p.blocks) c.put.ensures.blocks ∙ ap (add c.args.own.now.blocks) (sym (first_taken (items_in c.args.victim.now) c.take_least-least.result c.take_least-least.ensures.least))

pub returns-clause-victim_blocks : goal.returns-clause-victim_blocks
returns-clause-victim_blocks g c =
    subst (λ xs. AreCutFrom xs c.args.victim.now.blocks c.take_least-least.new.own.blocks) (sym (first_taken (items_in c.args.victim.now) c.take_least-least.result c.take_least-least.ensures.least))
    (c.take_least-least.new.own.blocks, c.take_least-least.ensures.cut, refl)
