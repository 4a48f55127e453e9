use Rattle.std.proofs.Common.{◌≡◌, length, refl, sym, ap, ◌∙◌, arith}
use Rattle.klsm_run.proofs.SortedLemmas.{length_sorted}
use Rattle.klsm_run.proofs.ContainsLemmas.{contains_sorted}
use Rattle.klsm_parts.specs.Parts.{PartState, items_in}
use Rattle.klsm_parts.proofs.FitLemmas.{local_fits}
use Rattle.klsm_board.proofs.slot.put_where_room.Goals as goal

pub returns-then-len-k-clause-done : goal.returns-then-len-k-clause-done
returns-then-len-k-clause-done g c =
    let full : length (items_in c.args.own.now) ≡ c.args.own.now.k = length_sorted _ ∙ (sym c.len.ensures.len ∙ (c.if-len-k.true ∙ c.k.ensures.k)) in
    (full, refl)

pub put-requires : goal.put-requires
put-requires g c =
    (local_fits _ c.requires.capacity, (c.requires.capacity, (omega (arith, c.if-len-k.false, c.len.ensures.len, c.len.ensures.few, c.k.ensures.k), λ within. c.requires.new (contains_sorted _ _ within))))

pub len-requires : goal.len-requires
len-requires g c = local_fits _ c.requires.capacity

pub k-requires : goal.k-requires
k-requires g c = local_fits _ c.requires.capacity

pub returns-then-len-k-clause-k : goal.returns-then-len-k-clause-k
returns-then-len-k-clause-k g c = refl

pub returns-clause-k : goal.returns-clause-k
returns-clause-k g c = ap (λ (own : PartState). own.k) c.put.ensures.blocks

pub returns-clause-done : goal.returns-clause-done
returns-clause-done g c = c.put.ensures.event
