use Rattle.std.proofs.Common.{◌≡◌, ◌+◌, false, true, get_or, length, length-append, sym, ap, ◌∙◌, arith, vec_len, vec_capacity}
use Rattle.std.specs.Mem.Slots.{slots_items, slots_filled, slots_counts}
use lib.ListN.{get_elem?}
use Rattle.klsm_run.specs.Content.{sorted}
use Rattle.klsm_board.proofs.lemmas.ending.ListLemmas.{part_within, one_more_out}
use Rattle.klsm_board.proofs.finishing.list_parts.Goals as goal

pub unreachable-requires : goal.unreachable-requires
unreachable-requires g c =
    let slots = slots_items c.args.closed.now.slots in let n = c.loop-part.part in let inv = c.loop-part.invariant in let out = inv.2 in
    let counts = (slots_counts c.args.closed.now.slots).0 in let full = c.requires.full.1 in
    let there = ap (λ z. get_elem? z n) (sym inv.0) ∙ c.take.ensures.value in
    let part = part_within g.S.Holding.content slots n c.take.result (omega (arith, counts, full, c.loop-part-test.true)) there in
    let never : false ≡ true = c.in_default.ensures.succeeds (omega (arith, part, out.len_is, out.room, c.requires.room)) in cc

pub loop-part-preserved : goal.loop-part-preserved
loop-part-preserved g c =
    let slots = slots_items c.args.closed.now.slots in let n = c.loop-part.part in let inv = c.loop-part.invariant in let out = inv.2 in
    let counts = (slots_counts c.args.closed.now.slots).0 in let full = c.requires.full.1 in
    let filled = (slots_counts c.loop-part.closed.slots).1 in
    let there = ap (λ z. get_elem? z n) (sym inv.0) ∙ c.take.ensures.value in
    let outcome = c.in-Ok.ensures in let items = outcome.items in let others = c.take.ensures.others in
    let next = one_more_out g.S.Holding.content slots n (slots_filled c.loop-part.closed.slots) c.loop-part.all.items (vec_len c.loop-part.all) (vec_capacity c.args.all.now) (vec_capacity c.loop-part.all) c.take.result items.0 (vec_capacity c.append_to.new.all)
    (omega (arith, counts, full, c.loop-part-test.true)) (omega (arith, filled, inv.1, counts)) there items.1 outcome.capacity out in
    let all = c.append_to.new.all in let before = c.loop-part.all in
    let longer : vec_len all ≡ vec_len before + length items.0 = all.ok.0 ∙ (ap length items.2 ∙ (length-append before.items items.0 ∙ ap (λ z. z + length items.0) (sym before.ok.0))) in (
      others.0 ∙ inv.0,
      others.2 ∙ inv.1,
      record {
        out = λ i below. ap (λ z. get_or z i false) others.1 ∙ next.out i below;
        there = λ i from below. ap (λ z. get_or z i false) others.1 ∙ next.there i from below;
        sorted_are = ap sorted items.2 ∙ next.sorted_are;
        len_is = longer ∙ next.len_is;
        room = next.room;
      },
    )

pub unreachable-unreachable : goal.unreachable-unreachable
unreachable-unreachable g c = c.unreachable.type_inv
