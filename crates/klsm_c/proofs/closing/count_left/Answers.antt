use Rattle.std.proofs.Common.{rules, ◌<◌, ◌≤◌, length, slice_index_or, slice_set, sym, ap, ◌∙◌, arith}
use Rattle.klsm_schedules.specs.OwnSteps.{deleted, inserted}
use Rattle.klsm_c.specs.Calls.{deleted_in, inserted_in}
use Rattle.klsm_c.specs.Slots.{held_in}
use Rattle.klsm_c.proofs.ListLemmas.{index_mapped, map_set, set_same}
use Rattle.klsm_c.proofs.SlotLemmas.{held, none, same_held}
use Rattle.klsm_c.proofs.SumLemmas.{count_more}
use Rattle.klsm_c.proofs.closing.count_left.Goals as goal

pub loop-i-preserved : goal.loop-i-preserved
loop-i-preserved c =
    let now = c.loop-i.slots in let old = c.args.slots.now in let i = c.loop-i.i in let d = c.index-slots-i.result in let inv = c.loop-i.invariant in
    let h : i < length old = omega (arith, c.loop-i-test.true, inv.long) in let hs = held_in old in
    let e = same_held now old i d inv.same inv.long h in
    let at = index_mapped held old i d none h in let here = index_mapped held now i d (held (slice_index_or now i d)) (omega (arith, h, inv.long)) in
    let is = e ∙ sym at.1 in
    let few : length (slice_index_or hs i none) ≤ 1 = let slot = slice_index_or old i d in omega (arith, ap length at.1, slot.single, slot.fits) in
    let insertions = count_more inserted hs i at.0 few in let deletions = count_more deleted hs i at.0 few in
    let more = c.counts_of-counts.ensures.counts.0 ∙ ap inserted_in is in let gone = c.counts_of-counts.ensures.counts.1 ∙ ap deleted_in is in
    let within = c.counts_of-counts.ensures.within in
    record {
      same = map_set held now i c.counts_of-counts.new.slot ∙ (ap (λ xs. slice_set (held_in now) i xs) c.counts_of-counts.ensures.same ∙ (set_same (held_in now) i (held (slice_index_or now i d)) here.1 ∙ inv.same));
      long = search rules;
      insertions = omega (arith, inv.insertions, insertions, more);
      deletions = omega (arith, inv.deletions, deletions, gone);
      few_insertions = omega (arith, inv.few_insertions, within.0);
      few_deletions = omega (arith, inv.few_deletions, within.1);
    }
