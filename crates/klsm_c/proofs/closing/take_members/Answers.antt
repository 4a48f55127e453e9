use Rattle.std.proofs.Common.{rules, ◌≡◌, ◌<◌, ◌≤◌, ◌++◌, [], length, length-append, map, slice_index_or, slice_set, append-nil, sym, ap, subst, ◌∙◌, arith}
use Rattle.std.specs.Prelude.{MatchOption}
use Rattle.std.specs.Arc.{arc_value}
use Rattle.std.proofs.lemmas.List.{length-map}
use lib.ListN.{get_elem?}
use Rattle.klsm_board.proofs.lemmas.ending.JoinLemmas.{at_end}
use Rattle.klsm_owned.specs.Owned.{member_of, members_of}
use Rattle.klsm_c.specs.Closing.{HasOneOf}
use Rattle.klsm_c.specs.Slots.{held_in}
use Rattle.klsm_c.proofs.ListLemmas.{copied_more, index_mapped, map_set}
use Rattle.klsm_c.proofs.SlotLemmas.{all_closed, blank, held, none, still_held}
use Rattle.klsm_c.proofs.SumLemmas.{members_more}
use Rattle.klsm_c.proofs.closing.take_members.Goals.{in-Some, in_default}
use Rattle.klsm_c.proofs.closing.take_members.Goals as goal

pub returns-clause-closed : goal.returns-clause-closed
returns-clause-closed c = all_closed c.loop-i.slots c.args.slots.now c.loop-i.i c.loop-i.invariant.slots c.loop-i-test.false

pub loop-i-preserved : goal.loop-i-preserved
loop-i-preserved c =
    let now = c.loop-i.slots in let old = c.args.slots.now in let i = c.loop-i.i in let d = c.index-slots-i.result in let inv = c.loop-i.invariant in
    let h : i < length old = omega (arith, c.loop-i-test.true, inv.long) in let hs = held_in old in
    let e = still_held now old i d inv.slots inv.long h in
    let at = index_mapped held old i d none h in let blanks = index_mapped blank old i d none h in
    let is = e ∙ sym at.1 in let before = c.loop-i.members.items in let after = c.take_member.new.members.items in let added = c.take_member.ensures.members in
    let few : length (slice_index_or hs i none) ≤ 1 = let slot = slice_index_or old i d in omega (arith, ap length at.1, slot.single, slot.fits) in
    let slot_has = held (slice_index_or now i d) in let longer = ap length added ∙ length-append before (members_of slot_has) in let many = length-map slot_has member_of in
    record {
      slots = map_set held now i c.take_member.new.slot ∙ (ap (λ xs. slice_set (held_in now) i xs) c.take_member.ensures.closed ∙ (ap (λ xss. slice_set xss i none) inv.slots
          ∙ copied_more (map blank old) hs i none blanks.0 at.0 blanks.1));
      long = search rules;
      members = added ∙ (ap (λ xs. before ++ members_of xs) is ∙ (ap (λ ms. ms ++ members_of (slice_index_or hs i none)) inv.members ∙ sym (members_more hs i at.0)));
      few = omega (arith, longer, many, inv.few, few, ap length is);
      room = search rules;
      board = elim c.match-take_member.branch [
        | in-Some w ↦
            let b = w.in-Some.board in let told = w.in-Some.ensures.board in
            subst (λ last. MatchOption last (after ≡ []) (λ b. HasOneOf (arc_value b) after)) (sym w.last-is) (record {
              at = length before;
              member = told.0;
              there = ap (λ ms. get_elem? ms (length before)) (added ∙ ap (λ ms. before ++ ms) told.1) ∙ at_end before told.0 [];
              of = told.2;
            })
        | in_default w ↦
            let same = added ∙ (ap (λ xs. before ++ members_of xs) w.in_default.ensures.board ∙ append-nil before) in
            subst (λ last. MatchOption last (after ≡ []) (λ b. HasOneOf (arc_value b) after)) (sym w.last-is)
            (subst (λ ms. MatchOption c.loop-i.last (ms ≡ []) (λ b. HasOneOf (arc_value b) ms)) (sym same) inv.board)
      ];
    }
