use Rattle.std.proofs.Common.{rules, ◌≡◌, ◌<◌, ◌+◌, ◌%◌, ◌^◌, ◌∷◌, ◌++◌, [], length, map, append_assoc, sym, ap, subst, ◌∙◌, arith}
use Rattle.std.specs.Arc.{arc_value}
use Rattle.std.proofs.lemmas.List.{append-nil}
use Rattle.klsm_parts.specs.Choices.{choice_by}
use Rattle.klsm_board.specs.Balancing.{balancing_each}
use Rattle.klsm_owned.specs.Owned.{BalanceEach, PickBy, balancing_of, choice_of, member_of, members_of}
use Rattle.klsm_owned.proofs.ListLemmas.{each_push, front_taken, length_mapped, map_push, none_in}
use Rattle.klsm_owned.proofs.opening.box_members.Goals as goal

pub loop-number-preserved : goal.loop-number-preserved
loop-number-preserved c =
    let old = c.loop-number.members.items in let inv = c.loop-number.invariant in let n = c.loop-number.number in
    let x = c.remove.result in let rest = c.remove.new.self.items in let board = arc_value c.args.board.now in
    let some_left : 0 < length old = omega (arith, inv.left, c.loop-number-test.true, c.len-count.ensures) in
    let e : old ≡ x ∷ rest = front_taken old rest x some_left c.remove.ensures.value c.remove.ensures.by_index.2 in
    let s = c.in_ok-new.field-0 in let boxes = c.loop-number.boxes.items in let values = map (λ b. b.value) boxes in
    let is : member_of s.value ≡ x = ap member_of c.in_ok-new.ensures.ok in
    let count : length values ≡ n = length_mapped (λ b. b.value) boxes ∙ inv.made in
    let last : choice_of s.value ≡ choice_by c.args.pick ((c.args.seed + length values) % 2 ^ 64) = ap choice_of c.in_ok-new.ensures.ok ∙ (c.of.ensures ∙ search rules) in
    let pushed = ap (map (λ b. b.value)) c.in_ok-push.ensures.items ∙ map_push (λ b. b.value) boxes s in
    record {
      left = search rules;
      of = search rules;
      made = search rules;
      boxed = ap (λ vs. members_of vs ++ rest) pushed
          ∙ (ap (λ ms. ms ++ rest) (map_push member_of values s.value)
          ∙ (append_assoc (members_of values) (member_of s.value ∷ []) rest
          ∙ (ap (λ m. members_of values ++ m ∷ rest) is ∙ (ap (λ ms. members_of values ++ ms) (sym e) ∙ inv.boxed))));
      balancings = subst (BalanceEach c.args.balance) (sym pushed)
          (each_push (λ i y. balancing_of y ≡ balancing_each c.args.balance) values s.value inv.balancings (ap balancing_of c.in_ok-new.ensures.ok ∙ c.each.ensures));
      pickers = subst (PickBy c.args.pick c.args.seed) (sym pushed)
          (each_push (λ i y. choice_of y ≡ choice_by c.args.pick ((c.args.seed + i) % 2 ^ 64)) values s.value inv.pickers last);
    }

pub returns-clause-members : goal.returns-clause-members
returns-clause-members c =
    let inv = c.loop-number.invariant in let values = map (λ b. b.value) c.loop-number.boxes.items in
    let none : c.loop-number.members.items ≡ [] = none_in c.loop-number.members.items (omega (arith, inv.left, c.loop-number-test.false, c.len-count.ensures)) in
    sym (append-nil (members_of values)) ∙ (ap (λ ms. members_of values ++ ms) (sym none) ∙ inv.boxed)
