use Rattle.std.proofs.Common.{rules, ◌≡◌, ◌-◌, ◌++◌, false, length, map, ap, sym, subst, ◌∙◌}
use Rattle.std.specs.Prelude.{replicate}
use Rattle.klsm_run.specs.declared.limits.TheConstants.{MOST_THREADS}
use Rattle.klsm_owned.specs.Owned.{AreNew, AreAllOfTheirBoard, members_of}
use Rattle.klsm_c.specs.Opening.{pick_by}
use Rattle.klsm_c.specs.Slots.{alone, owned_in, some_open}
use Rattle.klsm_c.proofs.SlotLemmas.{filled_front, filled_own, none}
use Rattle.klsm_c.proofs.opening.klsm_open_with_balance.Goals as goal

pub invariant_of-queue : goal.invariant_of-queue
invariant_of-queue c =
    let values = map (λ b. b.value) c.in-Ok.members.items in let old = c.args.queue.now.slots in
    let closed : some_open old ≡ false = sym c.some_is_open.ensures ∙ c.if-some_is_open.false in
    record { whole = subst (λ xs. AreAllOfTheirBoard (members_of xs)) (sym (filled_own c.fill_front.new.slots old values (length c.in-Ok.members.items) closed c.fill_front.ensures)) c.in-Ok.ensures.whole }

pub returns-in-Ok-clause-ok : goal.returns-in-Ok-clause-ok
returns-in-Ok-clause-ok c = λ ok.
    let boxes = c.in-Ok.members.items in let values = map (λ b. b.value) boxes in let old = c.args.queue.now.slots in
    let closed : some_open old ≡ false = sym c.some_is_open.ensures ∙ c.if-some_is_open.false in
    let count : length old - length boxes ≡ MOST_THREADS - c.args.threads = ap (λ n. length old - n) c.in-Ok.ensures.count ∙ search rules in
    let new : AreNew c.args.threads c.args.k (pick_by c.args.pick) c.args.seed c.args.refill c.args.balance values = subst (λ pick. AreNew c.args.threads c.args.k pick c.args.seed c.args.refill c.args.balance values) c.in-Some.ensures.some.1 c.in-Ok.ensures.new in
    record {
      front = filled_front c.fill_front.new.slots old values (length boxes) closed c.fill_front.ensures
          ∙ ap (λ n. map alone (owned_in c.fill_front.new.slots) ++ replicate n none) count;
      new = subst (AreNew c.args.threads c.args.k (pick_by c.args.pick) c.args.seed c.args.refill c.args.balance) (sym (filled_own c.fill_front.new.slots old values (length boxes) closed c.fill_front.ensures)) new;
    }

pub returns-in-Err-BadRefill-clause-bad_k : goal.returns-in-Err-BadRefill-clause-bad_k
returns-in-Err-BadRefill-clause-bad_k c = search rules

pub returns-in-Err-BadRefill-clause-bad_refill : goal.returns-in-Err-BadRefill-clause-bad_refill
returns-in-Err-BadRefill-clause-bad_refill c = search rules
