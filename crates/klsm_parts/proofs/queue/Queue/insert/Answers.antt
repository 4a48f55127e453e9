use Rattle.std.proofs.Common.{rules, ◌≡◌, ◌+◌, ◌-◌, ◌<◌, ◌^◌, ◌↔◌, ◌∷◌, ◌∙◌, length, refl, sym, ap, subst, arith, inr}
use Rattle.klsm_run.specs.declared.item.Item.{Item}
use Rattle.klsm_run.specs.Content.{sorted}
use Rattle.klsm_lsm.specs.declared.errors.LsmError.TheVariants.{Full}
use Rattle.klsm_lsm.specs.Lsm.{content}
use Rattle.klsm_parts.specs.Parts.{PartState}
use Rattle.klsm_parts.specs.Queues.{QueueState, items_of, next_item, Joins, HaveNoPlace, IsFull}
use Rattle.klsm_parts.proofs.PairLemmas.{absent_number}
use Rattle.klsm_parts.proofs.FitLemmas.{field_fits, own_fits}
use Rattle.klsm_parts.proofs.QueueLemmas.{queue_of, queue_joined, joined_items, count_joined, k_joined, full_by_place, not_full}
use Rattle.klsm_parts.proofs.queue.Queue.insert.Goals as goal

pub put_or_flush-requires : goal.put_or_flush-requires
put_or_flush-requires g c =
    let queue = c.self.invariant in
    let own = c.self.inside.own in
    let shared = c.self.inside.shared in
    let n = c.self.inside.inserted in
    let item = c.item_of-item.result in
    let number : item.stamp.number ≡ n = ap (λ (x : Item). x.stamp.number) c.item_of-item.ensures in
    let new_to_own = absent_number n item (content own.blocks) number queue.own_numbered in
    let new_to_shared = absent_number n item (content shared.blocks) number queue.shared_numbered in
    (search own_fits, (search field_fits, (queue.capacity_in_range, (queue.apart, (new_to_own, new_to_shared)))))

pub returns-in-Err-clause-full : goal.returns-in-Err-clause-full
returns-in-Err-clause-full g c =
    let queue = queue_of c.self.inside.own c.self.inside.shared c.self.inside.inserted in
    let place = subst (λ (x : Item). (c.in-Err.why ≡ Full) ↔ HaveNoPlace g.row.LEVELS x queue.own queue.shared) c.item_of-item.ensures c.in-Err.ensures.full in
    let by_place = full_by_place g.row.LEVELS (next_item queue c.args.key c.args.load) queue (c.in-Err.why ≡ Full) place c.in-Some.ensures.0 in
    subst (λ (s : QueueState). (c.in-Err.why ≡ Full) ↔ IsFull g.row.LEVELS (next_item s c.args.key c.args.load) s) c.self.view_is by_place

pub invariant_of-self : goal.invariant_of-self
invariant_of-self g c =
    let n = c.self.inside.inserted in
    let owner = ap (λ (x : Item). x.stamp.owner) c.item_of-item.ensures in
    let number = ap (λ (x : Item). x.stamp.number) c.item_of-item.ensures in
    let next : c.in-Some.next ≡ n + 1 = c.in-Some.ensures.1 in
    queue_joined g.row.CAP g.row.LEVELS n c.in-Some.next c.self.inside.own c.put_or_flush.new.own c.self.inside.shared c.put_or_flush.new.shared c.item_of-item.result owner number next c.in-Ok.ensures.lawful c.in-Ok.ensures.joins c.self.invariant

pub returns-in-Ok-clause-item : goal.returns-in-Ok-clause-item
returns-in-Ok-clause-item g c =
    subst (λ (s : QueueState). c.item_of-item.result ≡ next_item s c.args.key c.args.load) c.self.view_is c.item_of-item.ensures

pub returns-in-Ok-clause-items : goal.returns-in-Ok-clause-items
returns-in-Ok-clause-items g c =
    let own = c.self.inside.own in
    let shared = c.self.inside.shared in
    let before = queue_of own shared c.self.inside.inserted in
    let after = queue_of c.put_or_flush.new.own c.put_or_flush.new.shared c.in-Some.next in
    let joined = joined_items c.item_of-item.result own c.put_or_flush.new.own shared c.put_or_flush.new.shared c.in-Ok.ensures.joins in
    subst (λ (s : QueueState). items_of after ≡ sorted (next_item s c.args.key c.args.load ∷ items_of s)) c.self.view_is
    (subst (λ (x : Item). items_of after ≡ sorted (x ∷ items_of before)) c.item_of-item.ensures joined)

pub returns-in-Ok-clause-count : goal.returns-in-Ok-clause-count
returns-in-Ok-clause-count g c =
    let after = queue_of c.put_or_flush.new.own c.put_or_flush.new.shared c.in-Some.next in
    subst (λ (s : QueueState). length (items_of after) ≡ length (items_of s) + 1) c.self.view_is
    (count_joined c.item_of-item.result c.self.inside.own c.put_or_flush.new.own c.self.inside.shared c.put_or_flush.new.shared c.in-Ok.ensures.joins)

pub returns-in-Ok-clause-inserted : goal.returns-in-Ok-clause-inserted
returns-in-Ok-clause-inserted g c = subst (λ (s : QueueState). c.in-Some.next ≡ s.inserted + 1) c.self.view_is c.in-Some.ensures.1

pub returns-in-Ok-clause-k : goal.returns-in-Ok-clause-k
returns-in-Ok-clause-k g c =
    subst (λ (s : QueueState). c.put_or_flush.new.own.k ≡ s.own.k) c.self.view_is
    (k_joined c.item_of-item.result c.self.inside.own c.put_or_flush.new.own c.self.inside.shared c.put_or_flush.new.shared c.in-Ok.ensures.joins)

pub returns-in-Ok-clause-parts : goal.returns-in-Ok-clause-parts
returns-in-Ok-clause-parts g c =
    let after_own = c.put_or_flush.new.own in
    let after_shared = c.put_or_flush.new.shared in
    let joins = subst (λ (x : Item). Joins x c.self.inside.own after_own c.self.inside.shared after_shared) c.item_of-item.ensures c.in-Ok.ensures.joins in
    subst (λ (s : QueueState). Joins (next_item s c.args.key c.args.load) s.own after_own s.shared after_shared) c.self.view_is joins

pub returns-in-Ok-clause-full : goal.returns-in-Ok-clause-full
returns-in-Ok-clause-full g c =
    let queue = queue_of c.self.inside.own c.self.inside.shared c.self.inside.inserted in
    let place = subst (λ (x : Item). ⊥ ↔ HaveNoPlace g.row.LEVELS x queue.own queue.shared) c.item_of-item.ensures c.in-Ok.ensures.full in
    let by_place = full_by_place g.row.LEVELS (next_item queue c.args.key c.args.load) queue ⊥ place c.in-Some.ensures.0 in
    subst (λ (s : QueueState). ⊥ ↔ IsFull g.row.LEVELS (next_item s c.args.key c.args.load) s) c.self.view_is by_place

pub returns-in_default-clause-room : goal.returns-in_default-clause-room
returns-in_default-clause-room g c few left why =
    let below = subst (λ (s : QueueState). s.inserted < 2 ^ 64 - 1) (sym c.self.view_is) left in
    c.in_default.ensures (omega (arith, below))

pub returns-in-Err-clause-room : goal.returns-in-Err-clause-room
returns-in-Err-clause-room g c few left why =
    let queue = c.args.self.now in
    let place = subst (λ (x : Item). HaveNoPlace g.row.LEVELS x c.self.inside.own c.self.inside.shared) c.item_of-item.ensures (c.in-Err.ensures.full.0 why) in
    let none = subst (λ (s : QueueState). HaveNoPlace g.row.LEVELS (next_item s c.args.key c.args.load) s.own s.shared) c.self.view_is place in
    not_full g.row.LEVELS (next_item queue c.args.key c.args.load) queue few left (inr none)

pub returns-in-Err-clause-put : goal.returns-in-Err-clause-put
returns-in-Err-clause-put g c room left =
    c.in-Err.ensures.put (subst (λ (s : QueueState). length (content s.own.blocks) < s.own.k) (sym c.self.view_is) room)

pub same-self : goal.same-self
same-self g c = refl

pub returns-in_default-clause-item : goal.returns-in_default-clause-item
returns-in_default-clause-item g c = tt

pub returns-in_default-clause-items : goal.returns-in_default-clause-items
returns-in_default-clause-items g c = tt

pub returns-in_default-clause-count : goal.returns-in_default-clause-count
returns-in_default-clause-count g c = tt

pub returns-in_default-clause-inserted : goal.returns-in_default-clause-inserted
returns-in_default-clause-inserted g c = tt

pub returns-in_default-clause-k : goal.returns-in_default-clause-k
returns-in_default-clause-k g c = refl

pub returns-in_default-clause-parts : goal.returns-in_default-clause-parts
returns-in_default-clause-parts g c = tt

pub returns-in_default-clause-unchanged : goal.returns-in_default-clause-unchanged
returns-in_default-clause-unchanged g c = refl

pub returns-in-Err-clause-item : goal.returns-in-Err-clause-item
returns-in-Err-clause-item g c = tt

pub returns-in-Err-clause-items : goal.returns-in-Err-clause-items
returns-in-Err-clause-items g c = tt

pub returns-in-Err-clause-count : goal.returns-in-Err-clause-count
returns-in-Err-clause-count g c = tt

pub returns-in-Err-clause-inserted : goal.returns-in-Err-clause-inserted
returns-in-Err-clause-inserted g c = tt

pub returns-in-Err-clause-parts : goal.returns-in-Err-clause-parts
returns-in-Err-clause-parts g c = tt

pub returns-in-Err-clause-k : goal.returns-in-Err-clause-k
returns-in-Err-clause-k g c = ap (λ (p : PartState). p.k) c.in-Err.ensures.unchanged.0 ∙ ap (λ (s : QueueState). s.own.k) c.self.view_is

pub returns-in-Err-clause-unchanged : goal.returns-in-Err-clause-unchanged
returns-in-Err-clause-unchanged g c = rw (c.in-Err.ensures.unchanged.0, c.in-Err.ensures.unchanged.1) c.self.view_is

pub invariant_of-self-in-Err : goal.invariant_of-self-in-Err
invariant_of-self-in-Err g c = rw (c.in-Err.ensures.unchanged.0, c.in-Err.ensures.unchanged.1) c.self.invariant

pub returns-in-Ok-clause-room : goal.returns-in-Ok-clause-room
returns-in-Ok-clause-room g c = λ few left bad. bad

pub returns-in-Ok-clause-put : goal.returns-in-Ok-clause-put
returns-in-Ok-clause-put g c = λ room left. refl

pub returns-in-Ok-clause-unchanged : goal.returns-in-Ok-clause-unchanged
returns-in-Ok-clause-unchanged g c = tt

pub returns-in_default-clause-put : goal.returns-in_default-clause-put
returns-in_default-clause-put g c room left =
    let below = subst (λ (s : QueueState). s.inserted < 2 ^ 64 - 1) (sym c.self.view_is) left in
    absurd (c.in_default.ensures (omega (arith, below)))
