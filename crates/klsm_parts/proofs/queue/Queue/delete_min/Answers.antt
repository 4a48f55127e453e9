use Rattle.std.proofs.Common.{rules, ◌≡◌, ◌∷◌, [], Some, IfSome, MatchOption, ap, subst}
use Rattle.std.specs.List.{slice_get}
use Rattle.klsm_parts.specs.Parts.{candidates_of}
use Rattle.klsm_parts.specs.Taking.{own_first, Leaves}
use Rattle.klsm_parts.specs.Queues.{QueueState, items_of, least_of}
use Rattle.klsm_parts.proofs.FitLemmas.{field_fits, own_fits}
use Rattle.klsm_parts.proofs.QueueLemmas.{queue_of, queue_left, items_after, item_left, k_left, least_goes}
use Rattle.klsm_parts.proofs.queue.Queue.delete_min.Goals as goal

pub take-requires : goal.take-requires
take-requires g c = (search own_fits, (search field_fits, (c.self.invariant.same_k, c.self.invariant.apart)))

pub invariant_of-self : goal.invariant_of-self
invariant_of-self g c =
    queue_left g.row.CAP g.row.LEVELS c.self.inside.inserted c.take.result c.self.inside.own c.take.new.own c.self.inside.shared c.take.new.shared c.take.ensures.left c.self.invariant

pub returns-clause-least : goal.returns-clause-least
returns-clause-least g c =
    let own = c.self.inside.own in
    let shared = c.self.inside.shared in
    subst (λ (s : QueueState). c.take.result ≡ least_of s) c.self.view_is
    (least_goes own shared c.take.result (λ unasked. (c.take.ensures.unasked unasked).1) (λ asked.
    let chosen = c.take.ensures.asked asked in
    (chosen.candidate, subst (λ i. slice_get (candidates_of shared) (own_first 0 i (candidates_of shared)) ≡ Some chosen.candidate) chosen.picked chosen.found, chosen.follows)))

pub returns-clause-items : goal.returns-clause-items
returns-clause-items g c =
    let own = c.self.inside.own in
    let shared = c.self.inside.shared in
    let after = queue_of c.take.new.own c.take.new.shared c.self.inside.inserted in
    let least = least_goes own shared c.take.result (λ unasked. (c.take.ensures.unasked unasked).1) (λ asked.
    let chosen = c.take.ensures.asked asked in
    (chosen.candidate, subst (λ i. slice_get (candidates_of shared) (own_first 0 i (candidates_of shared)) ≡ Some chosen.candidate) chosen.picked chosen.found, chosen.follows)) in
    subst (λ (s : QueueState). MatchOption c.take.result ((items_of s ≡ []) × (after ≡ s)) (λ item. items_of s ≡ item ∷ items_of after)) c.self.view_is
    (items_after c.take.result c.self.inside.inserted own c.take.new.own shared c.take.new.shared least c.take.ensures.left)

pub returns-clause-parts : goal.returns-clause-parts
returns-clause-parts g c =
    subst (λ (s : QueueState). IfSome c.take.result (λ item. Leaves item s.own c.take.new.own s.shared c.take.new.shared)) c.self.view_is
    (item_left c.take.result c.self.inside.own c.take.new.own c.self.inside.shared c.take.new.shared c.take.ensures.left)

pub returns-clause-k : goal.returns-clause-k
returns-clause-k g c =
    subst (λ (s : QueueState). c.take.new.own.k ≡ s.own.k) c.self.view_is
    (k_left c.take.result c.self.inside.own c.take.new.own c.self.inside.shared c.take.new.shared c.take.ensures.left)

pub returns-clause-inserted : goal.returns-clause-inserted
returns-clause-inserted g c = ap (λ (s : QueueState). s.inserted) c.self.view_is
