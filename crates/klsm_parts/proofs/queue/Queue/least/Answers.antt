use Rattle.std.proofs.Common.{rules, ◌≡◌, Some, subst, sym, ◌∙◌}
use Rattle.klsm_parts.specs.Parts.{least_in}
use Rattle.klsm_parts.specs.Queues.{QueueState, least_of}
use Rattle.klsm_parts.proofs.TakeLemmas.{IsTested}
use Rattle.klsm_parts.proofs.FitLemmas.{field_fits, own_fits}
use Rattle.klsm_parts.proofs.QueueLemmas.{least_both, least_is_own, own_is_lesser, shared_is_lesser}
use Rattle.klsm_parts.proofs.queue.Queue.least.Goals as goal

pub least-requires : goal.least-requires
least-requires g c = search field_fits

pub returns-in_default : goal.returns-in_default
returns-in_default g c =
    let own = c.self.inside.own in
    let shared = c.self.inside.shared in
    subst (λ (s : QueueState). c.least-least_own.result ≡ least_of s) c.self.view_is
    (c.least-least_own.ensures ∙ (least_is_own (least_in own) (least_in shared) (sym c.least.ensures ∙ c.in_default.is) ∙ sym (least_both own shared)))

pub returns-then-is_smaller_own : goal.returns-then-is_smaller_own
returns-then-is_smaller_own g c =
    let own = c.self.inside.own in
    let shared = c.self.inside.shared in
    let y = c.in-Some.least_shared in
    let tested : IsTested (least_in own) y c.is_smaller_own.result = subst (λ o. IsTested o y c.is_smaller_own.result) c.least-least_own.ensures c.is_smaller_own.ensures in
    let lesser = own_is_lesser (least_in own) (least_in shared) y (sym c.in-Some.ensures) (subst (IsTested (least_in own) y) c.if-is_smaller_own.true tested) in
    subst (λ (s : QueueState). c.least-least_own.result ≡ least_of s) c.self.view_is (c.least-least_own.ensures ∙ (lesser ∙ sym (least_both own shared)))

pub returns : goal.returns
returns g c =
    let own = c.self.inside.own in
    let shared = c.self.inside.shared in
    let y = c.in-Some.least_shared in
    let tested : IsTested (least_in own) y c.is_smaller_own.result = subst (λ o. IsTested o y c.is_smaller_own.result) c.least-least_own.ensures c.is_smaller_own.ensures in
    let lesser = shared_is_lesser (least_in own) (least_in shared) y (sym c.in-Some.ensures) (subst (IsTested (least_in own) y) c.if-is_smaller_own.false tested) in
    subst (λ (s : QueueState). Some y ≡ least_of s) c.self.view_is (lesser ∙ sym (least_both own shared))

pub least-least_own-requires : goal.least-least_own-requires
least-least_own-requires g c = search own_fits
