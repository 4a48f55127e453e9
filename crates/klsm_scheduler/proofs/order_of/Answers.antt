use Rattle.std.proofs.Common.{[], ◌∷◌, ◌++◌, refl, ap, sym, ◌∙◌, append_assoc}
use Rattle.std.proofs.lemmas.List.{append-nil}
use Rattle.klsm_parts.specs.Queues.{items_of}
use Rattle.klsm_scheduler.proofs.order_of.Goals as goal

-- at first no job was given
pub loop-job-init : goal.loop-job-init
loop-job-init c = rw c.new-order.ensures.items refl

-- a job that is given goes from the jobs that wait to those that were given
pub loop-job-preserved : goal.loop-job-preserved
loop-job-preserved c =
    let done = c.loop-job.order.items in
    let next = items_of c.delete_min.new.self in
    rw c.in_ok-push.ensures.items (append_assoc done (c.in-Some.job ∷ []) next ∙ (ap (λ waiting. done ++ waiting) (sym c.in-Some.ensures.items) ∙ c.loop-job.invariant))

-- in the end no job waits
pub returns : goal.returns
returns c =
    let done = c.loop-job.order.items in
    sym (append-nil done) ∙ (ap (λ waiting. done ++ waiting) (sym c.in_default.ensures.items.0) ∙ c.loop-job.invariant)
