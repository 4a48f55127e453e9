use Rattle.std.proofs.Common.{◌≡◌, Some, None, sym, ap, ◌∙◌}
use Rattle.std.specs.List.{slice_get}
use Rattle.klsm_run.proofs.ContentLemmas.{sorted_itself}
use Rattle.klsm_lsm.specs.Lsm.{content}
use Rattle.klsm_parts.specs.Parts.{least_in}
use Rattle.klsm_parts.specs.Events.{key_or_greatest}
use Rattle.klsm_parts.proofs.shared.Shared.front.Goals as goal

pub returns-in-Some : goal.returns-in-Some
returns-in-Some g c =
    let first : Some c.in-Some.item ≡ least_in c.args.self.now = sym c.in-Some.is ∙ (c.least.ensures ∙ ap least_in c.self.view_is) in
    ap key_or_greatest (first ∙ sym (ap (λ xs. slice_get xs 0) (sorted_itself (content c.args.self.now.blocks))))

pub returns-in-None : goal.returns-in-None
returns-in-None g c =
    let first : None ≡ least_in c.args.self.now = sym c.in-None.is ∙ (c.least.ensures ∙ ap least_in c.self.view_is) in
    ap key_or_greatest (first ∙ sym (ap (λ xs. slice_get xs 0) (sorted_itself (content c.args.self.now.blocks))))
