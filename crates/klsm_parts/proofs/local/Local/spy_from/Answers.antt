use Rattle.std.proofs.Common.{◌≡◌, ◌∙◌, ap, arith, length, sym, List, ℕ}
use Rattle.std.specs.Option.{option_to_list}
use Rattle.klsm_run.specs.declared.item.Item.{Item}
use Rattle.klsm_lsm.specs.Lsm.{content}
use Rattle.klsm_lsm.specs.Spying.{left_by_spy, spied}
use Rattle.klsm_parts.specs.Parts.{PartState}
use Rattle.klsm_parts.proofs.SpyLemmas.{few_moved, few_stay}
use Rattle.klsm_parts.proofs.FoundLemmas.{searched}
use Rattle.klsm_parts.proofs.FitLemmas.{first_fits, run_fits}
use Rattle.klsm_parts.proofs.local.Local.spy_from.Goals as goal

pub returns-clause-own : goal.returns-clause-own
returns-clause-own g c =
    let state : ℕ → List (List Item) → PartState = λ k bs. record { k = k; blocks = bs } in
    ap (state c.self.inside.k) c.spy-count.ensures.taken ∙ (ap (λ (v : PartState). state c.self.inside.k (option_to_list (spied v.blocks))) c.victim.view_is ∙ ap (λ (p : PartState). state p.k (option_to_list (spied c.args.victim.now.blocks))) c.self.view_is)

pub returns-clause-victim : goal.returns-clause-victim
returns-clause-victim g c =
    let state : ℕ → List (List Item) → PartState = λ k bs. record { k = k; blocks = bs } in
    ap (state c.victim.inside.k) c.spy-count.ensures.rest ∙ ap (λ (v : PartState). state v.k (left_by_spy v.blocks)) c.victim.view_is

pub returns-clause-count : goal.returns-clause-count
returns-clause-count g c = search

pub len-known-requires : goal.len-known-requires
len-known-requires g c = search

pub spy-count-requires : goal.spy-count-requires
spy-count-requires g c = (search first_fits, (search run_fits, (c.self.invariant.capacity_in_range, ap (λ (p : PartState). p.blocks) c.self.view_is ∙ c.requires.empty)))

pub invariant_of-self : goal.invariant_of-self
invariant_of-self g c =
    let same : c.self.inside.k ≡ c.victim.inside.k = ap (λ (p : PartState). p.k) c.self.view_is ∙ (c.requires.same_k ∙ sym (ap (λ (p : PartState). p.k) c.victim.view_is)) in
    record { few = omega (arith, same, ap (λ bs. length (content bs)) c.spy-count.ensures.taken, few_moved c.victim.inside.lsm, c.victim.invariant.few); k_in_range = c.self.invariant.k_in_range; capacity_in_range = c.self.invariant.capacity_in_range; found_is = searched c.spy-count.new.self c.least_block-self-inside.result c.least_block-self-inside.ensures }

pub invariant_of-victim : goal.invariant_of-victim
invariant_of-victim g c = record { few = omega (arith, ap (λ bs. length (content bs)) c.spy-count.ensures.rest, few_stay c.victim.inside.lsm, c.victim.invariant.few); k_in_range = c.victim.invariant.k_in_range; capacity_in_range = c.victim.invariant.capacity_in_range; found_is = searched c.spy-count.new.victim c.least_block-victim-inside.result c.least_block-victim-inside.ensures }

pub least_block-self-inside-requires : goal.least_block-self-inside-requires
least_block-self-inside-requires g c = search first_fits

pub least_block-self-inside-requires-room-R-Run : goal.least_block-self-inside-requires-room-R-Run
least_block-self-inside-requires-room-R-Run g c κs = search run_fits

pub least_block-victim-inside-requires : goal.least_block-victim-inside-requires
least_block-victim-inside-requires g c = search first_fits

pub least_block-victim-inside-requires-room-R-Run : goal.least_block-victim-inside-requires-room-R-Run
least_block-victim-inside-requires-room-R-Run g c κs = search run_fits
