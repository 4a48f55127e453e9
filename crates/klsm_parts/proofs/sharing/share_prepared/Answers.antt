use Rattle.std.proofs.Common.{◌≡◌, ◌<◌, List, length, refl, sym, ap, ◌∙◌, arith}
use Rattle.klsm_run.specs.declared.item.Item.{Item}
use Rattle.klsm_run.proofs.SortedLemmas.{length_sorted}
use Rattle.klsm_lsm.specs.Lsm.{content}
use Rattle.klsm_lsm.specs.Adding.{add}
use Rattle.klsm_parts.specs.Parts.{PartState, items_in}
use Rattle.klsm_parts.proofs.EventLemmas.{no_items, shared_flushed}
use Rattle.klsm_parts.proofs.SharingLemmas.{may_share_all, all_shared}
use Rattle.klsm_parts.proofs.sharing.share_prepared.Goals as goal

pub returns-then-count-eq0-clause-count : goal.returns-then-count-eq0-clause-count
returns-then-count-eq0-clause-count g c = omega (arith, c.if-count-eq0.true, c.len-count.ensures.len, length_sorted (content c.args.own.now.blocks))

pub returns-then-count-eq0-clause-own : goal.returns-then-count-eq0-clause-own
returns-then-count-eq0-clause-own g c =
    ap (λ (bs : List (List Item)). record { k = c.args.own.now.k; blocks = bs }) (no_items c.args.own.now.blocks c.len-count.ensures.lawful (sym c.len-count.ensures.len ∙ c.if-count-eq0.true))

pub returns-then-count-eq0-clause-shared_k : goal.returns-then-count-eq0-clause-shared_k
returns-then-count-eq0-clause-shared_k g c = refl

pub returns-then-count-eq0-clause-none : goal.returns-then-count-eq0-clause-none
returns-then-count-eq0-clause-none g c none = refl

pub returns-then-count-eq0-clause-event : goal.returns-then-count-eq0-clause-event
returns-then-count-eq0-clause-event g c some = absurd (omega (arith, some))

pub returns-then-count-eq0-clause-full : goal.returns-then-count-eq0-clause-full
returns-then-count-eq0-clause-full g c = (λ bad. absurd bad, λ less. absurd (omega (arith, less, c.len-known.ensures.limit, c.len-count.ensures.len, c.if-count-eq0.true)))

pub returns-then-count-eq0-clause-unchanged : goal.returns-then-count-eq0-clause-unchanged
returns-then-count-eq0-clause-unchanged g c = tt

pub absorb_own-requires : goal.absorb_own-requires
absorb_own-requires g c =
    let some : 0 < length (content c.args.own.now.blocks) = omega (arith, c.len-count.ensures.len, c.if-count-eq0.false) in
    (search, (search, (c.requires.capacity, (some, (c.requires.apart, c.requires.copy)))))

pub returns-in-Ok-clause-count : goal.returns-in-Ok-clause-count
returns-in-Ok-clause-count g c = c.len-count.ensures.len ∙ sym (length_sorted (content c.args.own.now.blocks))

pub returns-in-Ok-clause-own : goal.returns-in-Ok-clause-own
returns-in-Ok-clause-own g c = c.clear.ensures

pub returns-in-Ok-clause-shared_k : goal.returns-in-Ok-clause-shared_k
returns-in-Ok-clause-shared_k g c = ap (λ (p : PartState). p.k) c.in-Ok.ensures.added

pub returns-in-Ok-clause-none : goal.returns-in-Ok-clause-none
returns-in-Ok-clause-none g c none = absurd (c.if-count-eq0.false none)

pub returns-in-Ok-clause-event : goal.returns-in-Ok-clause-event
returns-in-Ok-clause-event g c some =
    let bs = c.args.own.now.blocks in let shared = c.args.shared.now in let own = items_in c.args.own.now in
    let are : 0 < length (content bs) = omega (arith, some, c.len-count.ensures.len) in
    let added : c.absorb_own.new.shared ≡ record { k = shared.k; blocks = add shared.blocks own } = c.in-Ok.ensures.added in (
      may_share_all bs c.len-count.ensures.lawful are,
      ap items_in c.clear.ensures ∙ sym (all_shared (content bs)),
      ap items_in added ∙ shared_flushed shared.blocks own,
      ap (λ (p : PartState). p.blocks) added,
    )

pub returns-in-Ok-clause-full : goal.returns-in-Ok-clause-full
returns-in-Ok-clause-full g c = c.in-Ok.ensures.full

pub returns-in-Ok-clause-unchanged : goal.returns-in-Ok-clause-unchanged
returns-in-Ok-clause-unchanged g c = tt

pub returns-in-Err-clause-count : goal.returns-in-Err-clause-count
returns-in-Err-clause-count g c = tt

pub returns-in-Err-clause-own : goal.returns-in-Err-clause-own
returns-in-Err-clause-own g c = tt

pub returns-in-Err-clause-shared_k : goal.returns-in-Err-clause-shared_k
returns-in-Err-clause-shared_k g c = ap (λ (p : PartState). p.k) c.in-Err.ensures.unchanged

pub returns-in-Err-clause-none : goal.returns-in-Err-clause-none
returns-in-Err-clause-none g c = tt

pub returns-in-Err-clause-event : goal.returns-in-Err-clause-event
returns-in-Err-clause-event g c = tt

pub returns-in-Err-clause-full : goal.returns-in-Err-clause-full
returns-in-Err-clause-full g c = c.in-Err.ensures.full

pub returns-in-Err-clause-unchanged : goal.returns-in-Err-clause-unchanged
returns-in-Err-clause-unchanged g c = (refl, c.in-Err.ensures.unchanged)
