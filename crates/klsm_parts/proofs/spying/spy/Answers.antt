use Rattle.std.proofs.Common.{◌≡◌, [], length, sym, ap, ◌∙◌, arith}
use Rattle.std.specs.Option.{option_to_list}
use Rattle.klsm_run.specs.Content.{sorted}
use Rattle.klsm_run.proofs.SortedLemmas.{length_sorted}
use Rattle.klsm_lsm.specs.Lsm.{content}
use Rattle.klsm_lsm.specs.Spying.{spied, left_by_spy}
use Rattle.klsm_parts.specs.Parts.{PartState, items_in}
use Rattle.klsm_parts.proofs.SpyLemmas.{no_items_in, none_moved, spy_takes_effect}
use Rattle.klsm_parts.proofs.spying.spy.Goals as goal

pub prove-unreachable-requires : goal.prove-unreachable-requires
prove-unreachable-requires g c = c.if-prove.true (omega (arith, c.len.ensures.len, length_sorted (content c.args.own.now.blocks), ap length c.requires.empty))

pub spy_from-requires : goal.spy_from-requires
spy_from-requires g c =
    let own : c.args.own.now.blocks ≡ [] = no_items_in c.args.own.now.blocks c.len.ensures.lawful c.requires.empty in
    (search, (c.requires.same_k, own))

pub returns-clause-count : goal.returns-clause-count
returns-clause-count g c = c.spy_from.ensures.count ∙ sym (length_sorted (content c.spy_from.new.self.blocks))

pub returns-clause-none : goal.returns-clause-none
returns-clause-none g c =
    let blocks = c.args.victim.now.blocks in
    let own : c.spy_from.new.self.blocks ≡ option_to_list (spied blocks) = ap (λ (p : PartState). p.blocks) c.spy_from.ensures.own in (
      λ none. ap (λ bs. sorted (content bs)) (none_moved blocks c.len-known.ensures.lawful (sym (ap (λ bs. length (content bs)) own) ∙ (sym c.spy_from.ensures.count ∙ none))),
      λ none. c.spy_from.ensures.count ∙ (ap (λ bs. length (content bs)) own ∙ ap (λ bs. length (content (option_to_list (spied bs)))) (no_items_in blocks c.len-known.ensures.lawful none)),
    )

pub returns-clause-unchanged : goal.returns-clause-unchanged
returns-clause-unchanged g c none =
    let blocks = c.args.victim.now.blocks in
    let own : c.spy_from.new.self.blocks ≡ option_to_list (spied blocks) = ap (λ (p : PartState). p.blocks) c.spy_from.ensures.own in
    let empty : blocks ≡ [] = none_moved blocks c.len-known.ensures.lawful (sym (ap (λ bs. length (content bs)) own) ∙ (sym c.spy_from.ensures.count ∙ none)) in
    let own_empty : c.args.own.now.blocks ≡ [] = no_items_in c.args.own.now.blocks c.len.ensures.lawful c.requires.empty in (
      c.spy_from.ensures.own ∙ (ap (λ bs. record { k = c.args.own.now.k; blocks = option_to_list (spied bs) }) empty ∙ ap (λ bs. record { k = c.args.own.now.k; blocks = bs }) (sym own_empty)),
      c.spy_from.ensures.victim ∙ (ap (λ bs. record { k = c.args.victim.now.k; blocks = left_by_spy bs }) empty ∙ ap (λ bs. record { k = c.args.victim.now.k; blocks = bs }) (sym empty)),
    )

pub returns-clause-event : goal.returns-clause-event
returns-clause-event g c =
    spy_takes_effect (items_in c.args.own.now) c.args.victim.now.blocks _ _ c.requires.empty c.len-known.ensures.lawful (ap (λ (p : PartState). p.blocks) c.spy_from.ensures.own) (ap (λ (p : PartState). p.blocks) c.spy_from.ensures.victim)

pub len-requires : goal.len-requires
len-requires g c = search

pub len-known-requires : goal.len-known-requires
len-known-requires g c = search

pub returns-clause-own : goal.returns-clause-own
returns-clause-own g c = c.spy_from.ensures.own

pub returns-clause-victim : goal.returns-clause-victim
returns-clause-victim g c = c.spy_from.ensures.victim

pub unreachable-prove : goal.unreachable-prove
unreachable-prove g c = absurd c.prove-unreachable.result
