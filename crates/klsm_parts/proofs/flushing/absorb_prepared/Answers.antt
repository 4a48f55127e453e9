use Rattle.std.proofs.Common.{◌≡◌, ◌↔◌, ◌+◌, ◌<◌, List, Option, length, IfSome, OnOk, IsErrAnd, subst}
use Rattle.klsm_run.specs.declared.item.Item.{Item}
use Rattle.klsm_run.specs.Capacity.{heap_room}
use Rattle.klsm_lsm.specs.declared.errors.LsmError.TheVariants.{Full}
use Rattle.klsm_lsm.specs.Adding.{add}
use Rattle.klsm_lsm.specs.Limit.{limit_of}
use Rattle.klsm_lsm.specs.Lsm.{content}
use Rattle.klsm_parts.specs.Flushing.{IsLargest}
use Rattle.klsm_parts.proofs.FlushLemmas.{moved_largest, largest_apart}
use Rattle.klsm_parts.proofs.flushing.absorb_prepared.Goals as goal

pub absorb_moved-requires : goal.absorb_moved-requires
absorb_moved-requires g c = (search, (search, (c.requires.capacity, (c.requires.apart, c.requires.new))))

pub len-known-requires : goal.len-known-requires
len-known-requires g c = search

pub absorb-requires : goal.absorb-requires
absorb-requires g c =
    let is = subst (λ (copy : Option (List Item)). IfSome copy (λ run. IsLargest run c.args.own.now.blocks)) c.in-Some.is c.requires.copy in
    (search, (is.1, largest_apart c.in-Some.prepared c.args.own.now.blocks (content c.args.shared.now.blocks) is c.requires.apart))

pub returns-clause-added : goal.returns-clause-added
returns-clause-added g c =
    let is = subst (λ (copy : Option (List Item)). IfSome copy (λ run. IsLargest run c.args.own.now.blocks)) c.in-Some.is c.requires.copy in
    subst (λ (run : List Item). OnOk c.absorb.result (c.absorb.new.self ≡ record { k = c.args.shared.now.k; blocks = add c.args.shared.now.blocks run }))
    (moved_largest c.in-Some.prepared c.args.own.now.blocks c.args.item c.len-known.ensures.lawful is) c.absorb.ensures.added

pub returns-clause-full : goal.returns-clause-full
returns-clause-full g c =
    let is = subst (λ (copy : Option (List Item)). IfSome copy (λ run. IsLargest run c.args.own.now.blocks)) c.in-Some.is c.requires.copy in
    subst (λ (run : List Item). IsErrAnd c.absorb.result (λ why. why ≡ Full) ↔ (limit_of g.row.LEVELS heap_room < length (content c.args.shared.now.blocks) + length run))
    (moved_largest c.in-Some.prepared c.args.own.now.blocks c.args.item c.len-known.ensures.lawful is) c.absorb.ensures.full
