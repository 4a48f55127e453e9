use Rattle.std.proofs.Common.{◌≡◌, ◌↔◌, ◌+◌, ◌<◌, List, Option, length, IfSome, IsErrAnd, ap, subst, ◌∙◌, arith}
use Rattle.klsm_run.specs.declared.item.Item.{Item}
use Rattle.klsm_run.specs.Capacity.{heap_room}
use Rattle.klsm_run.proofs.SortedLemmas.{length_sorted}
use Rattle.klsm_lsm.specs.declared.errors.LsmError.TheVariants.{Full}
use Rattle.klsm_lsm.specs.Limit.{limit_of}
use Rattle.klsm_lsm.specs.Lsm.{content}
use Rattle.klsm_lsm.proofs.JoinLemmas.{sharing_none_flipped, sharing_none_sorted}
use Rattle.klsm_parts.specs.Parts.{items_in}
use Rattle.klsm_parts.proofs.FitLemmas.{first_fits, run_fits}
use Rattle.klsm_parts.proofs.sharing.absorb_own.Goals as goal

pub absorb-requires : goal.absorb-requires
absorb-requires g c =
    let own = content c.args.own.now.blocks in let shared = content c.args.shared.now.blocks in let run = c.in-Some.prepared in
    let is : run ≡ items_in c.args.own.now = subst (λ (copy : Option (List Item)). IfSome copy (λ run. run ≡ items_in c.args.own.now)) c.in-Some.is c.requires.copy in
    (search, (omega (arith, c.requires.some, ap length is, length_sorted own), sharing_none_sorted shared own run (sharing_none_flipped own shared c.requires.apart) is))

pub lsm-requires : goal.lsm-requires
lsm-requires g c = (search, (search first_fits, search run_fits))

pub absorb_all-requires : goal.absorb_all-requires
absorb_all-requires g c =
    let own = content c.args.own.now.blocks in
    (search, (search first_fits, rw c.lsm.ensures (c.requires.some, sharing_none_flipped own (content c.args.shared.now.blocks) c.requires.apart)))

pub absorb_all-requires-room-R-Run : goal.absorb_all-requires-room-R-Run
absorb_all-requires-room-R-Run g c κs = search run_fits

pub returns-in-Some-clause-full : goal.returns-in-Some-clause-full
returns-in-Some-clause-full g c =
    let own = content c.args.own.now.blocks in let run = c.in-Some.prepared in
    let is : run ≡ items_in c.args.own.now = subst (λ (copy : Option (List Item)). IfSome copy (λ run. run ≡ items_in c.args.own.now)) c.in-Some.is c.requires.copy in
    subst (λ n. IsErrAnd c.absorb.result (λ why. why ≡ Full) ↔ (limit_of g.row.LEVELS heap_room < length (content c.args.shared.now.blocks) + n))
    (ap length is ∙ length_sorted own) c.absorb.ensures.full

pub returns-in-None-clause-full : goal.returns-in-None-clause-full
returns-in-None-clause-full g c = rw c.lsm.ensures at c.absorb_all.ensures.full
