use Rattle.std.proofs.Common.{◌∷◌, [], ◌∙◌, ◌<◌, length, drop, subst, sym, arith, rules, ◌≡◌, List, ap, refl}
use Rattle.std.specs.List.{Contains}
use Rattle.klsm_run.specs.declared.item.Item.{Item}
use Rattle.klsm_lsm.specs.Lsm.{content, IsLsm}
use Rattle.klsm_lsm.specs.Adding.{add}
use Rattle.klsm_parts.specs.Parts.{PartState}
use Rattle.klsm_parts.proofs.OwnLemmas.{has_room, own_added, fewer_without_largest, absent_without_largest, some_if_block}
use Rattle.klsm_parts.proofs.FoundLemmas.{searched}
use Rattle.klsm_parts.proofs.FlushLemmas.{kept_none}
use Rattle.klsm_parts.proofs.FitLemmas.{first_fits, run_fits}
use Rattle.klsm_parts.proofs.local.Local.replace_largest.Goals as goal

pub insert-requires : goal.insert-requires
insert-requires g c =
    let absent = subst (λ (p : PartState). Contains (content p.blocks) c.args.item → ⊥) (sym c.self.view_is) c.requires.new in
    (search first_fits, (search run_fits, (c.requires.capacity, rw c.discard_largest.ensures (absent_without_largest c.self.inside.lsm c.args.item absent))))

pub unreachable-requires : goal.unreachable-requires
unreachable-requires g c =
    let lawful = subst (λ (p : PartState). IsLsm p.blocks) (sym c.self.view_is) c.requires.lawful in
    let some = some_if_block c.self.inside.lsm lawful (omega (arith, c.blocks-2.ensures.blocks, c.if-blocks-eq0.false)) in
    let few : length (content (drop 1 c.self.inside.lsm)) < g.row.CAP =
    omega (arith, fewer_without_largest c.self.inside.lsm lawful some, c.self.invariant.few, c.self.invariant.k_in_range) in
    let room = has_room g.row.CAP (length (content (drop 1 c.self.inside.lsm))) few c.self.invariant.capacity_in_range.at_most in
    let bad = c.in_default.ensures.room.1 (rw c.discard_largest.ensures room) in
    cc

pub invariant_of-self : goal.invariant_of-self
invariant_of-self g c =
    let lawful = subst (λ (p : PartState). IsLsm p.blocks) (sym c.self.view_is) c.requires.lawful in
    let some = some_if_block c.self.inside.lsm lawful (omega (arith, c.blocks-2.ensures.blocks, c.if-blocks-eq0.false)) in
    let room : length (content (drop 1 c.self.inside.lsm)) < c.self.inside.k =
    omega (arith, fewer_without_largest c.self.inside.lsm lawful some, c.self.invariant.few) in
    let after : c.insert.new.self ≡ add (drop 1 c.self.inside.lsm) (c.args.item ∷ []) = c.in-Ok.ensures.added ∙ ap (λ (bs : List (List Item)). add bs (c.args.item ∷ [])) c.discard_largest.ensures in
    let next = searched (add (drop 1 c.self.inside.lsm) (c.args.item ∷ [])) c.least_block-self-inside.result (rw (← after) c.least_block-self-inside.ensures) in
    rw after (own_added g.row.CAP c.self.inside.k c.self.inside.lsm (drop 1 c.self.inside.lsm) c.args.item c.self.inside.found c.least_block-self-inside.result c.self.invariant room next)

pub returns : goal.returns
returns g c = search rules

pub blocks-requires : goal.blocks-requires
blocks-requires g c = search first_fits

pub same-self : goal.same-self
same-self g c = refl

pub returns-then-blocks-eq0 : goal.returns-then-blocks-eq0
returns-then-blocks-eq0 g c =
    let none : length c.args.self.now.blocks ≡ 0 = subst (λ (p : PartState). length p.blocks ≡ 0) c.self.view_is (omega (arith, c.blocks-2.ensures.blocks, c.if-blocks-eq0.true)) in
    ap (λ (bs : List (List Item)). record { k = c.args.self.now.k; blocks = bs }) (kept_none c.args.self.now.blocks c.args.item none)

pub discard_largest-requires : goal.discard_largest-requires
discard_largest-requires g c = (search first_fits, omega (arith, c.blocks-2.ensures.blocks, c.if-blocks-eq0.false))

pub unreachable-unreachable : goal.unreachable-unreachable
unreachable-unreachable g c = absurd c.unreachable.result

pub blocks-requires-room-R-Run : goal.blocks-requires-room-R-Run
blocks-requires-room-R-Run g c κs = search run_fits

pub discard_largest-requires-room-R-Run : goal.discard_largest-requires-room-R-Run
discard_largest-requires-room-R-Run g c κs = search run_fits

pub least_block-self-inside-requires : goal.least_block-self-inside-requires
least_block-self-inside-requires g c = search first_fits

pub least_block-self-inside-requires-room-R-Run : goal.least_block-self-inside-requires-room-R-Run
least_block-self-inside-requires-room-R-Run g c κs = search run_fits
