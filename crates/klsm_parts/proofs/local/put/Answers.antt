use Rattle.std.proofs.Common.{◌≡◌, ℕ, ◌-◌, ◌∙◌, ◌<◌, ◌∷◌, [], List, length, ap, subst, sym, refl, arith, Some}
use Rattle.std.specs.List.{Contains}
use Rattle.klsm_run.specs.declared.item.Item.{Item}
use Rattle.klsm_run.proofs.SortedLemmas.{length_sorted}
use Rattle.klsm_lsm.specs.Lsm.{content, IsLsm}
use Rattle.klsm_lsm.specs.Adding.{add}
use Rattle.klsm_parts.specs.Parts.{PartState, HasLeastFirst}
use Rattle.klsm_parts.proofs.OwnLemmas.{has_room, own_added, put_is}
use Rattle.klsm_parts.proofs.FoundLemmas.{with_one, found_after, some_after}
use Rattle.klsm_parts.proofs.FitLemmas.{first_fits, run_fits}
use Rattle.klsm_parts.proofs.local.put.Goals as goal

pub unreachable-requires : goal.unreachable-requires
unreachable-requires g c =
    let room = subst (λ (p : PartState). length (content p.blocks) < p.k) (sym c.own.view_is) c.requires.room in
    let few : length (content c.own.inside.lsm) < g.row.CAP = omega (arith, room, c.own.invariant.k_in_range) in
    let bad = c.in_default.ensures.room.1 (has_room g.row.CAP (length (content c.own.inside.lsm)) few c.own.invariant.capacity_in_range.at_most) in
    cc

pub invariant_of-own : goal.invariant_of-own
invariant_of-own g c =
    let room = subst (λ (p : PartState). length (content p.blocks) < p.k) (sym c.own.view_is) c.requires.room in
    let lawful = subst (λ (p : PartState). IsLsm p.blocks) (sym c.own.view_is) c.len-known.ensures.lawful in
    let known = subst (λ (p : PartState). (at : ℕ) → c.place_with-place.result ≡ Some at → HasLeastFirst (with_one p.blocks c.args.item) at) (sym c.own.view_is) c.place_with-place.ensures in
    let next = found_after c.own.inside.lsm (add c.own.inside.lsm (c.args.item ∷ [])) c.args.item c.place_with-place.result c.at_most-own-inside.result (c.blocks-2.result - 1) lawful refl (ap (λ n. n - 1) (c.blocks-2.ensures.blocks ∙ ap length c.in-Ok.ensures.added)) c.at_most-own-inside.ensures known in
    rw c.in-Ok.ensures.added (own_added g.row.CAP c.own.inside.k c.own.inside.lsm c.own.inside.lsm c.args.item c.own.inside.found c.at_most-own-inside.result c.own.invariant room next)

pub overflow_sub-blocks : goal.overflow_sub-blocks
overflow_sub-blocks g c =
    let lawful = subst (λ (p : PartState). IsLsm p.blocks) (sym c.own.view_is) c.len-known.ensures.lawful in
    omega (arith, c.blocks-2.ensures.blocks, ap length c.in-Ok.ensures.added, some_after c.own.inside.lsm c.args.item lawful)

pub returns-clause-event : goal.returns-clause-event
returns-clause-event g c = (
  rw (length_sorted (content c.args.own.now.blocks)) c.requires.room,
  rw (c.in-Ok.ensures.added, ← c.own.view_is) (put_is c.own.inside.lsm c.args.item),
)

pub insert-requires : goal.insert-requires
insert-requires g c =
    let absent = subst (λ (p : PartState). Contains (content p.blocks) c.args.item → ⊥) (sym c.own.view_is) c.requires.new in
    (search first_fits, (search run_fits, (c.requires.capacity, absent)))

pub returns-clause-blocks : goal.returns-clause-blocks
returns-clause-blocks g c =
    let added = ap (λ (bs : List (List Item)). record { k = c.own.inside.k; blocks = bs }) c.in-Ok.ensures.added in
    subst (λ (p : PartState). record { k = c.own.inside.k; blocks = c.insert.new.self } ≡ record { k = p.k; blocks = add p.blocks (c.args.item ∷ []) }) c.own.view_is added

pub unreachable-unreachable : goal.unreachable-unreachable
unreachable-unreachable g c = absurd c.unreachable.result
