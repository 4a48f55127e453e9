-- What a shared part shows of its pile.
use Rattle.std.proofs.Common.{◌≡◌, ℕ, ◌+◌, ◌-◌, ◌<◌, ◌≤◌, List, length, take, Option, refl, sym, ap, ◌∙◌, subst, arith}
use Rattle.std.specs.List.{slice_get}
use Rattle.std.specs.Prelude.{Result, Ok, Err, OnOk, OnErr, IfErr, IsErrAnd, Some}
use Rattle.klsm_run.specs.declared.item.Item.{Item}
use Rattle.klsm_run.specs.Capacity.{heap_room}
use Rattle.klsm_run.specs.Content.{sorted, ShareNone}
use Rattle.klsm_run.proofs.IndexLemmas.{slice_get-take}
use Rattle.klsm_lsm.specs.Adding.{add}
use Rattle.klsm_lsm.specs.Limit.{limit_of}
use Rattle.klsm_lsm.specs.Lsm.{content}
use Rattle.klsm_lsm.specs.declared.errors.LsmError.{LsmError}
use Rattle.klsm_lsm.specs.declared.errors.LsmError.TheVariants.{Full, NoMemory}
use Rattle.klsm_pile.specs.Piles.{PileState}
use Rattle.klsm_parts.specs.Parts.{PartState, IsShared, candidates_of}
use Rattle.klsm_parts.proofs.PivotLemmas.{among_candidates}

-- a part of so many candidates over a pile
abbrev pub part_of : ℕ → PileState → PartState
part_of k pile = record { k = k; blocks = pile.blocks }

-- candidates can be looked at
pub candidates_near : (levels k n : ℕ) (pile : PileState) (part : PartState) → IsShared levels k pile → part_of k pile ≡ part → n ≤ length (candidates_of part) → (n ≤ pile.reach) × (n ≤ length (content pile.blocks))
candidates_near levels k n pile part shared is few =
    let among = among_candidates (part_of k pile) part n is few in
    (omega (arith, among.0, shared.reach), among.1)

pub candidate_near : (levels k rank : ℕ) (pile : PileState) (part : PartState) → IsShared levels k pile → part_of k pile ≡ part → rank < length (candidates_of part) → (rank < pile.reach) × (rank < length (content pile.blocks))
candidate_near levels k rank pile part shared is less =
    let near = candidates_near levels k (rank + 1) pile part shared is (omega (arith, less)) in
    (omega (arith, near.0), omega (arith, near.1))

pub candidate_is : (k rank : ℕ) (pile : PileState) (part : PartState) (x : Item) → part_of k pile ≡ part → rank < length (candidates_of part) → slice_get (sorted (content pile.blocks)) rank ≡ Some x → slice_get (candidates_of part) rank ≡ Some x
candidate_is k rank pile part x is less found =
    let among = among_candidates part part (rank + 1) refl (omega (arith, less)) in
    slice_get-take (part.k + 1) (sorted (content part.blocks)) rank (omega (arith, among.0))
    ∙ subst (λ (p : PartState). slice_get (sorted (content p.blocks)) rank ≡ Some x) is found

-- what was refused for want of memory was not refused for want of room
pub not_full : {T : Type 0} (r : Result T LsmError) → IfErr r (λ why. why ≡ NoMemory) → IsErrAnd r (λ why. why ≡ Full) → ⊥
not_full (Ok x) memory full = full
not_full (Err e) memory full = let bad : NoMemory ≡ Full = sym memory ∙ full in cc

-- a run was put in, or memory was refused
pub record IsPutIn {T : Type 0} (r : Result T LsmError) (levels k : ℕ) (after : PileState) (part : PartState) (run : List Item) : Type 0 where
  pub shared : IsShared levels k after
  pub added : OnOk r (part_of k after ≡ record { k = part.k; blocks = add part.blocks run })
  pub full : (IsErrAnd r (λ why. why ≡ Full) → limit_of levels heap_room < length (content part.blocks) + length run) × (limit_of levels heap_room < length (content part.blocks) + length run → IsErrAnd r (λ why. why ≡ Full))
  pub unchanged : OnErr r (part_of k after ≡ part)

pub put_in : {T : Type 0} (r : Result T LsmError) (levels k : ℕ) (pile after : PileState) (part : PartState) (run : List Item) → IsShared levels k pile → part_of k pile ≡ part
    → length (content pile.blocks) + length run ≤ limit_of levels heap_room → OnOk r (after ≡ record { blocks = add pile.blocks run; reach = pile.reach }) → IfErr r (λ why. why ≡ NoMemory) → OnErr r (after ≡ pile)
    → IsPutIn r levels k after part run
put_in (Ok x) levels k pile after part run shared is room added memory unchanged = record {
  shared = record { reach = ap (λ (p : PileState). p.reach) added ∙ shared.reach; k_in_range = shared.k_in_range; levels_in_range = shared.levels_in_range };
  added = ap (part_of k) added ∙ ap (λ (p : PartState). record { k = p.k; blocks = add p.blocks run }) is;
  full = (λ bad. absurd bad, λ more. absurd (omega (arith, more, room, ap (λ (p : PartState). length (content p.blocks)) is)));
  unchanged = tt;
}
put_in (Err e) levels k pile after part run shared is room added memory unchanged = record {
  shared = subst (IsShared levels k) (sym unchanged) shared;
  added = tt;
  full = (λ full. absurd (not_full {T = ℕ} (Err e) memory full), λ more. absurd (omega (arith, more, room, ap (λ (p : PartState). length (content p.blocks)) is)));
  unchanged = ap (part_of k) unchanged ∙ is;
}

pub apart_of : (k : ℕ) (pile : PileState) (part : PartState) (run : List Item) → part_of k pile ≡ part → ShareNone (content part.blocks) run → ShareNone (content pile.blocks) run
apart_of k pile part run is apart = subst (λ (p : PartState). ShareNone (content p.blocks) run) (sym is) apart
