-- Two pieces of a list become one, at the place of the second.
use Rattle.std.proofs.Common.{◌≡◌, ℕ, ◌+◌, ◌<◌, ◌≤◌, Bool, true, false, List, [], ◌∷◌, ◌++◌, length, get_or, set, remove, IsTrue, refl, sym, ap, ◌∙◌, subst, arith, zero, suc}
use Rattle.std.proofs.lemmas.List.{append_assoc, length-append}
use Rattle.std.proofs.lemmas.Option.{slice_get-get_or, get_or_from_slice_get}
use Rattle.klsm_run.specs.declared.item.Item.{Item}
use Rattle.klsm_run.specs.Content.{sorted, IsAscending, ShareNone}
use Rattle.klsm_run.proofs.ApartLemmas.{AreApart}
use Rattle.klsm_run.proofs.ContentLemmas.{sorted_same_behind, sorted_sorted, sorted_swap, sharing_none_if_apart}
use Rattle.klsm_lsm.proofs.CutLemmas.{sorted_swap_before}
use Rattle.klsm_pile.specs.Piece.{PieceState}
use Rattle.klsm_pile.specs.Pieces.{counted, items_where, every_item, HaveSame}
use Rattle.klsm_pile.specs.Uniting.{ArePartners}
use Rattle.klsm_pile.proofs.AddingLemmas.{length_same}
use Rattle.klsm_pile.proofs.DistinctLemmas.{apart_together, ascending_less}
use Rattle.klsm_pile.proofs.RefillLemmas.{below_without_one}
use Rattle.klsm_pile.proofs.StoreLemmas.{AreBelowLevel}

-- the items of a piece, and all others

one_out : (ps : List PieceState) (at : ℕ) (d : PieceState) → at < length ps → (R : List Item) × (sorted (every_item ps) ≡ sorted ((get_or ps at d).items ++ R))
one_out [] at d within = absurd (omega (arith, within))
one_out (p ∷ ps) zero d within = (every_item ps, refl)
one_out (p ∷ ps) (suc at) d within =
    let out = one_out ps at d (omega (arith, within)) in
    (p.items ++ out.0, sorted_same_behind p.items (every_item ps) ((get_or ps at d).items ++ out.0) out.1 ∙ sorted_swap_before p.items (get_or ps at d).items out.0)

-- the items of two pieces, and all others
two_out : (ps : List PieceState) (one other : ℕ) (d e : PieceState) → one < other → other < length ps
    → (R : List Item) × (sorted (every_item ps) ≡ sorted ((get_or ps other d).items ++ ((get_or ps one e).items ++ R)))
two_out [] one other d e order within = absurd (omega (arith, within))
two_out (p ∷ ps) one zero d e order within = absurd (omega (arith, order))
two_out (p ∷ ps) zero (suc other) d e order within =
    let out = one_out ps other d (omega (arith, within)) in
    (out.0, sorted_same_behind p.items (every_item ps) ((get_or ps other d).items ++ out.0) out.1 ∙ sorted_swap_before p.items (get_or ps other d).items out.0)
two_out (p ∷ ps) (suc one) (suc other) d e order within =
    let out = two_out ps one other d e (omega (arith, order)) (omega (arith, within)) in
    let B : List Item = (get_or ps other d).items in
    let A : List Item = (get_or ps one e).items in (
      p.items ++ out.0,
      sorted_same_behind p.items (every_item ps) (B ++ (A ++ out.0)) out.1
          ∙ (sorted_swap_before p.items B (A ++ out.0)
          ∙ sorted_same_behind B (p.items ++ (A ++ out.0)) (A ++ (p.items ++ out.0)) (sorted_swap_before p.items A out.0)),
    )

-- two pieces share no item, and have room for both
pub pieces_apart : (ps : List PieceState) (one other : ℕ) (x y : PieceState) → ArePartners ps one other → x ≡ get_or ps other x → y ≡ get_or ps one y → IsAscending (sorted (every_item ps)) → ShareNone x.items y.items
pieces_apart ps one other x y partners x_is y_is up =
    let out = two_out ps one other x y partners.order partners.within in
    let B : List Item = (get_or ps other x).items in
    let A : List Item = (get_or ps one y).items in
    let whole : IsAscending (sorted ((B ++ A) ++ out.0)) = subst IsAscending (out.1 ∙ ap sorted (sym (append_assoc B A out.0))) up in
    let both : IsAscending (sorted (out.0 ++ (B ++ A))) = subst IsAscending (sorted_swap (B ++ A) out.0) whole in
    let alone : IsAscending (sorted (B ++ A)) = ascending_less out.0 (B ++ A) both in
    let there : AreApart x.items y.items = subst (λ (q : PieceState). AreApart q.items y.items) (sym x_is) (subst (λ (q : PieceState). AreApart B q.items) (sym y_is) (apart_together B A alone)) in
    sharing_none_if_apart x.items y.items there

pub pieces_few : (ps : List PieceState) (one other : ℕ) (x y : PieceState) → ArePartners ps one other → x ≡ get_or ps other x → y ≡ get_or ps one y → length x.items + length y.items ≤ length (every_item ps)
pieces_few ps one other x y partners x_is y_is =
    let out = two_out ps one other x y partners.order partners.within in
    let B : List Item = (get_or ps other x).items in
    let A : List Item = (get_or ps one y).items in
    let size : length (every_item ps) ≡ length (B ++ (A ++ out.0)) = length_same (every_item ps) (B ++ (A ++ out.0)) out.1 in
    let x_size : length x.items ≡ length B = ap (λ (q : PieceState). length q.items) x_is in
    let y_size : length y.items ≡ length A = ap (λ (q : PieceState). length q.items) y_is in
    omega (arith, size, x_size, y_size, length-append B (A ++ out.0), length-append A out.0)

-- the union of two pieces in place of the second, before what the first had
both_for_one : (t : Bool) (a b R : List Item) → sorted (counted t (sorted (b ++ a)) ++ R) ≡ sorted (counted t a ++ (counted t b ++ R))
both_for_one true a b R = sorted_sorted (b ++ a) R ∙ (ap sorted (append_assoc b a R) ∙ sorted_swap_before b a R)
both_for_one false a b R = refl

united_behind : (test : ℕ → Bool) (ps : List PieceState) (at : ℕ) (a d : PieceState) → at < length ps → a.level ≡ (get_or ps at d).level
    → sorted (items_where test (set ps at (record { items = sorted ((get_or ps at d).items ++ a.items); level = (get_or ps at d).level }))) ≡ sorted (counted (test a.level) a.items ++ items_where test ps)
united_behind test [] at a d within same = absurd (omega (arith, within))
united_behind test (b ∷ ps) zero a d within same =
    both_for_one (test b.level) a.items b.items (items_where test ps)
    ∙ ap (λ n. sorted (counted (test n) a.items ++ (counted (test b.level) b.items ++ items_where test ps))) (sym same)
united_behind test (b ∷ ps) (suc at) a d within same =
    let B : List Item = counted (test b.level) b.items in
    let A : List Item = counted (test a.level) a.items in
    sorted_same_behind B (items_where test (set ps at (record { items = sorted ((get_or ps at d).items ++ a.items); level = (get_or ps at d).level }))) (A ++ items_where test ps) (united_behind test ps at a d (omega (arith, within)) same)
    ∙ sorted_swap_before B A (items_where test ps)

united_pair : (test : ℕ → Bool) (ps : List PieceState) (one other : ℕ) (d e : PieceState) → one < other → other < length ps → (get_or ps one e).level ≡ (get_or ps other d).level
    → sorted (items_where test (remove (set ps other (record { items = sorted ((get_or ps other d).items ++ (get_or ps one e).items); level = (get_or ps other d).level })) one)) ≡ sorted (items_where test ps)
united_pair test [] one other d e order within same = absurd (omega (arith, within))
united_pair test (p ∷ ps) one zero d e order within same = absurd (omega (arith, order))
united_pair test (p ∷ ps) zero (suc other) d e order within same = united_behind test ps other p d (omega (arith, within)) same
united_pair test (p ∷ ps) (suc one) (suc other) d e order within same =
    sorted_same_behind (counted (test p.level) p.items)
    (items_where test (remove (set ps other (record { items = sorted ((get_or ps other d).items ++ (get_or ps one e).items); level = (get_or ps other d).level })) one)) (items_where test ps)
    (united_pair test ps one other d e (omega (arith, order)) (omega (arith, within)) same)

-- the list after the union has the same items at the same levels
pub pair_same : (ps after : List PieceState) (one other : ℕ) (x y u : PieceState) → ArePartners ps one other → x ≡ get_or ps other x → y ≡ get_or ps one y → u ≡ record { items = sorted (x.items ++ y.items); level = x.level }
    → after ≡ remove (set ps other u) one → HaveSame after ps
pair_same ps after one other x y u partners x_is y_is u_is after_is test =
    let B : PieceState = get_or ps other x in
    let A : PieceState = get_or ps one y in
    let same : A.level ≡ B.level = partners.levels A B (slice_get-get_or ps one y (omega (arith, partners.order, partners.within))) (slice_get-get_or ps other x partners.within) in
    let union : u ≡ record { items = sorted (B.items ++ A.items); level = B.level } =
    u_is ∙ (ap (λ (q : PieceState). record { items = sorted (q.items ++ y.items); level = q.level }) x_is ∙ ap (λ (q : PieceState). record { items = sorted (B.items ++ q.items); level = B.level }) y_is) in
    ap (λ qs. sorted (items_where test qs)) (after_is ∙ ap (λ (q : PieceState). remove (set ps other q) one) union)
    ∙ united_pair test ps one other x y partners.order partners.within same

-- its levels are below what those were below
pub below_set : (levels : ℕ) (ps : List PieceState) (at : ℕ) (u d : PieceState) → u.level ≡ (get_or ps at d).level → at < length ps → AreBelowLevel levels ps → AreBelowLevel levels (set ps at u)
below_set levels [] at u d same within below = absurd (omega (arith, within))
below_set levels (p ∷ ps) zero u d same within below = (omega (arith, same, below.0), below.1)
below_set levels (p ∷ ps) (suc at) u d same within below = (below.0, below_set levels ps at u d same (omega (arith, within)) below.1)

pub pair_below : (levels : ℕ) (ps after : List PieceState) (one other : ℕ) (x u : PieceState) (xs : List Item) → ArePartners ps one other → x ≡ get_or ps other x → u ≡ record { items = xs; level = x.level }
    → after ≡ remove (set ps other u) one → AreBelowLevel levels ps → AreBelowLevel levels after
pair_below levels ps after one other x u xs partners x_is u_is after_is below =
    subst (AreBelowLevel levels) (sym after_is)
    (below_without_one levels (set ps other u) one
    (below_set levels ps other u x (ap (λ (q : PieceState). q.level) u_is ∙ ap (λ (q : PieceState). q.level) x_is) partners.within below))

-- two places of pieces of one level
partners_at : (ps : List PieceState) (one other : ℕ) (x y : PieceState) → one < other → other < length ps → x ≡ get_or ps one x → y ≡ get_or ps other y → x.level ≡ y.level → ArePartners ps one other
partners_at ps one other x y order within x_is y_is same = record {
  order = order;
  within = within;
  levels = λ p q p_there q_there.
      let p_is : x ≡ p = x_is ∙ get_or_from_slice_get ps one p x p_there in
      let q_is : y ≡ q = y_is ∙ get_or_from_slice_get ps other q y q_there in
      ap (λ (r : PieceState). r.level) (sym p_is) ∙ (same ∙ ap (λ (r : PieceState). r.level) q_is);
}

-- the same by a test
pub partners_if : (ps : List PieceState) (one other : ℕ) (x y : PieceState) (b : Bool) → one < other → other < length ps → x ≡ get_or ps one x → y ≡ get_or ps other y → b ≡ true → (IsTrue b → x.level ≡ y.level) → ArePartners ps one other
partners_if ps one other x y b order within x_is y_is is same = partners_at ps one other x y order within x_is y_is (same is)

-- the items after some unions
pub still_few : (ps now : List PieceState) → HaveSame now ps → length (every_item now) ≡ length (every_item ps)
still_few ps now same = length_same (every_item now) (every_item ps) (same (λ n. true))

pub fewer_still : (done : Bool) (n m most : ℕ) → done ≡ true → (IsTrue done → n + 1 ≡ m) → m ≤ most → n ≤ most
fewer_still done n m most is fewer few = omega (arith, fewer is, few)
