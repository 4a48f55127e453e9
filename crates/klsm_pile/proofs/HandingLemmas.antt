-- Two pieces of a list become one at the place of one of them, or one becomes two.
use Rattle.std.proofs.Common.{◌≡◌, ℕ, ◌+◌, ◌-◌, ◌<◌, Bool, true, false, List, [], ◌∷◌, ◌++◌, length, get_or, set, remove, refl, sym, ap, ◌∙◌, subst, arith, zero, suc, Some}
use Rattle.std.proofs.lemmas.List.{append_assoc, append-nil, set-get_or}
use Rattle.std.proofs.lemmas.List.Edits.{length-remove, get_or-remove_above}
use Rattle.std.proofs.lemmas.Option.{slice_get-get_or}
use Rattle.klsm_run.specs.declared.item.Item.{Item}
use Rattle.klsm_run.specs.Content.{sorted}
use Rattle.klsm_run.proofs.AllLemmas.{all_append}
use Rattle.klsm_run.proofs.ContentLemmas.{sorted_same_behind, sorted_swap, sorted_itself}
use Rattle.klsm_lsm.proofs.CutLemmas.{sorted_swap_before}
use Rattle.klsm_pile.specs.Piece.{PieceState}
use Rattle.klsm_pile.specs.Pieces.{counted, items_where, HaveSame}
use Rattle.klsm_pile.specs.Uniting.{ArePartners}
use Rattle.klsm_pile.proofs.AddingLemmas.{sorted_same_before}
use Rattle.klsm_pile.proofs.PairLemmas.{below_set}
use Rattle.klsm_pile.proofs.RaisedLemmas.{picked_append}
use Rattle.klsm_pile.proofs.RefillLemmas.{below_without_one}
use Rattle.klsm_pile.proofs.StoreLemmas.{AreBelowLevel}

-- the items of a piece that count
abbrev own : (ℕ → Bool) → PieceState → List Item
own test p = counted (test p.level) p.items

-- a piece leaves

one_less : (test : ℕ → Bool) (ps : List PieceState) (at : ℕ) (d : PieceState) → at < length ps → sorted (items_where test ps) ≡ sorted (own test (get_or ps at d) ++ items_where test (remove ps at))
one_less test [] at d within = absurd (omega (arith, within))
one_less test (p ∷ ps) zero d within = refl
one_less test (p ∷ ps) (suc at) d within =
    sorted_same_behind (own test p) (items_where test ps) (own test (get_or ps at d) ++ items_where test (remove ps at)) (one_less test ps at d (omega (arith, within)))
    ∙ sorted_swap_before (own test p) (own test (get_or ps at d)) (items_where test (remove ps at))

-- a piece gains items
set_more : (test : ℕ → Bool) (ps : List PieceState) (at : ℕ) (u d : PieceState) (W : List Item) → at < length ps → sorted (own test u) ≡ sorted (W ++ own test (get_or ps at d)) → sorted (items_where test (set ps at u)) ≡ sorted (W ++ items_where test ps)
set_more test [] at u d W within gains = absurd (omega (arith, within))
set_more test (p ∷ ps) zero u d W within gains =
    sorted_same_before (own test u) (W ++ own test p) (items_where test ps) gains ∙ ap sorted (append_assoc W (own test p) (items_where test ps))
set_more test (p ∷ ps) (suc at) u d W within gains =
    sorted_same_behind (own test p) (items_where test (set ps at u)) (W ++ items_where test ps) (set_more test ps at u d W (omega (arith, within)) gains)
    ∙ sorted_swap_before (own test p) W (items_where test ps)

-- a piece loses items
set_less : (test : ℕ → Bool) (ps : List PieceState) (at : ℕ) (u d : PieceState) (W : List Item) → at < length ps → sorted (own test (get_or ps at d)) ≡ sorted (W ++ own test u) → sorted (W ++ items_where test (set ps at u)) ≡ sorted (items_where test ps)
set_less test [] at u d W within loses = absurd (omega (arith, within))
set_less test (p ∷ ps) zero u d W within loses =
    ap sorted (sym (append_assoc W (own test u) (items_where test ps))) ∙ sym (sorted_same_before (own test p) (W ++ own test u) (items_where test ps) loses)
set_less test (p ∷ ps) (suc at) u d W within loses =
    sorted_swap_before W (own test p) (items_where test (set ps at u))
    ∙ sorted_same_behind (own test p) (W ++ items_where test (set ps at u)) (items_where test ps) (set_less test ps at u d W (omega (arith, within)) loses)

-- two become one

gained : (t : Bool) (a b : List Item) → sorted (counted t (sorted (b ++ a))) ≡ sorted (counted t a ++ counted t b)
gained true a b = sorted_itself (b ++ a) ∙ sorted_swap b a
gained false a b = refl

-- the second of two, once the first has left
pub still_there : (ps left : List PieceState) (one other : ℕ) (y : PieceState) → ArePartners ps one other → left ≡ remove ps one → y ≡ get_or left (other - 1) y → y ≡ get_or ps other y
still_there ps left one other y partners left_is y_is =
    let first : one < length ps = omega (arith, partners.order, partners.within) in
    let place : other - 1 + 1 ≡ other = omega (arith, partners.order) in
    y_is ∙ (ap (λ qs. get_or qs (other - 1) y) left_is ∙ (get_or-remove_above ps one y (other - 1) (omega (arith, partners.order)) first ∙ ap (λ n. get_or ps n y) place))

pub still_within : (ps left : List PieceState) (one other : ℕ) → ArePartners ps one other → left ≡ remove ps one → other - 1 < length left
still_within ps left one other partners left_is =
    omega (arith, ap length left_is, length-remove ps one (omega (arith, partners.order, partners.within)), partners.order, partners.within)

-- the pieces once one has left and another has its items: x stood at the first place, y at the second
pub taken_in : (ps left after : List PieceState) (one other : ℕ) (x y u : PieceState) → ArePartners ps one other → x ≡ get_or ps one x → left ≡ remove ps one → y ≡ get_or left (other - 1) y → u ≡ record { items = sorted (y.items ++ x.items); level = y.level }
    → after ≡ set left (other - 1) u → HaveSame after ps
taken_in ps left after one other x y u partners x_is left_is y_is u_is after_is test =
    let first : one < length ps = omega (arith, partners.order, partners.within) in
    let there : y ≡ get_or ps other y = still_there ps left one other y partners left_is y_is in
    let levels : x.level ≡ y.level = partners.levels x y (slice_get-get_or ps one x first ∙ ap (λ q. Some q) (sym x_is)) (slice_get-get_or ps other y partners.within ∙ ap (λ q. Some q) (sym there)) in
    let within : other - 1 < length left = still_within ps left one other partners left_is in
    let gains : sorted (own test u) ≡ sorted (own test x ++ own test (get_or left (other - 1) y)) =
    ap (λ (q : PieceState). sorted (own test q)) u_is
    ∙ (gained (test y.level) x.items y.items
    ∙ (ap (λ n. sorted (counted (test n) x.items ++ own test y)) (sym levels) ∙ ap (λ (q : PieceState). sorted (own test x ++ own test q)) y_is)) in
    ap (λ qs. sorted (items_where test qs)) after_is
    ∙ (set_more test left (other - 1) u y (own test x) within gains
    ∙ (ap (λ qs. sorted (own test x ++ items_where test qs)) left_is
    ∙ (ap (λ (q : PieceState). sorted (own test q ++ items_where test (remove ps one))) x_is ∙ sym (one_less test ps one x first))))

pub taken_below : (levels : ℕ) (ps left after : List PieceState) (one at : ℕ) (y u : PieceState) (xs : List Item) → left ≡ remove ps one → y ≡ get_or left at y → u ≡ record { items = xs; level = y.level } → after ≡ set left at u → at < length left
    → AreBelowLevel levels ps → AreBelowLevel levels after
taken_below levels ps left after one at y u xs left_is y_is u_is after_is within below =
    subst (AreBelowLevel levels) (sym after_is)
    (below_set levels left at u y (ap (λ (q : PieceState). q.level) u_is ∙ ap (λ (q : PieceState). q.level) y_is) within
    (subst (AreBelowLevel levels) (sym left_is) (below_without_one levels ps one below)))

-- the pieces once one has left and comes back as the last
pub moved_back : (ps left after : List PieceState) (one at : ℕ) (x y u z : PieceState) → one < length ps → x ≡ get_or ps one x → left ≡ remove ps one → y ≡ get_or left at y → u ≡ y → z ≡ x → after ≡ set left at u ++ z ∷ [] → HaveSame after ps
moved_back ps left after one at x y u z within x_is left_is y_is u_is z_is after_is test =
    let same : set left at u ≡ left = ap (set left at) (u_is ∙ y_is) ∙ set-get_or left at y in
    let back : after ≡ remove ps one ++ x ∷ [] = after_is ∙ (ap (λ qs. qs ++ z ∷ []) (same ∙ left_is) ∙ ap (λ (q : PieceState). remove ps one ++ q ∷ []) z_is) in
    ap (λ qs. sorted (items_where test qs)) back
    ∙ (ap sorted (picked_append test (remove ps one) (x ∷ []) ∙ ap (λ zs. items_where test (remove ps one) ++ zs) (append-nil (own test x)))
    ∙ (sorted_swap (items_where test (remove ps one)) (own test x)
    ∙ (ap (λ (q : PieceState). sorted (own test q ++ items_where test (remove ps one))) x_is ∙ sym (one_less test ps one x within))))

at_below : (levels : ℕ) (ps : List PieceState) (at : ℕ) (d : PieceState) → at < length ps → AreBelowLevel levels ps → (get_or ps at d).level < levels
at_below levels [] at d within below = absurd (omega (arith, within))
at_below levels (p ∷ ps) zero d within below = below.0
at_below levels (p ∷ ps) (suc at) d within below = at_below levels ps at d (omega (arith, within)) below.1

pub moved_below : (levels : ℕ) (ps left after : List PieceState) (one at : ℕ) (x y u z : PieceState) → one < length ps → x ≡ get_or ps one x → left ≡ remove ps one → y ≡ get_or left at y → u ≡ y → z ≡ x → after ≡ set left at u ++ z ∷ []
    → AreBelowLevel levels ps → AreBelowLevel levels after
moved_below levels ps left after one at x y u z within x_is left_is y_is u_is z_is after_is below =
    let same : set left at u ≡ left = ap (set left at) (u_is ∙ y_is) ∙ set-get_or left at y in
    let level : z.level < levels = subst (λ (q : PieceState). q.level < levels) (sym (z_is ∙ x_is)) (at_below levels ps one x within below) in
    subst (AreBelowLevel levels) (sym (after_is ∙ ap (λ qs. qs ++ z ∷ []) (same ∙ left_is)))
    (all_append (λ (p : PieceState). p.level < levels) (remove ps one) (z ∷ []) (below_without_one levels ps one below) (level, tt))

-- one becomes two

lost : (t : Bool) (a b p : List Item) → sorted (a ++ b) ≡ p → sorted (counted t p) ≡ sorted (counted t b ++ counted t a)
lost true a b p is = ap sorted (sym is) ∙ (sorted_itself (a ++ b) ∙ sorted_swap a b)
lost false a b p is = refl

pub split_same : (ps after : List PieceState) (at : ℕ) (p u z : PieceState) → at < length ps → p ≡ get_or ps at p → sorted (u.items ++ z.items) ≡ p.items → u.level ≡ p.level → z.level ≡ p.level → after ≡ set ps at u ++ z ∷ [] → HaveSame after ps
split_same ps after at p u z within p_is items u_is z_is after_is test =
    let loses : sorted (own test (get_or ps at p)) ≡ sorted (own test z ++ own test u) =
    ap (λ (q : PieceState). sorted (own test q)) (sym p_is)
    ∙ (lost (test p.level) u.items z.items p.items items
    ∙ (ap (λ n. sorted (counted (test n) z.items ++ counted (test p.level) u.items)) (sym z_is) ∙ ap (λ n. sorted (own test z ++ counted (test n) u.items)) (sym u_is))) in
    ap (λ qs. sorted (items_where test qs)) after_is
    ∙ (ap sorted (picked_append test (set ps at u) (z ∷ []) ∙ ap (λ zs. items_where test (set ps at u) ++ zs) (append-nil (own test z)))
    ∙ (sorted_swap (items_where test (set ps at u)) (own test z) ∙ set_less test ps at u p (own test z) within loses))

pub split_below : (levels : ℕ) (ps after : List PieceState) (at : ℕ) (p u z : PieceState) → at < length ps → p ≡ get_or ps at p → u.level ≡ p.level → z.level ≡ p.level → after ≡ set ps at u ++ z ∷ [] → AreBelowLevel levels ps → AreBelowLevel levels after
split_below levels ps after at p u z within p_is u_is z_is after_is below =
    let level : z.level < levels = omega (arith, z_is, ap (λ (q : PieceState). q.level) p_is, at_below levels ps at p within below) in
    subst (AreBelowLevel levels) (sym after_is)
    (all_append (λ (q : PieceState). q.level < levels) (set ps at u) (z ∷ []) (below_set levels ps at u p (u_is ∙ ap (λ (q : PieceState). q.level) p_is) within below) (level, tt))

-- a piece stays what it was
set_again : (ps : List PieceState) (at : ℕ) (p u : PieceState) → p ≡ get_or ps at p → u ≡ p → set ps at u ≡ ps
set_again ps at p u p_is u_is = ap (set ps at) (u_is ∙ p_is) ∙ set-get_or ps at p

pub below_again : (levels : ℕ) (ps : List PieceState) (at : ℕ) (p u : PieceState) → p ≡ get_or ps at p → u ≡ p → AreBelowLevel levels ps → AreBelowLevel levels (set ps at u)
below_again levels ps at p u p_is u_is below = subst (AreBelowLevel levels) (sym (set_again ps at p u p_is u_is)) below
