-- The loops by which some levels get one number.
use Rattle.std.proofs.Common.{◌≡◌, ℕ, ◌+◌, ◌<◌, ◌≤◌, List, [], ◌∷◌, ◌++◌, length, get_or, take, drop, set, refl, ap, ◌∙◌, arith, zero, suc}
use Rattle.std.proofs.lemmas.List.{get_or_default}
use Rattle.klsm_pile.specs.Piece.{PieceState}
use Rattle.klsm_pile.specs.declared.fetched.Fetched.{Fetched}
use Rattle.klsm_pile.specs.Settling.{regrouped_level, regrouped, relabelled}

regrouped_more : (low high to i : ℕ) (ps : List PieceState) (d : PieceState) → i < length ps
    → set (regrouped low high to (take i ps) ++ drop i ps) i (record { items = (get_or ps i d).items; level = regrouped_level low high to (get_or ps i d).level }) ≡ regrouped low high to (take (suc i) ps) ++ drop (suc i) ps
regrouped_more low high to i [] d within = absurd (omega (arith, within))
regrouped_more low high to zero (p ∷ ps) d within = refl
regrouped_more low high to (suc i) (p ∷ ps) d within = ap (λ qs. record p { level = regrouped_level low high to p.level } ∷ qs) (regrouped_more low high to i ps d (omega (arith, within)))

get_or_regrouped : (low high to i : ℕ) (ps : List PieceState) (d : PieceState) → get_or (regrouped low high to (take i ps) ++ drop i ps) i d ≡ get_or ps i d
get_or_regrouped low high to zero ps d = refl
get_or_regrouped low high to (suc i) [] d = refl
get_or_regrouped low high to (suc i) (p ∷ ps) d = get_or_regrouped low high to i ps d

-- one more piece has its number
pub regrouped_at : (low high to i l : ℕ) (pieces old : List PieceState) (x d : PieceState) → pieces ≡ regrouped low high to (take i old) ++ drop i old → i < length old → i < length pieces → l ≡ regrouped_level low high to (get_or pieces i x).level
    → set pieces i (record (get_or pieces i d) { level = l }) ≡ regrouped low high to (take (i + 1) old) ++ drop (i + 1) old
regrouped_at low high to i l pieces old x d inv within in_pieces l_is =
    let p : PieceState = get_or old i d in
    let here : get_or pieces i d ≡ p = ap (λ qs. get_or qs i d) inv ∙ get_or_regrouped low high to i old d in
    let x_there : get_or pieces i x ≡ p = get_or_default pieces i x d in_pieces ∙ here in
    let number : l ≡ regrouped_level low high to p.level = l_is ∙ ap (λ (q : PieceState). regrouped_level low high to q.level) x_there in
    let next : suc i ≡ i + 1 = omega arith in
    ap (λ (q : PieceState). set pieces i (record q { level = l })) here
    ∙ (ap (λ n. set pieces i (record p { level = n })) number
    ∙ (ap (λ qs. set qs i (record p { level = regrouped_level low high to p.level })) inv
    ∙ (regrouped_more low high to i old d within
    ∙ ap (λ n. regrouped low high to (take n old) ++ drop n old) next)))

relabelled_more : (low high to i : ℕ) (fs : List Fetched) (d : Fetched) → i < length fs
    → set (relabelled low high to (take i fs) ++ drop i fs) i (record (get_or fs i d) { level = regrouped_level low high to (get_or fs i d).level }) ≡ relabelled low high to (take (suc i) fs) ++ drop (suc i) fs
relabelled_more low high to i [] d within = absurd (omega (arith, within))
relabelled_more low high to zero (f ∷ fs) d within = refl
relabelled_more low high to (suc i) (f ∷ fs) d within = ap (λ gs. record f { level = regrouped_level low high to f.level } ∷ gs) (relabelled_more low high to i fs d (omega (arith, within)))

get_or_relabelled : (low high to i : ℕ) (fs : List Fetched) (d : Fetched) → get_or (relabelled low high to (take i fs) ++ drop i fs) i d ≡ get_or fs i d
get_or_relabelled low high to zero fs d = refl
get_or_relabelled low high to (suc i) [] d = refl
get_or_relabelled low high to (suc i) (f ∷ fs) d = get_or_relabelled low high to i fs d

-- one more item of the front has its number
pub relabelled_at : (low high to i l : ℕ) (front old : List Fetched) (x d : Fetched) → front ≡ relabelled low high to (take i old) ++ drop i old → i < length old → i < length front → l ≡ regrouped_level low high to (get_or front i x).level
    → set front i (record (get_or front i d) { level = l }) ≡ relabelled low high to (take (i + 1) old) ++ drop (i + 1) old
relabelled_at low high to i l front old x d inv within in_front l_is =
    let f : Fetched = get_or old i d in
    let here : get_or front i d ≡ f = ap (λ gs. get_or gs i d) inv ∙ get_or_relabelled low high to i old d in
    let x_there : get_or front i x ≡ f = get_or_default front i x d in_front ∙ here in
    let number : l ≡ regrouped_level low high to f.level = l_is ∙ ap (λ (g : Fetched). regrouped_level low high to g.level) x_there in
    let next : suc i ≡ i + 1 = omega arith in
    ap (λ (g : Fetched). set front i (record g { level = l })) here
    ∙ (ap (λ n. set front i (record f { level = n })) number
    ∙ (ap (λ gs. set gs i (record f { level = regrouped_level low high to f.level })) inv
    ∙ (relabelled_more low high to i old d within
    ∙ ap (λ n. relabelled low high to (take n old) ++ drop n old) next)))

pub relabelled_length : (low high to i : ℕ) (front old : List Fetched) → front ≡ relabelled low high to (take i old) ++ drop i old → length front ≡ length old
relabelled_length low high to i front old is = ap length is ∙ go i old where
  go : (n : ℕ) (fs : List Fetched) → length (relabelled low high to (take n fs) ++ drop n fs) ≡ length fs
  go zero fs = refl
  go (suc n) [] = refl
  go (suc n) (f ∷ fs) = ap suc (go n fs)

pub relabelled_all : (low high to i : ℕ) (front old : List Fetched) → length old ≤ i → front ≡ relabelled low high to (take i old) ++ drop i old → front ≡ relabelled low high to old
relabelled_all low high to i front old all is = is ∙ go i old all where
  go : (n : ℕ) (fs : List Fetched) → length fs ≤ n → relabelled low high to (take n fs) ++ drop n fs ≡ relabelled low high to fs
  go zero [] h = refl
  go zero (f ∷ fs) h = absurd (omega (arith, h))
  go (suc n) [] h = refl
  go (suc n) (f ∷ fs) h = ap (λ gs. record f { level = regrouped_level low high to f.level } ∷ gs) (go n fs (omega (arith, h)))

-- the same at the values of the code
pub relabelled_next : (low high to i l : ℕ) (front old : List Fetched) (x y : Fetched) → front ≡ relabelled low high to (take i old) ++ drop i old → i < length old → i < length front → x ≡ get_or front i x → y ≡ get_or front i y
    → l ≡ regrouped_level low high to x.level → set front i (record { item = y.item; level = l }) ≡ relabelled low high to (take (i + 1) old) ++ drop (i + 1) old
relabelled_next low high to i l front old x y inv within in_front x_is y_is l_is =
    ap (λ (f : Fetched). set front i (record { item = f.item; level = l })) y_is
    ∙ relabelled_at low high to i l front old x y inv within in_front (l_is ∙ ap (λ (f : Fetched). regrouped_level low high to f.level) x_is)

pub regrouped_next : (low high to i l : ℕ) (pieces old : List PieceState) (x q d : PieceState) → pieces ≡ regrouped low high to (take i old) ++ drop i old → i < length old → i < length pieces
    → l ≡ regrouped_level low high to (get_or pieces i x).level → q ≡ record { items = (get_or pieces i d).items; level = l } → set pieces i q ≡ regrouped low high to (take (i + 1) old) ++ drop (i + 1) old
regrouped_next low high to i l pieces old x q d inv within in_pieces l_is q_is =
    ap (set pieces i) q_is ∙ regrouped_at low high to i l pieces old x d inv within in_pieces l_is

pub regrouped_step : (low high to i l : ℕ) (pieces old : List PieceState) (x y q : PieceState) → pieces ≡ regrouped low high to (take i old) ++ drop i old → i < length old → i < length pieces → x ≡ get_or pieces i x → y ≡ get_or pieces i y
    → l ≡ regrouped_level low high to x.level → q ≡ record { items = y.items; level = l } → set pieces i q ≡ regrouped low high to (take (i + 1) old) ++ drop (i + 1) old
regrouped_step low high to i l pieces old x y q inv within in_pieces x_is y_is l_is q_is =
    regrouped_next low high to i l pieces old x q y inv within in_pieces (l_is ∙ ap (λ (p : PieceState). regrouped_level low high to p.level) x_is)
    (q_is ∙ ap (λ (p : PieceState). record { items = p.items; level = l }) y_is)

pub regrouped_length : (low high to i : ℕ) (pieces old : List PieceState) → pieces ≡ regrouped low high to (take i old) ++ drop i old → length pieces ≡ length old
regrouped_length low high to i pieces old is = ap length is ∙ go i old where
  go : (n : ℕ) (ps : List PieceState) → length (regrouped low high to (take n ps) ++ drop n ps) ≡ length ps
  go zero ps = refl
  go (suc n) [] = refl
  go (suc n) (p ∷ ps) = ap suc (go n ps)
