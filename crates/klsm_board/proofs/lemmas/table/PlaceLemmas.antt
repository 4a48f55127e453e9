-- Lock words that stand apart, as the words of the world.
use Rattle.std.proofs.Common.{◌≡◌, ◌≢◌, ℕ, zero, suc, ◌+◌, ◌*◌, ◌<◌, ◌≤◌, List, [], ◌∷◌, length, length-set, get_or, set, replicate, refl, sym, ap, ◌∙◌, subst, arith}
use Rattle.atomic_table.specs.Seated.{TableId}
use Rattle.klsm_board.specs.declared.sizes.Sizes.{Sizes}
use Rattle.klsm_board.specs.Rule.{place, mark_place, locks_from, lock_words, front_word, IsSized}

-- what holds of a part holds of each part with the same word
pub at_place : (F : ℕ → Type 0) (p : ℕ) → F p → (q : ℕ) → place q ≡ place p → F q
at_place F p h q e = let e' : q * 16 ≡ p * 16 = e in let same : p ≡ q = omega (arith, e') in subst F same h

got_here : (l : List ℕ) (i x : ℕ) → i < length l → get_or (set l i x) i 0 ≡ x
got_here [] i x h = absurd (omega (arith, h))
got_here (y ∷ ys) zero x h = refl
got_here (y ∷ ys) (suc i) x h = got_here ys i x (omega (arith, h))

pub got_else : (l : List ℕ) (i j x : ℕ) → j ≢ i → get_or (set l i x) j 0 ≡ get_or l j 0
got_else [] i j x n = refl
got_else (y ∷ ys) zero zero x n = absurd (n refl)
got_else (y ∷ ys) zero (suc j) x n = refl
got_else (y ∷ ys) (suc i) zero x n = refl
got_else (y ∷ ys) (suc i) (suc j) x n = got_else ys i j x (λ e. n (ap suc e))

pub got_blank : (k i : ℕ) → ◌≡◌ {A = ℕ} (get_or (replicate k 0) i 0) 0
got_blank zero i = refl
got_blank (suc k) zero = refl
got_blank (suc k) (suc i) = got_blank k i

-- the words of a table after a step on one that stands in a place, or on a mark: as many, and no other has changed
pub record StayBetween (before after : List ℕ) : Type 0 where
  pub as_many : length after ≡ length before
  pub same : (i : ℕ) → ((p : ℕ) → i ≢ place p) → ((t : ℕ) → i ≢ mark_place t) → get_or after i 0 ≡ get_or before i 0

pub others_stay : (ws : List ℕ) (p x : ℕ) → StayBetween ws (set ws (place p) x)
others_stay ws p x = record { as_many = length-set ws (place p) x; same = λ i none unmarked. got_else ws (place p) i x (none p) }

pub others_stay_marked : (ws : List ℕ) (t x : ℕ) → StayBetween ws (set ws (mark_place t) x)
others_stay_marked ws t x = record { as_many = length-set ws (mark_place t) x; same = λ i none unmarked. got_else ws (mark_place t) i x (unmarked t) }

-- no mark stands in the place of a lock or of the front
pub mark_apart : (t p : ℕ) → mark_place t ≢ place p
mark_apart t p e = let e' : (t + 1) * 16 + 1 ≡ p * 16 = e in omega (arith, e')

-- so it stays where one of these is set
pub mark_stays : (ws : List ℕ) (p x t : ℕ) → get_or (set ws (place p) x) (mark_place t) 0 ≡ get_or ws (mark_place t) 0
mark_stays ws p x t = got_else ws (place p) (mark_place t) x (mark_apart t p)

-- and where another thread's mark is set
pub other_mark_stays : (ws : List ℕ) (t u x : ℕ) → u ≢ t → get_or (set ws (mark_place t) x) (mark_place u) 0 ≡ get_or ws (mark_place u) 0
other_mark_stays ws t u x n = got_else ws (mark_place t) (mark_place u) x (λ e. let e' : (u + 1) * 16 + 1 ≡ (t + 1) * 16 + 1 = e in n (omega (arith, e')))

pub mark_set : (ws : List ℕ) (t x : ℕ) → mark_place t < length ws → get_or (set ws (mark_place t) x) (mark_place t) 0 ≡ x
mark_set ws t x h = got_here ws (mark_place t) x h

-- what holds of a thread holds of each thread with the same mark
pub at_mark : (F : ℕ → Type 0) (t : ℕ) → F t → (u : ℕ) → mark_place u ≡ mark_place t → F u
at_mark F t h u e = let e' : (u + 1) * 16 + 1 ≡ (t + 1) * 16 + 1 = e in let same : t ≡ u = omega (arith, e') in subst F same h

-- the word of the part q + p
lock_at : (q n : ℕ) (ws : List ℕ) (p : ℕ) → p < n → get_or (locks_from q n ws) p 0 ≡ get_or ws (place (q + p)) 0
lock_at q zero ws p h = absurd (omega (arith, h))
lock_at q (suc n) ws zero h = let e : q ≡ q + 0 = omega arith in ap (λ z. get_or ws (place z) 0) e
lock_at q (suc n) ws (suc p) h = let e : suc q + p ≡ q + suc p = omega arith in lock_at (suc q) n ws p (omega (arith, h)) ∙ ap (λ z. get_or ws (place z) 0) e

-- a word before those of the parts
before : (q n : ℕ) (ws : List ℕ) (i x : ℕ) → i < q * 16 → locks_from q n (set ws i x) ≡ locks_from q n ws
before q zero ws i x h = refl
before q (suc n) ws i x h = λ k. got_else ws i (place q) x (λ e. let e' : q * 16 ≡ i = e in omega (arith, e', h)) k ∷ before (suc q) n ws i x (omega (arith, h)) k

-- the word of the part q + p is set
lock_set : (q n : ℕ) (ws : List ℕ) (p x : ℕ) → (q + p) * 16 < length ws → locks_from q n (set ws (place (q + p)) x) ≡ set (locks_from q n ws) p x
lock_set q zero ws p x h = refl
lock_set q (suc n) ws zero x h =
    let e : q + 0 ≡ q = omega arith in
    let inside : q * 16 < length ws = omega (arith, h) in
    ap (λ z. locks_from q (suc n) (set ws (place z) x)) e ∙ (λ k. got_here ws (place q) x inside k ∷ before (suc q) n ws (place q) x (omega arith) k)
lock_set q (suc n) ws (suc p) x h =
    let e : q + suc p ≡ suc q + p = omega arith in
    ap (λ z. locks_from q (suc n) (set ws (place z) x)) e
    ∙ (λ k. got_else ws (place (suc q + p)) (place q) x (λ d. let d' : q * 16 ≡ (suc q + p) * 16 = d in omega (arith, d')) k ∷ lock_set (suc q) n ws p x (omega (arith, h)) k)

-- the same from part 0 on
pub word_at : (n : ℕ) (ws : List ℕ) (p : ℕ) → p < n → get_or (locks_from 0 n ws) p 0 ≡ get_or ws (place p) 0
word_at n ws p h = let e : 0 + p ≡ p = omega arith in lock_at 0 n ws p h ∙ ap (λ z. get_or ws (place z) 0) e

-- where the word of a part is set in the table, it is set in the world
pub word_set_at : (n : ℕ) (ws : List ℕ) (p x : ℕ) → p * 16 < length ws → locks_from 0 n (set ws (place p) x) ≡ set (locks_from 0 n ws) p x
word_set_at n ws p x h = let e : p ≡ 0 + p = omega arith in ap (λ z. locks_from 0 n (set ws (place z) x)) e ∙ lock_set 0 n ws p x (omega (arith, h))

-- the lock words where a mark is set
pub locks_stay_marked : (q n : ℕ) (ws : List ℕ) (t x : ℕ) → locks_from q n (set ws (mark_place t) x) ≡ locks_from q n ws
locks_stay_marked q zero ws t x = refl
locks_stay_marked q (suc n) ws t x = λ k. got_else ws (mark_place t) (place q) x (λ e. mark_apart t q (sym e)) k ∷ locks_stay_marked (suc q) n ws t x k

pub locks_blank : (q n k : ℕ) → locks_from q n (replicate k 0) ≡ replicate n 0
locks_blank q zero k = refl
locks_blank q (suc n) k = λ i. got_blank k (place q) i ∷ locks_blank (suc q) n k i

-- a word behind those of the parts
behind : (q n : ℕ) (ws : List ℕ) (i x : ℕ) → (q + n) * 16 ≤ i → locks_from q n (set ws i x) ≡ locks_from q n ws
behind q zero ws i x h = refl
behind q (suc n) ws i x h = λ k. got_else ws i (place q) x (λ e. let e' : q * 16 ≡ i = e in omega (arith, e', h)) k ∷ behind (suc q) n ws i x (omega (arith, h)) k

-- the front word is none of the locks, and the other way round
pub locks_stay : (m : Sizes) (ws : List ℕ) (x : ℕ) → lock_words m (set ws (place (m.threads + 1)) x) ≡ lock_words m ws
locks_stay m ws x = behind 0 (m.threads + 1) ws (place (m.threads + 1)) x (omega arith)

pub front_stays : (m : Sizes) (ws : List ℕ) (p x : ℕ) → p ≤ m.threads → front_word m (set ws (place p) x) ≡ front_word m ws
front_stays m ws p x le = got_else ws (place p) (place (m.threads + 1)) x (λ e. let e' : (m.threads + 1) * 16 ≡ p * 16 = e in omega (arith, e', le))

-- where it is set in the table, it is set in the world
pub front_set_at : (m : Sizes) (ws : List ℕ) (x : ℕ) → length ws ≡ place (m.threads + 2) → front_word m (set ws (place (m.threads + 1)) x) ≡ x
front_set_at m ws x wide = let wide' : length ws ≡ (m.threads + 2) * 16 = wide in got_here ws (place (m.threads + 1)) x (omega (arith, wide'))

-- nor is it a mark
pub front_stays_marked : (m : Sizes) (ws : List ℕ) (t x : ℕ) → front_word m (set ws (mark_place t) x) ≡ front_word m ws
front_stays_marked m ws t x = got_else ws (mark_place t) (place (m.threads + 1)) x (λ e. mark_apart t (m.threads + 1) (sym e))

pub front_inside : (z : TableId) (m : Sizes) → IsSized z m → place (m.threads + 1) < z.words
front_inside z m sized = let w : z.words ≡ (m.threads + 2) * 16 = sized.0 in omega (arith, w)

pub mark_inside : (z : TableId) (m : Sizes) (t : ℕ) → IsSized z m → t < m.threads → mark_place t < z.words
mark_inside z m t sized lt = let w : z.words ≡ (m.threads + 2) * 16 = sized.0 in omega (arith, w, lt)

pub inside : (z : TableId) (m : Sizes) (p : ℕ) → IsSized z m → p ≤ m.threads → place p < z.words
inside z m p sized le = let w : z.words ≡ (m.threads + 2) * 16 = sized.0 in omega (arith, w, le)
