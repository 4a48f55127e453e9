-- The slots that a seat carries, in turn: one is exchanged, others come to the front, and it is
-- exchanged again.
use Rattle.std.proofs.Common.{◌≡◌, ℕ, List, [], ◌∷◌, sym, ap, ◌∙◌}
use Rattle.atomic_table.specs.Table.{rest, turned}

pub as_rest : {S : Type 0} (l xs : List (ℕ × S)) (x : ℕ × S) → l ≡ x ∷ xs → l ≡ x ∷ rest l
as_rest {S} l xs x is = is ∙ ap (λ (z : List (ℕ × S)). x ∷ z) (sym (ap (λ (z : List (ℕ × S)). rest z) is))

-- the first of two is exchanged, and goes behind the second
pub behind : {S : Type 0} (l0 l1 l2 : List (ℕ × S)) (x y z : ℕ × S) → l0 ≡ x ∷ y ∷ [] → l1 ≡ z ∷ rest l0 → l2 ≡ turned l1 → l2 ≡ y ∷ z ∷ []
behind {S} l0 l1 l2 x y z a b c = c ∙ (ap (λ (k : List (ℕ × S)). turned k) b ∙ ap (λ (k : List (ℕ × S)). turned (z ∷ rest k)) a)

-- the same of three, with two turns to the third
pub behind_two : {S : Type 0} (l0 l1 l2 l3 : List (ℕ × S)) (x y w z : ℕ × S) → l0 ≡ x ∷ y ∷ w ∷ [] → l1 ≡ z ∷ rest l0 → l2 ≡ turned l1 → l3 ≡ turned l2 → l3 ≡ w ∷ z ∷ y ∷ []
behind_two {S} l0 l1 l2 l3 x y w z a b c d =
    d ∙ (ap (λ (k : List (ℕ × S)). turned k) c ∙ (ap (λ (k : List (ℕ × S)). turned (turned k)) b ∙ ap (λ (k : List (ℕ × S)). turned (turned (z ∷ rest k))) a))

pub back_two_first : {S : Type 0} (l3 l4 : List (ℕ × S)) (w o y w' : ℕ × S) → l3 ≡ w ∷ o ∷ y ∷ [] → l4 ≡ turned (w' ∷ rest l3) → l4 ≡ o ∷ y ∷ w' ∷ []
back_two_first {S} l3 l4 w o y w' a b = b ∙ ap (λ (k : List (ℕ × S)). turned (w' ∷ rest k)) a

pub back_two : {S : Type 0} (l3 l4 l5 : List (ℕ × S)) (w o y w' z : ℕ × S) → l3 ≡ w ∷ o ∷ y ∷ [] → l4 ≡ turned (w' ∷ rest l3) → l5 ≡ z ∷ rest l4 → l5 ≡ z ∷ y ∷ w' ∷ []
back_two {S} l3 l4 l5 w o y w' z a b c = c ∙ ap (λ (k : List (ℕ × S)). z ∷ rest k) (back_two_first l3 l4 w o y w' a b)
