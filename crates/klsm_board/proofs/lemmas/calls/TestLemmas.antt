-- What is known by cases of a number, where the number is known to be 0, or not to be.
use Rattle.std.proofs.Common.{◌≡◌, ◌≢◌, ℕ, ◌==◌, Bool, true, false, sym, subst, eq-eqb, ne_eqb}
use Rattle.std.specs.Prelude.{MatchBool, MatchOption, Option, Some, None}

pub where_zero : (P Q : Type 0) (n : ℕ) → n ≡ 0 → MatchBool (n == 0) P Q → P
where_zero P Q n e h = subst (λ b. MatchBool b P Q) (eq-eqb n 0 e) h

pub where_not_zero : (P Q : Type 0) (n : ℕ) → n ≢ 0 → MatchBool (n == 0) P Q → Q
where_not_zero P Q n e h = subst (λ b. MatchBool b P Q) (ne_eqb n 0 e) h

-- what is known of each case gives what is to be known of it
pub either_way : (b : Bool) (P Q R T : Type 0) → MatchBool b P Q → (P → R) → (Q → T) → MatchBool b R T
either_way true P Q R T outcome f h = f outcome
either_way false P Q R T outcome f h = h outcome

-- the same of an option
pub either_option : {A : Type 0} (o : Option A) (P R : Type 0) (Q T : A → Type 0) → MatchOption o P Q → (P → R) → ((a : A) → Q a → T a) → MatchOption o R T
either_option None P R Q T outcome f h = f outcome
either_option (Some a) P R Q T outcome f h = h a outcome

-- and of one that is None
pub none_told : {A : Type 0} (o : Option A) (P : Type 0) (Q : A → Type 0) → o ≡ None → P → MatchOption o P Q
none_told o P Q is p = subst (λ o. MatchOption o P Q) (sym is) p

-- an option that is not None
pub where_some : {A : Type 0} (o : Option A) (P : Type 0) (Q : A → Type 0) (R : Type 0) → MatchOption o P Q → (P → ⊥) → ((a : A) → Q a → R) → R
where_some None P Q R outcome none h = absurd (none outcome)
where_some (Some a) P Q R outcome none h = h a outcome
