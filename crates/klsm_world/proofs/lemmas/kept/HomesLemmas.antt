-- What is at home, by the words and the contents that a running world keeps.
use Rattle.std.proofs.Common.{◌≡◌, ◌≢◌, ℕ, zero, suc, eqb, cond, List, [], ◌∷◌, length, get_or, set, Some, None, refl, sym, ap, ◌∙◌, arith}
use Rattle.std.proofs.lemmas.Bool.{ne_eqb}
use Rattle.klsm_run.specs.declared.item.Item.{Item}
use Rattle.klsm_world.specs.Kept.{homes_of}

-- a home for each part
pub length_homes : (words : List ℕ) (contents : List (List Item)) → length words ≡ length contents → length (homes_of words contents) ≡ length words
length_homes [] contents same = refl
length_homes (word ∷ words) [] same = absurd (omega (arith, same))
length_homes (word ∷ words) (c ∷ contents) same = ap suc (length_homes words contents (omega (arith, same)))

-- a part that a thread takes is not at home
pub homes_taken : (words : List ℕ) (contents : List (List Item)) (p word : ℕ) → word ≢ 0 → homes_of (set words p word) contents ≡ set (homes_of words contents) p None
homes_taken [] contents zero word taken = refl
homes_taken [] contents (suc p) word taken = refl
homes_taken (v ∷ words) [] zero word taken = refl
homes_taken (v ∷ words) [] (suc p) word taken = refl
homes_taken (v ∷ words) (c ∷ contents) zero word taken = ap (λ b. cond b (Some c) None ∷ homes_of words contents) (ne_eqb word 0 taken)
homes_taken (v ∷ words) (c ∷ contents) (suc p) word taken = ap (λ homes. cond (eqb v 0) (Some c) None ∷ homes) (homes_taken words contents p word taken)

-- a part that a thread releases is at home with its content
pub homes_freed : (words : List ℕ) (contents : List (List Item)) (p : ℕ) → homes_of (set words p 0) contents ≡ set (homes_of words contents) p (Some (get_or contents p []))
homes_freed [] contents zero = refl
homes_freed [] contents (suc p) = refl
homes_freed (v ∷ words) [] zero = refl
homes_freed (v ∷ words) [] (suc p) = refl
homes_freed (v ∷ words) (c ∷ contents) zero = refl
homes_freed (v ∷ words) (c ∷ contents) (suc p) = ap (λ homes. cond (eqb v 0) (Some c) None ∷ homes) (homes_freed words contents p)

-- what is at home stays where the content of a part that is not at home changes
pub homes_changed : (words : List ℕ) (contents : List (List Item)) (p : ℕ) (d : List Item) → get_or words p 0 ≢ 0 → homes_of words (set contents p d) ≡ homes_of words contents
homes_changed [] contents p d away = refl
homes_changed (v ∷ words) [] zero d away = refl
homes_changed (v ∷ words) [] (suc p) d away = refl
homes_changed (v ∷ words) (c ∷ contents) zero d away =
    ap (λ b. cond b (Some d) None ∷ homes_of words contents) (ne_eqb v 0 away) ∙ ap (λ b. cond b (Some c) None ∷ homes_of words contents) (sym (ne_eqb v 0 away))
homes_changed (v ∷ words) (c ∷ contents) (suc p) d away = ap (λ homes. cond (eqb v 0) (Some c) None ∷ homes) (homes_changed words contents p d away)
