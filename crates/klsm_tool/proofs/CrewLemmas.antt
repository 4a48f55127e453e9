-- One member of a board goes on, and the others stay as they are.
use Rattle.std.proofs.Common.{◌≡◌, ℕ, zero, suc, ◌<◌, List, [], ◌∷◌, ◌++◌, length, take, sym, ap, subst, ◌∙◌, arith, IfOk, IfErr, Result, Ok, Err}
use Rattle.std.proofs.Math.Seq.{take-append_seam}
use Rattle.klsm_run.specs.declared.limits.TheConstants.{PROGRAM_LEVELS, PROGRAM_K}
use mathlib.Core.Option.{some, some-injective, some-ne-none}
use lib.ListN.{get_elem?}
use Rattle.klsm_schedules.specs.declared.step.Entry.{Entry}
use Rattle.klsm_board.specs.declared.board.Board.{Board}
use Rattle.klsm_board.specs.declared.board.Member.{Member}
use Rattle.klsm_board.specs.Boards.{AreMembersOf, AreNewMembersOf, own_steps}
use Rattle.klsm_board.specs.Finishing.{AreAll, lists_of, steps_among}
use Rattle.klsm_board.specs.Rule.{IsReached}
use Rattle.klsm_board.proofs.lemmas.hands.PossibleLemmas.{each_reached}
use Rattle.klsm_board.specs.declared.all_members.AllMembers.{AllMembers}
use Rattle.klsm_board.specs.declared.sizes.Sizes.{Sizes}
use Rattle.klsm_board.specs.Together.{all_lists, sizes_of_all, steps_for}
use Rattle.klsm_board.proofs.lemmas.ending.EndLemmas.{found_first, list_at}
use Rattle.klsm_board.proofs.lemmas.ending.MemberLemmas.{stands_mapped, stands_within}
use Rattle.klsm_board.proofs.lemmas.ending.WholeLemmas.{known_at}
use Rattle.klsm_tool.specs.Crews.{HaveNoSteps, lists_in, steps_in}

-- what follows for what is answered
pub ok_then : {A E : Type 0} (r : Result A E) {P Q : A → Type 0} → ((a : A) → P a → Q a) → IfOk r P → IfOk r Q
ok_then (Ok a) f p = f a p
ok_then (Err e) f p = tt

pub err_then : {A E : Type 0} (r : Result A E) {P Q : E → Type 0} → ((e : E) → P e → Q e) → IfErr r P → IfErr r Q
err_then (Ok a) f p = tt
err_then (Err e) f p = f e p

-- a list at its number
list_is : (lists : List (List Entry)) (t : ℕ) (es : List Entry) → get_elem? lists t ≡ some es → steps_in lists t ≡ es
list_is [] t es there = absurd (some-ne-none es (sym there))
list_is (l ∷ lists) zero es there = some-injective l es there
list_is (l ∷ lists) (suc t) es there = list_is lists t es there

module _ {CAP LEVELS : ℕ} where
  module _ (board : Board CAP LEVELS) (members : List (Member CAP LEVELS)) (crew : AreMembersOf board members) where
    -- each list is that of a world to which a schedule leads
    pub crew_reached : (t : ℕ) → t < board.sizes.threads → ∥ IsReached board.sizes t (steps_in (lists_in members) t) ∥₁
    crew_reached t below =
        let one = stands_within members t (omega (arith, below, crew.many)) in let member : Member CAP LEVELS = one.0 in
        subst (λ es. ∥ IsReached board.sizes t es ∥₁) (sym (list_is (lists_in members) t (own_steps member) (stands_mapped own_steps members t member one.1)))
        (subst (λ n. ∥ IsReached board.sizes n (own_steps member) ∥₁) (crew.numbered t member one.1)
        (subst (λ m. ∥ IsReached m member.number (own_steps member) ∥₁) (crew.of t member one.1).1 (each_reached member.sizes member.number member.seat.me.0 member.rests.reached)))

-- the members of a new board have made no step in one hand
pub gathered_fresh : (all : AllMembers PROGRAM_K PROGRAM_LEVELS) (board : Board PROGRAM_K PROGRAM_LEVELS) (members : List (Member PROGRAM_K PROGRAM_LEVELS)) (m : Sizes) → sizes_of_all all ≡ m → AreAll members m.threads → all_lists all ≡ lists_of m.threads members → AreNewMembersOf board members → HaveNoSteps all
gathered_fresh all board members m sizes each same crew t below =
    let inside : t < m.threads = subst (λ (z : Sizes). t < z.threads) sizes below in
    let first = found_first members t (each t inside) in
    some-injective (steps_for all t) (steps_among members t) (sym (known_at (sizes_of_all all).threads all.acting.seat.me.0.lists t below) ∙ (ap (λ (z : List (List Entry)). get_elem? z t) same ∙ list_at m.threads members t inside))
    ∙ (first.4 ∙ crew.new first.0 first.1 first.2)

-- what a list is after its store was lent as a slice
pub written_back : {A : Type 0} (xs ys : List A) (n : ℕ) → length xs ≡ n → take n (xs ++ ys) ≡ xs
written_back xs ys n many = ap (λ i. take i (xs ++ ys)) (sym many) ∙ take-append_seam xs ys
