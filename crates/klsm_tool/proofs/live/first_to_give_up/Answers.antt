use Rattle.std.proofs.Common.{◌≡◌, ◌<◌, ◌∙◌, false, true, ℕ, zero, suc, List, [], ◌∷◌, length, get_or, Option, Some, None, refl, ap, sym, subst, arith}
use Rattle.std.specs.Prelude.{IfSome}
use Rattle.std.specs.Option.{is_some}
use mathlib.Core.Logic.{dite}
use native.Mathlib.Decide.{ℕ_discrete}
use Rattle.klsm_tool.specs.declared.member_calls.Want.{Want}
use Rattle.klsm_tool.specs.declared.worker.Worker.{Worker}
use Rattle.klsm_tool.specs.Working.{gave_up_at}
use Rattle.klsm_tool.proofs.live.first_to_give_up.Goals as goal

-- what stands within a list is there, whatever stands beyond it
any_default : (crew : List (Option Worker)) (t : ℕ) (d e : Option Worker) → t < length crew → get_or crew t d ≡ get_or crew t e
any_default [] t d e below = absurd (omega (arith, below))
any_default (place ∷ crew) zero d e below = refl
any_default (place ∷ crew) (suc t) d e below = any_default crew t d e (omega (arith, below))

there_at : (crew : List (Option Worker)) (t : ℕ) (place : Option Worker) (gave_up : Option Want) → t < length crew → place ≡ get_or crew t place → gave_up ≡ gave_up_at place → (d : Option Worker) → gave_up_at (get_or crew t d) ≡ gave_up
there_at crew t place gave_up below is gave d = ap gave_up_at (any_default crew t d place below ∙ sym is) ∙ sym gave

none_of : (o : Option Want) → false ≡ is_some o → o ≡ None
none_of None none = refl
none_of (Some gave_up) none = absurd (let bad : false ≡ true = none in cc)

first_some : (crew : List (Option Worker)) (t : ℕ) (o : Option Want) → t < length crew → ((d : Option Worker) → gave_up_at (get_or crew t d) ≡ o) → ((u : ℕ) (d : Option Worker) → u < t → gave_up_at (get_or crew u d) ≡ None)
    → IfSome o (λ gave_up. (t : ℕ) × (t < length crew) × ((d : Option Worker) → gave_up_at (get_or crew t d) ≡ Some gave_up) × ((u : ℕ) (d : Option Worker) → u < t → gave_up_at (get_or crew u d) ≡ None))
first_some crew t None below here lesser = tt
first_some crew t (Some gave_up) below here lesser = (t, below, here, lesser)

pub loop-place-preserved : goal.loop-place-preserved
loop-place-preserved c = λ t d below. dite (ℕ_discrete t c.loop-place.place-index)
    (λ here. subst (λ i. gave_up_at (get_or c.args.crew.now i d) ≡ None) (sym here)
    (there_at c.args.crew.now c.loop-place.place-index c.place-item.result c.gave_up_of-gave_up.result c.loop-place-test.true c.place-item.is c.gave_up_of-gave_up.ensures d ∙ none_of c.gave_up_of-gave_up.result c.if-is_some.ensures))
    (λ other. c.loop-place.invariant t d (omega (arith, below, other)))

pub returns-then-is_some-clause-some : goal.returns-then-is_some-clause-some
returns-then-is_some-clause-some c =
    first_some c.args.crew.now c.loop-place.place-index c.gave_up_of-gave_up.result c.loop-place-test.true
    (there_at c.args.crew.now c.loop-place.place-index c.place-item.result c.gave_up_of-gave_up.result c.loop-place-test.true c.place-item.is c.gave_up_of-gave_up.ensures) c.loop-place.invariant
