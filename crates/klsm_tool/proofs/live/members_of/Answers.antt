use Rattle.std.proofs.Common.{rules, ◌≡◌, ◌∙◌, ◌∷◌, ◌++◌, [], List, map-id, append-nil, Option, Some, None, ap, sym, refl}
use Rattle.std.proofs.lemmas.Iterator.Consumers.{YieldsList-end}
use Rattle.std.proofs.lemmas.Iterator.Adapters.{YieldsList-from_vec}
use Rattle.klsm_run.specs.declared.limits.TheConstants.{PROGRAM_LEVELS, PROGRAM_K}
use Rattle.klsm_board.specs.declared.board.Member.{Member}
use Rattle.klsm_tool.specs.declared.worker.Worker.{Worker}
use Rattle.klsm_tool.specs.Working.{members_in}
use Rattle.klsm_tool.proofs.live.members_of.Goals as goal

members_join : (crew more : List (Option Worker)) → members_in (crew ++ more) ≡ members_in crew ++ members_in more
members_join [] more = refl
members_join (None ∷ crew) more = members_join crew more
members_join (Some worker ∷ crew) more = ap (λ (z : List (Member PROGRAM_K PROGRAM_LEVELS)). worker.member ∷ z) (members_join crew more)

-- a worker more
members_more : (crew : List (Option Worker)) (place : Option Worker) (worker : Worker) → place ≡ Some worker → members_in (crew ++ place ∷ []) ≡ members_in crew ++ worker.member ∷ []
members_more crew place worker is = ap (λ (z : Option Worker). members_in (crew ++ z ∷ [])) is ∙ members_join crew (Some worker ∷ [])

-- or none
members_same : (crew : List (Option Worker)) (place : Option Worker) → ((w : Worker) → place ≡ Some w → ⊥) → members_in (crew ++ place ∷ []) ≡ members_in crew
members_same crew None none = members_join crew (None ∷ []) ∙ append-nil (members_in crew)
members_same crew (Some worker) none = absurd (none worker refl)

pub loop-place-preserved-in-Continue-branch-2 : goal.loop-place-preserved-in-Continue-branch-2
loop-place-preserved-in-Continue-branch-2 c =
    let pushed : c.push.new.self.items ≡ c.loop-place.members.items ++ c.in-Some-place.worker.member ∷ [] = c.in_ok-push.ensures.items in
    pushed ∙ (ap (λ (z : List (Member PROGRAM_K PROGRAM_LEVELS)). z ++ c.in-Some-place.worker.member ∷ []) c.loop-place.invariant ∙ sym (members_more c.loop-place.yielded c.in-Some.place c.in-Some-place.worker c.in-Some-place.is))

pub loop-place-preserved : goal.loop-place-preserved
loop-place-preserved c = c.loop-place.invariant ∙ sym (members_same c.loop-place.yielded c.in-Some.place c.in_default.not-Some)

pub returns : goal.returns
returns c =
    let end = YieldsList-end (YieldsList-from_vec {s = c.into_iter-place-iterator.result} c.args.crew.items (search rules) (search rules)) c.loop-place.yielded c.loop-place.place-iterator c.loop-place.yielded_by c.next.result c.next.new.self c.in-None.is c.next.ensures.steps in
    c.loop-place.invariant ∙ ap members_in (sym (map-id c.loop-place.yielded) ∙ end.0)
