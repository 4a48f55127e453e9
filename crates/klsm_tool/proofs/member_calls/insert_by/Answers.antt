use Rattle.std.proofs.Common.{◌≡◌, [], ◌∷◌, length, sym, ap, subst, ◌∙◌, append-nil, arith, refl}
use Rattle.klsm_run.specs.declared.limits.TheConstants.{PROGRAM_LEVELS}
use Rattle.klsm_schedules.specs.OwnSteps.{inserted}
use Rattle.klsm_board.specs.Inserting.{GivesUp, Inserts, IsBelowLimit, RefusesInsert, as_tried}
use Rattle.klsm_board.specs.declared.errors.InsertError.{InsertError}
use Rattle.klsm_board.specs.declared.errors.TryInsertError.TheVariants as try_insert
use Rattle.klsm_board.specs.declared.sizes.Sizes.{Sizes}
use Rattle.klsm_board.specs.Together.{steps_for}
use Rattle.klsm_text.specs.declared.answer.Answer.TheVariants.{Inserted}
use Rattle.klsm_tool.proofs.AllLemmas.{all_go, few_of_one, has_room}
use Rattle.klsm_tool.proofs.ShownLemmas.{one_shows, refused_shows}
use Rattle.klsm_tool.proofs.member_calls.insert_by.Goals as goal

pub unreachable-requires : goal.unreachable-requires
unreachable-requires c =
    let all = c.args.all.now in let spent = c.in-Err-Spent.ensures.spent.0 c.in-Err-Spent.field-0-is in
    let quota = ap (λ (z : Sizes). z.quota) c.requires.of.1 in let threads = ap (λ (z : Sizes). z.threads) c.requires.of.1 in
    let few = few_of_one all c.args.thread (omega (arith, c.requires.thread, threads)) in
    omega (arith, spent, few, quota, c.requires.quota, c.requires.few)

pub unreachable-requires-in-Err-Full : goal.unreachable-requires-in-Err-Full
unreachable-requires-in-Err-Full c =
    let all = c.args.all.now in
    has_room _ _ (let few = c.requires.few in omega (arith, few)) all.acting.in_range.k (c.in-Err-Full.ensures.full c.in-Err-Full.field-0-is)

pub returns-in-Ok-clause-goes : goal.returns-in-Ok-clause-goes
returns-in-Ok-clause-goes c =
    let all = c.args.all.now in let after = c.insert.new.self in let t = c.args.thread in let told = c.in-Ok.ensures in let ok = told.ok in
    let threads = ap (λ (z : Sizes). z.threads) c.requires.of.1 in
    all_go all after t told.same (omega (arith, c.requires.thread, threads)) (Inserted (record { key = c.args.key; stamp = c.in-Ok.stamp; load = c.args.load }) ∷ [])
    (one_shows PROGRAM_LEVELS all.acting.sizes.k t (steps_for all t) (steps_for after t) _ ok) told.left (omega (arith, told.counts))

pub returns-in-Err-NoMemory-clause-refused : goal.returns-in-Err-NoMemory-clause-refused
returns-in-Err-NoMemory-clause-refused c =
    let all = c.args.all.now in let after = c.insert.new.self in let t = c.args.thread in let told = c.in-Err-NoMemory.ensures in
    let threads = ap (λ (z : Sizes). z.threads) c.requires.of.1 in
    let spent : Type 0 = length (inserted (steps_for all t)) ≡ all.acting.sizes.quota in
    let refused = subst (λ (why : InsertError). RefusesInsert spent PROGRAM_LEVELS all.acting.sizes.k t (steps_for all t) (steps_for after t) (as_tried why)) c.in-Err-NoMemory.field-0-is told.refused.1 in (
      refl,
      all_go all after t told.same (omega (arith, c.requires.thread, threads)) []
          (refused_shows PROGRAM_LEVELS all.acting.sizes.k t (steps_for all t) (steps_for after t) try_insert.NoMemory refused ∙ sym (append-nil _)) told.left_alone (omega (arith, told.counts_alone)),
    )

pub returns-in-Ok-clause-inserts : goal.returns-in-Ok-clause-inserts
returns-in-Ok-clause-inserts c =
    let t = c.args.thread in let es = steps_for c.args.all.now t in let es' = steps_for c.insert.new.self t in
    subst (λ (z : Sizes). Inserts PROGRAM_LEVELS z.k t es es' (record { key = c.args.key; stamp = c.in-Ok.stamp; load = c.args.load })) c.requires.of.1 c.in-Ok.ensures.ok

pub returns-in-Err-NoMemory-clause-lacks : goal.returns-in-Err-NoMemory-clause-lacks
returns-in-Err-NoMemory-clause-lacks c =
    let all = c.args.all.now in let t = c.args.thread in let es = steps_for all t in let es' = steps_for c.insert.new.self t in
    let spent : Type 0 = length (inserted es) ≡ all.acting.sizes.quota in
    let refused = subst (λ (why : InsertError). RefusesInsert spent PROGRAM_LEVELS all.acting.sizes.k t es es' (as_tried why)) c.in-Err-NoMemory.field-0-is c.in-Err-NoMemory.ensures.refused.1 in
    subst (λ (z : Sizes). GivesUp z.k t es es' (IsBelowLimit PROGRAM_LEVELS)) c.requires.of.1 refused
