use Rattle.std.proofs.Common.{◌≡◌, ◌<◌, ◌∙◌, ◌++◌, ℕ, List, map, length, take, drop, slice_index_or, Option, sym, ap, subst, arith}
use Rattle.std.proofs.lemmas.List.{length-map}
use Rattle.klsm_run.specs.declared.limits.TheConstants.{PROGRAM_LEVELS, PROGRAM_K}
use Rattle.klsm_board.specs.declared.board.Member.{Member}
use Rattle.klsm_tool.specs.declared.worker.Worker.{Worker}
use Rattle.klsm_text.specs.Keeping.{kept_for}
use Rattle.klsm_tool.specs.Working.{HasRunAt, IsReadyAt, ready}
use Rattle.klsm_tool.proofs.CrewLemmas.{written_back}
use Rattle.klsm_tool.proofs.PlaceLemmas.{crew_ready}
use Rattle.klsm_tool.proofs.live.run_members.Goals as goal

-- there is a place for each member
as_many : (crew : List (Option Worker)) (members : List (Member PROGRAM_K PROGRAM_LEVELS)) → crew ≡ map ready members → length crew ≡ length members
as_many crew members is = ap (λ (z : List (Option Worker)). length z) is ∙ length-map members ready

pub run_all-requires-clause-some : goal.run_all-requires-clause-some
run_all-requires-clause-some g c =
    let many = as_many _ c.args.members.items (c.as_mut_slice.ensures.value ∙ c.in_ok-crew.ensures) in
    λ _ _. omega (arith, many, c.requires.some)

pub run_all-requires-clause-many : goal.run_all-requires-clause-many
run_all-requires-clause-many g c = λ _ _. c.requires.many ∙ sym (as_many _ c.args.members.items (c.as_mut_slice.ensures.value ∙ c.in_ok-crew.ensures))

pub run_all-requires-clause-ready : goal.run_all-requires-clause-ready
run_all-requires-clause-ready g c =
    let same : c.as_mut_slice.result.now ≡ map ready c.args.members.items = c.as_mut_slice.ensures.value ∙ c.in_ok-crew.ensures in
    λ _ _ t d. subst (λ (z : List (Option Worker)). t < length z → IsReadyAt c.args.live.now.board.now t (slice_index_or z t d)) (sym same)
    (crew_ready c.args.live.now.board.now c.args.members.items c.requires.of c.requires.new t d)

-- what was lent as a slice comes back, and it is as long
comes_back : (crew lent items : List (Option Worker)) (n : ℕ) (members : List (Member PROGRAM_K PROGRAM_LEVELS)) → length crew ≡ length lent → lent ≡ items → items ≡ map ready members → n ≡ length items
    → (take n (crew ++ drop (length crew) items) ≡ crew) × (length crew ≡ length members)
comes_back crew lent items n members same value is len =
    let many : length crew ≡ length items = same ∙ ap (λ (z : List (Option Worker)). length z) value in
    (written_back crew (drop (length crew) items) n (many ∙ sym len), many ∙ as_many items members is)

pub returns-clause-many : goal.returns-clause-many
returns-clause-many g c =
    let back = comes_back c.run_all.new.crew c.as_mut_slice.result.now c.in_ok-crew.crew.items c.in_ok-crew.crew.len c.args.members.items c.run_all.auto.crew c.as_mut_slice.ensures.value c.in_ok-crew.ensures c.in_ok-crew.crew.ok.0 in
    ap (λ (z : List (Option Worker)). length z) back.0 ∙ back.1

pub returns-clause-ran : goal.returns-clause-ran
returns-clause-ran g c = λ t d.
    let back = comes_back c.run_all.new.crew c.as_mut_slice.result.now c.in_ok-crew.crew.items c.in_ok-crew.crew.len c.args.members.items c.run_all.auto.crew c.as_mut_slice.ensures.value c.in_ok-crew.ensures c.in_ok-crew.crew.ok.0 in
    subst (λ (z : List (Option Worker)). t < length z → HasRunAt c.args.live.now.settings.now c.args.live.now.board.now t (kept_for (map (λ list. list.items) c.args.live.now.rows.now) t) (slice_index_or z t d)) (sym back.0)
    (λ below. c.run_all.ensures t d (omega (arith, below, c.run_all.auto.crew)))
