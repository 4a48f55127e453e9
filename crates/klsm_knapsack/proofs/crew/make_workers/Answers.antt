use Rattle.std.proofs.Common.{◌≡◌, ◌++◌, [], ◌∷◌, None, arith, sym, ap, ◌∙◌, refl, List}
use Rattle.std.specs.Prelude.{false, is_ok, not, true}
use Rattle.std.proofs.lemmas.List.Elements.{All-append}
use Rattle.klsm_run.specs.declared.limits.TheConstants.{PROGRAM_K}
use Rattle.klsm_parts.specs.Generators.{generator_of}
use Rattle.klsm_board.specs.declared.board.Member.{Member}
use Rattle.klsm_knapsack.specs.declared.search_state.Worker.{Worker}
use Rattle.klsm_knapsack.specs.declared.rule.View.{View}
use Rattle.klsm_knapsack.specs.IncumbentSeats.{IsSeatAt, found_by}
use Rattle.klsm_knapsack.proofs.CrewLemmas.{member_appended, each_alone}
use Rattle.klsm_knapsack.proofs.crew.make_workers.Goals as goal

pub overflow_cast-number : goal.overflow_cast-number
overflow_cast-number g c = omega (arith, c.number.type_inv)

pub split-seat-requires : goal.split-seat-requires
split-seat-requires g c = c.loop-member.invariant.first

pub loop-member-preserved : goal.loop-member-preserved
loop-member-preserved g c =
    let inv = c.loop-member.invariant in
    let w : Worker g.row.LEVELS = record { member = c.in-Some.member; seat = c.split-seat.result; picker = c.random_of-picker.result; pace = c.new.result; is_alone = false; refused = None } in
    let is_seated = λ (v : Worker g.row.LEVELS). IsSeatAt c.args.incumbent.now v.seat × (found_by v.seat ≡ 0) × (v.refused ≡ None) in
    let is_of_number = λ (v : Worker g.row.LEVELS). v.picker ≡ generator_of v.member.number in
    let pushed : is_ok c.push.result ≡ true = c.is_err.ensures.negation ∙ ap not c.if-is_err.false in
    let items : c.push.new.self.items ≡ c.loop-member.crew.items ++ w ∷ [] = rw pushed at c.push.ensures.items in
    record {
      first = c.split-seat.ensures.same ∙ inv.first;
      members = rw items (sym (member_appended c.loop-member.crew.items w) ∙ ap (λ (ms : List (Member PROGRAM_K g.row.LEVELS)). ms ++ w.member ∷ []) inv.members);
      seats = rw items (All-append is_seated c.loop-member.crew.items (w ∷ []) inv.seats (each_alone is_seated w (c.split-seat.ensures.new.0, ap (λ (v : View). v.found) c.split-seat.ensures.new.1, refl)));
      pickers = rw items (All-append is_of_number c.loop-member.crew.items (w ∷ []) inv.pickers (each_alone is_of_number w (c.random_of-picker.ensures ∙ ap generator_of c.number.ensures.number)));
    }

pub returns-then-is_err-clause-first : goal.returns-then-is_err-clause-first
returns-then-is_err-clause-first g c = c.split-seat.ensures.same ∙ c.loop-member.invariant.first

pub returns-clause-first : goal.returns-clause-first
returns-clause-first g c = c.loop-member.invariant.first

pub returns-clause-seats : goal.returns-clause-seats
returns-clause-seats g c = c.loop-member.invariant.seats

pub returns-clause-pickers : goal.returns-clause-pickers
returns-clause-pickers g c = c.loop-member.invariant.pickers
