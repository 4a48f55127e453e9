use Rattle.std.proofs.Common.{rules, ◌≡◌, ◌<◌, ◌∙◌, ℕ, List, length, slice_index_or, sym, ap, subst, arith}
use lib.ListN.{get_elem?}
use mathlib.Core.Option.{some}
use Rattle.klsm_parts.proofs.FitLemmas.{local_fits, shared_fits}
use Rattle.klsm_board.specs.declared.board.Member.{Member}
use Rattle.klsm_board.specs.declared.rule.View.{View}
use Rattle.klsm_board.specs.declared.sizes.Sizes.{Sizes}
use Rattle.klsm_board.specs.Boards.{IsOf}
use Rattle.klsm_board.specs.Finishing.{IsLeastAbsent, steps_among}
use Rattle.klsm_board.specs.Knowing.{AreCounted, IsWhole}
use Rattle.klsm_board.specs.Rule.{view}
use Rattle.klsm_board.specs.Steps.{AreReached}
use Rattle.klsm_board.specs.Turning.{HasList, lists_known, steps_known, turned}
use Rattle.klsm_board.proofs.lemmas.ending.EndLemmas.{each_of, least_is_one, place_within}
use Rattle.klsm_board.proofs.lemmas.ending.WholeLemmas.{all_at_end, as_many, has_each, known_among, lists_among, members_rest, rests_at_turn, whole_at_turn}
use Rattle.klsm_board.proofs.lemmas.table.KnownLemmas.{has_turned, same_turned}
use Rattle.klsm_board.proofs.board.Board.gather.Goals as goal

pub returns-in-Err-clause-missing : goal.returns-in-Err-clause-missing
returns-in-Err-clause-missing g c = λ number.
    let members = c.args.members.items in let threads = c.args.self.now.sizes.threads in
    let least = subst (λ (z : List (Member g.row.CAP g.row.LEVELS)). IsLeastAbsent z threads c.in-Err.missing) c.as_slice.ensures.value c.in-Err.ensures.missing in
    (λ same. subst (IsLeastAbsent members threads) same least, λ other. least_is_one members threads c.in-Err.missing number least other)

pub returns-clause-missing : goal.returns-clause-missing
returns-clause-missing g c = λ number.
    let counted = subst (λ (z : List (Member g.row.CAP g.row.LEVELS)). AreCounted z c.args.self.now.sizes.threads c.in-Ok.tally.inserted c.in-Ok.tally.deleted) c.as_slice.ensures.value c.in-Ok.ensures.ok in
    (λ never. absurd never, λ least. least.1 (counted.all number least.0))

pub join_all-seat-requires : goal.join_all-seat-requires
join_all-seat-requires g c =
    let members = c.args.members.items in let board = c.args.self.now in
    let counted = subst (λ (z : List (Member g.row.CAP g.row.LEVELS)). AreCounted z board.sizes.threads c.in-Ok.tally.inserted c.in-Ok.tally.deleted) c.as_slice.ensures.value c.in-Ok.ensures.ok in
    let first = counted.all 0 (omega (arith, board.in_range.some_thread)) in let some_member : 0 < length members = omega (arith, place_within members first.0 first.1 first.2) in
    (local_fits _ board.capacity, (shared_fits _ board.levels, (search rules, ((λ i member there. (each_of (λ z. IsOf z board) members c.requires.of i member there).0), (omega (arith, board.sized.0), some_member)))))

pub turn_to-requires-room-S-Holding : goal.turn_to-requires-room-S-Holding
turn_to-requires-room-S-Holding g c κs = local_fits _ c.args.self.now.capacity

pub turn_to-requires-room-S-Holding-2 : goal.turn_to-requires-room-S-Holding-2
turn_to-requires-room-S-Holding-2 g c κs = shared_fits _ c.args.self.now.levels

pub turn_to-requires-clause-has : goal.turn_to-requires-clause-has
turn_to-requires-clause-has g c =
    let board = c.args.self.now in
    let counted = subst (λ (z : List (Member g.row.CAP g.row.LEVELS)). AreCounted z board.sizes.threads c.in-Ok.tally.inserted c.in-Ok.tally.deleted) c.as_slice.ensures.value c.in-Ok.ensures.ok in
    has_each c.args.members.items board.sizes.threads c.join_all-seat.result.me.0 counted.all c.join_all-seat.ensures.knows 0 (omega (arith, board.in_range.some_thread))

-- what is known once the turn is that of the first member
known : (CAP LEVELS : ℕ) (key m : Sizes) (members : List (Member CAP LEVELS)) (v w : View) (ins dels : List ℕ) → key ≡ m → 0 < m.threads → AreCounted members m.threads ins dels
    → ((i : ℕ) (member : Member CAP LEVELS) → get_elem? members i ≡ some member → Rattle.klsm_board.specs.Finishing.Knows v member) → w ≡ view (turned 0 v.lists) → AreReached key 0 w
    → (HasList v.lists 0) × (AreReached m 0 w) × ((t : ℕ) → t < m.threads → steps_known v.lists t ≡ steps_among members t)
known CAP LEVELS key m members v w ins dels same some_thread counted knows is reached =
    let has : HasList v.lists 0 = has_each members m.threads v counted.all knows 0 some_thread in
    let r : AreReached m 0 w = subst (λ (z : Sizes). AreReached z 0 w) same reached in
    (has, r, known_among m members v 0 counted.all knows has (subst (λ (z : View). AreReached m 0 z) is r))

pub invariant_of-acting : goal.invariant_of-acting
invariant_of-acting g c =
    let board = c.args.self.now in let m = board.sizes in let members = c.args.members.items in let seat = c.join_all-seat.result in let ins = c.in-Ok.tally.inserted in let dels = c.in-Ok.tally.deleted in let outcome = c.turn_to.ensures in
    let some_thread : 0 < m.threads = omega (arith, board.in_range.some_thread) in
    let counted = subst (λ (z : List (Member g.row.CAP g.row.LEVELS)). AreCounted z m.threads ins dels) c.as_slice.ensures.value c.in-Ok.ensures.ok in
    let is = ap (λ z. z.0) outcome.turned in
    let k = known g.row.CAP g.row.LEVELS board.table.shared.key m members seat.me.0 c.turn_to.new.seat.me.0 ins dels board.key some_thread counted c.join_all-seat.ensures.knows is outcome.reached in
    let rest = members_rest m members seat.me.0.lists ins dels counted (λ i member there. (each_of (λ z. IsOf z board) members c.requires.of i member there).1) k.2 0 some_thread in
    record {
      rests = rests_at_turn m 0 (slice_index_or ins 0 0) (slice_index_or dels 0 0) seat.me c.turn_to.new.seat.me k.0 is (ap (λ z. z.1) outcome.turned ∙ c.join_all-seat.ensures.none) k.1 rest;
      in_range = board.in_range;
      capacity = board.capacity;
      levels = board.levels;
    }

pub invariant_of-result : goal.invariant_of-result
invariant_of-result g c =
    let board = c.args.self.now in let m = board.sizes in let members = c.args.members.items in let seat = c.join_all-seat.result in let ins = c.in-Ok.tally.inserted in let dels = c.in-Ok.tally.deleted in let outcome = c.turn_to.ensures in
    let some_thread : 0 < m.threads = omega (arith, board.in_range.some_thread) in
    let counted = subst (λ (z : List (Member g.row.CAP g.row.LEVELS)). AreCounted z m.threads ins dels) c.as_slice.ensures.value c.in-Ok.ensures.ok in
    let is = ap (λ z. z.0) outcome.turned in
    let k = known g.row.CAP g.row.LEVELS board.table.shared.key m members seat.me.0 c.turn_to.new.seat.me.0 ins dels board.key some_thread counted c.join_all-seat.ensures.knows is outcome.reached in
    let rests = members_rest m members seat.me.0.lists ins dels counted (λ i member there. (each_of (λ z. IsOf z board) members c.requires.of i member there).1) k.2 in
    record {
      whole = subst (λ (z : View). IsWhole m 0 z.lists ins dels) (sym is)
          (whole_at_turn m 0 seat.me.0.lists ins dels k.0 (λ t below. has_each members m.threads seat.me.0 counted.all c.join_all-seat.ensures.knows t below) rests);
      empty = c.join_all-seat.ensures.empty;
      roomy = let many = as_many members m.threads counted.all in let room = c.join_all-seat.ensures.room in let ok = c.args.members.ok in omega (arith, many, room, ok.0, ok.1);
    }

pub returns-clause-same : goal.returns-clause-same
returns-clause-same g c =
    let board = c.args.self.now in let m = board.sizes in let members = c.args.members.items in let seat = c.join_all-seat.result in let ins = c.in-Ok.tally.inserted in let dels = c.in-Ok.tally.deleted in let outcome = c.turn_to.ensures in
    let some_thread : 0 < m.threads = omega (arith, board.in_range.some_thread) in
    let counted = subst (λ (z : List (Member g.row.CAP g.row.LEVELS)). AreCounted z m.threads ins dels) c.as_slice.ensures.value c.in-Ok.ensures.ok in
    let is = ap (λ z. z.0) outcome.turned in
    let k = known g.row.CAP g.row.LEVELS board.table.shared.key m members seat.me.0 c.turn_to.new.seat.me.0 ins dels board.key some_thread counted c.join_all-seat.ensures.knows is outcome.reached in
    (counted.all, ap (λ (z : View). lists_known m.threads z.lists) is ∙ lists_among m.threads members (turned 0 seat.me.0.lists) (λ t below. same_turned 0 seat.me.0.lists k.0 t ∙ k.2 t below))

pub returns-clause-lists : goal.returns-clause-lists
returns-clause-lists g c =
    let board = c.args.self.now in let m = board.sizes in let seat = c.join_all-seat.result in let outcome = c.turn_to.ensures in
    let counted = subst (λ (z : List (Member g.row.CAP g.row.LEVELS)). AreCounted z m.threads c.in-Ok.tally.inserted c.in-Ok.tally.deleted) c.as_slice.ensures.value c.in-Ok.ensures.ok in
    let is = ap (λ z. z.0) outcome.turned in
    let each : (u : ℕ) → u < m.threads → HasList c.turn_to.new.seat.me.0.lists u = (λ u below. subst (λ (z : View). HasList z.lists u) (sym is) (has_turned 0 u seat.me.0.lists (has_each c.args.members.items m.threads seat.me.0 counted.all c.join_all-seat.ensures.knows u below))) in
    all_at_end m 0 c.turn_to.new.seat.me.0 (subst (λ (z : Sizes). AreReached z 0 c.turn_to.new.seat.me.0) board.key outcome.reached) each
