-- A replay over a board of its own.
use Rattle.std.proofs.Common.{◌≡◌, ◌≢◌, ℕ, zero, suc, List, [], ◌++◌, replicate, length, Option, inl, inr, refl, ap, sym, subst, ◌∙◌, arith, codes}
use Rattle.std.specs.List.{flat_map}
use mathlib.Core.Option.{some}
use lib.ListN.{get_elem?}
use Rattle.klsm_run.specs.declared.item.Item.{Item}
use Rattle.klsm_run.specs.declared.limits.TheConstants.{PROGRAM_LEVELS, PROGRAM_K}
use Rattle.klsm_run.specs.Content.{sorted}
use Rattle.klsm_parts.specs.Events.{minus}
use Rattle.klsm_schedules.specs.declared.step.Entry.{Entry}
use Rattle.klsm_schedules.specs.OwnSteps.{deleted, inserted}
use Rattle.klsm_schedules.specs.Worlds.{first_world}
use Rattle.klsm_schedules.proofs.lemmas.theorems.OwnEventLemmas.{lists_have_events}
use Rattle.klsm_board.specs.declared.all_members.AllMembers.{AllMembers}
use Rattle.klsm_board.specs.declared.board.Board.{Board}
use Rattle.klsm_board.specs.declared.board.Member.{Member}
use Rattle.klsm_board.specs.declared.sizes.Sizes.{Sizes}
use Rattle.klsm_board.specs.Boards.{AreMembersOf, own_steps}
use Rattle.klsm_board.specs.Finishing.{AreListsAtEnd, lists_of}
use Rattle.klsm_board.specs.Rule.{world_limits}
use Rattle.klsm_board.specs.Together.{all_lists, sizes_of_all, steps_for}
use Rattle.klsm_board.proofs.lemmas.ending.EndLemmas.{are_lists, place_within}
use Rattle.klsm_board.proofs.lemmas.ending.MemberLemmas.{all_there}
use Rattle.klsm_board.proofs.lemmas.ending.WholeLemmas.{known_at, so_many_known}
use Rattle.klsm_text.specs.declared.report.End.{End}
use Rattle.klsm_text.specs.declared.report.End.TheVariants as end
use Rattle.klsm_text.specs.declared.report.Report.{Report}
use Rattle.klsm_text.specs.Reports.{GoesOrFails}
use Rattle.klsm_words.specs.declared.settings.ScriptSettings.{ScriptSettings}
use Rattle.klsm_tool.specs.Courses.{GoInOneHand}
use Rattle.klsm_tool.specs.Crews.{board_sizes, steps_in}
use Rattle.klsm_tool.specs.Shown.{shown_in}
use Rattle.klsm_tool.specs.Replay.{ReplaysAlone, ReplaysToTheEnd}
use Rattle.klsm_tool.proofs.AllLemmas.{rule_of_all}
use Rattle.klsm_tool.proofs.ClosingLemmas.{replays_nothing}
use Rattle.klsm_tool.proofs.CourseLemmas.{none_go}

empty_at : (n t : ℕ) → steps_in (replicate n []) t ≡ []
empty_at zero t = refl
empty_at (suc n) zero = refl
empty_at (suc n) (suc t) = empty_at n t

empty_in : (f : List Entry → List Item) → f [] ≡ [] → (n : ℕ) → flat_map f (replicate n []) ≡ []
empty_in f none zero = refl
empty_in f none (suc n) = λ i. none i ++ empty_in f none n i

-- empty lists are those of the first world
first_lists : (m : Sizes) → AreListsAtEnd m (replicate m.threads [])
first_lists m = record {
  world = first_world (world_limits m);
  schedule = [];
  leads = refl;
  within = λ u below. let none : ◌≡◌ {A = ℕ} (length (inserted (steps_in (replicate m.threads []) u))) 0 = ap (λ es. length (inserted es)) (empty_at m.threads u) in omega (arith, none);
  lists_are = refl;
  in_order = λ t below. lists_have_events (world_limits m) [] (first_world (world_limits m)) t refl below;
  run = tt;
}

-- want of memory is not the end of all rows
pub not_done : (before after : Option (List ℕ)) (text : List ℕ) (written written' : ℕ) (result : End) → GoesOrFails before after text written written' end.NoMemory result → result ≢ end.Done
not_done before after text written written' result (inl whole) done = let bad = sym whole.0 ∙ done in cc
not_done before after text written written' result (inr cut) done = let bad = sym cut.0 ∙ done in cc

-- members that were in one hand have the lists that they had there
module _ (board : Board PROGRAM_K PROGRAM_LEVELS) (all : AllMembers PROGRAM_K PROGRAM_LEVELS) (members : List (Member PROGRAM_K PROGRAM_LEVELS)) (crew : AreMembersOf board members) (sizes : sizes_of_all all ≡ board.sizes)
    (steps : (i : ℕ) (member : Member PROGRAM_K PROGRAM_LEVELS) → get_elem? members i ≡ some member → own_steps member ≡ steps_for all i) where
  pub spread_lists_of : all_lists all ≡ lists_of board.sizes.threads members
  spread_lists_of = are_lists (all_lists all) board.sizes.threads members (so_many_known (sizes_of_all all).threads all.acting.seat.me.0.lists ∙ ap (λ (z : Sizes). z.threads) sizes)
      (all_there board members crew)
      (λ i member there.
      let inside = place_within members i member there in
      subst (λ n. get_elem? (all_lists all) n ≡ some (own_steps member)) (sym (crew.numbered i member there))
      (known_at (sizes_of_all all).threads all.acting.seat.me.0.lists i (omega (arith, inside, crew.many, ap (λ (z : Sizes). z.threads) sizes)) ∙ ap some (sym (steps i member there))))

module _ (settings : ScriptSettings) (input before after : Option (List ℕ)) (report : Report) where
  abbrev m : Sizes
  m = board_sizes settings

  -- the lists are those of the members
  pub alone : (all : AllMembers PROGRAM_K PROGRAM_LEVELS) → sizes_of_all all ≡ m → GoInOneHand settings (all_lists all) → ReplaysToTheEnd settings.threads settings.k (all_lists all) input before after report
      → (report.end ≡ end.Done → AreListsAtEnd m (all_lists all)) → ReplaysAlone settings input before after report
  alone all sizes course replays at_end = record {
    lists = all_lists all;
    run = subst (λ (z : Sizes). ∥ AreListsAtEnd z (all_lists all) ∥₁) sizes (rule_of_all all);
    course = course;
    replays = replays;
    at_end = at_end;
  }

  -- where there was no memory for a board, they are empty
  pub alone_without : GoesOrFails before after (codes "no memory\n") 0 report.written end.NoMemory report.end → ReplaysAlone settings input before after report
  alone_without goes = record {
    lists = replicate settings.threads [];
    run = ∣ first_lists m ∣₁;
    course = none_go settings (replicate settings.threads []) (λ t below. empty_at settings.threads t);
    replays = inl (replays_nothing settings.threads settings.k (replicate settings.threads []) input before after report (record {
      answers = λ t below. ap shown_in (sym (empty_at settings.threads t));
      left_is = λ i. minus (sorted (empty_in inserted refl settings.threads i)) (empty_in deleted refl settings.threads i);
      few = tt;
    }) goes);
    at_end = λ done. absurd (not_done before after (codes "no memory\n") 0 report.written report.end goes done);
  }
