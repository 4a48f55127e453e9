-- What the lists of the workers of a search tell of how it was made.
use Rattle.std.specs.Prelude.{ℕ, ◌≡◌, ◌<◌, List, [], length, slice_index_or, min}
use Rattle.rand_pcg.specs.Lcg.{Lcg}
use Rattle.klsm_parts.specs.Generators.{generator_of}
use Rattle.klsm_schedules.specs.declared.step.Entry.{Entry}
use Rattle.klsm_board.specs.declared.sizes.Sizes.{Sizes}
use Rattle.klsm_board.specs.Finishing.{AreListsAtEnd}
use Rattle.klsm_board.specs.Members.{sizes_of}
use Rattle.klsm_knapsack.specs.declared.options.SearchOptions.{SearchOptions}
use Rattle.klsm_knapsack.specs.Answers.{IsIdle}
use Rattle.klsm_knapsack.specs.Courses.{CallsOfWorker, IsOnCourse}
use Rattle.klsm_knapsack.specs.Ends.{SharesOrKeeps}

-- what a search is made with where the caller does not say: its deletions move 16 nodes at most
abbrev pub usual_refill : ℕ → ℕ
usual_refill k = min k 16

abbrev pub usual_options : ℕ → ℕ → ℕ → SearchOptions
usual_options threads k idle = record { threads = threads; k = k; refill = usual_refill k; idle = idle }

-- the sizes of its board
abbrev pub search_sizes : SearchOptions → Sizes
search_sizes options = record (sizes_of options.threads options.k) { refill = options.refill }

-- The list of worker t, which ran over a board of these sizes and was not refused: that of some calls by the generator
-- whose seed is its number, until it was answered "nothing" as often in a row as `idle` says, or had no two insertions
-- left; and then of one by which it shared its items.
pub record IsRunOf (levels : ℕ) (m : Sizes) (idle t : ℕ) (es : List Entry) : Type 0 where
  -- the list when it stopped
  pub stopped : List Entry
  pub picker : Lcg
  pub course : IsOnCourse (CallsOfWorker levels m t) (generator_of t) picker stopped
  pub idles : IsIdle idle m.quota [] stopped
  pub shares : SharesOrKeeps levels t stopped es

-- The lists are those of one world to which a schedule leads, one for each worker, each of a run over a board of these
-- options, the refill among them, and idle as often as they say.
pub record HasSearched (levels : ℕ) (options : SearchOptions) (lists : List (List Entry)) : Type 0 where
  pub many : length lists ≡ options.threads
  pub at_end : AreListsAtEnd (search_sizes options) lists
  pub ran : (t : ℕ) → t < options.threads
      → IsRunOf levels (search_sizes options) options.idle t (slice_index_or lists t [])
