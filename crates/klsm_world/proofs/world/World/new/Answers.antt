use Rattle.std.proofs.Common.{refl, ◌≡◌, ◌+◌, replicate, ap}
use Rattle.klsm_world.specs.WorldView.{AreLimits}
use Rattle.klsm_schedules.specs.Worlds.{Limits, World, limits_of}
use Rattle.klsm_world.proofs.lemmas.kept.NewLemmas.{first_is_new, first_is_kept}
use Rattle.klsm_world.proofs.lemmas.traces.StartLemmas.{some_thread, are_threads, is_k, only_memory, k_is_not_threads, memory_is_not_threads, memory_is_not_k}
use Rattle.klsm_world.proofs.world.World.new.Goals as goal

pub invariant_of-result : goal.invariant_of-result
invariant_of-result g c =
    let limits : Limits = limits_of c.args.threads c.args.k in
    let are : AreLimits limits = record { some_threads = some_thread limits c.if-threads-eq0.false; at_most = c.if-threads-gt-WORLD_THREADS.false; k_in_range = c.if-k-gt-WORLD_K.false } in
    let words : c.in-Ok.words.items ≡ replicate (c.args.threads + 1) 0 = c.in-Ok.ensures.items_if_clones_equal (λ y same. same) in
    first_is_kept limits c.in-Ok.words.items c.in_ok-contents.contents.items c.in_ok-lists.lists.items are words c.in_ok-contents.ensures.empty c.in_ok-lists.ensures.empty

pub returns-clause-made : goal.returns-clause-made
returns-clause-made g c =
    let limits : Limits = limits_of c.args.threads c.args.k in
    let words : c.in-Ok.words.items ≡ replicate (c.args.threads + 1) 0 = c.in-Ok.ensures.items_if_clones_equal (λ y same. same) in
    let first = first_is_new limits c.in-Ok.words.items c.in_ok-contents.contents.items c.in_ok-lists.lists.items words c.in_ok-contents.ensures.empty c.in_ok-lists.ensures.empty in
    ap (λ (w : World). record { limits = limits; world = w }) first

pub returns-then-k-gt-WORLD_K-clause-bad_threads : goal.returns-then-k-gt-WORLD_K-clause-bad_threads
returns-then-k-gt-WORLD_K-clause-bad_threads g c =
    (λ same. absurd (k_is_not_threads same), λ bad. absurd (are_threads (limits_of c.args.threads c.args.k) c.if-threads-eq0.false c.if-threads-gt-WORLD_THREADS.false bad))

pub returns-then-k-gt-WORLD_K-clause-bad_k : goal.returns-then-k-gt-WORLD_K-clause-bad_k
returns-then-k-gt-WORLD_K-clause-bad_k g c =
    (λ same. (some_thread (limits_of c.args.threads c.args.k) c.if-threads-eq0.false, c.if-threads-gt-WORLD_THREADS.false, c.if-k-gt-WORLD_K.true), λ bad. refl)

pub returns-in_default-clause-bad_threads : goal.returns-in_default-clause-bad_threads
returns-in_default-clause-bad_threads g c =
    (λ same. absurd (memory_is_not_threads same), λ bad. absurd (are_threads (limits_of c.args.threads c.args.k) c.if-threads-eq0.false c.if-threads-gt-WORLD_THREADS.false bad))

pub returns-in_default-clause-bad_k : goal.returns-in_default-clause-bad_k
returns-in_default-clause-bad_k g c = (λ same. absurd (memory_is_not_k same), λ bad. absurd (is_k (limits_of c.args.threads c.args.k) c.if-k-gt-WORLD_K.false bad))

pub returns-in_err-contents-clause-bad_threads : goal.returns-in_err-contents-clause-bad_threads
returns-in_err-contents-clause-bad_threads g c =
    only_memory _ _ _ memory_is_not_threads c.from_residual.ensures.1 c.in_err-contents.ensures.refused
    (are_threads (limits_of c.args.threads c.args.k) c.if-threads-eq0.false c.if-threads-gt-WORLD_THREADS.false)

pub returns-in_err-contents-clause-bad_k : goal.returns-in_err-contents-clause-bad_k
returns-in_err-contents-clause-bad_k g c =
    only_memory _ _ _ memory_is_not_k c.from_residual.ensures.1 c.in_err-contents.ensures.refused
    (is_k (limits_of c.args.threads c.args.k) c.if-k-gt-WORLD_K.false)

pub returns-in_err-lists-clause-bad_threads : goal.returns-in_err-lists-clause-bad_threads
returns-in_err-lists-clause-bad_threads g c =
    only_memory _ _ _ memory_is_not_threads c.from_residual-in_err-lists.ensures.1 c.in_err-lists.ensures.refused
    (are_threads (limits_of c.args.threads c.args.k) c.if-threads-eq0.false c.if-threads-gt-WORLD_THREADS.false)

pub returns-in_err-lists-clause-bad_k : goal.returns-in_err-lists-clause-bad_k
returns-in_err-lists-clause-bad_k g c =
    only_memory _ _ _ memory_is_not_k c.from_residual-in_err-lists.ensures.1 c.in_err-lists.ensures.refused
    (is_k (limits_of c.args.threads c.args.k) c.if-k-gt-WORLD_K.false)

pub returns-clause-bad_threads : goal.returns-clause-bad_threads
returns-clause-bad_threads g c = (λ never. absurd never, are_threads (limits_of c.args.threads c.args.k) c.if-threads-eq0.false c.if-threads-gt-WORLD_THREADS.false)

pub returns-clause-bad_k : goal.returns-clause-bad_k
returns-clause-bad_k g c = (λ never. absurd never, is_k (limits_of c.args.threads c.args.k) c.if-k-gt-WORLD_K.false)
