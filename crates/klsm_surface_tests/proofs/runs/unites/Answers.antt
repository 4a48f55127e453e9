use Rattle.std.proofs.Common.{◌≡◌, ◌<◌, ◌++◌, remove, arith, rules}
use Rattle.klsm_run.specs.Content.{sorted}
use Rattle.klsm_run.proofs.RemoveLemmas.{all_remove}
use Rattle.klsm_test_support.proofs.OwnerLemmas.{apart_by_owner, below_if_of, below_merged}
use Rattle.klsm_surface_tests.proofs.runs.unites.Goals as goal

pub unite-requires-clause-apart : goal.unite-requires-clause-apart
unite-requires-clause-apart g c =
    let one = g.R.Run.items c.args.one.now in
    let two = g.R.Run.items c.args.two.now in
    let both = g.R.Run.items c.in_ok-run.run' in
    let union : both ≡ sorted (one ++ two) = search rules in
    let below = below_merged 2 one two both union (below_if_of 0 2 one (omega arith) c.requires.one) (below_if_of 1 2 two (omega arith) c.requires.two) in
    let rest : g.R.Run.items c.remove_at-least.new.self ≡ remove both 0 = c.remove_at-least.ensures.rest in
    apart_by_owner 2 (g.R.Run.items c.remove_at-least.new.self) (g.R.Run.items c.args.three.now) (rw rest (all_remove (λ x. x.stamp.owner < 2) both 0 below)) c.requires.three
