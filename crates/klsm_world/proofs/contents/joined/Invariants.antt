use Rattle.std.proofs.Common.{◌≡◌, take}
use Rattle.std.specs.List.{flat_map}
use Rattle.klsm_world.proofs.contents.joined.Given as goal

-- the contents so far are there
abbrev pub invariant-loop-content : goal.invariant-loop-content
invariant-loop-content g l = l.all.items ≡ flat_map (λ c. c) (take l.content-index l.contents)
