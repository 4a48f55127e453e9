use Rattle.std.proofs.Common.{◌≡◌, ◌+◌, ◌-◌, drop}
use Rattle.klsm_parts.specs.Parts.{candidates_of}
use Rattle.klsm_parts.specs.Taking.{own_first}
use Rattle.klsm_parts.proofs.shared.Shared.own_first.Given as goal

-- none of the candidates seen is the owner's
abbrev pub invariant-loop-earlier : goal.invariant-loop-earlier
invariant-loop-earlier g l =
    own_first l.owner l.index (candidates_of l.self) ≡ l.earlier + own_first l.owner (l.index - l.earlier) (drop l.earlier (candidates_of l.self))
