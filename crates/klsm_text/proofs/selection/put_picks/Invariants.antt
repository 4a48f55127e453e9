use Rattle.std.proofs.Common.{◌≡◌, ◌++◌, ◌-◌}
use Rattle.klsm_text.specs.SelectionText.{picks_text}
use Rattle.klsm_text.proofs.selection.put_picks.Given as goal

-- what is put so far, with the things that are left, is the whole
abbrev pub invariant-loop-index : goal.invariant-loop-index
invariant-loop-index l = l.text.items ++ picks_text (l.count - l.index) l.index l.rest ≡ l.initial.text.items ++ picks_text l.count 0 l.picks
