use Rattle.std.proofs.Common.{◌≡◌, ◌∙◌, ◌+◌, ◌-◌, ◌/◌, ◌%◌, ◌++◌, ◌==◌, ℕ, suc, List, append_assoc, ap, sym, arith}
use Rattle.klsm_text.specs.SelectionText.{pick_text, picks_text}
use Rattle.klsm_text.proofs.selection.put_picks.Goals as goal

-- one thing more is told
next : (before after whole : List ℕ) (n m number rest : ℕ) → n ≡ suc m → before ++ picks_text n number rest ≡ whole → after ≡ before ++ pick_text number (rest % 2 == 1) → after ++ picks_text m (number + 1) (rest / 2) ≡ whole
next before after whole n m number rest is told put =
    ap (λ (z : List ℕ). z ++ picks_text m (number + 1) (rest / 2)) put
    ∙ (append_assoc before (pick_text number (rest % 2 == 1)) (picks_text m (number + 1) (rest / 2)) ∙ (ap (λ k. before ++ picks_text k number rest) (sym is) ∙ told))

pub loop-index-preserved : goal.loop-index-preserved
loop-index-preserved c =
    next c.loop-index.text.items c.put_pick.new.text.items _ (c.args.count - c.loop-index.index) (c.args.count - (c.loop-index.index + 1)) c.loop-index.index c.loop-index.rest (omega (arith, c.loop-index-test.true)) c.loop-index.invariant c.in_ok-put_pick.ensures
