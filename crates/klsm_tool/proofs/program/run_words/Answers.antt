use Rattle.std.proofs.Common.{◌≡◌, ◌∙◌, List, ℕ, ap, map, rules, subst, sym}
use Rattle.std.specs.Prelude.{string_bytes, drop}
use Rattle.klsm_tool.specs.Program.{Runs}
use Rattle.klsm_tool.proofs.program.run_words.Goals as goal

pub returns : goal.returns
returns g c =
    let bytes : map (λ word. word.items) c.as_slice.result.now ≡ map string_bytes (drop 1 c.args.words.now) = ap (map (λ word. word.items)) c.as_slice.ensures.value ∙ (c.in-Ok.ensures ∙ ap (map string_bytes) c.without_name.ensures) in
    subst (λ (n : ℕ). Runs (map string_bytes (drop 1 c.args.words.now)) (g.R.Read.remaining c.args.reader) (g.W.Write.contents c.args.writer.now) (g.W.Write.contents c.run_with.new.writer) n) (sym c.code-2.ensures)
    (subst (λ (ws : List (List ℕ)). Runs ws (g.R.Read.remaining c.args.reader) (g.W.Write.contents c.args.writer.now) (g.W.Write.contents c.run_with.new.writer) c.run_with.result.code) bytes c.run_with.ensures.runs)
