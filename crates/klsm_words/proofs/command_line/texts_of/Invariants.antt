use Rattle.std.specs.Prelude.{◌≡◌, IsUtf8, map, take}
use Rattle.std.specs.List.{All}
use Rattle.klsm_words.proofs.command_line.texts_of.Given as goal

-- the words so far are text, and the texts are theirs
abbrev pub invariant-loop-word : goal.invariant-loop-word
invariant-loop-word l = record {
  same : map (λ text. text.now) l.texts.items ≡ map (λ word. word.items) (take l.word-index l.words);
  text : All (λ word. IsUtf8 word.items) (take l.word-index l.words);
}
