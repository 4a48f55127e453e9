use Rattle.std.proofs.Common.{◌≡◌, ◌∙◌, ◌<◌, ◌+◌, ◌++◌, ◌∷◌, [], ℕ, List, Vec, String, Global, ap, length, map, rules, sym, take}
use Rattle.std.specs.Prelude.{string_bytes}
use Rattle.std.proofs.lemmas.List.{map-append, take_more, take_all}
use Rattle.klsm_tool.proofs.program.bytes_of.Goals as goal

abbrev bytes : Vec ℕ Global → List ℕ
bytes word = word.items

abbrev codes_of : String Global → List ℕ
codes_of word = string_bytes word

pub loop-index-init : goal.loop-index-init
loop-index-init c = ap (map bytes) c.new-all.ensures.items

pub loop-index-preserved : goal.loop-index-preserved
loop-index-preserved c =
    let words = c.args.words.now in let i = c.loop-index.index in let word = c.index-words-index.result in let all = c.loop-index.all.items in let copy = c.extend_from_slice.new.self in
    let pushed : c.push.new.self.items ≡ all ++ copy ∷ [] = c.in_ok-push.ensures.items in
    let copied : copy.items ≡ string_bytes word = c.in_ok-extend_from_slice.ensures.items ∙ (ap (λ (z : List ℕ). z ++ c.as_bytes.result.now) c.new-word.ensures.items ∙ c.as_bytes.ensures.value) in
    let more : take (i + 1) words ≡ take i words ++ word ∷ [] = take_more words i word c.loop-index-test.true ∙ ap (λ (z : String Global). take i words ++ z ∷ []) (search rules) in
    ap (map bytes) pushed ∙ (map-append bytes all (copy ∷ []) ∙ ((λ k. c.loop-index.invariant k ++ copied k ∷ []) ∙ sym (ap (map codes_of) more ∙ map-append codes_of (take i words) (word ∷ []))))

pub returns : goal.returns
returns c = c.loop-index.invariant ∙ ap (map codes_of) (take_all c.loop-index.index c.args.words.now c.loop-index-test.false)
