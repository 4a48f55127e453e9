use Rattle.std.proofs.Common.{◌≡◌, ℕ, ◌<◌, ◌+◌, ◌++◌, ◌∷◌, List, [], length, take, arith, map, sym, ap, ap₂, ◌∙◌, subst, get_or}
use Rattle.std.specs.Prelude.{IsUtf8, is_ok, not, true}
use Rattle.std.specs.List.{All}
use Rattle.std.proofs.lemmas.List.{get_or-map, length-map, map-append, map_more, take_all}
use Rattle.std.proofs.lemmas.List.Elements.{All-get_or, All-map, All-more}
use Rattle.klsm_words.proofs.command_line.texts_of.Goals as goal

-- a word among words that are text is text
text_at : {W : Type 0} (f : W → List ℕ) (words : List W) (i : ℕ) (word : W) → i < length words → word ≡ get_or words i word → All IsUtf8 (map f words) → IsUtf8 (f word)
text_at f words i word within is all =
    subst (λ (w : _). IsUtf8 (f w)) (sym is)
    (subst IsUtf8 (get_or-map f words i word [] within)
    (All-get_or IsUtf8 (map f words) i [] (rw length-map within) all))

-- one text more
text_more : {W : Type 0} (f : W → List ℕ) (words : List W) (i : ℕ) (word : W) → i < length words → word ≡ get_or words i word → All (λ w. IsUtf8 (f w)) (take i words) → IsUtf8 (f word) → All (λ w. IsUtf8 (f w)) (take (i + 1) words)
text_more f words i word within is all text = All-more (λ w. IsUtf8 (f w)) words i word within all (subst (λ (w : _). IsUtf8 (f w)) is text)

-- the texts are those of one word more
same_more : {T W : Type 0} (g : T → List ℕ) (f : W → List ℕ) (texts : List T) (text : T) (words : List W) (i : ℕ) (word : W) → i < length words → word ≡ get_or words i word → g text ≡ f word → map g texts ≡ map f (take i words) → map g (texts ++ text ∷ []) ≡ map f (take (i + 1) words)
same_more g f texts text words i word within is same before =
    map-append g texts (text ∷ []) ∙ ap₂ (λ xs y. xs ++ y ∷ []) before (same ∙ ap f is) ∙ sym (map_more f words i word within)

pub returns-in_default-clause-fault : goal.returns-in_default-clause-fault
returns-in_default-clause-fault c all =
    c.in_default.ensures.cases.0 (subst IsUtf8 (sym c.as_slice.ensures.value) (text_at (λ word. word.items) c.args.words.now c.loop-word.word-index c.word-item.result c.loop-word-test.true c.word-item.is all))

pub loop-word-preserved : goal.loop-word-preserved
loop-word-preserved c = record {
  same =
      let pushed : is_ok c.push.result ≡ true = c.is_err.ensures.negation ∙ ap not c.if-is_err.false in
      rw (rw pushed at c.push.ensures.items)
      (same_more (λ text. text.now) (λ word. word.items) c.loop-word.texts.items c.in-Ok.text c.args.words.now c.loop-word.word-index c.word-item.result c.loop-word-test.true c.word-item.is (c.in-Ok.ensures.cases.0 ∙ c.as_slice.ensures.value) c.loop-word.invariant.same);
  text = text_more (λ word. word.items) c.args.words.now c.loop-word.word-index c.word-item.result c.loop-word-test.true c.word-item.is c.loop-word.invariant.text (subst IsUtf8 c.as_slice.ensures.value c.in-Ok.ensures.cases.1);
}

pub returns-clause-readable : goal.returns-clause-readable
returns-clause-readable c =
    let whole : take c.loop-word.word-index c.args.words.now ≡ c.args.words.now = take_all _ _ (omega (arith, c.loop-word-test.false)) in
    All-map IsUtf8 (λ word. word.items) c.args.words.now (rw whole at c.loop-word.invariant.text)

pub loop-word-init : goal.loop-word-init
loop-word-init c = record {
  same = ap (map (λ text. text.now)) c.new-texts.ensures.items;
  text = λ k d below. absurd (omega (arith, below));
}

pub returns-clause-texts : goal.returns-clause-texts
returns-clause-texts c =
    let whole : take c.loop-word.word-index c.args.words.now ≡ c.args.words.now = take_all _ _ (omega (arith, c.loop-word-test.false)) in
    rw whole at c.loop-word.invariant.same
