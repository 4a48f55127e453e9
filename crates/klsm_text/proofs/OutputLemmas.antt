-- What one piece of text after another leaves with a writer.
use Rattle.std.proofs.Common.{◌≡◌, ℕ, ◌+◌, ◌-◌, ◌≤◌, inl, inr, List, [], ◌++◌, length, take, drop, Option, Some, None, Result, Ok, Err, sym, ap, ◌∙◌, subst, arith}
use Rattle.std.specs.Io.KnownBytes.{Appends, Keeps}
use Rattle.std.proofs.Math.Seq.{take-add, take-append_seam, drop-append_seam}
use Rattle.std.proofs.lemmas.List.{append-nil, append_assoc, length-append, length-drop, take_rest}
use Rattle.klsm_text.specs.declared.output.Output.{Output}
use Rattle.klsm_text.specs.declared.report.End.{End}
use Rattle.klsm_text.specs.declared.stop.Stop.{Stop}
use Rattle.klsm_text.specs.Output.{AddsText, PutsText, pending, put_count}
use Rattle.klsm_text.specs.Reports.{GoesOrFails, IsCut}

-- two pieces one after the other
pub appends_more : (a b c : Option (List ℕ)) (xs ys : List ℕ) → Appends a b xs → Appends b c ys → Appends a c (xs ++ ys)
appends_more None b c xs ys h k = tt
appends_more (Some x) None c xs ys h k = absurd h
appends_more (Some x) (Some y) None xs ys h k = absurd k
appends_more (Some x) (Some y) (Some z) xs ys h k = k ∙ (ap (λ w. w ++ ys) h ∙ append_assoc x xs ys)

-- bytes that are kept have nothing appended
pub appends_none : (a b : Option (List ℕ)) → Keeps a b → Appends a b []
appends_none None b h = tt
appends_none (Some x) None h = absurd h
appends_none (Some x) (Some y) h = h ∙ sym (append-nil x)

pub appends_nothing : (a : Option (List ℕ)) → Appends a a []
appends_nothing None = tt
appends_nothing (Some x) = sym (append-nil x)

-- the next bytes of a text went out after its first ones
pub front_more : (a b c : Option (List ℕ)) (text : List ℕ) (out taken : ℕ) → out ≤ length text → taken ≤ length (take (length text - out) (drop out text)) → Appends a b (take out text) → Appends b c (take taken (take (length text - out) (drop out text))) → (out + taken ≤ length text) × Appends a c (take (out + taken) text)
front_more a b c text out taken within bound h k =
    let rest : take (length text - out) (drop out text) ≡ drop out text = take_rest text out in
    let low : taken ≤ length (drop out text) = rw rest at bound in
    let pieces : Appends a c (take out text ++ take taken (drop out text)) = appends_more a b c (take out text) (take taken (drop out text)) h (rw rest at k) in
    (omega (arith, length-drop out text, low), subst (Appends a c) (sym (take-add out taken text)) pieces)

-- the front of two texts that takes in all of the first
pub take_into : (n : ℕ) (xs ys : List ℕ) → take (length xs + n) (xs ++ ys) ≡ xs ++ take n ys
take_into n xs ys = take-add (length xs) n (xs ++ ys) ∙ (ap (λ zs. zs ++ take n (drop (length xs) (xs ++ ys))) (take-append_seam xs ys) ∙ ap (λ zs. xs ++ take n zs) (drop-append_seam xs ys))

-- the rest of a text was cut off, behind what had gone out
pub cut_after : (before now after : Option (List ℕ)) (gone rest text : List ℕ) (first written written' : ℕ) → Appends before now gone → written ≡ first + length gone → gone ++ rest ≡ text → IsCut now after rest written written' → IsCut before after text first written'
cut_after before now after gone rest text first written written' front count all cut =
    let whole : length gone + length rest ≡ length text = sym (length-append gone rest) ∙ ap length all in
    let piece : gone ++ take cut.0 rest ≡ take (length gone + cut.0) text = sym (take_into cut.0 gone rest) ∙ ap (take (length gone + cut.0)) all in
    (length gone + cut.0, omega (arith, whole, cut.1), subst (Appends before after) piece (appends_more before now after gone (take cut.0 rest) front cut.2), omega (arith, cut.3, count))

-- the rest of a text went out, or was cut off, behind what had gone out
pub goes_after : (before now after : Option (List ℕ)) (gone rest text : List ℕ) (first written written' : ℕ) (good result : End) → Appends before now gone → written ≡ first + length gone → gone ++ rest ≡ text → GoesOrFails now after rest written written' good result → GoesOrFails before after text first written' good result
goes_after before now after gone rest text first written written' good result front count all (inl whole) =
    let length_is : length gone + length rest ≡ length text = sym (length-append gone rest) ∙ ap length all in
    inl (whole.0, subst (Appends before after) all (appends_more before now after gone rest front whole.1), omega (arith, whole.2, count, length_is))
goes_after before now after gone rest text first written written' good result front count all (inr cut) =
    inr (cut.0, cut_after before now after gone rest text first written written' front count all cut.1)

-- a text that is added counts
pub adds_count : (before after : Option (List ℕ)) (text : List ℕ) (output output' : Output) → AddsText before after text output output' → put_count output' ≡ put_count output + length text
adds_count before after text output output' adds =
    let all : length adds.0 + length (pending output') ≡ length (pending output) + length text = sym (length-append adds.0 (pending output')) ∙ (ap length adds.3 ∙ length-append (pending output) text) in
    omega (arith, adds.2, all)

-- a text adds at most its length
pub puts_at_most : (before after : Option (List ℕ)) (text : List ℕ) (output output' : Output) (result : Result (Unit {0}) Stop) → PutsText before after text output output' result → put_count output' ≤ put_count output + length text
puts_at_most before after text output output' (Ok done) puts = omega (arith, adds_count before after text output output' puts)
puts_at_most before after text output output' (Err why) puts = omega (arith, puts.1.1, puts.1.3, ap length puts.2, length-append (pending output) text)
