use Rattle.std.proofs.Common.{◌<◌, ◌≤◌, drop, get_or, length, suc, sym, ◌∙◌, ap, arith}
use Rattle.std.proofs.Math.Seq.{drop-cons}
use Rattle.std.proofs.lemmas.List.{drop_all}
use Rattle.klsm_rows.proofs.NumberLemmas.{number_after, number_stops, number_ends}
use Rattle.klsm_rows.proofs.number.number_in.Goals as goal

pub returns-in_err-number : goal.returns-in_err-number
returns-in_err-number c =
    let field = c.args.field.now in
    let at = c.loop-byte.byte-index in
    let within : at < length field = omega arith in
    let ends = c.in_err-number.ensures in
    let none = number_stops c.loop-byte.number (get_or field at 0) (drop (suc at) field) ends in
    let left = ap (number_after c.loop-byte.number) (drop-cons field at 0 within) in
    c.from_residual.ensures ∙ sym (c.loop-byte.invariant.1 ∙ left ∙ none)

pub returns : goal.returns
returns c =
    let field = c.args.field.now in
    let done : length field ≤ c.loop-byte.byte-index = omega arith in
    let left = ap (number_after c.loop-byte.number) (drop_all c.loop-byte.byte-index field done) in
    sym (c.loop-byte.invariant.1 ∙ left ∙ number_ends c.loop-byte.number c.loop-byte.invariant.0)
