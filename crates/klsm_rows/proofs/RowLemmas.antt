-- What one read of a record does to the rows that were read, and what the fields of a record are.
use Rattle.std.proofs.Common.{◌≡◌, ℕ, ◌<◌, Bool, true, false, MatchBool, rules, List, [], ◌∷◌, length, Option, Some, None, Bor, refl, sym, ap, ◌∙◌, subst, inl, reverse, arith, zero, suc}
use Rattle.std.specs.Option.{option_map}
use Rattle.std.proofs.lemmas.List.{reverse-append}
use Rattle.csv.specs.declared.reader.Reader.{Reader}
use Rattle.csv.specs.declared.parser.State.TheVariants as state
use Rattle.csv.specs.Reading.{ReadRecord, Reached, default_config, is_flexible, reader_config, reader_state, source_of, strip_bom, took_first}
use Rattle.csv.specs.Records.{field_at}
use Rattle.csv.proofs.ReadFacts.{rows-more}
use Rattle.klsm_rows.specs.Rows.{Row, AreAllRows, AreFirstRows, HasLeft, HasRead}

-- a reader of all the bytes has read no row
pub left_first : {R : Type 0} (rem : R → Option (List ℕ)) (input : Option (List ℕ)) (reader : Reader R) → source_of rem reader ≡ option_map strip_bom input → reader_state reader ≡ state.StartRecord → HasLeft rem input [] reader
unfolding Reached
left_first rem None reader source start = tt
left_first rem (Some text) reader source start = (strip_bom text, source, (sym start, refl))

left_more : {R : Type 0} (rem : R → Option (List ℕ)) (input : Option (List ℕ)) (rows : List Row) (a b : Reader R) (row : Row) → reader_config a ≡ default_config → HasLeft rem input rows a → ReadRecord rem a b true row → HasLeft rem input (row ∷ rows) b
left_more rem None rows a b row config left reads = tt
left_more rem (Some text) rows a b row config left reads =
    let more = rows-more rem a b row default_config state.StartRecord (strip_bom text) left.0 (reverse rows) config left.1 left.2 reads in
    (more.0, more.1, subst (λ (rs : List Row). Reached default_config state.StartRecord (strip_bom text) rs (reader_state b) more.0) (sym (reverse-append (row ∷ []) rows)) more.2)

-- a record that was read is the next row
pub read_more : {R : Type 0} (rem : R → Option (List ℕ)) (input : Option (List ℕ)) (rows : List Row) (a b : Reader R) (row : Row) → HasRead rem input rows a → ReadRecord rem a b true row → is_flexible b ≡ is_flexible a → took_first b ≡ true → HasRead rem input (row ∷ rows) b
read_more rem input rows a b row before reads flexible first = record {
  config = reads.2 ∙ before.config;
  trim = reads.3 ∙ before.trim;
  flexible = flexible ∙ before.flexible;
  ready = inl first;
  left = left_more rem input rows a b row before.config before.left reads;
}

-- where there is no further record, the rows that were read are all
pub all_rows : {R : Type 0} (rem : R → Option (List ℕ)) (input : Option (List ℕ)) (rows : List Row) (a b : Reader R) (row : Row) → HasRead rem input rows a → ReadRecord rem a b false row → AreAllRows input rows
all_rows rem None rows a b row before reads = tt
all_rows rem (Some text) rows a b row before reads = search rules

pub read_next : {R : Type 0} (rem : R → Option (List ℕ)) (input : Option (List ℕ)) (rows : List Row) (a b : Reader R) (row : Row) (found : Bool) → HasRead rem input rows a → ReadRecord rem a b found row → is_flexible b ≡ is_flexible a → took_first b ≡ true
    → MatchBool found (HasRead rem input (row ∷ rows) b) (AreAllRows input rows)
read_next rem input rows a b row true before reads flexible first = read_more rem input rows a b row before reads flexible first
read_next rem input rows a b row false before reads flexible first = all_rows rem input rows a b row before reads

-- the rows that were read are the first ones
pub first_rows : {R : Type 0} (rem : R → Option (List ℕ)) (input : Option (List ℕ)) (rows : List Row) (a : Reader R) → HasRead rem input rows a → AreFirstRows input rows
first_rows rem None rows a before = tt
first_rows rem (Some text) rows a before = (reader_state a, before.left.0, before.left.2)

-- a field below the number of fields is there
pub present : (row : Row) (i : ℕ) (found : Option (Bor (List ℕ))) → i < length row → option_map (λ s. s.now) found ≡ field_at row i → found ≡ None → ⊥
unfolding field_at
present [] i found within is none = omega arith
present (f ∷ fs) zero found within is none = let bad : option_map (λ (s : Bor (List ℕ)). s.now) None ≡ Some f = ap (option_map (λ (s : Bor (List ℕ)). s.now)) (sym none) ∙ is in cc
present (f ∷ fs) (suc i) found within is none = present fs i found (omega (arith, within)) is none
