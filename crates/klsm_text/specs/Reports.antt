-- What a report says: how a run ended, and how much of its text went out.
use Rattle.std.specs.Prelude.{ℕ, ◌≡◌, ◌+◌, ◌<◌, ◌⊎◌, List, length, take, Option}
use Rattle.std.specs.Io.KnownBytes.{Appends}
use Rattle.klsm_text.specs.declared.report.End.{End}
use Rattle.klsm_text.specs.declared.report.End.TheVariants as end
use Rattle.klsm_text.specs.declared.stop.Stop.{Stop}
use Rattle.klsm_text.specs.declared.stop.Stop.TheVariants as stop

-- the end of a run that stopped so
abbrev pub end_of : Stop → End
end_of stop.AtEnd = end.Done
end_of (stop.Refused why) = end.Refused
end_of stop.NoMemory = end.NoMemory
end_of stop.ReadFault = end.ReadFault
end_of stop.WriteFault = end.WriteFault

-- a front of the text went out, but not all of it
abbrev pub IsCut : Option (List ℕ) → Option (List ℕ) → List ℕ → ℕ → ℕ → Type 0
IsCut before after text written written' =
    (n : ℕ) × (n < length text) × Appends before after (take n text) × (written' ≡ written + n)

-- the whole text went out and the run ends so, or the writer failed before its end
abbrev pub GoesOrFails : Option (List ℕ) → Option (List ℕ) → List ℕ → ℕ → ℕ → End → End → Type 0
GoesOrFails before after text written written' good result =
    ((result ≡ good) × Appends before after text × (written' ≡ written + length text))
    ⊎ ((result ≡ end.WriteFault) × IsCut before after text written written')
