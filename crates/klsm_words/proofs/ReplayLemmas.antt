-- The words that ask for a replay.
use Rattle.std.proofs.Common.{◌≡◌, ℕ, zero, suc, List, [], Some, codes, arith, refl, sym, subst}
use Rattle.std.specs.Prelude.{IsUtf8}
use Rattle.std.specs.List.{All}
use Rattle.clap.specs.Words.{IsAmong, Kinds}
use Rattle.clap.specs.declared.error.kind.ErrorKind.{ErrorKind}
use Rattle.clap.proofs.OnLiterals.{clap_on_literals}
use Rattle.klsm_words.specs.CommandLine.{HasStatus, action_in, found_in, replay_words, usual_settings}
use Rattle.klsm_words.specs.declared.command_line.Action.TheVariants.{Replay}

-- the words that ask for a replay are text, and the parser finds nothing in them
replay_is_found : found_in replay_words ≡ []
unfolding clap_on_literals found_in
replay_is_found = refl

pub replay_is_text : All IsUtf8 replay_words
unfolding lib.Utf8.encode
replay_is_text zero d within = (codes "replay", (refl, refl))
replay_is_text (suc k) d within = absurd (omega (arith, within))

among_none : (what : ErrorKind) (kinds : Kinds) → kinds ≡ [] → IsAmong what kinds → ⊥
among_none what kinds none among = subst (IsAmong what) none among

pub replay_has_no_status : (words : List (List ℕ)) (status : ℕ) → words ≡ replay_words → HasStatus words status → ⊥
replay_has_no_status words status are has = among_none has.1.0 (found_in replay_words) replay_is_found (subst (λ (ws : _). IsAmong has.1.0 (found_in ws)) are has.1.1)

-- they ask for a replay with the usual settings
pub replay_is_usual : (words : List (List ℕ)) → words ≡ replay_words → action_in words ≡ Some (Replay usual_settings)
unfolding clap_on_literals action_in
replay_is_usual words are = subst (λ (ws : List (List ℕ)). action_in ws ≡ Some (Replay usual_settings)) (sym are) refl
