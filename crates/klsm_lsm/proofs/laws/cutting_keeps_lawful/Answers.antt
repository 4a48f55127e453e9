use Rattle.std.proofs.lemmas.Option.{slice_get_within}
use Rattle.klsm_lsm.proofs.CutLemmas.{lawful_cut, sorted_cut}
use Rattle.klsm_lsm.proofs.laws.cutting_keeps_lawful.Goals as goal

pub returns : goal.returns
returns c blocks at index item lsm found = (lawful_cut blocks at index lsm (slice_get_within _ index item found), sorted_cut blocks at index item found)
