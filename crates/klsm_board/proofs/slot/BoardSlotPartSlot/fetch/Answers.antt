use Rattle.std.proofs.Common.{◌≡◌, ◌≤◌, ◌∙◌, length, drop, vec_len, sym, ap, refl, arith}
use Rattle.klsm_parts.proofs.FitLemmas.{local_fits, shared_fits}
use Rattle.klsm_board.specs.declared.slot.Slot.TheVariants.{Own, Common}
use Rattle.klsm_board.proofs.lemmas.slots.KindLemmas.{own_content, own_k, keeps_shared, holds_own, holds_shared, has_places}
use Rattle.klsm_board.proofs.lemmas.slots.RefillLemmas.{first_fetched, has_fetched, keeps_fetching}
use Rattle.klsm_board.proofs.slot.BoardSlotPartSlot.fetch.Goals.{in_default-via-in-Own+in_default, in_default-via-in_default}
use Rattle.klsm_board.proofs.slot.BoardSlotPartSlot.fetch.Goals as goal

pub fetch-home-requires : goal.fetch-home-requires
fetch-home-requires g c =
    let own = c.get_mut-home.result.now in
    let own_is : c.args.self.now ≡ Own own = c.in-Own-Common.is-0 ∙ ap Own (sym c.get_mut-home.ensures.value) in
    let parts = c.requires.parts in let sized = c.requires.sized in
    let there = has_places parts.0 _ c.args.self.now own own_is parts.2 in
    let k_is : own.part.k ≡ parts.0 = own_k parts.0 _ c.args.self.now own own_is parts.2 in
    let enough : own.part.k ≤ length c.as_mut_slice.result.now = omega (arith, there.0, k_is, c.as_mut_slice.ensures.len) in
    (local_fits _ sized.0, (shared_fits _ sized.1, enough))

pub returns-clause-done : goal.returns-clause-done
returns-clause-done g c k t kind =
    let own = c.get_mut-home.result.now in let common = c.get_mut.result.now in
    let own_is : c.args.self.now ≡ Own own = c.in-Own-Common.is-0 ∙ ap Own (sym c.get_mut-home.ensures.value) in
    let common_is : c.args.shared.now ≡ Common common = c.in-Own-Common.is-1 ∙ ap Common (sym c.get_mut.ensures.value) in
    let there = has_places k _ c.args.self.now own own_is kind in
    let k_is : own.part.k ≡ k = own_k k _ c.args.self.now own own_is kind in
    let outcome = c.fetch-home.ensures in let n = c.fetch-home.result in let new = c.fetch-home.new.places in
    let lent : length new ≡ vec_len own.places = omega (arith, c.fetch-home.auto.places, c.as_mut_slice.ensures.len) in
    let within : n ≤ own.part.k = outcome.within in
    let few : n ≤ length new = omega (arith, within, k_is, there.0, lent) in
    let fits : n ≤ vec_len own.places = omega (arith, few, lent) in
    let first = first_fetched n (vec_len own.places) new (drop (length new) own.places.items) few fits in
    has_fetched c.args.most c.args.self.now c.args.shared.now own common c.fetch-home.new.shared _ own_is common_is n outcome.count outcome.unchanged (first ∙ outcome.fetched) outcome.event k t kind

pub returns-clause-same : goal.returns-clause-same
returns-clause-same g c =
    let own = c.get_mut-home.result.now in
    sym (own_content c.args.self.now own (c.in-Own-Common.is-0 ∙ ap Own (sym c.get_mut-home.ensures.value)))

pub returns-clause-kind : goal.returns-clause-kind
returns-clause-kind g c k t kind =
    let own = c.get_mut-home.result.now in
    let own_is : c.args.self.now ≡ Own own = c.in-Own-Common.is-0 ∙ ap Own (sym c.get_mut-home.ensures.value) in
    keeps_fetching c.args.self.now own (record own { count = c.fetch-home.result }) own_is refl refl c.fetch-home.ensures.within refl k _ kind

pub returns-clause-shared_kind : goal.returns-clause-shared_kind
returns-clause-shared_kind g c = λ k.
    let common = c.get_mut.result.now in
    keeps_shared c.args.shared.now common c.fetch-home.new.shared (c.in-Own-Common.is-1 ∙ ap Common (sym c.get_mut.ensures.value)) c.fetch-home.ensures.shared_k k

pub unreachable-requires : goal.unreachable-requires
unreachable-requires g c =
    let parts = c.requires.parts in
    elim c.in_default.branch [
      | in_default-via-in-Own+in_default w ↦ holds_shared parts.0 c.args.shared.now parts.3 w.in_default.not-Common-1
      | in_default-via-in_default w ↦ holds_own parts.0 parts.1 c.args.self.now parts.2 w.in_default.not-Own-0
    ]

pub unreachable-unreachable : goal.unreachable-unreachable
unreachable-unreachable g c = c.unreachable.type_inv
