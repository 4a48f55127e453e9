use Rattle.std.proofs.Common.{◌-◌, subst, arith, refl}
use Rattle.klsm_pile.specs.Uniting.{ArePartners}
use Rattle.klsm_pile.proofs.PairLemmas.{pieces_apart, pieces_few}
use Rattle.klsm_pile.proofs.HandingLemmas.{still_there, still_within, taken_in, taken_below, moved_back, moved_below}
use Rattle.klsm_pile.proofs.handing.hand_out.Goals as goal

pub unite-requires-clause-apart : goal.unite-requires-clause-apart
unite-requires-clause-apart g c =
    let partners : ArePartners c.args.pieces.now.items c.in-Some.one c.in-Some.other = subst (λ ps. ArePartners ps c.in-Some.one c.in-Some.other) c.as_slice.ensures.value c.in-Some.ensures in
    pieces_apart c.args.pieces.now.items c.in-Some.one c.in-Some.other c.index_mut.result.now c.remove-first.result partners
    (still_there c.args.pieces.now.items c.remove-first.new.self.items c.in-Some.one c.in-Some.other c.index_mut.result.now partners c.remove-first.ensures.items c.index_mut.ensures.value) c.remove-first.ensures.value c.requires.distinct

pub unite-requires-clause-room : goal.unite-requires-clause-room
unite-requires-clause-room g c =
    let partners : ArePartners c.args.pieces.now.items c.in-Some.one c.in-Some.other = subst (λ ps. ArePartners ps c.in-Some.one c.in-Some.other) c.as_slice.ensures.value c.in-Some.ensures in
    let few = pieces_few c.args.pieces.now.items c.in-Some.one c.in-Some.other c.index_mut.result.now c.remove-first.result partners
    (still_there c.args.pieces.now.items c.remove-first.new.self.items c.in-Some.one c.in-Some.other c.index_mut.result.now partners c.remove-first.ensures.items c.index_mut.ensures.value) c.remove-first.ensures.value in
    omega (arith, few, c.requires.few)

pub returns-in-Ok-clause-same : goal.returns-in-Ok-clause-same
returns-in-Ok-clause-same g c =
    let partners : ArePartners c.args.pieces.now.items c.in-Some.one c.in-Some.other = subst (λ ps. ArePartners ps c.in-Some.one c.in-Some.other) c.as_slice.ensures.value c.in-Some.ensures in
    taken_in c.args.pieces.now.items c.remove-first.new.self.items _ c.in-Some.one c.in-Some.other c.remove-first.result c.index_mut.result.now c.unite.new.self partners c.remove-first.ensures.value c.remove-first.ensures.items c.index_mut.ensures.value
    c.in-Ok.ensures.union refl

pub returns-in-Ok-clause-below : goal.returns-in-Ok-clause-below
returns-in-Ok-clause-below g c levels below =
    let partners : ArePartners c.args.pieces.now.items c.in-Some.one c.in-Some.other = subst (λ ps. ArePartners ps c.in-Some.one c.in-Some.other) c.as_slice.ensures.value c.in-Some.ensures in
    taken_below levels c.args.pieces.now.items c.remove-first.new.self.items _ c.in-Some.one (c.in-Some.other - 1) c.index_mut.result.now c.unite.new.self _ c.remove-first.ensures.items c.index_mut.ensures.value c.in-Ok.ensures.union refl
    (still_within c.args.pieces.now.items c.remove-first.new.self.items c.in-Some.one c.in-Some.other partners c.remove-first.ensures.items) below

pub returns-in-Err-clause-same : goal.returns-in-Err-clause-same
returns-in-Err-clause-same g c =
    let partners : ArePartners c.args.pieces.now.items c.in-Some.one c.in-Some.other = subst (λ ps. ArePartners ps c.in-Some.one c.in-Some.other) c.as_slice.ensures.value c.in-Some.ensures in
    moved_back c.args.pieces.now.items c.remove-first.new.self.items _ c.in-Some.one (c.in-Some.other - 1) c.remove-first.result c.index_mut.result.now c.unite.new.self c.in-Err.first (omega (arith, partners.order, partners.within)) c.remove-first.ensures.value
    c.remove-first.ensures.items c.index_mut.ensures.value c.in-Err.ensures.same c.in-Err.ensures.back c.push_reserved.ensures.items

pub returns-in-Err-clause-below : goal.returns-in-Err-clause-below
returns-in-Err-clause-below g c levels below =
    let partners : ArePartners c.args.pieces.now.items c.in-Some.one c.in-Some.other = subst (λ ps. ArePartners ps c.in-Some.one c.in-Some.other) c.as_slice.ensures.value c.in-Some.ensures in
    moved_below levels c.args.pieces.now.items c.remove-first.new.self.items _ c.in-Some.one (c.in-Some.other - 1) c.remove-first.result c.index_mut.result.now c.unite.new.self c.in-Err.first (omega (arith, partners.order, partners.within)) c.remove-first.ensures.value
    c.remove-first.ensures.items c.index_mut.ensures.value c.in-Err.ensures.same c.in-Err.ensures.back c.push_reserved.ensures.items below
