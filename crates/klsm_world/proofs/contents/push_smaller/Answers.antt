use Rattle.std.proofs.Common.{◌≡◌, ◌+◌, ◌++◌, ◌-◌, ◌∙◌, List, length, true, false, take, drop, ap, subst, arith}
use Rattle.std.specs.List.{prefix_len}
use Rattle.std.proofs.lemmas.List.{length-take, length-drop, take_all}
use Rattle.klsm_run.specs.declared.item.Item.{Item}
use Rattle.klsm_run.specs.ItemOrder.{is_smaller}
use Rattle.klsm_world.proofs.contents.push_smaller.Goals as goal

pub returns : goal.returns
returns g c =
    let items : List Item = c.args.items.now in let start = c.args.start in let smaller = c.first_smaller-smaller.result in
    let rest : List Item = drop start items in
    let whole : take (length items - start) rest ≡ rest = take_all (length items - start) rest (omega (arith, length-drop start items)) in
    let counted : smaller ≡ prefix_len (λ one. is_smaller one c.args.item) rest = c.first_smaller-smaller.ensures.counted ∙ ap (prefix_len (λ one. is_smaller one c.args.item)) whole in
    let many : start + smaller - start ≡ smaller = omega arith in
    record {
      pushed = subst (λ n. c.extend_from_slice.new.self.items ≡ c.args.all.now.items ++ take n rest) (many ∙ counted) c.in-Ok.ensures.items;
      stopped = ap (λ n. start + n) counted;
      within = omega (arith, c.requires.start_within, c.first_smaller-smaller.ensures.within, length-take (length items - start) rest);
      capacity = c.in-Ok.ensures.capacity;
    }

pub unreachable-requires : goal.unreachable-requires
unreachable-requires g c =
    let items : List Item = c.args.items.now in let start = c.args.start in let smaller = c.first_smaller-smaller.result in
    let bad : false ≡ true = c.in_default.ensures.succeeds (omega (arith, c.requires.room, c.requires.start_within, c.first_smaller-smaller.ensures.within, length-drop start items, length-take (start + smaller - start) (drop start items))) in
    cc
