-- A worker's work grows, and what it has done stays done.
use Rattle.std.proofs.Common.{◌≡◌, ℕ, ◌+◌, ◌^◌, ◌<◌, ◌≤◌, ◌⊎◌, inl, inr, List, [], ◌∷◌, ◌++◌, length, refl, sym, ap, ◌∙◌, subst, arith}
use Rattle.std.specs.List.{Contains}
use Rattle.std.proofs.lemmas.List.{length-append}
use Rattle.std.proofs.lemmas.List.Elements.{Contains-append_left, Contains-push, Contains-push_cases}
use Rattle.std.proofs.Math.Pow.{shr_mono}
use Rattle.klsm_run.specs.declared.item.Item.{Item}
use Rattle.klsm_board.specs.declared.sizes.Sizes.{Sizes}
use Rattle.klsm_knapsack.specs.declared.search_state.Worker.{Worker}
use Rattle.klsm_instance.specs.Selections.{Problem}
use Rattle.klsm_instance.specs.Nodes.{NoneAbove, level_in, picks_in}
use Rattle.klsm_knapsack.specs.Numbers.{value_in}
use Rattle.klsm_knapsack.specs.Work.{Work, HasNode, IsNodeItem, IsSplit, IsDone, HasWorked}
use Rattle.klsm_knapsack.specs.Workers.{InsertsNodes, Extends, IsSameWorker}
use Rattle.klsm_instance.proofs.SearchLemmas.{covers_more}
use Rattle.klsm_knapsack.proofs.CoverageLemmas.{wider}

pub inserts_none : (p : Problem) (xs : List Item) → InsertsNodes p xs xs
inserts_none p xs = record { kept = λ x there. there; nodes = λ x there. inl there }

pub inserts_one : (p : Problem) (xs ys : List Item) (x : Item) → IsNodeItem p x → ys ≡ xs ++ x ∷ [] → InsertsNodes p xs ys
inserts_one p xs ys x node is = subst (λ (zs : List Item). InsertsNodes p xs zs) (sym is) record {
  kept = λ y there. Contains-append_left xs (x ∷ []) y there;
  nodes = λ y there. by_place y (Contains-push_cases xs x y there);
}
  where
    by_place : (y : Item) → Contains xs y ⊎ (x ≡ y) → Contains xs y ⊎ IsNodeItem p y
    by_place y (inl old) = inl old
    by_place y (inr same) = inr (subst (λ (z : Item). IsNodeItem p z) same node)

pub inserts_both : (p : Problem) (xs ys zs : List Item) → InsertsNodes p xs ys → InsertsNodes p ys zs → InsertsNodes p xs zs
inserts_both p xs ys zs first second = record {
  kept = λ x there. second.kept x (first.kept x there);
  nodes = λ x there. by_place x (second.nodes x there);
}
  where
    by_place : (x : Item) → Contains ys x ⊎ IsNodeItem p x → Contains xs x ⊎ IsNodeItem p x
    by_place x (inl old) = first.nodes x old
    by_place x (inr node) = inr node

pub inserts_same : (p : Problem) (xs ys : List Item) → ys ≡ xs → InsertsNodes p xs ys
inserts_same p xs ys is = subst (λ (zs : List Item). InsertsNodes p xs zs) (sym is) (inserts_none p xs)

pub extends_none : (p : Problem) (w : Work) → Extends p w w
extends_none p w = record { inserts = inserts_none p w.inserted; deletes = refl; finds = omega arith }

pub extends_both : (p : Problem) (before between after : Work) → Extends p before between → Extends p between after → Extends p before after
extends_both p before between after first second = record {
  inserts = inserts_both p before.inserted between.inserted after.inserted first.inserts second.inserts;
  deletes = second.deletes ∙ first.deletes;
  finds = omega (arith, first.finds, second.finds);
}

-- where one of two insertions was made, there is room for the other
pub room_left : (xs ys : List Item) (x : Item) (m n : Sizes) → ys ≡ xs ++ x ∷ [] → n ≡ m → length xs + 2 ≤ m.quota → length ys < n.quota
room_left xs ys x m n is same room = omega (arith, ap length is, length-append xs (x ∷ []), ap (λ (s : Sizes). s.quota) same, room)

split_more : (p : Problem) (xs ys : List Item) (level picks : ℕ) → ((x : Item) → Contains xs x → Contains ys x) → IsSplit p xs level picks → IsSplit p ys level picks
split_more p xs ys level picks kept split = record {
  one_more = split.one_more;
  leaves = wider xs ys (level + 1) picks kept split.leaves;
  takes = λ fits. wider xs ys (level + 1) (picks + 2 ^ level) kept (split.takes fits);
}

done_more : (p : Problem) (before after : Work) (x : Item) → InsertsNodes p before.inserted after.inserted → before.found ≤ after.found → IsDone p before x → IsDone p after x
done_more p before after x inserts finds (inl closed) = inl (covers_more p (level_in x.load) (picks_in x.load) (value_in before.found) (value_in after.found) (shr_mono 32 finds) closed)
done_more p before after x inserts finds (inr split) = inr (split_more p before.inserted after.inserted (level_in x.load) (picks_in x.load) inserts.kept split)

-- what is done with a node is done with its item
pub done_node : (p : Problem) (w : Work) (x : Item) (level picks : ℕ) → level ≡ level_in x.load → picks ≡ picks_in x.load → NoneAbove p level picks (value_in w.found) ⊎ IsSplit p w.inserted level picks → IsDone p w x
done_node p w x level picks is_level is_picks done =
    subst (λ (l : ℕ). NoneAbove p l (picks_in x.load) (value_in w.found) ⊎ IsSplit p w.inserted l (picks_in x.load)) is_level
    (subst (λ (q : ℕ). NoneAbove p level q (value_in w.found) ⊎ IsSplit p w.inserted level q) is_picks done)

-- one item more was deleted, and is done with
pub worked_on : (p : Problem) (before between after : Work) (x : Item) → HasWorked p before → between.inserted ≡ before.inserted → between.deleted ≡ before.deleted ++ x ∷ [] → between.found ≡ before.found → Extends p between after → (IsNodeItem p x → IsDone p after x) → HasWorked p after
worked_on p before between after x worked same more still extends done = record {
  inserts_nodes = λ y there. by_insert y (inserts.nodes y there);
  is_done = λ y there node. by_place y node (Contains-push_cases before.deleted x y (subst (λ (ys : List Item). Contains ys y) more (subst (λ (ys : List Item). Contains ys y) extends.deletes there)));
}
  where
    inserts : InsertsNodes p before.inserted after.inserted
    inserts = subst (λ (ys : List Item). InsertsNodes p ys after.inserted) same extends.inserts

    finds : before.found ≤ after.found
    finds = subst (λ (n : ℕ). n ≤ after.found) still extends.finds

    by_insert : (y : Item) → Contains before.inserted y ⊎ IsNodeItem p y → IsNodeItem p y
    by_insert y (inl old) = worked.inserts_nodes y old
    by_insert y (inr node) = node

    by_place : (y : Item) → IsNodeItem p y → Contains before.deleted y ⊎ (x ≡ y) → IsDone p after y
    by_place y node (inl old) = done_more p before after y inserts finds (worked.is_done y old node)
    by_place y node (inr same) = subst (λ (z : Item). IsDone p after z) same (done (subst (λ (z : Item). IsNodeItem p z) (sym same) node))

pub has_last : (xs ys : List Item) (x : Item) (level picks : ℕ) → ys ≡ xs ++ x ∷ [] → level_in x.load ≡ level → picks_in x.load ≡ picks → HasNode ys level picks
has_last xs ys x level picks is is_level is_picks = (x, subst (λ (zs : List Item). Contains zs x) (sym is) (Contains-push xs x), is_level, is_picks)

module _ {LEVELS : ℕ} where
  -- a worker that is the same after each of two calls
  pub same_both : (before between after : Worker LEVELS) → IsSameWorker before between → IsSameWorker between after → IsSameWorker before after
  same_both before between after first second = record {
    member = (second.member.0 ∙ first.member.0, second.member.1 ∙ first.member.1, second.member.2 ∙ first.member.2);
    seat = second.seat ∙ first.seat;
  }
