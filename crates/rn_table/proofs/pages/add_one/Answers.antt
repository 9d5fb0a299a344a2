use Rattle.std.proofs.Common.{◌≡◌, ◌<◌, ◌+◌, ◌-◌, ◌∷◌, [], ◌++◌, cond, map, refl, sym, ap, ◌∙◌, subst, arith}
use Rattle.std.specs.List.{AllByRecursion}
use Rattle.std.specs.List.Sorted.{IsSorted}
use Rattle.rn_value.specs.Order.{value_cmp}
use Rattle.rn_model.specs.Lists.{ordered_values}
use Rattle.rn_model.specs.Markings.{Instance, fresh_instance}
use Rattle.rn_table.specs.link.Leaves.{Leaf, IsLeaf, IsTable, page_of, instances_in, starting_from}
use Rattle.rn_table.proofs.InstanceLemmas.{all_get}
use Rattle.rn_table.proofs.TableLemmas.{leaf_here, added_in, starts_added, grown_table, sorted_places, one_started, same_instance}
use Rattle.rn_table.proofs.pages.add_one.Goals as goal

pub add-requires-clause-sorted : goal.add-requires-clause-sorted
add-requires-clause-sorted c = subst (AllByRecursion (IsSorted value_cmp)) (sym c.in_ok-inst.ensures.places) (sorted_places c.places_of.result.now)

pub add-requires-clause-leaf : goal.add-requires-clause-leaf
add-requires-clause-leaf c = λ leaf is. (
  subst (λ j. IsLeaf j leaf) (let e : (c.len-last.result - 1) ≡ page_of c.in_ok-inst.inst.number = omega (arith, c.len-last.ensures, c.in_ok-make_room.ensures.size, ap page_of c.in_ok-inst.ensures.number) in e)
      (leaf_here c.make_room.new.leaves (c.len-last.result - 1) leaf c.in_ok-make_room.ensures.table.leaves (omega (arith, c.len-last.ensures, c.in_ok-make_room.ensures.size)) is),
  subst (λ n. AllByRecursion (λ i. i.number < n) leaf.held) (sym c.in_ok-inst.ensures.number)
      (all_get (λ (l : Leaf). AllByRecursion (λ i. i.number < c.args.next) l.held) c.make_room.new.leaves (c.len-last.result - 1) leaf c.in_ok-make_room.ensures.table.below (omega (arith, c.len-last.ensures, c.in_ok-make_room.ensures.size)) is),
)

pub returns-clause-table : goal.returns-clause-table
returns-clause-table c =
    let d = c.in_ok-add.ensures in
    let here : page_of c.in_ok-inst.inst.number ≡ (c.len-last.result - 1) = omega (arith, c.len-last.ensures, c.in_ok-make_room.ensures.size, ap page_of c.in_ok-inst.ensures.number) in
    subst (IsTable (c.args.next + 1)) (sym d.is)
    (grown_table c.args.next (c.args.next + 1) c.make_room.new.leaves (c.len-last.result - 1) d.new c.in_ok-make_room.ensures.table c.in_ok-make_room.ensures.size (omega (arith, c.len-last.ensures, c.in_ok-make_room.ensures.size)) refl (omega (arith, c.requires.room))
    (subst (λ j. IsLeaf j d.new) here d.so.leaf) (d.so.below (c.args.next + 1) (omega (arith, c.in_ok-inst.ensures.number))))

pub returns-clause-instances : goal.returns-clause-instances
returns-clause-instances c =
    let d = c.in_ok-add.ensures in
    let made : Instance = fresh_instance c.args.system.now c.args.next c.args.net in
    let is : c.in_ok-inst.inst ≡ made = same_instance c.in_ok-inst.inst made c.in_ok-inst.ensures.number c.in_ok-inst.ensures.net (c.in_ok-inst.ensures.places ∙ ap (λ ps. map (λ p. ordered_values p.initial) ps) c.places_of.ensures) in
    ap instances_in d.is
    ∙ added_in 0 c.make_room.new.leaves (c.len-last.result - 1) d.old d.new (c.in_ok-inst.inst ∷ []) (omega (arith, c.len-last.ensures, c.in_ok-make_room.ensures.size)) d.was d.so.instances
    ∙ ap (λ r. r ++ c.in_ok-inst.inst ∷ []) c.in_ok-make_room.ensures.instances ∙ ap (λ i. instances_in c.args.leaves.now ++ i ∷ []) is

pub returns-clause-starting : goal.returns-clause-starting
returns-clause-starting c =
    let d = c.in_ok-add.ensures in
    ap (starting_from 0) d.is
    ∙ starts_added 0 c.in_ok-inst.inst.number c.make_room.new.leaves (c.len-last.result - 1) d.old d.new (cond c.starts.result (c.in_ok-inst.inst.number ∷ []) []) (omega (arith, c.len-last.ensures, c.in_ok-make_room.ensures.size)) d.was
    (omega (arith, c.len-last.ensures, c.in_ok-make_room.ensures.size, ap page_of c.in_ok-inst.ensures.number)) d.so.starting
    ∙ ap (λ r. r ++ cond c.starts.result (c.in_ok-inst.inst.number ∷ []) []) c.in_ok-make_room.ensures.starting
    ∙ ap (λ n. starting_from 0 c.args.leaves.now ++ cond c.starts.result (n ∷ []) []) c.in_ok-inst.ensures.number
    ∙ ap (λ b. starting_from 0 c.args.leaves.now ++ cond b (c.args.next ∷ []) []) c.starts.ensures
    ∙ ap (λ r. starting_from 0 c.args.leaves.now ++ r) (one_started c.args.system.now c.args.next c.args.net)
