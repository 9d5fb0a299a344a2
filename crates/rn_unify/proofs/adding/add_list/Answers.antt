use Rattle.std.proofs.Common.{arith, rules, ◌-◌}
use Rattle.rn_unify.specs.link.Adding.{IsOf, list_of}
use Rattle.rn_unify.proofs.Turning.{turns_not, turns_through}
use Rattle.rn_unify.proofs.Blocks.{block_added, through_result}
use Rattle.rn_unify.proofs.adding.add_list.Goals as goal

pub loop-first-init : goal.loop-first-init
loop-first-init c = record {
  stands = c.requires.stands;
  turned = turns_not c.args.store.now (IsOf (list_of c.args.ids.items c.args.tail))
      c.requires.kept;
}

pub loop-first-preserved : goal.loop-first-preserved
loop-first-preserved c =
    let s = c.loop-first.store in
    let ids = c.loop-first.first.items in
    let tail = c.loop-first.tail in
    let inv = c.loop-first.invariant in
    let both = block_added s c.add.new.self ids c.split_off.new.self.items c.in_ok-block.block.items
    tail (c.len-in-loop-first.result - 16) c.in_ok-add.field-0 inv.turned.keeps inv.stands
    (omega arith) (omega arith) (search rules) (search rules) (search rules) (search rules) in
    record {
      stands = both.0;
      turned = turns_through c.args.store.now s c.add.new.self
          (IsOf (list_of c.args.ids.items c.args.tail)) (IsOf (list_of ids tail)) _ inv.turned
          both.1;
    }

pub returns-clause-added : goal.returns-clause-added
returns-clause-added c =
    through_result c.args.store.now c.loop-first.store c.add_term.new.store
    (IsOf (list_of c.args.ids.items c.args.tail))
    (IsOf (list_of c.loop-first.first.items c.loop-first.tail)) c.add_term.result
    c.loop-first.invariant.turned (search rules)
