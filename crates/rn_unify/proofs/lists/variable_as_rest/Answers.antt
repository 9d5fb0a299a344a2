use Rattle.std.proofs.Common.{arith}
use Rattle.rn_unify.proofs.RestTerms.{rest_noted}
use Rattle.rn_unify.proofs.lists.variable_as_rest.Goals as goal

pub returns-then-rest-gt0 : goal.returns-then-rest-gt0
returns-then-rest-gt0 c = record {
  found = rest_noted c.args.store.now c.args.var c.args.rest c.args.found.now.items
      c.note.new.found.items c.note.result c.requires.free c.requires.list c.requires.rest
      (omega arith) c.note.ensures.noted;
}
