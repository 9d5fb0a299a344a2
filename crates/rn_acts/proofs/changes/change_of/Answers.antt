-- By the demands, place by place.
use Rattle.rn_table.specs.declared.change.Change.{Change}
use Rattle.rn_acts.proofs.ChangeLemmas.{taken_are, cleared_are, leads_after}
use Rattle.rn_acts.proofs.RowsOfArcs.{taken_of_arcs, cleared_of_arcs}
use Rattle.rn_acts.proofs.FitNodes.{fit_nodes}
use Rattle.rn_acts.proofs.changes.change_of.Goals as goal

pub takings_of-requires : goal.takings_of-requires
takings_of-requires c =
    let fit = fit_nodes c.args.system.now c.args.binding.now c.requires.good c.requires.nodes
    c.requires.kinds in
    record { fit = fit }

pub returns-clause-taken : goal.returns-clause-taken
returns-clause-taken c =
    taken_are c.args.system.now c.args.binding.now c.in_ok-taken.field-0
    c.in_ok-numbered_rows.field-0 c.in_ok-taken.ensures
    c.in_ok-numbered_rows.ensures

pub returns-clause-cleared : goal.returns-clause-cleared
returns-clause-cleared c =
    cleared_are c.args.system.now c.args.binding.now c.in_ok-taken.field-0
    c.in_ok-numbered_rows-2.field-0 c.in_ok-taken.ensures
    c.in_ok-numbered_rows-2.ensures

pub returns-clause-after : goal.returns-clause-after
returns-clause-after c effects m put leaves =
    let change : Change = record {
      taken = c.in_ok-numbered_rows.field-0;
      cleared = c.in_ok-numbered_rows-2.field-0;
      made = c.in_ok-nets_made.field-0;
      put = c.args.put;
    } in
    leads_after c.args.system.now c.args.binding.now change effects m
    (returns-clause-taken c) (returns-clause-cleared c) c.in_ok-nets_made.ensures put leaves

pub returns-clause-arcs : goal.returns-clause-arcs
returns-clause-arcs c = (
  taken_of_arcs c.args.system.now c.args.binding.now c.in_ok-taken.field-0
      c.in_ok-numbered_rows.field-0 c.in_ok-taken.ensures c.in_ok-numbered_rows.ensures,
  cleared_of_arcs c.args.system.now c.args.binding.now c.in_ok-taken.field-0
      c.in_ok-numbered_rows-2.field-0 c.in_ok-taken.ensures c.in_ok-numbered_rows-2.ensures,
)
