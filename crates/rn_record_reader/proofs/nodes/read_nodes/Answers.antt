-- One more node, or the line at which the nodes end.
use Rattle.std.proofs.Common.{◌≡◌, [], ◌∙◌, false, length, map, sym, ap, subst, drop, rules}
use Rattle.std.proofs.lemmas.List.{map_push}
use Rattle.rn_lines.specs.link.NodeSeen.{node}
use Rattle.rn_model.specs.Systems.{transition_at}
use Rattle.rn_record_reader.specs.Lines.{lines_in}
use Rattle.rn_record_reader.specs.Nodes.{placed_at, count_called, Stop}
use Rattle.rn_record_reader.specs.link.NodesAhead.{ReadsNode, placed, stop}
use Rattle.rn_record_reader.specs.link.DueAhead.{due_paths, path_due, later}
use Rattle.rn_record_reader.proofs.NodeLemmas.{node_on, node_stops, paths_due}
use Rattle.rn_record_reader.proofs.nodes.read_nodes.Goals as goal
use Rattle.rn_record_reader.proofs.nodes.read_nodes.Goals.{in-Late, in-Refused}

pub loop-alloc-preserved : goal.loop-alloc-preserved
loop-alloc-preserved c =
    let system = c.args.system.now in
    let due = c.loop-alloc.due in
    let before = due_paths due in
    let path = path_due due in
    let lines = lines_in c.loop-alloc.rest.now in
    let rest = lines_in c.in_ok-line.more.now in
    let n = node c.in-Stands.node in
    let undone : due.done ≡ false = search rules in
    let step = subst (λ j. ReadsNode system c.args.role path (drop 1 before) lines j rest) c.in-Stands.is
    (c.in_ok-line.ensures.steps path (drop 1 before) (sym c.is_first.ensures)) in
    let is : placed (record { path = c.in_ok-path-in-Stands.path; found = c.in-Stands.found; node = c.in-Stands.node }) ≡ placed_at system path n
    = λ i. record { path = c.in_ok-path-in-Stands.ensures i; net = step.1 i; transition = step.2 i; said = n } in
    let counted : c.small_count.result ≡ count_called system n
    = c.small_count.ensures ∙ (λ i. length (transition_at system (step.1 i) (step.2 i)).downlinks) in
    node_on system c.args.role (map placed c.loop-alloc.nodes.items) before path lines _
    (due_paths c.read.new.self) (map placed c.push.new.self.items) _ n c.small_count.result rest
    (paths_due due.done path (later [] due.levels.items) undone) step.0 is counted
    c.in_ok-read-in-Stands.ensures
    (ap (map placed) c.in_ok-push-in-Stands.ensures.items ∙ map_push placed c.loop-alloc.nodes.items _)
    c.loop-alloc.invariant

pub returns-in-loop-alloc : goal.returns-in-loop-alloc
returns-in-loop-alloc c =
    let system = c.args.system.now in
    let due = c.loop-alloc.due in
    let before = due_paths due in
    let path = path_due due in
    let lines = lines_in c.loop-alloc.rest.now in
    let rest = lines_in c.in_ok-line.more.now in
    let undone : due.done ≡ false = search rules in
    let paths = paths_due due.done path (later [] due.levels.items) undone in
    let steps = c.in_ok-line.ensures.steps path (drop 1 before) (sym c.is_first.ensures) in
    let stops = node_stops system c.args.role (map placed c.loop-alloc.nodes.items) before path lines _ in
    elim c.match-line.branch [
      | in-Late w ↦
          stops (Stop.late (node w.in-Late.node)) (stop c.match-line.end) paths
          (subst (λ j. ReadsNode system c.args.role path (drop 1 before) lines j rest) w.in-Late.is steps)
          (ap stop w.end-is) c.loop-alloc.invariant
      | in-Refused w ↦
          stops (Stop.refused w.in-Refused.refusal) (stop c.match-line.end) paths
          (subst (λ j. ReadsNode system c.args.role path (drop 1 before) lines j rest) w.in-Refused.is steps)
          (ap stop w.end-is) c.loop-alloc.invariant
    ]
