-- The nodes and the lines after them are no more than the lines.
use Rattle.std.proofs.Common.{◌+◌, ◌≤◌, length, map, sym, ap, ◌∙◌, subst, arith}
use Rattle.std.specs.Prelude.{option_map}
use Rattle.std.proofs.lemmas.List.{length-map}
use Rattle.rn_record_reader.specs.declared.role.Role.TheVariants.{Fault}
use Rattle.rn_record_reader.specs.Lines.{lines_in}
use Rattle.rn_record_reader.specs.link.NodesAhead.{placed, stop}
use Rattle.rn_record_reader.specs.link.CalledAhead.{bad_at}
use Rattle.rn_record_reader.proofs.CountLemmas.{left, nodes_few, bad_early}
use Rattle.rn_record_reader.proofs.ends.read_fault.Goals as goal

pub bad_line-requires : goal.bad_line-requires
bad_line-requires c =
    let nodes = map placed c.in_ok-read.read.nodes.items in
    let end = stop c.in_ok-read.read.end in
    let early = bad_early c.args.by.reader.system.now c.as_slice-2.result.now (nodes, end) (bad_at c.in-Some.bad)
    (ap (option_map bad_at) (sym c.in-Some.is) ∙ c.nodes_fault.ensures) in
    let few = nodes_few c.args.by.reader.system.now Fault (lines_in c.args.bytes.now) nodes end c.in_ok-read.ensures in
    omega (arith, early, few, c.requires.few)

pub fault_on-requires-clause-few : goal.fault_on-requires-clause-few
fault_on-requires-clause-few c =
    let nodes = c.in_ok-read.read.nodes.items in
    let lines = lines_in c.args.bytes.now in
    let rest = lines_in c.in-Whole.rest.now in
    let all = nodes_few c.args.by.reader.system.now Fault lines (map placed nodes) (stop c.in_ok-read.read.end) c.in_ok-read.ensures in
    let here : length (map placed nodes) + length rest ≤ length lines
    = subst (λ s. length (map placed nodes) + left s ≤ length lines) (ap stop c.in-Whole.is) all in
    let size = length-map nodes placed in
    let same = ap length c.as_slice-3.ensures.value in
    omega (arith, here, size, same, c.requires.few)
