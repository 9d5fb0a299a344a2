-- The nodes and the lines after them are no more than the lines.
use Rattle.std.proofs.Common.{◌+◌, ◌≤◌, length, map, ap, subst, arith}
use Rattle.std.proofs.lemmas.List.{length-map}
use Rattle.rn_record_reader.specs.declared.role.Role.TheVariants.{Firing}
use Rattle.rn_record_reader.specs.Lines.{lines_in}
use Rattle.rn_record_reader.specs.link.NodesAhead.{placed, stop}
use Rattle.rn_record_reader.proofs.CountLemmas.{left, nodes_few}
use Rattle.rn_record_reader.proofs.firings.read_firing.Goals as goal

pub read_on-requires-clause-few : goal.read_on-requires-clause-few
read_on-requires-clause-few c =
    let nodes = c.in_ok-read.read.nodes.items in
    let lines = lines_in c.args.bytes.now in
    let rest = lines_in c.in-Whole.rest.now in
    let all = nodes_few c.args.by.system.now (Firing c.args.step c.args.worker) lines (map placed nodes) (stop c.in_ok-read.read.end) c.in_ok-read.ensures in
    let here : length (map placed nodes) + length rest ≤ length lines
    = subst (λ s. length (map placed nodes) + left s ≤ length lines) (ap stop c.in-Whole.is) all in
    let size = length-map nodes placed in
    let same = ap length c.as_slice-4.ensures.value in
    let few = c.requires.few in
    omega (arith, here, size, same, few)
