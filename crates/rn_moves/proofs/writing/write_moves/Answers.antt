-- The lines of the start, and then those of the entries.
use Rattle.std.proofs.Common.{◌≡◌, ◌≤◌, ◌++◌, length, sym, ap, ◌∙◌, arith}
use Rattle.std.proofs.lemmas.List.{length-map}
use Rattle.std.proofs.lemmas.List.Elements.{All-from_recursion}
use Rattle.rn_model.specs.Systems.{net_at}
use Rattle.rn_moves.specs.link.Connecting.{HasEntryNodes}
use Rattle.rn_moves.specs.MovesText.{moves_lines, names_of, nets_of}
use Rattle.rn_moves.proofs.Continuing.{all_told, nodes_told}
use Rattle.rn_moves.proofs.Told.{first_within}
use Rattle.rn_moves.proofs.writing.write_moves.Goals as goal

pub nets_of-requires-clause-nodes : goal.nets_of-requires-clause-nodes
nets_of-requires-clause-nodes c =
    let system = c.args.system.now in
    let entries = c.args.entries.now in
    All-from_recursion (HasEntryNodes system) entries
    (nodes_told system (length (nets_of system entries)) 2 1 entries c.requires.moves)

pub put_moves-requires-clause-put : goal.put_moves-requires-clause-put
put_moves-requires-clause-put c =
    let system = c.args.system.now in
    let nets = c.as_slice.result.now in
    let are : nets ≡ nets_of system c.args.entries.now = c.as_slice.ensures.value ∙ c.in_ok-nets.ensures in
    let count = ap length are in
    let named = ap length c.in_ok-names.ensures ∙ length-map nets (λ net. (net_at system net).name) in
    let low : 1 ≤ length c.in_ok-names.names = omega (arith, count, named) in
    first_within system c.in_ok-first.first (length c.in_ok-names.names) c.requires.good low
    c.in_ok-first.ensures

pub returns : goal.returns
returns c =
    let system = c.args.system.now in
    let entries = c.args.entries.now in
    let names = c.in_ok-names.names in
    let first = c.in_ok-first.first in
    let nets = c.as_slice-2.result.now in
    let named : c.as_slice.result.now ≡ nets =
    c.as_slice.ensures.value ∙ sym c.as_slice-2.ensures.value in
    all_told system entries first nets names c.put_moves.new.out.items c.put_entries.new.out.items
    (c.as_slice-2.ensures.value ∙ c.in_ok-nets.ensures)
    (c.in_ok-names.ensures ∙ ap (names_of system) named) c.in_ok-first.ensures
    (c.in_ok-put_moves.ensures
    ∙ ap (λ t. t ++ moves_lines system nets names 0 first) c.new-text.ensures.items)
    c.in_ok-put_entries.ensures
