-- One more name, and the end of all.
use Rattle.std.proofs.Common.{◌≡◌, ◌∙◌, ap, sym, map, arith, take, drop, get_or, ◌+◌}
use Rattle.std.proofs.lemmas.List.{length-map}
use Rattle.rn_declared.specs.Faults.{first_from}
use Rattle.rn_declared.specs.Names.{names_faults}
use Rattle.rn_declared.specs.link.Tables.{found_in}
use Rattle.rn_declared.proofs.NameLemmas.{found_more, names_told_more, names_told_all, length_names, texts}
use Rattle.rn_declared.proofs.names.declare_all.Goals as goal
use Rattle.rn_items.proofs.Lists.{map_item}

pub loop-i-preserved : goal.loop-i-preserved
loop-i-preserved g c =
    let name_of = g.T.Named.name_of in
    let names = map name_of c.args.items.now in
    let i = c.loop-i.i in
    let x = c.name.result.now in
    let within = length_names name_of c.args.items.now i c.loop-i-test.true in
    let is : x ≡ get_or names i x =
    c.name.ensures
    ∙ map_item name_of c.args.items.now i c.index-items-i.result c.loop-i-test.true c.index-items-i.is
    ∙ ap (get_or names i) (sym c.name.ensures) in
    record {
      found =
          found_more names i x (found_in c.loop-i.table) (found_in c.declare.new.table) within is
          c.loop-i.invariant.found c.in_ok-declare.ensures.found;
      told =
          ap (λ k. first_from k (names_faults (texts (take (i + 1) names)) (drop (i + 1) names))) c.in_ok-declare.ensures.told
          ∙ names_told_more names i x (found_in c.loop-i.table) c.loop-i.first.fault within is
          c.loop-i.invariant.found
          ∙ c.loop-i.invariant.told;
    }

pub returns-clause-told : goal.returns-clause-told
returns-clause-told g c =
    let names = map g.T.Named.name_of c.args.items.now in
    c.tell_past_name.ensures
    ∙ names_told_all names c.loop-i.i c.args.most c.args.first.now.fault c.loop-i.first.fault
    (omega (arith, length-map c.args.items.now g.T.Named.name_of)) c.loop-i.invariant.told
