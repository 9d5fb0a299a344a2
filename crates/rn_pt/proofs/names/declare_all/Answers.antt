-- One more name, and the end of all.
use Rattle.std.proofs.Common.{◌≡◌, ◌∙◌, ap, sym, map, arith, take, drop, get_or, ◌+◌}
use Rattle.std.proofs.lemmas.List.{length-map}
use Rattle.rn_pt.specs.Faults.{first_from}
use Rattle.rn_pt.specs.Rules.{names_broken}
use Rattle.rn_pt.specs.link.Tables.{found_in}
use Rattle.rn_pt.proofs.NameLemmas.{found_more, names_noted_more, names_noted_all, length_names, texts}
use Rattle.rn_pt.proofs.names.declare_all.Goals as goal
use Rattle.rn_items.proofs.Lists.{map_item}

pub loop-i-preserved : goal.loop-i-preserved
loop-i-preserved g c =
    let name_of = g.T.Declared.name_of in
    let names = map name_of c.args.items.now in
    let i = c.loop-i.i in
    let x = c.name.result.now in
    let within = length_names name_of c.args.items.now i c.loop-i-test.true in
    let is : x ≡ get_or names i x =
    c.name.ensures
    ∙ map_item name_of c.args.items.now i c.index-items-i.result c.loop-i-test.true c.index-items-i.is
    ∙ ap (get_or names i) (sym c.name.ensures) in
    record {
      found =
          found_more names i x (found_in c.loop-i.table) (found_in c.declare.new.table) within is
          c.loop-i.invariant.found c.in_ok-declare.ensures.found;
      noted =
          ap (λ k. first_from k (names_broken (texts (take (i + 1) names)) (drop (i + 1) names))) c.in_ok-declare.ensures.noted
          ∙ names_noted_more names i x (found_in c.loop-i.table) c.loop-i.first.broken within is
          c.loop-i.invariant.found
          ∙ c.loop-i.invariant.noted;
    }

pub returns-clause-noted : goal.returns-clause-noted
returns-clause-noted g c =
    let names = map g.T.Declared.name_of c.args.items.now in
    c.note_past_name.ensures
    ∙ names_noted_all names c.loop-i.i c.args.most c.args.first.now.broken c.loop-i.first.broken
    (omega (arith, length-map c.args.items.now g.T.Declared.name_of)) c.loop-i.invariant.noted
