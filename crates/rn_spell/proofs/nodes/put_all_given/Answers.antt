use Rattle.std.proofs.Common.{ℕ, ◌<◌, ◌≤◌, List, length, map, drop, refl, ap, sym, ◌∙◌, arith}
use Rattle.std.proofs.lemmas.List.{drop_all}
use Rattle.rn_value.specs.declared.value.Value.{Value}
use Rattle.rn_model.specs.Firing.{renamed_value}
use Rattle.rn_model.specs.NodeText.{all_given_text}
use Rattle.rn_window.specs.Windows.{after}
use Rattle.rn_window.proofs.Windows.{nothing}
use Rattle.rn_spell.proofs.NodeTexts.{next_given}
use Rattle.rn_spell.proofs.Slices.{drop_item}
use Rattle.rn_spell.proofs.nodes.put_all_given.Goals as goal

pub loop-i-preserved : goal.loop-i-preserved
loop-i-preserved g c =
    let names = g.N.Naming.names c.args.naming.now in
    let change = λ (v : Value). renamed_value v (g.N.Naming.renamed c.args.naming.now) in
    let vars = c.args.vars.now in
    let values = c.args.values.now in
    let i = c.loop-i.i in
    let v = c.index-values-i.result in
    let inside : i < length vars = omega arith in
    next_given names c.args.net.now change c.loop-i.window c.put_given.new.window
    (after c.args.window.now (all_given_text names c.args.net.now vars (map change values)))
    _ v vars values i (drop_item vars i _ _ inside refl) (drop_item values i v v c.loop-i-test.true c.index-values-i.is)
    c.loop-i.invariant c.put_given.ensures

pub returns : goal.returns
returns g c =
    let names = g.N.Naming.names c.args.naming.now in
    let change = λ (v : Value). renamed_value v (g.N.Naming.renamed c.args.naming.now) in
    let values = c.args.values.now in
    let i = c.loop-i.i in
    let past : length c.args.vars.now ≤ i = omega arith in
    sym (ap (λ (some : List ℕ). after c.loop-i.window (all_given_text names c.args.net.now some (map change (drop i values)))) (drop_all i c.args.vars.now past)
    ∙ nothing c.loop-i.window)
    ∙ c.loop-i.invariant
