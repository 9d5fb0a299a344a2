-- One more, and the end of all.
use Rattle.std.proofs.Common.{◌∙◌, ap, sym, map, ◌++◌, ◌∷◌, [], ◌-◌, length, Some}
use Rattle.std.proofs.lemmas.List.{take_all}
use Rattle.std.specs.Prelude.{flat_map, slice_get}
use Rattle.rn_model.specs.Limits.{most_vars}
use Rattle.rn_net.specs.declared.plain.PVar.{PVar}
use Rattle.rn_declared.specs.Faults.{first_from}
use Rattle.rn_declared.specs.Patterns.{pattern_of}
use Rattle.rn_declared.specs.Names.{declared_faults}
use Rattle.rn_declared.specs.link.Tables.{found_in}
use Rattle.rn_declared.specs.Declarations.{kind_faults}
use Rattle.rn_declared.proofs.FirstLemmas.{told_again}
use Rattle.rn_declared.proofs.ToldLemmas.{first_from-append}
use Rattle.rn_declared.proofs.ToldLemmas.{told_more}
use Rattle.rn_declared.proofs.PlaceLemmas.{pattern_found, last_more}
use Rattle.rn_declared.proofs.places.declare_vars.Goals as goal
use Rattle.rn_items.proofs.Lists.{map_more}

pub loop-var-preserved : goal.loop-var-preserved
loop-var-preserved c =
    let xs = c.args.vars.now in
    let i = c.loop-var.var-index in
    let x = c.var-item.result in
    record {
      patterns =
          c.in_ok-push.ensures.items
          ∙ ap (λ p. c.loop-var.patterns.items ++ p ∷ []) c.in_ok-pattern.ensures.pattern
          ∙ ap (λ ps. ps ++ pattern_of x.kind ∷ []) c.loop-var.invariant.patterns
          ∙ sym (map_more (λ (x : PVar). pattern_of x.kind) xs i x c.loop-var-test.true c.var-item.is);
      seen =
          record {
            told =
                ap (λ k. first_from k (kind_faults x.kind)) c.in_ok-pattern.ensures.told
                ∙ told_again c.loop-var.first.fault (kind_faults x.kind)
                ∙ sym c.in_ok-pattern.ensures.told;
            pattern =
                ap (λ ps. slice_get ps (length ps - 1)) c.in_ok-push.ensures.items
                ∙ last_more c.loop-var.patterns.items c.in_ok-pattern.pattern
                ∙ ap Some c.in_ok-pattern.ensures.pattern;
          };
      told =
          c.in_ok-pattern.ensures.told
          ∙ ap (λ k. first_from k (kind_faults x.kind)) c.loop-var.invariant.told
          ∙ told_more (λ (v : PVar). kind_faults v.kind) xs i x c.declare_all.new.first.fault c.loop-var-test.true c.var-item.is;
    }

pub returns-clause-told : goal.returns-clause-told
returns-clause-told c =
    let xs = c.args.vars.now in
    c.loop-var.invariant.told
    ∙ ap (λ ys. first_from c.declare_all.new.first.fault (flat_map (λ (v : PVar). kind_faults v.kind) ys))
    (take_all c.loop-var.var-index xs c.loop-var-test.false)
    ∙ ap (λ k. first_from k (flat_map (λ (v : PVar). kind_faults v.kind) xs)) c.in_ok-table.ensures.told
    ∙ sym
    (first_from-append (declared_faults most_vars (map (λ (x : PVar). x.name) xs)) (flat_map (λ (v : PVar). kind_faults v.kind) xs)
    c.args.first.now.fault)

pub returns-clause-found : goal.returns-clause-found
returns-clause-found c =
    let xs = c.args.vars.now in
    pattern_found (λ (x : PVar). x.name) (λ (x : PVar). x.kind) xs c.from_vec.result (found_in c.in_ok-table.table)
    (c.from_vec.ensures ∙ c.loop-var.invariant.patterns
    ∙ ap (map (λ (x : PVar). pattern_of x.kind)) (take_all c.loop-var.var-index xs c.loop-var-test.false))
    c.in_ok-table.ensures.found
