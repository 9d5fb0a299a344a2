-- One more, and the end of all.
use Rattle.std.proofs.Common.{◌∙◌, ap, sym, map, ◌++◌, ◌∷◌, []}
use Rattle.std.proofs.lemmas.List.{take_all}
use Rattle.std.specs.Prelude.{flat_map, is_some}
use Rattle.rn_model.specs.Limits.{most_places}
use Rattle.rn_net.specs.declared.plain.PPlace.{PPlace}
use Rattle.rn_declared.specs.Faults.{first_from}
use Rattle.rn_declared.specs.Patterns.{pattern_of}
use Rattle.rn_declared.specs.Names.{declared_faults}
use Rattle.rn_declared.specs.link.Tables.{found_in}
use Rattle.rn_declared.specs.Declarations.{place_faults}
use Rattle.rn_declared.proofs.ToldLemmas.{first_from-append}
use Rattle.rn_declared.proofs.ToldLemmas.{told_more}
use Rattle.rn_declared.proofs.PlaceLemmas.{pattern_found, capacity_found}
use Rattle.rn_declared.proofs.places.declare_places.Goals as goal
use Rattle.rn_items.proofs.Lists.{map_more}

pub loop-place-preserved : goal.loop-place-preserved
loop-place-preserved c =
    let xs = c.args.places.now in
    let i = c.loop-place.place-index in
    let x = c.place-item.result in
    record {
      patterns =
          c.in_ok-push.ensures.items
          ∙ ap (λ p. c.loop-place.patterns.items ++ p ∷ []) c.in_ok-pattern.ensures
          ∙ ap (λ ps. ps ++ pattern_of x.kind ∷ []) c.loop-place.invariant.patterns
          ∙ sym (map_more (λ (x : PPlace). pattern_of x.kind) xs i x c.loop-place-test.true c.place-item.is);
      capped =
          c.in_ok-push-2.ensures.items
          ∙ ap (λ b. c.loop-place.capped.items ++ b ∷ []) c.is_some.ensures
          ∙ ap (λ bs. bs ++ is_some x.max ∷ []) c.loop-place.invariant.capped
          ∙ sym (map_more (λ (x : PPlace). is_some x.max) xs i x c.loop-place-test.true c.place-item.is);
      told =
          c.see_place.ensures c.in_ok-pattern.ensures
          ∙ ap (λ k. first_from k (place_faults x)) c.loop-place.invariant.told
          ∙ told_more place_faults xs i x c.declare_all.new.first.fault c.loop-place-test.true c.place-item.is;
    }

pub returns-clause-told : goal.returns-clause-told
returns-clause-told c =
    let xs = c.args.places.now in
    c.loop-place.invariant.told
    ∙ ap (λ ys. first_from c.declare_all.new.first.fault (flat_map place_faults ys))
    (take_all c.loop-place.place-index xs c.loop-place-test.false)
    ∙ ap (λ k. first_from k (flat_map place_faults xs)) c.in_ok-table.ensures.told
    ∙ sym
    (first_from-append (declared_faults most_places (map (λ (x : PPlace). x.name) xs)) (flat_map place_faults xs)
    c.args.first.now.fault)

pub returns-clause-found : goal.returns-clause-found
returns-clause-found c =
    let xs = c.args.places.now in
    pattern_found (λ (x : PPlace). x.name) (λ (x : PPlace). x.kind) xs c.from_vec-patterns.result (found_in c.in_ok-table.table)
    (c.from_vec-patterns.ensures ∙ c.loop-place.invariant.patterns
    ∙ ap (map (λ (x : PPlace). pattern_of x.kind)) (take_all c.loop-place.place-index xs c.loop-place-test.false))
    c.in_ok-table.ensures.found

pub returns-clause-capped : goal.returns-clause-capped
returns-clause-capped c =
    let xs = c.args.places.now in
    capacity_found xs c.from_vec.result (found_in c.in_ok-table.table)
    (c.from_vec.ensures ∙ c.loop-place.invariant.capped
    ∙ ap (map (λ (x : PPlace). is_some x.max)) (take_all c.loop-place.place-index xs c.loop-place-test.false))
    c.in_ok-table.ensures.found
