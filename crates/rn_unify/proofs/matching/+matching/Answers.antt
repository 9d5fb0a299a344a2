use Rattle.std.proofs.Common.{◌≡◌, ◌≤◌, ◌<◌, ◌+◌, ◌-◌, map, take, drop, get_or, length}
use Rattle.std.proofs.Common.{List, [], ◌∷◌, ◌++◌}
use Rattle.std.proofs.Common.{true, false, refl, sym, ◌∙◌, ap, subst, arith}
use Rattle.std.specs.Prelude.{◌↔◌}
use Rattle.std.proofs.lemmas.List.{drop-drop}
use Rattle.std.proofs.lemmas.Result.{IfOk-weaker}
use denote.Param.Weighed.{most}
use Rattle.rn_value.specs.declared.value.Value.{Value}
use Rattle.rn_value.specs.declared.value.Value.TheVariants as Value
use Rattle.rn_value.proofs.value.Value.TheLaws.{the_size}
use Rattle.rn_term.specs.declared.term.Term.TheVariants as T
use Rattle.rn_term.specs.Stores.{term_at}
use Rattle.rn_term.specs.Assignments.{Satisfies, value_at}
use Rattle.rn_term.proofs.Agreement.{leads-same}
use Rattle.rn_term.proofs.FillingSteps.{items_of-list}
use Rattle.rn_term.proofs.OneValue.{said}
use Rattle.rn_unify.specs.link.Equations.{Finds}
use Rattle.rn_term.specs.Forcing.{items_of}
use Rattle.rn_unify.specs.link.Rests.{elements_of, rest_value}
use Rattle.rn_unify.proofs.MatchingValues.{value_of_end, as_tuple, as_list, has_list, one_more}
use Rattle.rn_unify.proofs.MatchingValues.{back_no_deeper, part_no_deeper}
use Rattle.rn_unify.proofs.Findings.{finds_same, finds_same_result, finds_answer, finds_then}
use Rattle.rn_unify.proofs.Findings.{finds_both, finds_noted}
use Rattle.rn_unify.proofs.ListPrefixes.{from_on, from_on-drop, drop_within, prefix_read}
use Rattle.rn_unify.proofs.ListPrefixes.{ahead_within, ahead_wish, enough_values}
use Rattle.rn_unify.proofs.ListPrefixes.{wish_goes_on, some_ahead}
use Rattle.rn_unify.proofs.ListPositions.{built_at, rest-List, rest-start}
use Rattle.rn_unify.specs.declared.equation.Other.TheVariants as O
use Rattle.rn_unify.specs.link.Equations.{IsOther, left_other}
use Rattle.rn_unify.proofs.RestTerms.{last_of_all, left_is, left_stands, left_not_here}
use Rattle.rn_unify.proofs.matching.+matching.Goals as goal

pub match_value-returns-in_ok-value-in-Free : goal.match_value-returns-in_ok-value-in-Free
match_value-returns-in_ok-value-in-Free t c =
    let s = c.args.store.now in
    let e = c.follow-end.ensures in
    let end = c.follow-end.result in
    let v = c.in_ok-value-in-Free.value in
    let copied = c.in_ok-value-in-Free.ensures in
    let before = c.args.found.now.items in
    let after = c.note.new.found.items in
    let wish : List Value → Type 0 = λ vs. value_at vs c.args.id ≡ c.args.value.now in
    record {
      found = IfOk-weaker c.note.result _ (Finds s wish before after)
          (λ yes noted. finds_noted s wish before after end (O.Value v) yes noted.0
          noted.1
          (record {
            within = e.within;
            variable = sym c.term.ensures ∙ c.in-Free.is;
            unbound = e.end;
          })
          tt (λ to is. cc)
          (λ vs sat.
          let at = leads-same s vs c.args.id end sat e.leads in
          (λ is. sym at ∙ is ∙ sym copied, λ is. at ∙ is ∙ copied)))
          c.note.ensures.noted;
    }

pub match_value-returns-in-Atom : goal.match_value-returns-in-Atom
match_value-returns-in-Atom t c =
    let s = c.args.store.now in
    let has = value_of_end s c.args.id c.follow-end.result (T.Atom c.in-Atom.other)
    c.follow-end.ensures.leads c.follow-end.ensures.within (sym c.in-Atom.is ∙ c.term.ensures) in
    record {
      found = finds_answer s (λ vs. value_at vs c.args.id ≡ c.args.value.now)
          c.args.found.now.items c.same.result
          (λ vs sat. (
            λ yes. has vs sat ∙ c.same.ensures.0 yes,
            λ is. c.same.ensures.1 (sym (has vs sat) ∙ is),
          ));
    }

pub match_value-returns-in-Tuple-value : goal.match_value-returns-in-Tuple-value
match_value-returns-in-Tuple-value t c =
    let s = c.args.store.now in
    let ids = c.as_slice-in-Tuple-value.result.now in
    let parts = c.as_slice.result.now in
    let has = value_of_end s c.args.id c.follow-end.result (T.Tuple ids)
    c.follow-end.ensures.leads c.follow-end.ensures.within
    (ap (λ xs. T.Tuple xs) c.as_slice-in-Tuple-value.ensures ∙ sym c.in-Tuple.is
    ∙ c.term.ensures) in
    record {
      found = finds_same_result s (λ vs. value_at vs c.args.id ≡ c.args.value.now)
          (λ vs. map (value_at vs) ids ≡ parts) c.args.found.now.items
          c.match_parts.new.found.items c.match_parts.result
          (λ vs sat. as_tuple vs ids (value_at vs c.args.id) c.args.value.now parts (has vs sat)
          (c.in-Tuple-value.is
          ∙ ap (λ xs. Value.Tuple xs) (sym (c.as_slice.ensures ∙ c.deref.ensures))))
          c.match_parts.ensures.found;
    }

pub match_value-returns-in_default-value : goal.match_value-returns-in_default-value
match_value-returns-in_default-value t c =
    let has = value_of_end c.args.store.now c.args.id c.follow-end.result (T.Tuple c.in-Tuple.ids)
    c.follow-end.ensures.leads c.follow-end.ensures.within (sym c.in-Tuple.is ∙ c.term.ensures) in
    record {
      found = λ vs sat wish. c.in_default-value.not-Tuple (map (value_at vs) c.in-Tuple.ids)
          (sym wish ∙ has vs sat);
    }

pub match_value-returns-in-List : goal.match_value-returns-in-List
match_value-returns-in-List t c =
    let s = c.args.store.now in
    let end = c.follow-end.result in
    let value = c.args.value.now in
    let parts = c.as_slice-in-List.result.now in
    let has = value_of_end s c.args.id end c.term.result.now c.follow-end.ensures.leads
    c.follow-end.ensures.within c.term.ensures in
    let same : (vs : List Value) → Satisfies s vs →
    (value_at vs c.args.id ≡ value) ↔ (items_of (value_at vs end) ≡ parts) =
    λ vs sat. subst (λ v. (value_at vs c.args.id ≡ value) ↔ (items_of v ≡ parts))
    (leads-same s vs c.args.id end sat c.follow-end.ensures.leads)
    (as_list (value_at vs c.args.id) value parts
    (has_list vs c.term.result.now (value_at vs c.args.id) (has vs sat)
    c.in_default.not-Free c.in_default.not-Atom c.in_default.not-Tuple)
    (c.in-List.is
    ∙ ap (λ xs. Value.List xs) (sym (c.as_slice-in-List.ensures ∙ c.deref-in-List.ensures)))) in
    record {
      found = finds_same_result s (λ vs. value_at vs c.args.id ≡ value)
          (λ vs. items_of (value_at vs end) ≡ parts) c.args.found.now.items
          c.match_rest.new.found.items c.match_rest.result same
          c.match_rest.ensures.found;
    }

pub match_value-returns-in_default-value-2 : goal.match_value-returns-in_default-value-2
match_value-returns-in_default-value-2 t c =
    let has = value_of_end c.args.store.now c.args.id c.follow-end.result c.term.result.now
    c.follow-end.ensures.leads c.follow-end.ensures.within c.term.ensures in
    record {
      found = λ vs sat wish.
          let list = has_list vs c.term.result.now (value_at vs c.args.id) (has vs sat)
          c.in_default.not-Free c.in_default.not-Atom c.in_default.not-Tuple in
          c.in_default-value-2.not-List list.0 (sym wish ∙ list.1);
    }

pub match_parts-loop-k-preserved : goal.match_parts-loop-k-preserved
match_parts-loop-k-preserved t c =
    let s = c.args.store.now in
    let ids = c.args.ids.now in
    let values = c.args.values.now in
    let k = c.loop-k.k in
    let value = c.index-values-k.result in
    let before = c.args.found.now.items in
    let middle = c.loop-k.found.items in
    let after = c.match_value.new.found.items in
    let here : List Value → Type 0 = λ vs. value_at vs (get_or ids k 0) ≡ value in
    let so_far : List Value → Type 0 = λ vs. map (value_at vs) (take k ids) ≡ take k values in
    let answer : Finds s here middle after true =
    subst (Finds s here middle after) c.if-not-branch.false c.in_ok-match_value.ensures.found in
    let small : k < length values = c.loop-k-test.true in
    let within : k < length ids = omega (arith, small, c.if-values-ids.false) in
    let read = c.index-values-k.is in
    finds_same s (λ vs. map (value_at vs) (take (k + 1) ids) ≡ take (k + 1) values)
    (λ vs. so_far vs × here vs) before after true
    (λ vs sat.
    let more = one_more (value_at vs) ids values k 0 value within small in (
      λ is. ((more.0 is).0, (more.0 is).1 ∙ sym read),
      λ both. more.1 (both.0, both.1 ∙ read),
    ))
    (finds_both s so_far here before middle after c.loop-k.invariant answer)

pub match_rest-returns-then-values-count : goal.match_rest-returns-then-values-count
match_rest-returns-then-values-count t c =
    let s = c.args.store.now in
    let inv = c.loop-ids.invariant in
    let now = c.loop-ids.found.items in
    let prefix = prefix_read s c.loop-ids.rest c.term.result.now c.in-Cons.ids
    c.in-Cons.field-1 c.len.result c.in-Cons.ids inv.rest c.term.ensures c.in-Cons.is refl
    c.len.ensures in
    record {
      found = inv.whole now false (λ vs sat wish.
          let enough = enough_values prefix vs c.loop-ids.values.now sat wish in
          omega (arith, enough, c.if-values-count.true));
    }

pub match_rest-match_parts-requires : goal.match_rest-match_parts-requires
match_rest-match_parts-requires t c =
    let inv = c.loop-ids.invariant in
    let prefix = prefix_read c.args.store.now c.loop-ids.rest c.term.result.now c.in-Cons.ids
    c.in-Cons.field-1 c.len.result c.deref.result.now inv.rest c.term.ensures c.in-Cons.is
    c.deref.ensures c.len.ensures in
    let deep : most the_size c.split_at.result.0.now ≤ most the_size c.args.values.now =
    rw (c.split_at.ensures.front, inv.behind.1)
    (part_no_deeper the_size (c.len.result - c.loop-ids.rest.from) inv.behind.0
    c.args.values.now) in
    (omega (arith, deep, c.decreases), ahead_within prefix c.requires.kept)

pub match_rest-returns-then-not-branch : goal.match_rest-returns-then-not-branch
match_rest-returns-then-not-branch t c =
    let s = c.args.store.now in
    let inv = c.loop-ids.invariant in
    let values = c.loop-ids.values.now in
    let prefix = prefix_read s c.loop-ids.rest c.term.result.now c.in-Cons.ids c.in-Cons.field-1
    c.len.result c.deref.result.now inv.rest c.term.ensures c.in-Cons.is c.deref.ensures
    c.len.ensures in
    let part = from_on c.loop-ids.rest.from c.deref.result.now in
    let never : (vs : List Value) → Satisfies s vs →
    (map (value_at vs) part ≡ c.split_at.result.0.now) → ⊥ =
    subst (Finds s (λ vs. map (value_at vs) part ≡ c.split_at.result.0.now)
    c.loop-ids.found.items c.match_parts.new.found.items)
    c.if-not-branch.true c.in_ok-match_parts-in-Cons.ensures.found in
    record {
      found = inv.whole c.match_parts.new.found.items false (λ vs sat wish.
          never vs sat (ahead_wish prefix vs values sat wish ∙ sym c.split_at.ensures.front));
    }

pub match_rest-loop-ids-smaller : goal.match_rest-loop-ids-smaller
match_rest-loop-ids-smaller t c =
    let prefix = prefix_read c.args.store.now c.loop-ids.rest c.term.result.now c.in-Cons.ids
    c.in-Cons.field-1 c.len.result c.in-Cons.ids c.loop-ids.invariant.rest c.term.ensures
    c.in-Cons.is refl c.len.ensures in
    omega (arith, c.split_at.ensures.back_len, some_ahead prefix)

pub match_rest-loop-ids-preserved : goal.match_rest-loop-ids-preserved
match_rest-loop-ids-preserved t c =
    let s = c.args.store.now in
    let inv = c.loop-ids.invariant in
    let rest = c.loop-ids.rest in
    let next = c.advance-rest.result in
    let values = c.loop-ids.values.now in
    let count = c.len.result - rest.from in
    let part = from_on rest.from c.deref.result.now in
    let first = c.split_at.result.0.now in
    let second = c.split_at.result.1.now in
    let back = c.split_at.ensures.back in
    let now = c.loop-ids.found.items in
    let middle = c.match_parts.new.found.items in
    let prefix = prefix_read s rest c.term.result.now c.in-Cons.ids c.in-Cons.field-1 c.len.result
    c.deref.result.now inv.rest c.term.ensures c.in-Cons.is c.deref.ensures c.len.ensures in
    let here : List Value → Type 0 = λ vs. map (value_at vs) part ≡ first in
    let behind : List Value → Type 0 = λ vs. rest_value vs next ≡ second in
    let answer : Finds s here now middle true =
    subst (Finds s here now middle) c.if-not-branch.false
    c.in_ok-match_parts-in-Cons.ensures.found in
    let both : (vs : List Value) → Satisfies s vs →
    (rest_value vs rest ≡ values) ↔ (here vs × behind vs) =
    λ vs sat.
    let on : here vs → (rest_value vs next ≡ drop count values) ↔ (rest_value vs rest ≡ values) =
    λ is. wish_goes_on prefix vs values next sat (is ∙ c.split_at.ensures.front)
    (c.advance-rest.ensures.passes vs sat) in (
      λ wish.
          let is : here vs =
          ahead_wish prefix vs values sat wish ∙ sym c.split_at.ensures.front in
          (is, (on is).1 wish ∙ sym back),
      λ two. (on two.0).0 (two.1 ∙ back),
    ) in
    record {
      rest = c.advance-rest.ensures.rest;
      whole = λ after yes found.
          inv.whole after yes (finds_same s (λ vs. rest_value vs rest ≡ values)
          (λ vs. here vs × behind vs) now after yes both
          (finds_then s here behind now middle after yes answer found));
      behind = (
        inv.behind.0 + count,
        back ∙ ap (drop count) inv.behind.1 ∙ drop-drop count inv.behind.0 c.args.values.now,
      );
    }

pub match_rest-match_parts-requires-in-List : goal.match_rest-match_parts-requires-in-List
match_rest-match_parts-requires-in-List t c =
    let s = c.args.store.now in
    let inv = c.loop-ids.invariant in
    let rest = c.loop-ids.rest in
    let deep : most the_size c.loop-ids.values.now ≤ most the_size c.args.values.now =
    rw inv.behind.1 (back_no_deeper the_size inv.behind.0 c.args.values.now) in (
      omega (arith, deep, c.decreases),
      drop_within s rest c.in-List.ids (from_on rest.from c.deref-in-List.result.now)
          inv.rest.within
          (built_at s rest.id (T.List c.in-List.ids) c.requires.kept inv.rest.within
          (sym c.term.ensures ∙ c.in-List.is))
          (from_on-drop rest.from c.deref-in-List.result.now c.in-List.ids
          c.deref-in-List.ensures),
    )

pub match_rest-returns-in-List : goal.match_rest-returns-in-List
match_rest-returns-in-List t c =
    let s = c.args.store.now in
    let inv = c.loop-ids.invariant in
    let rest = c.loop-ids.rest in
    let values = c.loop-ids.values.now in
    let now = c.loop-ids.found.items in
    let after = c.match_parts-in-List.new.found.items in
    let part = from_on rest.from c.deref-in-List.result.now in
    let here : List Value → Type 0 = λ vs. rest_value vs rest ≡ values in
    let left : (vs : List Value) → Satisfies s vs → rest_value vs rest ≡ map (value_at vs) part =
    λ vs sat. rest-List s vs rest c.in-List.ids sat inv.rest.within
    (sym c.term.ensures ∙ c.in-List.is)
    ∙ ap (map (value_at vs)) (sym (from_on-drop rest.from c.deref-in-List.result.now
    c.in-List.ids c.deref-in-List.ensures)) in
    record {
      found = IfOk-weaker c.match_parts-in-List.result
          (Finds s here now after)
          (Finds s (λ vs. rest_value vs c.args.rest ≡ c.args.values.now)
          c.args.found.now.items after)
          (λ yes found. inv.whole after yes found)
          (finds_same_result s here (λ vs. map (value_at vs) part ≡ values) now after
          c.match_parts-in-List.result
          (λ vs sat. (λ is. sym (left vs sat) ∙ is, λ is. left vs sat ∙ is))
          c.match_parts-in-List.ensures.found);
    }

pub match_rest-returns-in-Atom : goal.match_rest-returns-in-Atom
match_rest-returns-in-Atom t c =
    let s = c.args.store.now in
    let inv = c.loop-ids.invariant in
    let rest = c.loop-ids.rest in
    let values = c.loop-ids.values.now in
    let now = c.loop-ids.found.items in
    let list = c.in-Atom.list in
    let at : term_at s rest.id ≡ T.Atom list = sym c.term.ensures ∙ c.in-Atom.is in
    let left : (vs : List Value) → Satisfies s vs → rest_value vs rest ≡ c.items.result.now =
    λ vs sat. rest-start s vs rest inv.rest (ap elements_of at)
    ∙ ap items_of (said s vs rest.id (T.Atom list) sat inv.rest.within at ∙ c.items.ensures)
    ∙ items_of-list c.items.result.now in
    record {
      found = inv.whole now c.same_all.result
          (finds_answer s (λ vs. rest_value vs rest ≡ values) now c.same_all.result
          (λ vs sat. (
            λ yes. left vs sat ∙ c.same_all.ensures.0 yes,
            λ is. c.same_all.ensures.1 (sym (left vs sat) ∙ is),
          )));
    }

pub match_rest-returns-in-Free : goal.match_rest-returns-in-Free
match_rest-returns-in-Free t c =
    let s = c.args.store.now in
    let rest = c.loop-ids.rest in
    let values = c.loop-ids.values.now in
    let inv = c.loop-ids.invariant in
    let position = inv.rest in
    let now = c.loop-ids.found.items in
    let after = c.note.new.found.items in
    let source = c.args.source in
    let all = c.args.values.now in
    let from = length all - length values in
    let other = left_other source from values in
    let last = last_of_all inv.behind.0 all values inv.behind.1 in
    let free : term_at s rest.id ≡ T.Free = sym c.term.ensures ∙ c.in-Free.is in
    let here : List Value → Type 0 = λ vs. rest_value vs rest ≡ values in
    let same : (vs : List Value) → Satisfies s vs →
    here vs ↔ IsOther other vs (value_at vs rest.id) =
    λ vs sat.
    let start = rest-start s vs rest position (ap elements_of free) in
    let lists =
    as_list (value_at vs rest.id) (Value.List values) values (position.list vs sat) refl in
    let left = left_is s source all values from c.requires.source last.1 (omega arith) vs
    (value_at vs rest.id) sat in (
      λ is. left.0 (lists.1 (sym start ∙ is)),
      λ is. start ∙ lists.0 (left.1 is),
    ) in
    let left = c.in_ok-left-in-Free in
    record {
      found = IfOk-weaker c.note.result _
          (Finds s (λ vs. rest_value vs c.args.rest ≡ c.args.values.now)
          c.args.found.now.items after)
          (λ yes noted. inv.whole after yes (finds_noted s here now after rest.id other yes noted.0
          (subst (λ o. after ≡ now ++ record { var = rest.id; other = o } ∷ []) left.ensures
          noted.1)
          (record { within = position.within; variable = free; unbound = position.end })
          (left_stands s source all values from c.requires.source last.1 (omega arith))
          (λ to. left_not_here source from to values) same))
          c.note.ensures.noted;
    }
