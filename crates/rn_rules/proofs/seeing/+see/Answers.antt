-- What is seen of lists, of lists with a tail, of operators and of lists of expressions.
use Rattle.std.proofs.Common.{◌≡◌, ◌∙◌, ◌++◌, ◌&&◌, [], ◌∷◌, ap, sym, map, take, List, rules}
use Rattle.std.proofs.lemmas.List.{map-append}
use Rattle.rn_inscript.specs.declared.exprs.PForm.TheVariants as F
use Rattle.rn_declared.specs.declared.pattern.Pattern.TheVariants as Form
use Rattle.rn_declared.specs.declared.fault.Rule.TheVariants as Rule
use Rattle.std.specs.Prelude.{flat_map, not}
use Rattle.rn_model.specs.Limits.{most_parts}
use Rattle.rn_declared.specs.Patterns.{share}
use Rattle.rn_declared.specs.Faults.{first_from, broken_if, past_limit}
use Rattle.rn_rules.specs.Expressions.{Seen, seen_of, whole, with_elements, listed, operand_faults, operands_faults, is_whole}
use Rattle.rn_rules.specs.link.Sights.{where_of, sight_of, joined, are_apart, listed_sight, fits_pattern, tuple_sight}
use Rattle.rn_rules.proofs.SightLemmas.{tuple_is, tuple_told, joined_is, joined_told, listed_is, listed_faults}
use Rattle.rn_rules.proofs.SightLemmas.{seen_more, all_told, elements_more, operand_whole, operand_told}
use Rattle.rn_rules.proofs.SightLemmas.{operands_told, operands_whole}
use Rattle.rn_rules.proofs.SeenForms.{seen_list, seen_cons, seen_op}
use Rattle.rn_rules.proofs.seeing.+see.Goals as goal

pub see-returns-in_ok-as_list-in-List-clause-sight :
    goal.see-returns-in_ok-as_list-in-List-clause-sight
see-returns-in_ok-as_list-in-List-clause-sight g t c =
    let place = where_of c.args.here.now in
    let e = c.args.expr.now in
    let es = c.as_slice-in-List.result.now in
    let before : Seen = with_elements (whole e.spot Form.Any) (map (λ s. s place) (map seen_of es)) in
    c.in_ok-as_list-in-List.ensures
    ∙ ap listed_sight c.in_ok-seen-in-List.ensures.sight
    ∙ listed_is before
    ∙ ap sight_of (sym (seen_list e es place (c.in-List.is ∙ ap F.List (sym c.as_slice-in-List.ensures))))

pub see-returns-in_ok-as_list-in-List-clause-told :
    goal.see-returns-in_ok-as_list-in-List-clause-told
see-returns-in_ok-as_list-in-List-clause-told g t c =
    let place = where_of c.args.here.now in
    let e = c.args.expr.now in
    let es = c.as_slice-in-List.result.now in
    let before : Seen = with_elements (whole e.spot Form.Any) (map (λ s. s place) (map seen_of es)) in
    c.in_ok-seen-in-List.ensures.told
    ∙ ap (first_from c.args.first.now.fault)
    (sym (listed_faults before)
    ∙ ap (λ s. s.faults) (sym (seen_list e es place (c.in-List.is ∙ ap F.List (sym c.as_slice-in-List.ensures)))))

pub see-returns-in_ok-with_element-in-Cons-clause-sight :
    goal.see-returns-in_ok-with_element-in-Cons-clause-sight
see-returns-in_ok-with_element-in-Cons-clause-sight g t c =
    let place = where_of c.args.here.now in
    let e = c.args.expr.now in
    let es = c.as_slice-in-Cons.result.now in
    let before : Seen = listed (with_elements (whole e.spot Form.Any) (map (λ s. s place) (map seen_of es))) in
    let list : c.in_ok-before-in-Cons.before ≡ sight_of before =
    c.in_ok-before-in-Cons.ensures
    ∙ ap listed_sight c.in_ok-seen-in-Cons.ensures.sight
    ∙ listed_is (with_elements (whole e.spot Form.Any) (map (λ s. s place) (map seen_of es))) in
    let form : e.form ≡ F.Cons es c.get.result.now =
    c.in-Cons.is
    ∙ ap (λ xs. F.Cons xs c.in-Cons.tail) (sym c.as_slice-in-Cons.ensures)
    ∙ ap (F.Cons es) (sym c.get.ensures) in
    c.in_ok-with_element-in-Cons.ensures.sight
    ∙ ap (λ b. joined b c.in_ok-end-in-Cons.end) list
    ∙ ap (joined (sight_of before)) c.in_ok-end-in-Cons.ensures.sight
    ∙ joined_is before (seen_of c.get.result.now place)
    ∙ ap sight_of (sym (seen_cons e es c.get.result.now place form))

pub see-returns-in_ok-with_element-in-Cons-clause-told :
    goal.see-returns-in_ok-with_element-in-Cons-clause-told
see-returns-in_ok-with_element-in-Cons-clause-told g t c =
    let place = where_of c.args.here.now in
    let e = c.args.expr.now in
    let known = c.args.first.now.fault in
    let es = c.as_slice-in-Cons.result.now in
    let elements : Seen = with_elements (whole e.spot Form.Any) (map (λ s. s place) (map seen_of es)) in
    let before : Seen = listed elements in
    let last : Seen = seen_of c.get.result.now place in
    let list : c.in_ok-before-in-Cons.before ≡ sight_of before =
    c.in_ok-before-in-Cons.ensures
    ∙ ap listed_sight c.in_ok-seen-in-Cons.ensures.sight
    ∙ listed_is elements in
    let form : e.form ≡ F.Cons es c.get.result.now =
    c.in-Cons.is
    ∙ ap (λ xs. F.Cons xs c.in-Cons.tail) (sym c.as_slice-in-Cons.ensures)
    ∙ ap (F.Cons es) (sym c.get.ensures) in
    c.in_ok-with_element-in-Cons.ensures.told
    ∙ ap (λ k. first_from k (broken_if (are_apart c.in_ok-before-in-Cons.before c.in_ok-end-in-Cons.end) Rule.Kinds c.in_ok-end-in-Cons.end.spot))
    (c.in_ok-end-in-Cons.ensures.told
    ∙ ap (λ k. first_from k last.faults)
    (c.in_ok-seen-in-Cons.ensures.told ∙ ap (first_from known) (sym (listed_faults elements))))
    ∙ ap (λ b. first_from (first_from (first_from known before.faults) last.faults) (broken_if (are_apart b c.in_ok-end-in-Cons.end) Rule.Kinds c.in_ok-end-in-Cons.end.spot)) list
    ∙ ap (λ s. first_from (first_from (first_from known before.faults) last.faults) (broken_if (are_apart (sight_of before) s) Rule.Kinds s.spot)) c.in_ok-end-in-Cons.ensures.sight
    ∙ joined_told g.row.N.Denot known before last
    ∙ ap (λ s. first_from known s.faults) (sym (seen_cons e es c.get.result.now place form))

pub see-returns-in_ok-right-in-Op-clause-sight : goal.see-returns-in_ok-right-in-Op-clause-sight
see-returns-in_ok-right-in-Op-clause-sight g t c =
    let place = where_of c.args.here.now in
    let e = c.args.expr.now in
    let a : Seen = seen_of c.get-in-Op.result.now place in
    let b : Seen = seen_of c.get-in-Op-2.result.now place in
    let form : e.form ≡ F.Op c.in-Op.field-0 c.get-in-Op.result.now c.get-in-Op-2.result.now =
    c.in-Op.is
    ∙ ap (λ x. F.Op c.in-Op.field-0 x c.in-Op.b) (sym c.get-in-Op.ensures)
    ∙ ap (F.Op c.in-Op.field-0 c.get-in-Op.result.now) (sym c.get-in-Op-2.ensures) in
    let both : (c.in_ok-left-in-Op.left && c.in_ok-right-in-Op.right) ≡ is_whole (operands_faults a b) =
    ap (λ w. w && c.in_ok-right-in-Op.right) c.in_ok-left-in-Op.ensures.whole
    ∙ ap (λ w. is_whole (operand_faults a) && w) c.in_ok-right-in-Op.ensures.whole
    ∙ operands_whole a b in
    ap (λ p. record { spot = e.spot; whole = c.in_ok-left-in-Op.left && c.in_ok-right-in-Op.right; pattern = p }) c.int-in-Op.ensures
    ∙ ap (λ w. record { spot = e.spot; whole = w; pattern = Form.Int }) both
    ∙ ap sight_of (sym (seen_op e c.in-Op.field-0 c.get-in-Op.result.now c.get-in-Op-2.result.now place form))

pub see-returns-in_ok-right-in-Op-clause-told : goal.see-returns-in_ok-right-in-Op-clause-told
see-returns-in_ok-right-in-Op-clause-told g t c =
    let place = where_of c.args.here.now in
    let e = c.args.expr.now in
    let known = c.args.first.now.fault in
    let a : Seen = seen_of c.get-in-Op.result.now place in
    let b : Seen = seen_of c.get-in-Op-2.result.now place in
    let form : e.form ≡ F.Op c.in-Op.field-0 c.get-in-Op.result.now c.get-in-Op-2.result.now =
    c.in-Op.is
    ∙ ap (λ x. F.Op c.in-Op.field-0 x c.in-Op.b) (sym c.get-in-Op.ensures)
    ∙ ap (F.Op c.in-Op.field-0 c.get-in-Op.result.now) (sym c.get-in-Op-2.ensures) in
    c.in_ok-right-in-Op.ensures.told
    ∙ ap (λ k. first_from k (operand_faults b)) c.in_ok-left-in-Op.ensures.told
    ∙ operands_told known a b
    ∙ ap (λ s. first_from known s.faults) (sym (seen_op e c.in-Op.field-0 c.get-in-Op.result.now c.get-in-Op-2.result.now place form))

pub see_all-loop-expr-preserved : goal.see_all-loop-expr-preserved
see_all-loop-expr-preserved g t c =
    let place = where_of c.args.here.now in
    let es = c.args.exprs.now in
    let i = c.loop-expr.expr-index in
    let e = c.expr-item.result in
    let before : List Seen = map (λ s. s place) (map seen_of (take i es)) in
    record {
      kept =
          c.in_ok-push.ensures.items
          ∙ ap (λ xs. xs ++ c.in_ok-see.field-0 ∷ []) c.loop-expr.invariant.kept
          ∙ ap (λ s. map sight_of before ++ s ∷ []) c.in_ok-see.ensures.sight
          ∙ sym (map-append sight_of before (seen_of e place ∷ []))
          ∙ ap (map sight_of) (sym (seen_more es place i e c.loop-expr-test.true c.expr-item.is));
      told =
          c.in_ok-see.ensures.told
          ∙ ap (λ k. first_from k (seen_of e place).faults) c.loop-expr.invariant.told
          ∙ all_told es place i e c.args.first.now.fault c.loop-expr-test.true c.expr-item.is;
    }

pub see_elements-loop-element-init : goal.see_elements-loop-element-init
unfolding with_elements
see_elements-loop-element-init g t c = search rules

pub see_elements-loop-element-preserved : goal.see_elements-loop-element-preserved
see_elements-loop-element-preserved g t c =
    let place = where_of c.args.here.now in
    let es = c.args.elements.now in
    let i = c.loop-element.element-index in
    let e = c.element-item.result in
    let start : Seen = whole c.args.spot Form.Any in
    let before : Seen = with_elements start (map (λ s. s place) (map seen_of (take i es))) in
    let known = c.args.first.now.fault in
    let more = elements_more es place i e start c.loop-element-test.true c.element-item.is in
    record {
      kept =
          c.in_ok-before.ensures.sight
          ∙ ap (λ b. joined b c.in_ok-sight.sight) c.loop-element.invariant.kept
          ∙ ap (joined (sight_of before)) c.in_ok-sight.ensures.sight
          ∙ joined_is before (seen_of e place)
          ∙ ap sight_of (sym more);
      told =
          c.in_ok-before.ensures.told
          ∙ ap (λ k. first_from k (broken_if (are_apart c.loop-element.before c.in_ok-sight.sight) Rule.Kinds c.in_ok-sight.sight.spot))
          (c.in_ok-sight.ensures.told ∙ ap (λ k. first_from k (seen_of e place).faults) c.loop-element.invariant.told)
          ∙ ap (λ b. first_from (first_from (first_from known before.faults) (seen_of e place).faults) (broken_if (are_apart b c.in_ok-sight.sight) Rule.Kinds c.in_ok-sight.sight.spot)) c.loop-element.invariant.kept
          ∙ ap (λ s. first_from (first_from (first_from known before.faults) (seen_of e place).faults) (broken_if (are_apart (sight_of before) s) Rule.Kinds s.spot)) c.in_ok-sight.ensures.sight
          ∙ joined_told g.row.N.Denot known before (seen_of e place)
          ∙ ap (λ s. first_from known s.faults) (sym more);
    }

pub see_operand-returns-clause-whole : goal.see_operand-returns-clause-whole
see_operand-returns-clause-whole g t c =
    let place = where_of c.args.here.now in
    c.fits_int.ensures.fits
    ∙ ap (λ s. fits_pattern s Form.Int) c.in_ok-sight.ensures.sight
    ∙ operand_whole g.row.N.Denot (seen_of c.args.operand.now place)

pub see_operand-returns-clause-told : goal.see_operand-returns-clause-told
see_operand-returns-clause-told g t c =
    let place = where_of c.args.here.now in
    let a : Seen = seen_of c.args.operand.now place in
    let known = c.args.first.now.fault in
    c.fits_int.ensures.told
    ∙ ap (λ k. first_from k (broken_if (c.in_ok-sight.sight.whole && not (share Form.Int c.in_ok-sight.sight.pattern)) Rule.Kinds c.in_ok-sight.sight.spot)) c.in_ok-sight.ensures.told
    ∙ ap (λ s. first_from (first_from known a.faults) (broken_if (s.whole && not (share Form.Int s.pattern)) Rule.Kinds s.spot)) c.in_ok-sight.ensures.sight
    ∙ operand_told known a

pub see_tuple-returns-clause-sight : goal.see_tuple-returns-clause-sight
see_tuple-returns-clause-sight g t c =
    let place = where_of c.args.here.now in
    let seen : List Seen = map (λ s. s place) (map seen_of c.args.parts.now) in
    c.in_ok-as_tuple.ensures.sight
    ∙ ap (tuple_sight c.args.spot) c.in_ok-seen.ensures.sights
    ∙ tuple_is c.args.spot seen

pub see_tuple-returns-clause-told : goal.see_tuple-returns-clause-told
see_tuple-returns-clause-told g t c =
    let place = where_of c.args.here.now in
    let seen : List Seen = map (λ s. s place) (map seen_of c.args.parts.now) in
    let known = c.args.first.now.fault in
    c.in_ok-as_tuple.ensures.told
    ∙ ap (λ k. first_from k (past_limit most_parts (map (λ s. s.spot) c.in_ok-seen.seen.items))) c.in_ok-seen.ensures.told
    ∙ ap (λ ss. first_from (first_from known (flat_map (λ e. e.faults) seen)) (past_limit most_parts (map (λ s. s.spot) ss))) c.in_ok-seen.ensures.sights
    ∙ tuple_told _ known c.args.spot seen
