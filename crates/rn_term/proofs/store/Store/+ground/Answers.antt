use Rattle.std.proofs.Common.{arith, sym, ◌∙◌}
use Rattle.std.proofs.lemmas.Result.{IfOk-weaker}
use Rattle.rn_term.specs.declared.term.Term.TheVariants as T
use Rattle.rn_term.specs.Stores.{Leads}
use Rattle.rn_term.specs.Forcing.{IsAnswer}
use Rattle.rn_term.proofs.Following.{extent-leads}
use Rattle.rn_term.proofs.GroundingLemmas.{smaller_elements, answer_all, answer_more}
use Rattle.rn_term.proofs.GroundingLemmas.{free_answer, free_at_end}
use Rattle.rn_term.proofs.GroundingLemmas.{answer_before, tuple_is_forced, atom_is_forced}
use Rattle.rn_term.proofs.ListsReadOn.{read_none, read_on, read_less, read_all, read_last}
use Rattle.rn_term.proofs.ListsReadOn.{last_is_list, free_in_rest, rest_is_no_tuple}
use Rattle.rn_term.proofs.ReadingLemmas.{list_is_list, cons_is_list}
use Rattle.rn_term.proofs.store.Store.+ground.Goals as goal

pub list_value-loop-ids-init : goal.list_value-loop-ids-init
list_value-loop-ids-init t c =
    read_none _ _ _ c.requires.within c.requires.list c.new-values.ensures.items

pub list_value-values_onto-requires : goal.list_value-values_onto-requires
list_value-values_onto-requires t c =
    let to = c.follow-end.ensures in
    let parts =
    smaller_elements c.args.self.now c.loop-ids.rest c.follow-end.result
    (T.Cons c.in-Cons.ids c.in-Cons.tail) c.as_slice.result.now to.kept c.loop-ids.invariant.within
    to.leads to.within (sym c.in-Cons.is ∙ c.term.ensures) c.as_slice.ensures in
    (omega (arith, parts.0, c.loop-ids.invariant.no_larger, c.decreases), parts.1)

pub list_value-returns-then-not-branch : goal.list_value-returns-then-not-branch
list_value-returns-then-not-branch t c = record {
  answer = free_in_rest _ _ _ _ c.loop-ids.invariant
      (free_answer _ _ _ (T.Cons c.in-Cons.ids c.in-Cons.tail) _ _ _ _ c.follow-end.ensures.leads
      (sym c.in-Cons.is ∙ c.term.ensures) c.as_slice.ensures
      c.in_ok-values_onto-in-Cons.ensures.answer c.if-not-branch.true);
}

pub list_value-loop-ids-smaller : goal.list_value-loop-ids-smaller
list_value-loop-ids-smaller t c =
    let to = c.follow-end.ensures in
    read_less _ _ _ c.in-Cons.ids _ to.kept c.loop-ids.invariant.within to.leads to.within
    (sym c.in-Cons.is ∙ c.term.ensures)

pub list_value-loop-ids-preserved : goal.list_value-loop-ids-preserved
list_value-loop-ids-preserved t c =
    let to = c.follow-end.ensures in
    read_on _ _ _ _ _ c.in-Cons.ids _ _ to.kept c.loop-ids.invariant to.leads to.within
    (sym c.in-Cons.is ∙ c.term.ensures)
    (answer_all _ _ _ _ _ _ c.in_ok-values_onto-in-Cons.ensures.answer c.as_slice.ensures
    c.if-not-branch.false)

pub list_value-values_onto-requires-in-List : goal.list_value-values_onto-requires-in-List
list_value-values_onto-requires-in-List t c =
    let to = c.follow-end.ensures in
    let parts =
    smaller_elements c.args.self.now c.loop-ids.rest c.follow-end.result (T.List c.in-List.ids)
    c.as_slice-in-List.result.now to.kept c.loop-ids.invariant.within to.leads to.within
    (sym c.in-List.is ∙ c.term.ensures) c.as_slice-in-List.ensures in
    (omega (arith, parts.0, c.loop-ids.invariant.no_larger, c.decreases), parts.1)

pub list_value-returns-then-not-branch-2 : goal.list_value-returns-then-not-branch-2
list_value-returns-then-not-branch-2 t c = record {
  answer = free_in_rest _ _ _ _ c.loop-ids.invariant
      (free_answer _ _ _ (T.List c.in-List.ids) _ _ _ _ c.follow-end.ensures.leads
      (sym c.in-List.is ∙ c.term.ensures) c.as_slice-in-List.ensures
      c.in_ok-values_onto-in-List.ensures.answer c.if-not-branch-2.true);
}

pub list_value-returns-in-List : goal.list_value-returns-in-List
list_value-returns-in-List t c =
    let to = c.follow-end.ensures in
    rw (c.in_ok-list_value-in-List.ensures, c.from_vec.ensures)
    (record {
      answer = read_all _ _ _ _ _ c.in-List.ids _ c.loop-ids.invariant to.leads to.within
          (sym c.in-List.is ∙ c.term.ensures)
          (answer_all _ _ _ _ _ _ c.in_ok-values_onto-in-List.ensures.answer c.as_slice-in-List.ensures
          c.if-not-branch-2.false);
    })

pub list_value-list_onto-requires : goal.list_value-list_onto-requires
list_value-list_onto-requires t c =
    let to = c.follow-end.ensures in
    record {
      list = last_is_list _ _ _ _ _ _ to.kept c.loop-ids.invariant to.leads to.within
          (sym c.in-Atom.is ∙ c.term.ensures);
    }

pub list_value-returns-in-Atom : goal.list_value-returns-in-Atom
list_value-returns-in-Atom t c =
    let to = c.follow-end.ensures in
    record {
      answer = read_last _ _ _ _ _ c.in-Atom.value _ c.loop-ids.invariant to.leads to.within
          (sym c.in-Atom.is ∙ c.term.ensures) c.in_ok-list_onto-in-Atom.ensures.all;
    }

pub list_value-returns-in-Free : goal.list_value-returns-in-Free
list_value-returns-in-Free t c =
    let to = c.follow-end.ensures in
    record {
      answer = free_in_rest _ _ _ _ c.loop-ids.invariant
          (free_at_end _ _ _ to.leads to.within (sym c.in-Free.is ∙ c.term.ensures) to.end);
    }

pub list_value-unreachable-requires : goal.list_value-unreachable-requires
list_value-unreachable-requires t c =
    let to = c.follow-end.ensures in
    rest_is_no_tuple _ _ _ _ _ c.in-Tuple.field-0 to.kept c.loop-ids.invariant to.leads to.within
    (sym c.in-Tuple.is ∙ c.term.ensures)

pub value_of-values_onto-requires : goal.value_of-values_onto-requires
value_of-values_onto-requires t c =
    let to = c.follow-end.ensures in
    let parts =
    smaller_elements c.args.self.now c.args.id c.follow-end.result (T.Tuple c.in-Tuple.ids)
    c.as_slice.result.now to.kept c.requires.within to.leads to.within
    (sym c.in-Tuple.is ∙ c.term.ensures) c.as_slice.ensures in
    (omega (arith, parts.0, c.decreases), parts.1)

pub value_of-list_value-requires : goal.value_of-list_value-requires
value_of-list_value-requires t c =
    let to = c.follow-end.ensures in
    let no_larger =
    extent-leads c.args.self.now to.kept c.args.id c.follow-end.result c.requires.within
    to.leads in (
      omega (arith, no_larger, c.decreases),
      (
        to.within,
        list_is_list _ _ _ c.in-List.field-0 Leads.here to.within
            (sym c.in-List.is ∙ c.term.ensures),
      ),
    )

pub value_of-list_value-requires-in-Cons : goal.value_of-list_value-requires-in-Cons
value_of-list_value-requires-in-Cons t c =
    let to = c.follow-end.ensures in
    let no_larger =
    extent-leads c.args.self.now to.kept c.args.id c.follow-end.result c.requires.within
    to.leads in (
      omega (arith, no_larger, c.decreases),
      (
        to.within,
        cons_is_list _ _ _ c.in-Cons.field-0 c.in-Cons.field-1 Leads.here to.within
            (sym c.in-Cons.is ∙ c.term.ensures),
      ),
    )

pub value_of-returns-in-Free-clause-answer : goal.value_of-returns-in-Free-clause-answer
value_of-returns-in-Free-clause-answer t c =
    let to = c.follow-end.ensures in
    free_at_end _ _ _ to.leads to.within (sym c.in-Free.is ∙ c.term.ensures) to.end

pub value_of-returns-in_ok-copy-in-Atom-clause-answer :
    goal.value_of-returns-in_ok-copy-in-Atom-clause-answer
value_of-returns-in_ok-copy-in-Atom-clause-answer t c =
    let to = c.follow-end.ensures in
    atom_is_forced _ _ _ _ _ to.leads to.within (sym c.in-Atom.is ∙ c.term.ensures)
    c.in_ok-copy-in-Atom.ensures

pub value_of-returns-in_ok-tuple_value-in-Tuple-clause-answer :
    goal.value_of-returns-in_ok-tuple_value-in-Tuple-clause-answer
value_of-returns-in_ok-tuple_value-in-Tuple-clause-answer t c =
    let to = c.follow-end.ensures in
    rw (c.in_ok-tuple_value-in-Tuple.ensures, c.from_vec.ensures)
    (tuple_is_forced _ _ _ c.in-Tuple.ids _ _ to.leads to.within
    (sym c.in-Tuple.is ∙ c.term.ensures) c.new-values.ensures.items
    (answer_all _ _ _ _ _ _ c.in_ok-values_onto-in-Tuple.ensures.answer c.as_slice.ensures
    c.if-branch.true))

pub value_of-returns-else-branch-clause-answer : goal.value_of-returns-else-branch-clause-answer
value_of-returns-else-branch-clause-answer t c =
    free_answer _ _ _ (T.Tuple c.in-Tuple.ids) _ _ _ _ c.follow-end.ensures.leads
    (sym c.in-Tuple.is ∙ c.term.ensures) c.as_slice.ensures
    c.in_ok-values_onto-in-Tuple.ensures.answer c.if-branch.false

pub value_of-returns-in-List-clause-answer : goal.value_of-returns-in-List-clause-answer
value_of-returns-in-List-clause-answer t c =
    let s = c.args.self.now in
    IfOk-weaker c.list_value.result (IsAnswer s c.follow-end.result) (IsAnswer s c.args.id)
    (λ o answer. answer_before _ _ _ o c.follow-end.ensures.leads answer) c.list_value.ensures.answer

pub value_of-returns-in-Cons-clause-answer : goal.value_of-returns-in-Cons-clause-answer
value_of-returns-in-Cons-clause-answer t c =
    let s = c.args.self.now in
    IfOk-weaker c.list_value-in-Cons.result (IsAnswer s c.follow-end.result) (IsAnswer s c.args.id)
    (λ o answer. answer_before _ _ _ o c.follow-end.ensures.leads answer)
    c.list_value-in-Cons.ensures.answer

pub values_onto-loop-id-preserved : goal.values_onto-loop-id-preserved
values_onto-loop-id-preserved t c =
    answer_more c.args.self.now c.args.ids.now c.loop-id.id-index _ _ _ _ _ c.loop-id-test.true
    c.loop-id.invariant c.in_ok-value.ensures.answer c.in-Some.is c.in_ok-push-in-Some.ensures.items
