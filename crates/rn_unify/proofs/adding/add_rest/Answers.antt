use Rattle.std.proofs.Common.{◌≡◌, sym, ◌∙◌, subst}
use Rattle.std.specs.Prelude.{Some, None}
use Rattle.std.proofs.lemmas.List.{take_rest}
use Rattle.rn_term.specs.declared.term.Term.TheVariants as T
use Rattle.rn_term.specs.Stores.{term_at}
use Rattle.rn_unify.specs.link.Equations.{HasBefore}
use Rattle.rn_unify.proofs.ListPrefixes.{from_on-drop}
use Rattle.rn_unify.proofs.RestTerms.{list_added, values_added}
use Rattle.rn_unify.proofs.adding.add_rest.Goals as goal

pub returns-in_ok-left-in-Cons-clause-added : goal.returns-in_ok-left-in-Cons-clause-added
returns-in_ok-left-in-Cons-clause-added c =
    let s = c.args.store.now in
    let rest = c.args.rest in
    let is : term_at s rest.id ≡ T.Cons c.in-Cons.ids c.in-Cons.tail =
    sym c.term.ensures ∙ c.in-Cons.is in
    list_added s rest c.requires.kept c.requires.stands.0 c.add_list.new.store c.in-Cons.ids
    c.in_ok-left-in-Cons.left.items (Some c.in-Cons.tail) c.add_list.result is
    (subst (HasBefore rest.from) is c.requires.stands.1)
    (c.in_ok-left-in-Cons.ensures.items
    ∙ from_on-drop rest.from c.deref.result.now c.in-Cons.ids c.deref.ensures)
    c.add_list.ensures.added

pub returns-in_ok-left-in-List-clause-added : goal.returns-in_ok-left-in-List-clause-added
returns-in_ok-left-in-List-clause-added c =
    let s = c.args.store.now in
    let rest = c.args.rest in
    let is : term_at s rest.id ≡ T.List c.in-List.ids = sym c.term.ensures ∙ c.in-List.is in
    list_added s rest c.requires.kept c.requires.stands.0 c.add_list-in-List.new.store
    c.in-List.ids c.in_ok-left-in-List.left.items None c.add_list-in-List.result is
    (subst (HasBefore rest.from) is c.requires.stands.1)
    (c.in_ok-left-in-List.ensures.items
    ∙ from_on-drop rest.from c.deref-in-List.result.now c.in-List.ids c.deref-in-List.ensures)
    c.add_list-in-List.ensures.added

pub returns-in_ok-left-in-Atom-clause-added : goal.returns-in_ok-left-in-Atom-clause-added
returns-in_ok-left-in-Atom-clause-added c =
    values_added c.args.store.now c.args.rest c.requires.kept c.requires.stands.0
    c.add_values.new.store c.in-Atom.list c.items.result.now c.into_vec.result.items
    c.add_values.result (sym c.term.ensures ∙ c.in-Atom.is) c.items.ensures
    (c.into_vec.ensures ∙ c.in_ok-left-in-Atom.ensures
    ∙ take_rest c.items.result.now c.args.rest.from)
    c.add_values.ensures.added
