use Rattle.std.proofs.Common.{refl, sym, ◌∙◌}
use Rattle.rn_term.proofs.ReadingLemmas.{list_is_list, cons_is_list, atom_is_list, free_is_list}
use Rattle.rn_term.proofs.ReadingLemmas.{tuple_is_not_list, no_truth}
use Rattle.rn_term.proofs.store.Store.only_lists.Goals as goal

pub returns-in-List : goal.returns-in-List
returns-in-List c =
    let to = c.follow-end.ensures in
    record {
      exact = (
        λ yes. list_is_list _ _ _ c.in-List.field-0 to.leads to.within
            (sym c.in-List.is ∙ c.term.ensures),
        λ list. refl,
      );
    }

pub returns-in-Cons : goal.returns-in-Cons
returns-in-Cons c =
    let to = c.follow-end.ensures in
    record {
      exact = (
        λ yes. cons_is_list _ _ _ c.in-Cons.field-0 c.in-Cons.field-1 to.leads to.within
            (sym c.in-Cons.is ∙ c.term.ensures),
        λ list. refl,
      );
    }

pub returns-in-List-matches : goal.returns-in-List-matches
returns-in-List-matches c =
    let to = c.follow-end.ensures in
    record {
      exact = (
        λ yes.
            (atom_is_list c.args.self.now c.args.id _ _ to.kept to.leads to.within
            (sym c.in-Atom.is ∙ c.term.ensures)).0
            (c.in-List-matches.field-0, c.in-List-matches.is),
        λ list. refl,
      );
    }

pub returns-in_default : goal.returns-in_default
returns-in_default c =
    let to = c.follow-end.ensures in
    record {
      exact = (
        λ yes. absurd (no_truth yes),
        λ list.
            let is =
            (atom_is_list c.args.self.now c.args.id _ _ to.kept to.leads to.within
            (sym c.in-Atom.is ∙ c.term.ensures)).1 list in
            absurd (c.in_default.not-List is.0 is.1),
      );
    }

pub returns-in-Tuple : goal.returns-in-Tuple
returns-in-Tuple c =
    let to = c.follow-end.ensures in
    record {
      exact = (
        λ yes. absurd (no_truth yes),
        λ list. absurd (tuple_is_not_list _ _ _ c.in-Tuple.field-0 to.kept to.leads to.within
            (sym c.in-Tuple.is ∙ c.term.ensures) list),
      );
    }

pub returns-in-Free : goal.returns-in-Free
returns-in-Free c =
    let to = c.follow-end.ensures in
    record {
      exact = free_is_list _ _ _ _ to.kept to.leads to.within (sym c.in-Free.is ∙ c.term.ensures)
          to.end c.ends_a_list.ensures.exact;
    }
