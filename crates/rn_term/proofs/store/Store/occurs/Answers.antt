use Rattle.std.proofs.Common.{refl, sym, ◌∙◌, ap, subst}
use Rattle.std.specs.Prelude.{Some, IsTrue, ◌↔◌}
use Rattle.std.proofs.lemmas.Result.{IfOk-weaker}
use Rattle.rn_term.specs.Occurring.{Occurs, HasSought, parts_of}
use Rattle.rn_term.proofs.Occurrences.{leads_occurs, occurs_at_end}
use Rattle.rn_term.proofs.ReadingLemmas.{no_truth}
use Rattle.rn_term.proofs.Walks.{none_in_leaf, sought_occurs}
use Rattle.rn_term.proofs.store.Store.occurs.Goals as goal

pub returns-then-end-var : goal.returns-then-end-var
returns-then-end-var c = record {
  exact = (
    λ yes.
        subst (λ x. Occurs c.args.self.now x c.args.id) c.if-end-var.true
        (leads_occurs c.args.self.now c.args.id c.follow-end.result c.follow-end.ensures.leads),
    λ is. refl,
  );
}

pub returns-in-Free : goal.returns-in-Free
returns-in-Free c = record {
  exact = (
    λ yes. absurd (no_truth yes),
    λ is.
        absurd (none_in_leaf c.args.self.now c.follow-end.ensures.kept c.args.var c.args.id
        c.follow-end.result c.requires.free.unbound c.follow-end.ensures.leads
        c.follow-end.ensures.end c.if-end-var.false
        (ap parts_of (sym c.term.ensures ∙ c.in-Free.is)) is),
  );
}

pub returns-then-lacks : goal.returns-then-lacks
returns-then-lacks c = record {
  exact = (
    λ yes. absurd (no_truth yes),
    λ is.
        absurd (c.lacks.ensures.none c.if-lacks.true (
          c.args.var,
          c.requires.free,
          refl,
          occurs_at_end c.args.self.now c.follow-end.ensures.kept c.args.var c.args.id
              c.follow-end.result c.requires.free.unbound c.follow-end.ensures.leads is,
        )),
  );
}

pub returns-in_default : goal.returns-in_default
returns-in_default c = record {
  exact = IfOk-weaker c.has_sought.result
      (λ yes. IsTrue yes ↔ HasSought c.args.self.now (Some c.args.var) c.follow-end.result)
      (λ yes. IsTrue yes ↔ Occurs c.args.self.now c.args.var c.args.id)
      (λ yes exact. sought_occurs c.args.self.now c.follow-end.ensures.kept c.args.var c.args.id
      c.follow-end.result c.requires.free c.follow-end.ensures.leads yes exact)
      c.has_sought.ensures.exact;
}
