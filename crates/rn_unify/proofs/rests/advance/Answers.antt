use Rattle.std.proofs.Common.{◌≡◌, ◌+◌, length, sym, ap, arith, ◌∙◌}
use Rattle.rn_term.specs.declared.term.Term.TheVariants as T
use Rattle.rn_term.specs.Stores.{term_at}
use Rattle.rn_unify.specs.link.Rests.{elements_of}
use Rattle.rn_unify.proofs.ListPositions.{rest-tail, at_tail}
use Rattle.rn_unify.proofs.rests.advance.Goals as goal

pub returns-in-Cons-clause-rest : goal.returns-in-Cons-clause-rest
returns-in-Cons-clause-rest c =
    let s = c.args.store.now in
    at_tail s c.args.rest.id c.in-Cons.field-0 c.in-Cons.tail c.follow.result c.requires.kept
    c.requires.rest.within (sym c.term.ensures ∙ c.in-Cons.is) c.follow.ensures.leads
    c.follow.ensures.within c.follow.ensures.end

pub returns-in-Cons-clause-passes : goal.returns-in-Cons-clause-passes
returns-in-Cons-clause-passes c = λ vs sat.
    let s = c.args.store.now in
    let is : term_at s c.args.rest.id ≡ T.Cons c.in-Cons.field-0 c.in-Cons.tail =
    sym c.term.ensures ∙ c.in-Cons.is in
    let all : length (elements_of (term_at s c.args.rest.id)) ≡ length c.in-Cons.field-0 =
    ap (λ t. length (elements_of t)) is in
    let passed : c.args.rest.from + c.args.count ≡ length c.in-Cons.field-0 =
    omega (arith, all, ap length c.elements-end.ensures) in
    rest-tail s vs c.args.rest c.args.count c.in-Cons.field-0 c.in-Cons.tail c.follow.result sat
    c.requires.rest.within is passed c.follow.ensures.leads
