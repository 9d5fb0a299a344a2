-- By what is decided of it, and what is known of its variables.
use Rattle.std.proofs.Common.{◌∙◌, true, false, refl, sym, subst, rules, SFits, w64, to_z-of_z}
use Rattle.rn_choices.specs.declared.next.Next.TheVariants.{Forced}
use Rattle.rn_search.specs.declared.point.Point.TheVariants as P
use Rattle.rn_binding.specs.link.Applications.{application_of}
use Rattle.rn_looking.specs.Knowing.{KnowsVars, known_env}
use Rattle.rn_looking.specs.Looks.{GoesOn}
use Rattle.rn_looking.proofs.LookedResults.{answers, is_done, waits, goes, stuck}
use Rattle.rn_looking.specs.NodeKinds.{KnowsForced}
use Rattle.rn_looking.proofs.KindedNodes.{hole_kinded}
use Rattle.rn_looking.proofs.KindedValues.{known_fits}
use Rattle.rn_looking.proofs.results.look_at_result.Goals as goal

pub returns-then-was_computed : goal.returns-then-was_computed
returns-then-was_computed c =
    is_done c.args.at.problem.now c.args.at.growing.now c.args.at.node c.args.at.head.now
    c.args.at.transition.now c.args.k c.args.application.now.site c.args.application.now.way
    c.args.application.now.form.now c.requires.at c.requires.is
    (answers c.was_computed.result true c.args.at.growing.now.decisions c.as_slice-path.result.now
    c.args.at.head.now.path c.as_slice-way.result.now c.args.application.now.way
    c.args.application.now.site c.was_computed.ensures (c.as_slice-path.ensures ∙ c.deref.ensures)
    c.as_slice-way.ensures c.if-was_computed.true)

pub returns-in_default : goal.returns-in_default
returns-in_default c =
    waits c.args.at.problem.now c.args.at.growing.now c.args.at.node c.args.at.head.now
    c.args.at.transition.now c.args.k c.args.application.now.site c.args.application.now.way
    c.args.application.now.form.now c.requires.at c.requires.is
    (answers c.was_computed.result false c.args.at.growing.now.decisions c.as_slice-path.result.now
    c.args.at.head.now.path c.as_slice-way.result.now c.args.application.now.way
    c.args.application.now.site c.was_computed.ensures (c.as_slice-path.ensures ∙ c.deref.ensures)
    c.as_slice-way.ensures c.if-was_computed.false)
    (subst (KnowsVars c.args.at.growing.now c.args.at.head.now c.args.application.now.form.now)
    c.in_default.is c.in_ok-known.ensures.knows)

pub returns-in-Some-2 : goal.returns-in-Some-2
returns-in-Some-2 c =
    let fits : SFits w64 c.in-Some-2.n = search rules in
    subst (λ n. GoesOn c.args.at.problem.now c.args.at.growing.now.decisions
    (Forced (P.Result c.args.at.node c.args.k n)))
    (sym (to_z-of_z fits))
    (goes c.args.at.problem.now c.args.at.growing.now c.args.at.node c.args.at.head.now
    c.args.at.transition.now c.args.k c.args.application.now.site c.args.application.now.way
    c.args.application.now.form.now c.requires.at c.requires.is
    (answers c.was_computed.result false c.args.at.growing.now.decisions c.as_slice-path.result.now
    c.args.at.head.now.path c.as_slice-way.result.now c.args.application.now.way
    c.args.application.now.site c.was_computed.ensures (c.as_slice-path.ensures ∙ c.deref.ensures)
    c.as_slice-way.ensures c.if-was_computed.false)
    (known_env c.in-Some.known)
    (subst (KnowsVars c.args.at.growing.now c.args.at.head.now c.args.application.now.form.now)
    c.in-Some.is c.in_ok-known.ensures.knows) c.in-Some-2.n
    ((c.in_ok-n.ensures c.in-Some-2.n).0 c.in-Some-2.is))

pub returns : goal.returns
returns c =
    stuck c.args.at.problem.now c.args.at.growing.now c.args.at.node c.args.at.head.now
    c.args.at.transition.now c.args.k c.args.application.now.site c.args.application.now.way
    c.args.application.now.form.now c.requires.at c.requires.is
    (answers c.was_computed.result false c.args.at.growing.now.decisions c.as_slice-path.result.now
    c.args.at.head.now.path c.as_slice-way.result.now c.args.application.now.way
    c.args.application.now.site c.was_computed.ensures (c.as_slice-path.ensures ∙ c.deref.ensures)
    c.as_slice-way.ensures c.if-was_computed.false)
    (known_env c.in-Some.known)
    (subst (KnowsVars c.args.at.growing.now c.args.at.head.now c.args.application.now.form.now)
    c.in-Some.is c.in_ok-known.ensures.knows)
    (λ n value.
    let told = (c.in_ok-n.ensures n).1 value in
    let no : ⊥ = cc (told, c.in-None.is) in no)

pub number_of-requires : goal.number_of-requires
number_of-requires c =
    known_fits c.args.at.growing.now c.args.at.head.now c.args.application.now.form.now
    (known_env c.in-Some.known) c.in-Some.known.pairs.items refl
    (hole_kinded c.args.at.problem.now c.args.at.growing.now c.args.at.node c.args.at.head.now
    c.args.at.transition.now c.requires.at c.args.k (application_of c.args.application.now)
    c.requires.is)
    (subst (KnowsForced c.args.at.growing.now c.args.at.head.now) c.in-Some.is
    c.in_ok-known.ensures.forced)
