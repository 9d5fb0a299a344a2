use Rattle.rn_net.proofs.Names.{rules, refl, sym, subst, arith, pos, ◌≤ℤ◌, neg_ℤ, done, constant_at, declaring}
use Rattle.std.proofs.lemmas.Int.{ints}
use Rattle.rn_net.specs.declared.constants.PConstForm.TheVariants as C
use Rattle.rn_net.proofs.Sorts.{number_read, number_stuck}
use Rattle.rn_net.proofs.Steps.{same_end}
use Rattle.rn_net.proofs.ConstantPhrases.{negative_open}
use Rattle.rn_net.proofs.constant_reader.negative.Goals as goal

pub negated-requires : goal.negated-requires
negated-requires c = let n = c.requires.naturals c.args.after c.in-Some.ensures.0.0 c.in-Some.number c.in-Some.ensures.0.1 c.in-Some.ensures.0.2 in let h : pos 0 ≤ℤ c.in-Some.number = subst (λ z. pos 0 ≤ℤ z) (sym n.1) (omega (arith, ints)) in search rules

pub returns-in-Some-clause-reads : goal.returns-in-Some-clause-reads
returns-in-Some-clause-reads c = λ depth. same_end (search rules) (number_read (λ place n. done (constant_at c.args.spot (C.Int (neg_ℤ n)))) c.args.tokens.now c.args.after _ (declaring depth) (negative_open c.args.tokens.now c.args.at c.args.after depth c.requires.next c.requires.after) c.in-Some.ensures.0 c.in-Some.ensures.1 refl refl)

pub returns-in-None-clause-reads : goal.returns-in-None-clause-reads
returns-in-None-clause-reads c = λ depth. number_stuck (λ place n. done (constant_at c.args.spot (C.Int (neg_ℤ n)))) c.args.tokens.now c.args.after (negative_open c.args.tokens.now c.args.at c.args.after depth c.requires.next c.requires.after) (omega (arith, c.requires.after, c.requires.next.1.1)) c.in-None.ensures
