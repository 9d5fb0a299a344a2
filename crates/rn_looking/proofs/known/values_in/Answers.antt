-- By its variables, of which a variable alone is the only one.
use Rattle.std.proofs.Common.{◌≡◌, ◌∷◌, [], ◌∙◌, ap, sym, subst, rules}
use Rattle.std.specs.Prelude.{All, IfOk, MatchOption}
use Rattle.rn_model.specs.Systems.{vars_in}
use Rattle.rn_model.proofs.DerivationLemmas.{vars_in-Var}
use Rattle.rn_looking.specs.Forced.{IsVarForcedIn}
use Rattle.rn_looking.specs.Knowing.{ArePairsOf}
use Rattle.rn_looking.proofs.known.values_in.Goals as goal

pub returns-in-Var : goal.returns-in-Var
returns-in-Var c =
    let vars : c.in-Var.x ∷ [] ≡ vars_in c.args.expr.now =
    sym (ap vars_in c.in-Var.is ∙ vars_in-Var c.in-Var.x) in
    subst (λ xs. IfOk c.values_of.result (λ pairs. MatchOption pairs
    (¬ All (IsVarForcedIn c.args.growing.now c.args.path.now) xs)
    (λ ps. ArePairsOf c.args.growing.now c.args.path.now xs ps.items))) vars c.values_of.ensures

pub returns : goal.returns
returns c =
    let vars : c.as_slice.result.now ≡ vars_in c.args.expr.now = search rules in
    subst (λ xs. IfOk c.values_of-2.result (λ pairs. MatchOption pairs
    (¬ All (IsVarForcedIn c.args.growing.now c.args.path.now) xs)
    (λ ps. ArePairsOf c.args.growing.now c.args.path.now xs ps.items))) vars c.values_of-2.ensures
