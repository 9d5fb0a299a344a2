-- What breaks no rule: the kinds, tokens, expressions and inscriptions that the workload text has.
use Rattle.std.proofs.Common.{◌≡◌, ℕ, ℤ, pos, Bool, true, false, not, List, [], ◌∷◌, ◌++◌, refl, ap, ◌∙◌, Option, Some, flat_map}
use Rattle.rn_notation.specs.declared.token.Spot.{Spot}
use Rattle.rn_notation.specs.declared.token.Token.{Token}
use Rattle.rn_model.specs.declared.expr.OpKind.{OpKind}
use Rattle.rn_model.specs.declared.expr.CompareKind.{CompareKind}
use Rattle.rn_model.specs.declared.system.ArcKind.{ArcKind}
use Rattle.rn_inscript.specs.declared.exprs.PExpr.{PExpr}
use Rattle.rn_inscript.specs.declared.exprs.PForm.{PForm, fold-PForm, map-PForm, out-PForm, fold_out-PForm}
use Rattle.rn_inscript.specs.declared.exprs.PForm.TheVariants as F
use Rattle.rn_inscript.specs.declared.conds.PCond.{fold-roll-PCond}
use Rattle.rn_inscript.specs.declared.conds.PSimple.{fold_out-PSimple}
use Rattle.rn_inscript.specs.declared.conds.PSimple.TheVariants as S
use Rattle.rn_inscript.specs.declared.inscriptions.PName.{PName}
use Rattle.rn_inscript.specs.Expressions.{at_spot}
use Rattle.rn_net.specs.declared.kinds.PKind.{PKind-F, fold-roll-PKind}
use Rattle.rn_net.specs.declared.kinds.PKindForm.{PKindForm, fold-PKindForm, fold_out-PKindForm}
use Rattle.rn_net.specs.declared.kinds.PKindForm.TheVariants as K
use Rattle.rn_net.specs.declared.constants.PConst.{fold-roll-PConst}
use Rattle.rn_net.specs.declared.constants.PConstForm.{fold_out-PConstForm}
use Rattle.rn_net.specs.declared.constants.PConstForm.TheVariants as C
use Rattle.rn_net.specs.declared.constants.PConstForm.TheOpen as Open
use Rattle.rn_net.specs.Kinds.{kind_at}
use Rattle.rn_net.specs.Constants.{constant_at}
use Rattle.rn_declared.specs.declared.fault.Rule.TheVariants as Rule
use Rattle.rn_declared.specs.declared.fault.Fault.{Fault}
use Rattle.rn_declared.specs.declared.pattern.Pattern.{Pattern, out-Pattern}
use Rattle.rn_declared.specs.declared.pattern.Pattern.TheVariants as Pattern
use Rattle.rn_declared.specs.Faults.{broken_if}
use Rattle.rn_declared.specs.Patterns.{pattern_of, pattern_step, share}
use Rattle.rn_declared.specs.Declarations.{Part, kind_part, kind_faults, kind_form_faults, const_part, const_form_faults, fits, fits_form, token_faults, place_faults}
use Rattle.rn_rules.specs.Expressions.{Where, seen_of, seen_form, whole, misfit, operand_faults, operands_faults}
use Rattle.rn_rules.specs.Conditions.{condition_faults, simple_faults, compared_faults}
use Rattle.rn_rules.specs.Arcs.{arc_faults, asked_of, is_clear, inscribed_faults}
use Rattle.rn_rules.specs.Calls.{call_faults, target_faults, creation_faults}
use Rattle.rn_rules.specs.Transitions.{Scope}
use Rattle.rn_declared.proofs.PatternKinds.{share-out}
use Rattle.rn_check.proofs.DeclaredKinds.{pattern-at}
use Rattle.rn_check.proofs.ExpressionKinds.{Forms, Parts, seen-at}
use Rattle.rn_gen.proofs.Forms.{Stream, var_at, int_at, compared, int_place, net_place}

pub none_both : {A : Type 0} (xs ys : List A) → xs ≡ [] → ys ≡ [] → xs ++ ys ≡ []
none_both xs ys a b = rw (a, b) refl

pub none_of_three : {A : Type 0} (xs ys zs : List A) → xs ≡ [] → ys ≡ [] → zs ≡ [] →
    xs ++ (ys ++ (zs ++ [])) ≡ []
none_of_three xs ys zs a b c = rw (a, b, c) refl

-- kinds
pub pattern_int : (s : Spot) → pattern_of (kind_at s K.Int) ≡ Pattern.Int
pattern_int s =
    pattern-at s K.Int
    ∙ fold_out-PKindForm Pattern Pattern pattern_step (λ kind. kind.form) K.Int ∙ rw K.outs-Int refl

pub pattern_net : (s : Spot) → pattern_of (kind_at s K.Net) ≡ Pattern.Net
pattern_net s =
    pattern-at s K.Net
    ∙ fold_out-PKindForm Pattern Pattern pattern_step (λ kind. kind.form) K.Net ∙ rw K.outs-Net refl

abbrev sound : Spot → Part
sound s = record { spot = s; faults = [] }

abbrev kind_at_spot : PKind-F (List Fault) Part → Part
kind_at_spot = λ kind. record { spot = kind.spot; faults = kind.form }

kind_sound : (s : Spot) (form : PKindForm) →
    fold-PKindForm (List Fault) Part kind_form_faults kind_at_spot form ≡ [] →
    kind_part (kind_at s form) ≡ sound s
kind_sound s form none =
    fold-roll-PKind (List Fault) Part kind_form_faults kind_at_spot (record { form = form; spot = s })
    ∙ ap (λ faults. record { spot = s; faults = faults }) none

kind_int : (s : Spot) → kind_part (kind_at s K.Int) ≡ sound s
kind_int s =
    kind_sound s K.Int
    (fold_out-PKindForm (List Fault) Part kind_form_faults kind_at_spot K.Int ∙ rw K.outs-Int refl)

kind_net : (s : Spot) → kind_part (kind_at s K.Net) ≡ sound s
kind_net s =
    kind_sound s K.Net
    (fold_out-PKindForm (List Fault) Part kind_form_faults kind_at_spot K.Net ∙ rw K.outs-Net refl)

pub no_int_faults : (s : Spot) → kind_faults (kind_at s K.Int) ≡ []
no_int_faults s = ap (λ part. part.faults) (kind_int s)

pub no_net_faults : (s : Spot) → kind_faults (kind_at s K.Net) ≡ []
no_net_faults s = ap (λ part. part.faults) (kind_net s)

-- whole numbers as tokens
const_int : (s : Spot) (z : ℤ) → const_part (constant_at s (C.Int z)) ≡ sound s
const_int s z =
    fold-roll-PConst (List Fault) Part const_form_faults
    (λ const. record { spot = const.spot; faults = const.form }) (record { form = C.Int z; spot = s })
    ∙ ap (λ faults. record { spot = s; faults = faults })
    (fold_out-PConstForm (List Fault) Part const_form_faults
    (λ const. record { spot = const.spot; faults = const.form }) (C.Int z) ∙ rw (C.outs-Int z) refl)

abbrev Test : Type 0
Test = Pattern → Bool

abbrev fits_step : Open.PConstForm-F Test Test → Test
fits_step form pattern = fits_form form (out-Pattern pattern)

const_fits : (s : Spot) (z : ℤ) → fits (constant_at s (C.Int z)) Pattern.Int ≡ true
const_fits s z =
    ap (λ f. f Pattern.Int)
    (fold-roll-PConst Test Test fits_step (λ const. const.form) (record { form = C.Int z; spot = s }))
    ∙ ap (λ f. f Pattern.Int) (fold_out-PConstForm Test Test fits_step (λ const. const.form) (C.Int z))
    ∙ rw (C.outs-Int z, Pattern.outs-Int) refl

-- places
token_fine : (s t : Spot) (z : ℤ) →
    token_faults (pattern_of (kind_at s K.Int)) (constant_at t (C.Int z)) ≡ []
token_fine s t z =
    let token = constant_at t (C.Int z) in
    let fit = ap (fits token) (pattern_int s) ∙ const_fits t z in
    none_both (const_part token).faults
    (broken_if (not (fits token (pattern_of (kind_at s K.Int)))) Rule.Kinds (const_part token).spot)
    (ap (λ part. part.faults) (const_int t z))
    (ap (λ b. broken_if (not b) Rule.Kinds (const_part token).spot) fit)

pub int_place_fine : (p : List ℕ) (z : ℤ) (at : Stream) → place_faults (int_place p z at) ≡ []
int_place_fine p z at =
    let kind = kind_at (at 3).spot K.Int in
    let tokens = token_faults (pattern_of kind) (constant_at (at 5).spot (C.Int z)) ++ [] in
    none_both (kind_faults kind ++ tokens ++ []) []
    (none_both (kind_faults kind ++ tokens) []
    (none_both (kind_faults kind) tokens (no_int_faults (at 3).spot)
    (none_both (token_faults (pattern_of kind) (constant_at (at 5).spot (C.Int z))) []
    (token_fine (at 3).spot (at 5).spot z) refl))
    refl)
    refl

pub net_place_fine : (p : List ℕ) (at : Stream) → place_faults (net_place p at) ≡ []
net_place_fine p at =
    none_both (kind_faults (kind_at (at 3).spot K.Net) ++ [] ++ []) []
    (none_both (kind_faults (kind_at (at 3).spot K.Net) ++ []) []
    (none_both (kind_faults (kind_at (at 3).spot K.Net)) [] (no_net_faults (at 3).spot) refl) refl)
    refl

-- expressions, where no name is one that an action sets
share_int : share Pattern.Int Pattern.Int ≡ true
share_int = share-out Pattern.Int Pattern.Int ∙ rw Pattern.outs-Int refl

share_net : share Pattern.Net Pattern.Net ≡ true
share_net = share-out Pattern.Net Pattern.Net ∙ rw Pattern.outs-Net refl

abbrev pub here : Scope → Where
here scope = record {
  pattern_of_var = scope.pattern_of_var;
  may_stand = λ name. true;
  step_may = false;
}

abbrev form_seen : PForm → Forms
form_seen = fold-PForm Forms Parts seen_form (λ e. e.form e.spot)

form_out : (form : PForm) (s : Spot) (place : Where) →
    seen_of (at_spot s form) place
    ≡ seen_form (map-PForm PForm PExpr Forms Parts form_seen seen_of (out-PForm form)) s place
form_out form s place =
    ap (λ f. f place) (seen-at s form)
    ∙ ap (λ f. f s place) (fold_out-PForm Forms Parts seen_form (λ e. e.form e.spot) form)

pub seen_var : (scope : Scope) (t : Token) (x : List ℕ) (p : Pattern) →
    scope.pattern_of_var x ≡ Some p → seen_of (var_at t x) (here scope) ≡ whole t.spot p
seen_var scope t x p known =
    form_out (F.Name x) t.spot (here scope) ∙ rw (F.outs-Name x, known) refl

pub seen_int : (scope : Scope) (t : Token) (n : ℕ) →
    seen_of (int_at t n) (here scope) ≡ whole t.spot Pattern.Int
seen_int scope t n = form_out (F.Int (pos n)) t.spot (here scope) ∙ rw (F.outs-Int (pos n)) refl

operand_fine : (s : Spot) → operand_faults (whole s Pattern.Int) ≡ []
unfolding operand_faults
operand_fine s = rw share_int refl

operands_fine : (s t : Spot) → operands_faults (whole s Pattern.Int) (whole t Pattern.Int) ≡ []
unfolding operands_faults
operands_fine s t = rw (operand_fine s, operand_fine t) refl

pub seen_op : (scope : Scope) (op : OpKind) (r s t : Spot) (a b : PExpr) →
    seen_of a (here scope) ≡ whole s Pattern.Int → seen_of b (here scope) ≡ whole t Pattern.Int →
    seen_of (at_spot r (F.Op op a b)) (here scope) ≡ whole r Pattern.Int
seen_op scope op r s t a b first second =
    form_out (F.Op op a b) r (here scope)
    ∙ rw (F.outs-Op op a b, first, second, operands_fine s t) refl

misfit_int : (s : Spot) → misfit (whole s Pattern.Int) Pattern.Int ≡ []
misfit_int s = rw share_int refl

misfit_net : (s : Spot) → misfit (whole s Pattern.Net) Pattern.Net ≡ []
misfit_net s = rw share_net refl

-- inscriptions
arc_fine : (kind : ArcKind) (place : Option Pattern) (name : PName) (e : PExpr) (scope : Scope)
    (p : Pattern) (s : Spot) → is_clear kind ≡ false → asked_of kind p ≡ p → place ≡ Some p →
    seen_of e (here scope) ≡ whole s p → misfit (whole s p) p ≡ [] →
    arc_faults kind place name (Some e) (here scope) ≡ []
unfolding inscribed_faults
arc_fine kind place name e scope p s clear asked known seen fit =
    rw (known, seen, asked, fit, clear) refl

pub int_arc : (kind : ArcKind) (place : Option Pattern) (name : PName) (e : PExpr) (scope : Scope)
    (s : Spot) → is_clear kind ≡ false → asked_of kind Pattern.Int ≡ Pattern.Int →
    place ≡ Some Pattern.Int → seen_of e (here scope) ≡ whole s Pattern.Int →
    arc_faults kind place name (Some e) (here scope) ≡ []
int_arc kind place name e scope s clear asked known seen =
    arc_fine kind place name e scope Pattern.Int s clear asked known seen (misfit_int s)

pub net_arc : (kind : ArcKind) (place : Option Pattern) (name : PName) (e : PExpr) (scope : Scope)
    (s : Spot) → is_clear kind ≡ false → asked_of kind Pattern.Net ≡ Pattern.Net →
    place ≡ Some Pattern.Net → seen_of e (here scope) ≡ whole s Pattern.Net →
    arc_faults kind place name (Some e) (here scope) ≡ []
net_arc kind place name e scope s clear asked known seen =
    arc_fine kind place name e scope Pattern.Net s clear asked known seen (misfit_net s)

compared_seen : (kind : CompareKind) (a b : PExpr) (place : Where) →
    condition_faults (compared kind a b) place
    ≡ (compared_faults kind (seen_of a place) (seen_of b place) ++ []) ++ []
compared_seen kind a b place =
    ap (λ f. f place)
    (fold-roll-PCond (Where → List Fault) (Where → List Fault) simple_faults
    (λ cond place. flat_map (λ simples. flat_map (λ simple. simple place) simples) cond.any)
    (record { any = (S.Compare kind a b ∷ []) ∷ [] }))
    ∙ ap (λ f. (f place ++ []) ++ [])
    (fold_out-PSimple (Where → List Fault) (Where → List Fault) simple_faults
    (λ cond place. flat_map (λ simples. flat_map (λ simple. simple place) simples) cond.any)
    (S.Compare kind a b))
    ∙ rw (S.outs-Compare kind a b) refl

pub guard_fine : (kind : CompareKind) (a b : PExpr) (scope : Scope) (s t : Spot) →
    compared_faults kind (whole s Pattern.Int) (whole t Pattern.Int)
    ≡ operands_faults (whole s Pattern.Int) (whole t Pattern.Int) →
    seen_of a (here scope) ≡ whole s Pattern.Int → seen_of b (here scope) ≡ whole t Pattern.Int →
    condition_faults (compared kind a b) (here scope) ≡ []
guard_fine kind a b scope s t order first second =
    compared_seen kind a b (here scope) ∙ rw (first, second, order, operands_fine s t) refl

pub creation_fine : (scope : Scope) (var net : PName) (declared : Bool) →
    scope.pattern_of_var var.text ≡ Some Pattern.Net → declared ≡ true →
    creation_faults (here scope) var net declared ≡ []
creation_fine scope var net declared known is = rw (known, is, share_net) refl

pub target_fine : (scope : Scope) (e : PExpr) (s : Spot) →
    seen_of e (here scope) ≡ whole s Pattern.Net → target_faults (seen_of e (here scope)) ≡ []
unfolding target_faults
target_fine scope e s seen = rw (seen, misfit_net s) refl

pub int_call : (channel : Option (List Pattern)) (name : PName) (scope : Scope) (e : PExpr)
    (s : Spot) → channel ≡ Some (Pattern.Int ∷ []) → seen_of e (here scope) ≡ whole s Pattern.Int →
    call_faults channel name (seen_of e (here scope) ∷ []) ≡ []
unfolding call_faults
int_call channel name scope e s known seen = rw (known, seen, misfit_int s) refl

pub bare_call : (channel : Option (List Pattern)) (name : PName) → channel ≡ Some [] →
    call_faults channel name [] ≡ []
unfolding call_faults
bare_call channel name known = rw known refl
