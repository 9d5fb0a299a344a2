-- The inscriptions that a text spells are well formed.
use Rattle.std.proofs.Common.{◌≡◌, ℕ, ◌≤◌, List, [], ◌∷◌, map, refl, sym, subst}
use Rattle.std.proofs.Common.{arith}
use Rattle.std.specs.Prelude.{Some}
use Rattle.std.specs.List.{AllByRecursion}
use Rattle.std.proofs.lemmas.Bool.Decides.{nat_tests}
use Rattle.std.proofs.lemmas.Grind.{common_steps}
use Rattle.std.proofs.lemmas.List.Elements.{All-from_recursion}
use Rattle.rn_model.proofs.EachElement.{each_weaker}
use Rattle.rn_model.specs.declared.system.ArcKind.{ArcKind}
use Rattle.rn_model.specs.declared.system.ArcKind.TheVariants as A
use Rattle.rn_notation.specs.declared.token.Spot.{Spot}
use Rattle.rn_notation.specs.declared.token.Token.{Token}
use Rattle.rn_notation.specs.declared.token.TokenKind.{TokenKind}
use Rattle.rn_notation.specs.declared.token.TokenKind.TheVariants.{Name, Word, Number, Text, Sign}
use Rattle.rn_inscript.specs.declared.exprs.PExpr.{PExpr}
use Rattle.rn_inscript.specs.declared.exprs.PForm.{PForm}
use Rattle.rn_inscript.specs.declared.exprs.PForm.TheVariants as F
use Rattle.rn_inscript.specs.declared.conds.PCond.{PCond}
use Rattle.rn_inscript.specs.declared.inscriptions.PName.{PName}
use Rattle.rn_inscript.specs.declared.inscriptions.PInscribed.{PInscribed}
use Rattle.rn_inscript.specs.declared.inscriptions.PInscribed.TheVariants as I
use Rattle.rn_inscript.specs.declared.inscriptions.PInscription.{PInscription}
use Rattle.rn_inscript.specs.Expressions.{at_spot, IsExpr, IsProduct, IsUnary, IsPrimary}
use Rattle.rn_inscript.specs.Expressions.{IsMoreExprs}
use Rattle.rn_inscript.specs.Signs.{arc_of, target_of}
use Rattle.rn_inscript.specs.Inscriptions.{IsInscribed, IsCall, absent, name_at}
use Rattle.rn_net.specs.Levels.{IsShallow}
use Rattle.rn_net.specs.Levels.Region.{between}
use Rattle.rn_net.specs.Nets.{AreInscribed, further_arc}
use Rattle.rn_spelled.proofs.KindDepths.{push}
use Rattle.rn_spelled.specs.WellFormed.{exprs_of, conds_of, IsWellFormedExpr, IsShallowCond}
use Rattle.rn_spelled.specs.WellFormed.{IsWellFormedInscription}
use Rattle.rn_spelled.proofs.WithinLevels.{opening, closing, neither, Inscribed, AllNamed, Begins}
use Rattle.rn_spelled.proofs.WithinLevels.{inscribed_open, inscribed_on}
use Rattle.rn_spelled.proofs.WithinLevels.{inscribed_first, IsNeither}
use Rattle.rn_spelled.proofs.ExpressionDepths.{ExprFits, expr_fits, listed_fits, tuple_fits}
use Rattle.rn_spelled.proofs.ExpressionDepths.{this_fits, name_fits}
use Rattle.rn_spelled.proofs.ConditionDepths.{CondFits, cond_fits, all_outer}

-- the first token of an inscription
pub begins : {k l : TokenKind} → l ≡ k → Begins k → Begins l
begins e b = subst Begins (sym e) b

begins_word : (k : ℕ) → 5 ≤ k → Begins (Word k)
begins_word k h = record {
  starts = grind (arith, nat_tests, common_steps);
  goes_on = refl;
  no_comma = refl;
}

begins_arc : (k : TokenKind) (kind : ArcKind) → arc_of k ≡ Some kind → Begins k
begins_arc (Word k) kind h = begins_word k (grind (arith, nat_tests, common_steps))
begins_arc (Sign k) kind h = absurd (let no : ⊥ = cc in no)
begins_arc (Name s) kind h = absurd (let no : ⊥ = cc in no)
begins_arc (Number n) kind h = absurd (let no : ⊥ = cc in no)
begins_arc (Text s) kind h = absurd (let no : ⊥ = cc in no)

begins_target : (k : TokenKind) (form : PForm) → target_of k ≡ Some form → Begins k
begins_target (Word k) form h = begins_word k (grind (arith, nat_tests, common_steps))
begins_target (Name s) form h = record { starts = refl; goes_on = refl; no_comma = refl }
begins_target (Sign k) form h = absurd (let no : ⊥ = cc in no)
begins_target (Number n) form h = absurd (let no : ⊥ = cc in no)
begins_target (Text s) form h = absurd (let no : ⊥ = cc in no)

-- the first of some tokens begins an inscription
abbrev FirstBegins : List Token → Type 0
FirstBegins [] = Unit {0}
FirstBegins (t ∷ ts) = Begins t.kind

primary_begins : {ts rest : List Token} {e : PExpr} → IsPrimary ts e rest → FirstBegins ts
primary_begins (IsPrimary.number is) = begins is (record { starts = refl; goes_on = refl; no_comma = refl })
primary_begins (IsPrimary.text is) = begins is (record { starts = refl; goes_on = refl; no_comma = refl })
primary_begins (IsPrimary.name is) = begins is (record { starts = refl; goes_on = refl; no_comma = refl })
primary_begins (IsPrimary.this is) = begins is (record { starts = refl; goes_on = refl; no_comma = refl })
primary_begins (IsPrimary.step is a b) = begins is (record { starts = refl; goes_on = refl; no_comma = refl })
primary_begins (IsPrimary.tuple is x) = begins is (record { starts = refl; goes_on = refl; no_comma = refl })
primary_begins (IsPrimary.list is x) = begins is (record { starts = refl; goes_on = refl; no_comma = refl })
primary_begins (IsPrimary.list_with_tail is x a y b) =
    begins is (record { starts = refl; goes_on = refl; no_comma = refl })
primary_begins (IsPrimary.parentheses is x a) = begins is (record { starts = refl; goes_on = refl; no_comma = refl })

unary_begins : {ts rest : List Token} {e : PExpr} → IsUnary ts e rest → FirstBegins ts
unary_begins (IsUnary.negative is x) = begins is (record { starts = refl; goes_on = refl; no_comma = refl })
unary_begins (IsUnary.primary x) = primary_begins x

product_begins : {ts rest : List Token} {e : PExpr} → IsProduct ts e rest → FirstBegins ts
product_begins (IsProduct.product x m) = unary_begins x

expr_begins : {ts rest : List Token} {e : PExpr} → IsExpr ts e rest → FirstBegins ts
expr_begins (IsExpr.sum x m) = product_begins x

inscription_begins : {ts rest : List Token} {form : PInscribed} → IsInscribed ts form rest →
    FirstBegins ts
inscription_begins (IsInscribed.plain_arc {t = t} {kind = kind} is a) = begins_arc t.kind kind is
inscription_begins (IsInscribed.arc {t = t} {kind = kind} is a b x) = begins_arc t.kind kind is
inscription_begins (IsInscribed.guard is x) = begins is (record { starts = refl; goes_on = refl; no_comma = refl })
inscription_begins (IsInscribed.print is a x) =
    begins is (record { starts = refl; goes_on = refl; no_comma = refl })
inscription_begins (IsInscribed.set is a b x) =
    begins is (record { starts = refl; goes_on = refl; no_comma = refl })
inscription_begins (IsInscribed.uplink is x) = begins is (record { starts = refl; goes_on = refl; no_comma = refl })
inscription_begins (IsInscribed.creation is a b c) =
    begins is (record { starts = refl; goes_on = refl; no_comma = refl })
inscription_begins (IsInscribed.downlink {t = t} {form = form} is a x) =
    begins_target t.kind form is
inscription_begins (IsInscribed.equality x is y) = expr_begins x

-- what the parts of an inscription have
pub record FormFits (i : PInscribed) : Type 0 where
  pub exprs : AllByRecursion (ExprFits 0) (exprs_of i)
  pub conds : AllByRecursion (CondFits 0) (conds_of i)

neither_arc : (k : TokenKind) (kind : ArcKind) → arc_of k ≡ Some kind → IsNeither k
neither_arc (Word k) kind h = neither refl refl refl
neither_arc (Sign k) kind h = absurd (let no : ⊥ = cc in no)
neither_arc (Name s) kind h = absurd (let no : ⊥ = cc in no)
neither_arc (Number n) kind h = absurd (let no : ⊥ = cc in no)
neither_arc (Text s) kind h = absurd (let no : ⊥ = cc in no)

neither_target : (k : TokenKind) (form : PForm) → target_of k ≡ Some form → IsNeither k
neither_target (Word k) form h = neither refl refl refl
neither_target (Name s) form h = neither refl refl refl
neither_target (Sign k) form h = absurd (let no : ⊥ = cc in no)
neither_target (Number n) form h = absurd (let no : ⊥ = cc in no)
neither_target (Text s) form h = absurd (let no : ⊥ = cc in no)

target_fits : (s : Spot) (k : TokenKind) (form : PForm) → target_of k ≡ Some form →
    ExprFits 0 (at_spot s form)
target_fits s (Word k) form h =
    let same : F.This ≡ form = grind (arith, nat_tests, common_steps) in
    subst (λ f. ExprFits 0 (at_spot s f)) same (this_fits s 0 (omega arith))
target_fits s (Name x) form h =
    let same : F.Name x ≡ form = cc in
    subst (λ f. ExprFits 0 (at_spot s f)) same (name_fits s x 0 (omega arith))
target_fits s (Sign k) form h = absurd (let no : ⊥ = cc in no)
target_fits s (Number n) form h = absurd (let no : ⊥ = cc in no)
target_fits s (Text x) form h = absurd (let no : ⊥ = cc in no)

empty_fits : (s : Spot) → ExprFits 0 (at_spot s (F.Tuple []))
empty_fits s = tuple_fits s [] 0 (omega arith) tt

absent_fits : (kind : ArcKind) (p : PName) (s : Spot) → FormFits (I.Arc kind p (absent kind s))
absent_fits A.Input p s = record { exprs = (empty_fits s, tt); conds = tt }
absent_fits A.Output p s = record { exprs = (empty_fits s, tt); conds = tt }
absent_fits A.Test p s = record { exprs = (empty_fits s, tt); conds = tt }
absent_fits A.Reserve p s = record { exprs = (empty_fits s, tt); conds = tt }
absent_fits A.FlexInput p s = record { exprs = tt; conds = tt }
absent_fits A.FlexOutput p s = record { exprs = tt; conds = tt }
absent_fits A.Inhibit p s = record { exprs = (empty_fits s, tt); conds = tt }
absent_fits A.Clear p s = record { exprs = tt; conds = tt }

call_fits : {ts rest : List Token} {call : PName × List PExpr} → IsCall ts call rest →
    Inscribed 0 ts → AllByRecursion (ExprFits 0) call.1 × Inscribed 0 rest
call_fits (IsCall.call {es = es} e f x) d =
    let inner = inscribed_open (opening refl refl) f
    (inscribed_on (neither refl refl refl) e d) in
    let p = listed_fits (closing refl refl refl) x inner in (all_outer 0 es p.0, p.1)

form_fits : {ts rest : List Token} {form : PInscribed} → IsInscribed ts form rest →
    Inscribed 0 ts → FormFits form × Inscribed 0 rest
form_fits (IsInscribed.plain_arc {t = t} {u = u} {kind = kind} {p = p} is a) d = (
  absent_fits kind (record { text = p; spot = u.spot }) u.spot,
  inscribed_on (neither refl refl refl) a (inscribed_on (neither_arc t.kind kind is) refl d),
)
form_fits (IsInscribed.arc {t = t} {kind = kind} is a b x) d =
    let inner = inscribed_on (neither refl refl refl) b (inscribed_on (neither refl refl refl) a
    (inscribed_on (neither_arc t.kind kind is) refl d)) in
    let p = expr_fits x inner in (record { exprs = (p.0, tt); conds = tt }, p.1)
form_fits (IsInscribed.guard {c = c} is x) d =
    let p = cond_fits x (inscribed_on (neither refl refl refl) is d) in
    (record { exprs = p.0.exprs; conds = (p.0, tt) }, p.1)
form_fits (IsInscribed.print is a x) d =
    let p = expr_fits x (inscribed_on (neither refl refl refl) a
    (inscribed_on (neither refl refl refl) is d)) in
    (record { exprs = (p.0, tt); conds = tt }, p.1)
form_fits (IsInscribed.set is a b x) d =
    let p = expr_fits x (inscribed_on (neither refl refl refl) b
    (inscribed_on (neither refl refl refl) a (inscribed_on (neither refl refl refl) is d))) in
    (record { exprs = (p.0, tt); conds = tt }, p.1)
form_fits (IsInscribed.uplink is x) d =
    let p = call_fits x (inscribed_on (neither refl refl refl) is d) in
    (record { exprs = p.0; conds = tt }, p.1)
form_fits (IsInscribed.creation is a b c) d = (
  record { exprs = tt; conds = tt },
  inscribed_on (neither refl refl refl) c (inscribed_on (neither refl refl refl) b
      (inscribed_on (neither refl refl refl) a (inscribed_on (neither refl refl refl) is d))),
)
form_fits (IsInscribed.downlink {t = t} {form = form} is a x) d =
    let p = call_fits x (inscribed_on (neither refl refl refl) a
    (inscribed_on (neither_target t.kind form is) refl d)) in
    (record { exprs = (target_fits t.spot t.kind form is, p.0); conds = tt }, p.1)
form_fits (IsInscribed.equality x is y) d =
    let p = expr_fits x d in
    let q = expr_fits y (inscribed_on (neither refl refl refl) is p.1) in
    (record { exprs = (p.0, (q.0, tt)); conds = tt }, q.1)

-- from the first token of an inscription to what follows it
inscribed_fits : {t : Token} {ts rest : List Token} {form : PInscribed} →
    IsInscribed (t ∷ ts) form rest → IsShallow between (t ∷ ts) → AllNamed (t ∷ ts) →
    FormFits form × Inscribed 0 rest
inscribed_fits {t = t} {ts = ts} x h names =
    form_fits x (inscribed_first {t = t} {ts = ts} (inscription_begins x) h names)

-- the other inscriptions of an arc
further_fit : {before es : List PExpr} {ts rest : List Token} → IsMoreExprs before ts es rest →
    AllByRecursion (ExprFits 0) before → Inscribed 0 ts →
    AllByRecursion (ExprFits 0) es × Inscribed 0 rest
further_fit IsMoreExprs.no_more_exprs fit d = (fit, d)
further_fit (IsMoreExprs.more_exprs {before = before} {e = e} is x m) fit d =
    let p = expr_fits x (inscribed_on (neither refl refl refl) is d) in
    further_fit m (push (ExprFits 0) before e fit p.0) p.1

further_arcs_fit : (kind : ArcKind) (place : PName) (es : List PExpr) →
    AllByRecursion (ExprFits 0) es →
    AllByRecursion (λ i. FormFits i.form) (map (further_arc kind place) es)
further_arcs_fit kind place [] fit = tt
further_arcs_fit kind place (e ∷ es) fit =
    (record { exprs = (fit.0, tt); conds = tt }, further_arcs_fit kind place es fit.1)

-- from the first token of what stands before a semicolon to the semicolon
pub statement_fits : {notation : ℕ} {ts rest : List Token} {all : List PInscription} →
    AreInscribed notation ts all rest → IsShallow between ts → AllNamed ts →
    AllByRecursion (λ i. FormFits i.form) all × Inscribed 0 rest
statement_fits (AreInscribed.one x) h names =
    let p = inscribed_fits x h names in ((p.0, tt), p.1)
statement_fits
    (AreInscribed.several {t = t} {u = u} {v = v} {kind = kind} {p = p} {more = more} second a k c x m)
    h names =
    let first = inscribed_fits (IsInscribed.arc {t = t} {u = u} {v = v} a k c x) h names in
    let others = further_fit m tt first.1 in (
      (first.0, further_arcs_fit kind (name_at u.spot p) more others.0),
      others.1,
    )

expr_well : (e : PExpr) → ExprFits 0 e → IsWellFormedExpr e
expr_well e is = record {
  tails = is.tails;
  deep = λ var. omega (arith, is.deep var);
}

cond_well : (c : PCond) → CondFits 0 c → IsShallowCond c
cond_well c is = λ var. omega (arith, is.deep var)

pub well_inscribed : (i : PInscription) → FormFits i.form → IsWellFormedInscription i
well_inscribed i is = record {
  exprs = All-from_recursion IsWellFormedExpr (exprs_of i.form)
      (each_weaker (ExprFits 0) IsWellFormedExpr expr_well (exprs_of i.form) is.exprs);
  conds = All-from_recursion IsShallowCond (conds_of i.form)
      (each_weaker (CondFits 0) IsShallowCond cond_well (conds_of i.form) is.conds);
}
