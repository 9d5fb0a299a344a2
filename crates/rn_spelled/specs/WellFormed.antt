-- What the plain form of each text has, and no rule asks: names are identifiers and no reserved
-- words, brackets don't nest too deep, and before each tail of a list stands an element.
use Rattle.std.specs.Prelude.{ℕ, Bool, true, ◌&&◌, ◌≤◌, List, [], ◌∷◌, length, flat_map, nat_le}
use Rattle.std.specs.Prelude.{Some, None, All, IsTrue}
use Rattle.std.specs.List.{list_all}
use Rattle.rn_value.specs.Words.{IsName}
use Rattle.rn_model.specs.Limits.{most_nested}
use Rattle.rn_model.specs.Kinds.{kind_depth, value_depth, expr_depth}
use Rattle.rn_model.specs.Good.{cond_depth}
use Rattle.rn_inscript.specs.declared.exprs.PExpr.{PExpr, fold-PExpr}
use Rattle.rn_inscript.specs.declared.exprs.PForm.TheOpen as F
use Rattle.rn_inscript.specs.declared.conds.PCond.{PCond, fold-PCond}
use Rattle.rn_inscript.specs.declared.conds.PSimple.TheOpen as S
use Rattle.rn_inscript.specs.declared.inscriptions.PInscribed.{PInscribed}
use Rattle.rn_inscript.specs.declared.inscriptions.PInscribed.TheVariants as I
use Rattle.rn_inscript.specs.declared.inscriptions.PInscription.{PInscription}
use Rattle.rn_net.specs.declared.kinds.PKind.{PKind}
use Rattle.rn_net.specs.declared.plain.Plain.{Plain}
use Rattle.rn_net.specs.declared.plain.PChannel.{PChannel}
use Rattle.rn_net.specs.declared.plain.PVar.{PVar}
use Rattle.rn_net.specs.declared.plain.PPlace.{PPlace}
use Rattle.rn_net.specs.declared.plain.PTransition.{PTransition}
use Rattle.rn_net.specs.declared.plain.PNet.{PNet}
use Rattle.rn_numbered.specs.Numbered.{kind_of, value_of, expr_of, cond_of}

-- one expression, with whether in each of its parts an element stands before each tail
abbrev pub tails_step : F.PForm-F Bool Bool → Bool
tails_step (F.Tuple parts) = list_all (λ p. p) parts
tails_step (F.List parts) = list_all (λ p. p) parts
tails_step (F.Cons parts tail) = nat_le 1 (length parts) && list_all (λ p. p) parts && tail
tails_step (F.Neg a) = a
tails_step (F.Op op a b) = a && b
tails_step _ = true

-- whether before each tail of a list in an expression stands an element
abbrev pub tails_follow : PExpr → Bool
tails_follow = fold-PExpr Bool Bool tails_step (λ e. e.form)

-- one condition without `&&` and `||`, with the expressions of a negated one
abbrev pub simple_exprs_step : S.PSimple-F (List PExpr) (List PExpr) → List PExpr
simple_exprs_step (S.Compare kind a b) = a ∷ b ∷ []
simple_exprs_step (S.Bare e) = e ∷ []
simple_exprs_step (S.Not cond) = cond

-- all expressions of a condition
abbrev pub exprs_in : PCond → List PExpr
exprs_in =
    fold-PCond (List PExpr) (List PExpr) simple_exprs_step
    (λ cond. flat_map (λ simples. flat_map (λ s. s) simples) cond.any)

-- the expressions of an inscription
abbrev pub exprs_of : PInscribed → List PExpr
exprs_of (I.Arc kind place None) = []
exprs_of (I.Arc kind place (Some e)) = e ∷ []
exprs_of (I.Guard cond) = exprs_in cond
exprs_of (I.Print e) = e ∷ []
exprs_of (I.Set var e) = e ∷ []
exprs_of (I.Uplink channel args) = args
exprs_of (I.New var net) = []
exprs_of (I.Downlink target channel args) = target ∷ args
exprs_of (I.Equality a b) = a ∷ b ∷ []

-- the conditions of an inscription
abbrev pub conds_of : PInscribed → List PCond
conds_of (I.Guard cond) = cond ∷ []
conds_of _ = []

-- brackets don't nest too deep in an expression, whatever numbers its names have, and before each
-- tail stands an element
pub record IsWellFormedExpr (e : PExpr) : Type 0 where
  pub tails : IsTrue (tails_follow e)
  pub deep : (var : List ℕ → ℕ) → expr_depth (expr_of e var) ≤ most_nested

-- so does each condition
abbrev pub IsShallowCond : PCond → Type 0
IsShallowCond cond = (var : List ℕ → ℕ) → cond_depth (cond_of cond var) ≤ most_nested

-- and each kind
abbrev pub IsShallowKind : PKind → Type 0
IsShallowKind kind = kind_depth (kind_of kind) ≤ most_nested

pub record IsWellFormedInscription (i : PInscription) : Type 0 where
  pub exprs : All IsWellFormedExpr (exprs_of i.form)
  pub conds : All IsShallowCond (conds_of i.form)

pub record IsWellFormedTransition (t : PTransition) : Type 0 where
  pub name : IsName t.name.text
  pub inscriptions : All IsWellFormedInscription t.inscriptions

pub record IsWellFormedVar (v : PVar) : Type 0 where
  pub name : IsName v.name.text
  pub kind : IsShallowKind v.kind

pub record IsWellFormedPlace (p : PPlace) : Type 0 where
  pub name : IsName p.name.text
  pub kind : IsShallowKind p.kind
  pub initial : All (λ token. value_depth (value_of token) ≤ most_nested) p.initial

pub record IsWellFormedNet (net : PNet) : Type 0 where
  pub name : IsName net.name.text
  pub vars : All IsWellFormedVar net.vars
  pub places : All IsWellFormedPlace net.places
  pub transitions : All IsWellFormedTransition net.transitions

pub record IsWellFormedChannel (channel : PChannel) : Type 0 where
  pub name : IsName channel.name.text
  pub kinds : All IsShallowKind channel.kinds

-- each part of the plain form is well formed
pub record IsWellFormed (plain : Plain) : Type 0 where
  pub channels : All IsWellFormedChannel plain.channels
  pub nets : All IsWellFormedNet plain.nets
