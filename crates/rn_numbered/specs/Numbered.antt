-- Kinds, constants, expressions, conditions and inscriptions with numbers in place of names.
use Rattle.std.specs.Prelude.{ℕ, List, [], ◌∷◌, length, map, flat_map}
use Rattle.std.specs.Prelude.{Option, Some, None, unwrap_or, slice_get, option_map, min, nat_abs}
use Rattle.rn_value.specs.declared.value.Kind.{Kind}
use Rattle.rn_value.specs.declared.value.Kind.TheVariants as Kind
use Rattle.rn_value.specs.declared.value.Value.{Value}
use Rattle.rn_value.specs.declared.value.Value.TheVariants as Value
use Rattle.rn_model.specs.declared.expr.Expr.{Expr}
use Rattle.rn_model.specs.declared.expr.Expr.TheVariants as Expr
use Rattle.rn_model.specs.declared.expr.Cond.{Cond, roll-Cond}
use Rattle.rn_model.specs.declared.expr.Simple.{Simple}
use Rattle.rn_model.specs.declared.expr.Simple.TheVariants as Simple
use Rattle.rn_model.specs.declared.expr.CompareKind.TheVariants.{Same}
use Rattle.rn_model.specs.declared.system.Transition.{Transition}
use Rattle.rn_model.specs.declared.system.NetArc.{NetArc}
use Rattle.rn_model.specs.declared.system.Uplink.{Uplink}
use Rattle.rn_model.specs.declared.system.Downlink.{Downlink}
use Rattle.rn_model.specs.declared.system.Creation.{Creation}
use Rattle.rn_model.specs.declared.system.Action.{Action}
use Rattle.rn_inscript.specs.declared.exprs.PExpr.{PExpr, fold-PExpr}
use Rattle.rn_inscript.specs.declared.exprs.PForm.TheOpen as F
use Rattle.rn_inscript.specs.declared.conds.PCond.{PCond, fold-PCond}
use Rattle.rn_inscript.specs.declared.conds.PSimple.TheOpen as S
use Rattle.rn_inscript.specs.declared.inscriptions.PInscribed.{PInscribed}
use Rattle.rn_inscript.specs.declared.inscriptions.PInscribed.TheVariants as I
use Rattle.rn_net.specs.declared.kinds.PKind.{PKind, fold-PKind}
use Rattle.rn_net.specs.declared.kinds.PKindForm.TheOpen as K
use Rattle.rn_net.specs.declared.constants.PConst.{PConst, fold-PConst}
use Rattle.rn_net.specs.declared.constants.PConstForm.TheOpen as C
use Rattle.rn_net.specs.declared.plain.PMax.{PMax}
use Rattle.rn_model.specs.Limits.{greatest_capacity}
use Rattle.rn_declared.specs.Names.{number_among}

-- one kind that stands in a text
abbrev pub kind_of_form : K.PKindForm-F Kind Kind → Kind
kind_of_form K.Int = Kind.Int
kind_of_form K.Text = Kind.Text
kind_of_form (K.Tuple kinds) = Kind.Tuple kinds
kind_of_form (K.List kind) = Kind.List kind
kind_of_form K.Net = Kind.Net

-- the kind without its spots
abbrev pub kind_of : PKind → Kind
kind_of = fold-PKind Kind Kind kind_of_form (λ kind. kind.form)

-- one constant
abbrev pub value_of_form : C.PConstForm-F Value Value → Value
value_of_form (C.Int n) = Value.Int n
value_of_form (C.Text text) = Value.Text text
value_of_form (C.Tuple values) = Value.Tuple values
value_of_form (C.List values) = Value.List values

-- the value of a constant
abbrev pub value_of : PConst → Value
value_of = fold-PConst Value Value value_of_form (λ const. const.form)

-- The capacity of a place, where it has one. A number that is too great, which is broken, stands
-- for the greatest capacity, and a negative one, which is in no text, for the number without its
-- sign.
abbrev pub capacity_of : Option PMax → Option ℕ
capacity_of = option_map (λ (max : PMax). min (nat_abs max.number) greatest_capacity)

-- the number of a name among these, and 0 where it isn't
abbrev pub number_in : List (List ℕ) → List ℕ → ℕ
number_in names name = unwrap_or (number_among names name) 0

-- one expression, where variables have these numbers
abbrev pub expr_of_form : F.PForm-F ((List ℕ → ℕ) → Expr) ((List ℕ → ℕ) → Expr) →
    (List ℕ → ℕ) → Expr
expr_of_form (F.Int n) var = Expr.Int n
expr_of_form (F.Text text) var = Expr.Text text
expr_of_form (F.Name name) var = Expr.Var (var name)
expr_of_form F.This var = Expr.This
expr_of_form F.Step var = Expr.Step
expr_of_form (F.Tuple parts) var = Expr.Tuple (map (λ part. part var) parts)
expr_of_form (F.List parts) var = Expr.List (map (λ part. part var) parts)
expr_of_form (F.Cons parts tail) var = Expr.Cons (map (λ part. part var) parts) (tail var)
expr_of_form (F.Neg a) var = Expr.Neg (a var)
expr_of_form (F.Op op a b) var = Expr.Op op (a var) (b var)

-- the expression with numbers in place of names, where variables have these
abbrev pub expr_of : PExpr → (List ℕ → ℕ) → Expr
expr_of = fold-PExpr ((List ℕ → ℕ) → Expr) ((List ℕ → ℕ) → Expr) expr_of_form (λ e. e.form)

-- One comparison or negation. An expression without comparison, which is broken, stands for the
-- comparison with itself.
abbrev pub simple_of_form : S.PSimple-F ((List ℕ → ℕ) → Simple) ((List ℕ → ℕ) → Cond) →
    (List ℕ → ℕ) → Simple
simple_of_form (S.Compare kind a b) var = Simple.Compare kind (expr_of a var) (expr_of b var)
simple_of_form (S.Bare e) var = Simple.Compare Same (expr_of e var) (expr_of e var)
simple_of_form (S.Not cond) var = Simple.Not (cond var)

-- the condition with numbers in place of names
abbrev pub cond_of : PCond → (List ℕ → ℕ) → Cond
cond_of =
    fold-PCond ((List ℕ → ℕ) → Simple) ((List ℕ → ℕ) → Cond) simple_of_form
    (λ cond var. roll-Cond (record { any = map (map (λ simple. simple var)) cond.any }))

-- what names mean in a net
pub record Numbers : Type 0 where
  pub var : List ℕ → ℕ
  pub place : List ℕ → ℕ
  pub net : List ℕ → ℕ
  pub channel : List ℕ → ℕ → ℕ

-- the inscription of an arc; an absent one, which is broken where it stands, for the empty list
abbrev pub inscription_of : Numbers → Option PExpr → Expr
inscription_of to None = Expr.List []
inscription_of to (Some e) = expr_of e to.var

-- the parts of a transition that one inscription gives

abbrev pub equality_of : Numbers → PInscribed → List (Expr × Expr)
equality_of to (I.Equality a b) = (expr_of a to.var, expr_of b to.var) ∷ []
equality_of to _ = []

abbrev pub guard_of : Numbers → PInscribed → List Cond
guard_of to (I.Guard cond) = cond_of cond to.var ∷ []
guard_of to _ = []

abbrev pub action_of : Numbers → PInscribed → List Action
action_of to (I.Print e) = Action.Print (expr_of e to.var) ∷ []
action_of to (I.Set var e) = Action.Set (to.var var.text) (expr_of e to.var) ∷ []
action_of to _ = []

abbrev pub creation_of : Numbers → PInscribed → List Creation
creation_of to (I.New var net) = record { var = to.var var.text; net = to.net net.text } ∷ []
creation_of to _ = []

abbrev pub uplink_of : Numbers → PInscribed → List Uplink
uplink_of to (I.Uplink channel args) =
    record {
      channel = to.channel channel.text (length args);
      args = map (λ e. expr_of e to.var) args;
    }
    ∷ []
uplink_of to _ = []

abbrev pub downlink_of : Numbers → PInscribed → List Downlink
downlink_of to (I.Downlink target channel args) =
    record {
      target = expr_of target to.var;
      channel = to.channel channel.text (length args);
      args = map (λ e. expr_of e to.var) args;
    }
    ∷ []
downlink_of to _ = []

abbrev pub arc_of : Numbers → PInscribed → List NetArc
arc_of to (I.Arc kind place e) =
    record { kind = kind; place = to.place place.text; inscription = inscription_of to e } ∷ []
arc_of to _ = []

-- the transition of these inscriptions, each part in the order of the text, but for its variables
abbrev pub inscribed : Numbers → List ℕ → List PInscribed → Transition
inscribed to name is = record {
  name = name;
  vars = [];
  action_vars = [];
  equalities = flat_map (equality_of to) is;
  guards = flat_map (guard_of to) is;
  actions = flat_map (action_of to) is;
  creations = flat_map (creation_of to) is;
  uplink = slice_get (flat_map (uplink_of to) is) 0;
  downlinks = flat_map (downlink_of to) is;
  arcs = flat_map (arc_of to) is;
}
