-- Kinds of the known arguments of a call, and of what an answer knows by them.
use Rattle.std.specs.Prelude.{ℕ, ◌≡◌, List, Option, Some, IfSome, slice_get}
use Rattle.rn_value.specs.Kinds.{HasKind}
use Rattle.rn_value.specs.declared.value.Kind.{Kind}
use Rattle.rn_value.specs.declared.value.Value.{Value}
use Rattle.rn_model.specs.declared.expr.Expr.{Expr}
use Rattle.rn_model.specs.declared.system.System.{System}
use Rattle.rn_model.specs.declared.system.Transition.{Transition}
use Rattle.rn_model.specs.Kinds.{HasExprKind}
use Rattle.rn_model.specs.Systems.{channel_kinds, uplink_args}
use Rattle.rn_channel.specs.Answering.{answering}
use Rattle.rn_growing.specs.declared.decision.Head.{Head}
use Rattle.rn_growing.specs.Grown.{Grown}
use Rattle.rn_looking.specs.NodeKinds.{AreOfKinds, GuardsCompare, HasItsKinds}

-- each known value has the kinds of its argument, which stands at the same index
abbrev pub HaveKindsOfArgs : Grown → Head → List Expr → List (Option Value) → Type 0
HaveKindsOfArgs g head args values = (k : ℕ) (e : Expr) (v : Value) →
    slice_get args k ≡ Some e → slice_get values k ≡ Some (Some v) → HasItsKinds g head e v

-- each has the kind at the same index
abbrev pub HaveKindsBeside : List Kind → List (Option Value) → Type 0
HaveKindsBeside kinds values = (k : ℕ) (kind : Kind) (v : Value) →
    slice_get kinds k ≡ Some kind → slice_get values k ≡ Some (Some v) → HasKind v kind

-- a value shares a kind with an argument
abbrev pub FitsArg : (ℕ → Kind) → Expr → Value → Type 0
FitsArg kinds e v = (kind : Kind) × HasExprKind kinds e kind × HasKind v kind

-- each shares one with the argument at the same index
abbrev pub FitArgs : (ℕ → Kind) → List Expr → List (Option Value) → Type 0
FitArgs kinds args values = (k : ℕ) (e : Expr) (v : Value) →
    slice_get args k ≡ Some e → slice_get values k ≡ Some (Some v) → FitsArg kinds e v

-- values fit the uplink of a transition, and its guards compare what they may
abbrev pub FitAnswer : Transition → List (Option Value) → Type 0
FitAnswer t values = (kinds : ℕ → Kind) × GuardsCompare kinds t
    × FitArgs kinds (uplink_args t) values

-- so what is known of its variables has their kinds
abbrev pub KnowsAnswer : Transition → List (ℕ × Value) → Type 0
KnowsAnswer t pairs = (kinds : ℕ → Kind) × GuardsCompare kinds t × AreOfKinds kinds pairs

-- values fit the transitions of a net that answer a channel
abbrev pub FitAnswers : System → ℕ → List ℕ → List (Option Value) → Type 0
FitAnswers system net answers values = (channel : ℕ) × (answers ≡ answering system net channel)
    × HaveKindsBeside (channel_kinds system channel) values

-- What is put beside a variable has its kind where it has that of the argument: all pairs are of
-- kinds, if they were.
abbrev pub PutsVar : ℕ → Value → List (ℕ × Value) → List (ℕ × Value) → Type 0
PutsVar x v old new = (kinds : ℕ → Kind) → HasKind v (kinds x) → AreOfKinds kinds old →
    AreOfKinds kinds new

abbrev pub PutsArg : Expr → Value → List (ℕ × Value) → List (ℕ × Value) → Type 0
PutsArg e v old new = (kinds : ℕ → Kind) (kind : Kind) → HasExprKind kinds e kind →
    HasKind v kind → AreOfKinds kinds old → AreOfKinds kinds new

-- so too where the value may be unknown
abbrev pub PutsKnown : Expr → Option Value → List (ℕ × Value) → List (ℕ × Value) → Type 0
PutsKnown e told old new = (kinds : ℕ → Kind) → IfSome told (FitsArg kinds e) →
    AreOfKinds kinds old → AreOfKinds kinds new

abbrev pub PutsArgs : List Expr → List (Option Value) → List (ℕ × Value) → List (ℕ × Value) →
    Type 0
PutsArgs args values old new = (kinds : ℕ → Kind) → FitArgs kinds args values →
    AreOfKinds kinds old → AreOfKinds kinds new
