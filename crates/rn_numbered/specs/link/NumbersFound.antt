-- The numbers that the sets of the code find. It connects the code with the definitions, and states
-- no rule.
use Rattle.std.specs.Prelude.{◌<◌, ◌^◌, ◌&&◌, ℕ, Bool, nat_eq, List, []}
use Rattle.std.specs.Prelude.{Option, Some, None, unwrap_or, length}
use Rattle.std.specs.List.{position_from}
use Rattle.rn_model.specs.declared.expr.Expr.{Expr}
use Rattle.rn_model.specs.declared.expr.Expr.TheVariants as Expr
use Rattle.rn_inscript.specs.declared.exprs.PExpr.{PExpr}
use Rattle.rn_net.specs.declared.plain.PChannel.{PChannel}
use Rattle.rn_numbered.specs.declared.inscribed.Tables.{Tables}
use Rattle.rn_declared.specs.Names.{same_name}
use Rattle.rn_numbered.specs.Numbered.{Numbers, number_in, expr_of}

-- a channel's name, and how many arguments it has
abbrev pub key_of : PChannel → List ℕ × ℕ
key_of channel = (channel.name.text, length channel.kinds)

-- whether a channel has this name and so many arguments
abbrev pub is_key : List ℕ → ℕ → List ℕ × ℕ → Bool
is_key name count key = same_name key.0 name && nat_eq key.1 count

-- the number of a channel among these, and 0 where it isn't
abbrev pub channel_by : List (List ℕ × ℕ) → List ℕ → ℕ → ℕ
channel_by keys name count = unwrap_or (position_from (is_key name count) 0 keys) 0

-- what names mean, where these are declared
abbrev pub numbers_by : Tables → Numbers
numbers_by tables = record {
  var = number_in tables.vars.now;
  place = number_in tables.places.now;
  net = number_in tables.nets.now;
  channel = channel_by tables.channels.now;
}

-- the inscription of an arc, and the empty list where it is absent
abbrev pub expr_of_arc : Option PExpr → (List ℕ → ℕ) → Expr
expr_of_arc None var = Expr.List []
expr_of_arc (Some e) var = expr_of e var

-- the index of each has 32 bits
abbrev pub AreFew : {A : Type 0} → List A → Type 0
AreFew xs = length xs < 2 ^ 32

-- the numbers of all these names have 32 bits
pub record AllFew (tables : Tables) : Type 0 where
  pub vars : AreFew tables.vars.now
  pub places : AreFew tables.places.now
  pub nets : AreFew tables.nets.now
  pub channels : AreFew tables.channels.now
