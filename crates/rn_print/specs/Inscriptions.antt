-- The canonical text of inscriptions.
use Rattle.std.specs.Prelude.{ℕ, List, [], ◌++◌, codes, Option, Some, None}
use Rattle.rn_model.specs.declared.system.ArcKind.{ArcKind}
use Rattle.rn_model.specs.declared.system.ArcKind.TheVariants.{Input, Output, Test, Reserve}
use Rattle.rn_model.specs.declared.system.ArcKind.TheVariants.{FlexInput, FlexOutput, Inhibit}
use Rattle.rn_model.specs.declared.system.ArcKind.TheVariants.{Clear}
use Rattle.rn_inscript.specs.declared.exprs.PExpr.{PExpr}
use Rattle.rn_inscript.specs.declared.inscriptions.PInscribed.{PInscribed}
use Rattle.rn_inscript.specs.declared.inscriptions.PInscribed.TheVariants as I
use Rattle.rn_inscript.specs.declared.inscriptions.PName.{PName}
use Rattle.rn_print.specs.Pieces.{in_parentheses}
use Rattle.rn_print.specs.Expressions.{expr_text, exprs_text}
use Rattle.rn_print.specs.Conditions.{cond_text}

-- the word of a kind of arcs, and the space after it
abbrev pub arc_word : ArcKind → List ℕ
arc_word Input = codes "in "
arc_word Output = codes "out "
arc_word Test = codes "test "
arc_word Reserve = codes "reserve "
arc_word FlexInput = codes "flexin "
arc_word FlexOutput = codes "flexout "
arc_word Inhibit = codes "inhibit "
arc_word Clear = codes "clear "

-- what stands after the place of an arc: an absent inscription leaves out the colon
abbrev pub after_place : Option PExpr → List ℕ
after_place None = []
after_place (Some expr) = codes ": " ++ expr_text expr

-- a channel with its arguments, `ch(e1,e2)`
abbrev pub call_text : PName → List PExpr → List ℕ
call_text channel args = channel.text ++ in_parentheses (exprs_text args)

-- `in p: e`, `guard c`, `action print e`, `action v = e`, `:ch(e1,e2)`, `x: new n`, `t:ch(e1,e2)`
-- and `e1 = e2`
abbrev pub inscribed_text : PInscribed → List ℕ
inscribed_text (I.Arc kind place inscription) =
    arc_word kind ++ place.text ++ after_place inscription
inscribed_text (I.Guard cond) = codes "guard " ++ cond_text cond
inscribed_text (I.Print expr) = codes "action print " ++ expr_text expr
inscribed_text (I.Set var value) = codes "action " ++ var.text ++ codes " = " ++ expr_text value
inscribed_text (I.Uplink channel args) = codes ":" ++ call_text channel args
inscribed_text (I.New var net) = var.text ++ codes ": new " ++ net.text
inscribed_text (I.Downlink target channel args) =
    expr_text target ++ codes ":" ++ call_text channel args
inscribed_text (I.Equality a b) = expr_text a ++ codes " = " ++ expr_text b
