-- Operator applications as the code goes through them. It only connects the code to the
-- definitions.
use Rattle.std.specs.Prelude.{ℕ, List, [], ◌∷◌, ◌++◌, map, if◌then◌else◌}
use Rattle.rn_model.specs.declared.expr.Expr.{Expr}
use Rattle.rn_model.specs.declared.system.NetArc.{NetArc}
use Rattle.rn_model.specs.Derivation.{Site, Hole, holes_in, finds_token, arc}
use Rattle.rn_growing.specs.Decisions.{site_of}
use Rattle.rn_binding.specs.declared.applications.Application.{Application}

-- the site and the operator application
abbrev pub application_of : Application → Site × Hole
application_of a = (site_of a.site, record { way = a.way; form = a.form.now })

-- an expression beside its operator applications
abbrev pub with_holes : Expr → Expr × List Hole
with_holes e = (e, holes_in e)

-- an operator application of a part of an expression, to which this way leads
abbrev pub hole_within : Site → List ℕ → Hole → Site × Hole
hole_within site way hole = (site, record { way = way ++ hole.way; form = hole.form })

-- those of an expression at a site
abbrev pub holes_at : Site × Expr → List (Site × Hole)
holes_at s = map (λ hole. (s.0, hole)) (holes_in s.1)

-- the inscription of an arc, if it finds a token
abbrev pub arc_site : ℕ × NetArc → List (Site × Expr)
arc_site e = if finds_token e.1.kind then (arc e.0, e.1.inscription) ∷ [] else []
