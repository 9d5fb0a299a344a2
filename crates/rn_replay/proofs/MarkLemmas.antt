-- Marks that are told, and those of what is live.
use Rattle.std.proofs.Common.{◌≡◌, List, ap, ◌∙◌, subst}
use Rattle.std.specs.Prelude.{◌↔◌, Bool, IsTrue}
use Rattle.rn_model.specs.declared.system.System.{System}
use Rattle.rn_model.specs.declared.log.MarkLine.{MarkLine}
use Rattle.rn_model.specs.Liveness.{LivePart, Stands}
use Rattle.rn_model.specs.Markings.{Marking}
use Rattle.rn_model.proofs.OneLivePart.{live_part_is_unique, tables_have_the_same_part}

-- lines with the same parts
pub same_parts : (a b : MarkLine) → a.inst ≡ b.inst → a.net ≡ b.net → a.place ≡ b.place →
    a.values ≡ b.values → a ≡ b
same_parts a b inst net place values =
    ap (λ x. let l : MarkLine = record a { inst = x } in l) inst
    ∙ ap (λ x. let l : MarkLine = record a { inst = b.inst; net = x } in l) net
    ∙ ap (λ x. let l : MarkLine = record b { place = x; values = a.values } in l) place
    ∙ ap (λ x. let l : MarkLine = record b { values = x } in l) values

-- the lines of a table that stands for a marking decide which are the marking's
pub marks_decide : (system : System) (table m : Marking) (lines marks : List MarkLine) (answer : Bool) →
    Stands system table m → LivePart system table lines → IsTrue answer ↔ (lines ≡ marks) →
    IsTrue answer ↔ LivePart system m marks
marks_decide system table m lines marks answer stands part same =
    let there = tables_have_the_same_part system table m marks stands in (
      λ is. there.0 (subst (LivePart system table) (same.0 is) part),
      λ told. same.1 (live_part_is_unique system table lines marks part (there.1 told)),
    )
