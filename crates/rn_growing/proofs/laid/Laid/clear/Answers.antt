-- Some assignment satisfies a store without terms: none is to be given a value.
use Rattle.std.proofs.Common.{[], refl, arith}
use Rattle.rn_term.specs.Assignments.{Keeps}
use Rattle.rn_growing.proofs.laid.Laid.clear.Goals as goal

nothing : Keeps (record { terms = []; notes = [] })
nothing = record {
  built = λ id low. absurd (let no : ⊥ = omega (arith, low) in no);
  noted = λ k low. absurd (let no : ⊥ = omega (arith, low) in no);
  satisfied = (
    [],
    record {
      each = refl;
      terms = λ id low. absurd (let no : ⊥ = omega (arith, low) in no);
      links = λ id to linked. absurd (let no : ⊥ = cc in no);
    },
  );
}

pub undo-requires-clause-keeps : goal.undo-requires-clause-keeps
undo-requires-clause-keeps c = nothing
