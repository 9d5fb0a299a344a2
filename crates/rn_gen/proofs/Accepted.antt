-- The workload text is accepted, canonical, and not refused.
use Rattle.std.proofs.Common.{◌≡◌, ℕ, pos, ◌≤◌, [], Contains, refl, ap, ◌∙◌, subst, arith}
use Rattle.rn_notation.specs.declared.token.Spot.{Spot}
use Rattle.rn_net.specs.declared.plain.Plain.{Plain}
use Rattle.rn_net.specs.Texts.{Spells}
use Rattle.rn_net.specs.Laws.{OneSpelled, SpelledIsNotRefused}
use Rattle.rn_declared.specs.declared.fault.Rule.{Rule}
use Rattle.rn_declared.specs.Faults.{broken}
use Rattle.rn_rules.specs.Broken.{BreaksFirst}
use Rattle.rn_numbering.specs.Numbering.{system_of}
use Rattle.rn_rules.specs.Systems.{system_faults}
use Rattle.rn_print.specs.Nets.{canonical_text}
use Rattle.rn_gen.specs.Workload.{workload}
use Rattle.rn_gen.specs.Laws.{WorkloadIsAccepted, WorkloadIsCanonical, WorkloadIsNotRefused}
use Rattle.rn_gen.proofs.Forms.{Stream, workload_form}
use Rattle.rn_gen.proofs.Spelling.{tokens_of, fits, spells, stream_of}
use Rattle.rn_gen.proofs.Texts.{is_canonical}
use Rattle.rn_gen.proofs.Checks.{nothing_broken}

-- the workload text spells the plain form of some stream of tokens
is_spelled : (n : ℕ) → n ≤ 10000 → (at : Stream) × Spells (workload n) (workload_form (pos n) at)
is_spelled n most =
    let read = tokens_of n most in
    (stream_of read.0, spells (workload n) (pos n) read.0 (fits n most) read.1 read.2)

pub accepted : WorkloadIsAccepted
accepted n most =
    let is = is_spelled n most in
    let form = workload_form (pos n) is.0 in (
      form,
      system_of form,
      is.1,
      record { unbroken = nothing_broken (pos n) is.0; means = refl },
    )

pub canonical : OneSpelled → WorkloadIsCanonical
canonical one n plain most is =
    let other = is_spelled n most in
    ap canonical_text (one (workload n) plain (workload_form (pos n) other.0) is other.1)
    ∙ is_canonical n other.0 most

unbroken : (plain : Plain) (rule : Rule) (spot : Spot) → system_faults plain ≡ [] →
    BreaksFirst plain rule spot → ⊥
unbroken plain rule spot none breaks =
    let there = subst (λ faults. Contains faults (broken rule spot)) none breaks.there in
    omega (arith, there.1)

pub not_refused : OneSpelled → SpelledIsNotRefused → WorkloadIsNotRefused
not_refused one none n most =
    let other = is_spelled n most in
    let form = workload_form (pos n) other.0 in (
      λ why is. none (workload n) form why other.1 is,
      λ plain rule spot is breaks.
          let same = one (workload n) plain form is other.1 in
          unbroken plain rule spot
          (ap system_faults same ∙ nothing_broken (pos n) other.0) breaks,
    )
