-- The last entry, where there is one.
use Rattle.std.proofs.Common.{◌≡◌, sym, ap, ◌∙◌, subst, false}
use Rattle.std.specs.Prelude.{◌↔◌, Some, IsTrue}
use Rattle.std.specs.Option.{option_copied}
use Rattle.rn_replay.specs.link.Parts.{cause_of}
use Rattle.rn_replay.proofs.ending.has_cause.Goals as goal

pub returns-in-Some : goal.returns-in-Some
returns-in-Some c =
    let last = sym c.last.ensures.value ∙ ap option_copied c.in-Some.is in
    subst (λ o. IsTrue c.ends_by.result ↔ (cause_of o ≡ Some c.args.cause)) (sym last)
    c.ends_by.ensures

pub returns-in-None : goal.returns-in-None
returns-in-None c =
    let last = sym c.last.ensures.value ∙ ap option_copied c.in-None.is in
    subst (λ o. IsTrue false ↔ (cause_of o ≡ Some c.args.cause)) (sym last)
    (λ e. absurd (let never : ⊥ = cc in never), λ e. absurd (let never : ⊥ = cc in never))
