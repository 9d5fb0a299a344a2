-- The last entry, where there is one.
use Rattle.std.proofs.Common.{◌≡◌, sym, ap, ◌∙◌, subst, false}
use Rattle.std.specs.Prelude.{◌↔◌, Some, IsTrue}
use Rattle.std.specs.Option.{option_copied}
use Rattle.rn_replay.specs.link.Parts.{outs_of}
use Rattle.rn_replay.proofs.firing.has_printed.Goals as goal

pub returns-in-Some : goal.returns-in-Some
returns-in-Some c =
    let last = sym c.last.ensures.value ∙ ap option_copied c.in-Some.is in
    subst (λ o. IsTrue c.entry_printed.result ↔ (outs_of o ≡ Some c.args.outs.now)) (sym last)
    c.entry_printed.ensures

pub returns-in-None : goal.returns-in-None
returns-in-None c =
    let last = sym c.last.ensures.value ∙ ap option_copied c.in-None.is in
    subst (λ o. IsTrue false ↔ (outs_of o ≡ Some c.args.outs.now)) (sym last)
    (λ e. absurd (let never : ⊥ = cc in never), λ e. absurd (let never : ⊥ = cc in never))
