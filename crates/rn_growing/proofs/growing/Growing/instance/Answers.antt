use Rattle.std.proofs.Common.{◌≡◌, ◌∙◌, ap, subst}
use Rattle.std.specs.Prelude.{None, Some, ◌↔◌}
use Rattle.std.proofs.lemmas.Option.{same_Some}
use Rattle.rn_value.specs.declared.value.InstRef.{InstRef}
use Rattle.rn_value.specs.declared.value.Value.{Value}
use Rattle.rn_value.specs.declared.value.Value.TheVariants as Worth
use Rattle.rn_growing.specs.Equations.{IsForcedTo}
use Rattle.rn_growing.specs.link.Laid.{IsGiven}
use Rattle.rn_growing.specs.link.Layouts.{asked}
use Rattle.rn_growing.proofs.ForcedInstances.{told_instance}
use Rattle.rn_growing.proofs.growing.Growing.instance.Goals as goal

pub returns-in-Some : goal.returns-in-Some
returns-in-Some c =
    let given : (v : Value) → (Some c.in-Some.value ≡ Some v) ↔ IsGiven c.self.inside.laid
    c.args.head.now.path c.args.unknown.now v =
    subst (λ p. (v : Value) → (Some c.in-Some.value ≡ Some v) ↔ IsGiven c.self.inside.laid p
    c.args.unknown.now v) (c.as_slice.ensures ∙ c.deref.ensures) (rw c.in-Some.is at c.in_ok-value.ensures) in
    let names : (i : InstRef) → (c.instance_in.result ≡ Some i) ↔
    (Some c.in-Some.value ≡ Some (Worth.Inst i)) =
    λ i. (
      λ e. ap Some ((c.instance_in.ensures i).0 e),
      λ e. (c.instance_in.ensures i).1
          (same_Some c.in-Some.value (Worth.Inst i) e),
    ) in
    subst (λ g. (i : InstRef) → (c.instance_in.result ≡ Some i) ↔ IsForcedTo g.system g.decisions
    (λ a. Some (asked a c.args.head.now.path c.args.unknown.now)) (Worth.Inst i))
    c.self.view_is
    (told_instance c.self.inside.system.now c.self.inside.laid c.self.inside.decisions.items
    c.self.invariant.0.says c.args.head.now.path c.args.unknown.now (Some c.in-Some.value)
    c.instance_in.result given names)

pub returns-in-None : goal.returns-in-None
returns-in-None c =
    let given : (v : Value) → (None ≡ Some v) ↔ IsGiven c.self.inside.laid c.args.head.now.path
    c.args.unknown.now v =
    subst (λ p. (v : Value) → (None ≡ Some v) ↔ IsGiven c.self.inside.laid p c.args.unknown.now
    v) (c.as_slice.ensures ∙ c.deref.ensures) (rw c.in-None.is at c.in_ok-value.ensures) in
    subst (λ g. (i : InstRef) → (None ≡ Some i) ↔ IsForcedTo g.system g.decisions
    (λ a. Some (asked a c.args.head.now.path c.args.unknown.now)) (Worth.Inst i))
    c.self.view_is
    (told_instance c.self.inside.system.now c.self.inside.laid c.self.inside.decisions.items
    c.self.invariant.0.says c.args.head.now.path c.args.unknown.now None None given
    (λ i. (λ e. absurd (let no : ⊥ = cc in no), λ e. absurd (let no : ⊥ = cc in no))))
