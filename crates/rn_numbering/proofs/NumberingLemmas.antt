-- Transitions with numbers in place of names.
use Rattle.std.proofs.Common.{◌≡◌, ℕ, List, [], map, refl, ap, ◌∙◌}
use Rattle.std.specs.Prelude.{flat_map, slice_get}
use Rattle.std.proofs.lemmas.List.Folds.{flat_map-map}
use Rattle.rn_model.specs.declared.system.Transition.{Transition}
use Rattle.rn_inscript.specs.declared.inscriptions.PInscription.{PInscription}
use Rattle.rn_numbered.specs.Numbered.{Numbers, inscribed}
use Rattle.rn_numbering.specs.link.Making.{bare_transition}
use Rattle.rn_numbered.specs.Numbered.{equality_of, guard_of, action_of, creation_of, uplink_of}
use Rattle.rn_numbered.specs.Numbered.{downlink_of, arc_of}

-- the lists of a transition, from its inscriptions and from their forms
pub inscribed_is : (to : Numbers) (name : List ℕ) (is : List PInscription) →
    record {
      name = name;
      vars = [];
      action_vars = [];
      equalities = flat_map (λ i. equality_of to i.form) is;
      guards = flat_map (λ i. guard_of to i.form) is;
      actions = flat_map (λ i. action_of to i.form) is;
      creations = flat_map (λ i. creation_of to i.form) is;
      uplink = slice_get (flat_map (λ i. uplink_of to i.form) is) 0;
      downlinks = flat_map (λ i. downlink_of to i.form) is;
      arcs = flat_map (λ i. arc_of to i.form) is;
    } ≡ inscribed to name (map (λ i. i.form) is)
inscribed_is to name is =
    rw (
      flat_map-map (equality_of to) (λ i. i.form) is,
      flat_map-map (guard_of to) (λ i. i.form) is,
      flat_map-map (action_of to) (λ i. i.form) is,
      flat_map-map (creation_of to) (λ i. i.form) is,
      flat_map-map (uplink_of to) (λ i. i.form) is,
      flat_map-map (downlink_of to) (λ i. i.form) is,
      flat_map-map (arc_of to) (λ i. i.form) is,
    ) refl

abbrev with_local : Numbers → List PInscription → Transition → Transition
with_local to is t = record t {
  equalities = flat_map (λ i. equality_of to i.form) is;
  guards = flat_map (λ i. guard_of to i.form) is;
  actions = flat_map (λ i. action_of to i.form) is;
  creations = flat_map (λ i. creation_of to i.form) is;
}

abbrev with_joined : Numbers → List PInscription → Transition → Transition
with_joined to is t = record t {
  uplink = slice_get (flat_map (λ i. uplink_of to i.form) is) 0;
  downlinks = flat_map (λ i. downlink_of to i.form) is;
  arcs = flat_map (λ i. arc_of to i.form) is;
}

-- the transition that was made in these steps
pub made_of : (to : Numbers) (name : List ℕ) (is : List PInscription)
    (first second third : Transition) → first ≡ bare_transition name →
    second ≡ with_local to is first → third ≡ with_joined to is second →
    third ≡ inscribed to name (map (λ i. i.form) is)
made_of to name is first second third a b c =
    c ∙ ap (with_joined to is) (b ∙ ap (with_local to is) a) ∙ inscribed_is to name is
