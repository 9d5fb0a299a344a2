-- What an alternative of an operator application means.
use Rattle.std.proofs.Common.{◌≡◌, ℕ, zero, suc, ◌<◌, List, map, refl, sym, ap, ◌∙◌, arith}
use Rattle.std.specs.Prelude.{ℤ, Option, Some, None, slice_get, option_map, option_and_then}
use Rattle.std.proofs.lemmas.Option.{slice_get-map}
use Rattle.rn_value.specs.declared.value.Value.TheVariants as Value
use Rattle.rn_model.specs.Derivation.{Hole}
use Rattle.rn_model.specs.Derivation as D
use Rattle.rn_growing.specs.declared.decision.Head.{Head}
use Rattle.rn_growing.specs.declared.decision.Decision.{Decision}
use Rattle.rn_growing.specs.declared.decision.Decision.TheVariants.{Computed}
use Rattle.rn_growing.specs.Decisions.{transition_in, site_of}
use Rattle.rn_growing.proofs.SameUnknowns.{as_site, site_of-is}
use Rattle.rn_search.specs.declared.point.Point.TheVariants as P
use Rattle.rn_search.specs.Sought.{Sought}
use Rattle.rn_search.specs.Points.{node_of, holes_of, only_at, offered}
use Rattle.rn_binding.specs.declared.applications.Application.{Application}
use Rattle.rn_binding.specs.link.Applications.{application_of}

module _ (sought : Sought) (ds : List Decision) (node k : ℕ) (n : ℤ) (a : ℕ) where
  abbrev head : Head
  head = node_of sought ds node

  abbrev result_of : D.Site × Hole → Option Decision
  result_of hole = only_at a (Computed head (as_site hole.0) hole.1.way (Value.Int n))

  -- there is one alternative alone,
  pub result_once : 0 < a → offered sought ds (P.Result node k n) a ≡ None
  result_once some = by a some (slice_get (holes_of (transition_in sought.system head)) k)
    where
      by : (b : ℕ) → 0 < b → (o : Option (D.Site × Hole)) →
          option_and_then
          (λ hole. only_at b (Computed head (as_site hole.0) hole.1.way (Value.Int n))) o ≡ None
      by zero some o = absurd (let no : ⊥ = omega (arith, some) in no)
      by (suc b) some None = refl
      by (suc b) some (Some hole) = refl

  -- none where there is no such operator application,
  pub result_past : (found : List Application) →
      map application_of found ≡ holes_of (transition_in sought.system head) →
      slice_get found k ≡ None → offered sought ds (P.Result node k n) a ≡ None
  result_past found are none =
      ap (option_and_then result_of)
      (ap (λ hs. slice_get hs k) (sym are) ∙ slice_get-map application_of found k
      ∙ ap (option_map application_of) none)

  -- and else its value is computed.
  pub result_is : (found : List Application) (it : Application) →
      map application_of found ≡ holes_of (transition_in sought.system head) →
      slice_get found k ≡ Some it → a ≡ 0 →
      offered sought ds (P.Result node k n) a
      ≡ Some (Computed head it.site it.way (Value.Int n))
  result_is found it are at first =
      ap (option_and_then result_of)
      (ap (λ hs. slice_get hs k) (sym are) ∙ slice_get-map application_of found k
      ∙ ap (option_map application_of) at)
      ∙ ap (λ b. only_at b (Computed head (as_site (site_of it.site)) it.way (Value.Int n))) first
      ∙ ap (λ s. Some (Computed head s it.way (Value.Int n))) (site_of-is it.site)

  pub result_made : (found : List Application) (it : Application) (on : Head) (way : List ℕ) →
      map application_of found ≡ holes_of (transition_in sought.system head) →
      slice_get found k ≡ Some it → a ≡ 0 → on ≡ head → way ≡ it.way →
      Some (Computed on it.site way (Value.Int n)) ≡ offered sought ds (P.Result node k n) a
  result_made found it on way are at first on_it along =
      ap (λ h. Some (Computed h it.site way (Value.Int n))) on_it
      ∙ ap (λ w. Some (Computed head it.site w (Value.Int n))) along
      ∙ sym (result_is found it are at first)
