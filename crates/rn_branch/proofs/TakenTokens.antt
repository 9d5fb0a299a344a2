-- How often decisions take a token, one after another.
use Rattle.std.proofs.Common.{◌≡◌, ℕ, ◌+◌, ◌<◌, ◌≤◌, List, [], ◌∷◌, ◌++◌, length, get_or, take}
use Rattle.std.proofs.Common.{refl, sym, ap, ◌∙◌, subst, arith, drop}
use Rattle.std.specs.Prelude.{Contains, Some, nat_eq, slice_get, true}
use Rattle.std.proofs.lemmas.Bool.{eq-eqb}
use Rattle.std.proofs.lemmas.Grind.{flat_map-append}
use Rattle.std.proofs.lemmas.List.{take_more, take-take, take-append-drop}
use Rattle.rn_value.specs.declared.value.InstRef.{InstRef}
use Rattle.rn_value.specs.declared.value.Value.{Value}
use Rattle.rn_model.specs.declared.system.NetArc.{NetArc}
use Rattle.rn_model.specs.declared.system.System.{System}
use Rattle.rn_model.specs.Demands.{takes}
use Rattle.rn_model.specs.Lists.{count_of}
use Rattle.rn_model.proofs.AskedValues.{inst_itself, is_counted}
use Rattle.rn_table.proofs.ChangeLemmas.{count_append}
use Rattle.rn_growing.specs.declared.decision.Decision.{Decision}
use Rattle.rn_growing.specs.declared.decision.Decision.TheVariants.{Found}
use Rattle.rn_growing.specs.declared.decision.Head.{Head}
use Rattle.rn_growing.specs.Decisions.{transition_in}
use Rattle.rn_search.specs.Taking.{taken_by, taken_so_far}
use Rattle.rn_branch.specs.Takings.{Takes}

-- an arc of the place that takes its token
pub its_taking : (system : System) (head : Head) (k place : ℕ) (v : Value) (x : NetArc) →
    slice_get (transition_in system head).arcs k ≡ Some x → x.place ≡ place →
    takes x.kind v ≡ v ∷ [] → taken_by system head.inst place (Found head k v) ≡ v ∷ []
its_taking system head k place v x there here takes_it =
    let same : nat_eq x.place place ≡ true = eq-eqb x.place place here in
    rw (inst_itself head.inst, there, same, takes_it) refl

-- what a decision takes is what it takes of that place
pub it_takes : (system : System) (d : Decision) (inst : InstRef) (place : ℕ) (v : Value) →
    Takes system d inst place v → taken_by system inst place d ≡ v ∷ []
it_takes system d inst place v t =
    subst (λ e. taken_by system inst place e ≡ v ∷ []) (sym t.is)
    (subst (λ i. taken_by system i place (Found t.head t.k v) ≡ v ∷ []) t.on
    (its_taking system t.head t.k place v t.arc t.there t.at t.it))

module _ (system : System) (inst : InstRef) (place : ℕ) (v : Value) where
  abbrev pub taken : List Decision → ℕ
  taken ds = count_of v (taken_so_far system inst place ds)

  module _ (ds : List Decision) (i : ℕ) (d : Decision) (within : i < length ds)
      (is : d ≡ get_or ds i d) (times : ℕ) (low : times ≤ taken (take i ds)) where
    with_it : taken (take (i + 1) ds) ≡ taken (take i ds) + taken (d ∷ [])
    with_it =
        ap taken (take_more ds i d within ∙ ap (λ e. take i ds ++ e ∷ []) (sym is))
        ∙ ap (count_of v) (flat_map-append (taken_by system inst place) (take i ds) (d ∷ []))
        ∙ count_append v (taken_so_far system inst place (take i ds))
        (taken_so_far system inst place (d ∷ []))

    pub taken_still : times ≤ taken (take (i + 1) ds)
    taken_still = let whole = with_it in omega (arith, whole, low)

    pub taken_once_more : taken_by system inst place d ≡ v ∷ [] →
        times + 1 ≤ taken (take (i + 1) ds)
    taken_once_more takes_it =
        let own : taken_so_far system inst place (d ∷ []) ≡ v ∷ [] =
        ap (λ vs. vs ++ []) takes_it in
        let one = is_counted v (taken_so_far system inst place (d ∷ []))
        (subst (λ vs. Contains vs v) (sym own) (0, omega arith, refl)) in
        let whole = with_it in omega (arith, whole, low, one)

  -- those of the first decisions are taken by all
  pub taken_in_front : (n : ℕ) (ds : List Decision) → taken (take n ds) ≤ taken ds
  taken_in_front n ds =
      let whole : taken ds ≡ taken (take n ds) + taken (drop n ds) =
      ap taken (sym (take-append-drop n ds))
      ∙ ap (count_of v) (flat_map-append (taken_by system inst place) (take n ds) (drop n ds))
      ∙ count_append v (taken_so_far system inst place (take n ds))
      (taken_so_far system inst place (drop n ds)) in
      omega (arith, whole)

  pub taken_sooner : (m n : ℕ) (ds : List Decision) → m ≤ n → taken (take m ds) ≤ taken (take n ds)
  taken_sooner m n ds less =
      subst (λ es. taken es ≤ taken (take n ds)) (take-take m n ds less)
      (taken_in_front m (take n ds))
