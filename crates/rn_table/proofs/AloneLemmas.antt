-- One token alone in a place.
use Rattle.std.proofs.Common.{◌≡◌, ℕ, nat_eq, true, false, cond, List, [], ◌∷◌, get_or, set, map, refl, sym, ap, ◌∙◌}
use Rattle.std.specs.Prelude.{filter}
use Rattle.std.specs.List.{enumerate_from}
use Rattle.std.proofs.lemmas.Bool.{eqb-true}
use Rattle.rn_value.specs.declared.value.Value.{Value}
use Rattle.rn_model.specs.declared.system.System.{System}
use Rattle.rn_model.specs.Markings.{Instance, Marking}
use Rattle.rn_model.specs.Systems.{may_start}
use Rattle.rn_table.specs.Alone.{alone, with_tokens}
use Rattle.rn_table.specs.Tables.{starting_in}
use Rattle.rn_table.specs.link.Steps.{Step, moved, stepped, step_at, after_step}
use Rattle.rn_table.proofs.ChangeLemmas.{starts_changed}
use Rattle.rn_table.proofs.StepLemmas.{other_stays, step_of_places, with_places}

module _ (s : Step) (n place : ℕ) (vs : List Value) (inst : s.inst ≡ n) (at : s.place ≡ place) (lone : s.alone ≡ true) (held : moved s [] ≡ vs) where
  stepped_alone : (ws : List Value) → stepped s ws ≡ vs
  stepped_alone ws = ap (λ b. moved s (cond b [] ws)) lone ∙ held

  abbrev with_it : Instance → Instance
  with_it i = cond (nat_eq i.number s.inst) (with_tokens s.place vs i) i

  one_alone : (i : Instance) → after_step s i ≡ with_it i
  one_alone i = elim (nat_eq i.number s.inst) as (λ b. nat_eq i.number s.inst ≡ b → after_step s i ≡ cond b (with_tokens s.place vs i) i) [
    | true ↦ λ e. sym (step_of_places s i (eqb-true i.number s.inst e)) ∙ ap (λ ws. with_places i (set i.places s.place ws)) (stepped_alone (get_or i.places s.place []))
    | false ↦ λ e. other_stays s i e
  ] refl

  all_alone : (is : List Instance) → map (after_step s) is ≡ map with_it is
  all_alone [] = refl
  all_alone (i ∷ is) = ap (λ j. j ∷ map (after_step s) is) (one_alone i) ∙ ap (λ r. with_it i ∷ r) (all_alone is)

  -- instances, of which one has these tokens alone in its place
  pub instances_alone : (is : List Instance) → map (after_step s) is ≡ map (λ i. cond (nat_eq i.number n) (with_tokens place vs i) i) is
  instances_alone is =
      all_alone is ∙ ap (λ k. map (λ (i : Instance). cond (nat_eq i.number k) (with_tokens s.place vs i) i) is) inst
      ∙ ap (λ k. map (λ (i : Instance). cond (nat_eq i.number n) (with_tokens k vs i) i) is) at

  pub starts_alone : (system : System) (m : Marking) → starting_in system (alone n place vs m) ≡ starting_in system m
  starts_alone system m =
      ap (λ is. map (λ (i : Instance). i.number) (filter (λ i. may_start system i.net) is)) (sym (instances_alone m.instances))
      ∙ starts_changed system (λ i. map (λ p. step_at s i.number p.0 p.1) (enumerate_from 0 i.places)) m.instances
