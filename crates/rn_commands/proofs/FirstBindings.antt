-- The bindings that are enabled at the start can be written there.
use Rattle.std.proofs.Common.{◌≡◌, ◌<◌, ◌+◌, ◌++◌, ℕ, suc, List, [], ◌∷◌, drop, length, get_or, add-one, drop-cons, sym, ap, ◌∙◌, subst}
use Rattle.std.specs.Prelude.{◌↔◌, All, Contains, Err, IfOk, Ok, Result}
use Rattle.std.specs.List.{AllAdjacentBelow}
use Rattle.std.proofs.lemmas.List.Elements.{All-contains_itself}
use Rattle.rn_model.specs.declared.system.System.{System}
use Rattle.rn_model.specs.declared.binding.Binding.{Binding}
use Rattle.rn_model.specs.Enabling.{Enabled}
use Rattle.rn_model.specs.Good.{Good}
use Rattle.rn_model.specs.Markings.{Marking, initial_marking}
use Rattle.rn_record.specs.RecordText.{binding_text, first_names}
use Rattle.rn_state_record.proofs.TextsOfLogs.{enabled_have_lines}
use Rattle.rn_commands.specs.Bindings.{AreEnabledFirst, IsBelow, bindings_text, numbered_lead}
use Rattle.rn_commands.specs.link.Bindings.{HasFirstLines}

pub first_lines : (system : System) (depth : ℕ) (found : List Binding) → Good system →
    AreEnabledFirst system depth found → All (HasFirstLines system) found
first_lines system depth found good first k d less =
    enabled_have_lines system depth [] _ good tt
    ((first.just _).0 (All-contains_itself found k d less))

-- what is found at the first marking
pub all_first : {A E : Type 0} (items : A → List Binding) (system : System) (m : Marking) (depth : ℕ)
    (r : Result A E) → m ≡ initial_marking system →
    IfOk r (λ a. (b : Binding) → Contains (items a) b ↔ Enabled system m b depth) →
    IfOk r (λ a. AllAdjacentBelow IsBelow (items a) (length (items a))) →
    IfOk r (λ a. AreEnabledFirst system depth (items a))
all_first items system m depth (Ok a) start just ascending = record {
  just = λ b. subst (λ x. Contains (items a) b ↔ Enabled system x b depth) start (just b);
  ascending = ascending;
}
all_first items system m depth (Err e) start just ascending = tt

-- the lines of the bindings from one on begin with its own
pub lines_from : (system : System) (found : List Binding) (k : ℕ) (b : Binding) → k < length found →
    get_or found k b ≡ b →
    bindings_text system (k + 1) (drop k found)
    ≡ binding_text system first_names (numbered_lead (k + 1)) b
    ++ bindings_text system (k + 1 + 1) (drop (k + 1) found)
lines_from system found k b within at =
    ap (bindings_text system (k + 1)) (drop-cons found k b within ∙ ap (λ x. x ∷ drop (suc k) found) at)
    ∙ ap (λ j. binding_text system first_names (numbered_lead (k + 1)) b
    ++ bindings_text system (suc (k + 1)) (drop j found)) (sym (add-one k))
    ∙ ap (λ j. binding_text system first_names (numbered_lead (k + 1)) b
    ++ bindings_text system j (drop (k + 1) found)) (sym (add-one (k + 1)))
