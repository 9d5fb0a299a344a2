-- The bindings that are enabled after the entries of a session, and their numbers.
use Rattle.std.proofs.Common.{◌≡◌, ℕ, suc, ◌+◌, ◌<◌, List, ◌∷◌, ◌++◌, length, drop, get_or, add-one, drop-cons, inr, refl, sym, ap, ◌∙◌, subst}
use Rattle.std.specs.Prelude.{◌≢◌, ◌↔◌, All, Contains, IfOk, IfSome, IfNone, IsNone, Option, Some, None, Result, Ok, Err}
use Rattle.std.specs.List.{AllAdjacentBelow}
use Rattle.std.specs.declared.cmp.Ordering.TheVariants.{Greater}
use Rattle.std.proofs.lemmas.List.Elements.{All-contains_itself}
use Rattle.rn_model.specs.declared.binding.Binding.{Binding}
use Rattle.rn_model.specs.declared.system.System.{System}
use Rattle.rn_model.specs.Enabling.{DeadAt, Enabled}
use Rattle.rn_model.specs.Markings.{Marking}
use Rattle.rn_model.specs.Order.{binding_cmp}
use Rattle.rn_table.specs.Tables.{Kept}
use Rattle.rn_record.specs.RecordText.{binding_text}
use Rattle.rn_record.specs.Writable.{HasLines}
use Rattle.rn_fire.specs.States.{State, IsState, end_marking}
use Rattle.rn_served.specs.Listed.{AreEnabled, IsBelow, IsNumbered, NoneIsNumbered, numbered, numbered_text}
use Rattle.rn_served.proofs.NumberedBindings.{least_is_first, none_is_first}
use Rattle.rn_state_record.proofs.TextsOfLogs.{enabled_have_lines}
use Rattle.rn_session.specs.link.Serving.{names_at}

-- what is said of a table is said of the end of the log
pub at_end : (P : System → Marking → ℕ → Type 0) (s : State) (system : System) (t : Kept) (depth : ℕ) →
    system ≡ s.setup.system → t ≡ s.table → depth ≡ s.setup.options.depth →
    s.table.marking ≡ end_marking s → P system t.marking depth →
    P s.setup.system (end_marking s) s.setup.options.depth
at_end P s system t depth own table deep all is =
    subst (λ d. P s.setup.system (end_marking s) d) deep
    (subst (λ m. P s.setup.system m depth) (ap (λ (x : Kept). x.marking) table ∙ all)
    (subst (λ x. P x t.marking depth) own is))

module _ (system : System) (m : Marking) (depth : ℕ) where
  -- the list of all
  pub are_enabled : {A E : Type 0} (items : A → List Binding) (r : Result A E) →
      IfOk r (λ a. (b : Binding) → Contains (items a) b ↔ Enabled system m b depth) →
      IfOk r (λ a. AllAdjacentBelow IsBelow (items a) (length (items a))) →
      IfOk r (λ a. AreEnabled system m depth (items a))
  are_enabled items (Ok a) just ascending = record { just = just; ascending = ascending }
  are_enabled items (Err e) just ascending = tt

  -- the first of them
  pub first_some : {E : Type 0} (r : Result (Option Binding) E) →
      IfOk r (λ found. IfSome found (λ b. Enabled system m b depth
      × ((c : Binding) → Enabled system m c depth → binding_cmp b c ≢ Greater))) →
      IfOk r (λ found. IfSome found (λ b. IsNumbered system m depth 1 b))
  first_some (Ok None) is = tt
  first_some (Ok (Some b)) (enabled, least) = least_is_first system m depth b enabled least
  first_some (Err e) is = tt

  pub first_none : {E : Type 0} (r : Result (Option Binding) E) →
      IfOk r (λ found. IsNone found ↔ DeadAt system m depth) →
      IfOk r (λ found. IfNone found (NoneIsNumbered system m depth 1))
  first_none (Ok None) is = none_is_first system m depth (is.0 refl)
  first_none (Ok (Some b)) is = tt
  first_none (Err e) is = tt

  -- no number past the list
  pub none_past : (k : ℕ) (found : List Binding) → AreEnabled system m depth found → length found < k →
      NoneIsNumbered system m depth k
  none_past k found are past = inr (found, are, past)

-- what is enabled can be written
pub have_lines : (s : State) → IsState s → (found : List Binding) →
    AreEnabled s.setup.system (end_marking s) s.setup.options.depth found →
    All (HasLines s.setup.system (names_at s)) found
have_lines s is found are k d less =
    enabled_have_lines s.setup.system s.setup.options.depth s.fired _ is.good is.log.run
    ((are.just _).0 (All-contains_itself found k d less))

-- the lines of the bindings from one on begin with its own
pub lines_from : (system : System) (names : List (List ℕ)) (found : List Binding) (k : ℕ) (b : Binding) →
    k < length found → get_or found k b ≡ b →
    numbered_text system names (k + 1) (drop k found)
    ≡ binding_text system names (numbered (k + 1)) b ++ numbered_text system names (k + 1 + 1) (drop (k + 1) found)
lines_from system names found k b within at =
    ap (numbered_text system names (k + 1)) (drop-cons found k b within ∙ ap (λ x. x ∷ drop (suc k) found) at)
    ∙ ap (λ j. binding_text system names (numbered (k + 1)) b
    ++ numbered_text system names (suc (k + 1)) (drop j found)) (sym (add-one k))
    ∙ ap (λ j. binding_text system names (numbered (k + 1)) b
    ++ numbered_text system names j (drop (k + 1) found)) (sym (add-one (k + 1)))
