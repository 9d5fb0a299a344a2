-- What a search from one start finds.
use Rattle.std.proofs.Common.{◌≡◌, List, [], ◌≢◌, refl, subst, sym, ap, ◌∙◌}
use Rattle.std.specs.Prelude.{Option, Some, None, Contains, AllPairs, IfSome, IfNone, IsNone, ◌↔◌}
use Rattle.std.specs.Prelude.{Result, Ok, Err, IfOk}
use Rattle.rn_value.specs.declared.value.Value.TheVariants as Value
use Rattle.rn_model.specs.declared.system.System.{System}
use Rattle.rn_model.specs.declared.binding.Binding.{Binding}
use Rattle.rn_model.specs.Derivation.{Assignment}
use Rattle.rn_model.specs.Enabling.{Enabled}
use Rattle.rn_model.proofs.EnablingLemmas.{not_in_nil}
use Rattle.rn_choices.specs.Leading.{NoneLeads}
use Rattle.rn_growing.specs.Grown.{Grown}
use Rattle.rn_search.specs.Sought.{Sought, Leads, StartsAt}
use Rattle.rn_search.proofs.Sound.{none_are_sound}
use Rattle.rn_looking.specs.Branches.{IsBranchOf}
use Rattle.rn_finder.specs.Starting.{AreJust, IsNoStart}

-- some assignment
any_assignment : Assignment
any_assignment = record { var = λ _ _. Value.Tuple []; hole = λ _ _ _. Value.Tuple [] }

-- nothing is decided: a branch of each search
pub opened : (sought : Sought) →
    IsBranchOf sought (record { system = sought.system; decisions = [] })
opened sought = record {
  system = refl;
  sound = none_are_sound sought.system sought.marking sought.depth;
  solvable = (any_assignment, λ d there. absurd (not_in_nil d there));
  start = λ d at. absurd (let no : ⊥ = cc in no);
}

pub opened_at : (sought : Sought) (system : System) (g : Grown) → system ≡ sought.system →
    g ≡ record { system = system; decisions = [] } → IsBranchOf sought g
opened_at sought system g same is =
    subst (IsBranchOf sought)
    (sym (is ∙ ap (λ (s : System). record { system = s; decisions = [] }) same)) (opened sought)

-- what is looked for follows no decisions
pub led : (sought : Sought) (b : Binding) → Enabled sought.system sought.marking b sought.depth →
    StartsAt b sought.start → Leads sought [] b
led sought b enabled starts = record { enabled = enabled; starts = starts; follows = ([], tt) }

pub found_enabled : (sought : Sought) (found : Option Binding) →
    IfSome found (λ b. Leads sought [] b) →
    IfSome found (λ b. Enabled sought.system sought.marking b sought.depth)
found_enabled sought None led = tt
found_enabled sought (Some b) led = led.enabled

pub none_found : (sought : Sought) (found : Option Binding) →
    (IsNone found ↔ NoneLeads (Leads sought) []) →
    IfNone found (IsNoStart sought.system sought.marking sought.depth sought.start)
none_found sought None none = λ b enabled starts. none.0 refl b (led sought b enabled starts)
none_found sought (Some b) none = tt

-- the same of a search that may end without an answer
pub ended_enabled : {H : Type 0} (sought : Sought) (ended : Result (Option Binding) H) →
    IfOk ended (λ found. IfSome found (λ b. Leads sought [] b)) →
    IfOk ended (λ found. IfSome found (λ b. Enabled sought.system sought.marking b sought.depth))
ended_enabled sought (Ok found) led = found_enabled sought found led
ended_enabled sought (Err halt) led = tt

pub ended_none : {H : Type 0} (sought : Sought) (ended : Result (Option Binding) H) →
    IfOk ended (λ found. IsNone found ↔ NoneLeads (Leads sought) []) →
    IfOk ended (λ found. IfNone found
    (IsNoStart sought.system sought.marking sought.depth sought.start))
ended_none sought (Ok found) none = none_found sought found none
ended_none sought (Err halt) none = tt

pub just_found : (sought : Sought) (found : List Binding) →
    ((b : Binding) → Contains found b ↔ Leads sought [] b) → AllPairs (λ b c. b ≢ c) found →
    AreJust sought.system sought.marking sought.depth (λ b. StartsAt b sought.start) found
just_found sought found all once = record {
  so = λ b there. let leads = (all b).0 there in (leads.enabled, leads.starts);
  all = λ b enabled starts. (all b).1 (led sought b enabled starts);
  once = once;
}
