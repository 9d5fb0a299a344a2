-- What stays so as further decisions come in.
use Rattle.std.proofs.Common.{List, [], ◌∷◌, ◌++◌, length, sym, ap, subst, arith}
use Rattle.std.proofs.Common.{inl, inr}
use Rattle.std.specs.Prelude.{Option, Some, None}
use Rattle.std.proofs.lemmas.List.Elements.{Contains-append_cases, Contains-append_left}
use Rattle.rn_value.specs.declared.value.Value.{Value}
use Rattle.rn_model.specs.declared.system.System.{System}
use Rattle.rn_model.specs.Systems.{vars_in}
use Rattle.rn_model.specs.Derivation.{Assignment}
use Rattle.rn_model.proofs.Rounds.{all_more}
use Rattle.rn_growing.specs.declared.decision.Decision.{Decision}
use Rattle.rn_growing.specs.declared.decision.Decision.TheVariants.{Entered, Found, Computed}
use Rattle.rn_growing.specs.Equations.{IsForced}
use Rattle.rn_growing.specs.Following.{NewAfterOne, EnteredByMore, ForcedByMore, MayComeByMore}
use Rattle.rn_growing.specs.Turns.{IsVarForced, SameThing}
use Rattle.rn_growing.proofs.Growth.{contains_last, only_one}

pub new_after_one : NewAfterOne
new_after_one ds last d = (
  λ fresh. (
    λ e there. fresh e (Contains-append_left ds (last ∷ []) e there),
    fresh last (contains_last ds last),
  ),
  λ both e there. elim (Contains-append_cases ds (last ∷ []) e there) [
    | inl before ↦ both.0 e before
    | inr at_end ↦ λ same. both.1 (subst (λ f. SameThing f d) (sym (only_one last e at_end)) same)
  ],
)

pub entered_by_more : EnteredByMore
entered_by_more ds more head (caller, there) =
    (caller, Contains-append_left ds more (Entered head caller) there)

-- what is forced to a value stays so as more decisions come in
pub forced_by_more : ForcedByMore
forced_by_more system ds more term v forced a solves =
    forced a (λ d there. solves d (Contains-append_left ds more d there))

is_forced_by_more : (system : System) (ds more : List Decision)
    (term : Assignment → Option Value) → IsForced system ds term →
    IsForced system (ds ++ more) term
is_forced_by_more system ds more term forced =
    (forced.0, forced_by_more system ds more term forced.0 forced.1)

pub may_come_by_more : MayComeByMore
may_come_by_more system ds more (Entered head None) some may =
    absurd (let long = ap length may.0 in let no : ⊥ = omega (arith, long, some) in no)
may_come_by_more system ds more (Entered head (Some from)) some may = record {
  entered = entered_by_more ds more from.head may.entered;
  downlink = may.downlink;
  there = may.there;
  path = may.path;
  forced = is_forced_by_more system ds more _ may.forced;
}
may_come_by_more system ds more (Found head k v) some may =
    (entered_by_more ds more head may.0, may.1)
may_come_by_more system ds more (Computed head site way v) some may = (
  entered_by_more ds more head may.0,
  (
    may.1.0,
    may.1.1,
    may.1.2,
    all_more (IsVarForced system ds head) (IsVarForced system (ds ++ more) head)
        (vars_in may.1.0.form)
        (λ x forced. is_forced_by_more system ds more (λ a. Some (a.var head.path x)) forced)
        may.1.3,
  ),
)
