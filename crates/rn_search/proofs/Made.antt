-- Instances to which decisions force terms are made by nodes that were entered.
use Rattle.std.proofs.Common.{◌≡◌, ℕ, ◌<◌, ◌≤◌, Bool, true, false, List, ◌++◌, length}
use Rattle.std.proofs.Common.{take}
use Rattle.std.proofs.Common.{refl, sym, ap, ◌∙◌, subst, arith}
use Rattle.std.specs.Prelude.{Option, Some, option_map, slice_get, Contains, nat_eq, nat_lt}
use Rattle.std.specs.Cmp.Lexicographic.{pointwise}
use Rattle.std.proofs.lemmas.Bool.Decides.{nat_tests}
use Rattle.std.proofs.lemmas.List.Elements.{Contains-append_left}
use Rattle.std.proofs.lemmas.Option.{slice_get-get_or, slice_get_within}
use Rattle.rn_items.proofs.Bools.{true_both}
use Rattle.rn_items.proofs.Numbers.{numbers_themselves}
use Rattle.rn_value.specs.declared.value.InstRef.{InstRef}
use Rattle.rn_value.specs.declared.value.InstRef.TheVariants.{Old, New}
use Rattle.rn_value.specs.declared.value.Value.{Value}
use Rattle.rn_model.specs.declared.expr.Expr.{Expr}
use Rattle.rn_model.specs.declared.system.System.{System}
use Rattle.rn_model.specs.declared.system.Creation.{Creation}
use Rattle.rn_model.specs.Lists.{HaveOneValue}
use Rattle.rn_model.specs.SoundTokens.{holds_new}
use Rattle.rn_model.specs.Derivation.{Assignment, left, right, uplink_arg, downlink_arg, arc}
use Rattle.rn_model.specs.Derivation as D
use Rattle.rn_model.proofs.LiveByRounds.{any_contained, contained_any}
use Rattle.rn_model.proofs.ReplacedValues.{replaced, replaced-Int, replaced-Inst}
use Rattle.rn_model.proofs.ReplacedReadings.{term_value-replaced}
use Rattle.rn_model.proofs.PassingInstances.{only, only-Inst, kept, kept_plain, kept_passing}
use Rattle.rn_model.proofs.PassingInstances.{only_is_kept, kept_is_only, names_passing}
use Rattle.rn_growing.specs.declared.decision.Head.{Head}
use Rattle.rn_growing.specs.declared.decision.Caller.{Caller}
use Rattle.rn_growing.specs.declared.decision.Decision.{Decision}
use Rattle.rn_growing.specs.declared.decision.Decision.TheVariants.{Entered, Found, Computed}
use Rattle.rn_growing.specs.Decisions.{transition_in}
use Rattle.rn_growing.specs.Equations.{EntryBrings, Brings, Solves, read_at}
use Rattle.rn_growing.specs.Turns.{IsEntered, AreInTurn}
use Rattle.rn_growing.proofs.Growth.{some_equal, front_at, at_in}
use Rattle.rn_search.specs.Making.{makes, is_made, NamesMade, NameMade, ForcedAreMade}

-- a node that was entered before was entered
pub entered_later : (ds : List Decision) (k : ℕ) (head : Head) → IsEntered (take k ds) head →
    k < length ds → IsEntered ds head
entered_later ds k head (caller, (j, h, e)) low =
    let c : Decision = Entered head caller in
    let room : k ≤ length ds = omega (arith, low) in
    let before = front_at ds k j c (slice_get-get_or (take k ds) j c h ∙ ap Some e) room in
    (caller, at_in ds j c before.1)

-- the caller of a node that was entered was entered
pub caller_entered : (system : System) (ds : List Decision) → AreInTurn system ds → (head : Head)
    (from : Caller) → Contains ds (Entered head (Some from)) → IsEntered ds from.head
caller_entered system ds turns head from (k, h, e) =
    let at : slice_get ds k ≡ Some (Entered head (Some from)) =
    slice_get-get_or ds k (Entered head (Some from)) h ∙ ap Some e in
    entered_later ds k from.head (turns.came k (Entered head (Some from)) at).entered h

module _ (system : System) (ds : List Decision) (turns : AreInTurn system ds)
    (made : NameMade system ds) where
  abbrev good : InstRef → Bool
  good = is_made system ds

  abbrev rep : Value → Value
  rep = replaced (kept good)

  new_passes : (v : Value) → holds_new v ≡ false → only good v ≡ true
  new_passes v none = names_passing good v (record {
    old = λ n e. refl;
    new = λ path j e.
        absurd (let both : false ≡ true = sym none ∙ e in let no : ⊥ = cc in no);
  })

  -- values with each instance that isn't made replaced
  abbrev other : Assignment → Assignment
  other a = record {
    var = λ path x. rep (a.var path x);
    hole = λ path site way. rep (a.hole path site way);
  }

  read_other : (a : Assignment) (head : Head) (site : D.Site) (e : Expr) →
      good head.inst ≡ true → read_at (other a) head site e ≡ option_map rep (read_at a head
      site e)
  read_other a head site e is =
      term_value-replaced (kept good) (kept_plain good) e
      (record { this = head.inst; var = a.var head.path; hole = a.hole head.path site })
      (kept_passing good head.inst is)

  both_other : (x y u w : Option Value) → u ≡ option_map rep x → w ≡ option_map rep y →
      HaveOneValue x y → HaveOneValue u w
  both_other x y u w e f (v, p, q) =
      (rep v, e ∙ ap (option_map rep) p, f ∙ ap (option_map rep) q)

  its_inst : (head : Head) → IsEntered ds head → good head.inst ≡ true
  its_inst head (caller, there) = made (Entered head caller) there

  made_here : (head : Head) (caller : Option Caller) (j : ℕ) (c : Creation) →
      Contains ds (Entered head caller) →
      slice_get (transition_in system head).creations j ≡ Some c →
      good (New head.path j) ≡ true
  made_here head caller j c there at =
      let creations = (transition_in system head).creations in
      let within : j < length creations = slice_get_within creations j c at in
      let low : nat_lt j (length creations) ≡ true = grind (arith, nat_tests) in
      contained_any (makes system head.path j) ds (Entered head caller) there
      (true_both (pointwise nat_eq head.path head.path) (nat_lt j (length creations))
      (numbers_themselves head.path) low)

  entry_other : (a : Assignment) (head : Head) (caller : Option Caller) →
      Contains ds (Entered head caller) → EntryBrings system a head caller →
      EntryBrings system (other a) head caller
  entry_other a head caller there brings =
      let is = its_inst head (caller, there) in
      record {
        equalities = λ k e at.
            both_other (read_at a head (left k) e.0) (read_at a head (right k) e.1)
            (read_at (other a) head (left k) e.0) (read_at (other a) head (right k) e.1)
            (read_other a head (left k) e.0 is) (read_other a head (right k) e.1 is)
            (brings.equalities k e at);
        creations = λ j c at.
            ap rep (brings.creations j c at) ∙ replaced-Inst (kept good) (New head.path j)
            ∙ kept_passing good (New head.path j) (made_here head caller j c there at);
        args = λ from downlink named at k e f here answered.
            let by : Contains ds (Entered head (Some from)) =
            subst (λ o. Contains ds (Entered head o)) named there in
            let from_is = its_inst from.head (caller_entered system ds turns head from by) in
            both_other (read_at a from.head (downlink_arg from.downlink k) e)
            (read_at a head (uplink_arg k) f)
            (read_at (other a) from.head (downlink_arg from.downlink k) e)
            (read_at (other a) head (uplink_arg k) f)
            (read_other a from.head (downlink_arg from.downlink k) e from_is)
            (read_other a head (uplink_arg k) f is)
            (brings.args from downlink named at k e f here answered);
      }

  found_other : (a : Assignment) (head : Head) (k : ℕ) (v : Value) → IsEntered ds head →
      Contains ds (Found head k v) → Brings system a (Found head k v) →
      Brings system (other a) (Found head k v)
  found_other a head k v entered there brings x at =
      read_other a head (arc k) x.inscription (its_inst head entered)
      ∙ ap (option_map rep) (brings x at)
      ∙ ap Some (only_is_kept good v (new_passes v (made (Found head k v) there)))

  in_other : (a : Assignment) (k : ℕ) (d : Decision) → slice_get ds k ≡ Some d →
      Brings system a d → Brings system (other a) d
  in_other a k (Entered head caller) at brings =
      entry_other a head caller (at_in ds k (Entered head caller) at) brings
  in_other a k (Found head j v) at brings =
      found_other a head j v (entered_later ds k head (turns.came k (Found head j v) at).0
      (slice_get_within ds k (Found head j v) at))
      (at_in ds k (Found head j v) at) brings
  in_other a k (Computed head site way v) at brings =
      let int = made (Computed head site way v) (at_in ds k (Computed head site way v) at) in
      ap rep (brings ∙ int.1) ∙ replaced-Int (kept good) int.0 ∙ sym int.1

  solves_other : (a : Assignment) → Solves system ds a → Solves system ds (other a)
  solves_other a solves d there =
      let at : slice_get ds there.0 ≡ Some d = slice_get-get_or ds there.0 d there.1 ∙ ap Some
      there.2
      in in_other a there.0 d at (solves d there)

-- each instance to which an expression of an entered node is forced is made
pub forced_are_made : ForcedAreMade
forced_are_made system ds head site e i turns (a, solves) made entered forced =
    let good = is_made system ds in
    let is = its_inst system ds turns made head entered in
    let read = forced a solves in
    let also = forced (other system ds turns made a) (solves_other system ds turns made a
    solves) in
    let same : Some (replaced (kept good) (Value.Inst i)) ≡ Some (Value.Inst i) =
    sym (read_other system ds turns made a head site e is ∙ ap (option_map (replaced (kept
    good))) read)
    ∙ also in
    sym (only-Inst good i)
    ∙ kept_is_only good (Value.Inst i)
    (some_equal (replaced (kept good) (Value.Inst i)) (Value.Inst i) same)

inst_by_more : (system : System) (ds more : List Decision) (i : InstRef) →
    is_made system ds i ≡ true → is_made system (ds ++ more) i ≡ true
inst_by_more system ds more (Old n) is = refl
inst_by_more system ds more (New path j) is =
    let one = any_contained (makes system path j) ds is in
    contained_any (makes system path j) (ds ++ more) one.0
    (Contains-append_left ds more one.0 one.1) one.2

-- what a decision names is made by more of them as well
pub names_by_more : (system : System) (ds more : List Decision) (d : Decision) →
    NamesMade system ds d → NamesMade system (ds ++ more) d
names_by_more system ds more (Entered head caller) is = inst_by_more system ds more head.inst is
names_by_more system ds more (Found head k v) is = is
names_by_more system ds more (Computed head site way v) is = is
