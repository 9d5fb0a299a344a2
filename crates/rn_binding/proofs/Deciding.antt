-- What is decided is what is in.
use Rattle.std.proofs.Common.{◌≡◌, ℕ, ◌&&◌, true, false, List}
use Rattle.std.proofs.Common.{refl, sym, ap, ◌∙◌, subst}
use Rattle.std.specs.Prelude.{Contains, Option, None, nat_eq}
use Rattle.std.specs.List.{list_any}
use Rattle.std.specs.Cmp.Lexicographic.{pointwise}
use Rattle.std.proofs.lemmas.Bool.{eqb-true, eq-eqb}
use Rattle.rn_model.specs.declared.system.System.{System}
use Rattle.rn_model.specs.declared.system.NetArc.{NetArc}
use Rattle.rn_model.specs.declared.binding.Node.{Node}
use Rattle.rn_model.specs.declared.binding.Binding.{Binding}
use Rattle.rn_model.specs.Bindings.{Shape}
use Rattle.rn_model.specs.Derivation.{Item, entry, found, computed, Hole, items_of}
use Rattle.rn_growing.specs.declared.decision.Site.{Site}
use Rattle.rn_growing.specs.declared.decision.Head.{Head}
use Rattle.rn_growing.specs.declared.decision.Caller.{Caller}
use Rattle.rn_growing.specs.declared.decision.Decision.{Decision}
use Rattle.rn_growing.specs.declared.decision.Decision.TheVariants.{Entered, Found, Computed}
use Rattle.rn_growing.specs.Decisions.{site_of, head_of, IsOn, AreOn}
use Rattle.rn_growing.specs.link.Layouts.{same_site}
use Rattle.rn_growing.specs.Turns.{SameThing}
use Rattle.rn_growing.proofs.SameUnknowns.{site_is}
use Rattle.rn_growing.proofs.SameUnknowns.{site_itself, as_site, site_of-is}
use Rattle.rn_growing.proofs.NewThings.{some_passes, none_passes, alike, both_are}
use Rattle.rn_growing.proofs.SoundItems.{items_sound}
use Rattle.rn_growing.proofs.Followers.{item_in, decision_in, closed_entry, closed_found}
use Rattle.rn_growing.proofs.Followers.{closed_computed}
use Rattle.rn_growing.specs.Decided.{enters, finds, computes}
use Rattle.rn_binding.specs.link.Passing.{IsDecided}
use Rattle.rn_items.proofs.Numbers.{same_numbers}
use Rattle.rn_items.proofs.Bools.{both_true}

module _ (system : System) (b : Binding) (depth : ℕ) (shape : Shape system b depth)
    (ds : List Decision) (items : List Item) (on : AreOn system b ds items) where
  -- what is decided on the thing of an item is on the item
  decided_thing : (d e : Decision) (item : Item) → Contains (items_of system b) item →
      IsOn system d item → SameThing d e → Contains ds e → Contains items item
  decided_thing (Entered h c) e (entry node) own is same there =
      let it = item_in system b ds items on e there in
      closed_entry system b depth shape items h c node (items_sound system b (entry node) own) is e
      it.0 same it.1 it.2
  decided_thing (Found h k v) e (found node j x) own is same there =
      let it = item_in system b ds items on e there in
      closed_found system b depth shape items j v node x own e it.0
      (subst (λ i. SameThing (Found (head_of node) i v) e) is.1
      (subst (λ g. SameThing (Found g k v) e) is.0 same)) it.1 it.2
  decided_thing (Computed h site way v) e (computed node s hole) own is same there =
      let it = item_in system b ds items on e there in
      closed_computed system b depth shape items site v node s hole is.1 own e it.0
      (subst (λ w. SameThing (Computed (head_of node) site w v) e) is.2
      (subst (λ g. SameThing (Computed g site way v) e) is.0 same)) it.1 it.2
  decided_thing (Entered h c) e (found node j x) own is same there = absurd is
  decided_thing (Entered h c) e (computed node s hole) own is same there = absurd is
  decided_thing (Found h k v) e (entry node) own is same there = absurd is
  decided_thing (Found h k v) e (computed node s hole) own is same there = absurd is
  decided_thing (Computed h site way v) e (entry node) own is same there = absurd is
  decided_thing (Computed h site way v) e (found node j x) own is same there = absurd is

  same_itself : (d : Decision) → SameThing d d
  same_itself (Entered h c) = refl
  same_itself (Found h k v) = (refl, refl)
  same_itself (Computed h site way v) = (refl, refl, refl)

  -- what is decided is in, and the other way round
  pub decided_is_in : (item : Item) → Contains (items_of system b) item →
      IsDecided system ds item → Contains items item
  decided_is_in item own (d, there, is) = decided_thing d d item own is (same_itself d) there

  pub in_is_decided : (item : Item) → Contains items item → IsDecided system ds item
  in_is_decided item there =
      let d = decision_in system b ds items on item there in (d.0, d.1, d.2.1)

  -- by the test for entries
  entry_by : (path : List ℕ) (d : Decision) → enters path d ≡ true →
      (head : Head) × (caller : Option Caller) × (d ≡ Entered head caller) × (head.path ≡ path)
  entry_by path (Entered head caller) e = (head, caller, refl, same_numbers head.path path e)
  entry_by path (Found head k v) e = absurd (let no : ⊥ = cc in no)
  entry_by path (Computed head site way v) e = absurd (let no : ⊥ = cc in no)

  pub entered_is_in : (node : Node) → Contains (items_of system b) (entry node) →
      list_any (enters node.path) ds ≡ true → Contains items (entry node)
  entered_is_in node own e =
      let d = some_passes (enters node.path) ds e in
      let is = entry_by node.path d.0 d.2 in
      decided_thing (Entered (head_of node) None) d.0 (entry node) own refl
      (subst (SameThing (Entered (head_of node) None)) (sym is.2) (sym is.3)) d.1

  pub not_entered : (node : Node) → list_any (enters node.path) ds ≡ false →
      Contains items (entry node) → ⊥
  not_entered node e there = of_decision (in_is_decided (entry node) there)
    where
      of_decision : IsDecided system ds (entry node) → ⊥
      of_decision (Entered h c, inside, is) =
          none_passes (enters node.path) ds (Entered h c) e inside
          (alike h.path node.path (ap (λ g. g.path) is))
      of_decision (Found h k v, inside, is) = absurd is
      of_decision (Computed h site way v, inside, is) = absurd is

  -- by the test for arcs
  pub found_is_in : (node : Node) (k : ℕ) (x : NetArc) →
      Contains (items_of system b) (found node k x) → list_any (finds node.path k) ds ≡ true →
      Contains items (found node k x)
  found_is_in node k x own e =
      let d = some_passes (finds node.path k) ds e in by d.0 d.1 d.2
    where
      by : (d : Decision) → Contains ds d → finds node.path k d ≡ true →
          Contains items (found node k x)
      by (Found h j v) there f =
          let both = both_true (pointwise nat_eq h.path node.path) (nat_eq j k) f in
          let it = item_in system b ds items on (Found h j v) there in
          closed_found system b depth shape items k v node x own (Found h j v) it.0
          (sym (same_numbers h.path node.path both.0), sym (eqb-true j k both.1)) it.1 it.2
      by (Entered h c) there f = absurd (let no : ⊥ = cc in no)
      by (Computed h site way v) there f = absurd (let no : ⊥ = cc in no)

  pub not_found : (node : Node) (k : ℕ) (x : NetArc) → list_any (finds node.path k) ds ≡ false →
      Contains items (found node k x) → ⊥
  not_found node k x e there = of_decision (in_is_decided (found node k x) there)
    where
      of_decision : IsDecided system ds (found node k x) → ⊥
      of_decision (Found h j v, inside, is) =
          none_passes (finds node.path k) ds (Found h j v) e inside
          (both_are (pointwise nat_eq h.path node.path) (nat_eq j k)
          (alike h.path node.path (ap (λ g. g.path) is.0)) (eq-eqb j k is.1))
      of_decision (Entered h c, inside, is) = absurd is
      of_decision (Computed h site way v, inside, is) = absurd is

  -- by the test for operator applications
  pub computed_is_in : (node : Node) (site : Site) (hole : Hole) →
      Contains (items_of system b) (computed node (site_of site) hole) →
      list_any (computes node.path site hole.way) ds ≡ true →
      Contains items (computed node (site_of site) hole)
  computed_is_in node site hole own e =
      let d = some_passes (computes node.path site hole.way) ds e in by d.0 d.1 d.2
    where
      by : (d : Decision) → Contains ds d → computes node.path site hole.way d ≡ true →
          Contains items (computed node (site_of site) hole)
      by (Computed h at along v) there f =
          let both = both_true (pointwise nat_eq h.path node.path)
          (same_site at site && pointwise nat_eq along hole.way) f in
          let rest = both_true (same_site at site) (pointwise nat_eq along hole.way) both.1 in
          let it = item_in system b ds items on (Computed h at along v) there in
          closed_computed system b depth shape items site v node (site_of site) hole refl own
          (Computed h at along v) it.0 (
            sym (same_numbers h.path node.path both.0),
            sym (ap site_of (site_is at site rest.0)),
            sym (same_numbers along hole.way rest.1),
          ) it.1 it.2
      by (Entered h c) there f = absurd (let no : ⊥ = cc in no)
      by (Found h k v) there f = absurd (let no : ⊥ = cc in no)

  pub not_computed : (node : Node) (site : Site) (hole : Hole) →
      list_any (computes node.path site hole.way) ds ≡ false →
      Contains items (computed node (site_of site) hole) → ⊥
  not_computed node site hole e there = of_decision (in_is_decided (computed node (site_of site) hole) there)
    where
      of_decision : IsDecided system ds (computed node (site_of site) hole) → ⊥
      of_decision (Computed h at along v, inside, is) =
          none_passes (computes node.path site hole.way) ds (Computed h at along v) e inside
          (both_are (pointwise nat_eq h.path node.path)
          (same_site at site && pointwise nat_eq along hole.way)
          (alike h.path node.path (ap (λ g. g.path) is.0))
          (both_are (same_site at site) (pointwise nat_eq along hole.way)
          (subst (λ s. same_site s site ≡ true)
          (sym (sym (site_of-is at) ∙ ap as_site is.1 ∙ site_of-is site)) (site_itself site))
          (alike along hole.way is.2)))
      of_decision (Entered h c, inside, is) = absurd is
      of_decision (Found h k v, inside, is) = absurd is
