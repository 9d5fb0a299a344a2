-- When what an arc finds, and an operator application, may come in.
use Rattle.std.proofs.Common.{◌≡◌, ℕ, ◌&&◌, Bool, true, false, List, refl, sym, ap, ◌∙◌}
use Rattle.std.proofs.Common.{subst}
use Rattle.std.specs.Prelude.{Contains, None, Some, All, nat_eq}
use Rattle.std.specs.List.{list_any}
use Rattle.std.specs.Cmp.Lexicographic.{pointwise}
use Rattle.std.proofs.lemmas.Bool.{eq-eqb}
use Rattle.rn_value.specs.declared.value.Value.{Value}
use Rattle.rn_model.specs.declared.system.System.{System}
use Rattle.rn_model.specs.declared.system.NetArc.{NetArc}
use Rattle.rn_model.specs.declared.binding.Node.{Node}
use Rattle.rn_model.specs.declared.binding.Binding.{Binding}
use Rattle.rn_model.specs.Systems.{vars_in}
use Rattle.rn_model.specs.Evaluation.{worth}
use Rattle.rn_model.specs.Bindings.{env_of}
use Rattle.rn_model.specs.Derivation.{Item, entry, found, computed, Hole, items_of}
use Rattle.rn_model.specs.Derivation as M
use Rattle.rn_model.proofs.Rounds.{all_more}
use Rattle.rn_growing.specs.declared.decision.Site.{Site}
use Rattle.rn_growing.specs.declared.decision.Head.{Head}
use Rattle.rn_growing.specs.declared.decision.Decision.{Decision}
use Rattle.rn_growing.specs.declared.decision.Decision.TheVariants.{Entered, Found, Computed}
use Rattle.rn_growing.specs.Decisions.{site_of, head_of, IsOn, AreOn}
use Rattle.rn_growing.specs.Equations.{IsForced}
use Rattle.rn_growing.specs.Grown.{Grown, IsNew}
use Rattle.rn_growing.specs.link.Layouts.{same_site}
use Rattle.rn_growing.specs.Turns.{MayCome, IsEntered, IsVarForced}
use Rattle.rn_growing.proofs.SameUnknowns.{site_itself, as_site, site_of-is}
use Rattle.rn_growing.proofs.SoundItems.{items_sound}
use Rattle.rn_growing.proofs.Followers.{decision_in, forced_over, entered_by, each_is_decided}
use Rattle.rn_growing.specs.Decided.{enters, finds, computes}
use Rattle.rn_binding.specs.link.Passing.{IsGiven, IsFollowed, BringsItem, IsVarForcedOn}
use Rattle.rn_binding.proofs.Coming.{Comes, tried}
use Rattle.rn_binding.proofs.Deciding.{entered_is_in, not_entered, found_is_in, not_found}
use Rattle.rn_binding.proofs.Deciding.{computed_is_in, not_computed, in_is_decided}
use Rattle.rn_growing.proofs.NewThings.{none_passes, both_are, alike}
use Rattle.rn_model.proofs.ItemsOfNodes.{entry_is_item}

-- the answer of a test at the same path
pub tested : (test : List ℕ → Decision → Bool) (answer value : Bool) (ds : List Decision)
    (at path : List ℕ) → answer ≡ list_any (test at) ds → at ≡ path → answer ≡ value →
    list_any (test path) ds ≡ value
tested test answer value ds at path is there e =
    ap (λ p. list_any (test p) ds) (sym there) ∙ sym is ∙ e

-- and along the same way
pub tested_along : (test : List ℕ → List ℕ → Decision → Bool) (answer value : Bool)
    (ds : List Decision) (at path along way : List ℕ) → answer ≡ list_any (test at along) ds →
    at ≡ path → along ≡ way → answer ≡ value → list_any (test path way) ds ≡ value
tested_along test answer value ds at path along way is there same e =
    ap (λ w. list_any (test path w) ds) (sym same)
    ∙ tested (λ p. test p along) answer value ds at path is there e

module _ (system : System) (b : Binding) (given : IsGiven system b) (g : Grown)
    (followed : IsFollowed system b g) where
  abbrev ds : List Decision
  ds = g.decisions

  abbrev items : List Item
  items = followed.follows.0

  on : AreOn system b ds items
  on = followed.follows.1

  -- an item that is in already
  pub already : (item : Item) → Contains items item → BringsItem system b g item g true
  already item there =
      (λ d inside. inside, in_is_decided system b given.depth given.shape ds items on item there)

  is_entered : (node : Node) → Contains b.nodes node → list_any (enters node.path) ds ≡ true →
      IsEntered ds (head_of node)
  is_entered node there entered =
      let inside = entered_is_in system b given.depth given.shape ds items on node
      (entry_is_item system b node there) entered in
      let d = decision_in system b ds items on (entry node) inside in
      entered_by system b given.depth given.shape ds d.0 node d.1 d.2

  -- a value for each item
  decided_value : (item : Item) → Contains (items_of system b) item →
      (d : Decision) × IsOn system d item
  decided_value item own = each_is_decided system b given.depth given.shape given.agrees item own

  module _ (node : Node) (k : ℕ) (x : NetArc)
      (own : Contains (items_of system b) (found node k x)) where
    pub found_already : list_any (finds node.path k) ds ≡ true →
        BringsItem system b g (found node k x) g true
    found_already e = already (found node k x)
        (found_is_in system b given.depth given.shape ds items on node k x own e)

    pub found_early : list_any (finds node.path k) ds ≡ false →
        list_any (enters node.path) ds ≡ false → BringsItem system b g (found node k x) g false
    found_early fresh early = (
      refl,
      λ others follow. (
        not_entered system b given.depth given.shape ds others follow node early,
        not_found system b given.depth given.shape ds others follow node k x fresh,
      ),
    )

    pub found_has_value : worth x.inscription (env_of system node) ≡ None → ⊥
    found_has_value none = by (decided_value (found node k x) own)
      where
        by : (d : Decision) × IsOn system d (found node k x) → ⊥
        by (Found h j v, is) = let value = is.2 in let no : ⊥ = cc in no
        by (Entered h c, is) = absurd is
        by (Computed h site way v, is) = absurd is

    found_is_new : (v : Value) → list_any (finds node.path k) ds ≡ false →
        IsNew ds (Found (head_of node) k v)
    found_is_new v fresh (Found h j w) there same =
        none_passes (finds node.path k) ds (Found h j w) fresh there
        (both_are (pointwise nat_eq h.path node.path) (nat_eq j k)
        (alike h.path node.path same.0) (eq-eqb j k same.1))
    found_is_new v fresh (Entered h c) there same = absurd same
    found_is_new v fresh (Computed h site way w) there same = absurd same

    found_may : (v : Value) → list_any (enters node.path) ds ≡ true →
        MayCome system ds (Found (head_of node) k v)
    found_may v entered =
        let sound = items_sound system b (found node k x) own in
        (is_entered node sound.0 entered, (x, sound.1, sound.2))

    pub found_comes : (head : Head) (v : Value) → head ≡ head_of node →
        worth x.inscription (env_of system node) ≡ Some v →
        list_any (finds node.path k) ds ≡ false → list_any (enters node.path) ds ≡ true →
        Comes system b g (Found head k v) (found node k x)
    found_comes head v at is fresh entered =
        subst (λ h. Comes system b g (Found h k v) (found node k x)) (sym at) (
          subst (λ s. MayCome s ds (Found (head_of node) k v)) (sym followed.same)
              (found_may v entered),
          found_is_new v fresh,
          tried system b given g followed.same items on followed.turns (Found (head_of node) k v)
              (found node k x) own (refl, refl, is) (found_may v entered) (found_is_new v fresh),
        )

  module _ (node : Node) (site : Site) (hole : Hole)
      (own : Contains (items_of system b) (computed node (site_of site) hole)) where
    abbrev item : Item
    item = computed node (site_of site) hole

    pub computed_already : list_any (computes node.path site hole.way) ds ≡ true →
        BringsItem system b g item g true
    computed_already e = already item
        (computed_is_in system b given.depth given.shape ds items on node site hole own e)

    pub computed_early : list_any (computes node.path site hole.way) ds ≡ false →
        list_any (enters node.path) ds ≡ false → BringsItem system b g item g false
    computed_early fresh early = (
      refl,
      λ others follow. (
        λ may. not_entered system b given.depth given.shape ds others follow node early may.0,
        not_computed system b given.depth given.shape ds others follow node site hole fresh,
      ),
    )

    vars_forced : (others : List Item) → AreOn system b ds others →
        All (M.IsVarForced system b (Contains others) node) (vars_in hole.form) →
        All (IsVarForcedOn g node.path) (vars_in hole.form)
    vars_forced others follow all =
        all_more (M.IsVarForced system b (Contains others) node) (IsVarForcedOn g node.path)
        (vars_in hole.form)
        (λ x f. subst (λ s. IsForced s ds (λ a. Some (a.var node.path x))) (sym followed.same)
        ((forced_over system b given.depth given.shape ds others follow followed.turns
        (λ a. Some (a.var node.path x))).1 f)) all

    pub computed_unforced : list_any (computes node.path site hole.way) ds ≡ false →
        (All (IsVarForcedOn g node.path) (vars_in hole.form) → ⊥) →
        BringsItem system b g item g false
    computed_unforced fresh never = (
      refl,
      λ others follow. (
        λ may. never (vars_forced others follow may.1),
        not_computed system b given.depth given.shape ds others follow node site hole fresh,
      ),
    )

    pub computed_has_value : worth hole.form (env_of system node) ≡ None → ⊥
    computed_has_value none = by (decided_value item own)
      where
        by : (d : Decision) × IsOn system d (computed node (site_of site) hole) → ⊥
        by (Computed h at way v, is) = let value = is.3 in let no : ⊥ = cc in no
        by (Entered h c, is) = absurd is
        by (Found h j v, is) = absurd is

    computed_is_new : (v : Value) → list_any (computes node.path site hole.way) ds ≡ false →
        IsNew ds (Computed (head_of node) site hole.way v)
    computed_is_new v fresh (Computed h at along w) there same =
        none_passes (computes node.path site hole.way) ds (Computed h at along w) fresh there
        (both_are (pointwise nat_eq h.path node.path)
        (same_site at site && pointwise nat_eq along hole.way) (alike h.path node.path same.0)
        (both_are (same_site at site) (pointwise nat_eq along hole.way)
        (subst (λ s. same_site s site ≡ true)
        (sym (sym (site_of-is at) ∙ ap as_site same.1 ∙ site_of-is site)) (site_itself site))
        (alike along hole.way same.2)))
    computed_is_new v fresh (Entered h c) there same = absurd same
    computed_is_new v fresh (Found h k w) there same = absurd same

    computed_may : (v : Value) → list_any (enters node.path) ds ≡ true →
        All (IsVarForcedOn g node.path) (vars_in hole.form) →
        MayCome system ds (Computed (head_of node) site hole.way v)
    computed_may v entered forced =
        let sound = items_sound system b item own in (
          is_entered node sound.0 entered,
          (
            hole,
            refl,
            sound.1,
            all_more (IsVarForcedOn g node.path) (IsVarForced system ds (head_of node))
                (vars_in hole.form)
                (λ x f. subst (λ s. IsForced s ds (λ a. Some (a.var node.path x))) followed.same f)
                forced,
          ),
        )

    pub computed_comes : (head : Head) (way : List ℕ) (v : Value) → head ≡ head_of node →
        way ≡ hole.way → worth hole.form (env_of system node) ≡ Some v →
        list_any (computes node.path site hole.way) ds ≡ false →
        list_any (enters node.path) ds ≡ true →
        All (IsVarForcedOn g node.path) (vars_in hole.form) →
        Comes system b g (Computed head site way v) item
    computed_comes head way v at along is fresh entered forced =
        subst (λ h. Comes system b g (Computed h site way v) item) (sym at)
        (subst (λ w. Comes system b g (Computed (head_of node) site w v) item) (sym along) (
          subst (λ s. MayCome s ds (Computed (head_of node) site hole.way v)) (sym followed.same)
              (computed_may v entered forced),
          computed_is_new v fresh,
          tried system b given g followed.same items on followed.turns
              (Computed (head_of node) site hole.way v) item own (refl, refl, refl, is)
              (computed_may v entered forced) (computed_is_new v fresh),
        ))
