-- Items that are tried one after another, until none may come in.
use Rattle.std.proofs.Common.{◌≡◌, ℕ, Bool, true, false, List, [], ◌∷◌, ◌++◌}
use Rattle.std.proofs.Common.{length, length-append, get_or, inl, inr, refl, sym, ◌∙◌, subst}
use Rattle.std.proofs.Common.{arith}
use Rattle.std.specs.Prelude.{Contains, Some, ◌↔◌, All}
use Rattle.std.proofs.lemmas.List.Elements.{Contains-append_left, Contains-append_right, Contains-append_cases}
use Rattle.std.proofs.lemmas.List.Elements.{All-contains, Contains-get_or}
use Rattle.rn_model.specs.declared.system.System.{System}
use Rattle.rn_model.specs.declared.binding.Node.{Node}
use Rattle.rn_model.specs.declared.binding.Binding.{Binding}
use Rattle.rn_model.specs.Systems.{transition_of}
use Rattle.rn_model.specs.Derivation.{Item, items_of, Derived, IsVarForced}
use Rattle.rn_model.specs.RoundLaws.{IsClosed, AreAll, ForceAll}
use Rattle.rn_model.proofs.Rounds.{closed_decide, all_more}
use Rattle.rn_growing.specs.declared.decision.Decision.{Decision}
use Rattle.rn_growing.specs.Decisions.{AreOn}
use Rattle.rn_growing.specs.Equations.{IsForced}
use Rattle.rn_growing.specs.Grown.{Grown}
use Rattle.rn_growing.proofs.Growth.{contains_last, only_one}
use Rattle.rn_growing.proofs.Followers.{followers_are_decided, forced_over}
use Rattle.rn_binding.specs.link.Parts.{HaveTheSame}
use Rattle.rn_binding.specs.link.Passing.{IsGiven, IsFollowed, IsDecided, Stay, IsOut, BringsItem}
use Rattle.rn_binding.specs.link.Passing.{IsPassed, AreLeft, AreStuck, Ends, AreVarsForced}
use Rattle.rn_binding.specs.link.Passing.{IsVarForcedOn}
use Rattle.rn_binding.proofs.Deciding.{decided_is_in}

none_in : {A : Type 0} (x : A) → Contains [] x → ⊥
none_in x (k, h, e) = let no : ⊥ = omega (arith, h) in no

module _ (system : System) (b : Binding) where
  pub stays_decided : (ds more : List Decision) (item : Item) → Stay ds more →
      IsDecided system ds item → IsDecided system more item
  stays_decided ds more item stay (d, there, is) = (d, stay d there, is)

  module _ (old : Grown) (tried left : List Item) (now : Grown) (item : Item) (next : Grown)
      (passed : IsPassed system b old tried now left) (followed : IsFollowed system b next) where
    -- one more that is in
    pub one_in : BringsItem system b now item next true →
        IsPassed system b old (item ∷ tried) next left
    one_in brings = record {
      followed = followed;
      stay = λ d there. brings.0 d (passed.stay d there);
      items = λ it there. Contains-append_right (item ∷ []) tried it (passed.items it there);
      covered = λ it there. elim (Contains-append_cases (item ∷ []) tried it there) [
        | inl this ↦ inl (subst (IsDecided system next.decisions) (only_one item it this) brings.1)
        | inr before ↦ elim (passed.covered it before) [
          | inl decided ↦ inl (stays_decided now.decisions next.decisions it brings.0 decided)
          | inr still ↦ inr still
        ]
      ];
      few = let h = passed.few in omega (arith, h);
      stuck = λ e.
          let h = passed.few in
          let no : ⊥ = omega (arith, h, e) in absurd no;
    }

    -- one more that is left
    pub one_left : BringsItem system b now item next false →
        IsPassed system b old (item ∷ tried) next (left ++ item ∷ [])
    one_left brings = record {
      followed = followed;
      stay = λ d there. subst (λ n. Contains n.decisions d) (sym brings.0) (passed.stay d there);
      items = λ it there. elim (Contains-append_cases left (item ∷ []) it there) [
        | inl before ↦ Contains-append_right (item ∷ []) tried it (passed.items it before)
        | inr last ↦ subst (Contains (item ∷ tried)) (only_one item it last) (0, omega arith, refl)
      ];
      covered = λ it there. elim (Contains-append_cases (item ∷ []) tried it there) [
        | inl this ↦ inr (subst (Contains (left ++ item ∷ [])) (only_one item it this)
            (contains_last left item))
        | inr before ↦ elim (passed.covered it before) [
          | inl decided ↦ inl (subst (λ n. IsDecided system n.decisions it) (sym brings.0) decided)
          | inr still ↦ inr (Contains-append_left left (item ∷ []) it still)
        ]
      ];
      few = let h = passed.few in omega (arith, h, length-append left (item ∷ []));
      stuck = λ e.
          let as_many : length left ≡ length tried =
          omega (arith, e, length-append left (item ∷ [])) in
          let before = passed.stuck as_many in (
            brings.0 ∙ before.0,
            λ it there. elim (Contains-append_cases (item ∷ []) tried it there) [
              | inl this ↦ subst (IsOut system b old.decisions) (only_one item it this)
                  (subst (λ n. IsOut system b n.decisions item) before.0 brings.1)
              | inr early ↦ before.1 it early
            ],
          );
    }

  pub one_tried : (old : Grown) (tried left : List Item) (now : Grown) (item : Item)
      (next : Grown) (answer : Bool) → IsPassed system b old tried now left →
      IsFollowed system b next → BringsItem system b now item next answer → answer ≡ true →
      IsPassed system b old (item ∷ tried) next left
  one_tried old tried left now item next true passed followed brings e =
      one_in old tried left now item next passed followed brings
  one_tried old tried left now item next false passed followed brings e =
      absurd (let no : ⊥ = cc in no)

  pub one_stays : (old : Grown) (tried left : List Item) (now : Grown) (item : Item)
      (next : Grown) (answer : Bool) → IsPassed system b old tried now left →
      IsFollowed system b next → BringsItem system b now item next answer → answer ≡ false →
      IsPassed system b old (item ∷ tried) next (left ++ item ∷ [])
  one_stays old tried left now item next false passed followed brings e =
      one_left old tried left now item next passed followed brings
  one_stays old tried left now item next true passed followed brings e =
      absurd (let no : ⊥ = cc in no)

  -- at first all are left
  pub all_left : (g : Grown) (items : List Item) → IsFollowed system b g →
      HaveTheSame items (items_of system b) → AreLeft system b g items
  all_left g items followed same = record {
    followed = followed;
    items = λ item there. (same item).0 there;
    covered = λ item there. inr ((same item).1 there);
  }

  -- and fewer after they were tried
  pub left_then : (old : Grown) (tried : List Item) (now : Grown) (left : List Item) →
      AreLeft system b old tried → IsPassed system b old tried now left →
      AreLeft system b now left
  left_then old tried now left before passed = record {
    followed = passed.followed;
    items = λ item there. before.items item (passed.items item there);
    covered = λ item there. elim (before.covered item there) [
      | inl decided ↦ inl (stays_decided old.decisions now.decisions item passed.stay decided)
      | inr there ↦ passed.covered item there
    ];
  }

  -- or they are stuck
  pub stuck_then : (old : Grown) (tried : List Item) (now : Grown) (left : List Item) →
      AreLeft system b old tried → IsPassed system b old tried now left →
      length left ≡ length tried → AreStuck system b now left
  stuck_then old tried now left before passed many =
      let stuck = passed.stuck many in
      record {
        known = left_then old tried now left before passed;
        out = λ item there. subst (λ n. IsOut system b n.decisions item) (sym stuck.0)
            (stuck.1 item (passed.items item there));
      }

  module _ (given : IsGiven system b) (g : Grown) (left : List Item)
      (stuck : AreStuck system b g left) where
    abbrev followed : IsFollowed system b g
    followed = stuck.known.followed

    abbrev items : List Item
    items = followed.follows.0

    on : AreOn system b g.decisions items
    on = followed.follows.1

    is_in : (item : Item) → Contains (items_of system b) item →
        IsDecided system g.decisions item → Contains items item
    is_in = decided_is_in system b given.depth given.shape g.decisions items on

    closed : IsClosed system b items
    closed item there may = elim (stuck.known.covered item there) [
      | inl decided ↦ is_in item there decided
      | inr still ↦ absurd ((stuck.out item still items on).0 may)
    ]

    decides : Derived system b ↔ (AreAll system b items × ForceAll system b items)
    decides = closed_decide system b given.depth items given.shape
        (followers_are_decided system b given.depth g.decisions items given.shape on followed.turns
        followed.some).come closed

    -- what is left isn't in
    pub some_left : (item : Item) → Contains left item → Derived system b → ⊥
    some_left item there derived =
        (stuck.out item there items on).1
        (All-contains (Contains items) (items_of system b) item ((decides.0 derived).0)
        (stuck.known.items item there))

    all_in : left ≡ [] → AreAll system b items
    all_in none = all_by (λ item there. elim (stuck.known.covered item there) [
      | inl decided ↦ is_in item there decided
      | inr still ↦ absurd (none_in item (subst (λ xs. Contains xs item) none still))
    ])
      where
        all_by : ((item : Item) → Contains (items_of system b) item → Contains items item) →
            AreAll system b items
        all_by each k d h = each (get_or (items_of system b) k d)
            (Contains-get_or (items_of system b) k d h)

    var_forced : (node : Node) (x : ℕ) →
        IsVarForcedOn g node.path x ↔ IsVarForced system b (Contains items) node x
    var_forced node x =
        subst (λ s. IsForced s g.decisions (λ a. Some (a.var node.path x))
        ↔ IsVarForced system b (Contains items) node x) (sym followed.same)
        (forced_over system b given.depth given.shape g.decisions items on followed.turns
        (λ a. Some (a.var node.path x)))

    -- where none is left, the variables decide
    pub none_left : left ≡ [] → All (AreVarsForced system g) b.nodes ↔ Derived system b
    none_left none = (
      λ all. decides.1 (
        all_in none,
        all_more (AreVarsForced system g)
            (λ node. All (IsVarForced system b (Contains items) node) (transition_of system node).vars)
            b.nodes
            (λ node vars. all_more (IsVarForcedOn g node.path)
            (IsVarForced system b (Contains items) node) (transition_of system node).vars
            (λ x. (var_forced node x).0) vars) all,
      ),
      λ derived. all_more
          (λ node. All (IsVarForced system b (Contains items) node) (transition_of system node).vars)
          (AreVarsForced system g) b.nodes
          (λ node vars. all_more (IsVarForced system b (Contains items) node)
          (IsVarForcedOn g node.path) (transition_of system node).vars
          (λ x. (var_forced node x).1) vars) (decides.0 derived).1,
    )

  first_of : (left : List Item) → (left ≡ [] → ⊥) → (item : Item) × Contains left item
  first_of [] some = absurd (some refl)
  first_of (item ∷ left) some = (item, (0, omega arith, refl))

  -- by the answer whether none is left
  pub underived : IsGiven system b → (g : Grown) (answer : Bool) → Ends system b g answer →
      answer ≡ false → Derived system b → ⊥
  underived given g answer (left, stuck, is) e derived =
      let some : left ≡ [] → ⊥ = λ none. let yes = is.1 none in let no : ⊥ = cc in no in
      let item = first_of left some in
      some_left given g left stuck item.0 item.1 derived

  pub by_variables : IsGiven system b → (g : Grown) (answer : Bool) → Ends system b g answer →
      answer ≡ true → All (AreVarsForced system g) b.nodes ↔ Derived system b
  by_variables given g answer (left, stuck, is) e = none_left given g left stuck (is.0 e)
