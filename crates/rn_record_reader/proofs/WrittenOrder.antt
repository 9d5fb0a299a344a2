-- The nodes of a binding stand in the order in which they are due.
use Rattle.std.proofs.Common.{◌≡◌, ◌≢◌, ℕ, ◌+◌, ◌<◌, ◌⊎◌, inl, inr, List, [], ◌∷◌, ◌++◌, length, refl, sym, ap, ◌∙◌, subst, arith}
use Rattle.std.specs.Prelude.{Some, Contains, nat_eq}
use Rattle.std.specs.List.{AllByRecursion}
use Rattle.std.specs.Cmp.Lexicographic.{pointwise}
use Rattle.std.proofs.lemmas.Cmp.{nat_list_cmp_total}
use Rattle.std.proofs.lemmas.List.Elements.{All-contains, Contains-append_cases, Contains-append_left, Contains-append_right}
use Rattle.std.proofs.lemmas.Option.{slice_get_within}
use Rattle.rn_items.proofs.Numbers.{same_numbers}
use Rattle.rn_items.proofs.Lists.{element_at, find_passes}
use Rattle.rn_model.specs.declared.system.System.{System}
use Rattle.rn_model.specs.declared.binding.Binding.{Binding}
use Rattle.rn_model.specs.declared.binding.Node.{Node}
use Rattle.rn_model.specs.Bindings.{IsCalled, Shape, node_at}
use Rattle.rn_model.specs.Systems.{transition_of}
use Rattle.rn_model.proofs.EnablingLemmas.{not_in_nil}
use Rattle.rn_model.proofs.MarkingsOfRuns.{found_is_there}
use Rattle.rn_record_reader.specs.Paths.{children}
use Rattle.rn_model.proofs.AskedValues.{later}
use Rattle.rn_model.proofs.NodesByPath.{Ascending, tail_ascends, below_others}
use Rattle.rn_record_reader.proofs.PathsInOrder.{Ahead, AllAhead, IsBefore, ahead_before, child_there, children_ahead, crossed, each_of, goes_on, in_cons, is_child, never}

module _ (system : System) where
  -- how many nodes a node calls
  abbrev pub downs : Node → ℕ
  downs node = length (transition_of system node).downlinks

  -- nodes one after the other, each as it is due
  abbrev pub Walk : List (List ℕ) → List Node → Type 0
  Walk due [] = due ≡ []
  Walk due (node ∷ nodes) =
      (rest : List (List ℕ)) × (due ≡ node.path ∷ rest) × Walk (children node.path (downs node) ++ rest) nodes

  abbrev HasCaller : List Node → Node → Type 0
  HasCaller xs node =
      (caller : Node) × (i : ℕ) × Contains xs caller × (i < downs caller) × (node.path ≡ caller.path ++ i ∷ [])

  abbrev HasNode : List Node → List ℕ → Type 0
  HasNode xs path = (node : Node) × Contains xs node × (node.path ≡ path)

  -- These nodes are left, and these paths are due.
  record Frontier (due : List (List ℕ)) (xs : List Node) : Type 0 where
    there : (p : List ℕ) → Contains due p → HasNode xs p
    called : (node : Node) → Contains xs node → Contains due node.path ⊎ HasCaller xs node
    calls : (caller : Node) (i : ℕ) → Contains xs caller → i < downs caller → HasNode xs (caller.path ++ i ∷ [])
    ascending : Ascending xs
    ahead : AllAhead due

  -- the first node has no caller
  first_uncalled : {A : Type 0} (x : Node) (xs : List Node) → Ascending (x ∷ xs) → HasCaller (x ∷ xs) x → A
  first_uncalled {A = A} x xs a (caller, i, there, low, path) =
      let under : IsBefore caller.path x.path = subst (IsBefore caller.path) (sym path) (goes_on caller.path i) in
      elim (in_cons x xs caller there) as (λ _. A) [
        | inl same ↦ never x.path (subst (λ c. IsBefore c.path x.path) (sym same) under)
        | inr rest ↦ crossed x.path caller.path (below_others x xs caller a rest) under
      ]

  module _ (x : Node) (xs : List Node) (p : List ℕ) (due : List (List ℕ)) (f : Frontier (p ∷ due) (x ∷ xs)) where
    first_due : x.path ≡ p
    first_due = elim (f.called x (0, omega arith, refl)) as (λ _. x.path ≡ p) [
      | inl here ↦ elim (in_cons p due x.path here) as (λ _. x.path ≡ p) [
        | inl same ↦ sym same
        | inr rest ↦ by rest (f.there p (0, omega arith, refl))
      ]
      | inr caller ↦ first_uncalled x xs f.ascending caller
    ]
      where
        by : Contains due x.path → HasNode (x ∷ xs) p → x.path ≡ p
        by rest (node, there, path) = elim (in_cons x xs node there) as (λ _. x.path ≡ p) [
          | inl same ↦ ap (λ n. n.path) same ∙ path
          | inr after ↦
              crossed x.path p (subst (IsBefore x.path) path (below_others x xs node f.ascending after))
              (ahead_before p x.path (each_of (Ahead p) due x.path f.ahead.0 rest))
        ]

    abbrev next_due : List (List ℕ)
    next_due = children x.path (downs x) ++ due

    -- a node that isn't the first one is left
    left : (q : List ℕ) → IsBefore x.path q → HasNode (x ∷ xs) q → HasNode xs q
    left q apart (node, there, path) = elim (in_cons x xs node there) as (λ _. HasNode xs q) [
      | inl same ↦ never q (subst (λ r. IsBefore r q) (ap (λ n. n.path) same ∙ path) apart)
      | inr rest ↦ (node, rest, path)
    ]

    next_there : (q : List ℕ) → Contains next_due q → HasNode xs q
    next_there q there = elim (Contains-append_cases (children x.path (downs x)) due q there) as (λ _. HasNode xs q) [
      | inl child ↦
          let of = is_child x.path 0 (downs x) q child in
          let low = of.1 in
          subst (HasNode xs) (sym of.2)
          (left (x.path ++ of.0 ∷ []) (goes_on x.path of.0) (f.calls x of.0 (0, omega arith, refl) (omega (arith, low))))
      | inr rest ↦
          left q (subst (λ r. IsBefore r q) (sym first_due) (ahead_before p q (each_of (Ahead p) due q f.ahead.0 rest)))
          (f.there q (later p q due rest))
    ]

    next_called : (node : Node) → Contains xs node → Contains next_due node.path ⊎ HasCaller xs node
    next_called node there = elim (f.called node (later x node xs there)) as (λ _. Contains next_due node.path ⊎ HasCaller xs node) [
      | inl here ↦ elim (in_cons p due node.path here) as (λ _. Contains next_due node.path ⊎ HasCaller xs node) [
        | inl same ↦ never p (subst (λ r. IsBefore r p) first_due (subst (IsBefore x.path) (sym same) (below_others x xs node f.ascending there)))
        | inr rest ↦ inl (Contains-append_right (children x.path (downs x)) due node.path rest)
      ]
      | inr caller ↦ by caller
    ]
      where
        by : HasCaller (x ∷ xs) node → Contains next_due node.path ⊎ HasCaller xs node
        by (caller, i, among, low, path) = elim (in_cons x xs caller among) as (λ _. Contains next_due node.path ⊎ HasCaller xs node) [
          | inl same ↦
              let own : node.path ≡ x.path ++ i ∷ [] = path ∙ ap (λ c. c.path ++ i ∷ []) (sym same) in
              let few : i < downs x = subst (λ c. i < downs c) (sym same) low in
              let from : 0 + i ≡ i = omega arith in
              let child : Contains (children x.path (downs x)) (x.path ++ i ∷ []) =
              subst (λ j. Contains (children x.path (downs x)) (x.path ++ j ∷ [])) from (child_there x.path 0 (downs x) i few) in
              inl (Contains-append_left (children x.path (downs x)) due node.path (subst (Contains (children x.path (downs x))) (sym own) child))
          | inr rest ↦ inr (caller, i, rest, low, path)
        ]

    next_frontier : Frontier next_due xs
    next_frontier = record {
      there = next_there;
      called = next_called;
      calls = λ caller i there low.
          let under = below_others x xs caller f.ascending there in
          left (caller.path ++ i ∷ []) (nat_list_cmp_total.trans x.path caller.path (caller.path ++ i ∷ []) under (goes_on caller.path i))
          (f.calls caller i (later x caller xs there) low);
      ascending = tail_ascends x xs f.ascending;
      ahead = children_ahead x.path 0 (downs x) due (subst (λ r. AllByRecursion (Ahead r) due) (sym first_due) f.ahead.0) f.ahead.1;
    }

  walks : (xs : List Node) (due : List (List ℕ)) → Frontier due xs → Walk due xs
  walks [] [] f = refl
  walks [] (p ∷ due) f = let node = f.there p (0, omega arith, refl) in absurd (not_in_nil node.0 node.1)
  walks (x ∷ xs) [] f = elim (f.called x (0, omega arith, refl)) as (λ _. Walk [] (x ∷ xs)) [
    | inl here ↦ absurd (not_in_nil x.path here)
    | inr caller ↦ first_uncalled x xs f.ascending caller
  ]
  walks (x ∷ xs) (p ∷ due) f =
      (due, ap (λ q. q ∷ due) (sym (first_due x xs p due f)), walks xs (children x.path (downs x) ++ due) (next_frontier x xs p due f))

  called_or_first : (b : Binding) (node : Node) (path : List ℕ) → node.path ≡ path → (node.path ≢ [] → IsCalled system b node) →
      Contains ([] ∷ []) node.path ⊎ HasCaller b.nodes node
  called_or_first b node [] is called = inl (subst (Contains ([] ∷ [])) (sym is) (0, omega arith, refl))
  called_or_first b node (i ∷ path) is called =
      let by = called (λ none. let both : i ∷ path ≡ [] = sym is ∙ none in let no : ⊥ = cc in no) in
      let calls = by.3 in
      inr (by.0, by.1, calls.caller_there, slice_get_within (transition_of system by.0).downlinks by.1 by.2 calls.downlink_there, calls.path)

  -- the nodes of a binding do
  pub nodes_walk : (b : Binding) (depth : ℕ) → Shape system b depth → Walk ([] ∷ []) b.nodes
  nodes_walk b depth shape = walks b.nodes ([] ∷ []) (record {
    there = λ p here. elim (in_cons [] [] p here) as (λ _. HasNode b.nodes p) [
      | inl same ↦
          let found = shape.start.1 in
          (shape.start.0, found_is_there (λ node. pointwise nat_eq node.path []) b.nodes shape.start.0 found, at_start shape.start.0 found ∙ same)
      | inr rest ↦ absurd (not_in_nil p rest)
    ];
    called = λ node there. called_or_first b node node.path refl (All-contains (λ node. node.path ≢ [] → IsCalled system b node) b.nodes node shape.called there);
    calls = λ caller i there low.
        let d = element_at (transition_of system caller).downlinks i low in
        let child = shape.children caller i d.0 there d.1 in
        (child.0, child.1.node_there, child.1.path);
    ascending = shape.ascending;
    ahead = (tt, tt);
  })
    where
      at_start : (node : Node) → node_at b [] ≡ Some node → node.path ≡ []
      at_start node e = same_numbers node.path [] (find_passes (λ node. pointwise nat_eq node.path []) b.nodes node e)
