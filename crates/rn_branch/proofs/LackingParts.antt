-- Tokens that lack a part that is known: nothing goes on by them.
use Rattle.std.proofs.Common.{◌≡◌, ℕ, zero, suc, ◌+◌, false, List, [], ◌∷◌, ◌++◌, map}
use Rattle.std.proofs.Common.{refl, sym, ap, ◌∙◌, subst, arith}
use Rattle.std.specs.Prelude.{Option, Some, None, slice_get, option_map, unwrap_or}
use Rattle.std.specs.Prelude.{Result, Ok, Err, IfOk, IfSome, ◌↔◌}
use Rattle.std.specs.List.{list_any}
use Rattle.rn_items.specs.declared.memory.NoMemory.{NoMemory}
use Rattle.std.proofs.lemmas.List.Elements.{Contains-append_left}
use Rattle.rn_value.specs.declared.value.Value.{Value}
use Rattle.rn_value.specs.declared.value.Value.TheVariants as Value
use Rattle.rn_model.specs.declared.binding.Binding.{Binding}
use Rattle.rn_model.specs.declared.expr.Expr.{Expr}
use Rattle.rn_model.specs.declared.expr.Expr.TheVariants as E
use Rattle.rn_model.specs.declared.system.NetArc.{NetArc}
use Rattle.rn_model.specs.declared.system.System.{System}
use Rattle.rn_model.specs.Derivation.{Assignment, Unknowns, arc, term_value, term_values}
use Rattle.rn_model.specs.Derivation.{unknowns_within}
use Rattle.rn_model.specs.Markings.{tokens}
use Rattle.rn_model.proofs.DerivationLemmas.{term_value-Tuple, term_value-Var}
use Rattle.rn_growing.specs.declared.decision.Decision.{Decision}
use Rattle.rn_growing.specs.declared.decision.Decision.TheVariants.{Entered, Found}
use Rattle.rn_growing.specs.Decided.{finds}
use Rattle.rn_growing.specs.Equations.{Solves, read_at}
use Rattle.rn_growing.specs.Grown.{Grown, IsNew}
use Rattle.rn_growing.specs.Turns.{IsEntered, MayCome}
use Rattle.rn_growing.proofs.Growth.{at_in, contains_last, some_equal, turns_more}
use Rattle.rn_growing.proofs.NewThings.{new_finds}
use Rattle.rn_search.specs.declared.point.Point.{Point}
use Rattle.rn_search.specs.declared.point.Point.TheVariants as P
use Rattle.rn_search.specs.Points.{first_token, node_of, node_on, nowhere, offered, tokens_of}
use Rattle.rn_search.specs.Sought.{Sought, Leads}
use Rattle.rn_search.proofs.Alternatives.{first_is, from_and_then, from_map}
use Rattle.rn_search.proofs.Offered.{leading_is_solvable}
use Rattle.rn_looking.specs.Branches.{IsBranchOf}
use Rattle.rn_looking.specs.Forced.{IsVarForcedTo}
use Rattle.rn_branch.specs.declared.finder.Finder.{Finder}
use Rattle.rn_branch.specs.Offers.{NoneLeadBy}
use Rattle.rn_branch.specs.Parts.{part_of}
use Rattle.rn_branch.specs.Finders.{IsKnownPart, IsPassed, IsFinder}
use Rattle.rn_branch.proofs.Pushing.{none_offered}

-- what is returned of a variable, which is a part of an arc's inscription
pub known_is : (g : Grown) (k : ℕ) (s : Finder) (i x : ℕ) (parts : List Expr)
    (told : Result (Option Value) NoMemory) → s.arc.now.inscription ≡ E.Tuple parts →
    slice_get parts i ≡ Some (E.Var x) → list_any (finds s.head.now.path k) g.decisions ≡ false →
    IfOk told (λ t. (v : Value) → (t ≡ Some v) ↔ IsVarForcedTo g s.head.now.path x v) →
    IfOk told (λ t. IfSome t (IsKnownPart g k s i))
known_is g k s i x parts (Err e) tuple at fresh tells = tt
known_is g k s i x parts (Ok None) tuple at fresh tells = tt
known_is g k s i x parts (Ok (Some v)) tuple at fresh tells = record {
  parts = parts;
  tuple = tuple;
  var = x;
  at = at;
  fresh = fresh;
  forced = (tells v).0 refl;
}

-- the values of parts have at each index the value of the part there
part_read : (parts : List Expr) (u : Unknowns) (i n x : ℕ) (vs : List Value) →
    term_values n (map term_value parts) u ≡ Some vs → slice_get parts i ≡ Some (E.Var x) →
    slice_get vs i ≡ Some (u.var x)
part_read [] u i n x vs values at = absurd (let no : ⊥ = cc in no)
part_read (e ∷ parts) u zero n x vs values at =
    let others = term_values (n + 1) (map term_value parts) u in
    let first = from_and_then (λ v. option_map (λ ws. v ∷ ws) others)
    (term_value e (unknowns_within n u)) vs values in
    let rest = from_map (λ ws. first.0 ∷ ws) others vs first.2 in
    let var : e ≡ E.Var x = some_equal e (E.Var x) at in
    let is : term_value e (unknowns_within n u) ≡ Some (u.var x) =
    ap (λ f. term_value f (unknowns_within n u)) var ∙ term_value-Var x (unknowns_within n u) in
    let same : first.0 ≡ u.var x = some_equal first.0 (u.var x) (sym first.1 ∙ is) in
    ap (λ ws. slice_get ws 0) (sym rest.2) ∙ ap Some same
part_read (e ∷ parts) u (suc i) n x vs values at =
    let others = term_values (n + 1) (map term_value parts) u in
    let first = from_and_then (λ v. option_map (λ ws. v ∷ ws) others)
    (term_value e (unknowns_within n u)) vs values in
    let rest = from_map (λ ws. first.0 ∷ ws) others vs first.2 in
    ap (λ ws. slice_get ws (suc i)) (sym rest.2)
    ∙ part_read parts u i (n + 1) x rest.0 rest.1 at

-- so has a tuple
tuple_read : (parts : List Expr) (u : Unknowns) (i x : ℕ) (v : Value) →
    term_value (E.Tuple parts) u ≡ Some v → slice_get parts i ≡ Some (E.Var x) →
    part_of i v ≡ Some (u.var x)
tuple_read parts u i x v value at =
    let all = from_map (λ vs. Value.Tuple vs) (term_values 0 (map term_value parts) u) v
    (sym (term_value-Tuple parts u) ∙ value) in
    let parts_are = part_read parts u i 0 x all.0 all.1 at in
    let here : part_of i (Value.Tuple all.0) ≡ Some (u.var x) =
    rw (Value.outs-Tuple all.0) parts_are in
    subst (λ w. part_of i w ≡ Some (u.var x)) all.2 here

-- An arc of a node, and the token at an index of its place.
module _ (sought : Sought) (g : Grown) (branch : IsBranchOf sought g) (node k a : ℕ) (s : Finder)
    (is : IsFinder sought g.decisions node k s) where
  abbrev point : Point
  point = P.Token node k 0

  abbrev itself : List Value
  itself = tokens_of sought (node_of sought g.decisions node) k

  head_is : node_of sought g.decisions node ≡ s.head.now
  head_is = ap (λ e. unwrap_or (option_map node_on e) sought.start) is.entry

  held_is : tokens_of sought s.head.now k ≡ s.held.now
  held_is =
      ap (λ e. unwrap_or (option_map
      (λ (x : NetArc). tokens sought.marking s.head.now.inst x.place) e) []) is.there ∙ sym is.all

  -- what satisfies this decision too gives the part its value
  reads : (i : ℕ) (part v : Value) (known : IsKnownPart g k s i part) (own : Assignment) →
      Solves sought.system (g.decisions ++ Found s.head.now k v ∷ []) own →
      part_of i v ≡ Some part
  reads i part v known own solves =
      let head = s.head.now in
      let d = Found head k v in
      let u : Unknowns = record {
        this = head.inst;
        var = own.var head.path;
        hole = own.hole head.path (arc k);
      } in
      let brings : read_at own head (arc k) s.arc.now.inscription ≡ Some v =
      solves d (contains_last g.decisions d) s.arc.now is.there in
      let whole : term_value (E.Tuple known.parts) u ≡ Some v =
      ap (λ e. term_value e u) (sym known.tuple) ∙ brings in
      let before : Solves g.system g.decisions own =
      subst (λ (t : System). Solves t g.decisions own) (sym branch.system)
      (λ e there. solves e (Contains-append_left g.decisions (d ∷ []) e there)) in
      tuple_read known.parts u i known.var v whole known.at ∙ known.forced own before

  never : (v : Value) (b : Binding) → IsPassed g k s a → slice_get s.held.now a ≡ Some v →
      Leads sought (g.decisions ++ Found s.head.now k v ∷ []) b → ⊥
  never v b passed at leads =
      let d = Found s.head.now k v in
      let told = passed v at in
      let known = told.1.1.0 in
      let entered : IsEntered g.decisions s.head.now =
      (is.caller, at_in g.decisions node (Entered s.head.now is.caller) is.entry) in
      let may : MayCome sought.system g.decisions d =
      (entered, (s.arc.now, is.there, is.finds)) in
      let new : IsNew g.decisions d = (new_finds g.decisions s.head.now k v).1 known.fresh in
      let turns = turns_more sought.system g.decisions d branch.sound.turns may new in
      let own = leading_is_solvable sought (g.decisions ++ d ∷ []) b leads turns in
      told.1.1.1 (reads told.0 told.1.0 v known own.0 own.1)

  pub lacking_is_vain : IsPassed g k s a → NoneLeadBy sought g.decisions point a
  lacking_is_vain passed = by (offered sought g.decisions point a) refl
    where
      by : (told : Option Decision) → offered sought g.decisions point a ≡ told →
          NoneLeadBy sought g.decisions point a
      by None none b leads = none_offered sought g branch point a none b leads
      by (Some e) some b leads =
          let head = node_of sought g.decisions node in
          let w = from_map (λ w. Found head k w) (first_token itself (0 + a)) e some in
          let first = first_is itself (0 + a) w.0 w.1 in
          let place : 0 + a ≡ a = omega arith in
          let at : slice_get s.held.now a ≡ Some w.0 =
          subst (λ ts. slice_get ts a ≡ Some w.0) held_is
          (subst (λ h. slice_get (tokens_of sought h k) a ≡ Some w.0) head_is
          (subst (λ i. slice_get itself i ≡ Some w.0) place first.0)) in
          let d_is : e ≡ Found s.head.now k w.0 =
          sym w.2 ∙ ap (λ h. Found h k w.0) head_is in
          never w.0 b passed at
          (subst (λ f. Leads sought (g.decisions ++ f ∷ []) b)
          (ap (λ t. unwrap_or t (nowhere sought.system)) some ∙ d_is) leads)
