-- The actions of a transition in which nothing is broken: each sets a new variable, and holds only
-- such action variables as were set before.
use Rattle.std.proofs.Common.{◌≡◌, ℕ, ◌+◌, ◌<◌, true, false, List, [], ◌∷◌, ◌++◌, map}
use Rattle.std.proofs.Common.{refl, sym, ap, ◌∙◌, subst, length, arith, inl, inr, append_assoc}
use Rattle.std.proofs.Common.{length-append}
use Rattle.std.specs.Prelude.{Some, is_none, nat_lt, nat_eq, flat_map, Contains}
use Rattle.std.specs.Option.{option_map_or}
use Rattle.std.specs.List.{AllByRecursion}
use Rattle.std.proofs.lemmas.Bool.{eq-eqb}
use Rattle.std.proofs.lemmas.Bool.Decides.{nat_tests}
use Rattle.std.proofs.lemmas.List.{map-append}
use Rattle.std.proofs.lemmas.List.Elements.{All-from_recursion, All-contains}
use Rattle.std.proofs.lemmas.Grind.{flat_map-append}
use Rattle.rn_items.proofs.Bools.{or_left, or_right}
use Rattle.rn_model.specs.declared.system.Transition.{Transition}
use Rattle.rn_model.specs.declared.system.Action.{Action}
use Rattle.rn_model.specs.Systems.{vars_in}
use Rattle.rn_model.specs.Good.{set_var, InOrder}
use Rattle.rn_inscript.specs.declared.exprs.PExpr.{PExpr}
use Rattle.rn_inscript.specs.declared.inscriptions.PName.{PName}
use Rattle.rn_inscript.specs.declared.inscriptions.PInscribed.{PInscribed}
use Rattle.rn_inscript.specs.declared.inscriptions.PInscribed.TheVariants as I
use Rattle.rn_inscript.specs.declared.inscriptions.PInscription.{PInscription}
use Rattle.rn_net.specs.declared.plain.Plain.{Plain}
use Rattle.rn_net.specs.declared.plain.PNet.{PNet}
use Rattle.rn_declared.specs.declared.fault.Rule.TheVariants as Rule
use Rattle.rn_declared.specs.Faults.{broken_if}
use Rattle.rn_rules.specs.Expressions.{seen_of, misfit}
use Rattle.rn_rules.specs.Actions.{set_name, set_names, is_set_by, value_faults}
use Rattle.rn_rules.specs.Transitions.{Progress, inscription_faults, inscriptions_faults, after}
use Rattle.rn_rules.specs.Transitions.{in_action}
use Rattle.rn_declared.specs.Names.{number_among}
use Rattle.rn_numbered.specs.Numbered.{expr_of, action_of}
use Rattle.rn_occurring.specs.TransitionVars.{is_among}
use Rattle.rn_declared.proofs.Faultless.{both_nil, unbroken}
use Rattle.rn_check.proofs.InscriptionParts.{set_parts}
use Rattle.rn_check.proofs.ExpressionFacts.{Stands, vars_stand}
use Rattle.rn_check.proofs.ItsVars.{among_there, there_among}
use Rattle.rn_check.proofs.ActionVars.{IsIn, IsDeclared, NewEach, names_same, found_early}
use Rattle.rn_check.proofs.TransitionFacts.{one_more, scope, to, named_in, set_before}

module _ (plain : Plain) (net : PNet) where
  -- the variables that actions set are those of the names on their left
  one_acted : (form : PInscribed) →
      flat_map set_var (action_of (to plain net) form)
      ≡ map (to plain net).var (set_name form)
  one_acted (I.Set var e) = refl
  one_acted (I.Print e) = refl
  one_acted (I.Arc kind place e) = refl
  one_acted (I.Guard cond) = refl
  one_acted (I.Uplink channel args) = refl
  one_acted (I.New var name) = refl
  one_acted (I.Downlink target channel args) = refl
  one_acted (I.Equality a b) = refl

  pub acted_are : (is : List PInscription) →
      flat_map set_var (flat_map (action_of (to plain net)) (map (λ i. i.form) is))
      ≡ map (to plain net).var (set_names is)
  acted_are [] = refl
  acted_are (i ∷ is) =
      let rest : List Action = flat_map (action_of (to plain net)) (map (λ i. i.form) is) in
      flat_map-append set_var (action_of (to plain net) i.form) rest
      ∙ ap (λ xs. xs ++ flat_map set_var rest) (one_acted i.form)
      ∙ ap (λ xs. map (to plain net).var (set_name i.form) ++ xs) (acted_are is)
      ∙ sym (map-append (to plain net).var (set_name i.form) (set_names is))

  module _ (sets : List (List ℕ)) where
    -- a name on the left is new: the first action that sets it isn't before
    is_new : (done rest : List (List ℕ)) → sets ≡ done ++ rest → (p : Progress) →
        p.setter ≡ number_among sets → p.past ≡ length done → (name : List ℕ) →
        option_map_or (λ n. nat_lt n p.past) (p.setter name) false ≡ false → IsIn done name → ⊥
    is_new done rest is p setter past name late there =
        let found = found_early 0 done rest name there in
        let number : p.setter name ≡ Some found.0 =
        ap (λ f. f name) setter ∙ ap (λ xs. number_among xs name) is ∙ found.1 in
        let low = found.2 in
        let fails : nat_lt found.0 p.past ≡ false =
        sym (ap (λ o. option_map_or (λ n. nat_lt n p.past) o false) number) ∙ late in
        let below : found.0 < p.past = omega (arith, low, past) in
        let passes : nat_lt found.0 p.past ≡ true = grind (arith, nat_tests, below) in
        let never : true ≡ false = sym passes ∙ fails in
        let no : ⊥ = cc in no

    set_none : (i : PInscription) (p : Progress) (var : PName) (e : PExpr) →
        inscription_faults (scope plain net) p i (I.Set var e) ≡ [] →
        IsDeclared plain net var.text
        × (option_map_or (λ n. nat_lt n p.past) (p.setter var.text) false ≡ false)
        × ((seen_of e (in_action (scope plain net) p)).faults ≡ [])
    unfolding value_faults
    set_none i p var e none =
        let o = (scope plain net).pattern_of_var var.text in
        let s = seen_of e (in_action (scope plain net) p) in
        let both = set_parts (scope plain net) p var e none in
        let late = option_map_or (λ n. nat_lt n p.past) (p.setter var.text) false in
        let first = both_nil (broken_if (is_none o) Rule.Known var.spot)
        (broken_if late Rule.Actions var.spot) both.0 in (
          unbroken (is_none o) Rule.Known var.spot first.0,
          unbroken late Rule.Actions var.spot first.1,
          (both_nil s.faults (option_map_or (λ p. misfit s p) o []) both.1).0,
        )

    new_step : (i : PInscription) (p : Progress) (done rest : List (List ℕ)) (form : PInscribed) →
        sets ≡ done ++ (set_name form ++ rest) → p.setter ≡ number_among sets →
        p.past ≡ length done → inscription_faults (scope plain net) p i form ≡ [] →
        ((next : List (List ℕ)) → sets ≡ next ++ rest → (after p form).past ≡ length next →
        NewEach plain net next rest) →
        NewEach plain net done (set_name form ++ rest)
    new_step i p done rest (I.Set var e) is setter past none go =
        let parts = set_none i p var e none in
        let next = done ++ var.text ∷ [] in (
          is_new done (var.text ∷ rest) is p setter past var.text parts.1,
          parts.0,
          go next (is ∙ sym (append_assoc done (var.text ∷ []) rest))
              (let len = length-append done (var.text ∷ []) in omega (arith, past, len)),
        )
    new_step i p done rest (I.Print e) is setter past none go =
        go done is (let same : p.past + 0 ≡ p.past = omega arith in same ∙ past)
    new_step i p done rest _ is setter past none go =
        go done is (let same : p.past + 0 ≡ p.past = omega arith in same ∙ past)

    pub new_each : (done : List (List ℕ)) (p : Progress) (is : List PInscription) →
        sets ≡ done ++ set_names is → p.setter ≡ number_among sets → p.past ≡ length done →
        inscriptions_faults (scope plain net) p is ≡ [] → NewEach plain net done (set_names is)
    new_each done p [] is setter past none = tt
    new_each done p (i ∷ is) same setter past none =
        let both = both_nil (inscription_faults (scope plain net) p i i.form)
        (inscriptions_faults (scope plain net) (after p i.form) is) none in
        new_step i p done (set_names is) i.form same setter past both.0
        (λ next same past. new_each next (after p i.form) is same setter past both.1)

    module _ (t : Transition) (declared : AllByRecursion (IsDeclared plain net) sets)
        (acts : (x : ℕ) → is_among t.action_vars x ≡ true →
        is_among (map (to plain net).var sets) x ≡ true) where
      -- the numbers of the names that were set are known
      abbrev AreKnown : List (List ℕ) → List ℕ → Type 0
      AreKnown done known =
          (name : List ℕ) → IsIn done name → is_among known ((to plain net).var name) ≡ true

      holds_known : (done rest : List (List ℕ)) (known : List ℕ) → sets ≡ done ++ rest →
          (p : Progress) → p.setter ≡ number_among sets → p.past ≡ length done →
          AreKnown done known → (e : PExpr) →
          (seen_of e (in_action (scope plain net) p)).faults ≡ [] →
          (x : ℕ) → Contains (vars_in (expr_of e (to plain net).var)) x →
          Contains t.action_vars x → Contains known x
      holds_known done rest known is p setter past all e none x there acting =
          let at = in_action (scope plain net) p in
          let var = (to plain net).var in
          let s = All-contains (Stands at var) (vars_in (expr_of e var)) x
          (All-from_recursion (Stands at var) (vars_in (expr_of e var)) (vars_stand at var e none))
          there in
          let found = named_in plain net sets declared sets declared x
          (acts x (there_among t.action_vars x acting)) in
          let same = names_same plain net found.0 s.name found.2 s.known (found.3 ∙ s.number) in
          let may : is_set_by (number_among sets s.name) (length done) ≡ true =
          ap (λ n. is_set_by (number_among sets s.name) n) (sym past)
          ∙ ap (λ f. is_set_by (f s.name) p.past) (sym setter) ∙ s.may in
          let early = set_before plain net sets declared done rest is s.name may
          (subst (IsIn sets) same found.1) in
          among_there known x (ap (is_among known) s.number ∙ all s.name early)

      order_step : (i : PInscription) (p : Progress) (done rest : List (List ℕ))
          (actions : List Action) (known : List ℕ) (form : PInscribed) →
          sets ≡ done ++ (set_name form ++ rest) → p.setter ≡ number_among sets →
          p.past ≡ length done → AreKnown done known →
          inscription_faults (scope plain net) p i form ≡ [] →
          ((next : List (List ℕ)) (more : List ℕ) → sets ≡ next ++ rest →
          (after p form).past ≡ length next → AreKnown next more → InOrder t more actions) →
          InOrder t known (action_of (to plain net) form ++ actions)
      order_step i p done rest actions known (I.Set var e) is setter past all none go =
          let parts = set_none i p var e none in
          let next = done ++ var.text ∷ [] in
          let x = (to plain net).var var.text in (
            holds_known done (var.text ∷ rest) known is p setter past all e parts.2,
            go next (x ∷ known) (is ∙ sym (append_assoc done (var.text ∷ []) rest))
                (let len = length-append done (var.text ∷ []) in omega (arith, past, len))
                (λ name there.
                let y = (to plain net).var name in
                elim (one_more done var.text name there) [
                  | inl early ↦ or_right (nat_eq y x) (is_among known y) (all name early)
                  | inr last ↦
                      or_left (nat_eq y x) (is_among known y)
                      (eq-eqb y x (ap (to plain net).var (sym last)))
                ]),
          )
      order_step i p done rest actions known (I.Print e) is setter past all none go = (
        holds_known done rest known is p setter past all e none,
        go done known is (let same : p.past + 0 ≡ p.past = omega arith in same ∙ past) all,
      )
      order_step i p done rest actions known _ is setter past all none go =
          go done known is (let same : p.past + 0 ≡ p.past = omega arith in same ∙ past) all

      pub in_order : (done : List (List ℕ)) (known : List ℕ) (p : Progress)
          (is : List PInscription) → sets ≡ done ++ set_names is →
          p.setter ≡ number_among sets → p.past ≡ length done → AreKnown done known →
          inscriptions_faults (scope plain net) p is ≡ [] →
          InOrder t known (flat_map (action_of (to plain net)) (map (λ i. i.form) is))
      in_order done known p [] same setter past all none = tt
      in_order done known p (i ∷ is) same setter past all none =
          let both = both_nil (inscription_faults (scope plain net) p i i.form)
          (inscriptions_faults (scope plain net) (after p i.form) is) none in
          order_step i p done (set_names is)
          (flat_map (action_of (to plain net)) (map (λ i. i.form) is)) known i.form same setter past
          all both.0
          (λ next more same past all.
          in_order next more (after p i.form) is same setter past all both.1)
