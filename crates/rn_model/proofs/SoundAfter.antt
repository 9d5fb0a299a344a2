-- Firings keep tokens sound.
use Rattle.std.proofs.Common.{◌≡◌, ℕ, ◌+◌, Bool, true, false, List, get_or, refl, sym, ap, ◌∙◌, subst, inl, inr, arith}
use Rattle.std.specs.Prelude.{◌&&◌, Option, Some, None, Ok, Contains, is_some, nat_eq, position, slice_get, option_map, if◌then◌else◌}
use Rattle.std.specs.Option.{option_map_or}
use Rattle.std.specs.List.{enumerate_from}
use Rattle.std.specs.Cmp.Lexicographic.{pointwise}
use Rattle.std.proofs.lemmas.Bool.{eqb-true, eq-eqb}
use Rattle.std.proofs.lemmas.List.Elements.{All-contains, Contains-get_or}
use Rattle.std.proofs.lemmas.List.Quantifiers.{position-Some}
use Rattle.std.proofs.lemmas.Option.{same_Some, slice_get-get_or}
use Rattle.rn_items.proofs.Numbers.{same_numbers, numbers_themselves}
use Rattle.rn_items.proofs.Bools.{both_true, true_both}
use Rattle.rn_value.proofs.Variants.{same_old}
use Rattle.rn_value.specs.Kinds.{HasKind, value_has_kind}
use Rattle.rn_value.specs.declared.value.Kind.{Kind}
use Rattle.rn_value.specs.declared.value.InstRef.{InstRef}
use Rattle.rn_value.specs.declared.value.InstRef.TheVariants.{Old, New}
use Rattle.rn_value.specs.declared.value.Value.{Value}
use Rattle.rn_model.specs.declared.system.System.{System}
use Rattle.rn_model.specs.declared.system.Creation.{Creation}
use Rattle.rn_model.specs.declared.system.Action.TheVariants.{Set}
use Rattle.rn_model.specs.declared.binding.Node.{Node}
use Rattle.rn_model.specs.declared.binding.Binding.{Binding}
use Rattle.rn_model.specs.Good.{Good, IsGoodTransition, IsGoodAction, IsGoodArc}
use Rattle.rn_model.specs.Lists.{value_beside}
use Rattle.rn_model.specs.Systems.{net_at, transition_of, var_kind, var_kind_in, place_kind}
use Rattle.rn_model.specs.Evaluation.{Env}
use Rattle.rn_model.specs.Bindings.{IsNodeOf, IsOfCreation, env_of, node_at}
use Rattle.rn_model.specs.Agreement.{NodeAgrees}
use Rattle.rn_model.specs.Demands.{asked_at, puts}
use Rattle.rn_model.specs.Markings.{Marking, Instance, IsMarking, IsThere, instance_at, net_of}
use Rattle.rn_model.specs.Enabling.{Enabled}
use Rattle.rn_model.specs.Liveness.{held}
use Rattle.rn_model.specs.SoundTokens.{HasSoundTokens, IsSoundToken}
use Rattle.rn_model.specs.Firing.{Made, Fired, fire, creations_of, made_by, named, numbered_inst, renamed_value, renamed_node, marking_after, instance_after, new_instance}
use Rattle.rn_model.specs.LivenessLaws.{FiringsKeepTokensSound, NamesWhatIsThere, ReportsWhatIsThere, FiringsReportWhatIsThere}
use Rattle.rn_model.proofs.InitialTokens.{apart}
use Rattle.rn_model.proofs.NodesByPath.{node_at-path}
use Rattle.rn_model.proofs.MarkingsOfRuns.{good_transition}
use Rattle.rn_model.proofs.LiveByRounds.{DecidesLive, live_decided}
use Rattle.rn_model.proofs.PassingInstances.{only, only_mentions, only_no_new, names_passing}
use Rattle.rn_model.proofs.DerivedInstances.{PassesOn, inst_passes, value_passes}
use Rattle.rn_model.proofs.LiveBindings.{start_is_live, live_is_there}
use Rattle.rn_model.proofs.DeadInstances.{FiredAs, fired_as, there_of_net, live_there, first_token}
use Rattle.rn_model.proofs.AskedValues.{contained_mapped, contained_flat, map_source, flat_source}
use Rattle.rn_model.proofs.AfterFiring.{was_there, is_new, at_least, token_from}
use Rattle.rn_model.proofs.PutValues.{StaysSo, reading_stays, put_from, put_passes, outs_pass, renamed_passes}
use Rattle.rn_model.proofs.KindsOfValues.{worth_has_kind, put_has_kind, beside_has_kind}
use Rattle.rn_model.proofs.IndicesInLists.{in_enumerated, from_enumerated, has_position}
use Rattle.rn_model.proofs.CountsAfterFiring.{not_yet}

abbrev is_made_at : List ℕ → ℕ → Made → Bool
is_made_at path j c = pointwise nat_eq c.path path && nat_eq c.index j

-- live ones, and those that a binding makes
abbrev live_or_made : (ℕ → Bool) → List Made → InstRef → Bool
live_or_made live made (Old n) = live n
live_or_made live made (New path j) = is_some (position (λ c. pointwise nat_eq c.path path && nat_eq c.index j) made)

-- those that are there
abbrev there_in : Marking → InstRef → Bool
there_in m (Old n) = is_some (instance_at m n)
there_in m (New path j) = false

is_there_in : (m : Marking) (n : ℕ) (o : Option Instance) → instance_at m n ≡ o → is_some o ≡ true → IsThere m n
is_there_in m n None e h = absurd (let no : ⊥ = cc in no)
is_there_in m n (Some i) e h = (i, e)

module _ (system : System) (m : Marking) (b : Binding) (depth step : ℕ) (f : Fired) (good : Good system) (is : IsMarking system m) (sound : HasSoundTokens system m) (enabled : Enabled system m b depth) (fires : fire system m b step ≡ Ok f) where
  abbrev fired : FiredAs system m b step f
  fired = fired_as system m b step f fires

  abbrev made : List Made
  made = creations_of system b

  abbrev named_b : Binding
  named_b = named system b m.next

  abbrev after : Marking
  after = marking_after system m made named_b fired.acts

  abbrev name : InstRef → InstRef
  name = numbered_inst made m.next

  -- A creation that a firing gives this number.
  abbrev IsNumbered : ℕ → List ℕ → ℕ → Type 0
  IsNumbered n path j = (c : Made) × Contains made c × (c.path ≡ path) × (c.index ≡ j) × (instance_at after n ≡ Some (new_instance system named_b fired.acts (n, c)))

  numbered_at : (path : List ℕ) (j k : ℕ) → position (λ c. pointwise nat_eq c.path path && nat_eq c.index j) made ≡ Some k → IsNumbered (m.next + k) path j
  numbered_at path j k e =
      let d : Made = record { path = path; index = j; net = 0 } in
      let at = position-Some (λ c. pointwise nat_eq c.path path && nat_eq c.index j) made k d e in
      let c = get_or made k d in
      let both = both_true (pointwise nat_eq c.path path) (nat_eq c.index j) at.1 in (
        c,
        Contains-get_or made k d at.0,
        same_numbers c.path path both.0,
        eqb-true c.index j both.1,
        is_new system m made named_b fired.acts (m.next + k, c) (not_yet system m (m.next + k) is (omega arith)) (in_enumerated m.next made k c (slice_get-get_or made k d at.0)),
      )

  -- new instances have numbers of instances that are there after
  new_there : (path : List ℕ) (j : ℕ) (o : Option ℕ) → position (λ c. pointwise nat_eq c.path path && nat_eq c.index j) made ≡ o → is_some o ≡ true → there_in after (option_map_or (λ k. Old (m.next + k)) o (New path j)) ≡ true
  new_there path j None e h = absurd (let no : ⊥ = cc in no)
  new_there path j (Some k) e h = ap is_some (numbered_at path j k e).4

  still_there : (n : ℕ) → IsThere m n → IsThere after n
  still_there n (i, e) = (instance_after system named_b fired.acts i, was_there system m made named_b fired.acts n i e)

  renames : (live : ℕ → Bool) → DecidesLive system m live → (i : InstRef) → live_or_made live made i ≡ true → there_in after (name i) ≡ true
  renames live decides (Old n) e = ap is_some (still_there n (live_there system m n (decides.sound n e))).1
  renames live decides (New path j) e = new_there path j (position (λ c. pointwise nat_eq c.path path && nat_eq c.index j) made) refl e

  is_made : (node : Node) (j : ℕ) (c : Creation) → Contains b.nodes node → slice_get (transition_of system node).creations j ≡ Some c → is_some (position (λ c. pointwise nat_eq c.path node.path && nat_eq c.index j) made) ≡ true
  is_made node j c there here =
      let own : Made = record { path = node.path; index = j; net = c.net } in
      let first : 0 + j ≡ j = omega arith in
      let listed = subst (λ k. Contains (enumerate_from 0 (transition_of system node).creations) (k, c)) first (in_enumerated 0 (transition_of system node).creations j c here) in
      let in_node : Contains (made_by system node) own = contained_mapped (λ c. record { path = node.path; index = c.0; net = c.1.net }) (enumerate_from 0 (transition_of system node).creations) (j, c) listed in
      has_position (λ c. pointwise nat_eq c.path node.path && nat_eq c.index j) made own (contained_flat (made_by system) b.nodes node own there in_node)
      (true_both (pointwise nat_eq node.path node.path) (nat_eq j j) (numbers_themselves node.path) (eq-eqb j j refl))

  passes_on : (live : ℕ → Bool) → DecidesLive system m live → PassesOn system m b (live_or_made live made)
  passes_on live decides = record {
    start = λ node there path.
        let start = enabled.shape.start in
        let same : node ≡ start.0 = same_Some node start.0 (sym (node_at-path system b depth node enabled.shape there) ∙ ap (node_at b) path ∙ start.1) in
        let inst : node.inst ≡ Old start.2.exists.0 = ap (λ s. s.inst) same ∙ start.2.exists.1 in
        ap (live_or_made live made) inst ∙ decides.whole start.2.exists.0 (start_is_live system m b depth sound enabled node start.2.exists.0 there path inst);
    made = is_made;
    tokens = λ n place v lives has.
        let lives_n = decides.sound n lives in
        let there = live_is_there system m n lives_n in
        let token = sound n there.0 place v there.1 has in
        names_passing (live_or_made live made) v (record {
          old = λ k said. decides.whole k (held place lives_n has said (token.there k said));
          new = λ path j news. let both : true ≡ false = sym news ∙ token.old in absurd (let no : ⊥ = cc in no);
        });
  }

  put_there : (inst : InstRef) (place : ℕ) (v : Value) → Contains (asked_at puts system fired.acts.read inst place) v → only (there_in after) v ≡ true
  put_there inst place v put =
      let live = live_decided system m in
      let passes = passes_on live.0 live.1 in
      put_passes system b m.next step fired.acts fired.are (live_or_made live.0 made) (there_in after) (renames live.0 live.1)
      (inst_passes system m b (live_or_made live.0 made) depth enabled passes) (value_passes system m b (live_or_made live.0 made) depth enabled passes good) inst place v put

  -- An instance that is there, by its name.
  abbrev IsOldThere : InstRef → Type 0
  IsOldThere i = (n : ℕ) × (i ≡ Old n) × IsThere after n

  old_there : (i : InstRef) → there_in after i ≡ true → IsOldThere i
  old_there (Old n) e = (n, refl, is_there_in after n (instance_at after n) refl e)
  old_there (New path j) e = absurd (let no : ⊥ = cc in no)

  names_there : (v : Value) → only (there_in after) v ≡ true → NamesWhatIsThere after v
  names_there v passes = record {
    old = only_no_new (there_in after) (λ path j. refl) v passes;
    there = λ k said. is_there_in after k (instance_at after k) refl (only_mentions (there_in after) v passes k said);
  }

  reports_after : ReportsWhatIsThere system m b (record { marking = after; outs = fired.acts.outs })
  reports_after =
      let live = live_decided system m in
      let before = live_or_made live.0 made in
      let passes = passes_on live.0 live.1 in
      let insts = inst_passes system m b before depth enabled passes in
      let values = value_passes system m b before depth enabled passes good in
      record {
        insts = λ node there.
            let from = map_source (renamed_node name) b.nodes node there in
            subst (λ n. IsOldThere n.inst) from.2 (old_there (name from.0.inst) (renames live.0 live.1 from.0.inst (insts from.0 from.1)));
        values = λ node v there has.
            let from = map_source (renamed_node name) b.nodes node there in
            let value = map_source (λ v. renamed_value v name) from.0.values v (subst (λ n. Contains n.values v) (sym from.2) has) in
            names_there v (ap (only (there_in after)) (sym value.2) ∙ renamed_passes before (there_in after) name (renames live.0 live.1) value.0 (values from.0 value.0 from.1 value.1));
        outs = λ v has.
            names_there v (outs_pass system b m.next step fired.acts fired.are before (there_in after) (renames live.0 live.1) insts values v has);
      }

  -- the variables of a node have values of their kinds
  abbrev HaveKinds : Node → Env → Type 0
  HaveKinds node env = (x : ℕ) (v : Value) → value_beside env.pairs x ≡ Some v → HasKind v (var_kind system node.net x)

  abbrev IsNamedFrom : Node → Type 0
  IsNamedFrom node = (first : Node) × Contains b.nodes first × (renamed_node name first ≡ node)

  named_from : (node : Node) → Contains named_b.nodes node → IsNamedFrom node
  named_from node there = map_source (renamed_node name) b.nodes node there

  good_of : (node : Node) → Contains named_b.nodes node → IsGoodTransition system (net_at system node.net) (transition_of system node)
  good_of node there =
      let from = named_from node there in
      let of : IsNodeOf system from.0 = All-contains (IsNodeOf system) b.nodes from.0 enabled.shape.nodes from.1 in
      subst (λ n. IsGoodTransition system (net_at system n.net) (transition_of system n)) from.2 (good_transition system from.0.net from.0.transition good of.net of.transition)

  kinds_begin : (node : Node) → Contains named_b.nodes node → HaveKinds node (record (env_of system node) { step = Some step })
  kinds_begin node there =
      let from = named_from node there in
      let agrees : NodeAgrees system from.0 = All-contains (NodeAgrees system) b.nodes from.0 enabled.agrees.nodes from.1 in
      subst (λ n. HaveKinds n (record (env_of system n) { step = Some step })) from.2
      (beside_has_kind name (var_kind system from.0.net) (transition_of system from.0).vars from.0.values agrees.kinds)

  set_or_before : (kinds : ℕ → Kind) (pairs : List (ℕ × Value)) (x y : ℕ) (v w : Value) (same : Bool) → nat_eq x y ≡ same → HasKind v (kinds x) → ((z : ℕ) (u : Value) → value_beside pairs z ≡ Some u → HasKind u (kinds z)) → (if same then Some v else value_beside pairs y) ≡ Some w → HasKind w (kinds y)
  set_or_before kinds pairs x y v w true same kind others e =
      let value : v ≡ w = cc in
      let number : x ≡ y = eqb-true x y same in
      ap (λ u. value_has_kind u (kinds y)) (sym value) ∙ ap (λ z. value_has_kind v (kinds z)) (sym number) ∙ kind
  set_or_before kinds pairs x y v w false same kind others e = others y w e

  kinds_stay : StaysSo system step named_b.nodes HaveKinds
  kinds_stay = record {
    begins = kinds_begin;
    goes_on = λ node x e v env there has before value.
        let t = good_of node there in
        let action = All-contains (IsGoodAction (var_kind_in (net_at system node.net))) (transition_of system node).actions (Set x e) t.kinds.actions has in
        let kind : HasKind v (var_kind system node.net x) = worth_has_kind (var_kind system node.net) env before e (var_kind system node.net x) action v value in
        λ y w found. set_or_before (var_kind system node.net) env.pairs x y v w (nat_eq x y) refl kind before found;
  }

  -- a node that stands on an instance is of its net
  abbrev HasNet : ℕ → ℕ → Type 0
  HasNet n net = net_of after n ≡ Some net

  new_net : (node : Node) (path : List ℕ) (j n net k : ℕ) → Contains b.nodes node → node.inst ≡ New path j → position (λ c. pointwise nat_eq c.path path && nat_eq c.index j) made ≡ Some k → m.next + k ≡ n → HasNet n net → node.net ≡ net
  new_net node path j n net k there inst e number has =
      let at = numbered_at path j k e in
      let c = at.0 in
      let by = flat_source (made_by system) b.nodes c at.1 in
      let from = map_source (λ c. record { path = by.0.path; index = c.0; net = c.1.net }) (enumerate_from 0 (transition_of system by.0).creations) c by.2 in
      let creation = from_enumerated 0 (transition_of system by.0).creations from.0 from.1 in
      let created = All-contains (IsOfCreation system b) b.nodes node enabled.shape.created there path j inst in
      let path_is : by.0.path ≡ path = ap (λ c. c.path) from.2 ∙ at.2 in
      let maker : created.0 ≡ by.0 = same_Some created.0 by.0 (sym created.2 ∙ ap (node_at b) (sym path_is) ∙ node_at-path system b depth by.0 enabled.shape by.1) in
      let index_is : from.0.0 ≡ j = ap (λ c. c.index) from.2 ∙ at.3 in
      let index_too : creation.0 ≡ j = let of = creation.1 in omega (arith, of, index_is) in
      let here : slice_get (transition_of system by.0).creations j ≡ Some from.0.1 = ap (λ k. slice_get (transition_of system by.0).creations k) (sym index_too) ∙ creation.2 in
      let also : slice_get (transition_of system by.0).creations j ≡ Some created.1 = ap (λ w. slice_get (transition_of system w).creations j) (sym maker) ∙ created.3 in
      let same : created.1 ≡ from.0.1 = same_Some created.1 from.0.1 (sym also ∙ here) in
      let own : c.net ≡ net = same_Some c.net net (sym (ap (option_map (λ i. i.net)) at.4) ∙ ap (net_of after) number ∙ has) in
      created.4 ∙ ap (λ w. w.net) same ∙ ap (λ w. w.net) from.2 ∙ own

  inst_net : (node : Node) (inst : InstRef) (n net : ℕ) → Contains b.nodes node → node.inst ≡ inst → name inst ≡ Old n → HasNet n net → node.net ≡ net
  inst_net node (Old k) n net there inst e has =
      let number : k ≡ n = same_old k n e in
      let own = All-contains (λ node. (n : ℕ) → node.inst ≡ Old n → net_of m n ≡ Some node.net) b.nodes node enabled.fits.there there k inst in
      let found = there_of_net m k node.net own in
      sym found.2 ∙ same_Some found.0.net net (sym (ap (option_map (λ i. i.net)) (was_there system m made named_b fired.acts k found.0 found.1)) ∙ ap (net_of after) number ∙ has)
  inst_net node (New path j) n net there inst e has = by_position (position (λ c. pointwise nat_eq c.path path && nat_eq c.index j) made) refl e
    where
      by_position : (o : Option ℕ) → position (λ c. pointwise nat_eq c.path path && nat_eq c.index j) made ≡ o → option_map_or (λ k. Old (m.next + k)) o (New path j) ≡ Old n → node.net ≡ net
      by_position None at e = absurd (let no : ⊥ = cc in no)
      by_position (Some k) at e = new_net node path j n net k there inst at (same_old (m.next + k) n e) has

  put_kind : (n net place : ℕ) (v : Value) → HasNet n net → Contains (asked_at puts system fired.acts.read (Old n) place) v → HasKind v (place_kind system net place)
  put_kind n net place v has put =
      let from = put_from system fired.acts.read (Old n) place v put in
      let reading = reading_stays system step HaveKinds named_b.nodes kinds_stay fired.acts fired.are from.reading from.there in
      let node = from.reading.node in
      let t = good_of node reading.0 in
      let arc = All-contains (IsGoodArc (net_at system node.net) (var_kind_in (net_at system node.net))) (transition_of system node).arcs from.arc t.kinds.arcs from.arc_there in
      let value = worth_has_kind (var_kind system node.net) from.reading.env reading.1 from.arc.inscription _ arc.kind from.value from.worth_is in
      let kind : HasKind v (place_kind system node.net from.arc.place) = put_has_kind from.arc.kind (place_kind system node.net from.arc.place) from.value v value from.put in
      let first = named_from node reading.0 in
      let own : first.0.net ≡ net = inst_net first.0 first.0.inst n net first.1 refl (ap (λ w. w.inst) first.2 ∙ from.stands) has in
      let net_is : node.net ≡ net = sym (ap (λ w. w.net) first.2) ∙ own in
      subst (λ p. HasKind v (place_kind system net p)) from.place_is (subst (λ k. HasKind v (place_kind system k from.arc.place)) net_is kind)

  -- each token after the firing is sound: it was there, is an initial one, or is put
  sound_after : HasSoundTokens system after
  sound_after n net place v has there =
      let holder = there_of_net after n net has in
      elim (token_from system m made named_b fired.acts n place v holder.0 holder.1 there) as (λ _. IsSoundToken system after net place v) [
        | inl (i, found, before) ↦
            let net_is : i.net ≡ net = same_Some i.net net (sym (ap (option_map (λ i. i.net)) (was_there system m made named_b fired.acts n i found)) ∙ has) in
            let token = sound n i.net place v (ap (option_map (λ i. i.net)) found) before in
            record {
              kind = subst (λ k. HasKind v (place_kind system k place)) net_is token.kind;
              old = token.old;
              there = λ k said. still_there k (token.there k said);
            }
        | inr other ↦ elim other as (λ _. IsSoundToken system after net place v) [
          | inl (c, p, new, index_is, first) ↦
              let at_new = is_new system m made named_b fired.acts (n, c) (not_yet system m n is (at_least m.next made (n, c) new)) new in
              let net_is : c.net ≡ net = same_Some c.net net (sym (ap (option_map (λ i. i.net)) at_new) ∙ has) in
              let token = first_token system b depth m.next m n c place p v good enabled new index_is first in
              let none = apart v token.apart in
              let kind : place_kind system c.net place ≡ p.kind = rw index_is refl in
              record {
                kind = subst (λ k. HasKind v (place_kind system k place)) net_is (subst (HasKind v) (sym kind) token.fits);
                old = none.0;
                there = λ k said. let both : true ≡ false = sym said ∙ none.1 k in absurd (let no : ⊥ = cc in no);
              }
          | inr put ↦
              let names = names_there v (put_there (Old n) place v put) in
              record { kind = put_kind n net place v has put; old = names.old; there = names.there }
        ]
      ]

  pub sound_fired : HasSoundTokens system f.marking
  sound_fired = subst (HasSoundTokens system) fired.marking sound_after

  pub reports_fired : ReportsWhatIsThere system m b f
  reports_fired =
      let given : Fired = record { marking = after; outs = fired.acts.outs } in
      let same : given ≡ f = ap (λ x. record { marking = x; outs = fired.acts.outs }) fired.marking ∙ ap (λ o. record { marking = f.marking; outs = o }) fired.outs in
      subst (ReportsWhatIsThere system m b) same reports_after

-- the firing of an enabled binding reports only instances that are there after it
pub firings_report_what_is_there : FiringsReportWhatIsThere
firings_report_what_is_there system m b depth step f good is sound enabled fires = reports_fired system m b depth step f good is sound enabled fires

-- and its marking has sound tokens
pub firings_keep_tokens_sound : FiringsKeepTokensSound
firings_keep_tokens_sound system m b depth step f good is sound enabled fires = sound_fired system m b depth step f good is sound enabled fires
