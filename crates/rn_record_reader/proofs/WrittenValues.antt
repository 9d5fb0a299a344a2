-- Values that are written are read again, and the instances that their texts name are there.
use Rattle.std.proofs.Common.{◌≡◌, ◌≢◌, ℕ, zero, suc, ◌+◌, ◌-◌, ◌<◌, Bool, true, false, cond, List, [], ◌∷◌, length, map, refl, sym, ap, ◌∙◌, subst, arith}
use Rattle.std.specs.Prelude.{Option, Some, None, AllPairs, bytes_eq, is_some, nat_eq, nat_le, nat_lt, option_map, slice_get, unwrap_or}
use Rattle.std.specs.List.{AllByRecursion, list_all}
use Rattle.std.specs.Option.{option_map_or}
use Rattle.std.proofs.lemmas.Bool.{false≢true}
use Rattle.std.proofs.lemmas.Bool.Decides.{nat_tests}
use Rattle.std.proofs.lemmas.Option.{get_or_from_slice_get, same_Some, slice_get-map, slice_get_within}
use Rattle.std.proofs.lemmas.Slice.Eq.{bytes_eq-Decides}
use Rattle.std.proofs.lemmas.List.{length-map}
use Rattle.rn_items.proofs.Bools.{and_right, both_true, true_both}
use Rattle.rn_items.proofs.Lists.{element_at}
use Rattle.rn_value.specs.Names.{AreNamed, instances_within, within_step}
use Rattle.rn_value.specs.Text.{value_text}
use Rattle.rn_value.specs.Words.{IsName}
use Rattle.rn_value.specs.declared.value.InstRef.{InstRef}
use Rattle.rn_value.specs.declared.value.InstRef.TheVariants.{Old, New}
use Rattle.rn_value.specs.declared.value.Value.{Value, fold-roll-Value, fold_out-Value, ind-Value, map-Value, out-Value}
use Rattle.rn_value.specs.declared.value.Value.TheOpen as V
use Rattle.rn_value.specs.declared.value.Value.TheVariants as Value
use Rattle.rn_model.specs.declared.system.System.{System}
use Rattle.rn_model.specs.declared.system.Net.{Net}
use Rattle.rn_model.specs.Firing.{renamed_step, renamed_value}
use Rattle.rn_model.specs.Good.{Good}
use Rattle.rn_model.specs.Systems.{empty_net, net_at}
use Rattle.rn_model.proofs.MarkingsOfRuns.{good_net}
use Rattle.rn_lines.specs.Laws.{AreCalled, IsCalled, fits_step, fits_within}
use Rattle.rn_lines.specs.ValueText.{IsValue, Said, most_brackets}
use Rattle.rn_lines.proofs.WrittenValues.{written_are_read}
use Rattle.rn_lookup.specs.Found.{are_called, is_called, name_nets, names_net, net_of_made, number_from}
use Rattle.rn_record_reader.specs.Readable.{IsReadable, readable_step, readable_within}
use Rattle.rn_record_reader.proofs.SpelledNodes.{names_for}

-- A value that can be read, and whose instances are named, fits a record.
module _ (last : ℕ) (low : last < 4294967296) where
  abbrev Fits : Value → Type 0
  Fits v = (depth : ℕ) → readable_within v depth ≡ true → instances_within v last ≡ true → fits_within v depth ≡ true

  abbrev FitPart : Type 0
  FitPart = (v : Value) × Fits v

  parts_fit : (parts : List FitPart) (depth : ℕ) →
      list_all (λ readable. readable depth) (map readable_within (map (λ e. e.0) parts)) ≡ true →
      list_all (λ within. within last) (map instances_within (map (λ e. e.0) parts)) ≡ true →
      list_all (λ fits. fits depth) (map fits_within (map (λ e. e.0) parts)) ≡ true
  parts_fit [] depth r w = refl
  parts_fit (part ∷ parts) depth r w =
      let vs : List Value = map (λ e. e.0) parts in
      let a = both_true (readable_within part.0 depth) (list_all (λ readable. readable depth) (map readable_within vs)) r in
      let b = both_true (instances_within part.0 last) (list_all (λ within. within last) (map instances_within vs)) w in
      true_both (fits_within part.0 depth) (list_all (λ fits. fits depth) (map fits_within vs)) (part.1 depth a.0 b.0)
      (parts_fit parts depth a.1 b.1)

  abbrev LayerFits : V.Value-F Value → Type 0
  LayerFits x = (depth : ℕ) → readable_step (map-Value Value (ℕ → Bool) readable_within x) depth ≡ true →
      within_step (map-Value Value (ℕ → Bool) instances_within x) last ≡ true →
      fits_step (map-Value Value (ℕ → Bool) fits_within x) depth ≡ true

  few_bits : (n : ℕ) → nat_le n last ≡ true → nat_lt n 4294967296 ≡ true
  few_bits n high =
      let below : n < 4294967296 = grind (arith, nat_tests) in
      grind (arith, nat_tests)

  fit_layer : (y : V.Value-F FitPart) → LayerFits (map-Value FitPart Value (λ e. e.0) y)
  fit_layer (V.Int n) depth r w = r
  fit_layer (V.Text s) depth r w = r
  fit_layer (V.Tuple parts) zero r w = absurd (false≢true r)
  fit_layer (V.Tuple parts) (suc depth) r w = parts_fit parts depth r w
  fit_layer (V.List parts) zero r w = absurd (false≢true r)
  fit_layer (V.List parts) (suc depth) r w = parts_fit parts depth r w
  fit_layer (V.Inst (Old n)) depth r w = few_bits n (and_right (nat_le 1 n) (nat_le n last) w)
  fit_layer (V.Inst (New path j)) depth r w = absurd (false≢true w)

  pub fits_from : (v : Value) → Fits v
  fits_from = ind-Value Fits (λ x y is depth r w.
      ap (λ f. f depth) (fold-roll-Value (ℕ → Bool) fits_step x)
      ∙ subst LayerFits is (fit_layer y) depth
      (sym (ap (λ f. f depth) (fold-roll-Value (ℕ → Bool) readable_step x)) ∙ r)
      (sym (ap (λ f. f last) (fold-roll-Value (ℕ → Bool) within_step x)) ∙ w))

-- Renaming instances leaves a value one that can be read.
module _ (name : InstRef → InstRef) where
  abbrev Stays : Value → Type 0
  Stays v = (depth : ℕ) → readable_within v depth ≡ true → readable_within (renamed_value v name) depth ≡ true

  abbrev StayPart : Type 0
  StayPart = (v : Value) × Stays v

  out : (v : Value) (x : V.Value-F Value) (depth : ℕ) → out-Value v ≡ x →
      readable_within v depth ≡ readable_step (map-Value Value (ℕ → Bool) readable_within x) depth
  out v x depth is =
      ap (λ f. f depth) (fold_out-Value (ℕ → Bool) readable_step v)
      ∙ ap (λ x. readable_step (map-Value Value (ℕ → Bool) readable_within x) depth) is

  parts_stay : (parts : List StayPart) (depth : ℕ) →
      list_all (λ readable. readable depth) (map readable_within (map (λ e. e.0) parts)) ≡ true →
      list_all (λ readable. readable depth)
      (map readable_within (map (λ part. part name) (map renamed_value (map (λ e. e.0) parts)))) ≡ true
  parts_stay [] depth r = refl
  parts_stay (part ∷ parts) depth r =
      let vs : List Value = map (λ e. e.0) parts in
      let a = both_true (readable_within part.0 depth) (list_all (λ readable. readable depth) (map readable_within vs)) r in
      true_both (readable_within (renamed_value part.0 name) depth)
      (list_all (λ readable. readable depth) (map readable_within (map (λ part. part name) (map renamed_value vs))))
      (part.1 depth a.0) (parts_stay parts depth a.1)

  abbrev LayerStays : V.Value-F Value → Type 0
  LayerStays x = (depth : ℕ) → readable_step (map-Value Value (ℕ → Bool) readable_within x) depth ≡ true →
      readable_within (renamed_step (map-Value Value ((InstRef → InstRef) → Value) renamed_value x) name) depth ≡ true

  stay_layer : (y : V.Value-F StayPart) → LayerStays (map-Value StayPart Value (λ e. e.0) y)
  stay_layer (V.Int n) depth r = out (Value.Int n) (V.Int n) depth (Value.outs-Int n) ∙ r
  stay_layer (V.Text s) depth r = out (Value.Text s) (V.Text s) depth (Value.outs-Text s) ∙ r
  stay_layer (V.Tuple parts) zero r = absurd (false≢true r)
  stay_layer (V.Tuple parts) (suc depth) r =
      let ws : List Value = map (λ part. part name) (map renamed_value (map (λ e. e.0) parts)) in
      out (Value.Tuple ws) (V.Tuple ws) (suc depth) (Value.outs-Tuple ws) ∙ parts_stay parts depth r
  stay_layer (V.List parts) zero r = absurd (false≢true r)
  stay_layer (V.List parts) (suc depth) r =
      let ws : List Value = map (λ part. part name) (map renamed_value (map (λ e. e.0) parts)) in
      out (Value.List ws) (V.List ws) (suc depth) (Value.outs-List ws) ∙ parts_stay parts depth r
  stay_layer (V.Inst i) depth r = out (Value.Inst (name i)) (V.Inst (name i)) depth (Value.outs-Inst (name i)) ∙ r

  pub still_readable : (v : Value) → Stays v
  still_readable = ind-Value Stays (λ x y is depth r.
      ap (λ f. readable_within (f name) depth) (fold-roll-Value ((InstRef → InstRef) → Value) renamed_step x)
      ∙ subst LayerStays is (stay_layer y) depth
      (sym (ap (λ f. f depth) (fold-roll-Value (ℕ → Bool) readable_step x)) ∙ r))

-- What has a name is found by it.
module _ {X : Type 0} (name : X → List ℕ) (word : List ℕ) where
  pub is_found : (k : ℕ) (xs : List X) (i : ℕ) (x : X) → slice_get xs i ≡ Some x → name x ≡ word →
      is_some (number_from name k xs word) ≡ true
  is_found k [] i x e is = absurd (let no : ⊥ = cc in no)
  is_found k (y ∷ ys) i x e is = by (bytes_eq (name y) word) refl i e (λ j f. is_found (k + 1) ys j x f is)
    where
      by : (same : Bool) → bytes_eq (name y) word ≡ same → (i : ℕ) → slice_get (y ∷ ys) i ≡ Some x →
          ((j : ℕ) → slice_get ys j ≡ Some x → is_some (number_from name (k + 1) ys word) ≡ true) →
          is_some (cond same (Some k) (number_from name (k + 1) ys word)) ≡ true
      by true same i e more = refl
      by false other zero e more =
          absurd (false≢true (sym other ∙ (bytes_eq-Decides (name y) word).1 (ap name (same_Some y x e) ∙ is)))
      by false other (suc i) e more = more i e

  abbrev Distinct : List X → Type 0
  Distinct = AllPairs (λ x y. name x ≢ name y)

  others_distinct : (y : X) (ys : List X) → Distinct (y ∷ ys) → Distinct ys
  others_distinct y ys apart = λ i j d low high. apart (suc i) (suc j) d (omega (arith, low)) (omega (arith, high))

  first_differs : (y : X) (ys : List X) (i : ℕ) (x : X) → Distinct (y ∷ ys) → slice_get ys i ≡ Some x → name y ≢ name x
  first_differs y ys i x apart e =
      let within = slice_get_within ys i x e in
      subst (λ z. name y ≢ name z) (get_or_from_slice_get ys i x x e) (apart 0 (suc i) x (omega arith) (omega (arith, within)))

  pub number_is : (k : ℕ) (xs : List X) (i : ℕ) (x : X) → Distinct xs → slice_get xs i ≡ Some x → name x ≡ word →
      number_from name k xs word ≡ Some (k + i)
  number_is k [] i x apart e is = absurd (let no : ⊥ = cc in no)
  number_is k (y ∷ ys) zero x apart e is =
      let here : bytes_eq (name y) word ≡ true = (bytes_eq-Decides (name y) word).1 (ap name (same_Some y x e) ∙ is) in
      let same : k ≡ k + 0 = omega arith in
      ap (λ b. cond b (Some k) (number_from name (k + 1) ys word)) here ∙ ap (λ n. Some n) same
  number_is k (y ∷ ys) (suc i) x apart e is =
      by (bytes_eq (name y) word) refl (number_is (k + 1) ys i x (others_distinct y ys apart) e is)
    where
      by : (same : Bool) → bytes_eq (name y) word ≡ same → number_from name (k + 1) ys word ≡ Some ((k + 1) + i) →
          cond same (Some k) (number_from name (k + 1) ys word) ≡ Some (k + suc i)
      by true same more = absurd (first_differs y ys i x apart e ((bytes_eq-Decides (name y) word).0 same ∙ sym is))
      by false other more =
          let next : (k + 1) + i ≡ k + suc i = omega arith in
          more ∙ ap (λ n. Some n) next

-- a net that is there
abbrev pub IsNet : System → ℕ → Type 0
IsNet system net = net < length system.nets

pub net_there : (system : System) (net : ℕ) → IsNet system net → slice_get system.nets net ≡ Some (net_at system net)
net_there system net low =
    let found = element_at system.nets net low in
    found.1 ∙ ap (λ o. Some (unwrap_or o empty_net)) (sym found.1)

-- Where instances of these nets are made, what texts name is there.
module _ (system : System) (good : Good system) (all : List ℕ) (real : AllByRecursion (IsNet system) all)
    (few : length all < 4294967296) where
  abbrev names : List (List ℕ)
  names = names_for system all

  are_names : (nets : List ℕ) → AllByRecursion (IsNet system) nets → AllByRecursion IsName (names_for system nets)
  are_names [] nets = tt
  are_names (net ∷ nets) (low, more) = ((good_net system net good low).name.0, are_names nets more)

  net_called : (m : Said) → IsCalled names m →
      (net : ℕ) × (net_of_made all m.number ≡ Some net) × ((net_at system net).name ≡ m.name)
  net_called m e = by (nat_eq m.number 0) e
    where
      at : (o : Option ℕ) → option_map (λ net. (net_at system net).name) o ≡ Some m.name →
          (net : ℕ) × (o ≡ Some net) × ((net_at system net).name ≡ m.name)
      at None e = absurd (let no : ⊥ = cc in no)
      at (Some net) e = (net, refl, same_Some (net_at system net).name m.name e)

      by : (none : Bool) → cond none None (slice_get names (m.number - 1)) ≡ Some m.name →
          (net : ℕ) × (cond none None (slice_get all (m.number - 1)) ≡ Some net) × ((net_at system net).name ≡ m.name)
      by true e = absurd (let no : ⊥ = cc in no)
      by false e =
          at (slice_get all (m.number - 1)) (sym (slice_get-map (λ net. (net_at system net).name) all (m.number - 1)) ∙ e)

  is_net : (number net : ℕ) → net_of_made all number ≡ Some net → IsNet system net
  is_net number net e = by (nat_eq number 0) e
    where
      by : (none : Bool) → cond none None (slice_get all (number - 1)) ≡ Some net → IsNet system net
      by true e = absurd (let no : ⊥ = cc in no)
      by false e = each_at all (number - 1) real e
        where
          each_at : (nets : List ℕ) (k : ℕ) → AllByRecursion (IsNet system) nets → slice_get nets k ≡ Some net → IsNet system net
          each_at [] k are e = absurd (let no : ⊥ = cc in no)
          each_at (x ∷ xs) zero are e = subst (IsNet system) (same_Some x net e) are.0
          each_at (x ∷ xs) (suc k) are e = each_at xs k are.1 e

  pub mention_called : (m : Said) → IsCalled names m → (is_called system all m ≡ true) × (names_net system m ≡ true)
  mention_called m e =
      let found = net_called m e in
      let low = is_net m.number found.0 found.1 in (
        ap (λ o. option_map_or (λ net. bytes_eq (net_at system net).name m.name) o false) found.1
            ∙ (bytes_eq-Decides (net_at system found.0).name m.name).1 found.2,
        is_found (λ (net : Net). net.name) m.name 0 system.nets found.0 (net_at system found.0) (net_there system found.0 low) found.2,
      )

  pub all_called : (ms : List Said) → AreCalled names ms → (are_called system all ms ≡ true) × (name_nets system ms ≡ true)
  all_called [] e = (refl, refl)
  all_called (m ∷ ms) (e, more) =
      let one = mention_called m e in
      let rest = all_called ms more in (
        true_both (is_called system all m) (are_called system all ms) one.0 rest.0,
        true_both (names_net system m) (name_nets system ms) one.1 rest.1,
      )

  -- a value that is written is read
  pub value_read : (v : Value) → IsReadable v → AreNamed names v →
      (named : List Said) × IsValue most_brackets v named (value_text v names)
      × (are_called system all named ≡ true) × (name_nets system named ≡ true)
  value_read v readable is_named =
      let count : length names ≡ length all = length-map all (λ net. (net_at system net).name) in
      let low : length names < 4294967296 = omega (arith, count, few) in
      let read = written_are_read names most_brackets v (are_names all real) is_named
      (fits_from (length names) low v most_brackets readable is_named) in
      let called = all_called read.0 read.1 in
      (read.0, read.2, called.0, called.1)
