-- What is declared: the numbers of names, and the kinds at these numbers.
use Rattle.std.proofs.Common.{◌≡◌, ℕ, zero, suc, ◌+◌, ◌<◌, Bool, true, false, List, [], ◌∷◌}
use Rattle.std.proofs.Common.{map}
use Rattle.std.proofs.Common.{refl, sym, ap, ◌∙◌, subst, length, arith}
use Rattle.std.specs.Prelude.{Option, Some, None, unwrap_or, slice_get, option_map, option_and_then}
use Rattle.std.specs.Prelude.{nat_eq, is_some, if◌then◌else◌}
use Rattle.std.specs.Option.{option_map_or}
use Rattle.std.specs.Cmp.Lexicographic.{pointwise}
use Rattle.std.proofs.lemmas.Bool.{eqb-true}
use Rattle.std.proofs.lemmas.Option.{slice_get-map, slice_get_within, same_Some}
use Rattle.std.proofs.lemmas.List.{length-map}
use Rattle.rn_items.proofs.Bools.{both_true}
use Rattle.rn_value.specs.declared.value.Kind.{Kind}
use Rattle.rn_model.specs.declared.system.Var.{Var}
use Rattle.rn_model.specs.declared.system.Place.{Place}
use Rattle.rn_model.specs.declared.system.Channel.{Channel}
use Rattle.rn_model.specs.Kinds.{same_kind}
use Rattle.rn_model.specs.Systems.{var_kind_in, place_kind_in, capacity_in, channel_kinds}
use Rattle.rn_model.specs.Systems.{unkinded}
use Rattle.rn_net.specs.declared.plain.Plain.{Plain}
use Rattle.rn_net.specs.declared.plain.PNet.{PNet}
use Rattle.rn_net.specs.declared.plain.PVar.{PVar}
use Rattle.rn_net.specs.declared.plain.PPlace.{PPlace}
use Rattle.rn_net.specs.declared.plain.PChannel.{PChannel}
use Rattle.rn_declared.specs.declared.pattern.Pattern.{Pattern}
use Rattle.rn_declared.specs.Patterns.{gives_kind, pattern_of}
use Rattle.rn_declared.specs.Names.{same_name, number_among}
use Rattle.rn_rules.specs.Systems.{scope_of}
use Rattle.rn_declared.specs.Channels.{channel_from, same_channel}
use Rattle.rn_numbered.specs.Numbered.{kind_of, value_of, capacity_of}
use Rattle.rn_numbering.specs.Numbering.{numbered_net_of, system_of, numbers_of}
use Rattle.rn_numbered.proofs.NumberLemmas.{number_below}
use Rattle.rn_check.proofs.DeclaredKinds.{gives_itself}

pub same_texts : (a b : List ℕ) → pointwise nat_eq a b ≡ true → a ≡ b
same_texts [] [] e = refl
same_texts [] (y ∷ ys) e = absurd (let no : ⊥ = cc in no)
same_texts (x ∷ xs) [] e = absurd (let no : ⊥ = cc in no)
same_texts (x ∷ xs) (y ∷ ys) e =
    let both = both_true (nat_eq x y) (pointwise nat_eq xs ys) e in
    ap (λ z. z ∷ xs) (eqb-true x y both.0) ∙ ap (λ zs. y ∷ zs) (same_texts xs ys both.1)

-- what is found by a number
pub found_at : {A B : Type 0} (get : A → B) (xs : List A) (o : Option ℕ) (y : B) →
    option_and_then (slice_get (map get xs)) o ≡ Some y →
    (n : ℕ) × (x : A) × (o ≡ Some n) × (slice_get xs n ≡ Some x) × (get x ≡ y)
found_at get xs None y e = absurd (let no : ⊥ = cc in no)
found_at get xs (Some n) y e = got (slice_get xs n) refl
  where
    got : (o : Option _) → slice_get xs n ≡ o →
        (m : ℕ) × (x : _) × (Some n ≡ Some m) × (slice_get xs m ≡ Some x) × (get x ≡ y)
    got None is =
        absurd (let h = sym (slice_get-map get xs n ∙ ap (option_map get) is) ∙ e in
        let no : ⊥ = cc in no)
    got (Some x) is =
        let h : Some (get x) ≡ Some y =
        sym (slice_get-map get xs n ∙ ap (option_map get) is) ∙ e in
        (n, x, refl, is, same_Some (get x) y h)

-- The channel that is found by its name and number of arguments has these.
pub after_first : (n m : ℕ) (channels : List PChannel) (name : List ℕ) (count : ℕ) →
    channel_from n channels name count ≡ Some m → n < suc m
after_first n m [] name count e = absurd (let no : ⊥ = cc in no)
after_first n m (d ∷ channels) name count e =
    by (same_channel d name count) (after_first (n + 1) m channels name count) e
  where
    by : (b : Bool) → (channel_from (n + 1) channels name count ≡ Some m → n + 1 < suc m) →
        (if b then Some n else channel_from (n + 1) channels name count) ≡ Some m → n < suc m
    by true later e = let same = same_Some n m e in omega (arith, same)
    by false later e = let more = later e in omega (arith, more)

first_found : (n : ℕ) (channels : List PChannel) (name : List ℕ) (count : ℕ) (c d : PChannel)
    (b : Bool) → same_channel d name count ≡ b → d ≡ c →
    (if b then Some n else channel_from (n + 1) channels name count) ≡ Some (n + 0) →
    same_channel c name count ≡ true
first_found n channels name count c d true here is e =
    ap (λ x. same_channel x name count) (sym is) ∙ here
first_found n channels name count c d false here is e =
    let more = after_first (n + 1) (n + 0) channels name count e in absurd (omega (arith, more))

later_found : (n k : ℕ) (channels : List PChannel) (name : List ℕ) (count : ℕ) (c : PChannel)
    (b : Bool) → (channel_from (n + 1) channels name count ≡ Some (n + 1 + k) →
    same_channel c name count ≡ true) →
    (if b then Some n else channel_from (n + 1) channels name count) ≡ Some (n + suc k) →
    same_channel c name count ≡ true
later_found n k channels name count c true later e =
    let same = same_Some n (n + suc k) e in absurd (omega (arith, same))
later_found n k channels name count c false later e =
    let place : n + suc k ≡ n + 1 + k = omega arith in later (e ∙ ap (λ m. Some m) place)

pub channel_found : (n k : ℕ) (channels : List PChannel) (name : List ℕ) (count : ℕ)
    (c : PChannel) → channel_from n channels name count ≡ Some (n + k) →
    slice_get channels k ≡ Some c → same_channel c name count ≡ true
channel_found n k [] name count c e is = absurd (let no : ⊥ = cc in no)
channel_found n zero (d ∷ channels) name count c e is =
    first_found n channels name count c d (same_channel d name count) refl (same_Some d c is) e
channel_found n (suc k) (d ∷ channels) name count c e is =
    later_found n k channels name count c (same_channel d name count)
    (λ e. channel_found (n + 1) k channels name count c e is) e

pub found_below : (names : List (List ℕ)) (name : List ℕ) (o : Option ℕ) →
    number_among names name ≡ o → is_some o ≡ true → unwrap_or o 0 < length names
found_below names name None is e = absurd (let no : ⊥ = cc in no)
found_below names name (Some m) is e =
    let below = number_below 0 m names name is in omega (arith, below)

abbrev pub var_of : PVar → Var
var_of v = record { name = v.name.text; kind = kind_of v.kind }

abbrev pub place_of : PPlace → Place
place_of p = record {
  name = p.name.text;
  kind = kind_of p.kind;
  initial = map value_of p.initial;
  max = capacity_of p.max;
}

none_there : {A : Type 0} (o : Option A) → is_some o ≡ false → o ≡ None
none_there None e = refl
none_there (Some x) e = absurd (let no : ⊥ = cc in no)

abbrev pub channel_of : PChannel → Channel
channel_of c = record { name = c.name.text; kinds = map kind_of c.kinds }

module _ (plain : Plain) (net : PNet) where
  -- a variable that is declared
  pub the_var : (name : List ℕ) (p : Pattern) →
      (scope_of plain net).pattern_of_var name ≡ Some p →
      (v : PVar) × (pattern_of v.kind ≡ p)
      × (var_kind_in (numbered_net_of plain net) ((numbers_of plain net).var name) ≡ kind_of v.kind)
  the_var name p e =
      let found = found_at (λ v. pattern_of v.kind) net.vars
      (number_among (map (λ v. v.name.text) net.vars) name) p e in (
        found.1,
        found.4,
        ap (λ o. var_kind_in (numbered_net_of plain net) (unwrap_or o 0)) found.2
            ∙ ap (λ o. option_map_or (λ var. var.kind) o unkinded)
            (slice_get-map var_of net.vars found.0 ∙ ap (option_map var_of) found.3),
      )

  pub the_place : (name : List ℕ) (p : Pattern) →
      (scope_of plain net).pattern_of_place name ≡ Some p →
      (place : PPlace) × (pattern_of place.kind ≡ p)
      × (place_kind_in (numbered_net_of plain net) ((numbers_of plain net).place name) ≡ kind_of place.kind)
      × ((numbers_of plain net).place name < length net.places)
  the_place name p e =
      let found = found_at (λ v. pattern_of v.kind) net.places
      (number_among (map (λ v. v.name.text) net.places) name) p e in (
        found.1,
        found.4,
        ap (λ o. place_kind_in (numbered_net_of plain net) (unwrap_or o 0)) found.2
            ∙ ap (λ o. option_map_or (λ place. place.kind) o unkinded)
            (slice_get-map place_of net.places found.0 ∙ ap (option_map place_of) found.3),
        subst (λ o. unwrap_or o 0 < length net.places) (sym found.2)
            (slice_get_within net.places found.0 found.1 found.3),
      )

  -- a place that is declared without a capacity
  pub no_capacity : (name : List ℕ) (p : Pattern) →
      (scope_of plain net).pattern_of_place name ≡ Some p →
      (scope_of plain net).has_capacity name ≡ false →
      capacity_in (numbered_net_of plain net) ((numbers_of plain net).place name) ≡ None
  no_capacity name p e none =
      let found = found_at (λ v. pattern_of v.kind) net.places
      (number_among (map (λ v. v.name.text) net.places) name) p e in
      let is_capped : PPlace → Bool = λ place. is_some place.max in
      let capped : is_some found.1.max ≡ false =
      sym
      (ap (λ o. unwrap_or (option_and_then (slice_get (map is_capped net.places)) o) false) found.2
      ∙ ap (λ o. unwrap_or o false)
      (slice_get-map is_capped net.places found.0 ∙ ap (option_map is_capped) found.3))
      ∙ none in
      ap (λ o. capacity_in (numbered_net_of plain net) (unwrap_or o 0)) found.2
      ∙ ap (option_and_then (λ (place : Place). place.max))
      (slice_get-map place_of net.places found.0 ∙ ap (option_map place_of) found.3)
      ∙ ap capacity_of (none_there found.1.max capped)

  pub vars_are_known : (name : List ℕ) (p : Pattern) (k : Kind) →
      (scope_of plain net).pattern_of_var name ≡ Some p → gives_kind p k ≡ true →
      same_kind (var_kind_in (numbered_net_of plain net) ((numbers_of plain net).var name)) k ≡ true
  vars_are_known name p k e g =
      let v = the_var name p e in
      ap (λ kind. same_kind kind k) v.2 ∙ sym (gives_itself v.0.kind k)
      ∙ ap (λ p. gives_kind p k) v.1 ∙ g

  pub vars_are_seen : (name : List ℕ) (p : Pattern) (k : Kind) →
      (scope_of plain net).pattern_of_var name ≡ Some p →
      same_kind (var_kind_in (numbered_net_of plain net) ((numbers_of plain net).var name)) k ≡ true →
      gives_kind p k ≡ true
  vars_are_seen name p k e h =
      let v = the_var name p e in
      sym (ap (λ p. gives_kind p k) v.1) ∙ gives_itself v.0.kind k
      ∙ sym (ap (λ kind. same_kind kind k) v.2) ∙ h

  -- the channel of a call: its number, and the kinds of its arguments, of which there are as many
  pub the_channel : (name : List ℕ) (count : ℕ) (ps : List Pattern) →
      (scope_of plain net).channel name count ≡ Some ps →
      (c : PChannel) × (map pattern_of c.kinds ≡ ps) × (length c.kinds ≡ count)
      × (channel_kinds (system_of plain) ((numbers_of plain net).channel name count)
      ≡ map kind_of c.kinds)
      × ((numbers_of plain net).channel name count < length plain.channels)
  the_channel name count ps e =
      let found = found_at (λ c. map pattern_of c.kinds) plain.channels
      (channel_from 0 plain.channels name count) ps e in
      let c = found.1 in
      let from_zero : found.0 ≡ 0 + found.0 = omega arith in
      let same = channel_found 0 found.0 plain.channels name count c
      (found.2 ∙ ap (λ m. Some m) from_zero) found.3 in (
        c,
        found.4,
        eqb-true (length c.kinds) count
            (both_true (same_name c.name.text name) (nat_eq (length c.kinds) count) same).1,
        ap (λ o. channel_kinds (system_of plain) (unwrap_or o 0)) found.2
            ∙ ap (λ o. option_map_or (λ channel. channel.kinds) o [])
            (slice_get-map channel_of plain.channels found.0 ∙ ap (option_map channel_of) found.3),
        subst (λ o. unwrap_or o 0 < length plain.channels) (sym found.2)
            (slice_get_within plain.channels found.0 c found.3),
      )

  -- a net that is declared
  pub the_net : (name : List ℕ) → (scope_of plain net).is_net name ≡ true →
      (numbers_of plain net).net name < length plain.nets
  the_net name e =
      let names : List (List ℕ) = map (λ n. n.name.text) plain.nets in
      subst (λ k. (numbers_of plain net).net name < k)
      (length-map plain.nets (λ n. n.name.text))
      (found_below names name (number_among names name) refl e)
