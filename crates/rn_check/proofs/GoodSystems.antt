-- A plain form that is well formed, and in which nothing is broken, means a good system.
use Rattle.std.proofs.Common.{◌≡◌, ℕ, ◌+◌, ◌≤◌, Bool, true, false, ◌||◌, cond, not, List}
use Rattle.std.proofs.Common.{[], ◌∷◌}
use Rattle.std.proofs.Common.{◌++◌, map, refl, sym, ap, ◌∙◌, subst, length, arith, inl, inr}
use Rattle.std.specs.Prelude.{nat_eq, nat_le, flat_map, AllPairs, codes, count_by, min, nat_abs}
use Rattle.std.specs.Prelude.{Option, Some, None}
use Rattle.std.proofs.lemmas.Option.{same_Some}
use Rattle.std.proofs.Math.Nat.{min-eq_left}
use Rattle.std.specs.Cmp.Lexicographic.{pointwise}
use Rattle.std.specs.List.{AllByRecursion, list_any}
use Rattle.std.proofs.lemmas.Bool.{eq-eqb}
use Rattle.std.proofs.lemmas.List.{length-map}
use Rattle.std.proofs.lemmas.List.Elements.{All-from_recursion, recursion_from_All}
use Rattle.std.proofs.lemmas.List.Kept.{AllPairs-cons}
use Rattle.std.proofs.lemmas.List.Recursion.{is_count_by}
use Rattle.rn_items.proofs.Bools.{true_both}
use Rattle.rn_items.proofs.Numbers.{numbers_themselves}
use Rattle.rn_model.specs.declared.system.Net.{Net}
use Rattle.rn_inscript.specs.declared.inscriptions.PName.{PName}
use Rattle.rn_model.specs.Limits.{longest_name, most_nested, most_parts, most_initial, most_nets}
use Rattle.rn_model.specs.Limits.{most_channels, most_vars, most_places, most_transitions}
use Rattle.rn_model.specs.Limits.{greatest_capacity}
use Rattle.rn_model.specs.Kinds.{value_depth}
use Rattle.rn_model.specs.Good.{Good, IsGoodNet, IsGoodPlace, IsGoodKind, IsGoodToken}
use Rattle.rn_model.specs.Good.{IsGoodChannel, IsGoodTransition, AreDistinctChannels}
use Rattle.rn_model.specs.Names.{IsGoodName}
use Rattle.rn_model.proofs.EachElement.{each_map, each_weaker}
use Rattle.rn_notation.specs.declared.token.Spot.{Spot}
use Rattle.rn_net.specs.declared.kinds.PKind.{PKind}
use Rattle.rn_net.specs.declared.constants.PConst.{PConst}
use Rattle.rn_net.specs.declared.plain.Plain.{Plain}
use Rattle.rn_net.specs.declared.plain.PChannel.{PChannel}
use Rattle.rn_net.specs.declared.plain.PVar.{PVar}
use Rattle.rn_net.specs.declared.plain.PPlace.{PPlace}
use Rattle.rn_net.specs.declared.plain.PMax.{PMax}
use Rattle.rn_net.specs.declared.plain.PTransition.{PTransition}
use Rattle.rn_net.specs.declared.plain.PNet.{PNet}
use Rattle.rn_declared.specs.declared.fault.Rule.TheVariants as Rule
use Rattle.rn_declared.specs.Faults.{broken_if, past, past_limit}
use Rattle.rn_declared.specs.Patterns.{pattern_of}
use Rattle.rn_declared.specs.Names.{same_name, name_faults, names_faults, declared_faults}
use Rattle.rn_declared.specs.Declarations.{Part, kind_part, kind_faults, parts_faults, const_part}
use Rattle.rn_declared.specs.Declarations.{fits, token_faults, place_faults, capacity_faults}
use Rattle.rn_rules.specs.Transitions.{transition_faults}
use Rattle.rn_declared.specs.Channels.{same_channel, channel_faults, channels_faults}
use Rattle.rn_rules.specs.Systems.{scope_of}
use Rattle.rn_rules.specs.Systems.{net_faults, system_faults, text_start}
use Rattle.rn_numbered.specs.Numbered.{kind_of, value_of, capacity_of}
use Rattle.rn_numbering.specs.Numbering.{transition_of, numbered_net_of, system_of}
use Rattle.rn_spelled.specs.WellFormed.{IsShallowKind, IsWellFormed, IsWellFormedChannel}
use Rattle.rn_spelled.specs.WellFormed.{IsWellFormedNet, IsWellFormedVar, IsWellFormedPlace}
use Rattle.rn_spelled.specs.WellFormed.{IsWellFormedTransition}
use Rattle.rn_check.specs.Laws.{CheckedSystemsAreGood, CheckedTextsAreGood}
use Rattle.rn_spelled.proofs.SpelledTexts.{spelled_forms_are_well_formed}
use Rattle.rn_declared.proofs.Faultless.{both_nil, each_nil, unbroken, holds, within_limit}
use Rattle.rn_declared.proofs.Faultless.{none_past}
use Rattle.rn_check.proofs.DeclaredKinds.{gives_itself, same_as_itself}
use Rattle.rn_declared.proofs.DeclaredNames.{nat_le_holds, any_left, any_last, IsIn, short_and_new}
use Rattle.rn_declared.proofs.DeclaredNames.{declared_apart, declared_short, declared_few}
use Rattle.rn_check.proofs.NarrowKinds.{kind_is_narrow}
use Rattle.rn_check.proofs.TokenKinds.{token_narrow, token_apart, token_kinded}
use Rattle.rn_check.proofs.ScopeKinds.{same_texts, var_of, place_of, channel_of}
use Rattle.rn_check.proofs.GoodTransitions.{is_good}

each_both : {A : Type 0} (P Q : A → Type 0) (xs : List A) → AllByRecursion P xs →
    AllByRecursion Q xs → AllByRecursion (λ x. P x × Q x) xs
each_both P Q [] p q = tt
each_both P Q (x ∷ xs) p q = ((p.0, q.0), each_both P Q xs p.1 q.1)

-- kinds, places and channels
kind_good : (kind : PKind) → kind_faults kind ≡ [] → IsShallowKind kind → IsGoodKind (kind_of kind)
kind_good kind none deep = record { deep = deep; narrow = kind_is_narrow kind none }

kinds_good : (kinds : List PKind) → flat_map (λ part. part.faults) (map kind_part kinds) ≡ [] →
    AllByRecursion IsShallowKind kinds → AllByRecursion IsGoodKind (map kind_of kinds)
kinds_good [] none deep = tt
kinds_good (kind ∷ kinds) none deep =
    let both = both_nil (kind_part kind).faults
    (flat_map (λ part. part.faults) (map kind_part kinds)) none in
    (kind_good kind both.0 deep.0, kinds_good kinds both.1 deep.1)

token_good : (kind : PKind) (token : PConst) → token_faults (pattern_of kind) token ≡ [] →
    value_depth (value_of token) ≤ most_nested → IsGoodToken (kind_of kind) (value_of token)
token_good kind token none deep =
    let part = const_part token in
    let both = both_nil part.faults
    (broken_if (not (fits token (pattern_of kind))) Rule.Kinds part.spot) none in
    record {
      fits = token_kinded token (pattern_of kind) (kind_of kind)
          (holds (fits token (pattern_of kind)) Rule.Kinds part.spot both.1)
          (gives_itself kind (kind_of kind) ∙ same_as_itself (kind_of kind));
      apart = token_apart token;
      deep = deep;
      narrow = token_narrow token both.0;
    }

tokens_good : (kind : PKind) (tokens : List PConst) →
    flat_map (token_faults (pattern_of kind)) tokens ≡ [] →
    AllByRecursion (λ token. value_depth (value_of token) ≤ most_nested) tokens →
    AllByRecursion (IsGoodToken (kind_of kind)) (map value_of tokens)
tokens_good kind [] none deep = tt
tokens_good kind (token ∷ tokens) none deep =
    let both = both_nil (token_faults (pattern_of kind) token)
    (flat_map (token_faults (pattern_of kind)) tokens) none in
    (token_good kind token both.0 deep.0, tokens_good kind tokens both.1 deep.1)

-- a capacity in which nothing is broken isn't too great, and there aren't more tokens
capacity_good : (max : Option PMax) (spots : List Spot) (most : ℕ) →
    capacity_faults max spots ≡ [] → capacity_of max ≡ Some most →
    (most ≤ greatest_capacity) × (length spots ≤ most)
capacity_good None spots most none is = absurd (let no : ⊥ = cc in no)
capacity_good (Some max) spots most none is =
    let number = nat_abs max.number in
    let both = both_nil (broken_if (not (nat_le number greatest_capacity)) Rule.Limit max.spot)
    (past Rule.Capacity number spots) none in
    let low = nat_le_holds number greatest_capacity
    (holds (nat_le number greatest_capacity) Rule.Limit max.spot both.0) in
    let few = none_past Rule.Capacity number spots both.1 in
    let same : number ≡ most =
    sym (min-eq_left low) ∙ same_Some (min number greatest_capacity) most is in
    (omega (arith, low, same), omega (arith, few, same))

place_good : (place : PPlace) → place_faults place ≡ [] → IsWellFormedPlace place →
    length place.name.text ≤ longest_name → IsGoodPlace (place_of place)
place_good place none good short =
    let kind = kind_faults place.kind in
    let tokens = flat_map (token_faults (pattern_of place.kind)) place.initial in
    let starts = map (λ token. (const_part token).spot) place.initial in
    let limit = past_limit most_initial starts in
    let all = both_nil (kind ++ tokens ++ limit) (capacity_faults place.max starts) none in
    let both = both_nil (kind ++ tokens) limit all.0 in
    let first = both_nil kind tokens both.0 in
    let few = within_limit most_initial (map (λ token. (const_part token).spot) place.initial)
    both.1 in
    let spots = length-map place.initial (λ token. (const_part token).spot) in
    let values = length-map place.initial value_of in
    record {
      name = (good.name, short);
      kind = kind_good place.kind first.0 good.kind;
      initial = All-from_recursion (IsGoodToken (kind_of place.kind)) (map value_of place.initial)
          (tokens_good place.kind place.initial first.1
          (recursion_from_All _ place.initial good.initial));
      many = omega (arith, few, spots, values);
      max = λ most is.
          let within = capacity_good place.max starts most all.1 is in
          let fewer = within.1 in
          (within.0, omega (arith, fewer, spots, values));
    }

-- one channel, that is new after those before it
abbrev IsNew : List PChannel → PChannel → Type 0
IsNew before c =
    list_any (λ d. same_channel d c.name.text (length c.kinds)) before ≡ false

channel_good : (before : List PChannel) (c : PChannel) → channel_faults before c ≡ [] →
    IsWellFormedChannel c → IsGoodChannel (channel_of c) × IsNew before c
channel_good before c none good =
    let long = not (nat_le (length c.name.text) longest_name) in
    let again = list_any (λ d. same_channel d c.name.text (length c.kinds)) before in
    let parts : List Part = map kind_part c.kinds in
    let told = broken_if long Rule.Limit c.name.spot in
    let once = broken_if again Rule.Once c.name.spot in
    let both = both_nil (told ++ once) (parts_faults parts) none in
    let first = both_nil told once both.0 in
    let inner = both_nil (flat_map (λ part. part.faults) parts)
    (past_limit most_parts (map (λ part. part.spot) parts)) both.1 in
    let few = within_limit most_parts (map (λ part. part.spot) parts) inner.1 in
    let one = length-map parts (λ part. part.spot) in
    let two = length-map c.kinds kind_part in
    let three = length-map c.kinds kind_of in (
      record {
        name = (
          good.name,
          nat_le_holds (length c.name.text) longest_name
              (holds (nat_le (length c.name.text) longest_name) Rule.Limit c.name.spot first.0),
        );
        kinds = All-from_recursion IsGoodKind (map kind_of c.kinds)
            (kinds_good c.kinds inner.0 (recursion_from_All IsShallowKind c.kinds good.kinds));
        few = omega (arith, few, one, two, three);
      },
      unbroken again Rule.Once c.name.spot first.1,
    )

channels_good : (before channels : List PChannel) → channels_faults before channels ≡ [] →
    AllByRecursion IsWellFormedChannel channels →
    AllByRecursion IsGoodChannel (map channel_of channels)
channels_good before [] none good = tt
channels_good before (c ∷ channels) none good =
    let both = both_nil (channel_faults before c) (channels_faults (before ++ c ∷ []) channels)
    none in (
      (channel_good before c both.0 good.0).0,
      channels_good (before ++ c ∷ []) channels both.1 good.1,
    )

-- a test that passes at a channel passes at some of those before
abbrev IsAmong : List PChannel → PChannel → Type 0
IsAmong before c = (test : PChannel → Bool) → test c ≡ true → list_any test before ≡ true

distinct : (c d : PChannel) → (same_channel c d.name.text (length d.kinds) ≡ true → ⊥) →
    AreDistinctChannels (channel_of c) (channel_of d)
distinct c d apart = by (same_name c.name.text d.name.text) refl
  where
    by : (b : Bool) → same_name c.name.text d.name.text ≡ b →
        AreDistinctChannels (channel_of c) (channel_of d)
    by true same = inr (λ e.
        let one = length-map c.kinds kind_of in
        let two = length-map d.kinds kind_of in
        let counts : length c.kinds ≡ length d.kinds = omega (arith, one, two, e) in
        apart (true_both (same_name c.name.text d.name.text)
        (nat_eq (length c.kinds) (length d.kinds)) same
        (eq-eqb (length c.kinds) (length d.kinds) counts)))
    by false differ = inl (λ e.
        let same : same_name c.name.text d.name.text ≡ true =
        ap (same_name c.name.text) (sym e) ∙ numbers_themselves c.name.text in
        absurd (let h : true ≡ false = sym same ∙ differ in let no : ⊥ = cc in no))

later_distinct : (before channels : List PChannel) (c : PChannel) → IsAmong before c →
    channels_faults before channels ≡ [] → AllByRecursion IsWellFormedChannel channels →
    AllByRecursion (AreDistinctChannels (channel_of c)) (map channel_of channels)
later_distinct before [] c among none good = tt
later_distinct before (d ∷ channels) c among none good =
    let both = both_nil (channel_faults before d) (channels_faults (before ++ d ∷ []) channels)
    none in
    let new = (channel_good before d both.0 good.0).1 in (
      distinct c d (λ same.
          let found = among (λ x. same_channel x d.name.text (length d.kinds)) same in
          let h : true ≡ false = sym found ∙ new in
          let no : ⊥ = cc in no),
      later_distinct (before ++ d ∷ []) channels c
          (λ test e. any_left test before (d ∷ []) (among test e)) both.1 good.1,
    )

channels_distinct : (before channels : List PChannel) → channels_faults before channels ≡ [] →
    AllByRecursion IsWellFormedChannel channels →
    AllPairs AreDistinctChannels (map channel_of channels)
channels_distinct before [] none good = λ i j d low high. absurd (omega (arith, high))
channels_distinct before (c ∷ channels) none good =
    let both = both_nil (channel_faults before c) (channels_faults (before ++ c ∷ []) channels)
    none in
    AllPairs-cons AreDistinctChannels (channel_of c) (map channel_of channels)
    (All-from_recursion (AreDistinctChannels (channel_of c)) (map channel_of channels)
    (later_distinct (before ++ c ∷ []) channels c (λ test e. any_last test before c e) both.1
    good.1))
    (channels_distinct (before ++ c ∷ []) channels both.1 good.1)

-- how many of a list pass
tally : {A : Type 0} → (A → Bool) → List A → ℕ
tally p [] = 0
tally p (x ∷ xs) = cond (p x) (1 + tally p xs) (tally p xs)

tally_is : {A : Type 0} (p : A → Bool) (xs : List A) → tally p xs ≡ count_by p xs
unfolding tally
tally_is p xs = is_count_by (tally p) p refl (λ x xs. refl) xs

abbrev main : List ℕ
main = codes "main"

abbrev is_main : Net → Bool
is_main net = pointwise nat_eq net.name main

module _ (plain : Plain) where
  abbrev name_of : PNet → PName
  name_of net = net.name

  -- where a net that is named `main` was before, none is later
  none_later : (before : List (List ℕ)) (nets : List PNet) → IsIn before main →
      names_faults before (map name_of nets) ≡ [] → tally is_main (map (numbered_net_of plain) nets) ≡ 0
  unfolding tally
  none_later before [] there none = refl
  none_later before (net ∷ nets) there none =
      let t = net.name.text in
      let both = both_nil (name_faults before net.name)
      (names_faults (before ++ t ∷ []) (map name_of nets)) none in
      let new = (short_and_new before net.name both.0).1 in
      by (same_name t main) refl new
      (none_later (before ++ t ∷ []) nets
      (any_left (λ declared. same_name declared main) before (t ∷ []) there) both.1)
    where
      by : (b : Bool) → same_name net.name.text main ≡ b →
          list_any (λ declared. same_name declared net.name.text) before ≡ false →
          tally is_main (map (numbered_net_of plain) nets) ≡ 0 →
          cond b (1 + tally is_main (map (numbered_net_of plain) nets))
          (tally is_main (map (numbered_net_of plain) nets)) ≡ 0
      by true here new rest =
          let same = same_texts net.name.text main here in
          let again = subst (IsIn before) (sym same) there in
          absurd (let h : true ≡ false = sym again ∙ new in let no : ⊥ = cc in no)
      by false here new rest = rest

  one_main : (before : List (List ℕ)) (nets : List PNet) →
      names_faults before (map name_of nets) ≡ [] →
      list_any (λ net. same_name net.name.text main) nets ≡ true →
      tally is_main (map (numbered_net_of plain) nets) ≡ 1
  unfolding tally
  one_main before [] none there = absurd (let no : ⊥ = cc in no)
  one_main before (net ∷ nets) none there =
      let t = net.name.text in
      let both = both_nil (name_faults before net.name)
      (names_faults (before ++ t ∷ []) (map name_of nets)) none in
      by (same_name t main) refl there
      (λ here. none_later (before ++ t ∷ []) nets
      (any_last (λ declared. same_name declared main) before t here) both.1)
      (λ later. one_main (before ++ t ∷ []) nets both.1 later)
    where
      by : (b : Bool) → same_name net.name.text main ≡ b →
          (same_name net.name.text main || list_any (λ net. same_name net.name.text main) nets) ≡
          true →
          (same_name net.name.text main ≡ true → tally is_main (map (numbered_net_of plain) nets) ≡ 0) →
          (list_any (λ net. same_name net.name.text main) nets ≡ true →
          tally is_main (map (numbered_net_of plain) nets) ≡ 1) →
          cond b (1 + tally is_main (map (numbered_net_of plain) nets))
          (tally is_main (map (numbered_net_of plain) nets)) ≡ 1
      by true here there zero later = let rest = zero here in omega (arith, rest)
      by false here there zero later =
          later (sym (ap (λ b. b || list_any (λ net. same_name net.name.text main) nets) here) ∙
          there)

  net_good : (net : PNet) → net_faults plain net ≡ [] → IsWellFormedNet net →
      length net.name.text ≤ longest_name → IsGoodNet (system_of plain) (numbered_net_of plain net)
  net_good net none good short =
      let a = declared_faults most_vars (map (λ v. v.name) net.vars) in
      let b = flat_map (λ v. kind_faults v.kind) net.vars in
      let c = declared_faults most_places (map (λ p. p.name) net.places) in
      let d = flat_map place_faults net.places in
      let e = declared_faults most_transitions (map (λ t. t.name) net.transitions) in
      let f = flat_map (transition_faults (scope_of plain net)) net.transitions in
      let n5 = both_nil ((((a ++ b) ++ c) ++ d) ++ e) f none in
      let n4 = both_nil (((a ++ b) ++ c) ++ d) e n5.0 in
      let n3 = both_nil ((a ++ b) ++ c) d n4.0 in
      let n2 = both_nil (a ++ b) c n3.0 in
      let n1 = both_nil a b n2.0 in
      let made = transition_of plain net in
      let vars = each_both _ _ net.vars
      (declared_short (λ (v : PVar). v.name) var_of (λ v. v.name) (λ v. refl) most_vars net.vars
      n1.0)
      (each_both _ _ net.vars (each_nil (λ v. kind_faults v.kind) net.vars n1.1)
      (recursion_from_All IsWellFormedVar net.vars good.vars)) in
      let places = each_both _ _ net.places
      (declared_short (λ (p : PPlace). p.name) place_of (λ p. p.name) (λ p. refl) most_places
      net.places n2.1)
      (each_both _ _ net.places (each_nil place_faults net.places n3.1)
      (recursion_from_All IsWellFormedPlace net.places good.places)) in
      let transitions = each_both _ _ net.transitions
      (declared_short (λ (t : PTransition). t.name) made (λ t. t.name) (λ t. refl) most_transitions
      net.transitions n4.1)
      (each_both _ _ net.transitions
      (each_nil (transition_faults (scope_of plain net)) net.transitions n5.1)
      (recursion_from_All IsWellFormedTransition net.transitions good.transitions)) in
      record {
        name = (good.name, short);
        vars = All-from_recursion _ (map var_of net.vars)
            (each_map (λ v. IsGoodName v.name × IsGoodKind v.kind) var_of net.vars
            (each_weaker _ (λ v. IsGoodName v.name.text × IsGoodKind (kind_of v.kind))
            (λ v h. ((h.1.1.name, h.0), kind_good v.kind h.1.0 h.1.1.kind)) net.vars vars));
        places = All-from_recursion _ (map place_of net.places)
            (each_map IsGoodPlace place_of net.places
            (each_weaker _ (λ p. IsGoodPlace (place_of p))
            (λ p h. place_good p h.1.0 h.1.1 h.0) net.places places));
        transitions = All-from_recursion _ (map made net.transitions)
            (each_map (IsGoodTransition (system_of plain) (numbered_net_of plain net)) made net.transitions
            (each_weaker _ (λ t. IsGoodTransition (system_of plain) (numbered_net_of plain net) (made t))
            (λ t h. is_good plain net t h.1.0 h.1.1 h.0) net.transitions transitions));
        vars_distinct = declared_apart (λ (v : PVar). v.name) var_of (λ v. v.name) (λ v. refl)
            most_vars net.vars n1.0;
        places_distinct = declared_apart (λ (p : PPlace). p.name) place_of (λ p. p.name) (λ p. refl)
            most_places net.places n2.1;
        transitions_distinct = declared_apart (λ (t : PTransition). t.name) made (λ t. t.name)
            (λ t. refl) most_transitions net.transitions n4.1;
        few_vars = declared_few (λ (v : PVar). v.name) var_of (λ v. v.name) (λ v. refl)
            most_vars net.vars n1.0;
        few_places = declared_few (λ (p : PPlace). p.name) place_of (λ p. p.name) (λ p. refl)
            most_places net.places n2.1;
        few_transitions = declared_few (λ (t : PTransition). t.name) made (λ t. t.name) (λ t. refl)
            most_transitions net.transitions n4.1;
      }

  system_good : system_faults plain ≡ [] → IsWellFormed plain → Good (system_of plain)
  system_good none good =
      let has_main = list_any (λ net. same_name net.name.text main) plain.nets in
      let a = broken_if (not has_main) Rule.Main text_start in
      let b = channels_faults [] plain.channels in
      let c = past_limit most_channels (map (λ c. c.name.spot) plain.channels) in
      let d = declared_faults most_nets (map (λ n. n.name) plain.nets) in
      let e = flat_map (net_faults plain) plain.nets in
      let n4 = both_nil (((a ++ b) ++ c) ++ d) e none in
      let n3 = both_nil ((a ++ b) ++ c) d n4.0 in
      let n2 = both_nil (a ++ b) c n3.0 in
      let n1 = both_nil a b n2.0 in
      let made = numbered_net_of plain in
      let names = names_faults [] (map name_of plain.nets) in
      let apart = (both_nil names
      (past_limit most_nets (map (λ name. name.spot) (map name_of plain.nets)))
      n3.1).0 in
      let nets = each_both _ _ plain.nets
      (declared_short name_of made (λ n. n.name) (λ n. refl) most_nets plain.nets n3.1)
      (each_both _ _ plain.nets (each_nil (net_faults plain) plain.nets n4.1)
      (recursion_from_All IsWellFormedNet plain.nets good.nets)) in
      let channels = recursion_from_All IsWellFormedChannel plain.channels good.channels in
      let few = within_limit most_channels (map (λ c. c.name.spot) plain.channels) n2.1 in
      let spots = length-map plain.channels (λ c. c.name.spot) in
      let count = length-map plain.channels channel_of in
      record {
        main = sym (tally_is is_main (map made plain.nets))
            ∙ one_main [] plain.nets apart (holds has_main Rule.Main text_start n1.0);
        nets = All-from_recursion _ (map made plain.nets)
            (each_map (IsGoodNet (system_of plain)) made plain.nets
            (each_weaker _ (λ n. IsGoodNet (system_of plain) (made n))
            (λ n h. net_good n h.1.0 h.1.1 h.0) plain.nets nets));
        channels = All-from_recursion IsGoodChannel (map channel_of plain.channels)
            (channels_good [] plain.channels n1.1 channels);
        nets_distinct = declared_apart name_of made (λ n. n.name) (λ n. refl) most_nets plain.nets
            n3.1;
        channels_distinct = channels_distinct [] plain.channels n1.1 channels;
        few_nets = declared_few name_of made (λ n. n.name) (λ n. refl) most_nets plain.nets n3.1;
        few_channels = omega (arith, few, spots, count);
      }

pub checked_systems_are_good : CheckedSystemsAreGood
checked_systems_are_good plain system checked good =
    subst Good (sym checked.means) (system_good plain checked.unbroken good)

-- a text in which nothing is broken means a good system
pub checked_texts_are_good : CheckedTextsAreGood
checked_texts_are_good bytes plain system spelled checked =
    checked_systems_are_good plain system checked
    (spelled_forms_are_well_formed bytes plain spelled)
