-- What is broken in declarations doesn't depend on spots, but for the spots that are reported.
use Rattle.std.proofs.Common.{◌≡◌, ℕ, ◌+◌, ◌&&◌, Bool, not, List, [], ◌∷◌, ◌++◌, length, map, refl, sym, ap, ◌∙◌, nat_eq}
use Rattle.std.specs.Prelude.{flat_map, nat_le, Option, Some, None, option_map, if◌then◌else◌, nat_abs}
use Rattle.std.specs.List.{list_any}
use Rattle.std.proofs.lemmas.List.{length-map, map-append, map-id}
use Rattle.rn_notation.specs.declared.token.Spot.{Spot}
use Rattle.rn_inscript.specs.declared.inscriptions.PName.{PName}
use Rattle.rn_net.specs.declared.kinds.PKind.{PKind}
use Rattle.rn_net.specs.declared.kinds.PKindForm.{map-PKindForm}
use Rattle.rn_net.specs.declared.kinds.PKindForm.TheOpen as K
use Rattle.rn_net.specs.declared.constants.PConst.{PConst}
use Rattle.rn_net.specs.declared.constants.PConstForm.{map-PConstForm}
use Rattle.rn_net.specs.declared.constants.PConstForm.TheOpen as C
use Rattle.rn_net.specs.declared.plain.PChannel.{PChannel}
use Rattle.rn_net.specs.declared.plain.PPlace.{PPlace}
use Rattle.rn_net.specs.declared.plain.PMax.{PMax}
use Rattle.rn_model.specs.Limits.{longest_name, most_parts, most_initial, greatest_capacity}
use Rattle.rn_declared.specs.declared.fault.Rule.TheVariants as Rule
use Rattle.rn_declared.specs.declared.fault.Fault.{Fault}
use Rattle.rn_declared.specs.declared.pattern.Pattern.{Pattern, out-Pattern}
use Rattle.rn_declared.specs.Faults.{broken_if, past, past_limit}
use Rattle.rn_declared.specs.Patterns.{pattern_of, pattern_step}
use Rattle.rn_declared.specs.Names.{same_name, name_faults, names_faults, declared_faults}
use Rattle.rn_declared.specs.Declarations.{Part, parts_faults, kind_form_faults, kind_part, kind_faults, const_form_faults, const_part, fits_form, fits, token_faults, capacity_faults, place_faults}
use Rattle.rn_declared.specs.Channels.{same_channel, channel_from, channel_faults, channels_faults}
use Rattle.rn_print.specs.SameButSpots.{first_spot, name_unplaced, kind_unplaced, constant_unplaced, max_unplaced, channel_unplaced, place_unplaced}
use Rattle.rn_migrate.proofs.Folds.{kind_fold, constant_fold}
use Rattle.rn_migrate.proofs.MovedFaults.{all_moved, each, any_kept, both, flat, if_so, if_same, past_of, limit_of}

-- names
name_moved : (before : List (List ℕ)) (name : PName) →
    name_faults before (name_unplaced name) ≡ all_moved (name_faults before name)
name_moved before name =
    let long = not (nat_le (length name.text) longest_name) in
    let again = list_any (λ declared. same_name declared name.text) before in
    both (broken_if long Rule.Limit name.spot) (broken_if again Rule.Once name.spot)
    (broken_if long Rule.Limit first_spot) (broken_if again Rule.Once first_spot)
    (if_so long Rule.Limit name.spot) (if_so again Rule.Once name.spot)

names_moved : (before : List (List ℕ)) (names : List PName) →
    names_faults before (map name_unplaced names) ≡ all_moved (names_faults before names)
names_moved before [] = refl
names_moved before (name ∷ names) =
    let more = before ++ name.text ∷ [] in
    both (name_faults before name) (names_faults more names)
    (name_faults before (name_unplaced name)) (names_faults more (map name_unplaced names))
    (name_moved before name) (names_moved more names)

pub declared_moved : {A : Type 0} (most : ℕ) (f : A → PName) (u : A → A) (xs : List A) →
    ((x : A) → f (u x) ≡ name_unplaced (f x)) →
    declared_faults most (map f (map u xs)) ≡ all_moved (declared_faults most (map f xs))
declared_moved most f u xs is =
    let names = map f xs in
    ap (declared_faults most) (each f f u name_unplaced xs is)
    ∙ both (names_faults [] names) (past_limit most (map (λ n. n.spot) names))
    (names_faults [] (map name_unplaced names))
    (past_limit most (map (λ n. n.spot) (map name_unplaced names)))
    (names_moved [] names)
    (limit_of most (λ (n : PName). n.spot) (λ (n : PName). n.spot) name_unplaced names (λ n. refl))

-- kinds and constants
abbrev part_made : List Fault → Part
part_made faults = record { spot = first_spot; faults = faults }

abbrev part_moved : Part → Part
part_moved part = record { spot = first_spot; faults = all_moved part.faults }

parts_moved : (parts : List Part) →
    parts_faults (map part_moved parts) ≡ all_moved (parts_faults parts)
parts_moved parts =
    both (flat_map (λ part. part.faults) parts) (past_limit most_parts (map (λ part. part.spot) parts))
    (flat_map (λ part. part.faults) (map part_moved parts))
    (past_limit most_parts (map (λ part. part.spot) (map part_moved parts)))
    (flat (λ (p : Part). p.faults) (λ (p : Part). p.faults) part_moved parts (λ p. refl))
    (limit_of most_parts (λ (p : Part). p.spot) (λ (p : Part). p.spot) part_moved parts (λ p. refl))

kind_form_moved : (y : K.PKindForm-F (List Fault) Part) →
    kind_form_faults (map-PKindForm (List Fault) Part (List Fault) Part (λ x. x) part_moved y)
    ≡ all_moved (kind_form_faults y)
kind_form_moved K.Int = refl
kind_form_moved K.Text = refl
kind_form_moved K.Net = refl
kind_form_moved (K.Tuple parts) = parts_moved parts
kind_form_moved (K.List part) = refl

kind_part_moved : (k : PKind) → kind_part (kind_unplaced k) ≡ part_moved (kind_part k)
kind_part_moved =
    kind_fold (List Fault) Part kind_form_faults
    (λ kind. record { spot = kind.spot; faults = kind.form })
    (λ x z. z ≡ all_moved x) part_moved kind_form_moved
    (λ s x z is. ap part_made is)

pub kind_moved : (k : PKind) → kind_faults (kind_unplaced k) ≡ all_moved (kind_faults k)
kind_moved k = ap (λ (p : Part). p.faults) (kind_part_moved k)

const_form_moved : (y : C.PConstForm-F (List Fault) Part) →
    const_form_faults (map-PConstForm (List Fault) Part (List Fault) Part (λ x. x) part_moved y)
    ≡ all_moved (const_form_faults y)
const_form_moved (C.Int n) = refl
const_form_moved (C.Text s) = refl
const_form_moved (C.Tuple parts) = parts_moved parts
const_form_moved (C.List parts) =
    flat (λ (p : Part). p.faults) (λ (p : Part). p.faults) part_moved parts (λ p. refl)

const_part_moved : (c : PConst) → const_part (constant_unplaced c) ≡ part_moved (const_part c)
const_part_moved =
    constant_fold (List Fault) Part const_form_faults
    (λ const. record { spot = const.spot; faults = const.form })
    (λ x z. z ≡ all_moved x) part_moved const_form_moved
    (λ s x z is. ap part_made is)

-- a kind and a constant without their spots, by a fold that doesn't see those
pub kind_ids : (A B : Type 0) (y : K.PKindForm-F A B) →
    map-PKindForm A B A B (λ x. x) (λ x. x) y ≡ y
kind_ids A B K.Int = refl
kind_ids A B K.Text = refl
kind_ids A B K.Net = refl
kind_ids A B (K.Tuple parts) = ap (λ ks. K.Tuple ks) (map-id parts)
kind_ids A B (K.List part) = refl

pub constant_ids : (A B : Type 0) (y : C.PConstForm-F A B) →
    map-PConstForm A B A B (λ x. x) (λ x. x) y ≡ y
constant_ids A B (C.Int n) = refl
constant_ids A B (C.Text s) = refl
constant_ids A B (C.Tuple parts) = ap (λ cs. C.Tuple cs) (map-id parts)
constant_ids A B (C.List parts) = ap (λ cs. C.List cs) (map-id parts)

pub pattern_kept : (k : PKind) → pattern_of (kind_unplaced k) ≡ pattern_of k
pattern_kept =
    kind_fold Pattern Pattern pattern_step (λ kind. kind.form) (λ x z. z ≡ x) (λ x. x)
    (λ y. ap pattern_step (kind_ids Pattern Pattern y)) (λ s x z is. is)

fits_kept : (c : PConst) → fits (constant_unplaced c) ≡ fits c
fits_kept =
    constant_fold (Pattern → Bool) (Pattern → Bool)
    (λ form pattern. fits_form form (out-Pattern pattern)) (λ const. const.form)
    (λ x z. z ≡ x) (λ x. x)
    (λ y. ap (λ form pattern. fits_form form (out-Pattern pattern))
    (constant_ids (Pattern → Bool) (Pattern → Bool) y)) (λ s x z is. is)

-- places
token_moved : (pattern : Pattern) (c : PConst) →
    token_faults pattern (constant_unplaced c) ≡ all_moved (token_faults pattern c)
token_moved pattern c =
    let wrong = not (fits c pattern) in
    ap (λ (p : Part). p.faults ++ broken_if (not (fits (constant_unplaced c) pattern)) Rule.Kinds p.spot)
    (const_part_moved c)
    ∙ both (const_part c).faults (broken_if wrong Rule.Kinds (const_part c).spot)
    (all_moved (const_part c).faults)
    (broken_if (not (fits (constant_unplaced c) pattern)) Rule.Kinds first_spot) refl
    (if_same wrong (not (fits (constant_unplaced c) pattern)) Rule.Kinds (const_part c).spot
    (ap (λ f. not (f pattern)) (fits_kept c)))

token_spot : (c : PConst) → (const_part (constant_unplaced c)).spot ≡ first_spot
token_spot c = ap (λ (p : Part). p.spot) (const_part_moved c)

capacity_moved : (max : Option PMax) (tokens : List PConst) →
    capacity_faults (option_map max_unplaced max)
    (map (λ token. (const_part token).spot) (map constant_unplaced tokens))
    ≡ all_moved (capacity_faults max (map (λ token. (const_part token).spot) tokens))
capacity_moved None tokens = refl
capacity_moved (Some max) tokens =
    let great = not (nat_le (nat_abs max.number) greatest_capacity) in
    let spot : PConst → Spot = λ token. (const_part token).spot in
    both (broken_if great Rule.Limit max.spot) (past Rule.Capacity (nat_abs max.number) (map spot tokens))
    (broken_if great Rule.Limit first_spot)
    (past Rule.Capacity (nat_abs max.number) (map spot (map constant_unplaced tokens)))
    (if_so great Rule.Limit max.spot)
    (past_of Rule.Capacity (nat_abs max.number) spot spot constant_unplaced tokens token_spot)

pub place_moved : (p : PPlace) → place_faults (place_unplaced p) ≡ all_moved (place_faults p)
place_moved p =
    let spot : PConst → Spot = λ token. (const_part token).spot in
    let tokens = map constant_unplaced p.initial in
    let pattern = pattern_of p.kind in
    let kinds = kind_faults p.kind in
    let firsts = flat_map (token_faults pattern) p.initial in
    let many = past_limit most_initial (map spot p.initial) in
    let room = capacity_faults p.max (map spot p.initial) in
    let kinds2 = kind_faults (kind_unplaced p.kind) in
    let firsts2 = flat_map (token_faults pattern) tokens in
    let many2 = past_limit most_initial (map spot tokens) in
    let room2 = capacity_faults (option_map max_unplaced p.max) (map spot tokens) in
    ap (λ q. kinds2 ++ flat_map (token_faults q) tokens ++ many2 ++ room2) (pattern_kept p.kind)
    ∙ both ((kinds ++ firsts) ++ many) room ((kinds2 ++ firsts2) ++ many2) room2
    (both (kinds ++ firsts) many (kinds2 ++ firsts2) many2
    (both kinds firsts kinds2 firsts2 (kind_moved p.kind)
    (flat (token_faults pattern) (token_faults pattern) constant_unplaced p.initial (token_moved pattern)))
    (limit_of most_initial spot spot constant_unplaced p.initial token_spot))
    (capacity_moved p.max p.initial)

-- channels
same_channel_kept : (name : List ℕ) (count : ℕ) (c : PChannel) →
    same_channel (channel_unplaced c) name count ≡ same_channel c name count
same_channel_kept name count c =
    ap (λ n. same_name c.name.text name && nat_eq n count) (length-map c.kinds kind_unplaced)

channel_moved : (before : List PChannel) (c : PChannel) →
    channel_faults (map channel_unplaced before) (channel_unplaced c)
    ≡ all_moved (channel_faults before c)
channel_moved before c =
    let long = not (nat_le (length c.name.text) longest_name) in
    let again = list_any (λ d. same_channel d c.name.text (length c.kinds)) before in
    let again2 = list_any (λ d. same_channel d c.name.text (length (map kind_unplaced c.kinds)))
    (map channel_unplaced before) in
    let there : again2 ≡ again =
    any_kept (λ d. same_channel d c.name.text (length c.kinds))
    (λ d. same_channel d c.name.text (length (map kind_unplaced c.kinds))) channel_unplaced before
    (λ d. ap (same_channel (channel_unplaced d) c.name.text) (length-map c.kinds kind_unplaced)
    ∙ same_channel_kept c.name.text (length c.kinds) d) in
    both (broken_if long Rule.Limit c.name.spot ++ broken_if again Rule.Once c.name.spot)
    (parts_faults (map kind_part c.kinds))
    (broken_if long Rule.Limit first_spot ++ broken_if again2 Rule.Once first_spot)
    (parts_faults (map kind_part (map kind_unplaced c.kinds)))
    (both (broken_if long Rule.Limit c.name.spot) (broken_if again Rule.Once c.name.spot)
    (broken_if long Rule.Limit first_spot) (broken_if again2 Rule.Once first_spot)
    (if_so long Rule.Limit c.name.spot) (if_same again again2 Rule.Once c.name.spot there))
    (ap parts_faults (each kind_part kind_part kind_unplaced part_moved c.kinds kind_part_moved)
    ∙ parts_moved (map kind_part c.kinds))

pub channels_moved : (before cs : List PChannel) →
    channels_faults (map channel_unplaced before) (map channel_unplaced cs)
    ≡ all_moved (channels_faults before cs)
channels_moved before [] = refl
channels_moved before (c ∷ cs) =
    let more = before ++ c ∷ [] in
    ap (λ b. channel_faults (map channel_unplaced before) (channel_unplaced c)
    ++ channels_faults b (map channel_unplaced cs))
    (sym (map-append channel_unplaced before (c ∷ [])))
    ∙ both (channel_faults before c) (channels_faults more cs)
    (channel_faults (map channel_unplaced before) (channel_unplaced c))
    (channels_faults (map channel_unplaced more) (map channel_unplaced cs))
    (channel_moved before c) (channels_moved more cs)

pub channel_from_kept : (n : ℕ) (cs : List PChannel) (name : List ℕ) (count : ℕ) →
    channel_from n (map channel_unplaced cs) name count ≡ channel_from n cs name count
channel_from_kept n [] name count = refl
channel_from_kept n (c ∷ cs) name count =
    ap (λ b. if b then Some n else channel_from (n + 1) (map channel_unplaced cs) name count)
    (same_channel_kept name count c)
    ∙ ap (λ o. if same_channel c name count then Some n else o) (channel_from_kept (n + 1) cs name count)
