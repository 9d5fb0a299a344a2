-- What is declared with a kind, and what is reported of places.
use Rattle.std.proofs.Common.{◌≡◌, ℕ, ◌+◌, ◌-◌, length-append, List, [], ◌∷◌, ◌++◌, length, map, refl, sym, ap, ◌∙◌, arith, Option, Some}
use Rattle.std.specs.Prelude.{flat_map, slice_get, not, Bool, false, is_some, unwrap_or}
use Rattle.std.specs.Option.{option_and_then}
use Rattle.std.proofs.lemmas.Simd.{map-map}
use Rattle.rn_notation.specs.declared.token.Spot.{Spot}
use Rattle.rn_inscript.specs.declared.inscriptions.PName.{PName}
use Rattle.rn_net.specs.declared.kinds.PKind.{PKind}
use Rattle.rn_net.specs.declared.constants.PConst.{PConst}
use Rattle.rn_net.specs.declared.plain.PPlace.{PPlace}
use Rattle.rn_model.specs.Limits.{most_initial}
use Rattle.rn_declared.specs.declared.fault.Rule.TheVariants as Rule
use Rattle.rn_declared.specs.declared.fault.Fault.{Fault}
use Rattle.rn_declared.specs.declared.pattern.Pattern.{Pattern}
use Rattle.rn_declared.specs.Faults.{first_from, past_limit, broken_if}
use Rattle.rn_declared.specs.Patterns.{pattern_of}
use Rattle.rn_declared.specs.Names.{number_among}
use Rattle.rn_declared.specs.Declarations.{kind_faults, place_faults, token_faults, const_part, fits}
use Rattle.rn_declared.specs.Declarations.{capacity_faults, has_capacity}
use Rattle.rn_declared.specs.link.Tables.{capped_by}
use Rattle.rn_declared.proofs.ToldLemmas.{told_of_three}
use Rattle.rn_declared.proofs.ToldLemmas.{first_from-append}
use Rattle.rn_declared.proofs.ToldLemmas.{const_spot}

-- a name finds what is kept of its first declaration
pub kept_found : {X Y : Type 0} (name_of : X → PName) (kept_of : X → Y) (xs : List X) (kept : List Y)
    (found : List ℕ → Option ℕ) → kept ≡ map kept_of xs →
    ((name : List ℕ) → found name ≡ number_among (map (λ n. n.text) (map name_of xs)) name) →
    (name : List ℕ) → option_and_then (slice_get kept) (found name)
    ≡ option_and_then (slice_get (map kept_of xs)) (number_among (map (λ x. (name_of x).text) xs) name)
kept_found name_of kept_of xs kept found are finds name =
    ap (λ ys. option_and_then (slice_get ys) (found name)) are
    ∙ ap (option_and_then (slice_get (map kept_of xs)))
    (finds name ∙ ap (λ names. number_among names name) (map-map (λ n. n.text) name_of xs))

-- and so the pattern of the kind with which it is declared first
pub pattern_found : {X : Type 0} (name_of : X → PName) (kind : X → PKind) (xs : List X)
    (patterns : List Pattern) (found : List ℕ → Option ℕ) → patterns ≡ map (λ x. pattern_of (kind x)) xs →
    ((name : List ℕ) → found name ≡ number_among (map (λ n. n.text) (map name_of xs)) name) →
    (name : List ℕ) → option_and_then (slice_get patterns) (found name)
    ≡ option_and_then (slice_get (map (λ x. pattern_of (kind x)) xs))
    (number_among (map (λ x. (name_of x).text) xs) name)
pattern_found name_of kind = kept_found name_of (λ x. pattern_of (kind x))

-- and whether it is declared first with a capacity
pub capacity_found : (places : List PPlace) (capped : List Bool) (found : List ℕ → Option ℕ) →
    capped ≡ map (λ p. is_some p.max) places →
    ((name : List ℕ) → found name ≡ number_among (map (λ n. n.text) (map (λ p. p.name) places)) name) →
    (name : List ℕ) → capped_by capped (found name) ≡ has_capacity places name
capacity_found places capped found are finds name =
    ap (λ o. unwrap_or o false)
    (kept_found (λ (p : PPlace). p.name) (λ (p : PPlace). is_some p.max) places capped found are finds name)

-- what is reported of an initial token
pub token_told : (token : PConst) (pattern : Pattern) (spot : Spot) (known : Option Fault) →
    spot ≡ token.spot →
    first_from (first_from known (const_part token).faults)
    (broken_if (not (fits token pattern)) Rule.Kinds spot)
    ≡ first_from known (token_faults pattern token)
token_told token pattern spot known at =
    ap (λ s. first_from (first_from known (const_part token).faults)
    (broken_if (not (fits token pattern)) Rule.Kinds s)) (at ∙ sym (const_spot token))
    ∙ sym
    (first_from-append (const_part token).faults
    (broken_if (not (fits token pattern)) Rule.Kinds (const_part token).spot) known)

-- the spots of tokens are those of their parts
pub token_spots : (tokens : List PConst) →
    map (λ token. token.spot) tokens ≡ map (λ token. (const_part token).spot) tokens
token_spots [] = refl
token_spots (token ∷ tokens) =
    ap (λ s. s ∷ map (λ t. t.spot) tokens) (sym (const_spot token))
    ∙ ap (λ ss. (const_part token).spot ∷ ss) (token_spots tokens)

-- what is reported of a place
pub place_told : (place : PPlace) (pattern : Pattern) (known : Option Fault) →
    pattern ≡ pattern_of place.kind →
    first_from
    (first_from (first_from known (kind_faults place.kind))
    (flat_map (token_faults pattern) place.initial
    ++ past_limit most_initial (map (λ token. (const_part token).spot) place.initial)))
    (capacity_faults place.max (map (λ token. (const_part token).spot) place.initial))
    ≡ first_from known (place_faults place)
place_told place pattern known is =
    let spots : List Spot = map (λ token. (const_part token).spot) place.initial in
    let kind : List Fault = kind_faults place.kind in
    let tokens : List Fault = flat_map (token_faults (pattern_of place.kind)) place.initial in
    let past : List Fault = past_limit most_initial spots in
    let capacity : List Fault = capacity_faults place.max spots in
    ap (λ p. first_from (first_from (first_from known kind) (flat_map (token_faults p) place.initial ++ past)) capacity) is
    ∙ ap (λ k. first_from k capacity)
    (first_from-append tokens past (first_from known kind) ∙ told_of_three kind tokens past known)
    ∙ sym (first_from-append (kind ++ tokens ++ past) capacity known)

last_at : (before : List Pattern) (p : Pattern) → slice_get (before ++ p ∷ []) (length before) ≡ Some p
last_at [] p = refl
last_at (q ∷ before) p = last_at before p

-- a pattern that was put at the end is the last
pub last_more : (before : List Pattern) (p : Pattern) →
    slice_get (before ++ p ∷ []) (length (before ++ p ∷ []) - 1) ≡ Some p
last_more before p =
    let size : length (before ++ p ∷ []) ≡ length before + 1 = length-append before (p ∷ []) in
    let at : length (before ++ p ∷ []) - 1 ≡ length before = omega (arith, size) in
    ap (slice_get (before ++ p ∷ [])) at ∙ last_at before p
