-- What tokens of their places' kinds don't mention.
use Rattle.std.proofs.Common.{◌≡◌, ◌≤◌, ℕ, zero, suc, Bool, true, false, List, [], ◌∷◌, length}
use Rattle.std.proofs.Common.{refl, sym, ap, ◌∙◌, subst, arith}
use Rattle.std.specs.Prelude.{All, Contains, Option, Some, None, slice_get, unwrap_or, option_map, option_and_then}
use Rattle.std.specs.Option.{option_map_or}
use Rattle.std.proofs.lemmas.List.Elements.{All-head, All-tail}
use Rattle.std.proofs.lemmas.Option.{slice_get_past}
use Rattle.rn_value.specs.Kinds.{HasKind, value_has_kind, kind_step}
use Rattle.rn_value.specs.declared.value.Kind.{Kind, out-Kind}
use Rattle.rn_value.specs.declared.value.Kind.TheVariants as Kind
use Rattle.rn_value.specs.declared.value.Kind.TheOpen as K
use Rattle.rn_value.specs.declared.value.Value.{Value, out-Value, map-Value, fold_out-Value}
use Rattle.rn_value.specs.declared.value.Value.TheOpen as V
use Rattle.rn_model.specs.declared.system.Net.{Net}
use Rattle.rn_model.specs.declared.system.Place.{Place}
use Rattle.rn_model.specs.declared.system.System.{System}
use Rattle.rn_model.specs.Good.{Good, IsGoodNet}
use Rattle.rn_model.specs.Liveness.{mentions, mentions_step}
use Rattle.rn_model.specs.Markings.{Marking, Instance, instance_at, net_of, tokens_at}
use Rattle.rn_model.specs.Systems.{empty_net, net_at, place_kind, unkinded}
use Rattle.rn_model.proofs.EnablingLemmas.{not_in_nil}
use Rattle.rn_holders.specs.Holders.{MentionNear}

empty_layer : (y : V.Value-F Value) (n : ℕ) →
    kind_step (map-Value Value (Kind → Bool) value_has_kind y) (K.Tuple []) ≡ true →
    mentions_step (map-Value Value (ℕ → Bool) mentions y) n ≡ true → ⊥
empty_layer (V.Int k) n e f = let no : ⊥ = cc in no
empty_layer (V.Text s) n e f = let no : ⊥ = cc in no
empty_layer (V.Tuple []) n e f = let no : ⊥ = cc in no
empty_layer (V.Tuple (part ∷ parts)) n e f = let no : ⊥ = cc in no
empty_layer (V.List parts) n e f = let no : ⊥ = cc in no
empty_layer (V.Inst i) n e f = let no : ⊥ = cc in no

-- the empty tuple mentions no instance
empty_mentions : (v : Value) (n : ℕ) → HasKind v unkinded → mentions v n ≡ true → ⊥
empty_mentions v n kind mention =
    empty_layer (out-Value v) n
    (subst (λ k. kind_step (map-Value Value (Kind → Bool) value_has_kind (out-Value v)) k ≡ true)
    (Kind.outs-Tuple [])
    (sym (ap (λ f. f unkinded)
    (fold_out-Value (Kind → Bool) (λ w k. kind_step w (out-Kind k)) v)) ∙ kind))
    (sym (ap (λ f. f n) (fold_out-Value (ℕ → Bool) mentions_step v)) ∙ mention)

false_unless : (b : Bool) → (b ≡ true → ⊥) → b ≡ false
false_unless true not = absurd (not refl)
false_unless false not = refl

few_at : (system : System) (nets : List Net) (k : ℕ) → All (IsGoodNet system) nets →
    length (unwrap_or (slice_get nets k) empty_net).places ≤ 1000
few_at system [] k all = omega arith
few_at system (net ∷ nets) zero all = (All-head (IsGoodNet system) net nets all).few_places
few_at system (net ∷ nets) (suc k) all =
    few_at system nets k (All-tail (IsGoodNet system) net nets all)

-- past the places of a net a token could be the empty tuple alone
pub kinds_near : (system : System) (m : Marking) → Good system →
    ((n net place : ℕ) (v : Value) → net_of m n ≡ Some net → Contains (tokens_at m n place) v →
    HasKind v (place_kind system net place)) → MentionNear m
kinds_near system m good fit holder n place v far has = by_there (instance_at m holder) refl
  where
    by_there : (o : Option Instance) → instance_at m holder ≡ o → mentions v n ≡ false
    by_there None e = absurd (not_in_nil v
        (subst (λ o. Contains (unwrap_or (option_and_then (λ i. slice_get i.places place) o) []) v) e has))
    by_there (Some i) e =
        let net : net_of m holder ≡ Some i.net = ap (option_map (λ (j : Instance). j.net)) e in
        let few = few_at system system.nets i.net good.nets in
        let past = slice_get_past (net_at system i.net).places place (omega (arith, far, few)) in
        let kind : place_kind system i.net place ≡ unkinded =
        ap (λ (o : Option Place). option_map_or (λ place. place.kind) o unkinded) past in
        false_unless (mentions v n) (λ mention. empty_mentions v n
        (subst (HasKind v) kind (fit holder i.net place v net has)) mention)
