-- The initial tokens of a good system are sound.
use Rattle.std.proofs.Common.{◌≡◌, ℕ, zero, suc, ◌<◌, Bool, true, false, List, [], ◌∷◌, map, length, refl, sym, ap, ◌∙◌, subst}
use Rattle.std.specs.Prelude.{Option, Some, None, IsTrue, Contains, unwrap_or, option_map, slice_get, nat_eq, codes}
use Rattle.std.specs.List.{list_any}
use Rattle.std.proofs.lemmas.List.Elements.{All-contains}
use Rattle.std.specs.Cmp.Lexicographic.{pointwise}
use Rattle.std.proofs.Math.Dec.{T, eqb→eq}
use Rattle.std.proofs.lemmas.Option.{same_Some}
use Rattle.std.proofs.lemmas.Bool.{or_parts}
use Rattle.rn_model.proofs.AskedValues.{from_ordered}
use Rattle.rn_value.specs.Kinds.{HasKind}
use Rattle.rn_value.specs.declared.value.Value.{Value, map-Value, ind-Value, fold-roll-Value}
use Rattle.rn_value.specs.declared.value.Value.TheOpen as V
use Rattle.rn_model.specs.declared.system.System.{System}
use Rattle.rn_model.specs.declared.system.Place.{Place}
use Rattle.rn_model.specs.Lists.{ordered_values}
use Rattle.rn_model.specs.Systems.{net_at, main_net, place_kind}
use Rattle.rn_model.specs.Markings.{initial_marking, net_of, tokens_at, IsThere}
use Rattle.rn_model.specs.Good.{Good, IsGoodPlace, IsGoodToken}
use Rattle.rn_model.specs.Kinds.{holds_instance, inst_in_step}
use Rattle.rn_model.specs.Liveness.{mentions, mentions_step}
use Rattle.rn_model.specs.SoundTokens.{holds_new, new_in_step, IsSoundToken}
use Rattle.rn_model.specs.MarkingLaws.{InitialTokensAreSound}
use Rattle.rn_model.proofs.EachElement.{at_place}
use Rattle.rn_model.proofs.EnablingLemmas.{not_in_nil}
use Rattle.rn_model.proofs.MarkingsOfRuns.{good_net, place_within}

-- A value that holds no instance holds no new one, and mentions none.
abbrev IsApart : Value → Type 0
IsApart v = holds_instance v ≡ false → (holds_new v ≡ false) × ((n : ℕ) → mentions v n ≡ false)

abbrev Part : Type 0
Part = (v : Value) × IsApart v

new_in_parts : (parts : List Part) → list_any (λ h. h) (map holds_instance (map (λ e. e.0) parts)) ≡ false → list_any (λ h. h) (map holds_new (map (λ e. e.0) parts)) ≡ false
new_in_parts [] e = refl
new_in_parts (part ∷ parts) e =
    let both = or_parts (holds_instance part.0) (list_any (λ h. h) (map holds_instance (map (λ e. e.0) parts))) e in
    rw ((part.1 both.0).0, new_in_parts parts both.1) refl

mentioned_in_parts : (parts : List Part) (n : ℕ) → list_any (λ h. h) (map holds_instance (map (λ e. e.0) parts)) ≡ false → list_any (λ test. test n) (map mentions (map (λ e. e.0) parts)) ≡ false
mentioned_in_parts [] n e = refl
mentioned_in_parts (part ∷ parts) n e =
    let both = or_parts (holds_instance part.0) (list_any (λ h. h) (map holds_instance (map (λ e. e.0) parts))) e in
    rw ((part.1 both.0).1 n, mentioned_in_parts parts n both.1) refl

abbrev plain : V.Value-F Part → V.Value-F Value
plain = map-Value Part Value (λ e. e.0)

abbrev LayerIsApart : V.Value-F Value → Type 0
LayerIsApart x = inst_in_step (map-Value Value Bool holds_instance x) ≡ false →
    (new_in_step (map-Value Value Bool holds_new x) ≡ false) × ((n : ℕ) → mentions_step (map-Value Value (ℕ → Bool) mentions x) n ≡ false)

layer : (y : V.Value-F Part) → LayerIsApart (plain y)
layer (V.Int k) e = (refl, λ n. refl)
layer (V.Text s) e = (refl, λ n. refl)
layer (V.Tuple parts) e = (new_in_parts parts e, λ n. mentioned_in_parts parts n e)
layer (V.List parts) e = (new_in_parts parts e, λ n. mentioned_in_parts parts n e)
layer (V.Inst i) e = absurd (let no : ⊥ = cc in no)

pub apart : (v : Value) → IsApart v
apart = ind-Value IsApart (λ x y is e.
    let at_layer : inst_in_step (map-Value Value Bool holds_instance x) ≡ false = sym (fold-roll-Value Bool inst_in_step x) ∙ e in
    let here = (subst LayerIsApart is (layer y)) at_layer in
    (fold-roll-Value Bool new_in_step x ∙ here.0, λ n. ap (λ f. f n) (fold-roll-Value (ℕ → Bool) mentions_step x) ∙ here.1 n))

get_mapped : {X Y : Type 0} (f : X → Y) (xs : List X) (k : ℕ) → slice_get (map f xs) k ≡ option_map f (slice_get xs k)
get_mapped f [] k = refl
get_mapped f (x ∷ xs) zero = refl
get_mapped f (x ∷ xs) (suc k) = get_mapped f xs k

module _ (system : System) (good : Good system) where
  abbrev main : ℕ
  main = main_net system

  abbrev places : List Place
  places = (net_at system main).places

  main_there : main < length system.nets
  main_there = place_within (λ net. pointwise nat_eq net.name (codes "main")) system.nets good.main

  abbrev tokens_of : Option Place → List Value
  tokens_of found = unwrap_or (option_map (λ p. ordered_values p.initial) found) []

  -- a token that names an instance would hold one
  names_none : (v : Value) (n : ℕ) (P : Type 0) → holds_instance v ≡ false → IsTrue (mentions v n) → P
  names_none v n P none names = absurd (let at_false : true ≡ false = sym names ∙ (apart v none).1 n in let no : ⊥ = cc in no)

  sound_at : (place : ℕ) (v : Value) (found : Option Place) → slice_get places place ≡ found → Contains (tokens_of found) v → IsSoundToken system (initial_marking system) main place v
  sound_at place v None e there = absurd (not_in_nil v there)
  sound_at place v (Some p) e there =
      let token : IsGoodToken p.kind v = All-contains (IsGoodToken p.kind) p.initial v (at_place IsGoodPlace places place p (good_net system main good main_there).places e).initial (from_ordered v p.initial there) in
      let kind : place_kind system main place ≡ p.kind = rw e refl in
      record {
        kind = subst (HasKind v) (sym kind) token.fits;
        old = (apart v token.apart).0;
        there = λ n names. names_none v n (IsThere (initial_marking system) n) token.apart names;
      }

  sound : (n net place : ℕ) (v : Value) (first : Bool) → nat_eq 1 n ≡ first → net_of (initial_marking system) n ≡ Some net → Contains (tokens_at (initial_marking system) n place) v → IsSoundToken system (initial_marking system) net place v
  sound n net place v true is there holds =
      let number : 1 ≡ n = eqb→eq 1 n (subst T (sym is) tt) in
      let at_one : Some main ≡ Some net = subst (λ k. net_of (initial_marking system) k ≡ Some net) (sym number) there in
      let same : main ≡ net = same_Some main net at_one in
      let tokens : Contains (tokens_at (initial_marking system) 1 place) v = subst (λ k. Contains (tokens_at (initial_marking system) k place) v) (sym number) holds in
      let mapped : Contains (tokens_of (slice_get places place)) v = subst (λ o. Contains (unwrap_or o []) v) (get_mapped (λ p. ordered_values p.initial) places place) tokens in
      subst (λ k. IsSoundToken system (initial_marking system) k place v) same (sound_at place v (slice_get places place) refl mapped)
  sound n net place v false is there holds = let none : None ≡ Some net = rw is at there in absurd (let no : ⊥ = cc in no)

-- the initial marking of a good system has sound tokens
pub initial_tokens_are_sound : InitialTokensAreSound
initial_tokens_are_sound system good n net place v there holds = sound system good n net place v (nat_eq 1 n) refl there holds
