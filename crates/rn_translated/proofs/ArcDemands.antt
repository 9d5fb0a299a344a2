-- What the arcs of a translated transition ask of a place: so many black tokens as the weights of
-- the weighted net's arcs add up to there.
use Rattle.std.proofs.Common.{◌≡◌, ℕ, zero, suc, ◌≤◌, inl, inr, Bool, true, false, cond, List, [], ◌∷◌, ◌++◌, map, refl, sym, ap, ◌∙◌, subst, arith}
use Rattle.std.specs.Prelude.{Option, Some, None, ◌≢◌, All, nat_eq, nat_lt, sum_by, flat_map, replicate, if◌then◌else◌}
use Rattle.std.specs.Option.{option_map_or}
use Rattle.std.proofs.lemmas.List.{replicate-append-replicate}
use Rattle.std.proofs.lemmas.List.Sums.{sum_by-cons}
use Rattle.std.proofs.lemmas.List.Elements.{All-head, All-tail}
use Rattle.rn_value.specs.declared.value.Value.{Value}
use Rattle.rn_value.specs.declared.value.Value.TheVariants as Value
use Rattle.rn_model.specs.declared.expr.Expr.{Expr}
use Rattle.rn_model.specs.declared.expr.Expr.TheVariants as Expr
use Rattle.rn_model.specs.declared.system.ArcKind.{ArcKind}
use Rattle.rn_model.specs.declared.system.ArcKind.TheVariants.{Input, Output, Inhibit}
use Rattle.rn_model.specs.declared.system.NetArc.{NetArc}
use Rattle.rn_model.specs.Evaluation.{Env, worth, worths}
use Rattle.rn_model.specs.Demands.{takes, puts, tests, inhibits, clears, asked_by_arc, elements}
use Rattle.rn_model.proofs.EvaluationLemmas.{worth-Tuple, worth-List, list_of-List}
use Rattle.rn_weighted.specs.declared.weighted.WArc.{WArc}
use Rattle.rn_weighted.specs.Weighted.{IsWArc, IsWArcKind}
use Rattle.rn_translated.specs.WeightedRuns.{taken, put}
use Rattle.rn_translated.specs.TranslatedSystem.{black, blacks, flexible, net_arc}

-- what holds of the three kinds holds of each arc of a weighted net
pub by_kind : (P : ArcKind → Type 0) (kind : ArcKind) → IsWArcKind kind → P Input → P Output →
    P Inhibit → P kind
by_kind P kind (inl e) a b c = subst P (sym e) a
by_kind P kind (inr (inl e)) a b c = subst P (sym e) b
by_kind P kind (inr (inr e)) a b c = subst P (sym e) c

-- values of inscriptions
abbrev pub token : Expr
token = Expr.Tuple []

pub worth_token : (env : Env) → worth token env ≡ Some black
worth_token env = worth-Tuple [] env

worths_tokens : (n : ℕ) (env : Env) → worths (map worth (replicate n token)) env ≡ Some (blacks n)
worths_tokens zero env = refl
worths_tokens (suc n) env = rw (worth_token env, worths_tokens n env) refl

pub worth_tokens : (n : ℕ) (env : Env) →
    worth (Expr.List (replicate n token)) env ≡ Some (Value.List (blacks n))
worth_tokens n env = worth-List (replicate n token) env ∙ rw (worths_tokens n env) refl

elements_of : (vs : List Value) → elements (Value.List vs) ≡ vs
elements_of vs = rw (list_of-List vs) refl

-- the weight of an inhibitor arc, which asks for as many tokens not to be there
abbrev pub inhibited : ArcKind → ℕ → ℕ
inhibited Inhibit weight = weight
inhibited _ weight = 0

-- What is picked of an arc is so many black tokens as a part of its weight.
pub record PicksBlacks (pick : ArcKind → Value → List Value) (part : ArcKind → ℕ → ℕ)
    : Type 0 where
  pub one : (kind : ArcKind) → IsWArcKind kind → pick kind black ≡ blacks (part kind 1)
  pub several : (kind : ArcKind) (n : ℕ) → IsWArcKind kind → kind ≢ Inhibit →
      pick (flexible kind) (Value.List (blacks n)) ≡ blacks (part kind n)

no_inhibit : {A : Type 0} → Inhibit ≢ Inhibit → A
no_inhibit differs = absurd (differs refl)

pub takes_blacks : PicksBlacks takes taken
takes_blacks = record {
  one = λ kind is.
      by_kind (λ k. takes k black ≡ blacks (taken k 1)) kind is refl refl refl;
  several = λ kind n is.
      by_kind (λ k. k ≢ Inhibit → takes (flexible k) (Value.List (blacks n)) ≡ blacks (taken k n))
      kind is (λ no. elements_of (blacks n)) (λ no. refl) (λ no. no_inhibit no);
}

pub puts_blacks : PicksBlacks puts put
puts_blacks = record {
  one = λ kind is. by_kind (λ k. puts k black ≡ blacks (put k 1)) kind is refl refl refl;
  several = λ kind n is.
      by_kind (λ k. k ≢ Inhibit → puts (flexible k) (Value.List (blacks n)) ≡ blacks (put k n))
      kind is (λ no. refl) (λ no. elements_of (blacks n)) (λ no. no_inhibit no);
}

pub inhibits_blacks : PicksBlacks inhibits inhibited
inhibits_blacks = record {
  one = λ kind is.
      by_kind (λ k. inhibits k black ≡ blacks (inhibited k 1)) kind is refl refl refl;
  several = λ kind n is.
      by_kind
      (λ k. k ≢ Inhibit → inhibits (flexible k) (Value.List (blacks n)) ≡ blacks (inhibited k n))
      kind is (λ no. refl) (λ no. refl) (λ no. no_inhibit no);
}

-- so many where the arc is of the place, and else none
there_or_none : (there : Bool) (vs : List Value) (n : ℕ) → vs ≡ blacks n →
    cond there vs [] ≡ blacks (cond there n 0)
there_or_none true vs n e = e
there_or_none false vs n e = refl

-- the weight isn't above 1
pub one_alone : (n : ℕ) → 1 ≤ n → nat_lt 1 n ≡ false → n ≡ 1
one_alone n some not_more = grind arith

pub above_one : (n : ℕ) → nat_lt 1 n ≡ true → n ≢ 1
above_one n more e =
    let here : nat_lt 1 1 ≡ true = subst (λ k. nat_lt 1 k ≡ true) e more in
    let no : ⊥ = cc in no

-- an arc by whether its weight is above 1
abbrev pub formed : WArc → Bool → NetArc
formed arc more = cond more
    (record {
      kind = flexible arc.kind;
      place = arc.place;
      inscription = Expr.List (replicate arc.weight token);
    })
    (record { kind = arc.kind; place = arc.place; inscription = token })

module _ (pick : ArcKind → Value → List Value) (part : ArcKind → ℕ → ℕ)
    (picks : PicksBlacks pick part) (env : Env) (place places : ℕ) where
  abbrev weight_of : WArc → ℕ
  weight_of arc = if nat_eq arc.place place then part arc.kind arc.weight else 0

  form_asks : (arc : WArc) (more : Bool) → IsWArc places arc → nat_lt 1 arc.weight ≡ more →
      asked_by_arc pick env place (formed arc more) ≡ blacks (weight_of arc)
  form_asks arc true is e =
      there_or_none (nat_eq arc.place place)
      (option_map_or (pick (flexible arc.kind)) (worth (Expr.List (replicate arc.weight token)) env) [])
      (part arc.kind arc.weight)
      (ap (λ o. option_map_or (pick (flexible arc.kind)) o []) (worth_tokens arc.weight env)
      ∙ picks.several arc.kind arc.weight is.kind
      (λ inhibit. above_one arc.weight e (is.inhibits inhibit)))
  form_asks arc false is e =
      there_or_none (nat_eq arc.place place)
      (option_map_or (pick arc.kind) (worth token env) [])
      (part arc.kind arc.weight)
      (ap (λ o. option_map_or (pick arc.kind) o []) (worth_token env)
      ∙ picks.one arc.kind is.kind
      ∙ ap (λ n. blacks (part arc.kind n)) (sym (one_alone arc.weight is.some e)))

  -- the arcs of a transition ask together for so many black tokens
  pub arcs_ask : (arcs : List WArc) → All (IsWArc places) arcs →
      flat_map (asked_by_arc pick env place) (map net_arc arcs)
      ≡ blacks (sum_by (λ arc. weight_of arc) arcs)
  arcs_ask [] are = refl
  arcs_ask (arc ∷ arcs) are =
      let here = form_asks arc (nat_lt 1 arc.weight) (All-head (IsWArc places) arc arcs are) refl in
      let rest = arcs_ask arcs (All-tail (IsWArc places) arc arcs are) in
      let others = sum_by (λ arc. weight_of arc) arcs in
      ap (λ vs. vs ++ flat_map (asked_by_arc pick env place) (map net_arc arcs)) here
      ∙ ap (λ vs. blacks (weight_of arc) ++ vs) rest
      ∙ replicate-append-replicate (weight_of arc) others black
      ∙ ap blacks (sym (sum_by-cons (λ arc. weight_of arc) arc arcs))

-- what isn't picked of these kinds isn't asked at all
module _ {A : Type 0} (pick : ArcKind → Value → List A)
    (none : (kind : ArcKind) (v : Value) → IsWArcKind kind →
    (pick kind v ≡ []) × (pick (flexible kind) v ≡ []))
    (env : Env) (place places : ℕ) where
  picked_none : (kind : ArcKind) (o : Option Value) → ((v : Value) → pick kind v ≡ []) →
      option_map_or (pick kind) o [] ≡ []
  picked_none kind None never = refl
  picked_none kind (Some v) never = never v

  cond_none : (there : Bool) (xs : List A) → xs ≡ [] → cond there xs [] ≡ []
  cond_none true xs e = e
  cond_none false xs e = refl

  form_asks_none : (arc : WArc) (more : Bool) → IsWArcKind arc.kind →
      asked_by_arc pick env place (formed arc more) ≡ []
  form_asks_none arc true is =
      cond_none (nat_eq arc.place place)
      (option_map_or (pick (flexible arc.kind)) (worth (Expr.List (replicate arc.weight token)) env) [])
      (picked_none (flexible arc.kind) (worth (Expr.List (replicate arc.weight token)) env)
      (λ v. (none arc.kind v is).1))
  form_asks_none arc false is =
      cond_none (nat_eq arc.place place) (option_map_or (pick arc.kind) (worth token env) [])
      (picked_none arc.kind (worth token env) (λ v. (none arc.kind v is).0))

  pub arcs_ask_none : (arcs : List WArc) → All (IsWArc places) arcs →
      flat_map (asked_by_arc pick env place) (map net_arc arcs) ≡ []
  arcs_ask_none [] are = refl
  arcs_ask_none (arc ∷ arcs) are =
      let is = All-head (IsWArc places) arc arcs are in
      let here = form_asks_none arc (nat_lt 1 arc.weight) is.kind in
      let rest = arcs_ask_none arcs (All-tail (IsWArc places) arc arcs are) in
      ap (λ xs. xs ++ flat_map (asked_by_arc pick env place) (map net_arc arcs)) here ∙ rest

pub tests_none : (kind : ArcKind) (v : Value) → IsWArcKind kind →
    (tests kind v ≡ []) × (tests (flexible kind) v ≡ [])
tests_none kind v is =
    by_kind (λ k. (tests k v ≡ []) × (tests (flexible k) v ≡ [])) kind is (refl, refl) (refl, refl)
    (refl, refl)

pub clears_none : (kind : ArcKind) (v : Value) → IsWArcKind kind →
    (clears kind v ≡ []) × (clears (flexible kind) v ≡ [])
clears_none kind v is =
    by_kind (λ k. (clears k v ≡ []) × (clears (flexible k) v ≡ [])) kind is (refl, refl)
    (refl, refl) (refl, refl)
