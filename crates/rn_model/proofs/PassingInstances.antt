-- Values in which each instance passes a test.
use Rattle.std.proofs.Common.{◌≡◌, ℕ, ℤ, Bool, true, false, List, [], ◌∷◌, map, refl, sym, ap, ◌∙◌, subst, inl, inr}
use Rattle.std.specs.Prelude.{Some, None, nat_eq, if◌then◌else◌}
use Rattle.std.specs.List.{list_all, list_any, AllByRecursion}
use Rattle.std.proofs.lemmas.Bool.{eqb-true, eq-eqb}
use Rattle.rn_items.proofs.Bools.{both_true, true_both, or_true, or_left, or_right}
use Rattle.rn_value.specs.declared.value.InstRef.{InstRef}
use Rattle.rn_value.specs.declared.value.InstRef.TheVariants.{Old, New}
use Rattle.rn_value.specs.declared.value.Value.{Value, out-Value, roll-Value, map-Value, fold-Value, fold_out-Value, fold-roll-Value, ind-Value}
use Rattle.rn_value.specs.declared.value.Value.TheVariants as Value
use Rattle.rn_value.specs.declared.value.Value.TheOpen as V
use Rattle.rn_model.specs.declared.expr.Expr.{Expr}
use Rattle.rn_model.specs.Evaluation.{Env, worth, int_of, list_of}
use Rattle.rn_model.specs.Liveness.{mentions, mentions_step}
use Rattle.rn_model.specs.SoundTokens.{holds_new, new_in_step}
use Rattle.rn_model.proofs.ReplacedValues.{replaced, replaced_step, IsPlain}
use Rattle.rn_model.proofs.ReplacedReadings.{worth_is_fixed}

module _ (good : InstRef → Bool) where
  -- one value, with whether each instance in each of its parts passes
  abbrev pub only_step : V.Value-F Bool → Bool
  only_step (V.Inst i) = good i
  only_step (V.Tuple passes) = list_all (λ p. p) passes
  only_step (V.List passes) = list_all (λ p. p) passes
  only_step _ = true

  -- whether each instance in a value passes
  abbrev pub only : Value → Bool
  only = fold-Value Bool only_step

  -- an instance that passes, and an empty tuple for each other
  abbrev pub kept : InstRef → Value
  kept i = if good i then Value.Inst i else Value.Tuple []

  abbrev rep : Value → Value
  rep = replaced kept

  out : (v : Value) → only v ≡ only_step (map-Value Value Bool only (out-Value v))
  out v = fold_out-Value Bool only_step v

  pub only-Int : (n : ℤ) → only (Value.Int n) ≡ true
  only-Int n = out (Value.Int n) ∙ rw (Value.outs-Int n)

  pub only-Text : (s : List ℕ) → only (Value.Text s) ≡ true
  only-Text s = out (Value.Text s) ∙ rw (Value.outs-Text s)

  pub only-Tuple : (vs : List Value) → only (Value.Tuple vs) ≡ list_all (λ p. p) (map only vs)
  only-Tuple vs = out (Value.Tuple vs) ∙ rw (Value.outs-Tuple vs)

  pub only-List : (vs : List Value) → only (Value.List vs) ≡ list_all (λ p. p) (map only vs)
  only-List vs = out (Value.List vs) ∙ rw (Value.outs-List vs)

  -- a reference passes where its instance does
  pub only-Inst : (i : InstRef) → only (Value.Inst i) ≡ good i
  only-Inst i = out (Value.Inst i) ∙ rw (Value.outs-Inst i)

  plain_ints : (i : InstRef) (passes : Bool) → int_of (if passes then Value.Inst i else Value.Tuple []) ≡ None
  plain_ints i true = rw (Value.outs-Inst i)
  plain_ints i false = rw (Value.outs-Tuple [])

  plain_lists : (i : InstRef) (passes : Bool) → list_of (if passes then Value.Inst i else Value.Tuple []) ≡ None
  plain_lists i true = rw (Value.outs-Inst i)
  plain_lists i false = rw (Value.outs-Tuple [])

  -- what stands for an instance is no number and no list
  pub kept_plain : IsPlain kept
  kept_plain = record { ints = λ i. plain_ints i (good i); lists = λ i. plain_lists i (good i) }

  -- an instance that passes stands for itself
  pub kept_passing : (i : InstRef) → good i ≡ true → kept i ≡ Value.Inst i
  kept_passing i e = rw e refl

  -- Where each instance passes, nothing is replaced.
  abbrev IsKept : Value → Type 0
  IsKept v = only v ≡ true → rep v ≡ v

  abbrev KeptPart : Type 0
  KeptPart = (v : Value) × IsKept v

  parts_kept : (parts : List KeptPart) → list_all (λ p. p) (map only (map (λ e. e.0) parts)) ≡ true → map rep (map (λ e. e.0) parts) ≡ map (λ e. e.0) parts
  parts_kept [] e = refl
  parts_kept (part ∷ parts) e =
      let both = both_true (only part.0) (list_all (λ p. p) (map only (map (λ e. e.0) parts))) e in
      ap (λ v. v ∷ map rep (map (λ e. e.0) parts)) (part.1 both.0) ∙ ap (λ vs. part.0 ∷ vs) (parts_kept parts both.1)

  abbrev LayerIsKept : V.Value-F Value → Type 0
  LayerIsKept x = only_step (map-Value Value Bool only x) ≡ true → replaced_step kept (map-Value Value Value rep x) ≡ roll-Value x

  kept_layer : (y : V.Value-F KeptPart) → LayerIsKept (map-Value KeptPart Value (λ e. e.0) y)
  kept_layer (V.Int n) e = sym (Value.rolls-Int n)
  kept_layer (V.Text s) e = sym (Value.rolls-Text s)
  kept_layer (V.Tuple parts) e = ap (λ vs. Value.Tuple vs) (parts_kept parts e) ∙ sym (Value.rolls-Tuple (map (λ e. e.0) parts))
  kept_layer (V.List parts) e = ap (λ vs. Value.List vs) (parts_kept parts e) ∙ sym (Value.rolls-List (map (λ e. e.0) parts))
  kept_layer (V.Inst i) e = kept_passing i e ∙ sym (Value.rolls-Inst i)

  -- a value in which each instance passes stays as it is
  pub only_is_kept : (v : Value) → only v ≡ true → replaced kept v ≡ v
  only_is_kept = ind-Value IsKept (λ x y is e.
      let at_layer : only_step (map-Value Value Bool only x) ≡ true = sym (fold-roll-Value Bool only_step x) ∙ e in
      fold-roll-Value Value (replaced_step kept) x ∙ subst LayerIsKept is (kept_layer y) at_layer)

  -- And what is kept passes.
  abbrev Passes : Value → Type 0
  Passes v = only (rep v) ≡ true

  abbrev PassingPart : Type 0
  PassingPart = (v : Value) × Passes v

  parts_pass : (parts : List PassingPart) → list_all (λ p. p) (map only (map rep (map (λ e. e.0) parts))) ≡ true
  parts_pass [] = refl
  parts_pass (part ∷ parts) = true_both (only (rep part.0)) (list_all (λ p. p) (map only (map rep (map (λ e. e.0) parts)))) part.1 (parts_pass parts)

  passes_or_not : (i : InstRef) (passes : Bool) → good i ≡ passes → only (if passes then Value.Inst i else Value.Tuple []) ≡ true
  passes_or_not i true e = only-Inst i ∙ e
  passes_or_not i false e = only-Tuple []

  abbrev LayerPasses : V.Value-F Value → Type 0
  LayerPasses x = only (replaced_step kept (map-Value Value Value rep x)) ≡ true

  passing_layer : (y : V.Value-F PassingPart) → LayerPasses (map-Value PassingPart Value (λ e. e.0) y)
  passing_layer (V.Int n) = only-Int n
  passing_layer (V.Text s) = only-Text s
  passing_layer (V.Tuple parts) = only-Tuple (map rep (map (λ e. e.0) parts)) ∙ parts_pass parts
  passing_layer (V.List parts) = only-List (map rep (map (λ e. e.0) parts)) ∙ parts_pass parts
  passing_layer (V.Inst i) = passes_or_not i (good i) refl

  kept_passes : (v : Value) → Passes v
  kept_passes = ind-Value Passes (λ x y is. ap only (fold-roll-Value Value (replaced_step kept) x) ∙ subst LayerPasses is (passing_layer y))

  -- in a value that stays as it is each instance passes
  pub kept_is_only : (v : Value) → replaced kept v ≡ v → only v ≡ true
  kept_is_only v e = sym (ap only e) ∙ kept_passes v

  -- An instance that is mentioned passes.
  abbrev MentionsPassing : Value → Type 0
  MentionsPassing v = only v ≡ true → (n : ℕ) → mentions v n ≡ true → good (Old n) ≡ true

  abbrev MentioningPart : Type 0
  MentioningPart = (v : Value) × MentionsPassing v

  parts_mention : (parts : List MentioningPart) → list_all (λ p. p) (map only (map (λ e. e.0) parts)) ≡ true → (n : ℕ) → list_any (λ test. test n) (map mentions (map (λ e. e.0) parts)) ≡ true → good (Old n) ≡ true
  parts_mention [] e n f = absurd (let no : ⊥ = cc in no)
  parts_mention (part ∷ parts) e n f =
      let both = both_true (only part.0) (list_all (λ p. p) (map only (map (λ e. e.0) parts))) e in
      elim (or_true (mentions part.0 n) (list_any (λ test. test n) (map mentions (map (λ e. e.0) parts))) f) as (λ _. good (Old n) ≡ true) [
        | inl here ↦ part.1 both.0 n here
        | inr later ↦ parts_mention parts both.1 n later
      ]

  abbrev LayerMentions : V.Value-F Value → Type 0
  LayerMentions x = only_step (map-Value Value Bool only x) ≡ true → (n : ℕ) → mentions_step (map-Value Value (ℕ → Bool) mentions x) n ≡ true → good (Old n) ≡ true

  mentioned_itself : (k n : ℕ) → good (Old k) ≡ true → nat_eq k n ≡ true → good (Old n) ≡ true
  mentioned_itself k n e f = ap (λ j. good (Old j)) (sym (eqb-true k n f)) ∙ e

  mentions_layer : (y : V.Value-F MentioningPart) → LayerMentions (map-Value MentioningPart Value (λ e. e.0) y)
  mentions_layer (V.Int k) e n f = absurd (let no : ⊥ = cc in no)
  mentions_layer (V.Text s) e n f = absurd (let no : ⊥ = cc in no)
  mentions_layer (V.Tuple parts) e n f = parts_mention parts e n f
  mentions_layer (V.List parts) e n f = parts_mention parts e n f
  mentions_layer (V.Inst (Old k)) e n f = mentioned_itself k n e f
  mentions_layer (V.Inst (New path j)) e n f = absurd (let no : ⊥ = cc in no)

  pub only_mentions : (v : Value) → only v ≡ true → (n : ℕ) → mentions v n ≡ true → good (Old n) ≡ true
  only_mentions = ind-Value MentionsPassing (λ x y is e n f.
      let at_layer : only_step (map-Value Value Bool only x) ≡ true = sym (fold-roll-Value Bool only_step x) ∙ e in
      let named : mentions_step (map-Value Value (ℕ → Bool) mentions x) n ≡ true = sym (ap (λ g. g n) (fold-roll-Value (ℕ → Bool) mentions_step x)) ∙ f in
      subst LayerMentions is (mentions_layer y) at_layer n named)

  -- And a value passes where what it mentions passes, and the new instances in it.
  pub record NamesPassing (v : Value) : Type 0 where
    pub old : (n : ℕ) → mentions v n ≡ true → good (Old n) ≡ true
    pub new : (path : List ℕ) (j : ℕ) → holds_new v ≡ true → good (New path j) ≡ true

  abbrev IsOnly : Value → Type 0
  IsOnly v = NamesPassing v → only v ≡ true

  abbrev OnlyPart : Type 0
  OnlyPart = (v : Value) × IsOnly v

  abbrev AllNamesPass : List Value → Type 0
  AllNamesPass vs = ((n : ℕ) → list_any (λ test. test n) (map mentions vs) ≡ true → good (Old n) ≡ true) × ((path : List ℕ) (j : ℕ) → list_any (λ h. h) (map holds_new vs) ≡ true → good (New path j) ≡ true)

  parts_only : (parts : List OnlyPart) → AllNamesPass (map (λ e. e.0) parts) → list_all (λ p. p) (map only (map (λ e. e.0) parts)) ≡ true
  parts_only [] p = refl
  parts_only (part ∷ parts) p =
      let vs = map (λ e. e.0) parts in
      let first : NamesPassing part.0 = record {
        old = λ n e. p.0 n (or_left (mentions part.0 n) (list_any (λ test. test n) (map mentions vs)) e);
        new = λ path j e. p.1 path j (or_left (holds_new part.0) (list_any (λ h. h) (map holds_new vs)) e);
      } in
      let others : AllNamesPass vs = (
        λ n e. p.0 n (or_right (mentions part.0 n) (list_any (λ test. test n) (map mentions vs)) e),
        λ path j e. p.1 path j (or_right (holds_new part.0) (list_any (λ h. h) (map holds_new vs)) e),
      ) in
      true_both (only part.0) (list_all (λ p. p) (map only vs)) (part.1 first) (parts_only parts others)

  abbrev LayerIsOnly : V.Value-F Value → Type 0
  LayerIsOnly x = ((n : ℕ) → mentions_step (map-Value Value (ℕ → Bool) mentions x) n ≡ true → good (Old n) ≡ true) →
      ((path : List ℕ) (j : ℕ) → new_in_step (map-Value Value Bool holds_new x) ≡ true → good (New path j) ≡ true) → only_step (map-Value Value Bool only x) ≡ true

  itself : (k : ℕ) → nat_eq k k ≡ true
  itself k = eq-eqb k k refl

  only_layer : (y : V.Value-F OnlyPart) → LayerIsOnly (map-Value OnlyPart Value (λ e. e.0) y)
  only_layer (V.Int n) p q = refl
  only_layer (V.Text s) p q = refl
  only_layer (V.Tuple parts) p q = parts_only parts (p, q)
  only_layer (V.List parts) p q = parts_only parts (p, q)
  only_layer (V.Inst (Old k)) p q = p k (itself k)
  only_layer (V.Inst (New path j)) p q = q path j refl

  -- a value passes where all instances in it do
  pub names_passing : (v : Value) → NamesPassing v → only v ≡ true
  names_passing = ind-Value IsOnly (λ x y is p.
      fold-roll-Value Bool only_step x ∙ subst LayerIsOnly is (only_layer y)
      (λ n e. p.old n (ap (λ g. g n) (fold-roll-Value (ℕ → Bool) mentions_step x) ∙ e))
      (λ path j e. p.new path j (fold-roll-Value Bool new_in_step x ∙ e)))

  -- where no new instance passes, none is in a value that passes
  module _ (none : (path : List ℕ) (j : ℕ) → good (New path j) ≡ false) where
    abbrev HoldsNone : Value → Type 0
    HoldsNone v = only v ≡ true → holds_new v ≡ false

    abbrev HoldingPart : Type 0
    HoldingPart = (v : Value) × HoldsNone v

    parts_hold_none : (parts : List HoldingPart) → list_all (λ p. p) (map only (map (λ e. e.0) parts)) ≡ true → list_any (λ h. h) (map holds_new (map (λ e. e.0) parts)) ≡ false
    parts_hold_none [] e = refl
    parts_hold_none (part ∷ parts) e =
        let both = both_true (only part.0) (list_all (λ p. p) (map only (map (λ e. e.0) parts))) e in
        rw (part.1 both.0, parts_hold_none parts both.1) refl

    abbrev LayerHoldsNone : V.Value-F Value → Type 0
    LayerHoldsNone x = only_step (map-Value Value Bool only x) ≡ true → new_in_step (map-Value Value Bool holds_new x) ≡ false

    holds_layer : (y : V.Value-F HoldingPart) → LayerHoldsNone (map-Value HoldingPart Value (λ e. e.0) y)
    holds_layer (V.Int n) e = refl
    holds_layer (V.Text s) e = refl
    holds_layer (V.Tuple parts) e = parts_hold_none parts e
    holds_layer (V.List parts) e = parts_hold_none parts e
    holds_layer (V.Inst (Old n)) e = refl
    holds_layer (V.Inst (New path j)) e = let no_pass : true ≡ false = sym e ∙ none path j in absurd (let no : ⊥ = cc in no)

    pub only_no_new : (v : Value) → only v ≡ true → holds_new v ≡ false
    only_no_new = ind-Value HoldsNone (λ x y is e.
        fold-roll-Value Bool new_in_step x ∙ subst LayerHoldsNone is (holds_layer y) (sym (fold-roll-Value Bool only_step x) ∙ e))

  -- the readings in which each instance passes
  pub record IsPassingEnv (env : Env) : Type 0 where
    pub this : good env.this ≡ true
    pub pairs : AllByRecursion (λ p. only p.1 ≡ true) env.pairs

  pairs_fixed : (pairs : List (ℕ × Value)) → AllByRecursion (λ p. only p.1 ≡ true) pairs → AllByRecursion (λ p. replaced kept p.1 ≡ p.1) pairs
  pairs_fixed [] all = tt
  pairs_fixed (p ∷ pairs) all = (only_is_kept p.1 all.0, pairs_fixed pairs all.1)

  -- there each instance in an expression's value passes
  pub worth_passes : (e : Expr) (env : Env) (v : Value) → IsPassingEnv env → worth e env ≡ Some v → only v ≡ true
  worth_passes e env v p is = kept_is_only v (worth_is_fixed kept kept_plain e env v (record { this = kept_passing env.this p.this; pairs = pairs_fixed env.pairs p.pairs }) is)
