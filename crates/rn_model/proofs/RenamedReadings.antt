-- Expressions and conditions under readings whose instances are renamed.
use Rattle.std.proofs.Common.{◌≡◌, ℕ, ℤ, Bool, true, false, not, List, [], ◌∷◌, map, refl, sym, ap}
use Rattle.std.proofs.Common.{◌∙◌}
use Rattle.std.specs.Prelude.{Option, Some, None, option_map, option_and_then}
use Rattle.std.proofs.lemmas.Option.{same_Some}
use Rattle.rn_value.specs.declared.value.InstRef.{InstRef}
use Rattle.rn_value.specs.declared.value.Value.{Value}
use Rattle.rn_value.specs.declared.value.Value.TheVariants as Value
use Rattle.rn_model.specs.declared.expr.CompareKind.{CompareKind}
use Rattle.rn_model.specs.declared.expr.CompareKind.TheVariants.{Same, Differs, Less, AtMost}
use Rattle.rn_model.specs.declared.expr.CompareKind.TheVariants.{Greater, AtLeast}
use Rattle.rn_model.specs.declared.expr.Expr.{Expr}
use Rattle.rn_model.specs.Lists.{same_value}
use Rattle.rn_model.specs.Evaluation.{Env, worth, comparison_of, int_comparison, int_of}
use Rattle.rn_model.specs.Firing.{renamed_value}
use Rattle.rn_model.specs.Good.{Comparison, comparisons_in}
use Rattle.rn_model.specs.ExpressionLaws.{renamed_env, ValuesAreRenamed}
use Rattle.rn_model.specs.ExpressionLaws.{TruthsStayRenamed}
use Rattle.rn_model.proofs.AskedValues.{same_itself}
use Rattle.rn_model.proofs.ReplacedValues.{replaced, IsPlain, int_of-replaced, renamed_is_replaced}
use Rattle.rn_model.proofs.ReplacedReadings.{worth-replaced}
use Rattle.rn_model.proofs.ValueLists.{same_is}
use Rattle.rn_model.proofs.ConditionsByComparisons.{compared, truth_by_comparisons}
use Rattle.rn_model.proofs.ReadConditions.{each_in, answer_of}

module _ (name : InstRef → InstRef) where
  abbrev put : InstRef → Value
  put i = Value.Inst (name i)

  abbrev rename : Value → Value
  rename v = renamed_value v name

  plain : IsPlain put
  plain = record {
    ints = λ i. rw (Value.outs-Inst (name i));
    lists = λ i. rw (Value.outs-Inst (name i));
  }

  abbrev renamed_pair : ℕ × Value → ℕ × Value
  renamed_pair p = (p.0, rename p.1)

  abbrev replaced_pair : ℕ × Value → ℕ × Value
  replaced_pair p = (p.0, replaced put p.1)

  pairs_replaced : (pairs : List (ℕ × Value)) → map renamed_pair pairs ≡ map replaced_pair pairs
  pairs_replaced [] = refl
  pairs_replaced (p ∷ pairs) =
      ap (λ v. (p.0, v) ∷ map renamed_pair pairs) (renamed_is_replaced name p.1)
      ∙ ap (λ ps. replaced_pair p ∷ ps) (pairs_replaced pairs)

  option_replaced : (o : Option Value) → option_map (replaced put) o ≡ option_map rename o
  option_replaced None = refl
  option_replaced (Some v) = ap Some (sym (renamed_is_replaced name v))

  pub worth-renamed : (e : Expr) (env : Env) →
      worth e (renamed_env name env) ≡ option_map (λ v. renamed_value v name) (worth e env)
  worth-renamed e env =
      worth-replaced put plain e env (renamed_env name env)
      (record { this = refl; step = refl; pairs = pairs_replaced env.pairs })
      ∙ option_replaced (worth e env)

  pub int_of-renamed : (v : Value) → int_of (renamed_value v name) ≡ int_of v
  int_of-renamed v = ap int_of (renamed_is_replaced name v) ∙ int_of-replaced put plain v

-- where instances are renamed, an expression's value is its value with these renamed
pub values_are_renamed : ValuesAreRenamed
values_are_renamed name e env = worth-renamed name e env

module _ (name back : InstRef → InstRef) (env : Env)
    (undone : renamed_env back (renamed_env name env) ≡ env) where
  abbrev new : Value → Value
  new v = renamed_value v name

  abbrev old : Value → Value
  old v = renamed_value v back

  returned : (o : Option Value) (v : Value) → option_map old (option_map new o) ≡ o →
      o ≡ Some v → old (new v) ≡ v
  returned o v e is =
      same_Some (old (new v)) v (ap (λ o. option_map old (option_map new o)) (sym is) ∙ e ∙ is)

  -- the value of an expression returns where its instances are renamed back
  returns : (e : Expr) (v : Value) → worth e env ≡ Some v → old (new v) ≡ v
  returns e v is =
      let twice = worth-renamed back e (renamed_env name env)
      ∙ ap (option_map old) (worth-renamed name e env) in
      returned (worth e env) v (sym twice ∙ ap (worth e) undone) is

  abbrev Returns : Value → Type 0
  Returns v = old (new v) ≡ v

  same_test : (v w : Value) → Returns v → Returns w → (before after : Bool) →
      same_value v w ≡ before → same_value (new v) (new w) ≡ after → after ≡ before
  same_test v w p q true true e f = refl
  same_test v w p q false false e f = refl
  same_test v w p q true false e f =
      let same : v ≡ w = same_is v w e in
      let both = sym (same_itself (new v)) ∙ ap (λ u. same_value (new v) (new u)) same ∙ f in
      absurd (let no : ⊥ = cc in no)
  same_test v w p q false true e f =
      let same : v ≡ w = sym p ∙ ap old (same_is (new v) (new w) f) ∙ q in
      let both = sym (same_itself v) ∙ ap (same_value v) same ∙ e in
      absurd (let no : ⊥ = cc in no)

  same_renamed : (v w : Value) → Returns v → Returns w →
      same_value (new v) (new w) ≡ same_value v w
  same_renamed v w p q =
      same_test v w p q (same_value v w) (same_value (new v) (new w)) refl refl

  abbrev by_ints : CompareKind → Option ℤ → Option ℤ → Option Bool
  by_ints kind x y = option_and_then (λ x. option_map (int_comparison kind x) y) x

  ints_renamed : (kind : CompareKind) (v w : Value) →
      by_ints kind (int_of (new v)) (int_of (new w)) ≡ by_ints kind (int_of v) (int_of w)
  ints_renamed kind v w =
      ap (λ x. by_ints kind x (int_of (new w))) (int_of-renamed name v)
      ∙ ap (by_ints kind (int_of v)) (int_of-renamed name w)

  comparison_renamed : (kind : CompareKind) (v w : Value) → Returns v → Returns w →
      comparison_of kind (new v) (new w) ≡ comparison_of kind v w
  comparison_renamed Same v w p q = ap Some (same_renamed v w p q)
  comparison_renamed Differs v w p q = ap (λ same. Some (not same)) (same_renamed v w p q)
  comparison_renamed Less v w p q = ints_renamed Less v w
  comparison_renamed AtMost v w p q = ints_renamed AtMost v w
  comparison_renamed Greater v w p q = ints_renamed Greater v w
  comparison_renamed AtLeast v w p q = ints_renamed AtLeast v w

  answer_renamed : (kind : CompareKind) (a b : Option Value) →
      ((v : Value) → a ≡ Some v → Returns v) → ((w : Value) → b ≡ Some w → Returns w) →
      answer_of kind (option_map new a) (option_map new b) ≡ answer_of kind a b
  answer_renamed kind None b p q = refl
  answer_renamed kind (Some v) None p q = refl
  answer_renamed kind (Some v) (Some w) p q = comparison_renamed kind v w (p v refl) (q w refl)

  compared_renamed : (c : Comparison) → compared (renamed_env name env) c ≡ compared env c
  compared_renamed c =
      ap (λ a. answer_of c.kind a (worth c.right (renamed_env name env)))
      (worth-renamed name c.left env)
      ∙ ap (answer_of c.kind (option_map new (worth c.left env))) (worth-renamed name c.right env)
      ∙ answer_renamed c.kind (worth c.left env) (worth c.right env) (returns c.left)
      (returns c.right)

pub truths_stay_renamed : TruthsStayRenamed
truths_stay_renamed name back cond env undone =
    truth_by_comparisons (renamed_env name env) env cond
    (each_in (λ c. compared (renamed_env name env) c ≡ compared env c) (comparisons_in cond)
    (λ c there. compared_renamed name back env undone c))
