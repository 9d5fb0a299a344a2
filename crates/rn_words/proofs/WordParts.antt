-- The parts of a word where an option may stand.
use Rattle.std.proofs.Common.{ℕ, suc, ◌≡◌, ◌∙◌, List, [], ◌∷◌, ◌++◌, drop, Option, Some, None, Bool, true, false}
use Rattle.std.proofs.Common.{not, ◌&&◌, nat_eq, refl, sym, ap, subst, arith}
use Rattle.std.specs.Prelude.{codes, option_and_then, bytes_eq, if◌then◌else◌}
use Rattle.std.proofs.lemmas.Bool.{eqb-true}
use Rattle.std.proofs.lemmas.Slice.Eq.{bytes_eq-Decides}
use Rattle.rn_words.specs.declared.table.Verb.{Verb}
use Rattle.rn_words.specs.declared.table.Setting.{Setting}
use Rattle.rn_words.specs.declared.table.Setting.TheVariants.{Workers, Steps, Depth, Sweep, Pick, Seed}
use Rattle.rn_words.specs.declared.chosen.Chosen.{Chosen}
use Rattle.rn_words.specs.Table.{setting_named, setting_name, takes}
use Rattle.rn_words.specs.Choices.{is_given, goes_with}
use Rattle.rn_words.specs.Commands.{dashed}
use Rattle.rn_words.specs.Reading.{after_dashes, name_length, name_part, value_part, after_first, if_next, option_of}

-- one byte more, which isn't `=`
longer : (c : ℕ) (rest : List ℕ) → nat_eq c 61 ≡ false → name_length (c ∷ rest) ≡ suc (name_length rest)
longer c rest e = rw e (omega arith)

-- none before `=`
ends : (c : ℕ) (rest : List ℕ) → nat_eq c 61 ≡ true → name_length (c ∷ rest) ≡ 0
ends c rest e = rw e refl

-- a word with a value is its name, `=` and the value
pub with_value_part : (word value : List ℕ) → value_part word ≡ Some value →
    word ≡ name_part word ++ 61 ∷ value
with_value_part [] value is = let no : ⊥ = cc in absurd no
with_value_part (c ∷ rest) value is = by (nat_eq c 61) refl (with_value_part rest value)
  where
    by : (b : Bool) → nat_eq c 61 ≡ b →
        (value_part rest ≡ Some value → rest ≡ name_part rest ++ 61 ∷ value) →
        c ∷ rest ≡ name_part (c ∷ rest) ++ 61 ∷ value
    by true e whole =
        let none = ends c rest e in
        let here : Some rest ≡ Some value
        = ap (λ n. after_first (drop n (c ∷ rest))) (sym none) ∙ is in
        let same : c ≡ 61 = eqb-true c 61 e in
        rw none cc
    by false e whole =
        let more = longer c rest e in
        let later : value_part rest ≡ Some value
        = ap (λ n. after_first (drop n (c ∷ rest))) (sym more) ∙ is in
        rw more (ap (λ l. c ∷ l) (whole later))

-- a word without one is its name
pub without_value_part : (word : List ℕ) → value_part word ≡ None → word ≡ name_part word
without_value_part [] is = refl
without_value_part (c ∷ rest) is = by (nat_eq c 61) refl (without_value_part rest)
  where
    by : (b : Bool) → nat_eq c 61 ≡ b → (value_part rest ≡ None → rest ≡ name_part rest) →
        c ∷ rest ≡ name_part (c ∷ rest)
    by true e whole =
        let none = ends c rest e in
        let here : Some rest ≡ None = ap (λ n. after_first (drop n (c ∷ rest))) (sym none) ∙ is in
        let no : ⊥ = cc in
        absurd no
    by false e whole =
        let more = longer c rest e in
        let later : value_part rest ≡ None
        = ap (λ n. after_first (drop n (c ∷ rest))) (sym more) ∙ is in
        rw more (ap (λ l. c ∷ l) (whole later))

-- the two dashes hold no `=`
value_after_dashes : (rest : List ℕ) → value_part (45 ∷ 45 ∷ rest) ≡ value_part rest
value_after_dashes rest =
    ap (λ n. after_first (drop n (45 ∷ 45 ∷ rest)))
    (longer 45 (45 ∷ rest) refl ∙ ap suc (longer 45 rest refl))

-- a word that begins with dashes
dashes_begin : (word rest : List ℕ) → after_dashes word ≡ Some rest → word ≡ 45 ∷ 45 ∷ rest
dashes_begin [] rest is = let no : ⊥ = cc in absurd no
dashes_begin (a ∷ []) rest is = let no : ⊥ = cc in absurd no
dashes_begin (a ∷ b ∷ more) rest is = by (nat_eq a 45) (nat_eq b 45) refl refl is
  where
    by : (p q : Bool) → nat_eq a 45 ≡ p → nat_eq b 45 ≡ q →
        (if p && q then Some more else None) ≡ Some rest → a ∷ b ∷ more ≡ 45 ∷ 45 ∷ rest
    by true true e f same =
        let first = eqb-true a 45 e in
        let second = eqb-true b 45 f in
        cc
    by true false e f same = let no : ⊥ = cc in absurd no
    by false q e f same = let no : ⊥ = cc in absurd no

-- the option of a name has that name
named_is : (name : List ℕ) (s : Setting) → setting_named name ≡ Some s → name ≡ setting_name s
named_is name s is =
    by (bytes_eq name (codes "workers")) (bytes_eq name (codes "steps"))
    (bytes_eq name (codes "depth")) (bytes_eq name (codes "drop")) (bytes_eq name (codes "pick"))
    (bytes_eq name (codes "seed")) refl refl refl refl refl refl is
  where
    of : (w : List ℕ) (t : Setting) → bytes_eq name w ≡ true → Some t ≡ Some s →
        w ≡ setting_name t → name ≡ setting_name s
    of w t e same is_name =
        let which : t ≡ s = cc in
        (bytes_eq-Decides name w).0 e ∙ is_name ∙ ap setting_name which

    by : (a b c d e f : Bool) → bytes_eq name (codes "workers") ≡ a →
        bytes_eq name (codes "steps") ≡ b → bytes_eq name (codes "depth") ≡ c →
        bytes_eq name (codes "drop") ≡ d → bytes_eq name (codes "pick") ≡ e →
        bytes_eq name (codes "seed") ≡ f →
        (if a then Some Workers else if b then Some Steps else if c then Some Depth
        else if d then Some Sweep else if e then Some Pick else if f then Some Seed else None)
        ≡ Some s →
        name ≡ setting_name s
    by true b c d e f p q r t u v same = of (codes "workers") Workers p same refl
    by false true c d e f p q r t u v same = of (codes "steps") Steps q same refl
    by false false true d e f p q r t u v same = of (codes "depth") Depth r same refl
    by false false false true e f p q r t u v same = of (codes "drop") Sweep t same refl
    by false false false false true f p q r t u v same = of (codes "pick") Pick u same refl
    by false false false false false true p q r t u v same = of (codes "seed") Seed v same refl
    by false false false false false false p q r t u v same = let no : ⊥ = cc in absurd no

-- the command takes the option, and it wasn't given, and goes with those that were
pub record MayStand (verb : Verb) (chosen : Chosen) (s : Setting) : Type 0 where
  pub taken : takes verb s ≡ true
  pub first : is_given chosen s ≡ false
  pub goes : goes_with chosen s ≡ true

next_stands : (verb : Verb) (chosen : Chosen) (o : Option Setting) (s : Setting) →
    if_next verb chosen o ≡ Some s → (o ≡ Some s) × MayStand verb chosen s
next_stands verb chosen None s is = let no : ⊥ = cc in absurd no
next_stands verb chosen (Some t) s is =
    by (takes verb t) (is_given chosen t) (goes_with chosen t) refl refl refl is
  where
    by : (a b c : Bool) → takes verb t ≡ a → is_given chosen t ≡ b → goes_with chosen t ≡ c →
        (if a && not b && c then Some t else None) ≡ Some s →
        (Some t ≡ Some s) × MayStand verb chosen s
    by true false true e f g same =
        let which : t ≡ s = cc in (
          same,
          subst (λ u. MayStand verb chosen u) which (record { taken = e; first = f; goes = g }),
        )
    by true false false e f g same = let no : ⊥ = cc in absurd no
    by true true c e f g same = let no : ⊥ = cc in absurd no
    by false b c e f g same = let no : ⊥ = cc in absurd no

-- A word that names an option, which may stand there: without a value, or with one.
pub record NamesOption (verb : Verb) (chosen : Chosen) (word : List ℕ) (s : Setting) : Type 0 where
  pub stands : MayStand verb chosen s
  pub alone : value_part word ≡ None → word ≡ dashed s
  pub joined : (value : List ℕ) → value_part word ≡ Some value → word ≡ dashed s ++ 61 ∷ value

pub names_option : (verb : Verb) (chosen : Chosen) (word : List ℕ) (s : Setting) →
    option_of verb chosen word ≡ Some s → NamesOption verb chosen word s
names_option verb chosen word s is = by (after_dashes word) refl is
  where
    by : (o : Option (List ℕ)) → after_dashes word ≡ o →
        option_and_then (λ rest. if_next verb chosen (setting_named (name_part rest))) o ≡ Some s →
        NamesOption verb chosen word s
    by None e same = let no : ⊥ = cc in absurd no
    by (Some rest) e same =
        let next = next_stands verb chosen (setting_named (name_part rest)) s same in
        let name = named_is (name_part rest) s next.0 in
        let begins = dashes_begin word rest e in
        record {
          stands = next.1;
          alone = λ none.
              begins
              ∙ ap (λ l. 45 ∷ 45 ∷ l)
              (without_value_part rest
              (sym (value_after_dashes rest) ∙ ap value_part (sym begins) ∙ none)
              ∙ name);
          joined = λ value some.
              begins
              ∙ ap (λ l. 45 ∷ 45 ∷ l)
              (with_value_part rest value
              (sym (value_after_dashes rest) ∙ ap value_part (sym begins) ∙ some)
              ∙ ap (λ l. l ++ 61 ∷ value) name);
        }

-- an option that may stand is the next one
stands_next : (verb : Verb) (chosen : Chosen) (s : Setting) → MayStand verb chosen s →
    if_next verb chosen (Some s) ≡ Some s
stands_next verb chosen s stands =
    ap (λ b. if b && not (is_given chosen s) && goes_with chosen s then Some s else None) stands.taken
    ∙ ap (λ b. if not b && goes_with chosen s then Some s else None) stands.first
    ∙ ap (λ b. if b then Some s else None) stands.goes

-- an option's word without a value names it
pub dashed_named : (verb : Verb) (chosen : Chosen) (s : Setting) → MayStand verb chosen s →
    option_of verb chosen (dashed s) ≡ Some s
dashed_named verb chosen Workers stands = stands_next verb chosen Workers stands
dashed_named verb chosen Steps stands = stands_next verb chosen Steps stands
dashed_named verb chosen Depth stands = stands_next verb chosen Depth stands
dashed_named verb chosen Sweep stands = stands_next verb chosen Sweep stands
dashed_named verb chosen Pick stands = stands_next verb chosen Pick stands
dashed_named verb chosen Seed stands = stands_next verb chosen Seed stands

-- and so does the word with a value
pub joined_named : (verb : Verb) (chosen : Chosen) (s : Setting) (value : List ℕ) →
    MayStand verb chosen s → option_of verb chosen (dashed s ++ 61 ∷ value) ≡ Some s
joined_named verb chosen Workers value stands = stands_next verb chosen Workers stands
joined_named verb chosen Steps value stands = stands_next verb chosen Steps stands
joined_named verb chosen Depth value stands = stands_next verb chosen Depth stands
joined_named verb chosen Sweep value stands = stands_next verb chosen Sweep stands
joined_named verb chosen Pick value stands = stands_next verb chosen Pick stands
joined_named verb chosen Seed value stands = stands_next verb chosen Seed stands

-- the first has no value
pub dashed_value : (s : Setting) → value_part (dashed s) ≡ None
dashed_value Workers = refl
dashed_value Steps = refl
dashed_value Depth = refl
dashed_value Sweep = refl
dashed_value Pick = refl
dashed_value Seed = refl

-- and the second has it
pub joined_value : (s : Setting) (value : List ℕ) →
    value_part (dashed s ++ 61 ∷ value) ≡ Some value
joined_value Workers value = refl
joined_value Steps value = refl
joined_value Depth value = refl
joined_value Sweep value = refl
joined_value Pick value = refl
joined_value Seed value = refl
