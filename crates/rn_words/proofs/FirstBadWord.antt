-- A fault names the first bad word.
use Rattle.std.proofs.Common.{ℕ, suc, ◌≡◌, ◌≢◌, ◌∙◌, ◌+◌, ◌-◌, ◌<◌, ◌≤◌, List, [], ◌∷◌, ◌++◌, length, take}
use Rattle.std.proofs.Common.{Option, Some, None, Result, Ok, Err, refl, sym, ap, subst, arith}
use Rattle.std.specs.Prelude.{codes}
use Rattle.rn_words.specs.declared.table.Verb.{Verb}
use Rattle.rn_words.specs.declared.table.Verb.TheVariants.{Run, Check, Print, Enabled, Replay, Gen}
use Rattle.rn_words.specs.declared.table.Verb.TheVariants.{Session, Counts, Moves, Pt, Migrate}
use Rattle.rn_words.specs.declared.table.Setting.{Setting}
use Rattle.rn_words.specs.declared.table.Setting.TheVariants.{Workers, Steps, Depth, Sweep, Pick, Seed}
use Rattle.rn_words.specs.declared.table.Picked.TheVariants.{Any}
use Rattle.rn_words.specs.declared.chosen.OptionValue.{OptionValue}
use Rattle.rn_words.specs.declared.chosen.OptionValue.TheVariants.{Number, Picks}
use Rattle.rn_words.specs.declared.chosen.Chosen.{Chosen}
use Rattle.rn_words.specs.declared.options.State.{State}
use Rattle.rn_words.specs.declared.command.Command.{Command}
use Rattle.rn_words.specs.declared.command.WordsFault.{WordsFault}
use Rattle.rn_words.specs.declared.command.WordsFault.TheVariants.{U1, U2, U3}
use Rattle.rn_words.specs.Table.{verb_named, most_copies}
use Rattle.rn_words.specs.Values.{value_within, value_of}
use Rattle.rn_words.specs.Choices.{nothing, with_given, command_of}
use Rattle.rn_words.specs.Laws.{CanGoOn, number_of_fault, IsFirstBad}
use Rattle.rn_words.specs.Reading.{and_then, after_word, as_option, with_option, with_one, if_fit}
use Rattle.rn_words.specs.Reading.{option_of}
use Rattle.rn_words.specs.Reading.{value_part, read_from, as_command, read_copies, read_after, read_verb, reading}
use Rattle.rn_words.proofs.AcceptedWords.{not_gen, reads_accepted, reads_what_is_accepted}

-- a word that is a value of an option whatever else is given
abbrev some_word : Setting → List ℕ
some_word Pick = codes "any"
some_word s = codes "1"

-- and its value
abbrev some_value : Setting → OptionValue
some_value Pick = Picks Any
some_value s = Number 1

is_value : (chosen : Chosen) (s : Setting) →
    if_fit chosen (value_of s (some_word s)) ≡ Some (some_value s)
is_value chosen Workers = refl
is_value chosen Steps = refl
is_value chosen Depth = refl
is_value chosen Sweep = refl
is_value chosen Pick = refl
is_value chosen Seed = refl

-- some words end what is read so far without a fault
some_end : (verb : Verb) (at : ℕ) (chosen : Chosen) (awaits : Option Setting) →
    (rest : List (List ℕ)) × (all : Chosen) × (read_from verb at chosen awaits rest ≡ Ok all)
some_end verb at chosen None = ([], chosen, refl)
some_end verb at chosen (Some s) = (
  some_word s ∷ [],
  with_given chosen s (some_value s),
  ap (λ o. and_then (λ st. read_from verb (suc at) st.chosen st.awaits []) (with_one chosen s at o))
      (is_value chosen s),
)

-- a fault of a word has its number
fault_here : (verb : Verb) (at : ℕ) (word : List ℕ) (chosen : Chosen) (awaits : Option Setting)
    (fault : WordsFault) → after_word verb at word chosen awaits ≡ Err fault →
    number_of_fault fault ≡ at
fault_here verb at word chosen (Some s) fault is = by (if_fit chosen (value_of s word)) is
  where
    by : (o : Option OptionValue) → with_one chosen s at o ≡ Err fault → number_of_fault fault ≡ at
    by None same = let which : U3 at ≡ fault = cc in ap number_of_fault (sym which)
    by (Some n) same = let no : ⊥ = cc in absurd no
fault_here verb at word chosen None fault is = by (option_of verb chosen word) is
  where
    number : (s : Setting) (o : Option OptionValue) → with_one chosen s at o ≡ Err fault →
        number_of_fault fault ≡ at
    number s None same = let which : U3 at ≡ fault = cc in ap number_of_fault (sym which)
    number s (Some n) same = let no : ⊥ = cc in absurd no

    value : (s : Setting) (o : Option (List ℕ)) → with_option chosen s at o ≡ Err fault →
        number_of_fault fault ≡ at
    value s None same = let no : ⊥ = cc in absurd no
    value s (Some v) same = number s (if_fit chosen (value_of s v)) same

    by : (o : Option Setting) → as_option chosen at word o ≡ Err fault → number_of_fault fault ≡ at
    by None same = let which : U2 at ≡ fault = cc in ap number_of_fault (sym which)
    by (Some s) same = value s (value_part word) same

-- Where a fault is: so many words are read without one, some words may follow them, and with the
-- next word none may. Or all are read, and something is missing.
pub record FaultAfter (verb : Verb) (at : ℕ) (chosen : Chosen) (awaits : Option Setting)
    (words : List (List ℕ)) (fault : WordsFault) : Type 0 where
  pub count : ℕ
  pub number : number_of_fault fault ≡ at + count
  pub within : count ≤ length words
  pub rest : List (List ℕ)
  pub all : Chosen
  pub before : read_from verb at chosen awaits (take count words ++ rest) ≡ Ok all
  pub stuck : count < length words → (others : List (List ℕ)) →
      read_from verb at chosen awaits (take (suc count) words ++ others) ≡ Err fault

pub fault_after : (verb : Verb) (words : List (List ℕ)) (at : ℕ) (chosen : Chosen)
    (awaits : Option Setting) (fault : WordsFault) →
    read_from verb at chosen awaits words ≡ Err fault →
    FaultAfter verb at chosen awaits words fault
fault_after verb [] at chosen None fault is = let no : ⊥ = cc in absurd no
fault_after verb [] at chosen (Some s) fault is =
    let end = some_end verb at chosen (Some s) in
    let which : U3 at ≡ fault = cc in
    let none : number_of_fault fault ≡ at + 0 = ap number_of_fault (sym which) ∙ omega arith in
    record {
      count = 0;
      number = none;
      within = omega arith;
      rest = end.0;
      all = end.1;
      before = end.2;
      stuck = λ below others. absurd (omega (arith, below));
    }
fault_after verb (word ∷ words) at chosen awaits fault is =
    by (after_word verb at word chosen awaits) refl is
    (λ state. fault_after verb words (suc at) state.chosen state.awaits fault)
  where
    by : (r : Result State WordsFault) → after_word verb at word chosen awaits ≡ r →
        and_then (λ st. read_from verb (suc at) st.chosen st.awaits words) r ≡ Err fault →
        ((state : State) → read_from verb (suc at) state.chosen state.awaits words ≡ Err fault →
        FaultAfter verb (suc at) state.chosen state.awaits words fault) →
        FaultAfter verb at chosen awaits (word ∷ words) fault
    by (Err other) e same later =
        let end = some_end verb at chosen awaits in
        let which : other ≡ fault = cc in
        let is_fault : after_word verb at word chosen awaits ≡ Err fault = e ∙ ap (λ f. Err f) which in
        let none : number_of_fault fault ≡ at + 0
        = fault_here verb at word chosen awaits fault is_fault ∙ omega arith in
        record {
          count = 0;
          number = none;
          within = omega arith;
          rest = end.0;
          all = end.1;
          before = end.2;
          stuck = λ below others.
              ap (and_then (λ st. read_from verb (suc at) st.chosen st.awaits others)) is_fault;
        }
    by (Ok state) e same later =
        let more = later state same in
        let number = more.number in
        let within = more.within in
        record {
          count = suc more.count;
          number = omega (arith, number);
          within = omega (arith, within);
          rest = more.rest;
          all = more.all;
          before = ap
              (and_then (λ st.
              read_from verb (suc at) st.chosen st.awaits (take more.count words ++ more.rest))) e
              ∙ more.before;
          stuck = λ below others.
              ap
              (and_then (λ st.
              read_from verb (suc at) st.chosen st.awaits (take (suc more.count) words ++ others))) e
              ∙ more.stuck (omega (arith, below)) others;
        }

-- the k-th word, from 0, is the first bad one, or is missing
first_bad : (words : List (List ℕ)) (fault : WordsFault) (k : ℕ) (rest : List (List ℕ)) (c : Command) →
    number_of_fault fault ≡ suc k → k ≤ length words → reading (take k words ++ rest) ≡ Ok c →
    (k < length words → (others : List (List ℕ)) → reading (take (suc k) words ++ others) ≡ Err fault) →
    reading words ≡ Err fault → IsFirstBad words (number_of_fault fault)
first_bad words fault k rest c number within before stuck is =
    let one_less : suc k - 1 ≡ k = omega arith in
    subst (λ at. IsFirstBad words at) (sym number) (record {
      number = omega arith;
      within = omega (arith, within);
      before = subst (λ n. CanGoOn (take n words)) (sym one_less)
          (rest, c, (reads_what_is_accepted (take k words ++ rest) c).0 before);
      stuck = λ below goes.
          let good = reads_accepted (take (suc k) words ++ goes.0) goes.1 goes.2 in
          let bad = stuck below goes.0 in
          let no : ⊥ = cc in no;
      refused = λ d ok. let good = reads_accepted words d ok in let no : ⊥ = cc in no;
    })

-- a fault of a command is one of its options
of_fault : (verb : Verb) (n : ℕ) (r : Result Chosen WordsFault) (fault : WordsFault) →
    as_command verb n r ≡ Err fault → r ≡ Err fault
of_fault verb n (Err other) fault is = let which : other ≡ fault = cc in ap (λ f. Err f) which
of_fault verb n (Ok chosen) fault is = let no : ⊥ = cc in absurd no

module _ (word : List ℕ) (verb : Verb) (named : verb_named word ≡ Some verb) where
  -- reading goes on after the command's word
  after_verb : (others : List (List ℕ)) → reading (word ∷ others) ≡ read_after verb others
  after_verb others = ap (λ o. read_verb o others) named

-- a fault after a command's word, where only options follow
bad_option : (word : List ℕ) (verb : Verb) (words : List (List ℕ)) (fault : WordsFault) →
    verb_named word ≡ Some verb → verb ≢ Gen → read_after verb words ≡ Err fault →
    IsFirstBad (word ∷ words) (number_of_fault fault)
bad_option word verb words fault named other is =
    let wrong = of_fault verb 0 (read_from verb 2 nothing None words) fault
    (sym (not_gen verb words other) ∙ is) in
    let after = fault_after verb words 2 nothing None fault wrong in
    let number = after.number in
    let within = after.within in
    first_bad (word ∷ words) fault (suc after.count) after.rest (command_of verb 0 after.all)
    (omega (arith, number)) (omega (arith, within))
    (after_verb word verb named (take after.count words ++ after.rest)
    ∙ not_gen verb (take after.count words ++ after.rest) other
    ∙ ap (as_command verb 0) after.before)
    (λ below others.
    after_verb word verb named (take (suc after.count) words ++ others)
    ∙ not_gen verb (take (suc after.count) words ++ others) other
    ∙ ap (as_command verb 0) (after.stuck (omega (arith, below)) others))
    (after_verb word verb named words ∙ is)

-- a fault after `gen`
bad_copies : (word : List ℕ) (words : List (List ℕ)) (fault : WordsFault) →
    verb_named word ≡ Some Gen → read_after Gen words ≡ Err fault →
    IsFirstBad (word ∷ words) (number_of_fault fault)
bad_copies word [] fault named is =
    let which : U3 2 ≡ fault = cc in
    first_bad (word ∷ []) fault 1 (codes "1" ∷ []) (command_of Gen 1 nothing)
    (ap number_of_fault (sym which)) (omega arith) (after_verb word Gen named (codes "1" ∷ []))
    (λ below others. absurd (omega (arith, below)))
    (after_verb word Gen named [] ∙ is)
bad_copies word (count ∷ words) fault named is = by (value_within 1 most_copies count) refl is
  where
    by : (o : Option ℕ) → value_within 1 most_copies count ≡ o → read_copies o words ≡ Err fault →
        IsFirstBad (word ∷ count ∷ words) (number_of_fault fault)
    by None e same =
        let which : U3 2 ≡ fault = cc in
        first_bad (word ∷ count ∷ words) fault 1 (codes "1" ∷ []) (command_of Gen 1 nothing)
        (ap number_of_fault (sym which)) (omega arith) (after_verb word Gen named (codes "1" ∷ []))
        (λ below others.
        after_verb word Gen named (count ∷ others)
        ∙ ap (λ o. read_copies o others) e
        ∙ ap (λ f. Err f) which)
        (after_verb word Gen named (count ∷ words) ∙ is)
    by (Some n) e same =
        let wrong = of_fault Gen n (read_from Gen 3 nothing None words) fault same in
        let after = fault_after Gen words 3 nothing None fault wrong in
        let number = after.number in
        let within = after.within in
        let goes_on = λ (others : List (List ℕ)).
        after_verb word Gen named (count ∷ others) ∙ ap (λ o. read_copies o others) e in
        first_bad (word ∷ count ∷ words) fault (suc (suc after.count)) after.rest
        (command_of Gen n after.all) (omega (arith, number)) (omega (arith, within))
        (after_verb word Gen named (count ∷ (take after.count words ++ after.rest))
        ∙ ap (λ o. read_copies o (take after.count words ++ after.rest)) e
        ∙ ap (as_command Gen n) after.before)
        (λ below others.
        after_verb word Gen named (count ∷ (take (suc after.count) words ++ others))
        ∙ ap (λ o. read_copies o (take (suc after.count) words ++ others)) e
        ∙ ap (as_command Gen n) (after.stuck (omega (arith, below)) others))
        (after_verb word Gen named (count ∷ words) ∙ is)

bad_after_verb : (word : List ℕ) (verb : Verb) (words : List (List ℕ)) (fault : WordsFault) →
    verb_named word ≡ Some verb → read_after verb words ≡ Err fault →
    IsFirstBad (word ∷ words) (number_of_fault fault)
bad_after_verb word Gen words fault named is = bad_copies word words fault named is
bad_after_verb word Run words fault named is =
    bad_option word Run words fault named (λ e. let no : ⊥ = cc in no) is
bad_after_verb word Check words fault named is =
    bad_option word Check words fault named (λ e. let no : ⊥ = cc in no) is
bad_after_verb word Print words fault named is =
    bad_option word Print words fault named (λ e. let no : ⊥ = cc in no) is
bad_after_verb word Enabled words fault named is =
    bad_option word Enabled words fault named (λ e. let no : ⊥ = cc in no) is
bad_after_verb word Replay words fault named is =
    bad_option word Replay words fault named (λ e. let no : ⊥ = cc in no) is
bad_after_verb word Session words fault named is =
    bad_option word Session words fault named (λ e. let no : ⊥ = cc in no) is
bad_after_verb word Counts words fault named is =
    bad_option word Counts words fault named (λ e. let no : ⊥ = cc in no) is
bad_after_verb word Moves words fault named is =
    bad_option word Moves words fault named (λ e. let no : ⊥ = cc in no) is
bad_after_verb word Pt words fault named is =
    bad_option word Pt words fault named (λ e. let no : ⊥ = cc in no) is
bad_after_verb word Migrate words fault named is =
    bad_option word Migrate words fault named (λ e. let no : ⊥ = cc in no) is

-- a fault names the first bad word
pub faults_name_the_first : (words : List (List ℕ)) (fault : WordsFault) →
    reading words ≡ Err fault → IsFirstBad words (number_of_fault fault)
faults_name_the_first [] fault is =
    let which : U1 1 ≡ fault = cc in
    first_bad [] fault 0 (codes "check" ∷ []) (command_of Check 0 nothing)
    (ap number_of_fault (sym which)) (omega arith) refl
    (λ below others. absurd (omega (arith, below))) is
faults_name_the_first (word ∷ words) fault is = by (verb_named word) refl is
  where
    by : (o : Option Verb) → verb_named word ≡ o → read_verb o words ≡ Err fault →
        IsFirstBad (word ∷ words) (number_of_fault fault)
    by (Some verb) e same = bad_after_verb word verb words fault e same
    by None e same =
        let which : U1 1 ≡ fault = cc in
        first_bad (word ∷ words) fault 0 (codes "check" ∷ []) (command_of Check 0 nothing)
        (ap number_of_fault (sym which)) (omega arith) refl
        (λ below others. ap (λ o. read_verb o others) e ∙ ap (λ f. Err f) which)
        (ap (λ o. read_verb o words) e ∙ same)
