-- Reading gives a command exactly where the words are accepted.
use Rattle.std.proofs.Common.{ℕ, suc, ◌≡◌, ◌≢◌, ◌∙◌, ◌↔◌, List, [], ◌∷◌, ◌++◌, Option, Some, None}
use Rattle.std.proofs.Common.{Result, Ok, Err, Bool, true, false, refl, sym, ap, subst}
use Rattle.std.specs.Prelude.{codes, bytes_eq, if◌then◌else◌}
use Rattle.std.proofs.lemmas.Slice.Eq.{bytes_eq-Decides}
use Rattle.rn_words.specs.declared.table.Verb.{Verb}
use Rattle.rn_words.specs.declared.table.Verb.TheVariants.{Run, Check, Print, Enabled, Replay, Gen}
use Rattle.rn_words.specs.declared.table.Verb.TheVariants.{Session, Counts, Moves, Pt, Migrate}
use Rattle.rn_words.specs.declared.table.Setting.{Setting}
use Rattle.rn_words.specs.declared.chosen.OptionValue.{OptionValue}
use Rattle.rn_words.specs.declared.chosen.Chosen.{Chosen}
use Rattle.rn_words.specs.declared.command.Command.{Command}
use Rattle.rn_words.specs.declared.command.WordsFault.{WordsFault}
use Rattle.rn_words.specs.Table.{verb_named, verb_word, most_copies}
use Rattle.rn_words.specs.Values.{value_within, value_of}
use Rattle.rn_words.specs.Choices.{nothing, fits, with_given, command_of}
use Rattle.rn_words.specs.Commands.{IsNextOption, GivesOptions, FollowsVerb, WordsOk, dashed}
use Rattle.rn_words.specs.Reading.{and_then, after_word, as_option, with_option, with_one, if_fit}
use Rattle.rn_words.specs.Reading.{option_of, value_part, read_from, as_command, read_copies}
use Rattle.rn_words.specs.Reading.{read_after, read_verb, reading}
use Rattle.rn_words.proofs.ReadingLemmas.{one_word}
use Rattle.rn_words.proofs.WordParts.{MayStand, names_option, dashed_named, joined_named, dashed_value, joined_value}

-- a value that goes with the options that were given is one of the word, and goes with them
fit_of : (chosen : Chosen) (o : Option OptionValue) (value : OptionValue) → if_fit chosen o ≡ Some value →
    (o ≡ Some value) × (fits chosen value ≡ true)
fit_of chosen None value is = let no : ⊥ = cc in absurd no
fit_of chosen (Some v) value is = by (fits chosen v) refl is
  where
    by : (b : Bool) → fits chosen v ≡ b → (if b then Some v else None) ≡ Some value →
        (Some v ≡ Some value) × (fits chosen value ≡ true)
    by true e same =
        let which : v ≡ value = cc in
        (same, subst (λ w. fits chosen w ≡ true) which e)
    by false e same = let no : ⊥ = cc in absurd no

-- what words give where the next one is awaited as the value of an option, or where it isn't
abbrev pub Rest : Verb → Chosen → Option Setting → List (List ℕ) → Chosen → Type 0
Rest verb chosen None words all = GivesOptions verb chosen words all
Rest verb chosen (Some s) words all =
    (word : List ℕ) × (value : OptionValue) × (rest : List (List ℕ)) × (words ≡ word ∷ rest)
    × ((value_of s word ≡ Some value) × (fits chosen value ≡ true))
    × GivesOptions verb (with_given chosen s value) rest all

-- words that are read without a fault give options
pub gives_options : (verb : Verb) (words : List (List ℕ)) (at : ℕ) (chosen all : Chosen)
    (awaits : Option Setting) → read_from verb at chosen awaits words ≡ Ok all →
    Rest verb chosen awaits words all
gives_options verb [] at chosen all None is =
    let same : chosen ≡ all = cc in subst (λ c. GivesOptions verb chosen [] c) same GivesOptions.done
gives_options verb [] at chosen all (Some s) is = let no : ⊥ = cc in absurd no
gives_options verb (word ∷ words) at chosen all (Some s) is =
    by (if_fit chosen (value_of s word)) refl is
    (λ v. gives_options verb words (suc at) (with_given chosen s v) all None)
  where
    by : (o : Option OptionValue) → if_fit chosen (value_of s word) ≡ o →
        and_then (λ st. read_from verb (suc at) st.chosen st.awaits words)
        (with_one chosen s at o) ≡ Ok all →
        ((v : OptionValue) → read_from verb (suc at) (with_given chosen s v) None words ≡ Ok all →
        GivesOptions verb (with_given chosen s v) words all) →
        Rest verb chosen (Some s) (word ∷ words) all
    by None e same rest = let no : ⊥ = cc in absurd no
    by (Some v) e same rest =
        (word, v, words, refl, fit_of chosen (value_of s word) v e, rest v same)
gives_options verb (word ∷ words) at chosen all None is =
    by (option_of verb chosen word) refl is
    (λ s. gives_options verb words (suc at) chosen all (Some s))
    (λ s v. gives_options verb words (suc at) (with_given chosen s v) all None)
  where
    with_one_is : (s : Setting) (value : List ℕ) (o : Option OptionValue) → MayStand verb chosen s →
        word ≡ dashed s ++ 61 ∷ value → if_fit chosen (value_of s value) ≡ o →
        and_then (λ st. read_from verb (suc at) st.chosen st.awaits words)
        (with_one chosen s at o) ≡ Ok all →
        ((v : OptionValue) → read_from verb (suc at) (with_given chosen s v) None words ≡ Ok all →
        GivesOptions verb (with_given chosen s v) words all) →
        GivesOptions verb chosen (word ∷ words) all
    with_one_is s value None stands word_is e same rest = let no : ⊥ = cc in absurd no
    with_one_is s value (Some v) stands word_is e same rest =
        let fit = fit_of chosen (value_of s value) v e in
        subst (λ w. GivesOptions verb chosen (w ∷ words) all) (sym word_is)
        (GivesOptions.joined s value v
        (record {
          taken = stands.taken;
          first = stands.first;
          goes = stands.goes;
          spells = fit.0;
          fit = fit.1;
        }) (rest v same))

    with_value_is : (s : Setting) (o : Option (List ℕ)) → option_of verb chosen word ≡ Some s →
        value_part word ≡ o →
        and_then (λ st. read_from verb (suc at) st.chosen st.awaits words)
        (with_option chosen s at o) ≡ Ok all →
        (read_from verb (suc at) chosen (Some s) words ≡ Ok all → Rest verb chosen (Some s) words all) →
        ((v : OptionValue) → read_from verb (suc at) (with_given chosen s v) None words ≡ Ok all →
        GivesOptions verb (with_given chosen s v) words all) →
        GivesOptions verb chosen (word ∷ words) all
    with_value_is s None named e same awaited rest =
        let names = names_option verb chosen word s named in
        let next = awaited same in
        let stands = names.stands in
        let fit = next.4 in
        subst (λ w. GivesOptions verb chosen (w ∷ words) all) (sym (names.alone e))
        (subst (λ ws. GivesOptions verb chosen (dashed s ∷ ws) all) (sym next.3)
        (GivesOptions.apart s next.0 next.1
        (record {
          taken = stands.taken;
          first = stands.first;
          goes = stands.goes;
          spells = fit.0;
          fit = fit.1;
        }) next.5))
    with_value_is s (Some value) named e same awaited rest =
        let names = names_option verb chosen word s named in
        with_one_is s value (if_fit chosen (value_of s value)) names.stands
        (names.joined value e) refl same rest

    by : (o : Option Setting) → option_of verb chosen word ≡ o →
        and_then (λ st. read_from verb (suc at) st.chosen st.awaits words)
        (as_option chosen at word o) ≡ Ok all →
        ((s : Setting) → read_from verb (suc at) chosen (Some s) words ≡ Ok all →
        Rest verb chosen (Some s) words all) →
        ((s : Setting) (v : OptionValue) → read_from verb (suc at) (with_given chosen s v) None words ≡ Ok all →
        GivesOptions verb (with_given chosen s v) words all) →
        GivesOptions verb chosen (word ∷ words) all
    by None e same awaited rest = let no : ⊥ = cc in absurd no
    by (Some s) e same awaited rest =
        with_value_is s (value_part word) e refl same (awaited s) (rest s)

-- an option that may be next stands
stands_of : {verb : Verb} {chosen : Chosen} {s : Setting} {word : List ℕ} {value : OptionValue} →
    IsNextOption verb chosen s word value → MayStand verb chosen s
stands_of next = record { taken = next.taken; first = next.first; goes = next.goes }

-- an option's word is read as that option
one_option : (verb : Verb) (at : ℕ) (chosen : Chosen) (s : Setting) → MayStand verb chosen s →
    after_word verb at (dashed s) chosen None ≡ Ok (record { chosen = chosen; awaits = Some s })
one_option verb at chosen s stands =
    ap (as_option chosen at (dashed s)) (dashed_named verb chosen s stands)
    ∙ ap (with_option chosen s at) (dashed_value s)

-- a word that is a value of an option, and goes with those that were given, is read as it
one_value : (verb : Verb) (at : ℕ) (chosen : Chosen) (s : Setting) (word : List ℕ) (value : OptionValue) →
    IsNextOption verb chosen s word value →
    with_one chosen s at (if_fit chosen (value_of s word))
    ≡ Ok (record { chosen = with_given chosen s value; awaits = None })
one_value verb at chosen s word value next =
    ap (λ o. with_one chosen s at (if_fit chosen o)) next.spells
    ∙ ap (λ b. with_one chosen s at (if b then Some value else None)) next.fit

-- and with its value as both
one_joined : (verb : Verb) (at : ℕ) (chosen : Chosen) (s : Setting) (word : List ℕ) (value : OptionValue) →
    IsNextOption verb chosen s word value →
    after_word verb at (dashed s ++ 61 ∷ word) chosen None
    ≡ Ok (record { chosen = with_given chosen s value; awaits = None })
one_joined verb at chosen s word value next =
    ap (as_option chosen at (dashed s ++ 61 ∷ word)) (joined_named verb chosen s word (stands_of next))
    ∙ ap (with_option chosen s at) (joined_value s word)
    ∙ one_value verb at chosen s word value next

-- words that give options are read without a fault
pub reads_options : (verb : Verb) (chosen all : Chosen) (words : List (List ℕ)) →
    GivesOptions verb chosen words all → (at : ℕ) → read_from verb at chosen None words ≡ Ok all
reads_options verb chosen all words GivesOptions.done at = refl
reads_options verb chosen all words (GivesOptions.joined {words = rest} s word value next more) at =
    one_word verb at (suc at) (dashed s ++ 61 ∷ word) rest chosen None
    (record { chosen = with_given chosen s value; awaits = None })
    (one_joined verb at chosen s word value next) refl
    ∙ reads_options verb (with_given chosen s value) all rest more (suc at)
reads_options verb chosen all words (GivesOptions.apart {words = rest} s word value next more) at =
    one_word verb at (suc at) (dashed s) (word ∷ rest) chosen None
    (record { chosen = chosen; awaits = Some s })
    (one_option verb at chosen s (stands_of next)) refl
    ∙ one_word verb (suc at) (suc (suc at)) word rest chosen (Some s)
    (record { chosen = with_given chosen s value; awaits = None })
    (one_value verb (suc at) chosen s word value next) refl
    ∙ reads_options verb (with_given chosen s value) all rest more (suc (suc at))

-- the command of a word has that word
verb_word_is : (word : List ℕ) (v : Verb) → verb_named word ≡ Some v → word ≡ verb_word v
verb_word_is word v is =
    by (bytes_eq word (codes "run")) (bytes_eq word (codes "check")) (bytes_eq word (codes "print"))
    (bytes_eq word (codes "enabled")) (bytes_eq word (codes "replay")) (bytes_eq word (codes "gen"))
    (bytes_eq word (codes "session")) (bytes_eq word (codes "counts"))
    (bytes_eq word (codes "moves")) (bytes_eq word (codes "pt"))
    (bytes_eq word (codes "migrate")) refl refl refl refl refl refl refl refl refl refl refl is
  where
    of : (w : List ℕ) (u : Verb) → bytes_eq word w ≡ true → Some u ≡ Some v → w ≡ verb_word u →
        word ≡ verb_word v
    of w u e same is_word =
        let which : u ≡ v = cc in
        (bytes_eq-Decides word w).0 e ∙ is_word ∙ ap verb_word which

    by : (a b c d e f g h i j k : Bool) → bytes_eq word (codes "run") ≡ a → bytes_eq word (codes "check") ≡ b →
        bytes_eq word (codes "print") ≡ c → bytes_eq word (codes "enabled") ≡ d →
        bytes_eq word (codes "replay") ≡ e → bytes_eq word (codes "gen") ≡ f →
        bytes_eq word (codes "session") ≡ g → bytes_eq word (codes "counts") ≡ h →
        bytes_eq word (codes "moves") ≡ i → bytes_eq word (codes "pt") ≡ j →
        bytes_eq word (codes "migrate") ≡ k →
        (if a then Some Run else if b then Some Check else if c then Some Print
        else if d then Some Enabled else if e then Some Replay else if f then Some Gen
        else if g then Some Session else if h then Some Counts else if i then Some Moves
        else if j then Some Pt else if k then Some Migrate else None)
        ≡ Some v →
        word ≡ verb_word v
    by true b c d e f g h i j k p q r s t u y w x z o same = of (codes "run") Run p same refl
    by false true c d e f g h i j k p q r s t u y w x z o same = of (codes "check") Check q same refl
    by false false true d e f g h i j k p q r s t u y w x z o same = of (codes "print") Print r same refl
    by false false false true e f g h i j k p q r s t u y w x z o same = of (codes "enabled") Enabled s same refl
    by false false false false true f g h i j k p q r s t u y w x z o same = of (codes "replay") Replay t same refl
    by false false false false false true g h i j k p q r s t u y w x z o same = of (codes "gen") Gen u same refl
    by false false false false false false true h i j k p q r s t u y w x z o same = of (codes "session") Session y same refl
    by false false false false false false false true i j k p q r s t u y w x z o same = of (codes "counts") Counts w same refl
    by false false false false false false false false true j k p q r s t u y w x z o same = of (codes "moves") Moves x same refl
    by false false false false false false false false false true k p q r s t u y w x z o same = of (codes "pt") Pt z same refl
    by false false false false false false false false false false true p q r s t u y w x z o same = of (codes "migrate") Migrate o same refl
    by false false false false false false false false false false false p q r s t u y w x z o same = let no : ⊥ = cc in absurd no

-- the word of a command is read as it
verb_is_named : (v : Verb) → verb_named (verb_word v) ≡ Some v
verb_is_named Run = refl
verb_is_named Check = refl
verb_is_named Print = refl
verb_is_named Enabled = refl
verb_is_named Replay = refl
verb_is_named Gen = refl
verb_is_named Session = refl
verb_is_named Counts = refl
verb_is_named Moves = refl
verb_is_named Pt = refl
verb_is_named Migrate = refl

-- a command comes of options
of_options : (verb : Verb) (n : ℕ) (r : Result Chosen WordsFault) (c : Command) →
    as_command verb n r ≡ Ok c → (chosen : Chosen) × (r ≡ Ok chosen) × (c ≡ command_of verb n chosen)
of_options verb n (Err fault) c is = let no : ⊥ = cc in absurd no
of_options verb n (Ok chosen) c is =
    let same : c ≡ command_of verb n chosen = cc in (chosen, refl, same)

-- after all commands' words but one only options follow
pub not_gen : (verb : Verb) (words : List (List ℕ)) → verb ≢ Gen →
    read_after verb words ≡ as_command verb 0 (read_from verb 2 nothing None words)
not_gen Run words other = refl
not_gen Check words other = refl
not_gen Print words other = refl
not_gen Enabled words other = refl
not_gen Replay words other = refl
not_gen Session words other = refl
not_gen Counts words other = refl
not_gen Moves words other = refl
not_gen Pt words other = refl
not_gen Migrate words other = refl
not_gen Gen words other = absurd (other refl)

options_follow : (verb : Verb) (words : List (List ℕ)) (c : Command) → verb ≢ Gen →
    read_after verb words ≡ Ok c → FollowsVerb verb words c
options_follow verb words c other is =
    let made = of_options verb 0 (read_from verb 2 nothing None words) c
    (sym (not_gen verb words other) ∙ is) in
    subst (λ d. FollowsVerb verb words d) (sym made.2)
    (FollowsVerb.options other (gives_options verb words 2 nothing made.0 None made.1))

-- what is read after a command's word may follow it
words_follow : (verb : Verb) (words : List (List ℕ)) (c : Command) →
    read_after verb words ≡ Ok c → FollowsVerb verb words c
words_follow Run words c is = options_follow Run words c (λ e. let no : ⊥ = cc in no) is
words_follow Check words c is = options_follow Check words c (λ e. let no : ⊥ = cc in no) is
words_follow Print words c is = options_follow Print words c (λ e. let no : ⊥ = cc in no) is
words_follow Enabled words c is = options_follow Enabled words c (λ e. let no : ⊥ = cc in no) is
words_follow Replay words c is = options_follow Replay words c (λ e. let no : ⊥ = cc in no) is
words_follow Session words c is = options_follow Session words c (λ e. let no : ⊥ = cc in no) is
words_follow Counts words c is = options_follow Counts words c (λ e. let no : ⊥ = cc in no) is
words_follow Moves words c is = options_follow Moves words c (λ e. let no : ⊥ = cc in no) is
words_follow Pt words c is = options_follow Pt words c (λ e. let no : ⊥ = cc in no) is
words_follow Migrate words c is = options_follow Migrate words c (λ e. let no : ⊥ = cc in no) is
words_follow Gen [] c is = let no : ⊥ = cc in absurd no
words_follow Gen (word ∷ words) c is = by (value_within 1 most_copies word) refl is
  where
    by : (o : Option ℕ) → value_within 1 most_copies word ≡ o → read_copies o words ≡ Ok c →
        FollowsVerb Gen (word ∷ words) c
    by None e same = let no : ⊥ = cc in absurd no
    by (Some n) e same =
        let made = of_options Gen n (read_from Gen 3 nothing None words) c same in
        subst (λ d. FollowsVerb Gen (word ∷ words) d) (sym made.2)
        (FollowsVerb.copies word n e (gives_options Gen words 3 nothing made.0 None made.1))

-- what may follow a command's word is read so
reads_after : (verb : Verb) (words : List (List ℕ)) (c : Command) → FollowsVerb verb words c →
    read_after verb words ≡ Ok c
reads_after verb words c (FollowsVerb.options {chosen = chosen} other gives) =
    not_gen verb words other
    ∙ ap (as_command verb 0) (reads_options verb nothing chosen words gives 2)
reads_after verb words c (FollowsVerb.copies {words = rest} {chosen = chosen} word n is gives) =
    ap (λ o. read_copies o rest) is
    ∙ ap (as_command Gen n) (reads_options Gen nothing chosen rest gives 3)

accepted_words : (words : List (List ℕ)) (c : Command) → reading words ≡ Ok c → WordsOk words c
accepted_words [] c is = let no : ⊥ = cc in absurd no
accepted_words (word ∷ words) c is = by (verb_named word) refl is
  where
    by : (o : Option Verb) → verb_named word ≡ o → read_verb o words ≡ Ok c →
        WordsOk (word ∷ words) c
    by None e same = let no : ⊥ = cc in absurd no
    by (Some verb) e same =
        (verb, words, ap (λ w. w ∷ words) (verb_word_is word verb e), words_follow verb words c same)

pub reads_accepted : (words : List (List ℕ)) (c : Command) → WordsOk words c → reading words ≡ Ok c
reads_accepted words c ok =
    ap reading ok.2
    ∙ ap (λ o. read_verb o ok.1) (verb_is_named ok.0)
    ∙ reads_after ok.0 ok.1 c ok.3

-- reading gives a command exactly where the words are accepted and give it
pub reads_what_is_accepted : (words : List (List ℕ)) (c : Command) →
    reading words ≡ Ok c ↔ WordsOk words c
reads_what_is_accepted words c = (accepted_words words c, reads_accepted words c)
