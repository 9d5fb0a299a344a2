-- Reading words one after another.
use Rattle.std.proofs.Common.{ℕ, suc, ◌≡◌, ◌∙◌, ◌<◌, ◌+◌, List, ◌∷◌, Option, Ok, ap, sym, map, drop}
use Rattle.std.proofs.Common.{length, get_or}
use Rattle.std.proofs.lemmas.List.{drop_more}
use Rattle.rn_words.specs.declared.table.Verb.{Verb}
use Rattle.rn_words.specs.declared.table.Setting.{Setting}
use Rattle.rn_words.specs.declared.chosen.Chosen.{Chosen}
use Rattle.rn_words.specs.declared.options.State.{State}
use Rattle.rn_words.specs.Reading.{read_from, and_then, after_word}

-- after a word that is no fault, reading goes on with the next number
pub one_word : (verb : Verb) (at next : ℕ) (word : List ℕ) (words : List (List ℕ))
    (chosen : Chosen) (awaits : Option Setting) (state : State) →
    after_word verb at word chosen awaits ≡ Ok state → next ≡ suc at →
    read_from verb at chosen awaits (word ∷ words)
    ≡ read_from verb next state.chosen state.awaits words
one_word verb at next word words chosen awaits state is step =
    ap (and_then (λ s. read_from verb (suc at) s.chosen s.awaits words)) is
    ∙ ap (λ k. read_from verb k state.chosen state.awaits words) (sym step)

-- the same of the words that are left
pub one_more : {X : Type 0} (bytes : X → List ℕ) (verb : Verb) (at next : ℕ) (words : List X)
    (i : ℕ) (word : X) (chosen : Chosen) (awaits : Option Setting) (state : State) →
    i < length words → word ≡ get_or words i word →
    after_word verb at (bytes word) chosen awaits ≡ Ok state → next ≡ suc at →
    read_from verb at chosen awaits (map bytes (drop i words))
    ≡ read_from verb next state.chosen state.awaits (map bytes (drop (i + 1) words))
one_more bytes verb at next words i word chosen awaits state within here is step =
    ap (λ ws. read_from verb at chosen awaits (map bytes ws))
    (drop_more words i word within ∙ ap (λ w. w ∷ drop (i + 1) words) (sym here))
    ∙ one_word verb at next (bytes word) (map bytes (drop (i + 1) words)) chosen awaits state is step
