-- Texts that are written piece by piece.
use Rattle.std.proofs.Common.{◌≡◌, ℕ, ◌+◌, List, [], ◌∷◌, ◌++◌, map, drop, refl, ap, sym, ◌∙◌, append_assoc}
use Rattle.std.specs.Prelude.{Some, None}
use Rattle.std.proofs.lemmas.List.{length-map}
use Rattle.rn_value.specs.declared.value.InstRef.{InstRef}
use Rattle.rn_value.specs.declared.value.InstRef.TheVariants.{Old, New}
use Rattle.rn_value.specs.Text.{numeral}
use Rattle.rn_value.specs.declared.value.Value.{Value}
use Rattle.rn_model.specs.declared.system.Net.{Net}
use Rattle.rn_model.specs.NodeText.{number_text, given_text, all_given_text}
use Rattle.rn_window.specs.Windows.{Sight, after}
use Rattle.rn_window.proofs.Windows.{chained, nothing}
use Rattle.rn_spell.specs.Spelling.{number_of}

-- with one more piece of a text, what is left of it
pub next_piece : (w later all : Sight) (piece rest : List ℕ) → after w (piece ++ rest) ≡ all → later ≡ after w piece → after later rest ≡ all
next_piece w later all piece rest h is = ap (λ v. after v rest) is ∙ chained w piece rest ∙ h

-- a line whose end comes with its node
pub line_end : (w : Sight) (lead node end : List ℕ) → after (after w lead) (node ++ end) ≡ after w ((lead ++ node) ++ end)
line_end w lead node end = chained w lead (node ++ end) ∙ ap (after w) (sym (append_assoc lead node end))

-- one more line, written in three pieces
pub called_line : (w first second later all : Sight) (lead plus node end rest : List ℕ) →
    after w ((((lead ++ plus) ++ node) ++ end) ++ rest) ≡ all →
    first ≡ after w lead → second ≡ after first plus → later ≡ after second (node ++ end) → after later rest ≡ all
called_line w first second later all lead plus node end rest h e f g =
    next_piece w later all (((lead ++ plus) ++ node) ++ end) rest h
    (g ∙ ap (λ v. after v (node ++ end)) (f ∙ ap (λ v. after v plus) e ∙ chained w lead plus) ∙ line_end w (lead ++ plus) node end)

-- one more variable with its value
pub next_given : (names : List (List ℕ)) (net : Net) (change : Value → Value) (w later all : Sight) (x : ℕ) (v : Value) (vars : List ℕ) (values : List Value) (i : ℕ) →
    drop i vars ≡ x ∷ drop (i + 1) vars → drop i values ≡ v ∷ drop (i + 1) values →
    after w (all_given_text names net (drop i vars) (map change (drop i values))) ≡ all →
    later ≡ after w (given_text names net x (change v)) →
    after later (all_given_text names net (drop (i + 1) vars) (map change (drop (i + 1) values))) ≡ all
next_given names net change w later all x v vars values i e f h is =
    next_piece w later all (given_text names net x (change v)) (all_given_text names net (drop (i + 1) vars) (map change (drop (i + 1) values)))
    (ap (λ some. after w (all_given_text names net some (map change (v ∷ drop (i + 1) values)))) (sym e)
    ∙ ap (λ some. after w (all_given_text names net (drop i vars) (map change some))) (sym f) ∙ h)
    is

-- the numeral of an instance's number is its text
pub numbered_text : (i : InstRef) (n : ℕ) → number_of i ≡ Some n → number_text i ≡ numeral n
numbered_text (Old m) n h = let same : m ≡ n = cc in ap numeral same
numbered_text (New path j) n h = cc

pub unnumbered_text : (i : InstRef) → number_of i ≡ None → number_text i ≡ []
unnumbered_text (Old m) h = cc
unnumbered_text (New path j) h = refl

-- a first line, written in two pieces, and what follows it
pub first_line : (w first second later : Sight) (lead node end rest : List ℕ) →
    first ≡ after w lead → second ≡ after first (node ++ end) → later ≡ after second rest →
    later ≡ after w (((lead ++ node) ++ end) ++ rest)
first_line w first second later lead node end rest e f g =
    g ∙ ap (λ v. after v rest) (f ∙ ap (λ v. after v (node ++ end)) e ∙ line_end w lead node end)
    ∙ chained w ((lead ++ node) ++ end) rest

pub ruleset pieces = (chained, nothing, length-map)

pub ruleset numbers = (nothing, numbered_text, unnumbered_text)
