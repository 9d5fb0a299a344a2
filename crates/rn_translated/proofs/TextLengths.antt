-- How long the canonical text of the translation is.
use Rattle.std.proofs.Common.{◌≡◌, ℕ, zero, suc, ◌+◌, ◌-◌, ◌*◌, ◌<◌, ◌≤◌, List, [], ◌∷◌, ◌++◌, length, map, codes, refl, sym, subst, ap, ◌∙◌, arith}
use Rattle.std.specs.Prelude.{◌≢◌, All, Bool, true, false, Some, get_or, nat_eq, nat_lt, replicate, sum_by, flat_map, if◌then◌else◌}
use Rattle.std.proofs.lemmas.Bool.{lt-ltb}
use Rattle.std.proofs.lemmas.List.{append_assoc, length-append}
use Rattle.std.proofs.lemmas.List.Elements.{All-head, All-tail}
use Rattle.std.proofs.lemmas.List.Sums.{sum_by-cons}
use borrow.Author.Tests.{ne_eqb}
use Rattle.rn_model.specs.declared.system.ArcKind.{ArcKind}
use Rattle.rn_model.specs.declared.system.ArcKind.TheVariants.{FlexInput, FlexOutput, Inhibit, Input, Output}
use Rattle.rn_inscript.specs.declared.exprs.PForm.TheVariants as F
use Rattle.rn_inscript.specs.declared.inscriptions.PInscribed.TheVariants as I
use Rattle.rn_inscript.specs.declared.inscriptions.PInscription.{PInscription}
use Rattle.rn_net.specs.declared.kinds.PKindForm.TheVariants as K
use Rattle.rn_net.specs.declared.constants.PConstForm.TheVariants as C
use Rattle.rn_net.specs.Kinds.{kind_at}
use Rattle.rn_print.specs.Constants.{constant_text}
use Rattle.rn_print.specs.Expressions.{Operand, alone, expr_text, operand_text}
use Rattle.rn_print.specs.Kinds.{kind_text}
use Rattle.rn_print.specs.Inscriptions.{inscribed_text}
use Rattle.rn_print.specs.Nets.{initial_text, inscriptions_text, later_text, net_text, place_text, transition_text}
use Rattle.rn_print.proofs.ExpressionTexts as Expressions
use Rattle.rn_print.proofs.SpelledConstants as Constants
use Rattle.rn_print.proofs.SpelledKinds as Kinds
use Rattle.rn_weighted.specs.declared.weighted.WPlace.{WPlace}
use Rattle.rn_weighted.specs.declared.weighted.WTransition.{WTransition}
use Rattle.rn_weighted.specs.declared.weighted.WArc.{WArc}
use Rattle.rn_weighted.specs.Weighted.{IsWArc, IsWArcKind, IsWPlace, IsWTransition}
use Rattle.rn_weighted.specs.TextLength.{arc_length, black_length, initial_length, inscription_length, place_length, transition_length, word_length}
use Rattle.rn_translated.specs.AcceptedLaws.{TextsHaveTheirLength}
use Rattle.rn_translated.specs.Translation.{arc_at, black_expr, black_list, black_token, first, named, place_name, plain_arc, plain_net, plain_place, plain_transition}
use Rattle.rn_translated.proofs.ArcDemands.{by_kind}

-- an inscription on a line of its own, as all are in notation 1
abbrev inscription_line : PInscription → List ℕ
inscription_line i = codes "    " ++ inscribed_text i.form ++ codes ";\n"

later_lines : (before : PInscription) (items : List PInscription) →
    later_text 1 before items ≡ codes ";\n" ++ flat_map inscription_line items
later_lines before [] = refl
later_lines before (i ∷ items) =
    let text = inscribed_text i.form in
    ap (λ more. codes ";\n    " ++ text ++ more) (later_lines i items)
    ∙ ap (λ t. codes ";\n    " ++ t)
    (sym (append_assoc text (codes ";\n") (flat_map inscription_line items)))

all_lines : (items : List PInscription) →
    inscriptions_text 1 items ≡ flat_map inscription_line items
all_lines [] = refl
all_lines (i ∷ items) =
    let text = codes "    " ++ inscribed_text i.form in
    ap (λ more. text ++ more) (later_lines i items)
    ∙ sym (append_assoc text (codes ";\n") (flat_map inscription_line items))

-- the texts of black tokens
black_constant : constant_text black_token ≡ codes "[]"
black_constant = Constants.text-at first (C.Tuple []) ∙ Constants.text-Tuple []

black_kind : kind_text (kind_at first (K.Tuple [])) ≡ codes "[]"
black_kind = Kinds.text-at first (K.Tuple []) ∙ Kinds.text-Tuple []

black_alone : expr_text black_expr ≡ codes "[]"
black_alone = Expressions.text-at first (F.Tuple []) 0 ∙ Expressions.text-Tuple [] 0

-- the lengths of texts one after another
of_three : (a b c : List ℕ) → length (a ++ b ++ c) ≡ length a + length b + length c
of_three a b c = length-append (a ++ b) c ∙ ap (λ n. n + length c) (length-append a b)

of_four : (a b c d : List ℕ) → length (a ++ b ++ c ++ d) ≡ length a + length b + length c + length d
of_four a b c d = length-append (a ++ b ++ c) d ∙ ap (λ n. n + length d) (of_three a b c)

of_five : (a b c d e : List ℕ) →
    length (a ++ b ++ c ++ d ++ e) ≡ length a + length b + length c + length d + length e
of_five a b c d e = length-append (a ++ b ++ c ++ d) e ∙ ap (λ n. n + length e) (of_four a b c d)

of_six : (a b c d e f : List ℕ) →
    length (a ++ b ++ c ++ d ++ e ++ f)
    ≡ length a + length b + length c + length d + length e + length f
of_six a b c d e f =
    length-append (a ++ b ++ c ++ d ++ e) f ∙ ap (λ n. n + length f) (of_five a b c d e)

of_seven : (a b c d e f g : List ℕ) →
    length (a ++ b ++ c ++ d ++ e ++ f ++ g)
    ≡ length a + length b + length c + length d + length e + length f + length g
of_seven a b c d e f g =
    length-append (a ++ b ++ c ++ d ++ e ++ f) g ∙ ap (λ n. n + length g) (of_six a b c d e f)

-- texts of elements one after another, where that of each has its length
sum_each : {X Y : Type 0} (P : X → Type 0) (m : X → Y) (f : Y → List ℕ) (g : X → ℕ) →
    ((x : X) → P x → length (f (m x)) ≡ g x) → (xs : List X) → All P xs →
    length (flat_map f (map m xs)) ≡ sum_by g xs
sum_each P m f g each [] all = refl
sum_each P m f g each (x ∷ xs) all =
    length-append (f (m x)) (flat_map f (map m xs))
    ∙ ap (λ n. n + length (flat_map f (map m xs))) (each x (All-head P x xs all))
    ∙ ap (λ n. g x + n) (sum_each P m f g each xs (All-tail P x xs all))
    ∙ sym (sum_by-cons g x xs)

-- the tokens of a place after its first
abbrev later_texts : ℕ → List ℕ
later_texts k =
    flat_map (λ (y : List ℕ). codes ", " ++ y) (map constant_text (replicate k black_token))

later_tokens : (k : ℕ) → length (later_texts k) ≡ k * 4
later_tokens zero = refl
later_tokens (suc k) =
    length-append (codes ", " ++ constant_text black_token) (later_texts k)
    ∙ ap (λ t. length (codes ", " ++ t) + length (later_texts k)) black_constant
    ∙ more k (length (later_texts k)) (later_tokens k)
  where
    more : (k n : ℕ) → n ≡ k * 4 → 4 + n ≡ suc k * 4
    more k n is = omega (arith, is)

initial_has : (n : ℕ) → length (initial_text (replicate n black_token)) ≡ initial_length n
initial_has zero = refl
initial_has (suc k) =
    length-append (codes " = ") (constant_text black_token ++ later_texts k)
    ∙ ap (λ n. 3 + n) (length-append (constant_text black_token) (later_texts k))
    ∙ ap (λ t. 3 + (length t + length (later_texts k))) black_constant
    ∙ all k (length (later_texts k)) (later_tokens k)
    ∙ ap (λ none. if none then 0 else 3 + black_length 2 (suc k))
    (sym (ne_eqb (suc k) 0 (λ e. let no : ⊥ = omega (arith, e) in no)))
  where
    all : (k n : ℕ) → n ≡ k * 4 → 3 + (2 + n) ≡ 3 + (suc k * 2 + (suc k - 1) * 2)
    all k n is = omega (arith, is)

-- the elements of a list after its first
abbrev later_parts : ℕ → List ℕ
later_parts k =
    flat_map (λ (y : Operand). codes "," ++ alone y) (map operand_text (replicate k black_expr))

later_elements : (k : ℕ) → length (later_parts k) ≡ k * 3
later_elements zero = refl
later_elements (suc k) =
    length-append (codes "," ++ expr_text black_expr) (later_parts k)
    ∙ ap (λ t. length (codes "," ++ t) + length (later_parts k)) black_alone
    ∙ more k (length (later_parts k)) (later_elements k)
  where
    more : (k n : ℕ) → n ≡ k * 3 → 3 + n ≡ suc k * 3
    more k n is = omega (arith, is)

list_has : (k : ℕ) → length (expr_text (black_list (suc k))) ≡ 2 + black_length 1 (suc k)
list_has k =
    ap length
    (Expressions.text-at first (F.List (replicate (suc k) black_expr)) 0
    ∙ Expressions.text-List (replicate (suc k) black_expr) 0)
    ∙ of_three (codes "{") (expr_text black_expr ++ later_parts k) (codes "}")
    ∙ ap (λ n. 1 + n + 1) (length-append (expr_text black_expr) (later_parts k))
    ∙ ap (λ t. 1 + (length t + length (later_parts k)) + 1) black_alone
    ∙ all k (length (later_parts k)) (later_elements k)
  where
    all : (k n : ℕ) → n ≡ k * 3 → 1 + (2 + n) + 1 ≡ 2 + (suc k * 2 + (suc k - 1) * 1)
    all k n is = omega (arith, is)

-- the name of a place by its number
name_has : (places : List WPlace) (n : ℕ) →
    place_name places n ≡ get_or (map (λ p. p.name) places) n []
name_has [] n = refl
name_has (p ∷ places) zero = refl
name_has (p ∷ places) (suc n) = name_has places n

-- the line of an arc, by the length of its word and of its inscription
line_has : (word name text : List ℕ) (w t : ℕ) → length word ≡ w → length text ≡ t →
    length (codes "    " ++ (word ++ name ++ (codes ": " ++ text)) ++ codes ";\n")
    ≡ 4 + w + length name + 2 + t + 2
line_has word name text w t of_word of_text =
    of_three (codes "    ") (word ++ name ++ (codes ": " ++ text)) (codes ";\n")
    ∙ ap (λ k. 4 + k + 2)
    (of_three word name (codes ": " ++ text)
    ∙ ap (λ k. length word + length name + k) (length-append (codes ": ") text))
    ∙ all (length word) (length name) (length text) of_word of_text
  where
    all : (i n k : ℕ) → i ≡ w → k ≡ t → 4 + (i + n + (2 + k)) + 2 ≡ 4 + w + n + 2 + t + 2
    all i n k a b = omega (arith, a, b)

abbrev LineHas : ℕ → ℕ → List ℕ → ArcKind → Type 0
LineHas place w name kind =
    length (inscription_line (record {
      form = arc_at (named name) (record { kind = kind; place = place; weight = w });
      spot = first;
    }))
    ≡ 4 + word_length kind w + length name + 2 + inscription_length w + 2

-- the same, by whether the weight is above 1 and whether it is 1
abbrev LineBy : ArcKind → ArcKind → ℕ → ℕ → List ℕ → ℕ → Bool → Bool → Type 0
LineBy list plain long short name w more one =
    length (inscription_line (record {
      form =
          if more then I.Arc list (named name) (Some (black_list w))
          else I.Arc plain (named name) (Some black_expr);
      spot = first;
    }))
    ≡ 4 + (if one then short else long) + length name + 2
    + (if one then 2 else 2 + black_length 1 w) + 2

line_by : (list plain : ArcKind) (long short : ℕ) (name : List ℕ) (w : ℕ) → 1 < w →
    LineBy list plain long short name w true false →
    LineBy list plain long short name w (nat_lt 1 w) (nat_eq w 1)
line_by list plain long short name w more line =
    subst (λ b. LineBy list plain long short name w b (nat_eq w 1)) (sym (lt-ltb 1 w more))
    (subst (λ b. LineBy list plain long short name w true b)
    (sym (ne_eqb w 1 (λ e. let no : ⊥ = omega (arith, e, more) in no))) line)

arc_text_has : (kind : ArcKind) (place w : ℕ) (name : List ℕ) → IsWArcKind kind → 1 ≤ w →
    (kind ≡ Inhibit → w ≡ 1) → LineHas place w name kind
arc_text_has kind place zero name is some inhibits = absurd (let no : ⊥ = omega (arith, some) in no)
arc_text_has kind place (suc zero) name is some inhibits =
    let one = ap length black_alone in
    by_kind (LineHas place 1 name) kind is
    (line_has (codes "in ") name (expr_text black_expr) 3 2 refl one)
    (line_has (codes "out ") name (expr_text black_expr) 4 2 refl one)
    (line_has (codes "inhibit ") name (expr_text black_expr) 8 2 refl one)
arc_text_has kind place (suc (suc k)) name is some inhibits =
    let list = expr_text (black_list (suc (suc k))) in
    let all = list_has (suc k) in
    by_kind (λ a. a ≢ Inhibit → LineHas place (suc (suc k)) name a) kind is
    (λ no. line_by FlexInput Input 7 3 name (suc (suc k)) (omega arith)
    (line_has (codes "flexin ") name list 7 (2 + black_length 1 (suc (suc k))) refl all))
    (λ no. line_by FlexOutput Output 8 4 name (suc (suc k)) (omega arith)
    (line_has (codes "flexout ") name list 8 (2 + black_length 1 (suc (suc k))) refl all))
    (λ no. absurd (no refl))
    (λ e. let one = inhibits e in let no : ⊥ = omega (arith, one) in no)

arc_has : (places : List WPlace) (arc : WArc) → IsWArc (length places) arc →
    length (inscription_line (plain_arc places arc)) ≡ arc_length (map (λ p. p.name) places) arc
arc_has places arc good =
    arc_text_has arc.kind arc.place arc.weight (place_name places arc.place) good.kind good.some
    good.inhibits
    ∙ ap
    (λ name.
    4 + word_length arc.kind arc.weight + length name + 2 + inscription_length arc.weight + 2)
    (name_has places arc.place)

place_has : (p : WPlace) → length (place_text (plain_place p)) ≡ place_length p
place_has p =
    of_seven (codes "  place ") p.name (codes ": ") (kind_text (kind_at first (K.Tuple []))) []
    (initial_text (replicate p.initial black_token)) (codes ";\n")
    ∙ ap
    (λ t.
    8 + length p.name + 2 + length t + 0
    + length (initial_text (replicate p.initial black_token)) + 2)
    black_kind
    ∙ all (length p.name) (length (initial_text (replicate p.initial black_token)))
    (initial_length p.initial) (initial_has p.initial)
  where
    all : (n i j : ℕ) → i ≡ j → 8 + n + 2 + 2 + 0 + i + 2 ≡ 8 + n + 4 + j + 2
    all n i j is = omega (arith, is)

transition_has : (places : List WPlace) (t : WTransition) → IsWTransition (length places) t →
    length (transition_text 1 (plain_transition places t))
    ≡ transition_length (map (λ p. p.name) places) t
transition_has places t good =
    ap (λ lines. length (codes "  trans " ++ t.name ++ codes " {\n" ++ lines ++ codes "  }\n"))
    (all_lines (map (plain_arc places) t.arcs))
    ∙ of_five (codes "  trans ") t.name (codes " {\n")
    (flat_map inscription_line (map (plain_arc places) t.arcs)) (codes "  }\n")
    ∙ ap (λ n. 8 + length t.name + 3 + n + 4)
    (sum_each (IsWArc (length places)) (plain_arc places) inscription_line
    (arc_length (map (λ p. p.name) places)) (arc_has places) t.arcs good.arcs)

pub texts_have_their_length : TextsHaveTheirLength
texts_have_their_length net good =
    let names = map (λ (p : WPlace). p.name) net.places in
    length-append (net_text 1 (plain_net net)) []
    ∙ ap (λ n. n + 0)
    (of_seven (codes "net ") (codes "main") (codes " {\n") []
    (flat_map place_text (map plain_place net.places))
    (flat_map (transition_text 1) (map (plain_transition net.places) net.transitions)) (codes "}\n"))
    ∙ all (length (flat_map place_text (map plain_place net.places)))
    (sum_by place_length net.places)
    (length (flat_map (transition_text 1) (map (plain_transition net.places) net.transitions)))
    (sum_by (transition_length names) net.transitions)
    (sum_each IsWPlace plain_place place_text place_length (λ p is. place_has p) net.places
    good.places)
    (sum_each (IsWTransition (length net.places)) (plain_transition net.places) (transition_text 1)
    (transition_length names) (transition_has net.places) net.transitions good.transitions)
  where
    all : (i a j b : ℕ) → i ≡ a → j ≡ b → 4 + 4 + 3 + 0 + i + j + 2 + 0 ≡ 11 + a + b + 2
    all i a j b is also = omega (arith, is, also)
