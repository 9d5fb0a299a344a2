-- The canonical text of the workload's plain form, part by part.
use Rattle.std.proofs.Common.{◌≡◌, ℕ, ℤ, pos, List, [], ◌∷◌, ◌++◌, refl, ap, ◌∙◌, sym, codes, arith, ◌≤◌, append-nil, append_assoc}
use Rattle.rn_value.specs.Text.{numeral, whole_number}
use Rattle.rn_value.proofs.Numerals.{numeral_digit, decimal-numeral}
use Rattle.rn_notation.specs.declared.token.Token.{Token}
use Rattle.rn_model.specs.declared.expr.OpKind.TheVariants.{Add, Sub}
use Rattle.rn_model.specs.declared.expr.CompareKind.{CompareKind}
use Rattle.rn_model.specs.declared.expr.CompareKind.TheVariants.{Less, Greater}
use Rattle.rn_inscript.specs.declared.exprs.PExpr.{PExpr}
use Rattle.rn_inscript.specs.declared.exprs.PForm.TheVariants as F
use Rattle.rn_inscript.specs.declared.conds.PCond.{fold-roll-PCond}
use Rattle.rn_inscript.specs.declared.conds.PSimple.{fold_out-PSimple}
use Rattle.rn_inscript.specs.declared.conds.PSimple.TheVariants as S
use Rattle.rn_net.specs.declared.kinds.PKindForm.TheVariants as K
use Rattle.rn_net.specs.declared.constants.PConstForm.TheVariants as C
use Rattle.rn_net.specs.Kinds.{kind_at}
use Rattle.rn_net.specs.Constants.{constant_at}
use Rattle.rn_print.specs.Kinds.{kind_text}
use Rattle.rn_print.specs.Constants.{constant_text}
use Rattle.rn_print.specs.Expressions.{operand_text, expr_text}
use Rattle.rn_print.specs.Conditions.{cond_text, simple_text, simple_step, cond_step, comparison}
use Rattle.rn_print.specs.Nets.{channel_text, var_text, place_text, transition_text, net_text, canonical_text}
use Rattle.rn_print.proofs.SpelledKinds as Kinds
use Rattle.rn_print.proofs.SpelledConstants as Constants
use Rattle.rn_print.proofs.ExpressionTexts.{text-at, text-Int, text-Name, text-Op}
use Rattle.rn_gen.specs.Workload.{lines, workload, start_text, rest_text}
use Rattle.rn_gen.proofs.Streams.{past}
use Rattle.rn_gen.proofs.Forms.{Stream, var_at, int_at, compared, go_channel, done_channel, int_var, net_var, int_place, net_place, make, step, finish, go_on, be_done, main, worker, workload_form}

-- kinds, constants, operands and guards
int_kind : (t : Token) → kind_text (kind_at t.spot K.Int) ≡ codes "int"
int_kind t = Kinds.text-at t.spot K.Int ∙ Kinds.out K.Int ∙ rw K.outs-Int refl

net_kind : (t : Token) → kind_text (kind_at t.spot K.Net) ≡ codes "net"
net_kind t = Kinds.text-at t.spot K.Net ∙ Kinds.out K.Net ∙ rw K.outs-Net refl

int_constant : (t : Token) (z : ℤ) → constant_text (constant_at t.spot (C.Int z)) ≡ whole_number z
int_constant t z = Constants.text-at t.spot (C.Int z) ∙ Constants.out (C.Int z) ∙ rw (C.outs-Int z) refl

word_text : (t : Token) (x : List ℕ) (least : ℕ) → operand_text (var_at t x) least ≡ x
word_text t x least = text-at t.spot (F.Name x) least ∙ text-Name x least

int_text : (t : Token) (n least : ℕ) → operand_text (int_at t n) least ≡ numeral n
int_text t n least = text-at t.spot (F.Int (pos n)) least ∙ text-Int (pos n) least

compared_text : (kind : CompareKind) (a b : PExpr) →
    cond_text (compared kind a b) ≡ expr_text a ++ comparison kind ++ expr_text b
compared_text kind a b =
    fold-roll-PCond (List ℕ) (List ℕ) simple_step cond_step
    (record { any = (S.Compare kind a b ∷ []) ∷ [] })
    ∙ append-nil (simple_text (S.Compare kind a b) ++ [])
    ∙ append-nil (simple_text (S.Compare kind a b))
    ∙ fold_out-PSimple (List ℕ) (List ℕ) simple_step cond_step (S.Compare kind a b)
    ∙ rw (S.outs-Compare kind a b) refl

-- declarations
go_text : (at : Stream) → channel_text (go_channel at) ≡ codes "channel go(int);\n"
unfolding go_channel
go_text at = rw (int_kind (at 3)) refl

int_var_text : (x : List ℕ) (at : Stream) →
    var_text (int_var x at) ≡ codes "  var " ++ x ++ codes ": " ++ codes "int" ++ codes ";\n"
int_var_text x at = rw (int_kind (at 3)) refl

net_var_text : (x : List ℕ) (at : Stream) →
    var_text (net_var x at) ≡ codes "  var " ++ x ++ codes ": " ++ codes "net" ++ codes ";\n"
net_var_text x at = rw (net_kind (at 3)) refl

int_place_text : (p : List ℕ) (z : ℤ) (digits : List ℕ) (at : Stream) → whole_number z ≡ digits →
    place_text (int_place p z at)
    ≡ codes "  place " ++ p ++ codes ": " ++ codes "int" ++ [] ++ (codes " = " ++ digits)
    ++ codes ";\n"
int_place_text p z digits at e =
    rw (int_kind (at 3), int_constant (at 5) z, append-nil (whole_number z), e) refl

net_place_text : (p : List ℕ) (at : Stream) →
    place_text (net_place p at)
    ≡ codes "  place " ++ p ++ codes ": " ++ codes "net" ++ [] ++ [] ++ codes ";\n"
net_place_text p at = rw (net_kind (at 3)) refl

-- transitions
make_lines : List (List ℕ)
make_lines =
    codes "  trans make {"
    ∷ codes "    in c: n;"
    ∷ codes "    guard n > 0;"
    ∷ codes "    w: new worker;"
    ∷ codes "    out c: n - 1;"
    ∷ codes "    out busy: w;"
    ∷ codes "  }"
    ∷ []

make_text : (at : Stream) → transition_text 1 (make at) ≡ lines make_lines
unfolding make make_lines
make_text at =
    rw (
      word_text (at 6) (codes "n") 0,
      compared_text Greater (var_at (at 9) (codes "n")) (int_at (at 11) 0),
      word_text (at 9) (codes "n") 0,
      int_text (at 11) 0 0,
      text-at (at 21).spot (F.Op Sub (var_at (at 21) (codes "n")) (int_at (at 23) 1)) 0,
      text-Op Sub (var_at (at 21) (codes "n")) (int_at (at 23) 1) 0,
      word_text (at 21) (codes "n") 1,
      int_text (at 23) 1 2,
      word_text (at 28) (codes "w") 0,
      numeral_digit 0 (omega arith),
      numeral_digit 1 (omega arith),
    ) refl

step_lines : List (List ℕ)
step_lines =
    codes "  trans step {"
    ∷ codes "    in busy: w;"
    ∷ codes "    w:go(k);"
    ∷ codes "    out busy: w;"
    ∷ codes "  }"
    ∷ []

step_text : (at : Stream) → transition_text 1 (step at) ≡ lines step_lines
unfolding step step_lines
step_text at =
    rw (
      word_text (at 6) (codes "w") 0,
      word_text (at 8) (codes "w") 0,
      word_text (at 12) (codes "k") 0,
      word_text (at 18) (codes "w") 0,
    ) refl

finish_lines : List (List ℕ)
finish_lines =
    codes "  trans finish {"
    ∷ codes "    in busy: w;"
    ∷ codes "    w:done();"
    ∷ codes "  }"
    ∷ []

finish_text : (at : Stream) → transition_text 1 (finish at) ≡ lines finish_lines
unfolding finish finish_lines
finish_text at = rw (word_text (at 6) (codes "w") 0, word_text (at 8) (codes "w") 0) refl

go_on_lines : List (List ℕ)
go_on_lines =
    codes "  trans go {"
    ∷ codes "    :go(k);"
    ∷ codes "    in s: k;"
    ∷ codes "    guard k < 3;"
    ∷ codes "    out s: k + 1;"
    ∷ codes "  }"
    ∷ []

go_on_text : (at : Stream) → transition_text 1 (go_on at) ≡ lines go_on_lines
unfolding go_on go_on_lines
go_on_text at =
    rw (
      word_text (at 6) (codes "k") 0,
      word_text (at 12) (codes "k") 0,
      compared_text Less (var_at (at 15) (codes "k")) (int_at (at 17) 3),
      word_text (at 15) (codes "k") 0,
      int_text (at 17) 3 0,
      text-at (at 22).spot (F.Op Add (var_at (at 22) (codes "k")) (int_at (at 24) 1)) 0,
      text-Op Add (var_at (at 22) (codes "k")) (int_at (at 24) 1) 0,
      word_text (at 22) (codes "k") 1,
      int_text (at 24) 1 2,
      numeral_digit 3 (omega arith),
      numeral_digit 1 (omega arith),
    ) refl

be_done_lines : List (List ℕ)
be_done_lines =
    codes "  trans done {"
    ∷ codes "    :done();"
    ∷ codes "    in s: 3;"
    ∷ codes "  }"
    ∷ []

be_done_text : (at : Stream) → transition_text 1 (be_done at) ≡ lines be_done_lines
unfolding be_done be_done_lines
be_done_text at = rw (int_text (at 11) 3 0, numeral_digit 3 (omega arith)) refl

-- the two nets, and the whole text
main_lines : List (List ℕ)
main_lines =
    codes ";" ∷ codes "  place busy: net;"
    ∷ (make_lines ++ step_lines ++ finish_lines ++ codes "}" ∷ [])

after_word : (word a b c d : List ℕ) →
    word ++ a ++ b ++ c ++ d ≡ word ++ (a ++ (b ++ (c ++ d)))
after_word word a b c d =
    append_assoc (word ++ a ++ b) c d ∙ append_assoc (word ++ a) b (c ++ d)
    ∙ append_assoc word a (b ++ (c ++ d))

main_text : (z : ℤ) (at : Stream) →
    net_text 1 (main z at)
    ≡ codes "net main {\n  var n: int;\n  var k: int;\n  var w: net;\n  place c: int = "
    ++ (whole_number z ++ lines main_lines)
unfolding main main_lines make_lines step_lines finish_lines
main_text z at =
    (λ i. codes "net main {\n"
    ++ (int_var_text (codes "n") (past 3 at) i
    ++ (int_var_text (codes "k") (past 8 at) i ++ (net_var_text (codes "w") (past 13 at) i ++ [])))
    ++ (int_place_text (codes "c") z (whole_number z) (past 18 at) refl i
    ++ (net_place_text (codes "busy") (past 25 at) i ++ []))
    ++ (make_text (past 30 at) i ++ (step_text (past 61 at) i ++ (finish_text (past 82 at) i ++ [])))
    ++ codes "}\n")
    ∙ ap (λ t. codes "net main {\n  var n: int;\n  var k: int;\n  var w: net;\n  place c: int = " ++ t)
    (after_word (whole_number z) (codes ";\n") (codes "  place busy: net;\n")
    (lines (make_lines ++ step_lines ++ finish_lines)) (codes "}\n"))

worker_lines : List (List ℕ)
worker_lines =
    codes "net worker {" ∷ codes "  var k: int;" ∷ codes "  place s: int = 0;"
    ∷ (go_on_lines ++ be_done_lines ++ codes "}" ∷ [])

worker_text : (at : Stream) → net_text 1 (worker at) ≡ lines worker_lines
unfolding worker worker_lines go_on_lines be_done_lines
worker_text at =
    (λ i. codes "net worker {\n" ++ (int_var_text (codes "k") (past 3 at) i ++ [])
    ++ (int_place_text (codes "s") (pos 0) (codes "0") (past 8 at) (numeral_digit 0 (omega arith)) i ++ [])
    ++ (go_on_text (past 15 at) i ++ (be_done_text (past 42 at) i ++ [])) ++ codes "}\n")

text_of : (z : ℤ) (at : Stream) →
    canonical_text (workload_form z at) ≡ start_text ++ whole_number z ++ rest_text
unfolding workload_form done_channel main_lines make_lines step_lines finish_lines worker_lines go_on_lines be_done_lines
text_of z at =
    (λ i. (go_text at i ++ (codes "channel done();\n" ++ []))
    ++ (main_text z (past 11 at) i ++ (worker_text (past 109 at) i ++ [])))
    ∙ ap (λ t. start_text ++ t)
    (append_assoc (whole_number z) (lines main_lines) (lines worker_lines))

pub is_canonical : (n : ℕ) (at : Stream) → n ≤ 10000 →
    canonical_text (workload_form (pos n) at) ≡ workload n
is_canonical n at most =
    text_of (pos n) at
    ∙ ap (λ digits. start_text ++ digits ++ rest_text) (sym (decimal-numeral n (omega arith)))
