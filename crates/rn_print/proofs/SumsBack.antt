-- The text of a sum or a product is read back, where the texts of its sides are.
use Rattle.std.proofs.Common.{◌≡◌, ℕ, suc, true, List, ◌∷◌, ◌++◌, refl, sym, ap, ◌∙◌, subst, arith}
use Rattle.std.proofs.lemmas.Bool.Decides.{nat_tests}
use Rattle.std.proofs.lemmas.Grind.{common_steps}
use Rattle.std.specs.Prelude.{codes, nat_lt, if◌then◌else◌, Some}
use Rattle.rn_notation.specs.Words.{signs}
use Rattle.rn_notation.specs.Tokens.{IsToken}
use Rattle.rn_notation.specs.Reading.{token_after}
use Rattle.rn_notation.specs.declared.token.Spot.{Spot}
use Rattle.rn_notation.specs.declared.token.Token.{Token}
use Rattle.rn_notation.specs.declared.token.TokenKind.{TokenKind}
use Rattle.rn_notation.specs.declared.token.TokenKind.TheVariants.{Name, Word, Number, Text, Sign}
use Rattle.rn_model.specs.declared.expr.OpKind.{OpKind}
use Rattle.rn_model.specs.declared.expr.OpKind.TheVariants.{Add, Sub, Mul, Div, Rem}
use Rattle.rn_inscript.specs.declared.exprs.PExpr.{PExpr, out-PExpr}
use Rattle.rn_inscript.specs.declared.exprs.PForm.TheVariants as F
use Rattle.rn_inscript.specs.Signs.{plus_of, times_of}
use Rattle.rn_inscript.specs.Expressions.{at_spot, joined, IsExpr, IsTerms, IsProduct, IsFactors, IsUnary}
use Rattle.rn_print.specs.Pieces.{in_parentheses}
use Rattle.rn_print.specs.Expressions.{operand_text, operator, strength}
use Rattle.rn_print.specs.SameButSpots.{expr_unplaced}
use Rattle.rn_print.proofs.Trees.{both, bytes_in, tokens_in}
use Rattle.rn_print.proofs.LeftOut.{LeftOut, is_plain}
use Rattle.rn_print.proofs.Atoms.{Spaced, spaced, spaced_stands}
use Rattle.rn_print.proofs.Separated.{Phrases}
use Rattle.rn_print.proofs.ExpressionTexts.{text-at, text-Op, bare-Op}
use Rattle.rn_print.proofs.ExpressionBack.{ReadsAs, Back, ProductBack, SumBack, product_of, expr_of, as_text, in_parens, no_parens, same_form}

-- a sum goes on with one more product, and a product with one more factor
terms_more : {a e b : PExpr} {op : OpKind} {t : Token} {ts us rest : List Token} →
    IsTerms a ts e (t ∷ us) → plus_of t.kind ≡ Some op → IsProduct us b rest →
    IsTerms a ts (joined op e b) rest
terms_more IsTerms.no_more_terms h y = IsTerms.more_terms h y IsTerms.no_more_terms
terms_more (IsTerms.more_terms k x m) h y = IsTerms.more_terms k x (terms_more m h y)

sum_more : {e b : PExpr} {op : OpKind} {t : Token} {ts us rest : List Token} →
    IsExpr ts e (t ∷ us) → plus_of t.kind ≡ Some op → IsProduct us b rest →
    IsExpr ts (joined op e b) rest
sum_more (IsExpr.sum x m) h y = IsExpr.sum x (terms_more m h y)

factors_more : {a e b : PExpr} {op : OpKind} {t : Token} {ts us rest : List Token} →
    IsFactors a ts e (t ∷ us) → times_of t.kind ≡ Some op → IsUnary us b rest →
    IsFactors a ts (joined op e b) rest
factors_more IsFactors.no_more_factors h y = IsFactors.more_factors h y IsFactors.no_more_factors
factors_more (IsFactors.more_factors k x m) h y = IsFactors.more_factors k x (factors_more m h y)

product_more : {e b : PExpr} {op : OpKind} {t : Token} {ts us rest : List Token} →
    IsProduct ts e (t ∷ us) → times_of t.kind ≡ Some op → IsUnary us b rest →
    IsProduct ts (joined op e b) rest
product_more (IsProduct.product x m) h y = IsProduct.product x (factors_more m h y)

-- the number and the bytes of an operator's sign
abbrev op_sign : OpKind → ℕ
op_sign Add = 16
op_sign Sub = 17
op_sign Mul = 18
op_sign Div = 19
op_sign Rem = 20

abbrev op_bytes : OpKind → List ℕ
op_bytes Add = codes "+"
op_bytes Sub = codes "-"
op_bytes Mul = codes "*"
op_bytes Div = codes "/"
op_bytes Rem = codes "%"

-- the sign of an operator: it stands, it is written so, and it is no operand
abbrev OpSign : OpKind → Type 0
OpSign op =
    Spaced (op_sign op) (op_bytes op)
    × (bytes_in (spaced (op_sign op) (op_bytes op)) ≡ operator op)
    × (is_plain (Sign (op_sign op)) ≡ true)

sign_of_op : (op : OpKind) → OpSign op
unfolding signs
sign_of_op Add = (λ rest. IsToken.sign refl refl refl, refl, refl)
sign_of_op Sub = (λ rest. IsToken.sign refl refl refl, refl, refl)
sign_of_op Mul = (λ rest. IsToken.sign refl refl refl, refl, refl)
sign_of_op Div = (λ rest. IsToken.sign refl refl refl, refl, refl)
sign_of_op Rem = (λ rest. IsToken.sign refl refl refl, refl, refl)

-- the token of an operator, by what it is, and how tightly it binds
abbrev IsOp : OpKind → TokenKind → ℕ → Type 0
IsOp op kind k = (kind ≡ Sign (op_sign op)) × (strength op ≡ k)

plus_number : (k : ℕ) (op : OpKind) → plus_of (Sign k) ≡ Some op → IsOp op (Sign k) 1
plus_number k Add h = (ap Sign (let e : k ≡ 16 = grind (arith, nat_tests, common_steps) in e), refl)
plus_number k Sub h = (ap Sign (let e : k ≡ 17 = grind (arith, nat_tests, common_steps) in e), refl)
plus_number k Mul h = absurd (let no : ⊥ = grind (arith, nat_tests, common_steps) in no)
plus_number k Div h = absurd (let no : ⊥ = grind (arith, nat_tests, common_steps) in no)
plus_number k Rem h = absurd (let no : ⊥ = grind (arith, nat_tests, common_steps) in no)

plus_kind : (kind : TokenKind) (op : OpKind) → plus_of kind ≡ Some op → IsOp op kind 1
plus_kind (Sign k) op h = plus_number k op h
plus_kind (Word k) op h = absurd (let no : ⊥ = cc in no)
plus_kind (Name s) op h = absurd (let no : ⊥ = cc in no)
plus_kind (Number n) op h = absurd (let no : ⊥ = cc in no)
plus_kind (Text s) op h = absurd (let no : ⊥ = cc in no)

times_number : (k : ℕ) (op : OpKind) → times_of (Sign k) ≡ Some op → IsOp op (Sign k) 2
times_number k Mul h = (ap Sign (let e : k ≡ 18 = grind (arith, nat_tests, common_steps) in e), refl)
times_number k Div h = (ap Sign (let e : k ≡ 19 = grind (arith, nat_tests, common_steps) in e), refl)
times_number k Rem h = (ap Sign (let e : k ≡ 20 = grind (arith, nat_tests, common_steps) in e), refl)
times_number k Add h = absurd (let no : ⊥ = grind (arith, nat_tests, common_steps) in no)
times_number k Sub h = absurd (let no : ⊥ = grind (arith, nat_tests, common_steps) in no)

times_kind : (kind : TokenKind) (op : OpKind) → times_of kind ≡ Some op → IsOp op kind 2
times_kind (Sign k) op h = times_number k op h
times_kind (Word k) op h = absurd (let no : ⊥ = cc in no)
times_kind (Name s) op h = absurd (let no : ⊥ = cc in no)
times_kind (Number n) op h = absurd (let no : ⊥ = cc in no)
times_kind (Text s) op h = absurd (let no : ⊥ = cc in no)

-- two sides of an operator, with spaces round it
joined_reads : (X Y : Phrases PExpr) (v : Token) (op : OpKind) (s : Spot) (a b : PExpr)
    (ta tb : List ℕ) (ts us ending : List Token) → v.kind ≡ Sign (op_sign op) →
    ((t : Token) (ts us rest : List Token) (c d : PExpr) → t.kind ≡ Sign (op_sign op) →
    X ts c (t ∷ us) → Y us d rest → X ts (joined op c d) rest) →
    ReadsAs X a ta ts (v ∷ us) → ReadsAs Y b tb us ending →
    ReadsAs X (at_spot s (F.Op op a b)) (ta ++ operator op ++ tb) ts ending
joined_reads X Y v op s a b ta tb ts us ending here more ra rb =
    let sign = spaced (op_sign op) (op_bytes op) in record {
      tree = both (both ra.tree sign) rb.tree;
      spells =
          ap (λ t. t ++ bytes_in sign ++ bytes_in rb.tree) ra.spells
          ∙ ap (λ t. ta ++ t ++ bytes_in rb.tree) (sign_of_op op).1
          ∙ ap (λ t. (ta ++ operator op) ++ t) rb.spells;
      stands = λ rest h.
          let right = bytes_in rb.tree ++ rest in (
            (
              ra.stands (bytes_in sign ++ right) refl,
              spaced_stands (op_sign op) (op_bytes op) right (sign_of_op op).0,
            ),
            rb.stands rest h,
          );
      means = λ before rest.
          let after = before ++ (bytes_in ra.tree ++ bytes_in sign) in
          let right = tokens_in after rb.tree rest in
          let t = token_after ((before ++ bytes_in ra.tree) ++ codes " ") (Sign (op_sign op)) (op_bytes op) in
          let n = rb.means after rest in
          let m = ra.means before (t ∷ right) in (
            joined op m.0 n.0,
            more t (tokens_in before ra.tree (t ∷ right)) right rest m.0 n.0 refl m.1 n.1,
            same_form (out-PExpr m.0).spot s (F.Op op m.0 n.0) (F.Op op a b)
                (bare-Op op m.0 n.0 ∙ ap (λ a. F.Op op a (expr_unplaced n.0)) m.2
                ∙ ap (λ b. F.Op op (expr_unplaced a) b) n.2 ∙ sym (bare-Op op a b)),
          );
      beside = λ before q xs x.
          let after = before ++ (bytes_in ra.tree ++ bytes_in sign) in
          let right = tokens_in after rb.tree xs in
          let t = token_after ((before ++ bytes_in ra.tree) ++ codes " ") (Sign (op_sign op)) (op_bytes op) in
          ra.beside before q (t ∷ right)
          (LeftOut.joining (sym here) (ap is_plain here ∙ (sign_of_op op).2) (rb.beside after q xs x));
    }

-- the text of an operation at each strength, where that of its operator is known
at_strength : (op : OpKind) (k : ℕ) → strength op ≡ k → (s : Spot) (a b : PExpr) (n : ℕ) →
    operand_text (at_spot s (F.Op op a b)) n
    ≡ (if nat_lt k n then in_parentheses (operand_text a k ++ operator op ++ operand_text b (suc k))
    else operand_text a k ++ operator op ++ operand_text b (suc k))
at_strength op k is s a b n =
    text-at s (F.Op op a b) n ∙ text-Op op a b n
    ∙ ap (λ k. if nat_lt k n
    then in_parentheses (operand_text a k ++ operator op ++ operand_text b (suc k))
    else operand_text a k ++ operator op ++ operand_text b (suc k)) is

pub sum_back : (v : Token) (op : OpKind) → plus_of v.kind ≡ Some op → (s : Spot) (a b : PExpr)
    (ts us ending : List Token) → SumBack a ts (v ∷ us) → ProductBack b us ending →
    SumBack (at_spot s (F.Op op a b)) ts ending
sum_back v op plus s a b ts us ending back next =
    let is = plus_kind v.kind op plus in
    let e = at_spot s (F.Op op a b) in
    let text = operand_text a 1 ++ operator op ++ operand_text b 2 in
    let at = at_strength op 1 is.1 s a b in
    let r = joined_reads IsExpr IsProduct v op s a b (operand_text a 1) (operand_text b 2) ts us ending
    is.0
    (λ t ts us rest c d h x y. sum_more x (ap plus_of (h ∙ sym is.0) ∙ plus) y) back.sum next.product in
    record {
      alone = as_text IsExpr e text (operand_text e 0) ts ending (at 0) r;
      sum = as_text IsExpr e text (operand_text e 1) ts ending (at 1) r;
      wrapped = λ t u left same h k.
          let inner = subst (ReadsAs IsExpr e text ts) same r in
          let open_text = no_parens IsExpr e text t u ts left h k inner in
          let closed = in_parens e text t u ts left h k inner in
          let whole = in_parentheses text in record {
            alone = as_text IsExpr e text (operand_text e 0) (t ∷ ts) left (at 0) open_text;
            sum = as_text IsExpr e text (operand_text e 1) (t ∷ ts) left (at 1) open_text;
            product = as_text IsProduct e whole (operand_text e 2) (t ∷ ts) left (at 2)
                (product_of e whole (t ∷ ts) left closed);
            unary = as_text IsUnary e whole (operand_text e 3) (t ∷ ts) left (at 3) closed;
          };
    }

pub times_back : (v : Token) (op : OpKind) → times_of v.kind ≡ Some op → (s : Spot) (a b : PExpr)
    (ts us ending : List Token) → ProductBack a ts (v ∷ us) → Back b us ending →
    ProductBack (at_spot s (F.Op op a b)) ts ending
times_back v op times s a b ts us ending back next =
    let is = times_kind v.kind op times in
    let e = at_spot s (F.Op op a b) in
    let text = operand_text a 2 ++ operator op ++ operand_text b 3 in
    let at = at_strength op 2 is.1 s a b in
    let r = joined_reads IsProduct IsUnary v op s a b (operand_text a 2) (operand_text b 3) ts us ending
    is.0
    (λ t ts us rest c d h x y. product_more x (ap times_of (h ∙ sym is.0) ∙ times) y) back.product next.unary in
    let x = expr_of e text ts ending r in
    record {
      alone = as_text IsExpr e text (operand_text e 0) ts ending (at 0) x;
      sum = as_text IsExpr e text (operand_text e 1) ts ending (at 1) x;
      product = as_text IsProduct e text (operand_text e 2) ts ending (at 2) r;
      wrapped = λ t u left same h k.
          let inner = subst (ReadsAs IsProduct e text ts) same r in
          let open_product = no_parens IsProduct e text t u ts left h k inner in
          let open_text = expr_of e text (t ∷ ts) left open_product in
          let closed = in_parens e text t u ts left h k (expr_of e text ts (u ∷ left) inner) in record {
            alone = as_text IsExpr e text (operand_text e 0) (t ∷ ts) left (at 0) open_text;
            sum = as_text IsExpr e text (operand_text e 1) (t ∷ ts) left (at 1) open_text;
            product = as_text IsProduct e text (operand_text e 2) (t ∷ ts) left (at 2) open_product;
            unary = as_text IsUnary e (in_parentheses text) (operand_text e 3) (t ∷ ts) left (at 3) closed;
          };
    }
