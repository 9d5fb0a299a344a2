-- The text of an expression is read back, by the forms of expressions.
use Rattle.std.proofs.Common.{◌≡◌, ℕ, pos, ◌≤◌, true, List, ◌∷◌, ◌++◌, map, refl, sym, ap, ◌∙◌, subst}
use Rattle.std.specs.Prelude.{codes}
use Rattle.rn_value.specs.Text.{numeral, quoted}
use Rattle.rn_notation.specs.Words.{greatest_number}
use Rattle.rn_value.specs.Words.{reserved_words}
use Rattle.rn_notation.specs.Tokens.{IsToken}
use Rattle.rn_notation.specs.Reading.{token, token_after}
use Rattle.rn_notation.specs.declared.token.Spot.{Spot}
use Rattle.rn_notation.specs.declared.token.Token.{Token}
use Rattle.rn_notation.specs.declared.token.TokenKind.{TokenKind}
use Rattle.rn_notation.specs.declared.token.TokenKind.TheVariants.{Name, Word, Number, Text, Sign}
use Rattle.rn_inscript.specs.declared.exprs.PExpr.{PExpr}
use Rattle.rn_inscript.specs.declared.exprs.PForm.{PForm}
use Rattle.rn_inscript.specs.declared.exprs.PForm.TheVariants as F
use Rattle.rn_inscript.specs.Signs.{comma, colon, minus, this_word, open_paren, close_paren, open_bracket, close_bracket, open_brace, close_brace}
use Rattle.rn_inscript.specs.Levels.{opens, closes}
use Rattle.rn_inscript.specs.Expressions.{at_spot, IsExpr, IsTerms, IsProduct, IsFactors, IsUnary, IsPrimary, IsListed, IsExprs, IsMoreExprs}
use Rattle.rn_print.specs.Pieces.{in_parentheses}
use Rattle.rn_print.specs.Expressions.{operand_text, row, alone}
use Rattle.rn_print.specs.SameButSpots.{expr_unplaced, first_spot}
use Rattle.rn_print.proofs.Trees.{Tree, piece, both, bytes_in, tokens_in, Stops, Reads, reads_by, reads_text}
use Rattle.rn_print.proofs.Atoms.{Legal, Anywhere, number_stands, name_stands, text_stands, open_paren_stands, close_paren_stands, open_bracket_stands, close_bracket_stands, open_brace_stands, close_brace_stands, comma_stands, colon_stands, minus_stands}
use Rattle.rn_print.proofs.LeftOut.{LeftOut, is_plain, is_operand}
use Rattle.rn_print.proofs.Beside.{Follows, First, Last, Opened, pushed, pushed_alone, inscribed}
use Rattle.rn_print.proofs.Separated.{Phrases, Separator, Rows, Row, Listed, some, closed}
use Rattle.rn_print.proofs.ExpressionTexts.{form_text, form_unplaced, text-at, text-Int, text-Text, text-Name, text-This, text-Step, text-Tuple, text-List, text-Cons, text-Neg, unplaced-at, bare-Tuple, bare-List, bare-Cons, bare-Neg}

-- the text is read back, beside these tokens of another text
abbrev pub ReadsAs : Phrases PExpr → PExpr → List ℕ → List Token → List Token → Type 0
ReadsAs X e text ts ending = Reads X expr_unplaced e text (Follows First Last ts ending)

-- The text of an expression is read back, as tightly as its place wants: beside its tokens in
-- another text it needs no more parentheses.
pub record Back (e : PExpr) (ts ending : List Token) : Type 0 where
  pub alone : ReadsAs IsExpr e (operand_text e 0) ts ending
  pub sum : ReadsAs IsExpr e (operand_text e 1) ts ending
  pub product : ReadsAs IsProduct e (operand_text e 2) ts ending
  pub unary : ReadsAs IsUnary e (operand_text e 3) ts ending

-- the same where the tokens stand in parentheses
abbrev pub Wrapped : PExpr → List Token → List Token → Type 0
Wrapped e ts ending = (t u : Token) (left : List Token) → ending ≡ u ∷ left →
    t.kind ≡ open_paren → u.kind ≡ close_paren → Back e (t ∷ ts) left

-- the same of what stands as a product, or as a sum: it may need parentheses in a tighter place
pub record ProductBack (e : PExpr) (ts ending : List Token) : Type 0 where
  pub alone : ReadsAs IsExpr e (operand_text e 0) ts ending
  pub sum : ReadsAs IsExpr e (operand_text e 1) ts ending
  pub product : ReadsAs IsProduct e (operand_text e 2) ts ending
  pub wrapped : Wrapped e ts ending

pub record SumBack (e : PExpr) (ts ending : List Token) : Type 0 where
  pub alone : ReadsAs IsExpr e (operand_text e 0) ts ending
  pub sum : ReadsAs IsExpr e (operand_text e 1) ts ending
  pub wrapped : Wrapped e ts ending

-- a sign that stands anywhere, as a tree
abbrev pub sign_tree : ℕ → List ℕ → Tree
sign_tree k sign = piece (token (Sign k) sign)

pub product_of : (e : PExpr) (text : List ℕ) (ts ending : List Token) →
    ReadsAs IsUnary e text ts ending → ReadsAs IsProduct e text ts ending
product_of e text ts ending =
    reads_by IsUnary IsProduct expr_unplaced e text (Follows First Last ts ending)
    (λ ts b rest x. IsProduct.product x IsFactors.no_more_factors)

pub expr_of : (e : PExpr) (text : List ℕ) (ts ending : List Token) →
    ReadsAs IsProduct e text ts ending → ReadsAs IsExpr e text ts ending
expr_of e text ts ending =
    reads_by IsProduct IsExpr expr_unplaced e text (Follows First Last ts ending)
    (λ ts b rest x. IsExpr.sum x IsTerms.no_more_terms)

unary_of : (e : PExpr) (text : List ℕ) (ts ending : List Token) →
    ReadsAs IsPrimary e text ts ending → ReadsAs IsUnary e text ts ending
unary_of e text ts ending =
    reads_by IsPrimary IsUnary expr_unplaced e text (Follows First Last ts ending)
    (λ ts b rest x. IsUnary.primary x)

-- an equal text
pub as_text : (X : Phrases PExpr) (e : PExpr) (text other : List ℕ) (ts ending : List Token) →
    other ≡ text → ReadsAs X e text ts ending → ReadsAs X e other ts ending
as_text X e text other ts ending same =
    reads_text X expr_unplaced e text other (Follows First Last ts ending) (sym same)

-- parentheses that both have, and parentheses that are left out
pub in_parens : (e : PExpr) (text : List ℕ) (t u : Token) (ts left : List Token) →
    t.kind ≡ open_paren → u.kind ≡ close_paren → ReadsAs IsExpr e text ts (u ∷ left) →
    ReadsAs IsUnary e (in_parentheses text) (t ∷ ts) left
in_parens e text t u ts left h k r = unary_of e (in_parentheses text) (t ∷ ts) left (record {
  tree = both (both (sign_tree 4 (codes "(")) r.tree) (sign_tree 5 (codes ")"));
  spells = ap (λ t. codes "(" ++ t ++ codes ")") r.spells;
  stands = λ rest h. (
    (open_paren_stands (bytes_in r.tree ++ (codes ")" ++ rest)), r.stands (codes ")" ++ rest) refl),
    close_paren_stands rest,
  );
  means = λ before rest.
      let close = token_after (before ++ (codes "(" ++ bytes_in r.tree)) (Sign 5) (codes ")") in
      let m = r.means (before ++ codes "(") (close ∷ rest) in
      (m.0, IsPrimary.parentheses refl m.1 refl, m.2);
  beside = λ before q us x.
      let close = token_after (before ++ (codes "(" ++ bytes_in r.tree)) (Sign 5) (codes ")") in
      LeftOut.opening (sym h) (ap opens h) (LeftOut.inside
      (r.beside (before ++ codes "(") (pushed q) (close ∷ us) (LeftOut.closing (sym k) (ap closes k) x)));
})

pub no_parens : (X : Phrases PExpr) (e : PExpr) (text : List ℕ) (t u : Token) (ts left : List Token) →
    t.kind ≡ open_paren → u.kind ≡ close_paren → ReadsAs X e text ts (u ∷ left) →
    ReadsAs X e text (t ∷ ts) left
no_parens X e text t u ts left h k r = record {
  tree = r.tree;
  spells = r.spells;
  stands = r.stands;
  means = r.means;
  beside = λ before q us x.
      LeftOut.opening_alone h (r.beside before (pushed_alone q) us (LeftOut.closing_alone k x));
}

-- what is read back in each place is where it stands as a product, and that as a sum
pub back_product : (e : PExpr) (ts ending : List Token) → Back e ts ending → ProductBack e ts ending
back_product e ts ending back = record {
  alone = back.alone;
  sum = back.sum;
  product = back.product;
  wrapped = λ t u left is h k.
      let b : Back e ts (u ∷ left) = subst (Back e ts) is back in record {
        alone = no_parens IsExpr e (operand_text e 0) t u ts left h k b.alone;
        sum = no_parens IsExpr e (operand_text e 1) t u ts left h k b.sum;
        product = no_parens IsProduct e (operand_text e 2) t u ts left h k b.product;
        unary = no_parens IsUnary e (operand_text e 3) t u ts left h k b.unary;
      };
}

pub product_sum : (e : PExpr) (ts ending : List Token) → ProductBack e ts ending → SumBack e ts ending
product_sum e ts ending back =
    record { alone = back.alone; sum = back.sum; wrapped = back.wrapped }

-- an expression whose text is the same at each strength
of_unary : (e : PExpr) (text : List ℕ) (ts ending : List Token) →
    ((n : ℕ) → operand_text e n ≡ text) → ReadsAs IsUnary e text ts ending → Back e ts ending
of_unary e text ts ending same r =
    let p = product_of e text ts ending r in
    let x = expr_of e text ts ending p in record {
      alone = as_text IsExpr e text (operand_text e 0) ts ending (same 0) x;
      sum = as_text IsExpr e text (operand_text e 1) ts ending (same 1) x;
      product = as_text IsProduct e text (operand_text e 2) ts ending (same 2) p;
      unary = as_text IsUnary e text (operand_text e 3) ts ending (same 3) r;
    }

pub same_form : (s t : Spot) (f g : PForm) → form_unplaced f ≡ form_unplaced g →
    expr_unplaced (at_spot s f) ≡ expr_unplaced (at_spot t g)
same_form s t f g h = unplaced-at s f ∙ ap (at_spot first_spot) h ∙ sym (unplaced-at t g)

-- an expression of one token
leaf : (t : Token) (ending : List Token) (form : PForm) (kind : TokenKind) (text : List ℕ) →
    t.kind ≡ kind → is_operand kind ≡ true →
    ((rest : List ℕ) → Stops rest → IsToken kind text rest) →
    ((t : Token) (rest : List Token) → t.kind ≡ kind →
    IsPrimary (t ∷ rest) (at_spot t.spot form) rest) →
    ((n : ℕ) → form_text form n ≡ text) → Back (at_spot t.spot form) (t ∷ ending) ending
leaf t ending form kind text here operand stands is same =
    let s = t.spot in
    of_unary (at_spot s form) text (t ∷ ending) ending (λ n. text-at s form n ∙ same n)
    (unary_of (at_spot s form) text (t ∷ ending) ending (record {
      tree = piece (token kind text);
      spells = refl;
      stands = stands;
      means = λ before rest.
          let u = token_after before kind text in
          (at_spot u.spot form, is u rest refl, same_form u.spot s form form refl);
      beside = λ before q us x. LeftOut.operand (sym here) (ap is_operand here ∙ operand) x;
    }))

pub int_back : (t : Token) (ending : List Token) (n : ℕ) → t.kind ≡ Number (pos n) →
    n ≤ greatest_number → Back (at_spot t.spot (F.Int (pos n))) (t ∷ ending) ending
int_back t ending n here low =
    leaf t ending (F.Int (pos n)) (Number (pos n)) (numeral n) here refl
    (λ rest h. number_stands n rest low h) (λ t rest h. IsPrimary.number h) (text-Int (pos n))

pub text_back : (t : Token) (ending : List Token) (text : List ℕ) → t.kind ≡ Text text →
    Legal (Text text) → Back (at_spot t.spot (F.Text text)) (t ∷ ending) ending
text_back t ending text here is =
    leaf t ending (F.Text text) (Text text) (quoted text) here refl
    (λ rest h. text_stands text rest is) (λ t rest h. IsPrimary.text h) (text-Text text)

pub name_back : (t : Token) (ending : List Token) (name : List ℕ) → t.kind ≡ Name name →
    Legal (Name name) → Back (at_spot t.spot (F.Name name)) (t ∷ ending) ending
name_back t ending name here is =
    leaf t ending (F.Name name) (Name name) name here refl (λ rest h. name_stands name rest is h)
    (λ t rest h. IsPrimary.name h) (text-Name name)

pub this_back : (t : Token) (ending : List Token) → t.kind ≡ this_word →
    Back (at_spot t.spot F.This) (t ∷ ending) ending
unfolding reserved_words
this_back t ending here =
    leaf t ending F.This (Word 17) (codes "this") here refl (λ rest h. IsToken.word refl h refl)
    (λ t rest h. IsPrimary.this h) text-This

pub step_back : (t u v : Token) (ending : List Token) → t.kind ≡ Name (codes "step") →
    u.kind ≡ open_paren → v.kind ≡ close_paren →
    Back (at_spot t.spot F.Step) (t ∷ u ∷ v ∷ ending) ending
unfolding reserved_words
step_back t u v ending i j k =
    let s = t.spot in
    let all = t ∷ u ∷ v ∷ ending in
    of_unary (at_spot s F.Step) (codes "step()") all ending (λ n. text-at s F.Step n ∙ text-Step n)
    (unary_of (at_spot s F.Step) (codes "step()") all ending (record {
      tree = both (both (piece (token (Name (codes "step")) (codes "step")))
          (sign_tree 4 (codes "("))) (sign_tree 5 (codes ")"));
      spells = refl;
      stands = λ rest h. (
        (IsToken.name refl refl refl, open_paren_stands (codes ")" ++ rest)),
        close_paren_stands rest,
      );
      means = λ before rest.
          let t = token_after before (Name (codes "step")) (codes "step") in
          (at_spot t.spot F.Step, IsPrimary.step refl refl refl, same_form t.spot s F.Step F.Step refl);
      beside = λ before q us x.
          LeftOut.calling i j refl refl (LeftOut.empty (sym k) (ap closes k) x);
    }))

-- expressions with commas between them
pub expr_rows : Rows IsExpr IsMoreExprs IsExprs comma
expr_rows = record {
  none = λ all rest. IsMoreExprs.no_more_exprs;
  more = λ t ts mid rest before all item h x m. IsMoreExprs.more_exprs h x m;
  whole = λ ts mid rest item all x m. IsExprs.exprs x m;
}

pub comma_sep : Separator comma (codes ",")
comma_sep = record {
  tree = sign_tree 6 (codes ",");
  spells = refl;
  stands = λ rest. comma_stands rest;
  stops = λ rest. refl;
  means = λ before rest. (token_after before comma (codes ","), refl, refl);
  plain = refl;
}

abbrev pub Alone : PExpr → List Token → List Token → Type 0
Alone e ts ending = ReadsAs IsExpr e (alone (operand_text e)) ts ending

-- the same up to and with a closing bracket
pub listed_back : (k : ℕ) (close : List ℕ) → Anywhere k close →
    ((rest : List ℕ) → Stops (close ++ rest)) → closes (Sign k) ≡ true → (es : List PExpr)
    (ts ending : List Token) → Listed Alone comma (Sign k) ts es ending →
    Reads (IsListed (Sign k)) (map expr_unplaced) es (row (map operand_text es) ++ close)
    (Follows Opened Last ts ending)
listed_back k close stands stops closing es ts ending each =
    closed inscribed IsExpr IsMoreExprs IsExprs comma expr_rows expr_unplaced (codes ",") comma_sep
    operand_text alone k close stands stops closing (IsListed (Sign k))
    (λ u rest h. IsListed.nothing h) (λ ts rest u es x h. IsListed.some x h) each

pub tuple_back : (t : Token) (es : List PExpr) (ts ending : List Token) → t.kind ≡ open_bracket →
    Listed Alone comma close_bracket ts es ending →
    Back (at_spot t.spot (F.Tuple es)) (t ∷ ts) ending
tuple_back t es ts ending here each =
    let s = t.spot in
    let r = listed_back 3 (codes "]") close_bracket_stands (λ rest. refl) refl es ts ending each in
    let text = codes "[" ++ row (map operand_text es) ++ codes "]" in
    of_unary (at_spot s (F.Tuple es)) text (t ∷ ts) ending
    (λ n. text-at s (F.Tuple es) n ∙ text-Tuple es n)
    (unary_of (at_spot s (F.Tuple es)) text (t ∷ ts) ending (record {
      tree = both (sign_tree 2 (codes "[")) r.tree;
      spells = ap (λ t. codes "[" ++ t) r.spells;
      stands = λ rest h. (open_bracket_stands (bytes_in r.tree ++ rest), r.stands rest h);
      means = λ before rest.
          let t = token_after before (Sign 2) (codes "[") in
          let m = r.means (before ++ codes "[") rest in (
            at_spot t.spot (F.Tuple m.0),
            IsPrimary.tuple refl m.1,
            same_form t.spot s (F.Tuple m.0) (F.Tuple es)
                (bare-Tuple m.0 ∙ ap (λ es. F.Tuple es) m.2 ∙ sym (bare-Tuple es)),
          );
      beside = λ before q us x.
          LeftOut.opening (sym here) (ap opens here) (r.beside (before ++ codes "[") q us x);
    }))

pub list_back : (t : Token) (es : List PExpr) (ts ending : List Token) → t.kind ≡ open_brace →
    Listed Alone comma close_brace ts es ending → Back (at_spot t.spot (F.List es)) (t ∷ ts) ending
list_back t es ts ending here each =
    let s = t.spot in
    let r = listed_back 1 (codes "}") close_brace_stands (λ rest. refl) refl es ts ending each in
    let text = codes "{" ++ row (map operand_text es) ++ codes "}" in
    of_unary (at_spot s (F.List es)) text (t ∷ ts) ending
    (λ n. text-at s (F.List es) n ∙ text-List es n)
    (unary_of (at_spot s (F.List es)) text (t ∷ ts) ending (record {
      tree = both (sign_tree 0 (codes "{")) r.tree;
      spells = ap (λ t. codes "{" ++ t) r.spells;
      stands = λ rest h. (open_brace_stands (bytes_in r.tree ++ rest), r.stands rest h);
      means = λ before rest.
          let t = token_after before (Sign 0) (codes "{") in
          let m = r.means (before ++ codes "{") rest in (
            at_spot t.spot (F.List m.0),
            IsPrimary.list refl m.1,
            same_form t.spot s (F.List m.0) (F.List es)
                (bare-List m.0 ∙ ap (λ es. F.List es) m.2 ∙ sym (bare-List es)),
          );
      beside = λ before q us x.
          LeftOut.opening (sym here) (ap opens here) (r.beside (before ++ codes "{") q us x);
    }))

pub cons_back : (t u v : Token) (e : PExpr) (es : List PExpr) (tail : PExpr)
    (ts mid us ending : List Token) → t.kind ≡ open_brace → u.kind ≡ colon → v.kind ≡ close_brace →
    Alone e ts mid → Row Alone comma mid es (u ∷ us) → Alone tail us (v ∷ ending) →
    Back (at_spot t.spot (F.Cons (e ∷ es) tail)) (t ∷ ts) ending
cons_back t u v e es tail ts mid us ending i j k one each z =
    let s = t.spot in
    let r = some inscribed IsExpr IsMoreExprs IsExprs comma expr_rows expr_unplaced (codes ",")
    comma_sep operand_text alone one each in
    let form = F.Cons (e ∷ es) tail in
    let text = codes "{" ++ row (map operand_text (e ∷ es)) ++ codes ":" ++ operand_text tail 0 ++ codes "}" in
    of_unary (at_spot s form) text (t ∷ ts) ending (λ n. text-at s form n ∙ text-Cons (e ∷ es) tail n)
    (unary_of (at_spot s form) text (t ∷ ts) ending (record {
      tree = both (both (both (both (sign_tree 0 (codes "{")) r.tree) (sign_tree 8 (codes ":")))
          z.tree) (sign_tree 1 (codes "}"));
      spells =
          ap (λ t. codes "{" ++ t ++ codes ":" ++ bytes_in z.tree ++ codes "}") r.spells
          ∙ ap (λ t. codes "{" ++ row (map operand_text (e ∷ es)) ++ codes ":" ++ t ++ codes "}")
          z.spells;
      stands = λ rest h.
          let end = codes "}" ++ rest in
          let mid = bytes_in z.tree ++ end in (
            (
              (
                (
                  open_brace_stands (bytes_in r.tree ++ (codes ":" ++ mid)),
                  r.stands (codes ":" ++ mid) refl,
                ),
                colon_stands mid,
              ),
              z.stands end refl,
            ),
            close_brace_stands rest,
          );
      means = λ before rest.
          let t = token_after before (Sign 0) (codes "{") in
          let a = codes "{" ++ bytes_in r.tree in
          let u = token_after (before ++ a) (Sign 8) (codes ":") in
          let b = a ++ codes ":" in
          let v = token_after (before ++ (b ++ bytes_in z.tree)) (Sign 1) (codes "}") in
          let n = z.means (before ++ b) (v ∷ rest) in
          let m = r.means (before ++ codes "{") (u ∷ tokens_in (before ++ b) z.tree (v ∷ rest)) in (
            at_spot t.spot (F.Cons m.0 n.0),
            IsPrimary.list_with_tail refl m.1 refl n.1 refl,
            same_form t.spot s (F.Cons m.0 n.0) form
                (bare-Cons m.0 n.0 ∙ ap (λ es. F.Cons es (expr_unplaced n.0)) m.2
                ∙ ap (λ tail. F.Cons (map expr_unplaced (e ∷ es)) tail) n.2
                ∙ sym (bare-Cons (e ∷ es) tail)),
          );
      beside = λ before q xs x.
          let a = codes "{" ++ bytes_in r.tree in
          let b = a ++ codes ":" in
          let sign = token_after (before ++ a) (Sign 8) (codes ":") in
          let end = token_after (before ++ (b ++ bytes_in z.tree)) (Sign 1) (codes "}") in
          let mid = tokens_in (before ++ b) z.tree (end ∷ xs) in
          LeftOut.opening (sym i) (ap opens i) (LeftOut.inside
          (r.beside (before ++ codes "{") (pushed q) (sign ∷ mid)
          (LeftOut.joining (sym j) (ap is_plain j)
          (z.beside (before ++ b) (pushed q) (end ∷ xs) (LeftOut.closing (sym k) (ap closes k) x)))));
    }))

pub neg_back : (t : Token) (e : PExpr) (ts ending : List Token) → t.kind ≡ minus →
    Back e ts ending → Back (at_spot t.spot (F.Neg e)) (t ∷ ts) ending
neg_back t e ts ending here back =
    let s = t.spot in
    let r = back.unary in
    let text = codes "-" ++ operand_text e 3 in
    of_unary (at_spot s (F.Neg e)) text (t ∷ ts) ending (λ n. text-at s (F.Neg e) n ∙ text-Neg e n)
    (record {
      tree = both (sign_tree 17 (codes "-")) r.tree;
      spells = ap (λ t. codes "-" ++ t) r.spells;
      stands = λ rest h. (minus_stands (bytes_in r.tree ++ rest), r.stands rest h);
      means = λ before rest.
          let t = token_after before (Sign 17) (codes "-") in
          let m = r.means (before ++ codes "-") rest in (
            at_spot t.spot (F.Neg m.0),
            IsUnary.negative refl m.1,
            same_form t.spot s (F.Neg m.0) (F.Neg e)
                (bare-Neg m.0 ∙ ap (λ e. F.Neg e) m.2 ∙ sym (bare-Neg e)),
          );
      beside = λ before q us x.
          LeftOut.leading (sym here) (ap is_plain here) (r.beside (before ++ codes "-") q us x);
    })
