-- Where some tokens stand for a constant, its text is read back.
use Rattle.std.proofs.Common.{◌≡◌, ℕ, zero, suc, ℤ, pos, negsuc, ◌≤◌, true, false, List, ◌∷◌, ◌++◌, map, refl, sym, ap, ◌∙◌, subst}
use Rattle.std.specs.Prelude.{codes, neg_ℤ}
use Rattle.rn_value.specs.Text.{numeral, quoted}
use Rattle.rn_notation.specs.Words.{greatest_number}
use Rattle.rn_notation.specs.Tokens.{IsToken}
use Rattle.rn_notation.specs.Reading.{token, token_after}
use Rattle.rn_notation.specs.declared.token.Spot.{Spot}
use Rattle.rn_notation.specs.declared.token.Token.{Token}
use Rattle.rn_notation.specs.declared.token.TokenKind.{TokenKind}
use Rattle.rn_notation.specs.declared.token.TokenKind.TheVariants.{Number, Text, Sign}
use Rattle.rn_inscript.specs.Signs.{comma, minus, open_bracket, open_brace, close_bracket, close_brace}
use Rattle.rn_inscript.specs.Levels.{closes}
use Rattle.rn_net.specs.Levels.{is_semicolon}
use Rattle.rn_net.specs.declared.constants.PConst.{PConst, fold-roll-PConst}
use Rattle.rn_net.specs.declared.constants.PConstForm.{PConstForm, fold-PConstForm, fold_out-PConstForm, map-PConstForm, out-PConstForm, roll-PConstForm}
use Rattle.rn_net.specs.declared.constants.PConstForm.TheVariants as C
use Rattle.rn_net.specs.Constants.{constant_at, IsConstant, AreItems, AreConstants, AreMoreConstants}
use Rattle.rn_print.specs.Pieces.{listed}
use Rattle.rn_print.specs.Constants.{constant_text, constant_form_step, constant_step}
use Rattle.rn_print.specs.SameButSpots.{constant_unplaced, constant_moved, first_spot}
use Rattle.rn_print.proofs.Trees.{piece, both, bytes_in, Stops, Reads, reads_text}
use Rattle.rn_print.proofs.Atoms.{Anywhere, Legal, number_stands, text_stands, minus_stands, open_bracket_stands, close_bracket_stands, open_brace_stands, close_brace_stands}
use Rattle.rn_print.proofs.SameTokens.{SameTokens}
use Rattle.rn_print.proofs.Beside.{Follows, Same, declared}
use Rattle.rn_print.proofs.Separated.{Rows, Listed, closed}
use Rattle.rn_print.proofs.ExpressionBack.{comma_sep, sign_tree}
use Rattle.rn_print.proofs.SpelledExpressions.{AllLegal, legal, Others, no_others, one_more, Some_back, some_back, some_listed}

pub form_text : PConstForm → List ℕ
form_text = fold-PConstForm (List ℕ) (List ℕ) constant_form_step constant_step

-- the text of a constant is that of its form, wherever it stands
pub text-at : (s : Spot) (form : PConstForm) → constant_text (constant_at s form) ≡ form_text form
unfolding form_text
text-at s form =
    fold-roll-PConst (List ℕ) (List ℕ) constant_form_step constant_step (record { form = form; spot = s })

-- the text of a form, by the texts of its parts
pub out : (form : PConstForm) →
    form_text form
    ≡ constant_form_step (map-PConstForm PConstForm PConst (List ℕ) (List ℕ) form_text constant_text (out-PConstForm form))
unfolding form_text
out form = fold_out-PConstForm (List ℕ) (List ℕ) constant_form_step constant_step form

-- the text of a tuple, and of a list
pub text-Tuple : (items : List PConst) →
    form_text (C.Tuple items) ≡ codes "[" ++ listed (map constant_text items) ++ codes "]"
text-Tuple items = out (C.Tuple items) ∙ rw (C.outs-Tuple items)

pub text-List : (items : List PConst) →
    form_text (C.List items) ≡ codes "{" ++ listed (map constant_text items) ++ codes "}"
text-List items = out (C.List items) ∙ rw (C.outs-List items)

pub form_unplaced : PConstForm → PConstForm
form_unplaced = fold-PConstForm PConstForm PConst roll-PConstForm constant_moved

pub unplaced-at : (s : Spot) (form : PConstForm) →
    constant_unplaced (constant_at s form) ≡ constant_at first_spot (form_unplaced form)
unfolding form_unplaced
unplaced-at s form =
    fold-roll-PConst PConstForm PConst roll-PConstForm constant_moved (record { form = form; spot = s })

pub bare : (form : PConstForm) →
    form_unplaced form
    ≡ roll-PConstForm (map-PConstForm PConstForm PConst PConstForm PConst form_unplaced constant_unplaced (out-PConstForm form))
unfolding form_unplaced
bare form = fold_out-PConstForm PConstForm PConst roll-PConstForm constant_moved form

pub bare-Tuple : (items : List PConst) →
    form_unplaced (C.Tuple items) ≡ C.Tuple (map constant_unplaced items)
bare-Tuple items =
    bare (C.Tuple items) ∙ rw (C.outs-Tuple items) (C.rolls-Tuple (map constant_unplaced items))

pub bare-List : (items : List PConst) →
    form_unplaced (C.List items) ≡ C.List (map constant_unplaced items)
bare-List items =
    bare (C.List items) ∙ rw (C.outs-List items) (C.rolls-List (map constant_unplaced items))

same_form : (s t : Spot) (f g : PConstForm) → form_unplaced f ≡ form_unplaced g →
    constant_unplaced (constant_at s f) ≡ constant_unplaced (constant_at t g)
same_form s t f g h = unplaced-at s f ∙ ap (constant_at first_spot) h ∙ sym (unplaced-at t g)

-- the text of the constant is read back, beside these tokens of another text
abbrev pub ConstantBack : PConst → List Token → List Token → Type 0
ConstantBack c ts ending =
    Reads IsConstant constant_unplaced c (constant_text c) (Follows Same Same ts ending)

leaf : (t : Token) (ending : List Token) (form : PConstForm) (kind : TokenKind) (text : List ℕ) →
    t.kind ≡ kind → is_semicolon kind ≡ false →
    ((rest : List ℕ) → Stops rest → IsToken kind text rest) →
    ((t : Token) (rest : List Token) → t.kind ≡ kind →
    IsConstant (t ∷ rest) (constant_at t.spot form) rest) →
    form_text form ≡ text → ConstantBack (constant_at t.spot form) (t ∷ ending) ending
leaf t ending form kind text here goes_on stands is same =
    let s = t.spot in
    reads_text IsConstant constant_unplaced (constant_at s form) text
    (constant_text (constant_at s form)) (Follows Same Same (t ∷ ending) ending)
    (sym (text-at s form ∙ same)) (record {
      tree = piece (token kind text);
      spells = refl;
      stands = stands;
      means = λ before rest.
          let u = token_after before kind text in
          (constant_at u.spot form, is u rest refl, same_form u.spot s form form refl);
      beside = λ before q us x. SameTokens.same (sym here) (ap is_semicolon here ∙ goes_on) x;
    })

positive_back : (t : Token) (ending : List Token) (n : ℕ) → t.kind ≡ Number (pos n) →
    n ≤ greatest_number → ConstantBack (constant_at t.spot (C.Int (pos n))) (t ∷ ending) ending
positive_back t ending n here low =
    leaf t ending (C.Int (pos n)) (Number (pos n)) (numeral n) here refl
    (λ rest h. number_stands n rest low h)
    (λ t rest h. IsConstant.number h) (out (C.Int (pos n)) ∙ rw (C.outs-Int (pos n)))

-- the text of `-0` is `0`
zero_back : (t u : Token) (ending : List Token) → t.kind ≡ minus → u.kind ≡ Number (pos zero) →
    zero ≤ greatest_number →
    ConstantBack (constant_at t.spot (C.Int (pos zero))) (t ∷ u ∷ ending) ending
zero_back t u ending here there low =
    let form = C.Int (pos zero) in
    let r = positive_back u ending zero there low in
    reads_text IsConstant constant_unplaced (constant_at t.spot form)
    (constant_text (constant_at u.spot form)) (constant_text (constant_at t.spot form))
    (Follows Same Same (t ∷ u ∷ ending) ending) (text-at u.spot form ∙ sym (text-at t.spot form)) (record {
      tree = r.tree;
      spells = r.spells;
      stands = r.stands;
      means = λ before rest.
          let m = r.means before rest in (m.0, m.1, m.2 ∙ same_form u.spot t.spot form form refl);
      beside = λ before q us x. SameTokens.minus_alone here (r.beside before q us x);
    })

negative_back : (t u : Token) (ending : List Token) (n : ℕ) → t.kind ≡ minus →
    u.kind ≡ Number (pos n) → n ≤ greatest_number →
    ConstantBack (constant_at t.spot (C.Int (neg_ℤ (pos n)))) (t ∷ u ∷ ending) ending
negative_back t u ending zero here there low = zero_back t u ending here there low
negative_back t u ending (suc n) here there low =
    let s = t.spot in
    let form = C.Int (negsuc n) in
    let text = codes "-" ++ numeral (suc n) in
    reads_text IsConstant constant_unplaced (constant_at s form) text
    (constant_text (constant_at s form)) (Follows Same Same (t ∷ u ∷ ending) ending)
    (sym (text-at s form ∙ out form ∙ rw (C.outs-Int (negsuc n)))) (record {
      tree = both (sign_tree 17 (codes "-")) (piece (token (Number (pos (suc n))) (numeral (suc n))));
      spells = refl;
      stands = λ rest h. (minus_stands (numeral (suc n) ++ rest), number_stands (suc n) rest low h);
      means = λ before rest.
          let t = token_after before (Sign 17) (codes "-") in (
            constant_at t.spot form,
            IsConstant.negative {n = pos (suc n)} refl refl,
            same_form t.spot s form form refl,
          );
      beside = λ before q us x.
          SameTokens.same (sym here) (ap is_semicolon here)
          (SameTokens.same (sym there) (ap is_semicolon there) x);
    })

text_back : (t : Token) (ending : List Token) (text : List ℕ) → t.kind ≡ Text text →
    Legal (Text text) → ConstantBack (constant_at t.spot (C.Text text)) (t ∷ ending) ending
text_back t ending text here is =
    leaf t ending (C.Text text) (Text text) (quoted text) here refl
    (λ rest h. text_stands text rest is)
    (λ t rest h. IsConstant.text h) (out (C.Text text) ∙ rw (C.outs-Text text))

pub constant_rows : Rows IsConstant AreMoreConstants AreConstants comma
constant_rows = record {
  none = λ all rest. AreMoreConstants.no_more_constants;
  more = λ t ts mid rest before all item h x m. AreMoreConstants.more_constants h x m;
  whole = λ ts mid rest item all x m. AreConstants.constants x m;
}

items_back : (k : ℕ) (close : List ℕ) → Anywhere k close →
    ((rest : List ℕ) → Stops (close ++ rest)) → closes (Sign k) ≡ true → (items : List PConst)
    (ts ending : List Token) → Listed ConstantBack comma (Sign k) ts items ending →
    Reads (AreItems (Sign k)) (map constant_unplaced) items
    (listed (map constant_text items) ++ close) (Follows Same Same ts ending)
items_back k close stands stops closing items ts ending each =
    closed declared IsConstant AreMoreConstants AreConstants comma constant_rows constant_unplaced
    (codes ",") comma_sep constant_text (λ t. t) k close stands stops closing (AreItems (Sign k))
    (λ u rest h. AreItems.nothing h) (λ ts rest u items x h. AreItems.some x h) each

tuple_back : (t : Token) (items : List PConst) (ts ending : List Token) → t.kind ≡ open_bracket →
    Listed ConstantBack comma close_bracket ts items ending →
    ConstantBack (constant_at t.spot (C.Tuple items)) (t ∷ ts) ending
tuple_back t items ts ending here each =
    let s = t.spot in
    let r = items_back 3 (codes "]") close_bracket_stands (λ rest. refl) refl items ts ending each in
    let form = C.Tuple items in
    let text = codes "[" ++ listed (map constant_text items) ++ codes "]" in
    reads_text IsConstant constant_unplaced (constant_at s form) text
    (constant_text (constant_at s form)) (Follows Same Same (t ∷ ts) ending)
    (sym (text-at s form ∙ text-Tuple items)) (record {
      tree = both (sign_tree 2 (codes "[")) r.tree;
      spells = ap (λ t. codes "[" ++ t) r.spells;
      stands = λ rest h. (open_bracket_stands (bytes_in r.tree ++ rest), r.stands rest h);
      means = λ before rest.
          let t = token_after before (Sign 2) (codes "[") in
          let m = r.means (before ++ codes "[") rest in (
            constant_at t.spot (C.Tuple m.0),
            IsConstant.tuple refl m.1,
            same_form t.spot s (C.Tuple m.0) form
                (bare-Tuple m.0 ∙ ap (λ items. C.Tuple items) m.2 ∙ sym (bare-Tuple items)),
          );
      beside = λ before q us x.
          SameTokens.same (sym here) (ap is_semicolon here) (r.beside (before ++ codes "[") q us x);
    })

list_back : (t : Token) (items : List PConst) (ts ending : List Token) → t.kind ≡ open_brace →
    Listed ConstantBack comma close_brace ts items ending →
    ConstantBack (constant_at t.spot (C.List items)) (t ∷ ts) ending
list_back t items ts ending here each =
    let s = t.spot in
    let r = items_back 1 (codes "}") close_brace_stands (λ rest. refl) refl items ts ending each in
    let form = C.List items in
    let text = codes "{" ++ listed (map constant_text items) ++ codes "}" in
    reads_text IsConstant constant_unplaced (constant_at s form) text
    (constant_text (constant_at s form)) (Follows Same Same (t ∷ ts) ending)
    (sym (text-at s form ∙ text-List items)) (record {
      tree = both (sign_tree 0 (codes "{")) r.tree;
      spells = ap (λ t. codes "{" ++ t) r.spells;
      stands = λ rest h. (open_brace_stands (bytes_in r.tree ++ rest), r.stands rest h);
      means = λ before rest.
          let t = token_after before (Sign 0) (codes "{") in
          let m = r.means (before ++ codes "{") rest in (
            constant_at t.spot (C.List m.0),
            IsConstant.list refl m.1,
            same_form t.spot s (C.List m.0) form
                (bare-List m.0 ∙ ap (λ items. C.List items) m.2 ∙ sym (bare-List items)),
          );
      beside = λ before q us x.
          SameTokens.same (sym here) (ap is_semicolon here) (r.beside (before ++ codes "{") q us x);
    })

number_back : (t : Token) (ending : List Token) (z : ℤ) → t.kind ≡ Number z → Legal (Number z) →
    ConstantBack (constant_at t.spot (C.Int z)) (t ∷ ending) ending
number_back t ending z here (n, e, low) =
    subst (λ z. ConstantBack (constant_at t.spot (C.Int z)) (t ∷ ending) ending) (sym e)
    (positive_back t ending n (subst (λ z. t.kind ≡ Number z) e here) low)

minus_back : (t u : Token) (ending : List Token) (z : ℤ) → t.kind ≡ minus → u.kind ≡ Number z →
    Legal (Number z) →
    ConstantBack (constant_at t.spot (C.Int (neg_ℤ z))) (t ∷ u ∷ ending) ending
minus_back t u ending z here there (n, e, low) =
    subst (λ z. ConstantBack (constant_at t.spot (C.Int (neg_ℤ z))) (t ∷ u ∷ ending) ending) (sym e)
    (negative_back t u ending n here (subst (λ z. u.kind ≡ Number z) e there) low)

mutual
  constant_back : {ts rest : List Token} {c : PConst} → IsConstant ts c rest → AllLegal ts →
      ConstantBack c ts rest × AllLegal rest
  constant_back (IsConstant.number {t = t} {rest = rest} {n = n} is) h =
      (number_back t rest n is (legal is h.0), h.1)
  constant_back (IsConstant.negative {t = t} {u = u} {rest = rest} {n = n} is a) h =
      (minus_back t u rest n is a (legal a h.1.0), h.1.1)
  constant_back (IsConstant.text {t = t} {rest = rest} {s = s} is) h =
      (text_back t rest s is (legal is h.0), h.1)
  constant_back (IsConstant.tuple {t = t} {ts = ts} {rest = rest} {items = items} is x) h =
      let p = listed_items x h.1 in (tuple_back t items ts rest is p.0, p.1)
  constant_back (IsConstant.list {t = t} {ts = ts} {rest = rest} {items = items} is x) h =
      let p = listed_items x h.1 in (list_back t items ts rest is p.0, p.1)

  listed_items : {close : TokenKind} {ts rest : List Token} {items : List PConst} →
      AreItems close ts items rest → AllLegal ts →
      Listed ConstantBack comma close ts items rest × AllLegal rest
  listed_items (AreItems.nothing is) h = (Listed.none_in is, h.1)
  listed_items (AreItems.some x is) h = let p = constants_back x h in (some_listed p.0 is, p.1.1)

  pub constants_back : {ts rest : List Token} {items : List PConst} → AreConstants ts items rest →
      AllLegal ts → Some_back ConstantBack comma items ts rest × AllLegal rest
  constants_back (AreConstants.constants x m) h =
      let p = constant_back x h in
      let q = more_back m p.1 in (some_back p.0 q.0, q.1)

  more_back : {before items : List PConst} {ts rest : List Token} →
      AreMoreConstants before ts items rest → AllLegal ts →
      Others ConstantBack comma before items ts rest × AllLegal rest
  more_back (AreMoreConstants.no_more_constants {all = all} {rest = rest}) h =
      (no_others ConstantBack comma all rest, h)
  more_back (AreMoreConstants.more_constants {before = before} {item = c} is x m) h =
      let p = constant_back x h.1 in
      let q = more_back m p.1 in (one_more ConstantBack before c is p.0 q.0, q.1)
