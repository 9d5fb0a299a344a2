-- Where some tokens stand for a kind, its text is read back.
use Rattle.std.proofs.Common.{◌≡◌, ℕ, true, false, List, [], ◌∷◌, ◌++◌, map, refl, sym, ap, ◌∙◌, subst}
use Rattle.std.specs.Prelude.{codes}
use Rattle.rn_value.specs.Words.{reserved_words}
use Rattle.rn_notation.specs.Tokens.{IsToken}
use Rattle.rn_notation.specs.Reading.{token, token_after}
use Rattle.rn_notation.specs.declared.token.Spot.{Spot}
use Rattle.rn_notation.specs.declared.token.Token.{Token}
use Rattle.rn_notation.specs.declared.token.TokenKind.{TokenKind}
use Rattle.rn_notation.specs.declared.token.TokenKind.TheVariants.{Word, Sign}
use Rattle.rn_inscript.specs.Signs.{comma, colon, open_bracket, open_brace, close_bracket, close_brace}
use Rattle.rn_inscript.specs.Levels.{closes}
use Rattle.rn_net.specs.Words.{int_word, text_word, net_word}
use Rattle.rn_net.specs.Levels.{IsShallow, after, is_too_deep, is_semicolon}
use Rattle.rn_net.specs.Levels.Region.{between, declaring}
use Rattle.rn_net.specs.declared.kinds.PKind.{PKind, fold-roll-PKind}
use Rattle.rn_net.specs.declared.kinds.PKindForm.{PKindForm, fold-PKindForm, fold_out-PKindForm, map-PKindForm, out-PKindForm, roll-PKindForm}
use Rattle.rn_net.specs.declared.kinds.PKindForm.TheVariants as K
use Rattle.rn_net.specs.Kinds.{kind_at, IsKind, AreListed, AreKinds, AreMoreKinds}
use Rattle.rn_print.specs.Pieces.{listed}
use Rattle.rn_print.specs.Kinds.{kind_text, kind_form_step, kind_step}
use Rattle.rn_print.specs.SameButSpots.{kind_unplaced, kind_moved, first_spot}
use Rattle.rn_print.proofs.Trees.{Tree, piece, both, bytes_in, tokens_in, Stops, Reads, reads_text}
use Rattle.rn_print.proofs.Atoms.{Anywhere, open_bracket_stands, close_bracket_stands, open_brace_stands, close_brace_stands}
use Rattle.rn_print.proofs.SameTokens.{SameTokens, shallow}
use Rattle.rn_print.proofs.Beside.{Follows, Same, declared}
use Rattle.rn_print.proofs.Separated.{Rows, Listed, closed}
use Rattle.rn_print.proofs.ExpressionBack.{comma_sep, sign_tree}
use Rattle.rn_print.proofs.SpelledExpressions.{AllLegal, Others, no_others, one_more, Some_back, some_back, some_listed}

pub form_text : PKindForm → List ℕ
form_text = fold-PKindForm (List ℕ) (List ℕ) kind_form_step kind_step

-- the text of a kind is that of its form, wherever it stands
pub text-at : (s : Spot) (form : PKindForm) → kind_text (kind_at s form) ≡ form_text form
unfolding form_text
text-at s form =
    fold-roll-PKind (List ℕ) (List ℕ) kind_form_step kind_step (record { form = form; spot = s })

-- the text of a form, by the texts of its parts
pub out : (form : PKindForm) →
    form_text form
    ≡ kind_form_step (map-PKindForm PKindForm PKind (List ℕ) (List ℕ) form_text kind_text (out-PKindForm form))
unfolding form_text
out form = fold_out-PKindForm (List ℕ) (List ℕ) kind_form_step kind_step form

-- the text of a kind of tuples, and of a kind of lists
pub text-Tuple : (ks : List PKind) →
    form_text (K.Tuple ks) ≡ codes "[" ++ listed (map kind_text ks) ++ codes "]"
text-Tuple ks = out (K.Tuple ks) ∙ rw (K.outs-Tuple ks)

pub text-List : (k : PKind) → form_text (K.List k) ≡ codes "{" ++ kind_text k ++ codes "}"
text-List k = out (K.List k) ∙ rw (K.outs-List k)

pub form_unplaced : PKindForm → PKindForm
form_unplaced = fold-PKindForm PKindForm PKind roll-PKindForm kind_moved

pub unplaced-at : (s : Spot) (form : PKindForm) →
    kind_unplaced (kind_at s form) ≡ kind_at first_spot (form_unplaced form)
unfolding form_unplaced
unplaced-at s form =
    fold-roll-PKind PKindForm PKind roll-PKindForm kind_moved (record { form = form; spot = s })

pub bare : (form : PKindForm) →
    form_unplaced form
    ≡ roll-PKindForm (map-PKindForm PKindForm PKind PKindForm PKind form_unplaced kind_unplaced (out-PKindForm form))
unfolding form_unplaced
bare form = fold_out-PKindForm PKindForm PKind roll-PKindForm kind_moved form

pub bare-Tuple : (ks : List PKind) → form_unplaced (K.Tuple ks) ≡ K.Tuple (map kind_unplaced ks)
bare-Tuple ks = bare (K.Tuple ks) ∙ rw (K.outs-Tuple ks) (K.rolls-Tuple (map kind_unplaced ks))

pub bare-List : (k : PKind) → form_unplaced (K.List k) ≡ K.List (kind_unplaced k)
bare-List k = bare (K.List k) ∙ rw (K.outs-List k) (K.rolls-List (kind_unplaced k))

same_form : (s t : Spot) (f g : PKindForm) → form_unplaced f ≡ form_unplaced g →
    kind_unplaced (kind_at s f) ≡ kind_unplaced (kind_at t g)
same_form s t f g h = unplaced-at s f ∙ ap (kind_at first_spot) h ∙ sym (unplaced-at t g)

-- the text of the kind is read back, beside these tokens of another text
abbrev pub KindBack : PKind → List Token → List Token → Type 0
KindBack k ts ending = Reads IsKind kind_unplaced k (kind_text k) (Follows Same Same ts ending)

word_back : (t : Token) (ending : List Token) (form : PKindForm) (k : ℕ) (word : List ℕ) →
    t.kind ≡ Word k → ((rest : List ℕ) → Stops rest → IsToken (Word k) word rest) →
    ((t : Token) (rest : List Token) → t.kind ≡ Word k →
    IsKind (t ∷ rest) (kind_at t.spot form) rest) →
    form_text form ≡ word → KindBack (kind_at t.spot form) (t ∷ ending) ending
word_back t ending form k word here stands is same =
    let s = t.spot in
    reads_text IsKind kind_unplaced (kind_at s form) word (kind_text (kind_at s form))
    (Follows Same Same (t ∷ ending) ending) (sym (text-at s form ∙ same)) (record {
      tree = piece (token (Word k) word);
      spells = refl;
      stands = stands;
      means = λ before rest.
          let u = token_after before (Word k) word in
          (kind_at u.spot form, is u rest refl, same_form u.spot s form form refl);
      beside = λ before q us x. SameTokens.same (sym here) (ap is_semicolon here) x;
    })

int_back : (t : Token) (ending : List Token) → t.kind ≡ int_word →
    KindBack (kind_at t.spot K.Int) (t ∷ ending) ending
unfolding reserved_words
int_back t ending here =
    word_back t ending K.Int 18 (codes "int") here (λ rest h. IsToken.word refl h refl)
    (λ t rest h. IsKind.int h) (out K.Int ∙ rw K.outs-Int)

text_back : (t : Token) (ending : List Token) → t.kind ≡ text_word →
    KindBack (kind_at t.spot K.Text) (t ∷ ending) ending
unfolding reserved_words
text_back t ending here =
    word_back t ending K.Text 19 (codes "text") here (λ rest h. IsToken.word refl h refl)
    (λ t rest h. IsKind.text h) (out K.Text ∙ rw K.outs-Text)

net_back : (t : Token) (ending : List Token) → t.kind ≡ net_word →
    KindBack (kind_at t.spot K.Net) (t ∷ ending) ending
unfolding reserved_words
net_back t ending here =
    word_back t ending K.Net 0 (codes "net") here (λ rest h. IsToken.word refl h refl)
    (λ t rest h. IsKind.net h) (out K.Net ∙ rw K.outs-Net)

kind_rows : Rows IsKind AreMoreKinds AreKinds comma
kind_rows = record {
  none = λ all rest. AreMoreKinds.no_more_kinds;
  more = λ t ts mid rest before all item h x m. AreMoreKinds.more_kinds h x m;
  whole = λ ts mid rest item all x m. AreKinds.kinds x m;
}

pub kinds_back : (k : ℕ) (close : List ℕ) → Anywhere k close →
    ((rest : List ℕ) → Stops (close ++ rest)) → closes (Sign k) ≡ true → (ks : List PKind)
    (ts ending : List Token) → Listed KindBack comma (Sign k) ts ks ending →
    Reads (AreListed (Sign k)) (map kind_unplaced) ks (listed (map kind_text ks) ++ close)
    (Follows Same Same ts ending)
kinds_back k close stands stops closing ks ts ending each =
    closed declared IsKind AreMoreKinds AreKinds comma kind_rows kind_unplaced (codes ",") comma_sep
    kind_text (λ t. t) k close stands stops closing (AreListed (Sign k))
    (λ u rest h. AreListed.nothing h) (λ ts rest u items x h. AreListed.some x h) each

tuple_back : (t : Token) (ks : List PKind) (ts ending : List Token) → t.kind ≡ open_bracket →
    Listed KindBack comma close_bracket ts ks ending →
    KindBack (kind_at t.spot (K.Tuple ks)) (t ∷ ts) ending
tuple_back t ks ts ending here each =
    let s = t.spot in
    let r = kinds_back 3 (codes "]") close_bracket_stands (λ rest. refl) refl ks ts ending each in
    let form = K.Tuple ks in
    let text = codes "[" ++ listed (map kind_text ks) ++ codes "]" in
    reads_text IsKind kind_unplaced (kind_at s form) text (kind_text (kind_at s form))
    (Follows Same Same (t ∷ ts) ending) (sym (text-at s form ∙ text-Tuple ks)) (record {
      tree = both (sign_tree 2 (codes "[")) r.tree;
      spells = ap (λ t. codes "[" ++ t) r.spells;
      stands = λ rest h. (open_bracket_stands (bytes_in r.tree ++ rest), r.stands rest h);
      means = λ before rest.
          let t = token_after before (Sign 2) (codes "[") in
          let m = r.means (before ++ codes "[") rest in (
            kind_at t.spot (K.Tuple m.0),
            IsKind.tuple refl m.1,
            same_form t.spot s (K.Tuple m.0) form
                (bare-Tuple m.0 ∙ ap (λ ks. K.Tuple ks) m.2 ∙ sym (bare-Tuple ks)),
          );
      beside = λ before q us x.
          SameTokens.same (sym here) (ap is_semicolon here) (r.beside (before ++ codes "[") q us x);
    })

list_back : (t u : Token) (k : PKind) (ts ending : List Token) → t.kind ≡ open_brace →
    u.kind ≡ close_brace → KindBack k ts (u ∷ ending) →
    KindBack (kind_at t.spot (K.List k)) (t ∷ ts) ending
list_back t u k ts ending here there r =
    let s = t.spot in
    let form = K.List k in
    let text = codes "{" ++ kind_text k ++ codes "}" in
    reads_text IsKind kind_unplaced (kind_at s form) text (kind_text (kind_at s form))
    (Follows Same Same (t ∷ ts) ending) (sym (text-at s form ∙ text-List k)) (record {
      tree = both (both (sign_tree 0 (codes "{")) r.tree) (sign_tree 1 (codes "}"));
      spells = ap (λ t. codes "{" ++ t ++ codes "}") r.spells;
      stands = λ rest h. (
        (
          open_brace_stands (bytes_in r.tree ++ (codes "}" ++ rest)),
          r.stands (codes "}" ++ rest) refl,
        ),
        close_brace_stands rest,
      );
      means = λ before rest.
          let t = token_after before (Sign 0) (codes "{") in
          let u = token_after (before ++ (codes "{" ++ bytes_in r.tree)) (Sign 1) (codes "}") in
          let m = r.means (before ++ codes "{") (u ∷ rest) in (
            kind_at t.spot (K.List m.0),
            IsKind.list refl m.1 refl,
            same_form t.spot s (K.List m.0) form
                (bare-List m.0 ∙ ap (λ k. K.List k) m.2 ∙ sym (bare-List k)),
          );
      beside = λ before q us x.
          let v = token_after (before ++ (codes "{" ++ bytes_in r.tree)) (Sign 1) (codes "}") in
          SameTokens.same (sym here) (ap is_semicolon here)
          (r.beside (before ++ codes "{") q (v ∷ us) (SameTokens.same (sym there) (ap is_semicolon there) x));
    })

mutual
  pub kind_back : {ts rest : List Token} {k : PKind} → IsKind ts k rest → AllLegal ts →
      KindBack k ts rest × AllLegal rest
  kind_back (IsKind.int {t = t} {rest = rest} is) h = (int_back t rest is, h.1)
  kind_back (IsKind.text {t = t} {rest = rest} is) h = (text_back t rest is, h.1)
  kind_back (IsKind.net {t = t} {rest = rest} is) h = (net_back t rest is, h.1)
  kind_back (IsKind.tuple {t = t} {ts = ts} {rest = rest} {kinds = ks} is x) h =
      let p = listed_kinds x h.1 in (tuple_back t ks ts rest is p.0, p.1)
  kind_back (IsKind.list {t = t} {u = u} {ts = ts} {rest = rest} {kind = k} is x a) h =
      let p = kind_back x h.1 in (list_back t u k ts rest is a p.0, p.1.1)

  pub listed_kinds : {close : TokenKind} {ts rest : List Token} {ks : List PKind} →
      AreListed close ts ks rest → AllLegal ts →
      Listed KindBack comma close ts ks rest × AllLegal rest
  listed_kinds (AreListed.nothing is) h = (Listed.none_in is, h.1)
  listed_kinds (AreListed.some x is) h = let p = are_kinds x h in (some_listed p.0 is, p.1.1)

  are_kinds : {ts rest : List Token} {ks : List PKind} → AreKinds ts ks rest → AllLegal ts →
      Some_back KindBack comma ks ts rest × AllLegal rest
  are_kinds (AreKinds.kinds x m) h =
      let p = kind_back x h in
      let q = more_kinds m p.1 in (some_back p.0 q.0, q.1)

  more_kinds : {before ks : List PKind} {ts rest : List Token} → AreMoreKinds before ts ks rest →
      AllLegal ts → Others KindBack comma before ks ts rest × AllLegal rest
  more_kinds (AreMoreKinds.no_more_kinds {all = all} {rest = rest}) h =
      (no_others KindBack comma all rest, h)
  more_kinds (AreMoreKinds.more_kinds {before = before} {kind = k} is x m) h =
      let p = kind_back x h.1 in
      let q = more_kinds m p.1 in (one_more KindBack before k is p.0 q.0, q.1)

-- The kind of a place, with its colon: where what follows it stands beside the text, and the text is
-- within the limits, so is the whole.
abbrev pub StaysShallow : List Token → List Token → Tree → Type 0
StaysShallow ts mid tree =
    (before : List ℕ) (c : Token) (ending later us : List Token) → c.kind ≡ colon →
    SameTokens ending later mid us → IsShallow (declaring 0) ts →
    IsShallow between ending
    × (IsShallow between later → IsShallow (declaring 0) (c ∷ tokens_in before tree us))

abbrev pub PlaceKind : PKind → List Token → List Token → Type 0
PlaceKind k ts mid = Reads IsKind kind_unplaced k (kind_text k) (StaysShallow ts mid)

pub given_kind : (t : Token) (k : PKind) (ts mid : List Token) → t.kind ≡ colon →
    KindBack k ts mid → PlaceKind k (t ∷ ts) mid
given_kind t k ts mid here r = record {
  tree = r.tree;
  spells = r.spells;
  stands = r.stands;
  means = r.means;
  beside = λ before c ending later us is x h.
      shallow (SameTokens.same {t = t} {u = c} (is ∙ sym here) (ap is_semicolon here) (r.beside before (ending, later) us x)) 0 h;
}

pub absent_kind : (s : Spot) (ts : List Token) → PlaceKind (kind_at s (K.Tuple [])) ts ts
absent_kind s ts =
    let form = K.Tuple [] in
    reads_text IsKind kind_unplaced (kind_at s form) (codes "[]") (kind_text (kind_at s form))
    (StaysShallow ts ts) (sym (text-at s form ∙ text-Tuple [])) (record {
      tree = both (sign_tree 2 (codes "[")) (sign_tree 3 (codes "]"));
      spells = refl;
      stands = λ rest h. (open_bracket_stands (codes "]" ++ rest), close_bracket_stands rest);
      means = λ before rest.
          let t = token_after before (Sign 2) (codes "[") in (
            kind_at t.spot form,
            IsKind.tuple refl (AreListed.nothing refl),
            same_form t.spot s form form refl,
          );
      beside = λ before c ending later us is x h.
          let p = shallow x 0 h in
          let tokens = tokens_in before (both (sign_tree 2 (codes "[")) (sign_tree 3 (codes "]"))) us in (
            p.0,
            λ y. subst
                (λ kind. (is_too_deep (declaring 0) kind ≡ false) × IsShallow (after (declaring 0) kind) tokens)
                (sym is) (refl, (refl, (refl, p.1 y))),
          );
    })
