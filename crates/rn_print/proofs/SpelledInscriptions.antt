-- Where some tokens stand for an inscription, its text is read back.
use Rattle.std.proofs.Common.{◌≡◌, ℕ, true, List, [], ◌∷◌, ◌++◌, map, refl, sym, ap, ◌∙◌, subst, ◌⊎◌, inl, inr, arith}
use Rattle.std.specs.Prelude.{codes, Some, None}
use Rattle.std.proofs.lemmas.Bool.Decides.{nat_tests}
use Rattle.std.proofs.lemmas.Grind.{common_steps}
use Rattle.rn_value.specs.Words.{reserved_words}
use Rattle.rn_notation.specs.Tokens.{IsGap, IsToken}
use Rattle.rn_notation.specs.Reading.{gap, token, token_after}
use Rattle.rn_notation.specs.declared.token.Spot.{Spot}
use Rattle.rn_notation.specs.declared.token.Token.{Token}
use Rattle.rn_notation.specs.declared.token.TokenKind.{TokenKind}
use Rattle.rn_notation.specs.declared.token.TokenKind.TheVariants.{Name, Word, Number, Text, Sign}
use Rattle.rn_model.specs.declared.system.ArcKind.{ArcKind}
use Rattle.rn_model.specs.declared.system.ArcKind.TheVariants.{Input, Output, Test, Reserve}
use Rattle.rn_model.specs.declared.system.ArcKind.TheVariants.{FlexInput, FlexOutput, Inhibit}
use Rattle.rn_model.specs.declared.system.ArcKind.TheVariants.{Clear}
use Rattle.rn_inscript.specs.declared.exprs.PExpr.{PExpr}
use Rattle.rn_inscript.specs.declared.exprs.PForm.{PForm}
use Rattle.rn_inscript.specs.declared.exprs.PForm.TheVariants as F
use Rattle.rn_inscript.specs.declared.conds.PCond.{PCond}
use Rattle.rn_inscript.specs.declared.inscriptions.PName.{PName}
use Rattle.rn_inscript.specs.declared.inscriptions.PInscribed.{PInscribed}
use Rattle.rn_inscript.specs.declared.inscriptions.PInscribed.TheVariants as I
use Rattle.rn_inscript.specs.Signs.{comma, colon, equals, open_paren, close_paren, guard_word, action_word, print_word, new_word, arc_of, target_of}
use Rattle.rn_inscript.specs.Expressions.{at_spot, IsExpr, IsTerms, IsProduct, IsFactors, IsUnary, IsPrimary, IsListed}
use Rattle.rn_inscript.specs.Inscriptions.{name_at, absent, IsCall, IsInscribed}
use Rattle.rn_print.specs.Expressions.{expr_text, operand_text}
use Rattle.rn_print.specs.Inscriptions.{arc_word, call_text, inscribed_text}
use Rattle.rn_print.specs.SameButSpots.{expr_unplaced, name_unplaced, inscribed_unplaced}
use Rattle.rn_print.proofs.LeftOut.{LeftOut, is_plain, is_operand, at_operand, at_end}
use Rattle.rn_print.proofs.Beside.{Follows, Opens, First, Last, Ends}
use Rattle.rn_print.proofs.Separated.{Listed}
use Rattle.rn_print.proofs.Trees.{Tree, nothing, piece, both, bytes_in, tokens_in, Stands, Stops, Reads, reads_text}
use Rattle.rn_print.proofs.Atoms.{Legal, spaced, spaced_stands, name_stands, colon_stands, equals_stands, open_paren_stands, close_paren_stands, open_bracket_stands, close_bracket_stands}
use Rattle.rn_print.proofs.ExpressionTexts.{text-at, text-Name, text-This, text-Tuple}
use Rattle.rn_print.proofs.ExpressionBack.{Alone, sign_tree, listed_back, same_form}
use Rattle.rn_print.proofs.SpelledExpressions.{AllLegal, legal, expr_back, listed_legal}
use Rattle.rn_print.proofs.SpelledConditions.{CondBack, cond_back}

-- a reserved word and a space, a name, and `: `
abbrev pub word_tree : ℕ → List ℕ → Tree
word_tree k word = both (piece (token (Word k) word)) (piece (gap (codes " ")))

abbrev pub WordSpaced : ℕ → List ℕ → Type 0
WordSpaced k word = (rest : List ℕ) → IsToken (Word k) word (32 ∷ rest)

pub word_stands : (k : ℕ) (word rest : List ℕ) → WordSpaced k word → Stands (word_tree k word) rest
word_stands k word rest s = (s rest, IsGap.blank refl)

abbrev pub name_tree : List ℕ → Tree
name_tree s = piece (token (Name s) s)

abbrev pub colon_tree : Tree
colon_tree = both (sign_tree 8 (codes ":")) (piece (gap (codes " ")))

pub colon_space_stands : (rest : List ℕ) → Stands colon_tree rest
colon_space_stands rest = (colon_stands (codes " " ++ rest), IsGap.blank refl)

abbrev equals_tree : Tree
equals_tree = spaced 9 (codes "=")

-- the number and the bytes of the word of an arc
abbrev pub arc_number : ArcKind → ℕ
arc_number Input = 5
arc_number Output = 6
arc_number Test = 7
arc_number Reserve = 8
arc_number FlexInput = 9
arc_number FlexOutput = 10
arc_number Inhibit = 11
arc_number Clear = 12

abbrev pub arc_bytes : ArcKind → List ℕ
arc_bytes Input = codes "in"
arc_bytes Output = codes "out"
arc_bytes Test = codes "test"
arc_bytes Reserve = codes "reserve"
arc_bytes FlexInput = codes "flexin"
arc_bytes FlexOutput = codes "flexout"
arc_bytes Inhibit = codes "inhibit"
arc_bytes Clear = codes "clear"

-- the word of an arc: it stands, it is written so, it is the arc's, and it is no operand
abbrev pub ArcWord : ArcKind → Type 0
ArcWord kind =
    WordSpaced (arc_number kind) (arc_bytes kind)
    × (bytes_in (word_tree (arc_number kind) (arc_bytes kind)) ≡ arc_word kind)
    × (arc_of (Word (arc_number kind)) ≡ Some kind)
    × (is_plain (Word (arc_number kind)) ≡ true)

pub word_of_arc : (kind : ArcKind) → ArcWord kind
unfolding reserved_words
word_of_arc Input = (λ rest. IsToken.word refl refl refl, refl, refl, refl)
word_of_arc Output = (λ rest. IsToken.word refl refl refl, refl, refl, refl)
word_of_arc Test = (λ rest. IsToken.word refl refl refl, refl, refl, refl)
word_of_arc Reserve = (λ rest. IsToken.word refl refl refl, refl, refl, refl)
word_of_arc FlexInput = (λ rest. IsToken.word refl refl refl, refl, refl, refl)
word_of_arc FlexOutput = (λ rest. IsToken.word refl refl refl, refl, refl, refl)
word_of_arc Inhibit = (λ rest. IsToken.word refl refl refl, refl, refl, refl)
word_of_arc Clear = (λ rest. IsToken.word refl refl refl, refl, refl, refl)

number_of_arc : (k : ℕ) (kind : ArcKind) → arc_of (Word k) ≡ Some kind → k ≡ arc_number kind
number_of_arc k Input h = let e : k ≡ 5 = grind (arith, nat_tests, common_steps) in e
number_of_arc k Output h = let e : k ≡ 6 = grind (arith, nat_tests, common_steps) in e
number_of_arc k Test h = let e : k ≡ 7 = grind (arith, nat_tests, common_steps) in e
number_of_arc k Reserve h = let e : k ≡ 8 = grind (arith, nat_tests, common_steps) in e
number_of_arc k FlexInput h = let e : k ≡ 9 = grind (arith, nat_tests, common_steps) in e
number_of_arc k FlexOutput h = let e : k ≡ 10 = grind (arith, nat_tests, common_steps) in e
number_of_arc k Inhibit h = let e : k ≡ 11 = grind (arith, nat_tests, common_steps) in e
number_of_arc k Clear h = let e : k ≡ 12 = grind (arith, nat_tests, common_steps) in e

pub kind_of_arc : (t : TokenKind) (kind : ArcKind) → arc_of t ≡ Some kind →
    t ≡ Word (arc_number kind)
kind_of_arc (Word k) kind h = ap Word (number_of_arc k kind h)
kind_of_arc (Sign k) kind h = absurd (let no : ⊥ = cc in no)
kind_of_arc (Name s) kind h = absurd (let no : ⊥ = cc in no)
kind_of_arc (Number n) kind h = absurd (let no : ⊥ = cc in no)
kind_of_arc (Text s) kind h = absurd (let no : ⊥ = cc in no)

-- where an inscription begins and where it has ended, no bracket is open
abbrev pub From : Ends → List Token → List Token → Type 0
From q ts us = LeftOut q.0 q.1 at_operand [] ts us

abbrev pub To : Ends → List Token → List Token → Type 0
To q ts us = LeftOut q.0 q.1 at_end [] ts us

abbrev none_open : Ends → Opens
none_open q = (q.0, q.1, [])

-- the text of the inscription is read back, beside these tokens of another text
abbrev pub InscribedBack : PInscribed → List Token → List Token → Type 0
InscribedBack form ts ending =
    Reads IsInscribed inscribed_unplaced form (inscribed_text form) (Follows From To ts ending)

abbrev pub LegalName : PName → Type 0
LegalName name = Legal (Name name.text)

-- an expression after the place of an arc
abbrev Labels : List Token → List Token → Tree → Type 0
Labels ts ending tree = (before : List ℕ) (q : Ends) (us : List Token) → To q ending us →
    To q ts (tokens_in before (both colon_tree tree) us)

abbrev Label : PExpr → List Token → List Token → Type 0
Label e ts ending = Reads IsExpr expr_unplaced e (expr_text e) (Labels ts ending)

label : (v : Token) (e : PExpr) (ts ending : List Token) → v.kind ≡ colon → Alone e ts ending →
    Label e (v ∷ ts) ending
label v e ts ending here r = record {
  tree = r.tree;
  spells = r.spells;
  stands = r.stands;
  means = r.means;
  beside = λ before q us x.
      LeftOut.joining (sym here) (ap is_plain here) (r.beside (before ++ codes ": ") (none_open q) us x);
}

black_label : (s : Spot) (ending : List Token) → Label (at_spot s (F.Tuple [])) ending ending
black_label s ending =
    let e = at_spot s (F.Tuple []) in
    reads_text IsExpr expr_unplaced e (codes "[]") (expr_text e) (Labels ending ending)
    (sym (text-at s (F.Tuple []) 0 ∙ text-Tuple [] 0)) (record {
      tree = both (sign_tree 2 (codes "[")) (sign_tree 3 (codes "]"));
      spells = refl;
      stands = λ rest h. (open_bracket_stands (codes "]" ++ rest), close_bracket_stands rest);
      means = λ before rest.
          let t = token_after before (Sign 2) (codes "[") in (
            at_spot t.spot (F.Tuple []),
            IsExpr.sum (IsProduct.product (IsUnary.primary
                (IsPrimary.tuple refl (IsListed.nothing refl))) IsFactors.no_more_factors)
                IsTerms.no_more_terms,
            same_form t.spot s (F.Tuple []) (F.Tuple []) refl,
          );
      beside = λ before q us x. LeftOut.nothing_said refl refl refl x;
    })

arc_back : (t u : Token) (kind : ArcKind) (p : List ℕ) (e : PExpr) (ts ending : List Token) →
    arc_of t.kind ≡ Some kind → u.kind ≡ Name p → Legal (Name p) → Label e ts ending →
    InscribedBack (I.Arc kind (name_at u.spot p) (Some e)) (t ∷ u ∷ ts) ending
arc_back t u kind p e ts ending arc here is r =
    let word = word_tree (arc_number kind) (arc_bytes kind) in
    let first = kind_of_arc t.kind kind arc in record {
      tree = both (both word (name_tree p)) (both colon_tree r.tree);
      spells =
          ap (λ t. (t ++ p) ++ (codes ": " ++ bytes_in r.tree)) (word_of_arc kind).1
          ∙ ap (λ t. (arc_word kind ++ p) ++ (codes ": " ++ t)) r.spells;
      stands = λ rest h.
          let after = (codes ": " ++ bytes_in r.tree) ++ rest in (
            (
              word_stands (arc_number kind) (arc_bytes kind) (p ++ after) (word_of_arc kind).0,
              name_stands p after is refl,
            ),
            (colon_space_stands (bytes_in r.tree ++ rest), r.stands rest h),
          );
      means = λ before rest.
          let v = token_after (before ++ bytes_in word) (Name p) p in
          let m = r.means ((before ++ (bytes_in word ++ p)) ++ codes ": ") rest in (
            I.Arc kind (name_at v.spot p) (Some m.0),
            IsInscribed.arc (word_of_arc kind).2 refl refl m.1,
            ap (λ e. I.Arc kind (name_unplaced (name_at u.spot p)) (Some e)) m.2,
          );
      beside = λ before q us x.
          LeftOut.leading (sym first) (ap is_plain first ∙ (word_of_arc kind).3)
          (LeftOut.operand (sym here) (ap is_operand here)
          (r.beside (before ++ (bytes_in word ++ p)) q us x));
    }

bare_arc_back : (t u : Token) (kind : ArcKind) (p : List ℕ) (ending : List Token) →
    ((s : Spot) → absent kind s ≡ None) → arc_of t.kind ≡ Some kind → u.kind ≡ Name p →
    Legal (Name p) → InscribedBack (I.Arc kind (name_at u.spot p) None) (t ∷ u ∷ ending) ending
bare_arc_back t u kind p ending none arc here is =
    let word = word_tree (arc_number kind) (arc_bytes kind) in
    let first = kind_of_arc t.kind kind arc in record {
      tree = both (both word (name_tree p)) nothing;
      spells = ap (λ t. (t ++ p) ++ []) (word_of_arc kind).1;
      stands = λ rest h. (
        (
          word_stands (arc_number kind) (arc_bytes kind) (p ++ rest) (word_of_arc kind).0,
          name_stands p rest is h,
        ),
        tt,
      );
      means = λ before rest.
          let v = token_after (before ++ bytes_in word) (Name p) p in (
            I.Arc kind (name_at v.spot p) (absent kind v.spot),
            IsInscribed.plain_arc (word_of_arc kind).2 refl,
            ap (λ e. inscribed_unplaced (I.Arc kind (name_at u.spot p) e)) (none v.spot),
          );
      beside = λ before q us x.
          LeftOut.leading (sym first) (ap is_plain first ∙ (word_of_arc kind).3)
          (LeftOut.operand (sym here) (ap is_operand here) x);
    }

-- an arc without an inscription
abbrev PlainArc : ArcKind → Type 0
PlainArc kind = (t u : Token) (p : List ℕ) (ending : List Token) → arc_of t.kind ≡ Some kind →
    u.kind ≡ Name p → Legal (Name p) →
    InscribedBack (I.Arc kind (name_at u.spot p) (absent kind u.spot)) (t ∷ u ∷ ending) ending

black_back : (kind : ArcKind) (t u : Token) (p : List ℕ) (ending : List Token) →
    arc_of t.kind ≡ Some kind → u.kind ≡ Name p → Legal (Name p) →
    InscribedBack (I.Arc kind (name_at u.spot p) (Some (at_spot u.spot (F.Tuple []))))
    (t ∷ u ∷ ending) ending
black_back kind t u p ending arc here is =
    arc_back t u kind p (at_spot u.spot (F.Tuple [])) ending ending arc here is
    (black_label u.spot ending)

plain_arc_back : (kind : ArcKind) → PlainArc kind
plain_arc_back Input t u p ending = black_back Input t u p ending
plain_arc_back Output t u p ending = black_back Output t u p ending
plain_arc_back Test t u p ending = black_back Test t u p ending
plain_arc_back Reserve t u p ending = black_back Reserve t u p ending
plain_arc_back FlexInput t u p ending = bare_arc_back t u FlexInput p ending (λ s. refl)
plain_arc_back FlexOutput t u p ending = bare_arc_back t u FlexOutput p ending (λ s. refl)
plain_arc_back Inhibit t u p ending = black_back Inhibit t u p ending
plain_arc_back Clear t u p ending = bare_arc_back t u Clear p ending (λ s. refl)

guard_stands : WordSpaced 13 (codes "guard")
unfolding reserved_words
guard_stands rest = IsToken.word refl refl refl

action_stands : WordSpaced 14 (codes "action")
unfolding reserved_words
action_stands rest = IsToken.word refl refl refl

print_stands : WordSpaced 15 (codes "print")
unfolding reserved_words
print_stands rest = IsToken.word refl refl refl

new_stands : WordSpaced 16 (codes "new")
unfolding reserved_words
new_stands rest = IsToken.word refl refl refl

guard_back : (t : Token) (c : PCond) (ts ending : List Token) → t.kind ≡ guard_word →
    CondBack c ts ending → InscribedBack (I.Guard c) (t ∷ ts) ending
guard_back t c ts ending here r = record {
  tree = both (word_tree 13 (codes "guard")) r.tree;
  spells = ap (λ t. codes "guard " ++ t) r.spells;
  stands = λ rest h.
      (word_stands 13 (codes "guard") (bytes_in r.tree ++ rest) guard_stands, r.stands rest h);
  means = λ before rest.
      let m = r.means (before ++ codes "guard ") rest in
      (I.Guard m.0, IsInscribed.guard refl m.1, ap (λ c. I.Guard c) m.2);
  beside = λ before q us x.
      LeftOut.leading (sym here) (ap is_plain here)
      (r.beside (before ++ codes "guard ") (none_open q) us x);
}

print_back : (t u : Token) (e : PExpr) (ts ending : List Token) → t.kind ≡ action_word →
    u.kind ≡ print_word → Alone e ts ending → InscribedBack (I.Print e) (t ∷ u ∷ ts) ending
print_back t u e ts ending here there r = record {
  tree = both (both (word_tree 14 (codes "action")) (word_tree 15 (codes "print"))) r.tree;
  spells = ap (λ t. codes "action print " ++ t) r.spells;
  stands = λ rest h.
      let after = bytes_in r.tree ++ rest in (
        (
          word_stands 14 (codes "action") (codes "print " ++ after) action_stands,
          word_stands 15 (codes "print") after print_stands,
        ),
        r.stands rest h,
      );
  means = λ before rest.
      let m = r.means (before ++ codes "action print ") rest in
      (I.Print m.0, IsInscribed.print refl refl m.1, ap (λ e. I.Print e) m.2);
  beside = λ before q us x.
      LeftOut.leading (sym here) (ap is_plain here) (LeftOut.leading (sym there) (ap is_plain there)
      (r.beside (before ++ codes "action print ") (none_open q) us x));
}

set_back : (t u v : Token) (x : PName) (e : PExpr) (ts ending : List Token) →
    t.kind ≡ action_word → u.kind ≡ Name x.text → v.kind ≡ equals → LegalName x →
    Alone e ts ending → InscribedBack (I.Set x e) (t ∷ u ∷ v ∷ ts) ending
set_back t u v x e ts ending i j k is r = record {
  tree = both (both (both (word_tree 14 (codes "action")) (name_tree x.text)) equals_tree) r.tree;
  spells = ap (λ t. codes "action " ++ x.text ++ codes " = " ++ t) r.spells;
  stands = λ rest h.
      let right = bytes_in r.tree ++ rest in (
        (
          (
            word_stands 14 (codes "action") (x.text ++ (codes " = " ++ right)) action_stands,
            name_stands x.text (codes " = " ++ right) is refl,
          ),
          spaced_stands 9 (codes "=") right equals_stands,
        ),
        r.stands rest h,
      );
  means = λ before rest.
      let u = token_after (before ++ codes "action ") (Name x.text) x.text in
      let m = r.means (before ++ ((codes "action " ++ x.text) ++ codes " = ")) rest in (
        I.Set (name_at u.spot x.text) m.0,
        IsInscribed.set refl refl refl m.1,
        ap (λ e. I.Set (name_unplaced x) e) m.2,
      );
  beside = λ before q us y.
      LeftOut.leading (sym i) (ap is_plain i) (LeftOut.operand (sym j) (ap is_operand j)
      (LeftOut.joining (sym k) (ap is_plain k)
      (r.beside (before ++ ((codes "action " ++ x.text) ++ codes " = ")) (none_open q) us y)));
}

creation_back : (t u v w : Token) (x n : PName) (ending : List Token) → t.kind ≡ Name x.text →
    u.kind ≡ colon → v.kind ≡ new_word → w.kind ≡ Name n.text → LegalName x → LegalName n →
    InscribedBack (I.New x n) (t ∷ u ∷ v ∷ w ∷ ending) ending
creation_back t u v w x n ending i j k l is names = record {
  tree = both (both (name_tree x.text) (both colon_tree (word_tree 16 (codes "new"))))
      (name_tree n.text);
  spells = refl;
  stands = λ rest h.
      let end = n.text ++ rest in (
        (
          name_stands x.text (codes ": new " ++ end) is refl,
          (colon_space_stands (codes "new " ++ end), word_stands 16 (codes "new") end new_stands),
        ),
        name_stands n.text rest names h,
      );
  means = λ before rest.
      let t = token_after before (Name x.text) x.text in
      let w = token_after (before ++ (x.text ++ codes ": new ")) (Name n.text) n.text in (
        I.New (name_at t.spot x.text) (name_at w.spot n.text),
        IsInscribed.creation refl refl refl refl,
        refl,
      );
  beside = λ before q us y.
      LeftOut.operand (sym i) (ap is_operand i) (LeftOut.joining (sym j) (ap is_plain j)
      (LeftOut.leading (sym k) (ap is_plain k) (LeftOut.operand (sym l) (ap is_operand l) y)));
}

-- a call
abbrev call_unplaced : PName × List PExpr → PName × List PExpr
call_unplaced call = (name_unplaced call.0, map expr_unplaced call.1)

abbrev CallBack : PName → List PExpr → List Token → List Token → Type 0
CallBack ch es ts ending =
    Reads IsCall call_unplaced (ch, es) (call_text ch es) (Follows First Last ts ending)

call_back : (t u : Token) (ch : PName) (es : List PExpr) (ts ending : List Token) →
    t.kind ≡ Name ch.text → u.kind ≡ open_paren → LegalName ch →
    Listed Alone comma close_paren ts es ending → CallBack ch es (t ∷ u ∷ ts) ending
call_back t u ch es ts ending here there is each =
    let r = listed_back 5 (codes ")") close_paren_stands (λ rest. refl) refl es ts ending each in record {
      tree = both (name_tree ch.text) (both (sign_tree 4 (codes "(")) r.tree);
      spells = ap (λ t. ch.text ++ (codes "(" ++ t)) r.spells;
      stands = λ rest h. (
        name_stands ch.text ((codes "(" ++ bytes_in r.tree) ++ rest) is refl,
        (open_paren_stands (bytes_in r.tree ++ rest), r.stands rest h),
      );
      means = λ before rest.
          let t = token_after before (Name ch.text) ch.text in
          let m = r.means ((before ++ ch.text) ++ codes "(") rest in (
            (name_at t.spot ch.text, m.0),
            IsCall.call refl refl m.1,
            ap (λ es. (name_unplaced ch, es)) m.2,
          );
      beside = λ before q us x.
          LeftOut.calling here there refl refl (r.beside ((before ++ ch.text) ++ codes "(") q us x);
    }

uplink_back : (t : Token) (ch : PName) (es : List PExpr) (ts ending : List Token) →
    t.kind ≡ colon → CallBack ch es ts ending → InscribedBack (I.Uplink ch es) (t ∷ ts) ending
uplink_back t ch es ts ending here r = record {
  tree = both (sign_tree 8 (codes ":")) r.tree;
  spells = ap (λ t. codes ":" ++ t) r.spells;
  stands = λ rest h. (colon_stands (bytes_in r.tree ++ rest), r.stands rest h);
  means = λ before rest.
      let m = r.means (before ++ codes ":") rest in (
        I.Uplink m.0.0 m.0.1,
        IsInscribed.uplink refl m.1,
        ap (λ (c : PName × List PExpr). I.Uplink c.0 c.1) m.2,
      );
  beside = λ before q us x.
      LeftOut.leading (sym here) (ap is_plain here) (r.beside (before ++ codes ":") (none_open q) us x);
}

target_back : (t u : Token) (form : PForm) (kind : TokenKind) (text : List ℕ) (ch : PName)
    (es : List PExpr) (ts ending : List Token) → t.kind ≡ kind → is_operand kind ≡ true →
    u.kind ≡ colon → ((rest : List ℕ) → Stops rest → IsToken kind text rest) →
    target_of kind ≡ Some form → operand_text (at_spot t.spot form) 0 ≡ text →
    CallBack ch es ts ending →
    InscribedBack (I.Downlink (at_spot t.spot form) ch es) (t ∷ u ∷ ts) ending
target_back t u form kind text ch es ts ending here operand there stands is same r =
    let s = t.spot in
    let target = at_spot s form in record {
      tree = both (both (piece (token kind text)) (sign_tree 8 (codes ":"))) r.tree;
      spells =
          ap (λ t. text ++ codes ":" ++ t) r.spells
          ∙ ap (λ t. t ++ codes ":" ++ call_text ch es) (sym same);
      stands = λ rest h.
          let after = bytes_in r.tree ++ rest in
          ((stands (codes ":" ++ after) refl, colon_stands after), r.stands rest h);
      means = λ before rest.
          let t = token_after before kind text in
          let m = r.means (before ++ (text ++ codes ":")) rest in (
            I.Downlink (at_spot t.spot form) m.0.0 m.0.1,
            IsInscribed.downlink is refl m.1,
            ap (λ e. I.Downlink e (name_unplaced m.0.0) (map expr_unplaced m.0.1))
                (same_form t.spot s form form refl)
                ∙ ap (λ (c : PName × List PExpr). I.Downlink (expr_unplaced target) c.0 c.1) m.2,
          );
      beside = λ before q us x.
          LeftOut.operand (sym here) (ap is_operand here ∙ operand)
          (LeftOut.joining (sym there) (ap is_plain there)
          (r.beside (before ++ (text ++ codes ":")) (none_open q) us x));
    }

-- a target is a name or `this`
abbrev Targets : TokenKind → PForm → Type 0
Targets kind form =
    ((s : List ℕ) × (F.Name s ≡ form) × Legal (Name s) × (kind ≡ Name s))
    ⊎ ((F.This ≡ form) × (kind ≡ Word 17))

target_cases : (kind : TokenKind) (form : PForm) → target_of kind ≡ Some form → Legal kind →
    Targets kind form
target_cases (Name s) form e is = inl (s, (let same : F.Name s ≡ form = cc in same), is, refl)
target_cases (Word k) form e is =
    let number : k ≡ 17 = grind (arith, nat_tests, common_steps) in
    let is : Some F.This ≡ Some form = sym (ap (λ k. target_of (Word k)) number) ∙ e in
    inr ((let same : F.This ≡ form = cc in same), ap Word number)
target_cases (Number z) form e is = absurd (let no : ⊥ = cc in no)
target_cases (Text s) form e is = absurd (let no : ⊥ = cc in no)
target_cases (Sign k) form e is = absurd (let no : ⊥ = cc in no)

this_stands : (rest : List ℕ) → Stops rest → IsToken (Word 17) (codes "this") rest
unfolding reserved_words
this_stands rest h = IsToken.word refl h refl

downlink_back : (t u : Token) (form : PForm) (ch : PName) (es : List PExpr)
    (ts ending : List Token) → target_of t.kind ≡ Some form → Legal t.kind → u.kind ≡ colon →
    CallBack ch es ts ending →
    InscribedBack (I.Downlink (at_spot t.spot form) ch es) (t ∷ u ∷ ts) ending
downlink_back t u form ch es ts ending e is there r =
    let s = t.spot in
    let Goal = λ (form : PForm). InscribedBack (I.Downlink (at_spot s form) ch es) (t ∷ u ∷ ts) ending in
    elim (target_cases t.kind form e is) [
      | inl name ↦
          subst Goal name.1
          (target_back t u (F.Name name.0) (Name name.0) name.0 ch es ts ending name.3 refl there
          (λ rest h. name_stands name.0 rest name.2 h) refl
          (text-at s (F.Name name.0) 0 ∙ text-Name name.0 0) r)
      | inr this ↦
          subst Goal this.0
          (target_back t u F.This (Word 17) (codes "this") ch es ts ending this.1 refl there
          this_stands refl (text-at s F.This 0 ∙ text-This 0) r)
    ]

equality_back : (v : Token) (a b : PExpr) (ts us ending : List Token) → v.kind ≡ equals →
    Alone a ts (v ∷ us) → Alone b us ending → InscribedBack (I.Equality a b) ts ending
equality_back v a b ts us ending here ra rb = record {
  tree = both (both ra.tree equals_tree) rb.tree;
  spells =
      ap (λ t. t ++ codes " = " ++ bytes_in rb.tree) ra.spells
      ∙ ap (λ t. expr_text a ++ codes " = " ++ t) rb.spells;
  stands = λ rest h.
      let right = bytes_in rb.tree ++ rest in (
        (ra.stands (codes " = " ++ right) refl, spaced_stands 9 (codes "=") right equals_stands),
        rb.stands rest h,
      );
  means = λ before rest.
      let after = before ++ (bytes_in ra.tree ++ codes " = ") in
      let t = token_after ((before ++ bytes_in ra.tree) ++ codes " ") (Sign 9) (codes "=") in
      let n = rb.means after rest in
      let m = ra.means before (t ∷ tokens_in after rb.tree rest) in (
        I.Equality m.0 n.0,
        IsInscribed.equality m.1 refl n.1,
        ap (λ a. I.Equality a (expr_unplaced n.0)) m.2
            ∙ ap (λ b. I.Equality (expr_unplaced a) b) n.2,
      );
  beside = λ before q xs x.
      let after = before ++ (bytes_in ra.tree ++ codes " = ") in
      let right = tokens_in after rb.tree xs in
      let t = token_after ((before ++ bytes_in ra.tree) ++ codes " ") (Sign 9) (codes "=") in
      ra.beside before (none_open q) (t ∷ right)
      (LeftOut.joining (sym here) (ap is_plain here) (rb.beside after (none_open q) xs x));
}

called : {ts rest : List Token} {call : PName × List PExpr} → IsCall ts call rest → AllLegal ts →
    CallBack call.0 call.1 ts rest × AllLegal rest
called (IsCall.call {t = t} {u = u} {ts = ts} {rest = rest} {ch = ch} {es = es} is a x) h =
    let p = listed_legal x h.1.1 in
    (call_back t u (name_at t.spot ch) es ts rest is a (legal is h.0) p.0, p.1)

pub form_back : {ts rest : List Token} {form : PInscribed} → IsInscribed ts form rest →
    AllLegal ts → InscribedBack form ts rest × AllLegal rest
form_back (IsInscribed.plain_arc {t = t} {u = u} {rest = rest} {kind = kind} {p = p} is a) h =
    (plain_arc_back kind t u p rest is a (legal a h.1.0), h.1.1)
form_back (IsInscribed.arc {t = t} {u = u} {v = v} {ts = ts} {rest = rest} {kind = kind} {p = p} {e = e} is a b x) h =
    let q = expr_back x h.1.1.1 in
    (arc_back t u kind p e (v ∷ ts) rest is a (legal a h.1.0) (label v e ts rest b q.0.alone), q.1)
form_back (IsInscribed.guard {t = t} {ts = ts} {rest = rest} {c = c} is x) h =
    let p = cond_back x h.1 in (guard_back t c ts rest is p.0, p.1)
form_back (IsInscribed.print {t = t} {u = u} {ts = ts} {rest = rest} {e = e} is a x) h =
    let p = expr_back x h.1.1 in (print_back t u e ts rest is a p.0.alone, p.1)
form_back (IsInscribed.set {t = t} {u = u} {v = v} {ts = ts} {rest = rest} {x = n} {e = e} is a b x) h =
    let p = expr_back x h.1.1.1 in
    (set_back t u v (name_at u.spot n) e ts rest is a b (legal a h.1.0) p.0.alone, p.1)
form_back (IsInscribed.uplink {t = t} {ts = ts} {rest = rest} {call = call} is x) h =
    let p = called x h.1 in (uplink_back t call.0 call.1 ts rest is p.0, p.1)
form_back (IsInscribed.creation {t = t} {u = u} {v = v} {w = w} {rest = rest} {x = x} {n = n} is a b d) h = (
  creation_back t u v w (name_at t.spot x) (name_at w.spot n) rest is a b d (legal is h.0)
      (legal d h.1.1.1.0),
  h.1.1.1.1,
)
form_back (IsInscribed.downlink {t = t} {u = u} {ts = ts} {rest = rest} {form = form} {call = call} is a x) h =
    let p = called x h.1.1 in
    (downlink_back t u form call.0 call.1 ts rest is h.0 a p.0, p.1)
form_back (IsInscribed.equality {t = t} {ts = ts} {us = us} {rest = rest} {a = a} {b = b} x is y) h =
    let p = expr_back x h in
    let q = expr_back y p.1.1 in
    (equality_back t a b ts us rest is p.0.alone q.0.alone, q.1)
