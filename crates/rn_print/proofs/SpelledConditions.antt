-- Where some tokens stand for a condition, its text is read back.
use Rattle.std.proofs.Common.{◌≡◌, ℕ, true, List, ◌∷◌, ◌++◌, map, refl, sym, ap, ◌∙◌, subst, arith}
use Rattle.std.specs.Prelude.{codes, Some}
use Rattle.std.specs.List.{join_by}
use Rattle.std.proofs.lemmas.Bool.Decides.{nat_tests}
use Rattle.std.proofs.lemmas.Grind.{common_steps}
use Rattle.rn_notation.specs.Words.{signs}
use Rattle.rn_notation.specs.Tokens.{IsToken}
use Rattle.rn_notation.specs.Reading.{token_after}
use Rattle.rn_notation.specs.declared.token.Token.{Token}
use Rattle.rn_notation.specs.declared.token.TokenKind.{TokenKind}
use Rattle.rn_notation.specs.declared.token.TokenKind.TheVariants.{Name, Word, Number, Text, Sign}
use Rattle.rn_model.specs.declared.expr.CompareKind.{CompareKind}
use Rattle.rn_model.specs.declared.expr.CompareKind.TheVariants.{Same, Differs, Less, AtMost}
use Rattle.rn_model.specs.declared.expr.CompareKind.TheVariants.{Greater, AtLeast}
use Rattle.rn_inscript.specs.declared.exprs.PExpr.{PExpr}
use Rattle.rn_inscript.specs.declared.conds.PCond.{PCond, fold-roll-PCond, roll-PCond}
use Rattle.rn_inscript.specs.declared.conds.PSimple.{PSimple, fold_out-PSimple, map-PSimple, out-PSimple}
use Rattle.rn_inscript.specs.declared.conds.PSimple.TheVariants as S
use Rattle.rn_inscript.specs.Signs.{compare_of, and_sign, or_sign, not_sign, open_paren, close_paren}
use Rattle.rn_inscript.specs.Levels.{opens, closes}
use Rattle.rn_inscript.specs.Conditions.{any_of, IsCond, IsAlternatives, IsMoreAlternatives, IsBoth, IsMoreBoth, IsSimple}
use Rattle.rn_print.specs.Pieces.{in_parentheses}
use Rattle.rn_print.specs.Expressions.{expr_text}
use Rattle.rn_print.specs.Conditions.{comparison, simple_step, cond_step, all_step, cond_text, simple_text}
use Rattle.rn_print.specs.SameButSpots.{expr_unplaced, simple_moved, cond_unplaced, simple_unplaced}
use Rattle.rn_print.proofs.Trees.{both, bytes_in, tokens_in, Reads, reads_text}
use Rattle.rn_print.proofs.Atoms.{Spaced, spaced, spaced_stands, open_paren_stands, close_paren_stands, not_stands}
use Rattle.rn_print.proofs.LeftOut.{LeftOut, is_plain}
use Rattle.rn_print.proofs.Beside.{Follows, First, Last, pushed, inscribed}
use Rattle.rn_print.proofs.Separated.{Separator, Rows, some}
use Rattle.rn_print.proofs.ExpressionBack.{Alone, sign_tree}
use Rattle.rn_print.proofs.SpelledExpressions.{AllLegal, Others, no_others, one_more, Some_back, some_back, expr_back}

-- the texts of conditions by their parts
pub text-any : (all : List (List PSimple)) →
    cond_text (any_of all) ≡ join_by all_step (codes " || ") (map (map simple_text) all)
text-any all = fold-roll-PCond (List ℕ) (List ℕ) simple_step cond_step (record { any = all })

pub out : (s : PSimple) →
    simple_text s
    ≡ simple_step (map-PSimple PSimple PCond (List ℕ) (List ℕ) simple_text cond_text (out-PSimple s))
out s = fold_out-PSimple (List ℕ) (List ℕ) simple_step cond_step s

pub text-Compare : (kind : CompareKind) (a b : PExpr) →
    simple_text (S.Compare kind a b) ≡ expr_text a ++ comparison kind ++ expr_text b
text-Compare kind a b = out (S.Compare kind a b) ∙ rw (S.outs-Compare kind a b)

pub text-Bare : (a : PExpr) → simple_text (S.Bare a) ≡ expr_text a
text-Bare a = out (S.Bare a) ∙ rw (S.outs-Bare a)

pub text-Not : (c : PCond) → simple_text (S.Not c) ≡ codes "!" ++ in_parentheses (cond_text c)
text-Not c = out (S.Not c) ∙ rw (S.outs-Not c)

-- the same without spots
pub bare-any : (all : List (List PSimple)) →
    cond_unplaced (any_of all) ≡ any_of (map (map simple_unplaced) all)
bare-any all = fold-roll-PCond PSimple PCond simple_moved roll-PCond (record { any = all })

pub bare : (s : PSimple) →
    simple_unplaced s
    ≡ simple_moved (map-PSimple PSimple PCond PSimple PCond simple_unplaced cond_unplaced (out-PSimple s))
bare s = fold_out-PSimple PSimple PCond simple_moved roll-PCond s

pub bare-Compare : (kind : CompareKind) (a b : PExpr) →
    simple_unplaced (S.Compare kind a b) ≡ S.Compare kind (expr_unplaced a) (expr_unplaced b)
bare-Compare kind a b = bare (S.Compare kind a b) ∙ rw (S.outs-Compare kind a b)

pub bare-Bare : (a : PExpr) → simple_unplaced (S.Bare a) ≡ S.Bare (expr_unplaced a)
bare-Bare a = bare (S.Bare a) ∙ rw (S.outs-Bare a)

pub bare-Not : (c : PCond) → simple_unplaced (S.Not c) ≡ S.Not (cond_unplaced c)
bare-Not c = bare (S.Not c) ∙ rw (S.outs-Not c)

-- the texts are read back, beside these tokens of another text
abbrev pub CondBack : PCond → List Token → List Token → Type 0
CondBack c ts ending = Reads IsCond cond_unplaced c (cond_text c) (Follows First Last ts ending)

abbrev pub SimpleBack : PSimple → List Token → List Token → Type 0
SimpleBack s ts ending =
    Reads IsSimple simple_unplaced s (simple_text s) (Follows First Last ts ending)

abbrev BothBack : List PSimple → List Token → List Token → Type 0
BothBack b ts ending =
    Reads IsBoth (map simple_unplaced) b (all_step (map simple_text b)) (Follows First Last ts ending)

-- the number and the bytes of the sign of a comparison
abbrev compare_sign : CompareKind → ℕ
compare_sign Same = 10
compare_sign Differs = 11
compare_sign Less = 12
compare_sign AtMost = 13
compare_sign Greater = 14
compare_sign AtLeast = 15

abbrev compare_bytes : CompareKind → List ℕ
compare_bytes Same = codes "=="
compare_bytes Differs = codes "!="
compare_bytes Less = codes "<"
compare_bytes AtMost = codes "<="
compare_bytes Greater = codes ">"
compare_bytes AtLeast = codes ">="

-- the sign of a comparison: it stands, it is written so, it is the comparison's, and it is no operand
abbrev CompareSign : CompareKind → Type 0
CompareSign kind =
    Spaced (compare_sign kind) (compare_bytes kind)
    × (bytes_in (spaced (compare_sign kind) (compare_bytes kind)) ≡ comparison kind)
    × (compare_of (Sign (compare_sign kind)) ≡ Some kind)
    × (is_plain (Sign (compare_sign kind)) ≡ true)

sign_of : (kind : CompareKind) → CompareSign kind
unfolding signs
sign_of Same = (λ rest. IsToken.sign refl refl refl, refl, refl, refl)
sign_of Differs = (λ rest. IsToken.sign refl refl refl, refl, refl, refl)
sign_of Less = (λ rest. IsToken.sign refl refl refl, refl, refl, refl)
sign_of AtMost = (λ rest. IsToken.sign refl refl refl, refl, refl, refl)
sign_of Greater = (λ rest. IsToken.sign refl refl refl, refl, refl, refl)
sign_of AtLeast = (λ rest. IsToken.sign refl refl refl, refl, refl, refl)

compare_number : (k : ℕ) (kind : CompareKind) → compare_of (Sign k) ≡ Some kind →
    k ≡ compare_sign kind
compare_number k Same h = let e : k ≡ 10 = grind (arith, nat_tests, common_steps) in e
compare_number k Differs h = let e : k ≡ 11 = grind (arith, nat_tests, common_steps) in e
compare_number k Less h = let e : k ≡ 12 = grind (arith, nat_tests, common_steps) in e
compare_number k AtMost h = let e : k ≡ 13 = grind (arith, nat_tests, common_steps) in e
compare_number k Greater h = let e : k ≡ 14 = grind (arith, nat_tests, common_steps) in e
compare_number k AtLeast h = let e : k ≡ 15 = grind (arith, nat_tests, common_steps) in e

compare_kind : (t : TokenKind) (kind : CompareKind) → compare_of t ≡ Some kind →
    t ≡ Sign (compare_sign kind)
compare_kind (Sign k) kind h = ap Sign (compare_number k kind h)
compare_kind (Word k) kind h = absurd (let no : ⊥ = cc in no)
compare_kind (Name s) kind h = absurd (let no : ⊥ = cc in no)
compare_kind (Number n) kind h = absurd (let no : ⊥ = cc in no)
compare_kind (Text s) kind h = absurd (let no : ⊥ = cc in no)

compare_back : (v : Token) (kind : CompareKind) → compare_of v.kind ≡ Some kind → (a b : PExpr)
    (ts us ending : List Token) → Alone a ts (v ∷ us) → Alone b us ending →
    SimpleBack (S.Compare kind a b) ts ending
compare_back v kind is a b ts us ending ra rb =
    let here = compare_kind v.kind kind is in
    let sign = spaced (compare_sign kind) (compare_bytes kind) in
    let text = expr_text a ++ comparison kind ++ expr_text b in
    let s = S.Compare kind a b in
    reads_text IsSimple simple_unplaced s text (simple_text s) (Follows First Last ts ending)
    (sym (text-Compare kind a b)) (record {
      tree = both (both ra.tree sign) rb.tree;
      spells =
          ap (λ t. t ++ bytes_in sign ++ bytes_in rb.tree) ra.spells
          ∙ ap (λ t. expr_text a ++ t ++ bytes_in rb.tree) (sign_of kind).1
          ∙ ap (λ t. (expr_text a ++ comparison kind) ++ t) rb.spells;
      stands = λ rest h.
          let right = bytes_in rb.tree ++ rest in (
            (
              ra.stands (bytes_in sign ++ right) refl,
              spaced_stands (compare_sign kind) (compare_bytes kind) right (sign_of kind).0,
            ),
            rb.stands rest h,
          );
      means = λ before rest.
          let after = before ++ (bytes_in ra.tree ++ bytes_in sign) in
          let right = tokens_in after rb.tree rest in
          let t = token_after ((before ++ bytes_in ra.tree) ++ codes " ")
          (Sign (compare_sign kind)) (compare_bytes kind) in
          let n = rb.means after rest in
          let m = ra.means before (t ∷ right) in (
            S.Compare kind m.0 n.0,
            IsSimple.compare m.1 (sign_of kind).2 n.1,
            bare-Compare kind m.0 n.0 ∙ ap (λ a. S.Compare kind a (expr_unplaced n.0)) m.2
                ∙ ap (λ b. S.Compare kind (expr_unplaced a) b) n.2 ∙ sym (bare-Compare kind a b),
          );
      beside = λ before q xs x.
          let after = before ++ (bytes_in ra.tree ++ bytes_in sign) in
          let right = tokens_in after rb.tree xs in
          let t = token_after ((before ++ bytes_in ra.tree) ++ codes " ")
          (Sign (compare_sign kind)) (compare_bytes kind) in
          ra.beside before q (t ∷ right)
          (LeftOut.joining (sym here) (ap is_plain here ∙ (sign_of kind).3) (rb.beside after q xs x));
    })

bare_back : (a : PExpr) (ts ending : List Token) → Alone a ts ending →
    SimpleBack (S.Bare a) ts ending
bare_back a ts ending r =
    reads_text IsSimple simple_unplaced (S.Bare a) (expr_text a) (simple_text (S.Bare a))
    (Follows First Last ts ending) (sym (text-Bare a)) (record {
      tree = r.tree;
      spells = r.spells;
      stands = r.stands;
      means = λ before rest.
          let m = r.means before rest in (
            S.Bare m.0,
            IsSimple.bare m.1,
            bare-Bare m.0 ∙ ap (λ a. S.Bare a) m.2 ∙ sym (bare-Bare a),
          );
      beside = r.beside;
    })

not_back : (t u v : Token) (c : PCond) (ts ending : List Token) → t.kind ≡ not_sign →
    u.kind ≡ open_paren → v.kind ≡ close_paren → CondBack c ts (v ∷ ending) →
    SimpleBack (S.Not c) (t ∷ u ∷ ts) ending
not_back t u v c ts ending i j k r =
    let text = codes "!" ++ in_parentheses (cond_text c) in
    reads_text IsSimple simple_unplaced (S.Not c) text (simple_text (S.Not c))
    (Follows First Last (t ∷ u ∷ ts) ending) (sym (text-Not c)) (record {
      tree = both (both (both (sign_tree 23 (codes "!")) (sign_tree 4 (codes "("))) r.tree)
          (sign_tree 5 (codes ")"));
      spells = ap (λ t. codes "!" ++ in_parentheses t) r.spells;
      stands = λ rest h.
          let end = codes ")" ++ rest in (
            (
              (not_stands (bytes_in r.tree ++ end), open_paren_stands (bytes_in r.tree ++ end)),
              r.stands end refl,
            ),
            close_paren_stands rest,
          );
      means = λ before rest.
          let v = token_after (before ++ ((codes "!" ++ codes "(") ++ bytes_in r.tree)) (Sign 5) (codes ")") in
          let m = r.means (before ++ (codes "!" ++ codes "(")) (v ∷ rest) in (
            S.Not m.0,
            IsSimple.negation refl refl m.1 refl,
            bare-Not m.0 ∙ ap (λ c. S.Not c) m.2 ∙ sym (bare-Not c),
          );
      beside = λ before q us x.
          let w = token_after (before ++ ((codes "!" ++ codes "(") ++ bytes_in r.tree)) (Sign 5) (codes ")") in
          LeftOut.leading (sym i) (ap is_plain i) (LeftOut.opening (sym j) (ap opens j) (LeftOut.inside
          (r.beside (before ++ (codes "!" ++ codes "(")) (pushed q) (w ∷ us)
          (LeftOut.closing (sym k) (ap closes k) x))));
    })

-- what `&&` and `||` join
both_rows : Rows IsSimple IsMoreBoth IsBoth and_sign
both_rows = record {
  none = λ all rest. IsMoreBoth.no_more_both;
  more = λ t ts mid rest before all item h x m. IsMoreBoth.more_both h x m;
  whole = λ ts mid rest item all x m. IsBoth.both x m;
}

any_rows : Rows IsBoth IsMoreAlternatives IsAlternatives or_sign
any_rows = record {
  none = λ all rest. IsMoreAlternatives.no_more_alternatives;
  more = λ t ts mid rest before all item h x m. IsMoreAlternatives.more_alternatives h x m;
  whole = λ ts mid rest item all x m. IsAlternatives.alternatives x m;
}

and_stands : Spaced 21 (codes "&&")
unfolding signs
and_stands rest = IsToken.sign refl refl refl

or_stands : Spaced 22 (codes "||")
unfolding signs
or_stands rest = IsToken.sign refl refl refl

and_sep : Separator and_sign (codes " && ")
and_sep = record {
  tree = spaced 21 (codes "&&");
  spells = refl;
  stands = λ rest. spaced_stands 21 (codes "&&") rest and_stands;
  stops = λ rest. refl;
  means = λ before rest. (token_after (before ++ codes " ") and_sign (codes "&&"), refl, refl);
  plain = refl;
}

or_sep : Separator or_sign (codes " || ")
or_sep = record {
  tree = spaced 22 (codes "||");
  spells = refl;
  stands = λ rest. spaced_stands 22 (codes "||") rest or_stands;
  stops = λ rest. refl;
  means = λ before rest. (token_after (before ++ codes " ") or_sign (codes "||"), refl, refl);
  plain = refl;
}

both_back : {b : List PSimple} {ts ending : List Token} → Some_back SimpleBack and_sign b ts ending →
    BothBack b ts ending
both_back {ts = ts} {ending = ending} (first, later, mid, same, one, row) =
    subst (λ b. BothBack b ts ending) (sym same)
    (some inscribed IsSimple IsMoreBoth IsBoth and_sign both_rows simple_unplaced (codes " && ") and_sep
    simple_text (λ t. t) one row)

any_back : {all : List (List PSimple)} {ts ending : List Token} →
    Some_back BothBack or_sign all ts ending → CondBack (any_of all) ts ending
any_back {all = all} {ts = ts} {ending = ending} (first, later, mid, same, one, row) =
    let text = join_by all_step (codes " || ") (map (map simple_text) all) in
    let r = subst
    (λ all. Reads IsAlternatives (map (map simple_unplaced)) all
    (join_by all_step (codes " || ") (map (map simple_text) all)) (Follows First Last ts ending))
    (sym same)
    (some inscribed IsBoth IsMoreAlternatives IsAlternatives or_sign any_rows (map simple_unplaced)
    (codes " || ") or_sep (map simple_text) all_step one row) in
    reads_text IsCond cond_unplaced (any_of all) text (cond_text (any_of all))
    (Follows First Last ts ending) (sym (text-any all))
    (record {
      tree = r.tree;
      spells = r.spells;
      stands = r.stands;
      means = λ before rest.
          let m = r.means before rest in (
            any_of m.0,
            IsCond.any m.1,
            bare-any m.0 ∙ ap any_of m.2 ∙ sym (bare-any all),
          );
      beside = r.beside;
    })

mutual
  pub cond_back : {ts rest : List Token} {c : PCond} → IsCond ts c rest → AllLegal ts →
      CondBack c ts rest × AllLegal rest
  cond_back (IsCond.any x) h = let p = alternatives_back x h in (any_back p.0, p.1)

  alternatives_back : {ts rest : List Token} {all : List (List PSimple)} →
      IsAlternatives ts all rest → AllLegal ts → Some_back BothBack or_sign all ts rest × AllLegal rest
  alternatives_back (IsAlternatives.alternatives x m) h =
      let p = simples_back x h in
      let q = more_alternatives_back m p.1 in (some_back p.0 q.0, q.1)

  more_alternatives_back : {before all : List (List PSimple)} {ts rest : List Token} →
      IsMoreAlternatives before ts all rest → AllLegal ts →
      Others BothBack or_sign before all ts rest × AllLegal rest
  more_alternatives_back (IsMoreAlternatives.no_more_alternatives {all = all} {rest = rest}) h =
      (no_others BothBack or_sign all rest, h)
  more_alternatives_back (IsMoreAlternatives.more_alternatives {before = before} {b = b} is x m) h =
      let p = simples_back x h.1 in
      let q = more_alternatives_back m p.1 in (one_more BothBack before b is p.0 q.0, q.1)

  simples_back : {ts rest : List Token} {b : List PSimple} → IsBoth ts b rest → AllLegal ts →
      BothBack b ts rest × AllLegal rest
  simples_back (IsBoth.both x m) h =
      let p = simple_back x h in
      let q = more_simples_back m p.1 in (both_back (some_back p.0 q.0), q.1)

  more_simples_back : {before all : List PSimple} {ts rest : List Token} →
      IsMoreBoth before ts all rest → AllLegal ts →
      Others SimpleBack and_sign before all ts rest × AllLegal rest
  more_simples_back (IsMoreBoth.no_more_both {all = all} {rest = rest}) h =
      (no_others SimpleBack and_sign all rest, h)
  more_simples_back (IsMoreBoth.more_both {before = before} {s = s} is x m) h =
      let p = simple_back x h.1 in
      let q = more_simples_back m p.1 in (one_more SimpleBack before s is p.0 q.0, q.1)

  simple_back : {ts rest : List Token} {s : PSimple} → IsSimple ts s rest → AllLegal ts →
      SimpleBack s ts rest × AllLegal rest
  simple_back (IsSimple.bare {ts = ts} {rest = rest} {a = a} x) h =
      let p = expr_back x h in (bare_back a ts rest p.0.alone, p.1)
  simple_back (IsSimple.compare {t = t} {ts = ts} {us = us} {rest = rest} {kind = kind} {a = a} {b = b} x is y) h =
      let p = expr_back x h in
      let q = expr_back y p.1.1 in
      (compare_back t kind is a b ts us rest p.0.alone q.0.alone, q.1)
  simple_back (IsSimple.negation {t = t} {u = u} {v = v} {ts = ts} {rest = rest} {c = c} is a x b) h =
      let p = cond_back x h.1.1 in (not_back t u v c ts rest is a b p.0, p.1.1)
