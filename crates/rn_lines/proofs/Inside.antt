-- What stands in quotes, read from the left.
use Rattle.std.proofs.Common.{◌≡◌, ℕ, List, [], ◌∷◌, ◌++◌, Bool, true, false, cond, not, append_assoc, refl, subst, sym, ap, ◌∙◌}
use Rattle.std.specs.Prelude.{Option, Some, None, nat_eq, if◌then◌else◌}
use Rattle.std.specs.Str.{IsUtf8, is_utf8}
use Rattle.std.proofs.lemmas.Str.{IsUtf8-from_is_utf8, is_utf8-from_IsUtf8}
use Rattle.std.proofs.lemmas.Bool.{false≢true}
use Rattle.std.proofs.lemmas.Option.{same_Some}
use borrow.Author.Tests.{ne_eqb, eq-eqb, eqb-true}
use Rattle.rn_items.proofs.Bools.{and_left, and_right}
use Rattle.rn_value.specs.Grammar.{IsEscaped, IsInside}
use Rattle.rn_lines.proofs.NumeralReading.{bind_some}
use Rattle.rn_lines.specs.Reading.{◌>>=◌, is_plain, meaning, with_byte, inside_at, text_at}

-- what is read, with bytes before it
abbrev pub with_front : List ℕ → Option (List ℕ × List ℕ) → Option (List ℕ × List ℕ)
with_front front read = read >>= λ x. Some (front ++ x.0, x.1)

pub one_more : (front : List ℕ) (c : ℕ) (read : Option (List ℕ × List ℕ)) → with_front (front ++ c ∷ []) read ≡ with_front front (with_byte c read)
one_more front c None = refl
one_more front c (Some x) = ap (λ bytes. Some (bytes, x.1)) (append_assoc front (c ∷ []) x.0)

pub no_front : (read : Option (List ℕ × List ℕ)) → with_front [] read ≡ read
no_front None = refl
no_front (Some x) = refl

-- A byte that stands for itself, and an escape, stand before the rest.
plain_step : (c : ℕ) (others : List ℕ) → nat_eq c 34 ≡ false → nat_eq c 92 ≡ false → is_plain c ≡ true → inside_at (c ∷ others) ≡ with_byte c (inside_at others)
plain_step c [] q b p = rw q refl
plain_step c (d ∷ others) q b p = rw (q, b, p) refl

escape_step : (c d byte : ℕ) (after : List ℕ) → nat_eq c 34 ≡ false → nat_eq c 92 ≡ true → meaning d ≡ Some byte → inside_at (c ∷ d ∷ after) ≡ with_byte byte (inside_at after)
escape_step c d byte after q b m = rw (q, b) (ap (λ o. o >>= λ byte. with_byte byte (inside_at after)) m)

pub plain_on : (front new rest others : List ℕ) (c : ℕ) (whole : Option (List ℕ × List ℕ)) → rest ≡ c ∷ others → nat_eq c 34 ≡ false → nat_eq c 92 ≡ false → is_plain c ≡ true →
    new ≡ front ++ c ∷ [] → with_front front (inside_at rest) ≡ whole → with_front new (inside_at others) ≡ whole
plain_on front new rest others c whole is q b p e so_far =
    ap (λ front. with_front front (inside_at others)) e
    ∙ one_more front c (inside_at others)
    ∙ ap (with_front front) (sym (plain_step c others q b p) ∙ ap inside_at (sym is))
    ∙ so_far

pub escape_on : (front new rest others after : List ℕ) (c d byte : ℕ) (whole : Option (List ℕ × List ℕ)) → rest ≡ c ∷ others → others ≡ d ∷ after → nat_eq c 34 ≡ false → nat_eq c 92 ≡ true →
    meaning d ≡ Some byte → new ≡ front ++ byte ∷ [] → with_front front (inside_at rest) ≡ whole → with_front new (inside_at after) ≡ whole
escape_on front new rest others after c d byte whole is next q b m e so_far =
    ap (λ front. with_front front (inside_at after)) e
    ∙ one_more front byte (inside_at after)
    ∙ ap (with_front front) (sym (escape_step c d byte after q b m) ∙ ap inside_at (ap (λ others. c ∷ others) (sym next) ∙ sym is))
    ∙ so_far

pub text_read : (bytes meant rest text : List ℕ) → inside_at bytes ≡ Some (meant, rest) → IsUtf8 meant → text ≡ meant → text_at bytes ≡ Some (text, rest)
text_read bytes meant rest text e utf8 same =
    ap (λ o. o >>= λ x. if is_utf8 x.0 then Some x else None) e
    ∙ (let x : List ℕ × List ℕ = (meant, rest) in ap (λ t. if t then Some x else None) (is_utf8-from_IsUtf8 meant utf8))
    ∙ ap (λ (t : List ℕ). let x : List ℕ × List ℕ = (t, rest) in Some x) (sym same)

pub text_unread : (bytes meant rest : List ℕ) → inside_at bytes ≡ Some (meant, rest) → ¬ (IsUtf8 meant) → text_at bytes ≡ None
text_unread bytes meant rest e isnt =
    ap (λ o. o >>= λ x. if is_utf8 x.0 then Some x else None) e
    ∙ by (meant, rest) (is_utf8 meant) refl
  where
    by : (x : List ℕ × List ℕ) (t : Bool) → is_utf8 meant ≡ t → (if t then Some x else None) ≡ None
    by x true is = absurd (isnt (IsUtf8-from_is_utf8 meant is))
    by x false is = refl

-- What the grammar has in quotes is read, and what is read is of the grammar.
quote_step : (rest : List ℕ) → inside_at (34 ∷ rest) ≡ Some ([], rest)
quote_step [] = refl
quote_step (c ∷ rest) = refl

pub inside_reads : {s a : List ℕ} → IsInside s a → (rest : List ℕ) → inside_at (a ++ 34 ∷ rest) ≡ Some (s, rest)
inside_reads IsInside.empty rest = quote_step rest
inside_reads (IsInside.byte {rest = r} IsEscaped.quote others) rest = ap (with_byte 34) (inside_reads others rest)
inside_reads (IsInside.byte {rest = r} IsEscaped.backslash others) rest = ap (with_byte 92) (inside_reads others rest)
inside_reads (IsInside.byte {rest = r} IsEscaped.newline others) rest = ap (with_byte 10) (inside_reads others rest)
inside_reads (IsInside.byte {rest = r} IsEscaped.tab others) rest = ap (with_byte 9) (inside_reads others rest)
inside_reads (IsInside.byte {rest = r} (IsEscaped.itself {c = c} q b n t) others) rest =
    plain_step c (r ++ 34 ∷ rest) (ne_eqb c 34 q) (ne_eqb c 92 b) (rw (ne_eqb c 10 n, ne_eqb c 9 t) refl) ∙ ap (with_byte c) (inside_reads others rest)

-- the text up to a quote
pub record InsideAt (bytes : List ℕ) (x : List ℕ × List ℕ) : Type 0 where
  pub text : List ℕ
  pub whole : bytes ≡ text ++ 34 ∷ x.1
  pub stands : IsInside x.0 text

byte_before : (c byte : ℕ) (written bytes : List ℕ) (x : List ℕ × List ℕ) → IsEscaped byte written → InsideAt bytes x → InsideAt (written ++ bytes) (byte ∷ x.0, x.1)
byte_before c byte written bytes x escaped here = record {
  text = written ++ here.text;
  whole = ap (λ b. written ++ b) here.whole ∙ sym (append_assoc written here.text (34 ∷ x.1));
  stands = IsInside.byte escaped here.stands;
}

escaped_as : (d byte c meant : ℕ) → nat_eq d c ≡ true → Some meant ≡ Some byte → IsEscaped meant (92 ∷ c ∷ []) → IsEscaped byte (92 ∷ d ∷ [])
escaped_as d byte c meant is e escaped =
    subst (λ byte. IsEscaped byte (92 ∷ d ∷ [])) (same_Some meant byte e) (subst (λ d. IsEscaped meant (92 ∷ d ∷ [])) (sym (eqb-true d c is)) escaped)

meaning_is : (d byte : ℕ) → meaning d ≡ Some byte → IsEscaped byte (92 ∷ d ∷ [])
meaning_is d byte e = by (nat_eq d 34) (nat_eq d 92) (nat_eq d 110) (nat_eq d 116) refl refl refl refl e
  where
    by : (q b n t : Bool) → nat_eq d 34 ≡ q → nat_eq d 92 ≡ b → nat_eq d 110 ≡ n → nat_eq d 116 ≡ t →
        cond q (Some 34) (cond b (Some 92) (cond n (Some 10) (cond t (Some 9) None))) ≡ Some byte → IsEscaped byte (92 ∷ d ∷ [])
    by true b n t is _ _ _ e = escaped_as d byte 34 34 is e IsEscaped.quote
    by false true n t _ is _ _ e = escaped_as d byte 92 92 is e IsEscaped.backslash
    by false false true t _ _ is _ e = escaped_as d byte 110 10 is e IsEscaped.newline
    by false false false true _ _ _ is e = escaped_as d byte 116 9 is e IsEscaped.tab
    by false false false false _ _ _ _ e = cc

plain_is : (c : ℕ) → nat_eq c 34 ≡ false → nat_eq c 92 ≡ false → is_plain c ≡ true → IsEscaped c (c ∷ [])
plain_is c q b p =
    IsEscaped.itself (λ e. false≢true (sym q ∙ eq-eqb c 34 e)) (λ e. false≢true (sym b ∙ eq-eqb c 92 e))
    (λ e. false≢true (sym (ap not (eq-eqb c 10 e)) ∙ and_left (not (nat_eq c 10)) (not (nat_eq c 9)) p))
    (λ e. false≢true (sym (ap not (eq-eqb c 9 e)) ∙ and_right (not (nat_eq c 10)) (not (nat_eq c 9)) p))

pub inside_read : (bytes : List ℕ) (x : List ℕ × List ℕ) → inside_at bytes ≡ Some x → InsideAt bytes x
inside_read [] x e = cc
inside_read (c ∷ []) x e = by (nat_eq c 34) refl e
  where
    by : (t : Bool) → nat_eq c 34 ≡ t → (let none : List ℕ × List ℕ = ([], []) in cond t (Some none) None ≡ Some x) → InsideAt (c ∷ []) x
    by true is e = subst (InsideAt (c ∷ [])) (same_Some ([], []) x e) (record { text = []; whole = ap (λ c. c ∷ []) (eqb-true c 34 is); stands = IsInside.empty })
    by false is e = cc
inside_read (c ∷ d ∷ bytes) x e = by (λ y. inside_read bytes y) (λ y. inside_read (d ∷ bytes) y) (nat_eq c 34) (nat_eq c 92) (is_plain c) refl refl refl e
  where
    by : ((y : List ℕ × List ℕ) → inside_at bytes ≡ Some y → InsideAt bytes y) → ((y : List ℕ × List ℕ) → inside_at (d ∷ bytes) ≡ Some y → InsideAt (d ∷ bytes) y) → (q b p : Bool) → nat_eq c 34 ≡ q → nat_eq c 92 ≡ b → is_plain c ≡ p →
        (let none : List ℕ × List ℕ = ([], d ∷ bytes) in
        cond q (Some none) (cond b (meaning d >>= λ byte. with_byte byte (inside_at bytes)) (cond p (with_byte c (inside_at (d ∷ bytes))) None)) ≡ Some x) → InsideAt (c ∷ d ∷ bytes) x
    by after_two after_one true b p q_is _ _ e = subst (InsideAt (c ∷ d ∷ bytes)) (same_Some ([], d ∷ bytes) x e) (record { text = []; whole = ap (λ c. c ∷ d ∷ bytes) (eqb-true c 34 q_is); stands = IsInside.empty })
    by after_two after_one false true p _ b_is _ e =
        let m = bind_some (meaning d) (λ byte. with_byte byte (inside_at bytes)) x e in
        let y = bind_some (inside_at bytes) (λ y. let z : List ℕ × List ℕ = (m.0 ∷ y.0, y.1) in Some z) x m.2 in
        let here = byte_before c m.0 (92 ∷ d ∷ []) bytes y.0 (meaning_is d m.0 m.1) (after_two y.0 y.1) in
        subst (λ c. InsideAt (c ∷ d ∷ bytes) x) (sym (eqb-true c 92 b_is)) (subst (InsideAt (92 ∷ d ∷ bytes)) (same_Some (m.0 ∷ y.0.0, y.0.1) x y.2) here)
    by after_two after_one false false true q_is b_is p_is e =
        let y = bind_some (inside_at (d ∷ bytes)) (λ y. let z : List ℕ × List ℕ = (c ∷ y.0, y.1) in Some z) x e in
        let here = byte_before c c (c ∷ []) (d ∷ bytes) y.0 (plain_is c q_is b_is p_is) (after_one y.0 y.1) in
        subst (InsideAt (c ∷ d ∷ bytes)) (same_Some (c ∷ y.0.0, y.0.1) x y.2) here
    by after_two after_one false false false _ _ _ e = cc
