-- Reading of instances, in both directions.
use Rattle.std.proofs.Common.{◌≡◌, ◌<◌, ◌≤◌, ◌^◌, ℕ, List, [], ◌∷◌, ◌++◌, take, drop, Bool, true, false, cond, nat_eq, not, append_assoc, refl, sym, ap, ◌∙◌, subst, arith}
use Rattle.std.specs.Prelude.{Option, Some, None}
use Rattle.std.specs.List.{list_all, prefix_len}
use Rattle.std.proofs.lemmas.List.{take-append-drop}
use Rattle.std.proofs.lemmas.Option.{same_Some, cond_some}
use borrow.Author.Tests.{ne_eqb, eq-eqb, eqb-true, eqb-false}
use Rattle.rn_items.proofs.Bools.{and_left, and_right}
use Rattle.rn_value.specs.Characters.{is_letter, is_name_byte}
use Rattle.rn_value.specs.Words.{begins_with, is_identifier, is_reserved, is_name, IsName}
use Rattle.rn_value.specs.Grammar.{IsNumeral}
use Rattle.rn_value.proofs.Spans.{Stops}
use Rattle.rn_lines.specs.ValueText.{Said}
use Rattle.rn_lines.specs.Reading.{◌>>=◌, numeral_at, byte_at, bracketed_at, name_at, inst_at}
use Rattle.rn_lines.proofs.Prefixes.{prefix_is}
use Rattle.rn_lines.proofs.NumeralReading.{bind_some, numeral_reads, NumeralAt, numeral_read}

pub byte_reads : (c : ℕ) (rest : List ℕ) → byte_at c (c ∷ rest) ≡ Some rest
byte_reads c rest = ap (λ t. cond t (Some rest) None) (eq-eqb c c refl)

pub byte_read : (c : ℕ) (bytes rest : List ℕ) → byte_at c bytes ≡ Some rest → bytes ≡ c ∷ rest
byte_read c [] rest e = cc
byte_read c (d ∷ bytes) rest e = by (nat_eq d c) refl e
  where
    by : (t : Bool) → nat_eq d c ≡ t → cond t (Some bytes) None ≡ Some rest → d ∷ bytes ≡ c ∷ rest
    by true is e = λ i. eqb-true d c is i ∷ same_Some bytes rest e i
    by false is e = cc

-- the number in brackets, with what is done with it
closed : ℕ × List ℕ → Option (ℕ × List ℕ)
closed n = cond (nat_eq n.0 0) None (byte_at 93 n.1 >>= λ rest. Some (n.0, rest))

closed_reads : (n : ℕ) (rest : List ℕ) → 1 ≤ n → closed (n, 93 ∷ rest) ≡ Some (n, rest)
unfolding closed
closed_reads n rest low =
    ap (λ t. cond t None (byte_at 93 (93 ∷ rest) >>= λ rest. Some (n, rest))) (ne_eqb n 0 (λ e. omega arith))
    ∙ ap (λ o. o >>= λ rest. Some (n, rest)) (byte_reads 93 rest)

bracketed_reads : {n : ℕ} {digits : List ℕ} → IsNumeral n digits → 1 ≤ n → n < 2 ^ 32 → (rest : List ℕ) → bracketed_at (91 ∷ (digits ++ 93 ∷ rest)) ≡ Some (n, rest)
unfolding closed
bracketed_reads {n} {digits} p low high rest =
    ap (λ o. o >>= closed) (numeral_reads p 4294967295 (93 ∷ rest) (omega arith) refl) ∙ closed_reads n rest low

pub name_reads : (name rest : List ℕ) → IsName name → Stops is_name_byte rest → name_at (name ++ rest) ≡ Some (name, rest)
name_reads name rest is stops =
    let identifier : is_identifier name ≡ true = and_left (is_identifier name) (not (is_reserved name)) is in
    let bytes_are : list_all is_name_byte name ≡ true = and_right (begins_with is_letter name) (list_all is_name_byte name) identifier in
    let parts = prefix_is is_name_byte name rest bytes_are stops in
    let named : List ℕ → List ℕ → Option (List ℕ × List ℕ) = λ a b. cond (is_name a) (Some (a, b)) None in
    let read : List ℕ × List ℕ = (name, rest) in
    (λ i. named (parts.0 i) (parts.1 i)) ∙ ap (λ t. cond t (Some read) None) is

pub name_read : (bytes : List ℕ) (x : List ℕ × List ℕ) → name_at bytes ≡ Some x → (bytes ≡ x.0 ++ x.1) × IsName x.0
name_read bytes x e =
    let name : List ℕ = take (prefix_len is_name_byte bytes) bytes in
    let rest : List ℕ = drop (prefix_len is_name_byte bytes) bytes in
    let read : List ℕ × List ℕ = (name, rest) in
    let tests = cond_some (is_name name) read x e in
    let P : List ℕ × List ℕ → Type 0 = λ x. (bytes ≡ x.0 ++ x.1) × IsName x.0 in
    subst P tests.1 (sym (take-append-drop (prefix_len is_name_byte bytes) bytes), tests.0)

-- what is made of a name and a number
abbrev as_said : List ℕ → ℕ × List ℕ → Option (Said × List ℕ)
as_said name n = Some (record { name = name; number = n.0 }, n.1)

abbrev after_name : List ℕ × List ℕ → Option (Said × List ℕ)
after_name name = bracketed_at name.1 >>= as_said name.0

pub inst_reads : {number : ℕ} {name digits : List ℕ} → IsName name → 1 ≤ number → number < 2 ^ 32 → IsNumeral number digits → (rest : List ℕ) →
    inst_at ((name ++ (91 ∷ digits ++ 93 ∷ [])) ++ rest) ≡ Some (record { name = name; number = number }, rest)
inst_reads {number} {name} {digits} is low high p rest =
    let regrouped : (name ++ (91 ∷ digits ++ 93 ∷ [])) ++ rest ≡ name ++ (91 ∷ (digits ++ 93 ∷ rest)) =
    append_assoc name (91 ∷ digits ++ 93 ∷ []) rest ∙ ap (λ d. name ++ (91 ∷ d)) (append_assoc digits (93 ∷ []) rest) in
    ap inst_at regrouped
    ∙ ap (λ o. o >>= after_name) (name_reads name (91 ∷ (digits ++ 93 ∷ rest)) is refl)
    ∙ ap (λ o. o >>= as_said name) (bracketed_reads p low high rest)

-- the instance at the start
pub record InstAt (bytes : List ℕ) (x : Said × List ℕ) : Type 0 where
  pub digits : List ℕ
  pub whole : bytes ≡ (x.0.name ++ (91 ∷ digits ++ 93 ∷ [])) ++ x.1
  pub named : IsName x.0.name
  pub low : 1 ≤ x.0.number
  pub high : x.0.number < 2 ^ 32
  pub stands : IsNumeral x.0.number digits

pub record BracketedAt (bytes : List ℕ) (x : ℕ × List ℕ) : Type 0 where
  pub digits : List ℕ
  pub whole : bytes ≡ 91 ∷ (digits ++ 93 ∷ x.1)
  pub low : 1 ≤ x.0
  pub high : x.0 < 2 ^ 32
  pub stands : IsNumeral x.0 digits

closed_read : (digits : List ℕ) (n x : ℕ × List ℕ) → NumeralAt 4294967295 digits n → closed n ≡ Some x → BracketedAt (91 ∷ digits) x
unfolding closed
closed_read digits n x here e = by (nat_eq n.0 0) refl e
  where
    by : (t : Bool) → nat_eq n.0 0 ≡ t → cond t None (byte_at 93 n.1 >>= λ rest. Some (n.0, rest)) ≡ Some x → BracketedAt (91 ∷ digits) x
    by true is e = cc
    by false is e =
        let found = bind_some (byte_at 93 n.1) (λ rest. let y : ℕ × List ℕ = (n.0, rest) in Some y) x e in
        let above : ¬ (n.0 ≡ 0) = eqb-false n.0 0 is in
        let whole : digits ≡ here.digits ++ 93 ∷ found.0 = here.whole ∙ ap (λ rest. here.digits ++ rest) (byte_read 93 n.1 found.0 found.1) in
        subst (BracketedAt (91 ∷ digits)) (same_Some (n.0, found.0) x found.2)
        (record { digits = here.digits; whole = ap (λ d. 91 ∷ d) whole; low = omega (arith, above); high = let low = here.low in omega (arith, low); stands = here.stands })

bracketed_read : (bytes : List ℕ) (x : ℕ × List ℕ) → bracketed_at bytes ≡ Some x → BracketedAt bytes x
unfolding closed
bracketed_read bytes x e =
    let first = bind_some (byte_at 91 bytes) (λ digits. numeral_at 4294967295 digits >>= closed) x e in
    let n = bind_some (numeral_at 4294967295 first.0) closed x first.2 in
    subst (λ b. BracketedAt b x) (sym (byte_read 91 bytes first.0 first.1)) (closed_read first.0 n.0 x (numeral_read 4294967295 first.0 n.0 n.1) n.2)

pub inst_read : (bytes : List ℕ) (x : Said × List ℕ) → inst_at bytes ≡ Some x → InstAt bytes x
inst_read bytes x e =
    let name = bind_some (name_at bytes) after_name x e in
    let n = bind_some (bracketed_at name.0.1) (as_said name.0.0) x name.2 in
    let named = name_read bytes name.0 name.1 in
    let here = bracketed_read name.0.1 n.0 n.1 in
    let whole : bytes ≡ (name.0.0 ++ (91 ∷ here.digits ++ 93 ∷ [])) ++ n.0.1 =
    named.0
    ∙ ap (λ rest. name.0.0 ++ rest) (here.whole ∙ ap (λ d. 91 ∷ d) (sym (append_assoc here.digits (93 ∷ []) n.0.1)))
    ∙ sym (append_assoc name.0.0 (91 ∷ here.digits ++ 93 ∷ []) n.0.1) in
    subst (InstAt bytes) (same_Some (record { name = name.0.0; number = n.0.0 }, n.0.1) x n.2)
    (record { digits = here.digits; whole = whole; named = named.1; low = here.low; high = here.high; stands = here.stands })
