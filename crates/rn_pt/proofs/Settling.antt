-- The answer for a text is right, and no two reasons of a text differ.
use Rattle.std.proofs.Common.{◌≡◌, ℕ, ◌<◌, ◌≤◌, ◌⊎◌, inl, inr, Bool, true, false, List, [], ◌∷◌, length, refl, sym, ◌∙◌, ap, subst, arith}
use Rattle.std.proofs.lemmas.Bool.{false≢true}
use Rattle.std.proofs.lemmas.Bool.Decides.{leb_tells}
use Rattle.std.specs.Prelude.{Result, Ok, Err, Option, Some, None, IfSome, IfNone, IfOk, IfErr}
use Rattle.rn_items.specs.Memory.{no_memory}
use Rattle.rn_notation.specs.Limits.{longest_net_text}
use Rattle.rn_notation.specs.Spots.{spot_after}
use Rattle.rn_notation.specs.Laws.{OneReading, OneFault, NoFaultInTokens}
use Rattle.rn_notation.specs.Reading.{Tokens, FirstFault}
use Rattle.rn_notation.specs.declared.token.Token.{Token}
use Rattle.rn_notation.specs.declared.token.LexFault.{LexFault}
use Rattle.rn_notation.specs.declared.token.Lexed.{Lexed}
use Rattle.rn_reading.specs.Counting.{uncounted, IsWithin}
use Rattle.rn_reading.specs.Texts.{IsWhole, IsStopped, Explains}
use Rattle.rn_reading.specs.declared.fault.TextFault.{TextFault}
use Rattle.rn_reading.specs.declared.fault.TextFault.TheVariants as Text
use Rattle.rn_reading.proofs.Wholes.{IsTold, one_reason, alone_refused, same_tokens, lexed_of}
use Rattle.rn_weighted.specs.declared.weighted.Weighted.{Weighted}
use Rattle.rn_weighted.specs.TextLength.{text_length}
use Rattle.rn_pt.specs.declared.plain.PtNet.{PtNet}
use Rattle.rn_pt.specs.declared.fault.Broken.{Broken}
use Rattle.rn_pt.specs.declared.fault.PtFault.{PtFault}
use Rattle.rn_pt.specs.declared.fault.PtFault.TheVariants as Why
use Rattle.rn_pt.specs.Grammar.{IsPtNet}
use Rattle.rn_pt.specs.Faults.{report_of, IsFirstOf, first_from}
use Rattle.rn_pt.specs.Rules.{net_broken}
use Rattle.rn_pt.specs.Meaning.{weighted_of}
use Rattle.rn_pt.specs.Texts.{Says, Spells, IsRefused, IsReason, Answers, AreFine}
use Rattle.rn_pt.specs.link.Answers.{Objects, Meets, Comes, report_text, first_spot}
use Rattle.rn_pt.proofs.FirstLemmas.{first_iff, none_iff}

within-all : (ts : List Token) → IsWithin uncounted tt ts
within-all [] = tt
within-all (t ∷ ts) = (refl, within-all ts)

-- what was lexed of a text
pub record LexedOf (bytes : List ℕ) (lexed : Lexed) : Type 0 where
  pub fits : length bytes ≤ longest_net_text
  pub tokens : IfNone lexed.fault (Tokens bytes lexed.tokens)
  pub fault : IfSome lexed.fault (FirstFault bytes lexed.tokens)
  pub end : lexed.end ≡ spot_after bytes

read-by : (bytes : List ℕ) (tokens : List Token) (fault : Option LexFault) → fault ≡ None → IfNone fault (Tokens bytes tokens) → Tokens bytes tokens
read-by bytes tokens None is h = h
read-by bytes tokens (Some f) is h = absurd (let no : ⊥ = let e = is in cc in no)

says-of : (bytes : List ℕ) (lexed : Lexed) (plain : PtNet) → LexedOf bytes lexed → lexed.fault ≡ None → IsWhole IsPtNet lexed.tokens plain → Says bytes plain
says-of bytes lexed plain of faultless whole = record {
  tokens = lexed.tokens;
  fits = of.fits;
  read = read-by bytes lexed.tokens lexed.fault faultless of.tokens;
  whole = whole;
}

spelled : (bytes : List ℕ) (lexed : Lexed) (r : Result Weighted PtFault) → LexedOf bytes lexed → Comes lexed r → (net : Weighted) → r ≡ Ok net → Spells bytes net
spelled bytes lexed r of (inl x) net is =
    let meets : Meets x.0 (Ok net) = subst (Meets x.0) is x.2 in
    record {
      plain = x.0;
      says = says-of bytes lexed x.0 of x.1.faultless x.1.whole;
      unbroken = meets.0;
      means = meets.1;
      short = meets.2;
    }
spelled bytes lexed r of (inr x) net is = absurd (let no : ⊥ = let a = x.2 in let b = is in cc in no)

pub settled_read : (bytes : List ℕ) (lexed : Lexed) (r : Result Weighted PtFault) → LexedOf bytes lexed → Comes lexed r → IfOk r (λ net. Spells bytes net)
settled_read bytes lexed (Ok net) of x = spelled bytes lexed (Ok net) of x net refl
settled_read bytes lexed (Err why) of x = tt

-- why a net that a text says is refused
objected : (bytes : List ℕ) (plain : PtNet) (why : PtFault) → Says bytes plain → Objects plain why → IsRefused bytes why
objected bytes plain why says (inl x) = subst (IsRefused bytes) (sym x.2) (IsRefused.breaks says x.1)
objected bytes plain why says (inr x) = subst (IsRefused bytes) (sym x.2) (IsRefused.grows says x.0 x.1)

-- why tokens are no net
explained : (bytes : List ℕ) (lexed : Lexed) (why : TextFault) → LexedOf bytes lexed → Explains uncounted tt IsPtNet lexed why →
    (report_text why ≡ Why.NoMemory no_memory) ⊎ IsRefused bytes (report_text why)
explained bytes lexed (Text.Stopped spot) of (inl x) = inr (IsRefused.stopped of.fits (lexed_of lexed.fault of.tokens of.fault) x)
explained bytes lexed (Text.Stopped spot) of (inr x) =
    inr (subst (λ s. IsRefused bytes (Why.N1 s)) (sym (x.1 ∙ of.end))
    (IsRefused.unfinished of.fits (read-by bytes lexed.tokens lexed.fault x.0 of.tokens) x.2.0 x.3))
explained bytes lexed (Text.TooFar spot) of x = absurd (let no : ⊥ = let far = x.far in cc in no)
explained bytes lexed (Text.Lexical fault) of x = inr (IsRefused.faulty of.fits (first-fault lexed.fault x.0 of.fault) x.1.0)
  where
    first-fault : (o : Option LexFault) → o ≡ Some fault → IfSome o (FirstFault bytes lexed.tokens) → FirstFault bytes lexed.tokens fault
    first-fault None is h = absurd (let no : ⊥ = let e = is in cc in no)
    first-fault (Some f) is h = subst (FirstFault bytes lexed.tokens) (let e : f ≡ fault = let i = is in cc in e) h
explained bytes lexed (Text.NoMemory _) of x = inl refl

given : {A : Type 0} {q : PtFault} → (q ≡ Why.NoMemory no_memory → ⊥) → (q ≡ Why.NoMemory no_memory) ⊎ A → A
given never (inl e) = absurd (never e)
given never (inr a) = a

reasoned : (bytes : List ℕ) (q : PtFault) → (q ≡ Why.NoMemory no_memory) ⊎ IsRefused bytes q → IsReason bytes q
reasoned bytes (Why.P1 s) x = given (λ e. let no : ⊥ = let h = e in cc in no) x
reasoned bytes (Why.P3 s) x = given (λ e. let no : ⊥ = let h = e in cc in no) x
reasoned bytes (Why.P4 s) x = given (λ e. let no : ⊥ = let h = e in cc in no) x
reasoned bytes (Why.P6 s) x = given (λ e. let no : ⊥ = let h = e in cc in no) x
reasoned bytes (Why.P7 s) x = given (λ e. let no : ⊥ = let h = e in cc in no) x
reasoned bytes (Why.N1 s) x = given (λ e. let no : ⊥ = let h = e in cc in no) x
reasoned bytes (Why.N2 s) x = given (λ e. let no : ⊥ = let h = e in cc in no) x
reasoned bytes (Why.N3 s) x = given (λ e. let no : ⊥ = let h = e in cc in no) x
reasoned bytes (Why.N4 s) x = given (λ e. let no : ⊥ = let h = e in cc in no) x
reasoned bytes (Why.N5 s) x = given (λ e. let no : ⊥ = let h = e in cc in no) x
reasoned bytes (Why.NoMemory _) x = tt

refused-by : (bytes : List ℕ) (lexed : Lexed) (q : PtFault) → LexedOf bytes lexed → Comes lexed (Err q) → (q ≡ Why.NoMemory no_memory) ⊎ IsRefused bytes q
refused-by bytes lexed q of (inl x) = elim x.2 as (λ w. (q ≡ Why.NoMemory no_memory) ⊎ IsRefused bytes q) [
  | inl none ↦ inl none
  | inr objects ↦ inr (objected bytes x.0 q (says-of bytes lexed x.0 of x.1.faultless x.1.whole) objects)
]
refused-by bytes lexed q of (inr x) =
    let same : q ≡ report_text x.0 = let e = x.2 in cc in
    subst (λ p. (p ≡ Why.NoMemory no_memory) ⊎ IsRefused bytes p) (sym same) (explained bytes lexed x.0 of x.1)

pub settled_refused : (bytes : List ℕ) (lexed : Lexed) (r : Result Weighted PtFault) → LexedOf bytes lexed → Comes lexed r → IfErr r (λ why. IsReason bytes why)
settled_refused bytes lexed (Ok net) of x = tt
settled_refused bytes lexed (Err q) of x = reasoned bytes q (refused-by bytes lexed q of x)

abbrev pub IsErr : PtFault → Result Weighted PtFault → Type 0
IsErr q expected = Err q ≡ expected

-- an answer is this one unless memory ran out
unless-memory : (q : PtFault) (expected : Result Weighted PtFault) → (q ≡ Why.NoMemory no_memory) ⊎ IsErr q expected → Answers (Err q) expected
unless-memory (Why.P1 s) expected x = given (λ e. let no : ⊥ = let h = e in cc in no) x
unless-memory (Why.P3 s) expected x = given (λ e. let no : ⊥ = let h = e in cc in no) x
unless-memory (Why.P4 s) expected x = given (λ e. let no : ⊥ = let h = e in cc in no) x
unless-memory (Why.P6 s) expected x = given (λ e. let no : ⊥ = let h = e in cc in no) x
unless-memory (Why.P7 s) expected x = given (λ e. let no : ⊥ = let h = e in cc in no) x
unless-memory (Why.N1 s) expected x = given (λ e. let no : ⊥ = let h = e in cc in no) x
unless-memory (Why.N2 s) expected x = given (λ e. let no : ⊥ = let h = e in cc in no) x
unless-memory (Why.N3 s) expected x = given (λ e. let no : ⊥ = let h = e in cc in no) x
unless-memory (Why.N4 s) expected x = given (λ e. let no : ⊥ = let h = e in cc in no) x
unless-memory (Why.N5 s) expected x = given (λ e. let no : ⊥ = let h = e in cc in no) x
unless-memory (Why.NoMemory _) expected x = tt

-- a reason is reported, unless memory ran out
told : (why : TextFault) → (report_text why ≡ Why.NoMemory no_memory) ⊎ IsTold why
told (Text.Stopped s) = inr tt
told (Text.TooFar s) = inr tt
told (Text.Lexical f) = inr tt
told (Text.NoMemory _) = inl refl

-- why a text is refused, said of what was lexed
abbrev pub Reason : Lexed → PtFault → Type 0
Reason lexed q =
    ((why : TextFault) × IsTold why × Explains uncounted tt IsPtNet lexed why × (q ≡ report_text why))
    ⊎ ((plain : PtNet) × (lexed.fault ≡ None) × IsWhole IsPtNet lexed.tokens plain × Objects plain q)

laws-whole : OneReading → NoFaultInTokens → (bytes : List ℕ) (lexed : Lexed) → LexedOf bytes lexed → (ts : List Token) → Tokens bytes ts → (ts ≡ lexed.tokens) × (lexed.fault ≡ None)
laws-whole one apart bytes lexed of ts y = by lexed.fault of.tokens of.fault
  where
    by : (fault : Option LexFault) → IfNone fault (Tokens bytes lexed.tokens) → IfSome fault (FirstFault bytes lexed.tokens) → (ts ≡ lexed.tokens) × (fault ≡ None)
    by None none some = (one bytes ts lexed.tokens y none, refl)
    by (Some g) none some = absurd (apart bytes ts lexed.tokens g y some)

laws-faulty : OneFault → NoFaultInTokens → (bytes : List ℕ) (lexed : Lexed) → LexedOf bytes lexed → (ts : List Token) (f : LexFault) → FirstFault bytes ts f → (ts ≡ lexed.tokens) × (lexed.fault ≡ Some f)
laws-faulty only apart bytes lexed of ts f y = by lexed.fault of.tokens of.fault
  where
    by : (fault : Option LexFault) → IfNone fault (Tokens bytes lexed.tokens) → IfSome fault (FirstFault bytes lexed.tokens) → (ts ≡ lexed.tokens) × (fault ≡ Some f)
    by None none some = absurd (apart bytes lexed.tokens ts f none y)
    by (Some g) none some = let same = only bytes ts lexed.tokens f g y some in (same.0, ap Some (sym same.1))

said-lexed : OneReading → NoFaultInTokens → (bytes : List ℕ) (lexed : Lexed) → LexedOf bytes lexed → (plain : PtNet) → Says bytes plain → (lexed.fault ≡ None) × IsWhole IsPtNet lexed.tokens plain
said-lexed one apart bytes lexed of plain says =
    let same = laws-whole one apart bytes lexed of says.tokens says.read in
    (same.1, subst (λ ts. IsWhole IsPtNet ts plain) same.0 says.whole)

reason-of : OneReading → OneFault → NoFaultInTokens → (bytes : List ℕ) (lexed : Lexed) (q : PtFault) → LexedOf bytes lexed → IsRefused bytes q → Reason lexed q
reason-of one only apart bytes lexed q of x = by x
  where
    by : {q : PtFault} → IsRefused bytes q → Reason lexed q
    by (IsRefused.too_long h) = absurd (let fits = of.fits in let no : ⊥ = omega (arith, h, fits) in no)
    by (IsRefused.stopped {tokens = ts} {spot = spot} h from y) =
        inl (
          Text.Stopped spot,
          tt,
          inl (subst (λ us. IsStopped uncounted tt IsPtNet us spot) (same_tokens one only apart bytes ts lexed.tokens from (lexed_of lexed.fault of.tokens of.fault)) y),
          refl,
        )
    by (IsRefused.faulty {tokens = ts} {fault = f} h y fine) =
        let same = laws-faulty only apart bytes lexed of ts f y in
        inl (Text.Lexical f, tt, (same.1, (subst AreFine same.0 fine, within-all lexed.tokens)), refl)
    by (IsRefused.unfinished {tokens = ts} h y fine none) =
        let same = laws-whole one apart bytes lexed of ts y in
        inl (
          Text.Stopped (spot_after bytes),
          tt,
          inr (same.1, sym of.end, (subst AreFine same.0 fine, within-all lexed.tokens), subst (λ us. (plain : PtNet) → IsPtNet us plain [] → ⊥) same.0 none),
          refl,
        )
    by (IsRefused.breaks {plain = plain} {first = first} says is) =
        let said = said-lexed one apart bytes lexed of plain says in
        inr (plain, said.0, said.1, inl (first, is, refl))
    by (IsRefused.grows {plain = plain} says unbroken long) =
        let said = said-lexed one apart bytes lexed of plain says in
        inr (plain, said.0, said.1, inr (unbroken, long, refl))

-- a net is refused for one reason, and for none where it is taken
none-first : (plain : PtNet) (first : Broken) → net_broken plain ≡ [] → IsFirstOf (net_broken plain) first → ⊥
none-first plain first none is =
    let a : first_from None (net_broken plain) ≡ Some first = (first_iff (net_broken plain) first).1 is in
    let b : first_from None (net_broken plain) ≡ None = (none_iff (net_broken plain)).1 none in
    let no : ⊥ = cc in no

one-objection : (plain : PtNet) (q r : PtFault) → Objects plain q → Objects plain r → q ≡ r
one-objection plain q r (inl x) (inl y) =
    let a : first_from None (net_broken plain) ≡ Some x.0 = (first_iff (net_broken plain) x.0).1 x.1 in
    let b : first_from None (net_broken plain) ≡ Some y.0 = (first_iff (net_broken plain) y.0).1 y.1 in
    let same : x.0 ≡ y.0 = cc in
    x.2 ∙ ap report_of same ∙ sym y.2
one-objection plain q r (inl x) (inr y) = absurd (none-first plain x.0 y.0 x.1)
one-objection plain q r (inr x) (inl y) = absurd (none-first plain y.0 x.0 y.1)
one-objection plain q r (inr x) (inr y) = x.2 ∙ sym y.2

taken-objected : (plain : PtNet) (net : Weighted) (q : PtFault) → net_broken plain ≡ [] → net ≡ weighted_of plain → text_length net ≤ longest_net_text → Objects plain q → ⊥
taken-objected plain net q unbroken means short (inl x) = none-first plain x.0 unbroken x.1
taken-objected plain net q unbroken means short (inr x) =
    let is : text_length net ≡ text_length (weighted_of plain) = ap text_length means in
    let long = x.1 in
    let no : ⊥ = omega (arith, is, short, long) in no

alone-explained : (lexed : Lexed) (plain : PtNet) (why : TextFault) → IsTold why → lexed.fault ≡ None → IsWhole IsPtNet lexed.tokens plain → Explains uncounted tt IsPtNet lexed why → ⊥
alone-explained lexed plain why is faultless whole x = alone_refused uncounted tt IsPtNet lexed plain why is faultless whole (within-all lexed.tokens) x

met-refused : (plain : PtNet) (r : Result Weighted PtFault) (q : PtFault) → Meets plain r → Objects plain q → Answers r (Err q)
met-refused plain (Ok net) q meets x = absurd (taken-objected plain net q meets.0 meets.1 meets.2 x)
met-refused plain (Err p) q (inl none) x = unless-memory p (Err q) (inl none)
met-refused plain (Err p) q (inr y) x = unless-memory p (Err q) (inr (ap Err (one-objection plain p q y x)))

settled-refuses : (lexed : Lexed) (r : Result Weighted PtFault) (q : PtFault) → Comes lexed r → Reason lexed q → Answers r (Err q)
settled-refuses lexed r q (inl x) (inl y) = absurd (alone-explained lexed x.0 y.0 y.1 x.1.faultless x.1.whole y.2)
settled-refuses lexed r q (inl x) (inr y) =
    let same : y.0 ≡ x.0 = x.1.only y.0 y.2 in
    met-refused x.0 r q x.2 (subst (λ p. Objects p q) same y.3)
settled-refuses lexed r q (inr x) (inl y) =
    subst (λ s. Answers s (Err q)) (sym x.2) (unless-memory (report_text x.0) (Err q)
    (elim (told x.0) as (λ w. (report_text x.0 ≡ Why.NoMemory no_memory) ⊎ IsErr (report_text x.0) (Err q)) [
      | inl none ↦ inl none
      | inr is ↦ inr (ap Err (ap report_text (one_reason uncounted tt IsPtNet lexed x.0 y.0 is y.1 x.1 y.2) ∙ sym y.3))
    ]))
settled-refuses lexed r q (inr x) (inr y) =
    subst (λ s. Answers s (Err q)) (sym x.2) (unless-memory (report_text x.0) (Err q)
    (elim (told x.0) as (λ w. (report_text x.0 ≡ Why.NoMemory no_memory) ⊎ IsErr (report_text x.0) (Err q)) [
      | inl none ↦ inl none
      | inr is ↦ absurd (alone-explained lexed y.0 x.0 is y.1 y.2 x.1)
    ]))

pub settled_refuses : OneReading → OneFault → NoFaultInTokens → (bytes : List ℕ) (lexed : Lexed) (r : Result Weighted PtFault) → LexedOf bytes lexed → Comes lexed r → (q : PtFault) → IsRefused bytes q → Answers r (Err q)
settled_refuses one only apart bytes lexed r of x q y = settled-refuses lexed r q x (reason-of one only apart bytes lexed q of y)

met-reads : (plain : PtNet) (r : Result Weighted PtFault) (net : Weighted) → Meets plain r → net_broken plain ≡ [] → net ≡ weighted_of plain → text_length net ≤ longest_net_text → Answers r (Ok net)
met-reads plain (Ok other) net meets unbroken means short = ap Ok (meets.1 ∙ sym means)
met-reads plain (Err p) net (inl none) unbroken means short = unless-memory p (Ok net) (inl none)
met-reads plain (Err p) net (inr y) unbroken means short = absurd (taken-objected plain net p unbroken means short y)

settled-reads : (lexed : Lexed) (r : Result Weighted PtFault) (net : Weighted) (plain : PtNet) → Comes lexed r → lexed.fault ≡ None → IsWhole IsPtNet lexed.tokens plain → net_broken plain ≡ [] → net ≡ weighted_of plain → text_length net ≤ longest_net_text → Answers r (Ok net)
settled-reads lexed r net plain (inl x) faultless whole unbroken means short =
    let same : plain ≡ x.0 = x.1.only plain whole in
    met-reads plain r net (subst (λ p. Meets p r) (sym same) x.2) unbroken means short
settled-reads lexed r net plain (inr x) faultless whole unbroken means short =
    subst (λ s. Answers s (Ok net)) (sym x.2) (unless-memory (report_text x.0) (Ok net)
    (elim (told x.0) as (λ w. (report_text x.0 ≡ Why.NoMemory no_memory) ⊎ IsErr (report_text x.0) (Ok net)) [
      | inl none ↦ inl none
      | inr is ↦ absurd (alone-explained lexed plain x.0 is faultless whole x.1)
    ]))

pub settled_reads : OneReading → NoFaultInTokens → (bytes : List ℕ) (lexed : Lexed) (r : Result Weighted PtFault) → LexedOf bytes lexed → Comes lexed r → (net : Weighted) → Spells bytes net → Answers r (Ok net)
settled_reads one apart bytes lexed r of x net s =
    let said = said-lexed one apart bytes lexed of s.plain s.says in
    settled-reads lexed r net s.plain x said.0 said.1 s.unbroken s.means s.short

-- a text that is too long
pub long_reads : (bytes : List ℕ) → longest_net_text < length bytes → (net : Weighted) → Spells bytes net → Answers (Err (Why.P6 first_spot)) (Ok net)
long_reads bytes long net x = absurd (let f = x.says.fits in let no : ⊥ = omega (arith, long, f) in no)

pub long_refuses : (bytes : List ℕ) → longest_net_text < length bytes → (q : PtFault) → IsRefused bytes q → Answers (Err (Why.P6 first_spot)) (Err q)
long_refuses bytes long q x = by x
  where
    by : {q : PtFault} → IsRefused bytes q → Answers (Err (Why.P6 first_spot)) (Err q)
    by (IsRefused.too_long h) = refl
    by (IsRefused.stopped fits from y) = absurd (let no : ⊥ = omega (arith, long, fits) in no)
    by (IsRefused.faulty fits y z) = absurd (let no : ⊥ = omega (arith, long, fits) in no)
    by (IsRefused.unfinished fits y z none) = absurd (let no : ⊥ = omega (arith, long, fits) in no)
    by (IsRefused.breaks says is) = absurd (let fits = says.fits in let no : ⊥ = omega (arith, long, fits) in no)
    by (IsRefused.grows says unbroken far) = absurd (let fits = says.fits in let no : ⊥ = omega (arith, long, fits) in no)

pub none_there : (o : Option Broken) → ((b : Broken) → o ≡ Some b → ⊥) → o ≡ None
none_there None h = refl
none_there (Some b) h = absurd (h b refl)

-- where a test of a bound says no, the bound is passed
pub not_within : (b : Bool) (n most : ℕ) → b ≡ false → (n ≤ most → b ≡ true) → most < n
not_within b n most no_b h = elim (leb_tells n most) as (λ w. most < n) [
  | inl x ↦ absurd (false≢true (sym no_b ∙ h x.1))
  | inr x ↦ x.1
]
