-- A text is refused for one reason.
use Rattle.rn_net.proofs.Names.{◌≡◌, ℕ, ◌<◌, inl, inr, List, length, refl, sym, ◌∙◌, ap, subst, arith, Result, Ok, Err, Option, IfSome, IfNone, longest_net_text, OneReading, OneFault, NoFaultInTokens, Tokens, FirstFault, Token, LexFault, Lexed, TextFault, IsTold, one_reason, same_tokens, Plain, Refusal, net_counting, between, IsSystem, IsText, IsStopped, IsDeep, AreFine, IsRefused, Answers, report, answer_of}
use Rattle.std.specs.Prelude.{Some, None}
use Rattle.rn_reading.specs.declared.fault.TextFault.TheVariants as Why
use Rattle.rn_net.specs.declared.refusal.Refusal.TheVariants as R
use Rattle.rn_net.proofs.Settling.{Explains, Settles, LexedOf, tokens_of, spelled-alone, text_read}

-- why a text is refused, said of what was lexed of it
told-by : OneReading → OneFault → NoFaultInTokens → (bytes : List ℕ) (lexed : Lexed) (q : Refusal) → LexedOf bytes lexed → IsRefused bytes q → (why : TextFault) × (q ≡ report why) × IsTold why × Explains lexed why
told-by one only apart bytes lexed q of x = by x
  where
    faulty : (fault : Option LexFault) → IfNone fault (Tokens bytes lexed.tokens) → IfSome fault (FirstFault bytes lexed.tokens) → (ts : List Token) (f : LexFault) → FirstFault bytes ts f → (ts ≡ lexed.tokens) × (fault ≡ Some f)
    faulty None none some ts f y = absurd (apart bytes lexed.tokens ts f none y)
    faulty (Some g) none some ts f y = let same = only bytes ts lexed.tokens f g y some in (same.0, ap Some (sym same.1))

    whole : (fault : Option LexFault) → IfNone fault (Tokens bytes lexed.tokens) → IfSome fault (FirstFault bytes lexed.tokens) → (ts : List Token) → Tokens bytes ts → (ts ≡ lexed.tokens) × (fault ≡ None)
    whole None none some ts y = (one bytes ts lexed.tokens y none, refl)
    whole (Some g) none some ts y = absurd (apart bytes ts lexed.tokens g y some)

    by : {q : Refusal} → IsRefused bytes q → (why : TextFault) × (q ≡ report why) × IsTold why × Explains lexed why
    by (IsRefused.too_long h) = absurd (let f = of.fits in omega (arith, h, f))
    by (IsRefused.stopped {tokens = ts} {spot = spot} h is y) = (Why.Stopped spot, refl, tt, inl (subst (λ us. IsStopped us spot) (same_tokens one only apart bytes ts lexed.tokens is (tokens_of of)) y))
    by (IsRefused.deep {tokens = ts} {spot = spot} h is y) = (Why.TooFar spot, refl, tt, subst (λ us. IsDeep us spot) (same_tokens one only apart bytes ts lexed.tokens is (tokens_of of)) y)
    by (IsRefused.faulty {tokens = ts} {fault = f} h y z) = let same = faulty lexed.fault of.tokens of.fault ts f y in (Why.Lexical f, refl, tt, (same.1, subst AreFine same.0 z))
    by (IsRefused.unfinished {tokens = ts} h y z none) = let same = whole lexed.fault of.tokens of.fault ts y in
        (Why.Stopped lexed.end, ap R.P2 (sym of.end), tt, inr (same.1, refl, subst AreFine same.0 z, λ p x. none p (subst (λ us. IsSystem us p) (sym same.0) x.0)))

-- an answer is this one unless memory ran out
unless-memory : (q : Refusal) (expected : Result Plain Refusal) → Err q ≡ expected → Answers (Err q) expected
unless-memory (R.P1 s) expected x = x
unless-memory (R.P2 s) expected x = x
unless-memory (R.P3 s) expected x = x
unless-memory (R.P4 s) expected x = x
unless-memory (R.P5 s) expected x = x
unless-memory (R.P6 s) expected x = x
unless-memory (R.P7 s) expected x = x
unless-memory (R.NoMemory _) expected x = tt

pub text_refuses : OneReading → OneFault → NoFaultInTokens → (bytes : List ℕ) (lexed : Lexed) (text : Result Plain TextFault) → LexedOf bytes lexed → Settles lexed text → (q : Refusal) → IsRefused bytes q → Answers (answer_of text) (Err q)
text_refuses one only apart bytes lexed (Ok p) of s q x = absurd (spelled-alone one only apart (text_read bytes lexed (Ok p) of s) x)
text_refuses one only apart bytes lexed (Err why) of s q x = by why s
  where
    same : (why : TextFault) → IsTold why → Explains lexed why → Answers (Err (report why)) (Err q)
    same why told s = let t = told-by one only apart bytes lexed q of x in
        unless-memory (report why) (Err q) (ap Err (ap report (one_reason net_counting between IsText lexed why t.0 told t.2 s t.3) ∙ sym t.1))

    by : (why : TextFault) → Explains lexed why → Answers (Err (report why)) (Err q)
    by (Why.Stopped y) s = same (Why.Stopped y) tt s
    by (Why.TooFar y) s = same (Why.TooFar y) tt s
    by (Why.Lexical f) s = same (Why.Lexical f) tt s
    by (Why.NoMemory _) s = tt

pub long_refuses : (bytes : List ℕ) → longest_net_text < length bytes → (q : Refusal) → IsRefused bytes q → Answers (Err (R.P6 (record { line = 1; column = 1 }))) (Err q)
long_refuses bytes long q x = by x
  where
    by : {q : Refusal} → IsRefused bytes q → Answers (Err (R.P6 (record { line = 1; column = 1 }))) (Err q)
    by (IsRefused.too_long h) = refl
    by (IsRefused.stopped fits of y) = absurd (omega (arith, long, fits))
    by (IsRefused.deep fits of y) = absurd (omega (arith, long, fits))
    by (IsRefused.faulty fits y z) = absurd (omega (arith, long, fits))
    by (IsRefused.unfinished fits y z none) = absurd (omega (arith, long, fits))
