-- What stands in quotes and in comments, and what begins no token, as they are read.
use Rattle.rn_notation.proofs.Names.{◌≡◌, ◌<◌, ◌-◌, ◌+◌, ℕ, List, [], ◌∷◌, ◌++◌, length, drop, Bool, true, false, nat_eq, refl, sym, ap, ◌∙◌, subst, arith, append_assoc, if◌then◌else◌, not, encode_utf8, encode_utf8_all, nat_tests, length-append, IsScalar, StartsWithNoChar, begins_with, Part, itself, escape, IsPart, AreParts, spelled, meaning, written, meant, is_closed, IsBroken, IsInComment, IsToken, IsGap, IsFault, begins_plainly, begins_something, Cuts, IsFirstPiece, HasParts, fault, IsRun, fault_in_text, GoesOn, opens_comment, begins_with_sign, Text, Cause, P1, P4, P7}
use Rattle.rn_notation.specs.link.Scanning.{token, gap}
use Rattle.rn_notation.specs.declared.piece.Piece.{Piece}
use Rattle.rn_notation.proofs.Runs.{goes_on, taken_as, cuts_before, fault_here, one_item}
use Rattle.rn_notation.proofs.Parts.{closed_parts}
use Rattle.rn_notation.proofs.Characters.{some_bytes, ascii_prefix}

-- a text goes on with characters of a comment
abbrev pub Commented : List ℕ → List ℕ → Type 0
Commented text rest = (bytes : List ℕ) × GoesOn IsInComment encode_utf8 encode_utf8 text bytes rest

pub run_commented : {text run rest : List ℕ} → IsRun text run rest → Commented text rest
run_commented {run = run} is = (run, taken_as (λ c. c) IsInComment encode_utf8 encode_utf8 (λ c is. (is.0, grind (arith, nat_tests, is.1))) is)

pub comment_goes_on : {text rest after : List ℕ} → Commented text rest → Commented rest after → Commented text after
comment_goes_on a b = (a.0 ++ b.0, goes_on a.1 b.1 refl)

-- a character isn't the line feed where its first byte isn't
no_line_feed : (first c : ℕ) (others rest : List ℕ) → first ∷ others ≡ encode_utf8 c ++ rest → ¬ (first ≡ 10) → nat_eq c 10 ≡ false
no_line_feed first c others rest e h =
    let same = λ (low : c < 128). ap (begins_with (λ d. nat_eq d 10)) (ascii_prefix c rest low ∙ sym e) in grind (arith, nat_tests, same)

pub char_commented : (rest more others : List ℕ) (first c : ℕ) → rest ≡ first ∷ others → ¬ (first ≡ 10) → IsScalar c → rest ≡ encode_utf8 c ++ more → Commented rest more
char_commented rest more others first c e h scalar whole = (encode_utf8 c, one_item c (scalar, no_line_feed first c others more (sym e ∙ whole) h) whole refl)

slashes : (text : List ℕ) → opens_comment text ≡ true → text ≡ 47 ∷ 47 ∷ drop 2 text
slashes [] h = cc
slashes (a ∷ []) h = absurd (grind arith)
slashes (a ∷ b ∷ text) h = grind (arith, nat_tests)

pub comment_ends : (text rest : List ℕ) (n : ℕ) → opens_comment text ≡ true → Commented (drop 2 text) rest → begins_with (λ c. not (nat_eq c 10)) rest ≡ false → n ≡ length text - length rest → Cuts text n gap
comment_ends text rest n opens so h e = cuts_before text (47 ∷ 47 ∷ encode_utf8_all so.1.items) rest n gap (slashes text opens ∙ ap (λ t. 47 ∷ 47 ∷ t) so.1.whole) e (IsGap.comment so.1.items so.1.are h)

pub comment_breaks : (text rest others : List ℕ) (first : ℕ) → opens_comment text ≡ true → Commented (drop 2 text) rest → rest ≡ first ∷ others → StartsWithNoChar rest → Cuts text (length text - length rest) (fault P4)
comment_breaks text rest others first opens so e h = cuts_before text (47 ∷ 47 ∷ encode_utf8_all so.1.items) rest _ (fault P4) (slashes text opens ∙ ap (λ t. 47 ∷ 47 ∷ t) so.1.whole) refl
    (IsFault.broken_comment so.1.items so.1.are (subst IsBroken (sym e) (subst StartsWithNoChar e h)))

pub stray_stands : (text : List ℕ) (c : ℕ) (after : List ℕ) → IsScalar c → text ≡ encode_utf8 c ++ after → begins_plainly text ≡ false → begins_with_sign text ≡ false → Cuts text 0 (fault P1)
stray_stands text c after scalar e plain none =
    let strange : begins_something text ≡ false = rw (plain, none) refl in
    fault_here text P1 (subst (IsFault P1 []) (sym e) (IsFault.stray c after scalar (ap begins_something (sym e) ∙ strange)))

pub broken_stands : (text : List ℕ) → 0 < length text → StartsWithNoChar text → Cuts text 0 (fault P4)
broken_stands (c ∷ text) some h = fault_here (c ∷ text) P4 (IsFault.broken h)
broken_stands [] some h = absurd (omega arith)

pub ruleset stray_rules = (stray_stands, broken_stands)

-- the source is a quote and parts that stand for these bytes, and then this rest
pub record ReadText (source rest bytes : List ℕ) : Type 0 where
  pub quoted : source ≡ 34 ∷ drop 1 source
  pub parts : HasParts (drop 1 source) bytes rest

pub text_starts : (source rest bytes : List ℕ) → begins_with (nat_eq 34) source ≡ true → rest ≡ drop 1 source → bytes ≡ [] → ReadText source rest bytes
text_starts [] rest bytes h e f = cc
text_starts (c ∷ source) rest bytes h e f = let quote : c ≡ 34 = grind (arith, nat_tests) in record { quoted = ap (λ c. c ∷ source) quote; parts = record { items = []; are = tt; whole = sym e; means = f } }

pub text_goes_on : {source rest more bytes part longer : List ℕ} → ReadText source rest bytes → HasParts rest part more → longer ≡ bytes ++ part → ReadText source more longer
text_goes_on so has e = record { quoted = so.quoted; parts = goes_on so.parts has e }

pub text_runs_on : {source rest more bytes run longer : List ℕ} → ReadText source rest bytes → IsRun rest run more → longer ≡ bytes ++ run → ReadText source more longer
text_runs_on so is e = text_goes_on so (taken_as itself IsPart spelled meaning (λ c is. is) is) e

whole_text : {source rest bytes : List ℕ} → (so : ReadText source rest bytes) → source ≡ 34 ∷ written so.parts.items ++ rest
whole_text so = so.quoted ∙ ap (λ t. 34 ∷ t) so.parts.whole

pub text_closes : {source rest bytes : List ℕ} (after : List ℕ) → ReadText source rest bytes → rest ≡ 34 ∷ after → Cuts source (length source - length rest + 1) (token (Text bytes))
text_closes {source = source} {rest = rest} {bytes = bytes} after so e =
    let parts = so.parts.items in
    let whole : source ≡ (34 ∷ written parts ++ 34 ∷ []) ++ after = whole_text so ∙ ap (λ t. 34 ∷ written parts ++ t) e ∙ ap (λ t. 34 ∷ t) (sym (append_assoc (written parts) (34 ∷ []) after)) in
    let short = ap length e in
    let long = ap length (whole_text so) ∙ length-append (34 ∷ written parts) rest in
    cuts_before source (34 ∷ written parts ++ 34 ∷ []) after _ (token (Text bytes)) whole (omega (arith, short, long))
    (subst (λ bytes. IsToken (Text bytes) (34 ∷ written parts ++ 34 ∷ []) after) (sym so.parts.means) (IsToken.text parts so.parts.are))

pub text_is_open : {source rest bytes : List ℕ} → ReadText source rest bytes → is_closed rest ≡ false → Cuts source 0 (fault P7)
text_is_open {source = source} {rest = rest} so h = fault_here source P7 (subst (IsFault P7 []) (sym (whole_text so)) (IsFault.not_closed (closed_parts so.parts.items rest so.parts.are ∙ h)))

pub text_fails : {source rest bytes : List ℕ} (cause : Cause) → ReadText source rest bytes → ((parts : List Part) → AreParts parts → is_closed (written parts ++ rest) ≡ true → IsFault cause (34 ∷ written parts) rest) →
    (piece : Piece) → piece ≡ fault_in_text source cause rest → IsFirstPiece source piece
text_fails {source = source} {rest = rest} cause so fails piece e = subst (IsFirstPiece source) (sym e) (by (is_closed rest) refl)
  where
    by : (b : Bool) → is_closed rest ≡ b → IsFirstPiece source (if b then Piece.Fault cause (length source - length rest) else Piece.Fault P7 0)
    by true shut = cuts_before source (34 ∷ written so.parts.items) rest _ (fault cause) (whole_text so) refl (fails so.parts.items so.parts.are (closed_parts so.parts.items rest so.parts.are ∙ shut))
    by false shut = text_is_open so shut

-- a character takes a byte at least
pub part_shortens : {rest more : List ℕ} (c : ℕ) → HasParts rest (encode_utf8 c) more → length more < length rest
part_shortens {rest = rest} {more = more} c has = by has.items has.whole has.means
  where
    by : (parts : List Part) → rest ≡ written parts ++ more → encode_utf8 c ≡ meant parts → length more < length rest
    by [] whole means = let some = some_bytes c in let none = ap length means in absurd (omega (arith, some, none))
    by (itself d ∷ parts) whole means =
        let some = some_bytes d in let first = length-append (encode_utf8 d) (written parts) in let long = ap length whole ∙ length-append (encode_utf8 d ++ written parts) more in omega (arith, some, first, long)
    by (escape d ∷ parts) whole means = let long = ap length whole ∙ length-append (92 ∷ d ∷ written parts) more in omega (arith, long)
