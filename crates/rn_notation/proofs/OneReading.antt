-- A text has one reading.
use Rattle.rn_notation.proofs.Names.{◌≡◌, ◌<◌, ◌≤◌, ◌+◌, ◌-◌, ℕ, List, [], ◌∷◌, ◌++◌, length, take, drop, refl, sym, ap, ◌∙◌, subst, arith, append_assoc, Option, Some, None, encode_utf8, ◌↔◌, flat_map, AllByRecursion, length-append, take_at, drop_at, is_digit, IsToken, IsFault, spot_after, bytes_of, StandsBefore, ArePieces, tokens_after, token_after, FirstFault, IsReadingOf, IsSlice, Ascend, IsTokens, NoOthers, NoOthersBefore, ReportsFault, Token, Cause}
use Rattle.rn_notation.specs.Reading.{Piece, gap, token}
use Rattle.rn_notation.specs.Laws.{OneReading, OneFault, NoFaultInTokens}
use Rattle.rn_notation.specs.link.Scanning as step
use Rattle.rn_notation.specs.declared.token.LexFault.{LexFault}
use Rattle.rn_notation.proofs.Characters.{some_bytes}
use Rattle.rn_notation.proofs.ReadingLemmas.{some_first, piece_some, shorter}
use Rattle.rn_notation.proofs.Classes.{Outcome, one_stands}

abbrev kind_of : Piece → step.Found
kind_of (gap prefix) = step.gap
kind_of (token kind prefix) = step.token kind

stands : (p : Piece) (after : List ℕ) → StandsBefore p after → step.IsSpelledBy (kind_of p) (bytes_of p) after
stands (gap prefix) after fits = fits
stands (token kind prefix) after fits = fits

one_piece : (p q : Piece) (r s : List ℕ) → ◌≡◌ {A = Outcome} (kind_of p, bytes_of p, r) (kind_of q, bytes_of q, s) → (p ≡ q) × (r ≡ s)
one_piece (gap f) (gap g) r s e = let same : f ≡ g = ap (λ (o : Outcome). o.1) e in (ap gap same, ap (λ (o : Outcome). o.2) e)
one_piece (gap f) (token kind g) r s e = absurd (let same : step.gap ≡ step.token kind = ap (λ (o : Outcome). o.0) e in cc)
one_piece (token kind f) (gap g) r s e = absurd (let same : step.token kind ≡ step.gap = ap (λ (o : Outcome). o.0) e in cc)
one_piece (token kind f) (token other g) r s e =
    let same : step.token kind ≡ step.token other = ap (λ (o : Outcome). o.0) e in
    let prefix : f ≡ g = ap (λ (o : Outcome). o.1) e in
    (cc, ap (λ (o : Outcome). o.2) e)

-- no piece stands there
abbrev Halts : List ℕ → Type 0
Halts rest = (p : Piece) (after : List ℕ) → rest ≡ bytes_of p ++ after → ¬ StandsBefore p after

halts_at_end : Halts []
halts_at_end p after e fits = let less = shorter p [] after e fits in omega (arith, less)

halts_at_fault : (cause : Cause) (inside rest : List ℕ) → IsFault cause inside rest → Halts (inside ++ rest)
halts_at_fault cause inside rest fails (gap prefix) after e fits =
    let same : step.fault cause ≡ step.gap = ap (λ (o : Outcome). o.0) (one_stands (step.fault cause) step.gap inside prefix rest after fails fits e) in
    absurd (let no : ⊥ = cc in no)
halts_at_fault cause inside rest fails (token kind prefix) after e fits =
    let same : step.fault cause ≡ step.token kind = ap (λ (o : Outcome). o.0) (one_stands (step.fault cause) (step.token kind) inside prefix rest after fails fits e) in
    absurd (let no : ⊥ = cc in no)

one_pieces : (text : List ℕ) (ps qs : List Piece) (r s : List ℕ) → ArePieces text ps r → ArePieces text qs s → Halts r → Halts s → (ps ≡ qs) × (r ≡ s)
one_pieces text [] [] r s a b hr hs = (refl, sym a ∙ b)
one_pieces text [] (q ∷ qs) r s a (after, e, fits, others) hr hs = absurd (hr q after (sym a ∙ e) fits)
one_pieces text (p ∷ ps) [] r s (after, e, fits, others) b hr hs = absurd (hs p after (sym b ∙ e) fits)
one_pieces text (p ∷ ps) (q ∷ qs) r s (after, e, fits, more) (behind, f, fit, others) hr hs =
    let same = one_piece p q after behind (one_stands (kind_of p) (kind_of q) (bytes_of p) (bytes_of q) after behind (stands p after fits) (stands q behind fit) (sym e ∙ f)) in
    let rest = one_pieces behind ps qs r s (subst (λ after. ArePieces after ps r) same.1 more) others hr hs in
    (ap (λ p. p ∷ ps) same.0 ∙ ap (λ ps. q ∷ ps) rest.0, rest.1)

pub one_reading : OneReading
one_reading text s t a b =
    let same = one_pieces text a.pieces b.pieces [] [] a.stand b.stand halts_at_end halts_at_end in
    a.among ∙ ap (tokens_after []) same.0 ∙ sym b.among

pub one_fault : OneFault
one_fault text s t f g a b =
    let same = one_pieces text a.begins.pieces b.begins.pieces (a.inside ++ a.rest) (b.inside ++ b.rest) a.begins.stand b.begins.stand (halts_at_fault a.cause a.inside a.rest a.fails) (halts_at_fault b.cause b.inside b.rest b.fails) in
    let outcome = one_stands (step.fault a.cause) (step.fault b.cause) a.inside b.inside a.rest b.rest a.fails b.fails same.1 in
    let kinds : step.fault a.cause ≡ step.fault b.cause = ap (λ (o : Outcome). o.0) outcome in
    let causes : a.cause ≡ b.cause = cc in
    let insides : a.inside ≡ b.inside = ap (λ (o : Outcome). o.1) outcome in
    let befores : a.before ≡ b.before = a.begins.cover ∙ ap (flat_map bytes_of) same.0 ∙ sym b.begins.cover in
    (a.begins.among ∙ ap (tokens_after []) same.0 ∙ sym b.begins.among, a.reported ∙ rw (causes, befores, insides) (sym b.reported))

fault_some : (cause : Cause) (inside rest : List ℕ) → IsFault cause inside rest → 0 < length (inside ++ rest)
fault_some cause inside rest (IsFault.stray c after scalar none) = let some = some_bytes c in let long = length-append (encode_utf8 c) after in omega (arith, some, long)
fault_some cause inside rest (IsFault.no_escape parts are none closed) = omega arith
fault_some cause inside rest (IsFault.too_great ds after is stops great) = let some = some_first is_digit ds _ is in let long = length-append ds after in omega (arith, some, long)
fault_some cause inside [] (IsFault.broken broken) = absurd broken
fault_some cause inside (c ∷ rest) (IsFault.broken broken) = omega arith
fault_some cause inside rest (IsFault.broken_comment cs all broken) = omega arith
fault_some cause inside rest (IsFault.broken_text parts are broken closed) = omega arith
fault_some cause inside rest (IsFault.not_closed shut) = omega arith

pub no_fault : NoFaultInTokens
no_fault text s t f a b =
    let same = one_pieces text a.pieces b.begins.pieces [] (b.inside ++ b.rest) a.stand b.begins.stand halts_at_end (halts_at_fault b.cause b.inside b.rest b.fails) in
    let some = fault_some b.cause b.inside b.rest b.fails in
    let none = ap length same.1 in
    omega (arith, some, none)

-- the tokens of pieces are slices of the text, one after the other
slices : (text before here rest : List ℕ) (ps : List Piece) (low : ℕ) → low ≤ length before → text ≡ before ++ here → ArePieces here ps rest → AllByRecursion (IsSlice text) (tokens_after before ps) × Ascend low (tokens_after before ps) (length text)
slices text before here rest [] low h e stand = let long = ap length e ∙ length-append before here in (tt, omega (arith, long))
slices text before here rest (gap prefix ∷ ps) low h e (after, f, fits, others) =
    let long = length-append before prefix in
    slices text (before ++ prefix) after rest ps low (omega (arith, long)) (e ∙ ap (λ here. before ++ here) f ∙ sym (append_assoc before prefix after)) others
slices text before here rest (token kind prefix ∷ ps) low h e (after, f, fits, others) =
    let end = length before + length prefix in
    let long = length-append before prefix in
    let some = piece_some (token kind prefix) after fits in
    let whole : text ≡ before ++ prefix ++ after = e ∙ ap (λ here. before ++ here) f ∙ sym (append_assoc before prefix after) in
    let back : drop (length before) text ≡ prefix ++ after = ap (drop (length before)) e ∙ drop_at before here (length before) refl ∙ f in
    let size : end - length before ≡ length prefix = omega arith in
    let slice : take (end - length before) (drop (length before) text) ≡ prefix = ap (take (end - length before)) back ∙ take_at prefix after (end - length before) (sym size) in
    let behind : drop end text ≡ after = ap (drop end) whole ∙ drop_at (before ++ prefix) after end long in
    let more = slices text (before ++ prefix) after rest ps end (omega (arith, long)) whole others in
    let here : IsSlice text (token_after before kind prefix) = record {
      stands = subst (λ slice. IsToken kind slice (drop end text)) (sym slice) (subst (IsToken kind prefix) (sym behind) fits);
      at_spot = ap spot_after (sym (ap (take (length before)) e ∙ take_at before here (length before) refl));
    } in
    ((here, more.0), (h, omega (arith, some), more.1))

pub reads_slices : (text : List ℕ) (tokens : List Token) (fault : Option LexFault) → IsReadingOf text tokens fault → AllByRecursion (IsSlice text) tokens × Ascend 0 tokens (length text)
reads_slices text tokens None r = rw r.among (slices text [] text [] r.pieces 0 (omega arith) refl r.stand)
reads_slices text tokens (Some fault) r = rw r.begins.among (slices text [] text (r.inside ++ r.rest) r.begins.pieces 0 (omega arith) refl r.begins.stand)

-- what is known of all readings where the text was read
pub reads_only : (text : List ℕ) (tokens : List Token) (fault : Option LexFault) → IsReadingOf text tokens fault → NoOthers text tokens × NoOthersBefore text tokens × ReportsFault text fault × ((fault ≡ None) ↔ IsTokens text)
reads_only text tokens None r = (
  λ others t. one_reading text tokens others r t,
  λ others other f. absurd (no_fault text tokens others other r f),
  λ other. ((λ e. cc), (λ has. absurd (no_fault text tokens has.0 other r has.1))),
  ((λ e. (tokens, r)), (λ has. refl)),
)
reads_only text tokens (Some fault) r = (
  λ others t. absurd (no_fault text others tokens fault t r),
  λ others other f. (one_fault text tokens others fault other r f).0,
  λ other. ((λ e. let same : fault ≡ other = cc in (tokens, subst (FirstFault text tokens) same r)), (λ has. ap Some (one_fault text tokens has.0 fault other r has.1).1)),
  ((λ e. cc), (λ has. absurd (no_fault text has.0 tokens fault has.1 r))),
)
