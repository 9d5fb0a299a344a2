-- A text, as it is read piece by piece.
use Rattle.rn_notation.proofs.Names.{◌≡◌, ◌<◌, ◌≤◌, ◌+◌, ◌-◌, ◌^◌, ℕ, List, [], ◌∷◌, ◌++◌, length, take, drop, reverse, Bool, true, false, cond, not, refl, sym, ap, ◌∙◌, subst, arith, append_assoc, if◌then◌else◌, ◌&&◌, count_by, flat_map, prefix_len, append-nil, length-append, reverse-append, length-reverse, take_at, drop_at, prefix_len-le-length, sum_by-append, count_by-le-length, is_line_end, spot_after, IsGap, IsToken, bytes_of, StandsBefore, ArePieces, tokens_after, BeginsWith, Tokens, FirstFault, fault_at, is_letter, is_digit, begins_with, CutsInto, spot_on, next_spot, Read, Token, TokenKind, Cause, is_blank}
use Rattle.rn_notation.specs.Reading.{Piece, gap, token}
use Rattle.rn_notation.specs.link.Scanning as step
use Rattle.rn_notation.specs.declared.token.Spot.{Spot}
use Rattle.rn_notation.proofs.WordLemmas.{sign_not_empty}

spot_more : (before : List ℕ) (c : ℕ) → next_spot (spot_after before) c ≡ spot_after (before ++ c ∷ [])
spot_more before c =
    let lines = sum_by-append (λ x. cond (is_line_end x) 1 0) before (c ∷ []) in
    let row = ap (prefix_len (λ c. not (is_line_end c))) (reverse-append before (c ∷ [])) in
    by (is_line_end c) (count_by is_line_end before) (prefix_len (λ c. not (is_line_end c)) (reverse before)) _ _ lines row
  where
    by : (b : Bool) (n p m q : ℕ) → m ≡ n + (0 + cond b 1 0) → q ≡ cond (not b) (1 + p) 0 →
        ◌≡◌ {A = Spot} (if b then record { line = n + 1 + 1; column = 1 } else record { line = n + 1; column = p + 1 + 1 }) record { line = m + 1; column = q + 1 }
    by true n p m q e f = rw (e, f) refl
    by false n p m q e f = let line : m ≡ n = omega (arith, e) in let row : q ≡ p + 1 = omega (arith, f) in rw (line, row) refl

pub spot_on_after : (before text : List ℕ) → spot_on (spot_after before) text ≡ spot_after (before ++ text)
spot_on_after before [] = ap spot_after (sym (append-nil before))
spot_on_after before (c ∷ text) = ap (λ spot. spot_on spot text) (spot_more before c) ∙ spot_on_after (before ++ c ∷ []) text ∙ ap spot_after (append_assoc before (c ∷ []) text)

-- the spot is the one before this rest of the text
pub record At (text : List ℕ) (spot : Spot) (rest : List ℕ) : Type 0 where
  pub before : List ℕ
  pub whole : text ≡ before ++ rest
  pub is : spot ≡ spot_after before

abbrev pub moved : {text rest after : List ℕ} {spot next : Spot} (prefix : List ℕ) → At text spot rest → rest ≡ prefix ++ after → next ≡ spot_on spot prefix → At text next after
moved {after = after} prefix at whole on = record {
  before = at.before ++ prefix;
  whole = at.whole ∙ ap (λ rest. at.before ++ rest) whole ∙ sym (append_assoc at.before prefix after);
  is = on ∙ ap (λ spot. spot_on spot prefix) at.is ∙ spot_on_after at.before prefix;
}

pub room : {text rest : List ℕ} {spot : Spot} (prefix after : List ℕ) → length text ≤ 67108864 → At text spot rest → rest ≡ prefix ++ after → (spot.line + length prefix < 2 ^ 32) × (spot.column + length prefix < 2 ^ 32)
room {rest = rest} prefix after few at whole =
    let long = ap length at.whole ∙ length-append at.before rest in
    let within = ap length whole ∙ length-append prefix after in
    let lines = ap (λ (s : Spot). s.line) at.is in
    let columns = ap (λ (s : Spot). s.column) at.is in
    let line = count_by-le-length is_line_end at.before in
    let row = prefix_len-le-length (λ c. not (is_line_end c)) (reverse at.before) in
    let back = length-reverse at.before in
    (omega (arith, long, within, lines, line), omega (arith, long, within, columns, row, back))

pub ends : {text after : List ℕ} {spot end : Spot} → At text spot after → end ≡ spot_on spot after → end ≡ spot_after text
ends {after = after} at on = on ∙ ap (λ s. spot_on s after) at.is ∙ spot_on_after at.before after ∙ ap spot_after (sym at.whole)

-- The text begins with these tokens, up to this spot and rest: pieces that follow come after them.
pub record SoFar (text : List ℕ) (tokens : List Token) (spot : Spot) (rest : List ℕ) : Type 0 where
  pub at : At text spot rest
  pub begins : (ps : List Piece) (end : List ℕ) → ArePieces rest ps end → BeginsWith text (tokens ++ tokens_after at.before ps) (at.before ++ flat_map bytes_of ps) end

pub starts : (text : List ℕ) (spot : Spot) → spot ≡ spot_after [] → SoFar text [] spot text
starts text spot e = record { at = record { before = []; whole = refl; is = e }; begins = λ ps end stand. record { pieces = ps; stand = stand; cover = refl; among = refl } }

-- nothing follows
pub begun : {text rest : List ℕ} {tokens : List Token} {spot : Spot} → (so : SoFar text tokens spot rest) → BeginsWith text tokens so.at.before rest
begun {rest = rest} {tokens = tokens} so = rw (append-nil tokens, append-nil so.at.before) at (so.begins [] rest refl)

first_token : (before : List ℕ) (p : Piece) (ps : List Piece) → tokens_after before (p ∷ ps) ≡ tokens_after before (p ∷ []) ++ tokens_after (before ++ bytes_of p) ps
first_token before (gap prefix) ps = refl
first_token before (token kind prefix) ps = refl

more : {text rest after : List ℕ} {tokens grown : List Token} {spot next : Spot} (p : Piece) → (so : SoFar text tokens spot rest) → rest ≡ bytes_of p ++ after → StandsBefore p after →
    next ≡ spot_on spot (bytes_of p) → grown ≡ tokens ++ tokens_after so.at.before (p ∷ []) → SoFar text grown next after
more {text = text} {after = after} {tokens = tokens} p so e fits on new = record {
  at = moved (bytes_of p) so.at e on;
  begins = λ ps end stand.
      let tokens_are = ap (λ t. t ++ tokens_after (so.at.before ++ bytes_of p) ps) new ∙ append_assoc tokens _ _ ∙ ap (λ t. tokens ++ t) (sym (first_token so.at.before p ps)) in
      rw (tokens_are, append_assoc so.at.before (bytes_of p) (flat_map bytes_of ps)) (so.begins (p ∷ ps) end (after, e, fits, stand));
}

-- the piece that was found, as it is told apart
pub stands_as : {piece : Read} {text prefix after : List ℕ} (other : Read) → CutsInto piece text prefix after → piece ≡ other → step.IsSpelledBy (step.found_of other) prefix after
stands_as {prefix = prefix} {after = after} other cut is = subst (λ piece. step.IsSpelledBy (step.found_of piece) prefix after) is cut.stands

pub gap_read : {text rest prefix after : List ℕ} {tokens : List Token} {spot next : Spot} {piece : Read} {n : ℕ} → SoFar text tokens spot rest → CutsInto piece rest prefix after → piece ≡ Read.Gap n →
    next ≡ spot_on spot prefix → SoFar text tokens next after
gap_read {prefix = prefix} {tokens = tokens} so cut is on = more (gap prefix) so cut.whole (stands_as (Read.Gap _) cut is) on (sym (append-nil tokens))

pub token_read : {text rest prefix after : List ℕ} {tokens grown : List Token} {spot next : Spot} {piece : Read} {kind : TokenKind} {n : ℕ} → SoFar text tokens spot rest → CutsInto piece rest prefix after → piece ≡ Read.Token kind n →
    next ≡ spot_on spot prefix → grown ≡ tokens ++ record { kind = kind; start = length text - length rest; end = length text - length rest + length prefix; spot = spot } ∷ [] → SoFar text grown next after
token_read {text = text} {rest = rest} {prefix = prefix} {kind = kind} so cut is on new =
    let long = ap length so.at.whole ∙ length-append so.at.before rest in
    let begin : length text - length rest ≡ length so.at.before = omega (arith, long) in
    more (token kind prefix) so cut.whole (stands_as (Read.Token kind _) cut is) on (rw (begin, so.at.is) at new)

pub fault_read : {text rest prefix after : List ℕ} {tokens : List Token} {spot next : Spot} {piece : Read} {cause : Cause} {n : ℕ} → SoFar text tokens spot rest → CutsInto piece rest prefix after → piece ≡ Read.Fault cause n →
    next ≡ spot_on spot prefix → FirstFault text tokens (fault_at cause next)
fault_read {text = text} {prefix = prefix} {after = after} {tokens = tokens} {cause = cause} so cut is on = record {
  before = so.at.before;
  inside = prefix;
  rest = after;
  cause = cause;
  begins = subst (BeginsWith text tokens so.at.before) cut.whole (begun so);
  fails = stands_as (Read.Fault cause _) cut is;
  reported = ap (fault_at cause) (moved prefix so.at cut.whole on).is;
}

pub whole_read : {text rest : List ℕ} {tokens : List Token} {spot : Spot} → SoFar text tokens spot rest → rest ≡ [] → Tokens text tokens × (spot ≡ spot_after text)
whole_read {text = text} {tokens = tokens} so e =
    let whole = so.at.whole ∙ ap (λ rest. so.at.before ++ rest) e ∙ append-nil so.at.before in
    (subst (λ before. BeginsWith text tokens before []) (sym whole) (subst (BeginsWith text tokens so.at.before) e (begun so)), so.at.is ∙ ap spot_after (sym whole))

pub some_first : (test : ℕ → Bool) (word : List ℕ) (b : Bool) → (begins_with test word && b) ≡ true → 0 < length word
some_first test [] b h = cc
some_first test (c ∷ word) b h = omega arith

-- a piece has a byte at least
pub piece_some : (p : Piece) (after : List ℕ) → StandsBefore p after → 0 < length (bytes_of p)
piece_some (gap prefix) after (IsGap.blank h) = omega arith
piece_some (gap prefix) after (IsGap.comment cs all h) = omega arith
piece_some (token kind prefix) after (IsToken.name is stops none) = some_first is_letter prefix _ is
piece_some (token kind prefix) after (IsToken.word is stops at) = some_first is_letter prefix _ is
piece_some (token kind prefix) after (IsToken.number is stops low) = some_first is_digit prefix _ is
piece_some (token kind prefix) after (IsToken.text parts are) = omega arith
piece_some (token kind prefix) after (IsToken.sign {k = k} at longest code) = sign_not_empty prefix k at

pub blank_read : {text rest others : List ℕ} {tokens : List Token} {spot next : Spot} (c : ℕ) → SoFar text tokens spot rest → rest ≡ c ∷ others → is_blank c ≡ true → next ≡ next_spot spot c → SoFar text tokens next others
blank_read {tokens = tokens} c so e is on = more (gap (c ∷ [])) so e (IsGap.blank is) on (sym (append-nil tokens))

-- what follows a piece is shorter
pub shorter : (p : Piece) (rest after : List ℕ) → rest ≡ bytes_of p ++ after → StandsBefore p after → length after < length rest
shorter p rest after e fits = let some = piece_some p after fits in let long = ap length e ∙ length-append (bytes_of p) after in omega (arith, some, long)

pub cut_into : (piece : Read) (text prefix after : List ℕ) (n : ℕ) → step.IsFirstPiece text piece → n ≡ step.size_of piece → prefix ≡ take n text → after ≡ drop n text → CutsInto piece text prefix after
cut_into piece text prefix after n cut e f a =
    let same = f ∙ ap (take n) cut.whole ∙ take_at cut.prefix cut.rest n (sym (e ∙ cut.size)) in
    let others = a ∙ ap (drop n) cut.whole ∙ drop_at cut.prefix cut.rest n (sym (e ∙ cut.size)) in
    rw (same, others) record { whole = cut.whole; stands = cut.stands }

pub cut_within : (piece : Read) (text : List ℕ) (n : ℕ) → step.IsFirstPiece text piece → n ≡ step.size_of piece → n ≤ length text
cut_within piece text n cut e = let long = ap length cut.whole ∙ length-append cut.prefix cut.rest in let size = cut.size in omega (arith, long, size)

pub ruleset cutting = (cut_into, cut_within)
