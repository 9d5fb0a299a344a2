-- Rows of values, read from the left.
use Rattle.std.proofs.Common.{◌≡◌, ◌<◌, ◌-◌, ◌+◌, ℕ, suc, List, [], ◌∷◌, ◌++◌, length, append_assoc, refl, sym, ap, ◌∙◌, arith}
use Rattle.std.specs.Prelude.{Option, Some, None, nat_eq, cond, Bool, true, false, Result, Ok, Err}
use Rattle.std.proofs.lemmas.List.{append-nil}
use Rattle.std.proofs.lemmas.Option.{same_Some}
use Rattle.rn_value.specs.declared.value.Value.{Value}
use Rattle.rn_lines.specs.declared.unread.Unread.{Unread}
use Rattle.rn_lines.specs.declared.unread.Unread.TheVariants as unread
use Rattle.rn_lines.specs.ValueText.{Said}
use Rattle.rn_lines.specs.Reading.{◌>>=◌, Misses, ReturnsRead, byte_at, with_front, after, tail_at, row_at, rows_at, value_at}

abbrev Row : Type 0
Row = Option (List Value × List Said × List ℕ)

one_first : (vs : List Value) (ms m : List Said) (v : Value) (read : Row) → with_front vs ms (with_front (v ∷ []) m read) ≡ with_front (vs ++ v ∷ []) (ms ++ m) read
one_first vs ms m v None = refl
one_first vs ms m v (Some y) =
    let firsts : (vs ++ v ∷ []) ++ y.0 ≡ vs ++ v ∷ y.0 = append_assoc vs (v ∷ []) y.0 in
    let saids : (ms ++ m) ++ y.1 ≡ ms ++ (m ++ y.1) = append_assoc ms m y.1 in
    sym (λ i. Some (firsts i, saids i, y.2))

nothing_before : (vs : List Value) (ms : List Said) (rest : List ℕ) → with_front vs ms (Some ([], [], rest)) ≡ Some (vs, ms, rest)
nothing_before vs ms rest = λ i. Some (append-nil vs i, append-nil ms i, rest)

pub no_bytes : (bytes : List ℕ) → length bytes ≡ 0 → bytes ≡ []
no_bytes [] e = refl
no_bytes (c ∷ bytes) e = absurd (omega arith)

module _ (item : List ℕ → Option (Value × List Said × List ℕ)) where
  -- what follows a value
  abbrev others : ℕ → ℕ → Value × List Said × List ℕ → Row
  others close n x = with_front (x.0 ∷ []) x.1 (tail_at item close n x.2)

  read_value : (vs : List Value) (ms new_ms : List Said) (close n : ℕ) (bytes rest : List ℕ) (v : Value) → after ms (item bytes) ≡ Some (v, new_ms, rest) →
      with_front vs ms (item bytes >>= others close n) ≡ with_front (vs ++ v ∷ []) new_ms (tail_at item close n rest)
  read_value vs ms new_ms close n bytes rest v read = by (item bytes) read
    where
      by : (o : Option (Value × List Said × List ℕ)) → after ms o ≡ Some (v, new_ms, rest) → with_front vs ms (o >>= others close n) ≡ with_front (vs ++ v ∷ []) new_ms (tail_at item close n rest)
      by None e = cc
      by (Some x) e =
          let same = same_Some (x.0, ms ++ x.1, x.2) (v, new_ms, rest) e in
          one_first vs ms x.1 x.0 (tail_at item close n x.2)
          ∙ (λ i. with_front (vs ++ (same i).0 ∷ []) (same i).1 (tail_at item close n (same i).2))

  read_none : (vs : List Value) (ms : List Said) (close n : ℕ) (bytes : List ℕ) → after ms (item bytes) ≡ None → with_front vs ms (item bytes >>= others close n) ≡ None
  read_none vs ms close n bytes none = by (item bytes) none
    where
      by : (o : Option (Value × List Said × List ℕ)) → after ms o ≡ None → with_front vs ms (o >>= others close n) ≡ None
      by None e = refl
      by (Some x) e = cc

  comma_step : (close most i : ℕ) (rest more : List ℕ) → i < most → rest ≡ 44 ∷ more → tail_at item close (most - i) rest ≡ (item more >>= others close (most - (i + 1)))
  comma_step close most i rest more low is =
      let k : most - i ≡ suc (most - (i + 1)) = omega arith in
      (λ j. tail_at item close (k j) (is j))

  pub comma_on : (close most i : ℕ) (rest more next : List ℕ) (vs new_vs : List Value) (ms new_ms : List Said) (v : Value) (whole : Row) → i < most → rest ≡ 44 ∷ more →
      after ms (item more) ≡ Some (v, new_ms, next) → new_vs ≡ vs ++ v ∷ [] → with_front vs ms (tail_at item close (most - i) rest) ≡ whole →
      with_front new_vs new_ms (tail_at item close (most - (i + 1)) next) ≡ whole
  comma_on close most i rest more next vs new_vs ms new_ms v whole low is read put so_far =
      ap (λ vs. with_front vs new_ms (tail_at item close (most - (i + 1)) next)) put
      ∙ sym (read_value vs ms new_ms close (most - (i + 1)) more next v read)
      ∙ ap (with_front vs ms) (sym (comma_step close most i rest more low is))
      ∙ so_far

  pub comma_ends : (e : Unread) (close most i : ℕ) (rest more : List ℕ) (vs : List Value) (ms : List Said) (whole : Row) → i < most → rest ≡ 44 ∷ more →
      Misses e (after ms (item more)) → with_front vs ms (tail_at item close (most - i) rest) ≡ whole → Misses e whole
  comma_ends (unread.NoMemory _) close most i rest more vs ms whole low is none so_far = tt
  comma_ends unread.NotThere close most i rest more vs ms whole low is none so_far =
      sym so_far ∙ ap (with_front vs ms) (comma_step close most i rest more low is) ∙ read_none vs ms close (most - (i + 1)) more none

  close_step : (close n c : ℕ) (more : List ℕ) → nat_eq c 44 ≡ false → tail_at item close (suc n) (c ∷ more) ≡ (byte_at close (c ∷ more) >>= λ rest. Some ([], [], rest))
  close_step close n c more apart = rw apart (by (nat_eq c close))
    where
      none_before : List ℕ → Row
      none_before rest = Some ([], [], rest)

      by : (t : Bool) → cond t (none_before more) None ≡ (cond t (Some more) None >>= none_before)
      by true = refl
      by false = refl

  pub closes : {X : Type 0} (view : X → List ℕ) (r : Result X Unread) (close most i c : ℕ) (rest more : List ℕ) (vs : List Value) (ms : List Said) (whole : Row) → i < most → rest ≡ c ∷ more →
      nat_eq c 44 ≡ false → ReturnsRead view r (byte_at close rest) → with_front vs ms (tail_at item close (most - i) rest) ≡ whole → ReturnsRead (λ x. (vs, ms, view x)) r whole
  closes view r close most i c rest more vs ms whole low is apart gives so_far =
      let k : most - i ≡ suc (most - (i + 1)) = omega arith in
      let step : tail_at item close (most - i) rest ≡ (byte_at close rest >>= λ rest. Some ([], [], rest)) =
      (λ j. tail_at item close (k j) (is j)) ∙ close_step close (most - (i + 1)) c more apart ∙ ap (λ bytes. byte_at close bytes >>= λ rest. Some ([], [], rest)) (sym is) in
      by r gives (sym so_far ∙ ap (with_front vs ms) step)
    where
      by : (r : Result _ Unread) → ReturnsRead view r (byte_at close rest) → whole ≡ with_front vs ms (byte_at close rest >>= λ rest. Some ([], [], rest)) → ReturnsRead (λ x. (vs, ms, view x)) r whole
      by (Ok x) found e = e ∙ ap (λ o. with_front vs ms (o >>= λ rest. Some ([], [], rest))) found ∙ nothing_before vs ms (view x)
      by (Err unread.NotThere) found e = e ∙ ap (λ o. with_front vs ms (o >>= λ rest. Some ([], [], rest))) found
      by (Err (unread.NoMemory _)) found e = tt

  pub stops : (close most i : ℕ) (rest : List ℕ) (vs : List Value) (ms : List Said) (whole : Row) → i < most → length rest ≡ 0 → with_front vs ms (tail_at item close (most - i) rest) ≡ whole → whole ≡ None
  stops close most i rest vs ms whole low short so_far =
      let is : rest ≡ [] = no_bytes rest short in
      let k : most - i ≡ suc (most - (i + 1)) = omega arith in
      sym so_far ∙ (λ j. with_front vs ms (tail_at item close (k j) (is j)))

-- The same of a whole row, by the brackets that may open.
pub no_brackets : (depth close : ℕ) (bytes : List ℕ) (vs : List Value) (ms : List Said) → depth ≡ 0 → with_front vs ms (rows_at depth close bytes) ≡ None
unfolding rows_at
no_brackets depth close bytes vs ms zero_is = ap (λ d. with_front vs ms (rows_at d close bytes)) zero_is

row_step : (depth close : ℕ) (bytes : List ℕ) → 0 < depth → rows_at depth close bytes ≡ row_at (value_at (depth - 1)) close bytes
unfolding rows_at
row_step depth close bytes low =
    let k : depth ≡ suc (depth - 1) = omega arith in
    ap (λ d. rows_at d close bytes) k

pub empty_row : (item : List ℕ → Option (Value × List Said × List ℕ)) (close : ℕ) (bytes rest : List ℕ) → byte_at close bytes ≡ Some rest → row_at item close bytes ≡ Some ([], [], rest)
empty_row item close [] rest found = cc
empty_row item close (c ∷ bytes) rest found = by (nat_eq c close) found
  where
    none_before : List ℕ → Row
    none_before rest = Some ([], [], rest)

    by : (t : Bool) → cond t (Some bytes) None ≡ Some rest → cond t (none_before bytes) (item (c ∷ bytes) >>= others item close (length (c ∷ bytes))) ≡ none_before rest
    by true e = ap none_before (same_Some bytes rest e)
    by false e = cc

other_row : (item : List ℕ → Option (Value × List Said × List ℕ)) (close : ℕ) (bytes : List ℕ) → item [] ≡ None → byte_at close bytes ≡ None → row_at item close bytes ≡ (item bytes >>= others item close (length bytes))
other_row item close [] none found = sym (ap (λ o. o >>= others item close 0) none)
other_row item close (c ∷ bytes) none found = by (nat_eq c close) found
  where
    none_before : List ℕ → Row
    none_before rest = Some ([], [], rest)

    by : (t : Bool) → cond t (Some bytes) None ≡ None → cond t (none_before bytes) (item (c ∷ bytes) >>= others item close (length (c ∷ bytes))) ≡ (item (c ∷ bytes) >>= others item close (length (c ∷ bytes)))
    by true e = cc
    by false e = refl

pub row_is_empty : (depth close : ℕ) (bytes rest : List ℕ) (vs : List Value) (ms : List Said) → 0 < depth → byte_at close bytes ≡ Some rest → vs ≡ [] →
    with_front [] ms (rows_at depth close bytes) ≡ Some (vs, ms, rest)
row_is_empty depth close bytes rest vs ms low found is =
    ap (with_front [] ms) (row_step depth close bytes low ∙ empty_row (value_at (depth - 1)) close bytes rest found)
    ∙ nothing_before [] ms rest
    ∙ ap (λ vs. Some (vs, ms, rest)) (sym is)

pub row_begins : (depth close : ℕ) (bytes rest : List ℕ) (v : Value) (ms new_ms : List Said) → 0 < depth → byte_at close bytes ≡ None → after ms (value_at (depth - 1) bytes) ≡ Some (v, new_ms, rest) →
    with_front [] ms (rows_at depth close bytes) ≡ with_front (v ∷ []) new_ms (tail_at (value_at (depth - 1)) close (length bytes) rest)
row_begins depth close bytes rest v ms new_ms low found read =
    ap (with_front [] ms) (row_step depth close bytes low ∙ other_row (value_at (depth - 1)) close bytes refl found)
    ∙ read_value (value_at (depth - 1)) [] ms new_ms close (length bytes) bytes rest v read

pub row_fails : (e : Unread) (depth close : ℕ) (bytes : List ℕ) (ms : List Said) → 0 < depth → byte_at close bytes ≡ None → Misses e (after ms (value_at (depth - 1) bytes)) →
    Misses e (with_front [] ms (rows_at depth close bytes))
row_fails (unread.NoMemory _) depth close bytes ms low found none = tt
row_fails unread.NotThere depth close bytes ms low found none =
    ap (with_front [] ms) (row_step depth close bytes low ∙ other_row (value_at (depth - 1)) close bytes refl found)
    ∙ read_none (value_at (depth - 1)) [] ms close (length bytes) bytes none
