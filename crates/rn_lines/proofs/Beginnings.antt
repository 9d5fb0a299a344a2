-- What stands at the start of bytes, by what is read there.
use Rattle.std.proofs.Common.{◌≡◌, ℕ, List, [], ◌∷◌, ◌++◌, true, false, cond, refl, sym, ap, ◌∙◌, subst}
use Rattle.std.specs.Prelude.{Option, Some, None, IfOk, Result, Ok, Err}
use Rattle.std.proofs.lemmas.Option.{cond_some, same_Some}
use Rattle.rn_value.specs.TextLaws.{IsDelimited}
use Rattle.rn_value.specs.declared.value.Value.{Value}
use Rattle.rn_value.proofs.Spelling.{stops_digits}
use Rattle.rn_value.proofs.Spans.{Stops}
use Rattle.rn_value.specs.Characters.{is_digit}
use Rattle.rn_lines.specs.ValueText.{Said, Seen, IsValue, Begins, most_brackets}
use Rattle.rn_lines.specs.declared.unread.Unread.{Unread}
use Rattle.rn_lines.specs.declared.unread.Unread.TheVariants as unread
use Rattle.rn_lines.specs.Reading.{◌>>=◌, Misses, ReturnsRead, after, value_at, front_at, is_delimited, seen_at}
use Rattle.rn_lines.proofs.NumeralReading.{bind_some}
use Rattle.rn_lines.proofs.ValueReading.{Read, ValueAt, value_reads, value_read}

delimited_test : (bytes : List ℕ) → IsDelimited bytes → is_delimited bytes ≡ true
delimited_test [] d = refl
delimited_test (c ∷ bytes) d = d

delimited_by : (bytes : List ℕ) → is_delimited bytes ≡ true → IsDelimited bytes
delimited_by [] e = tt
delimited_by (c ∷ bytes) e = e

seen_as : Read → Seen
seen_as x = record { value = x.0; named = x.1; rest = x.2 }

abbrev ended : Read → Option Seen
ended x = cond (is_delimited x.2) (Some (record { value = x.0; named = x.1; rest = x.2 })) None

-- what stands there is read
pub seen_reads : (bytes : List ℕ) (s : Seen) → Begins most_brackets bytes s → seen_at bytes ≡ Some s
seen_reads bytes s b =
    ap (λ o. o >>= ended) (ap (value_at most_brackets) b.whole ∙ value_reads b.stands s.rest (stops_digits s.rest b.delimited))
    ∙ ap (λ t. cond t (Some s) None) (delimited_test s.rest b.delimited)

-- what is read stands there
pub seen_read : (bytes : List ℕ) (s : Seen) → seen_at bytes ≡ Some s → Begins most_brackets bytes s
seen_read bytes s e =
    let x = bind_some (value_at most_brackets bytes) ended s e in
    let here = value_read most_brackets bytes x.0 x.1 in
    let tests = cond_some (is_delimited x.0.2) (record { value = x.0.0; named = x.0.1; rest = x.0.2 }) s x.2 in
    subst (Begins most_brackets bytes) tests.1 (record { text = here.text; whole = here.whole; stands = here.stands; delimited = delimited_by x.0.2 tests.0 })

-- with nothing said before it, a value is as it was read
pub after_nothing : (o : Option Read) → after [] o ≡ o
after_nothing None = refl
after_nothing (Some x) = refl

pub value_missed : (error : Unread) (said : List Said) (bytes : List ℕ) → said ≡ [] → Misses error (after said (value_at most_brackets bytes)) → Misses error (seen_at bytes)
value_missed (unread.NoMemory _) said bytes none e = tt
value_missed unread.NotThere said bytes none e =
    ap (λ o. o >>= ended) (sym (after_nothing (value_at most_brackets bytes)) ∙ ap (λ said. after said (value_at most_brackets bytes)) (sym none) ∙ e)

value_found : (said : List Said) (bytes : List ℕ) (x : Read) → said ≡ [] → after said (value_at most_brackets bytes) ≡ Some x → seen_at bytes ≡ ended x
value_found said bytes x none e =
    ap (λ o. o >>= ended) (sym (after_nothing (value_at most_brackets bytes)) ∙ ap (λ said. after said (value_at most_brackets bytes)) (sym none) ∙ e)

pub value_ended : (said : List Said) (bytes : List ℕ) (v : Value) (named : List Said) (rest : List ℕ) → said ≡ [] → after said (value_at most_brackets bytes) ≡ Some (v, named, rest) → is_delimited rest ≡ true →
    seen_at bytes ≡ Some (record { value = v; named = named; rest = rest })
value_ended said bytes v named rest none e ends =
    value_found said bytes (v, named, rest) none e ∙ ap (λ t. cond t (Some (record { value = v; named = named; rest = rest })) None) ends

pub value_runs_on : (said : List Said) (bytes : List ℕ) (v : Value) (named : List Said) (rest : List ℕ) → said ≡ [] → after said (value_at most_brackets bytes) ≡ Some (v, named, rest) → is_delimited rest ≡ false →
    seen_at bytes ≡ None
unfolding seen_as
value_runs_on said bytes v named rest none e goes_on =
    let x : Read = (v, named, rest) in
    value_found said bytes x none e ∙ ap (λ t. cond t (Some (seen_as x)) None) goes_on

-- The same of a value, whatever follows it.
abbrev started : Read → Option Seen
started x = Some (record { value = x.0; named = x.1; rest = x.2 })

pub front_reads : (v : Value) (named : List Said) (text rest : List ℕ) → IsValue most_brackets v named text → Stops is_digit rest →
    front_at (text ++ rest) ≡ Some (record { value = v; named = named; rest = rest })
front_reads v named text rest stands stops = ap (λ o. o >>= started) (value_reads stands rest stops)

pub front_read : (bytes : List ℕ) (s : Seen) → front_at bytes ≡ Some s → ValueAt most_brackets bytes (s.value, s.named, s.rest)
front_read bytes s e =
    let x = bind_some (value_at most_brackets bytes) started s e in
    subst (λ s. ValueAt most_brackets bytes (s.value, s.named, s.rest)) (same_Some (record { value = x.0.0; named = x.0.1; rest = x.0.2 }) s x.2)
    (value_read most_brackets bytes x.0 x.1)

pub front_missed : (error : Unread) (said : List Said) (bytes : List ℕ) → said ≡ [] → Misses error (after said (value_at most_brackets bytes)) → Misses error (front_at bytes)
front_missed (unread.NoMemory _) said bytes none e = tt
front_missed unread.NotThere said bytes none e =
    ap (λ o. o >>= started) (sym (after_nothing (value_at most_brackets bytes)) ∙ ap (λ said. after said (value_at most_brackets bytes)) (sym none) ∙ e)

pub front_found : (said : List Said) (bytes : List ℕ) (x : Read) → said ≡ [] → after said (value_at most_brackets bytes) ≡ Some x → front_at bytes ≡ started x
front_found said bytes x none e =
    ap (λ o. o >>= started) (sym (after_nothing (value_at most_brackets bytes)) ∙ ap (λ said. after said (value_at most_brackets bytes)) (sym none) ∙ e)

-- The two clauses of a reader, by its exact answer.
pub what_is_found : {X Y : Type 0} (view : X → Y) (r : Result X Unread) (read : Option Y) (P : Y → Type 0) → ReturnsRead view r read → ((y : Y) → read ≡ Some y → P y) → IfOk r (λ x. P (view x))
what_is_found view (Ok x) read P gives sound = sound (view x) gives
what_is_found view (Err e) read P gives sound = tt

pub what_is_there : {X Y : Type 0} (view : X → Y) (r : Result X Unread) (read : Option Y) (y : Y) → ReturnsRead view r read → read ≡ Some y → ReturnsRead view r (Some y)
what_is_there view r read y gives e = subst (ReturnsRead view r) e gives
