-- Runs, entry by entry.
use Rattle.std.proofs.Common.{◌≡◌, ℕ, zero, suc, ◌+◌, ◌≤◌, List, [], ◌∷◌, ◌++◌, length, take, drop, refl, sym, ap, subst, arith}
use Rattle.std.specs.Prelude.{All, Option, Some, bytes_eq}
use Rattle.std.proofs.lemmas.Option.{cond_some}
use Rattle.std.proofs.lemmas.List.Elements.{All-weaker}
use Rattle.rn_model.specs.declared.system.System.{System}
use Rattle.rn_model.specs.declared.log.Entry.{Entry}
use Rattle.rn_model.specs.declared.log.MarkLine.{MarkLine}
use Rattle.rn_model.specs.Good.{Good, IsGoodNet}
use Rattle.rn_lines.specs.LineText.{LineSaid}
use Rattle.rn_lookup.specs.link.Tables.{AreFew}
use Rattle.rn_lookup.specs.declared.refusal.Refusal.{Refusal}
use Rattle.rn_record_reader.specs.Runs.{Verdict, with_entry, Tells, bytes_after, first_made}
use Rattle.rn_record_reader.specs.link.RunsAhead.{with_entries, FaultTells}
use Rattle.rn_record_reader.specs.declared.fault.RecordFault.{RecordFault}

-- the parts of the nets of a good system can be counted
pub all_few : (system : System) → Good system → All AreFew system.nets
all_few system good =
    All-weaker (IsGoodNet system) AreFew
    (λ net is. let t = is.few_transitions in let p = is.few_places in record { transitions = omega (arith, t); places = omega (arith, p) })
    system.nets good.nets

-- entries before what is told, and before a bad line
pub entries_tell : (es fs : List Entry) (ms : List MarkLine) →
    with_entries es (Verdict.tells fs ms) ≡ Verdict.tells (es ++ fs) ms
entries_tell [] fs ms = refl
entries_tell (e ∷ es) fs ms = ap (with_entry e) (entries_tell es fs ms)

pub entries_bad : (es : List Entry) (line : ℕ) (refusal : Refusal) →
    with_entries es (Verdict.bad line refusal) ≡ Verdict.bad line refusal
entries_bad [] line refusal = refl
entries_bad (e ∷ es) line refusal = ap (with_entry e) (entries_bad es line refusal)

-- one more entry
pub one_more : (es : List Entry) (e : Entry) (v : Verdict) →
    with_entries (es ++ e ∷ []) v ≡ with_entries es (with_entry e v)
one_more [] e v = refl
one_more (x ∷ es) e v = ap (with_entry x) (one_more es e v)

-- Between two entries: what the lines that are left tell, after the entries so far, is what all
-- lines tell, the first with this number; and the lines can be numbered.
pub record IsSoFar (format : ℕ) (system : System) (first : ℕ) (all : List (Option LineSaid))
    (entries : List Entry) (made : List ℕ) (step line : ℕ) (lines : List (Option LineSaid)) : Type 0 where
  pub tells : (v : Verdict) → Tells format system made step line lines v →
      Tells format system (first_made system) 1 first all (with_entries entries v)
  pub few : line + length lines ≤ length all + first
  pub early : step ≤ line + 1

-- what a fault tells by itself it tells after entries
pub fault_tells : (es : List Entry) (line : ℕ) (refusal : Refusal) (fault : RecordFault) →
    FaultTells (λ v. v ≡ Verdict.bad line refusal) fault →
    FaultTells (λ v. v ≡ with_entries es (Verdict.bad line refusal)) fault
fault_tells es line refusal fault =
    subst (λ w. FaultTells (λ v. v ≡ w) fault) (sym (entries_bad es line refusal))

-- after one more firing
pub one_read : (format : ℕ) (system : System) (first : ℕ) (whole : List (Option LineSaid))
    (es more : List Entry) (made all : List ℕ) (step line count : ℕ)
    (lines rest : List (Option LineSaid)) (entry : Entry) →
    IsSoFar format system first whole es made step line lines →
    ((v : Verdict) → Tells format system all (step + 1) (line + count) rest v →
    Tells format system made step line lines (with_entry entry v))
    × (1 ≤ count) × (count + length rest ≤ length lines) →
    more ≡ es ++ entry ∷ [] →
    IsSoFar format system first whole more all (step + 1) (line + count) rest
one_read format system first whole es more made all step line count lines rest entry so_far on is = record {
  tells = λ v told.
      subst (λ xs. Tells format system (first_made system) 1 first whole (with_entries xs v)) (sym is)
      (subst (Tells format system (first_made system) 1 first whole) (sym (one_more es entry v))
      (so_far.tells (with_entry entry v) (on.0 v told)));
  few = let a = so_far.few in let b = on.2 in omega (arith, a, b);
  early = let a = so_far.early in let b = on.1 in omega (arith, a, b);
}

-- and they are no more bytes
drop_short : (n : ℕ) (xs : List ℕ) → length (drop n xs) ≤ length xs
drop_short zero xs = omega arith
drop_short (suc n) [] = omega arith
drop_short (suc n) (x ∷ xs) = let few = drop_short n xs in omega (arith, few)

pub rest_short : (front bytes rest : List ℕ) → Some rest ≡ bytes_after front bytes → length rest ≤ length bytes
rest_short front bytes rest is =
    let same = (cond_some (bytes_eq (take (length front) bytes) front) (drop (length front) bytes) rest (sym is)).1 in
    subst (λ xs. length xs ≤ length bytes) same (drop_short (length front) bytes)
