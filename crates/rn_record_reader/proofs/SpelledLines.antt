-- Bytes and the lines in them: what each line says is what its bytes spell.
use Rattle.std.proofs.Common.{◌≡◌, ℕ, Bool, true, false, cond, List, [], ◌∷◌, ◌++◌, refl, sym, ap, ◌∙◌, subst, append_assoc}
use Rattle.std.specs.Prelude.{Option, Some, None, ⊤, nat_eq}
use Rattle.std.proofs.lemmas.Bool.{eqb-true}
use Rattle.std.proofs.lemmas.Slice.Eq.{bytes_eq-Decides}
use Rattle.rn_value.specs.Text.{numeral}
use Rattle.rn_value.proofs.Numerals.{numeral_only}
use Rattle.rn_lines.specs.LineText.{LeadSaid, LineSaid, IsLead, IsLine}
use Rattle.rn_lines.specs.LineReading.{line_at}
use Rattle.rn_lines.proofs.LineForms.{line_read}
use Rattle.rn_record.specs.RecordText.{firing_lead}
use Rattle.rn_record_reader.specs.Lines.{lines_from, lines_in}
use Rattle.rn_record_reader.specs.Nodes.{is_step}

-- Bytes spell lines, up to the first that isn't of the grammar.
abbrev pub Spell : List (Option LineSaid) → List ℕ → Type 0
Spell [] bytes = bytes ≡ []
Spell (None ∷ lines) bytes = ⊤
Spell (Some x ∷ lines) bytes =
    (text : List ℕ) × (rest : List ℕ) × IsLine x text × (bytes ≡ text ++ 10 ∷ rest)
    × Spell lines rest

one_line : (before bytes : List ℕ) (o : Option LineSaid) → ((x : LineSaid) → o ≡ Some x → IsLine x before) →
    Spell (lines_in bytes) bytes → Spell (o ∷ lines_in bytes) (before ++ 10 ∷ bytes)
one_line before bytes None read rest = tt
one_line before bytes (Some x) read rest = (before, bytes, read x refl, refl, rest)

by_byte : (before : List ℕ) (c : ℕ) (bytes : List ℕ) (feed : Bool) → nat_eq c 10 ≡ feed →
    Spell (lines_in bytes) bytes →
    Spell (lines_from (before ++ c ∷ []) bytes) ((before ++ c ∷ []) ++ bytes) →
    Spell (cond feed (line_at before ∷ lines_in bytes) (lines_from (before ++ c ∷ []) bytes)) (before ++ c ∷ bytes)
by_byte before c bytes true e rest longer =
    subst (λ d. Spell (line_at before ∷ lines_in bytes) (before ++ d ∷ bytes)) (sym (eqb-true c 10 e))
    (one_line before bytes (line_at before) (line_read before) rest)
by_byte before c bytes false e rest longer =
    subst (Spell (lines_from (before ++ c ∷ []) bytes)) (append_assoc before (c ∷ []) bytes) longer

spelled_from : (before bytes : List ℕ) → Spell (lines_from before bytes) (before ++ bytes)
spelled_from [] [] = refl
spelled_from (c ∷ before) [] = tt
spelled_from before (c ∷ bytes) =
    by_byte before c bytes (nat_eq c 10) refl (spelled_from [] bytes) (spelled_from (before ++ c ∷ []) bytes)

pub lines_spelled : (bytes : List ℕ) → Spell (lines_in bytes) bytes
lines_spelled bytes = spelled_from [] bytes

-- the lead of a firing's lines
pub lead_text : {l : LeadSaid} {a : List ℕ} (step worker : ℕ) → IsLead l a → is_step step l.step ≡ true →
    nat_eq l.worker worker ≡ true → a ≡ firing_lead step worker
lead_text step worker (IsLead.lead {worker = own} {step = s} {digits = digits} is_numeral low high number) same owned =
    let steps : s ≡ numeral step = (bytes_eq-Decides s (numeral step)).0 same in
    let digits_are : digits ≡ numeral worker = numeral_only number ∙ ap numeral (eqb-true own worker owned) in
    ap (λ t. t ++ (32 ∷ 119 ∷ (digits ++ 32 ∷ []))) steps
    ∙ ap (λ d. numeral step ++ (32 ∷ 119 ∷ (d ++ 32 ∷ []))) digits_are
    ∙ simp append_assoc
