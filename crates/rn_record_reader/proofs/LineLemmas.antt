-- The first line of bytes, and those after it.
use Rattle.std.proofs.Common.{◌≡◌, ◌≢◌, ℕ, List, [], ◌∷◌, ◌++◌, cond, refl, sym, ap, ◌∙◌, append_assoc}
use Rattle.std.specs.Prelude.{All, Option, Some, None, drop}
use Rattle.std.proofs.lemmas.List.Elements.{All-head, All-tail}
use Rattle.std.proofs.lemmas.List.{append-nil}
use borrow.Author.Tests.{ne_eqb}
use Rattle.rn_lines.specs.LineText.{LineSaid, IsLine}
use Rattle.rn_lines.specs.LineReading.{line_at}
use Rattle.rn_lines.proofs.LineForms.{line_read}
use Rattle.rn_record_reader.specs.Lines.{unended, lines_from, lines_in}

-- bytes up to a line feed are a line
cut : (before text rest : List ℕ) → All (λ c. c ≢ 10) text →
    lines_from before (text ++ 10 ∷ rest) ≡ line_at (before ++ text) ∷ lines_in rest
cut before [] rest none = ap (λ b. line_at b ∷ lines_in rest) (sym (append-nil before))
cut before (c ∷ text) rest none =
    ap (λ b. cond b (line_at before ∷ lines_from [] (text ++ 10 ∷ rest)) (lines_from (before ++ c ∷ []) (text ++ 10 ∷ rest)))
    (ne_eqb c 10 (All-head (λ c. c ≢ 10) c text none))
    ∙ cut (before ++ c ∷ []) text rest (All-tail (λ c. c ≢ 10) c text none)
    ∙ ap (λ b. line_at b ∷ lines_in rest) (append_assoc before (c ∷ []) text)

pub first_is : (bytes text rest : List ℕ) → bytes ≡ text ++ 10 ∷ rest → All (λ c. c ≢ 10) text →
    lines_in bytes ≡ line_at text ∷ lines_in rest
first_is bytes text rest is none = ap lines_in is ∙ cut [] text rest none

-- bytes without a line feed
uncut : (before bytes : List ℕ) → All (λ c. c ≢ 10) bytes →
    lines_from before bytes ≡ unended (before ++ bytes)
uncut before [] none = ap unended (sym (append-nil before))
uncut before (c ∷ bytes) none =
    ap (λ b. cond b (line_at before ∷ lines_from [] bytes) (lines_from (before ++ c ∷ []) bytes))
    (ne_eqb c 10 (All-head (λ c. c ≢ 10) c bytes none))
    ∙ uncut (before ++ c ∷ []) bytes (All-tail (λ c. c ≢ 10) c bytes none)
    ∙ ap unended (append_assoc before (c ∷ []) bytes)

pub none_ends : (bytes : List ℕ) → All (λ c. c ≢ 10) bytes → lines_in bytes ≡ unended bytes
none_ends bytes none = uncut [] bytes none

pub unended_is : (bytes : List ℕ) → (bytes ≡ [] → ⊥) → All (λ c. c ≢ 10) bytes →
    lines_in bytes ≡ None ∷ drop 1 (lines_in bytes)
unended_is [] some none = absurd (some refl)
unended_is (c ∷ bytes) some none =
    none_ends (c ∷ bytes) none ∙ ap (λ ls. None ∷ drop 1 ls) (sym (none_ends (c ∷ bytes) none))

-- where nothing is a line of bytes, none is read
pub no_line : (text : List ℕ) → ((x : LineSaid) → IsLine x text → Some x ≡ None) → line_at text ≡ None
no_line text never = by (line_at text) (line_read text)
  where
    by : (read : Option LineSaid) → ((x : LineSaid) → read ≡ Some x → IsLine x text) → read ≡ None
    by None is = refl
    by (Some x) is = never x (is x refl)
