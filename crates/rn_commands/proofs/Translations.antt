-- Why the text of a weighted net is refused, and what its translation is accepted as.
use Rattle.std.proofs.Common.{◌≡◌, ℕ, List, length, refl, arith}
use Rattle.std.specs.Prelude.{Ok, Err}
use Rattle.rn_items.specs.Memory.{no_memory}
use Rattle.rn_weighted.specs.declared.weighted.Weighted.{Weighted}
use Rattle.rn_weighted.specs.Weighted.{IsWeighted}
use Rattle.rn_weighted.specs.TextLength.{text_length}
use Rattle.rn_pt.specs.declared.fault.PtFault.{PtFault}
use Rattle.rn_pt.specs.declared.fault.PtFault.TheVariants.{P1, P3, P4, P6, P7, N1, N2, N3, N4, N5}
use Rattle.rn_pt.specs.declared.fault.PtFault.TheVariants as Why
use Rattle.rn_pt.specs.Texts.{Answers, IsReason, IsRefused, Spells}
use Rattle.rn_print.specs.Nets.{canonical_text}
use Rattle.rn_translated.specs.AcceptedLaws.{TranslationsAreAccepted, TextsHaveTheirLength}
use Rattle.rn_translated.specs.Translation.{translated}
use Rattle.rn_answering.specs.declared.answer.Answer.{Answer}
use Rattle.rn_answering.specs.declared.stopped.Stopped.{Stopped}
use Rattle.rn_answering.specs.declared.stopped.Stopped.TheVariants.{Refused, ReadFault, NoMemory}
use Rattle.rn_answering.specs.declared.status.TheConstants.{NET_REFUSED}
use Rattle.rn_answering.specs.Refusing.{Stops, done, refusal}
use Rattle.rn_commands.specs.Translating.{pt_line, IsUnrefused, RefusesWeighted, TranslatesTo}

-- a refusal is no net
apart : (why : PtFault) (net : Weighted) → Err why ≡ Ok net → ⊥
apart why net is = let no : ⊥ = let e = is in cc in no

because : (bytes : List ℕ) (why : PtFault) (a : Answer) → IsRefused bytes why →
    ((net : Weighted) → Spells bytes net → Err why ≡ Ok net) →
    a ≡ refusal NET_REFUSED (pt_line why) → RefusesWeighted bytes a
because bytes why a refused reads is = record {
  why = why;
  refused = refused;
  unspelled = λ net spells. apart why net (reads net spells);
  is = is;
}

-- a text that spells no weighted net is refused by the line of its reason
pub pt_refused : (bytes : List ℕ) (why : PtFault) (s : Stopped) → IsReason bytes why →
    ((net : Weighted) → Spells bytes net → Answers (Err why) (Ok net)) →
    (why ≡ Why.NoMemory no_memory → s ≡ NoMemory no_memory) →
    Stops (λ a. a ≡ refusal NET_REFUSED (pt_line why)) s → Stops (RefusesWeighted bytes) s
pt_refused bytes (P1 spot) (Refused a) reason reads memory is =
    because bytes (P1 spot) a reason reads is
pt_refused bytes (P3 spot) (Refused a) reason reads memory is =
    because bytes (P3 spot) a reason reads is
pt_refused bytes (P4 spot) (Refused a) reason reads memory is =
    because bytes (P4 spot) a reason reads is
pt_refused bytes (P6 spot) (Refused a) reason reads memory is =
    because bytes (P6 spot) a reason reads is
pt_refused bytes (P7 spot) (Refused a) reason reads memory is =
    because bytes (P7 spot) a reason reads is
pt_refused bytes (N1 spot) (Refused a) reason reads memory is =
    because bytes (N1 spot) a reason reads is
pt_refused bytes (N2 spot) (Refused a) reason reads memory is =
    because bytes (N2 spot) a reason reads is
pt_refused bytes (N3 spot) (Refused a) reason reads memory is =
    because bytes (N3 spot) a reason reads is
pt_refused bytes (N4 spot) (Refused a) reason reads memory is =
    because bytes (N4 spot) a reason reads is
pt_refused bytes (N5 spot) (Refused a) reason reads memory is =
    because bytes (N5 spot) a reason reads is
pt_refused bytes (Why.NoMemory _) (Refused a) reason reads memory is =
    let no : Refused a ≡ NoMemory no_memory = memory refl in absurd cc
pt_refused bytes why ReadFault reason reads memory is = is
pt_refused bytes why (NoMemory _) reason reads memory is = tt

-- where a net is read there is no reason to refuse the text
pub pt_unrefused : (bytes : List ℕ) (net : Weighted) →
    ((why : PtFault) → IsRefused bytes why → Answers (Ok net) (Err why)) → IsUnrefused bytes
pt_unrefused bytes net refuses why refused =
    let is : Ok net ≡ Err why = refuses why refused in let no : ⊥ = cc in no

-- the text of a translation is accepted
pub translates : (bytes : List ℕ) (net : Weighted) (a : Answer) → TranslationsAreAccepted →
    TextsHaveTheirLength → Spells bytes net → IsWeighted net → IsUnrefused bytes →
    a ≡ done (canonical_text (translated net)) → TranslatesTo bytes a
translates bytes net a accepts lengths spells good unrefused is =
    let long : length (canonical_text (translated net)) ≡ text_length net = lengths net good in
    let short = spells.short in
    let x = accepts net good (omega (arith, long, short)) in
    record {
      net = net;
      spelled = spells;
      weighted = good;
      unrefused = unrefused;
      is = is;
      accepted = record { plain = x.0; spelled = x.1; checked = x.3 };
    }
