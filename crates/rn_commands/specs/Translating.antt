-- What `pt` comes to on the text of a weighted net.
use Rattle.std.specs.Prelude.{ℕ, ◌≡◌, List, [], codes}
use Rattle.rn_weighted.specs.declared.weighted.Weighted.{Weighted}
use Rattle.rn_weighted.specs.Weighted.{IsWeighted}
use Rattle.rn_pt.specs.declared.fault.PtFault.{PtFault}
use Rattle.rn_pt.specs.declared.fault.PtFault.TheVariants.{P1, P3, P4, P6, P7, N1, N2, N3, N4, N5}
use Rattle.rn_pt.specs.declared.fault.PtFault.TheVariants as Why
use Rattle.rn_pt.specs.Texts.{Spells, IsRefused}
use Rattle.rn_print.specs.Nets.{canonical_text}
use Rattle.rn_translated.specs.TranslatedSystem.{translated_system}
use Rattle.rn_translated.specs.Translation.{translated}
use Rattle.rn_answering.specs.declared.answer.Answer.{Answer}
use Rattle.rn_answering.specs.declared.status.TheConstants.{NET_REFUSED}
use Rattle.rn_answering.specs.Lines.{spot_line}
use Rattle.rn_answering.specs.NetTexts.{Accepted}
use Rattle.rn_answering.specs.Refusing.{done, refusal}

-- the line of a text that spells no weighted net; want of memory is no reason, and has no line
abbrev pub pt_line : PtFault → List ℕ
pt_line (P1 spot) = spot_line (codes "P1") spot
pt_line (P3 spot) = spot_line (codes "P3") spot
pt_line (P4 spot) = spot_line (codes "P4") spot
pt_line (P6 spot) = spot_line (codes "P6") spot
pt_line (P7 spot) = spot_line (codes "P7") spot
pt_line (N1 spot) = spot_line (codes "N1") spot
pt_line (N2 spot) = spot_line (codes "N2") spot
pt_line (N3 spot) = spot_line (codes "N3") spot
pt_line (N4 spot) = spot_line (codes "N4") spot
pt_line (N5 spot) = spot_line (codes "N5") spot
pt_line (Why.NoMemory _) = []

-- there is no reason to refuse these bytes
abbrev pub IsUnrefused : List ℕ → Type 0
IsUnrefused bytes = (why : PtFault) → IsRefused bytes why → ⊥

-- The bytes are refused for this reason, and spell no weighted net. The answer is the line of the
-- reason.
pub record RefusesWeighted (bytes : List ℕ) (a : Answer) : Type 0 where
  pub why : PtFault
  pub refused : IsRefused bytes why
  pub unspelled : (net : Weighted) → Spells bytes net → ⊥
  pub is : a ≡ refusal NET_REFUSED (pt_line why)

-- The bytes spell this weighted net, which is as it has to be, and are refused for no reason. The
-- answer is the canonical text of its translation. That is a net text, which is accepted with the
-- system that stands for the net and has its runs.
pub record TranslatesTo (bytes : List ℕ) (a : Answer) : Type 0 where
  pub net : Weighted
  pub spelled : Spells bytes net
  pub weighted : IsWeighted net
  pub unrefused : IsUnrefused bytes
  pub is : a ≡ done (canonical_text (translated net))
  pub accepted : Accepted (canonical_text (translated net)) (translated_system net)
