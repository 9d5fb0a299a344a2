-- The last entry of a log.
use Rattle.std.proofs.Common.{◌≡◌, ◌-◌, List, [], ◌∷◌, ◌++◌, length, refl, sym, ap, ◌∙◌, arith}
use Rattle.std.specs.Prelude.{Some, None, slice_get}
use Rattle.std.proofs.lemmas.List.{length-append}
use Rattle.rn_model.specs.declared.log.Entry.{Entry}
use Rattle.rn_model.specs.declared.log.Entry.TheVariants.{Fire, End}
use Rattle.rn_model.specs.declared.log.Reason.{Reason}
use Rattle.rn_model.specs.Runs.{Firing, entries_of}
use Rattle.rn_fire.proofs.EntryLemmas.{ended_more, fired_more}
use Rattle.rn_replay.specs.link.Parts.{cause_of, fault_cause, last_of, outs_of}

last_joined : (es : List Entry) (e : Entry) → last_of (es ++ e ∷ []) ≡ Some e
last_joined es e =
    let count : length (es ++ e ∷ []) - 1 ≡ length es =
    let n = length-append es (e ∷ []) in omega (arith, n) in
    ap (slice_get (es ++ e ∷ [])) count ∙ at_seam es e
  where
    at_seam : (es : List Entry) (e : Entry) → slice_get (es ++ e ∷ []) (length es) ≡ Some e
    at_seam [] e = refl
    at_seam (x ∷ es) e = at_seam es e

-- what the last firing of a log printed
pub last_outs : (fs : List Firing) (f : Firing) →
    outs_of (last_of (entries_of (fs ++ f ∷ []) None)) ≡ Some f.outs
last_outs fs f =
    ap (λ es. outs_of (last_of es)) (sym (fired_more fs f))
    ∙ ap outs_of (last_joined (entries_of fs None) (Fire f.worker f.binding f.outs))

-- a log's end
pub last_end : (fs : List Firing) (reason : Reason) →
    last_of (entries_of fs (Some reason)) ≡ Some (End reason)
last_end fs reason =
    ap last_of (sym (ended_more fs reason)) ∙ last_joined (entries_of fs None) (End reason)

-- and its cause
pub last_cause : (fs : List Firing) (reason : Reason) →
    cause_of (last_of (entries_of fs (Some reason))) ≡ fault_cause reason
last_cause fs reason = ap cause_of (last_end fs reason)
