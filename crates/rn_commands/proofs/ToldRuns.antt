-- What is written of a run, from what was written of its text and of the line of its end.
use Rattle.std.proofs.Common.{◌≡◌, ℕ, List, refl, inl, inr}
use Rattle.std.specs.Prelude.{Option, None, Some, IfSome}
use Rattle.rn_outside.specs.Bytes.{Appends, AppendsPrefix, IsCalledSeldom}
use Rattle.rn_outside.specs.Faults.{risen}
use Rattle.rn_outside.proofs.ByteLemmas.{IsCalledSeldom-never}
use Rattle.rn_pour.specs.Flows.{Standing}
use Rattle.rn_fire.specs.States.{State}
use Rattle.rn_state_record.specs.Poured.{BreaksRecord, HasEndlessRecord, TakesRecord}
use Rattle.rn_answering.specs.declared.answer.Answer.{Answer}
use Rattle.rn_answering.specs.declared.status.TheConstants.{WRITE_FAULT}
use Rattle.rn_commands.specs.declared.closing.Closing.{Closing}
use Rattle.rn_commands.specs.link.Closings.{TellsEnd, closing_line, closing_status}
use Rattle.rn_commands.specs.link.Ends.{IsClosedBy, IsWrittenBy}
use Rattle.rn_commands.specs.link.Workloads.{IsTallyOf, IsTalliedBy}
use Rattle.rn_commands.specs.Written.{HasEndless, Tells, WritesAnswer}

-- the answer of an end, with this text
abbrev answer_of : Closing → List ℕ → Answer
answer_of closing text =
    record { status = closing_status closing; text = text; line = closing_line closing }

module _ {E : Type 0} (closing : Closing) (text : List ℕ) (status : ℕ)
    (out out_after err err_after : Standing) (sink sink_after : E) where
  -- the text was written, and the line of the end was told
  whole : Appends out.held text out_after.held → out_after.faults ≡ out.faults →
      IsCalledSeldom out.held out_after.held out.writes out_after.writes →
      out_after.empty_writes ≡ out.empty_writes →
      TellsEnd closing status err err_after sink sink_after →
      WritesAnswer (answer_of closing text) status out out_after err err_after sink sink_after
  whole all faults calls none_empty tells = record {
    written = λ no. (tells.own no, all, faults);
    told = tells.told;
    memory = tells.memory;
    nothing = tells.nothing;
    failed = λ is other. let end = tells.failed is in inr (end.0, all, faults, end.1, end.2);
    seldom = (calls, tells.seldom);
    none_empty = (none_empty, tells.none_empty);
  }

-- the sink failed before it had the whole text, and the line of the end wasn't told
broken : {E : Type 0} (closing : Closing) (text : List ℕ) (out out_after err : Standing) (sink : E) →
    AppendsPrefix out.held text out_after.held → out_after.faults ≡ risen out.faults →
    IsCalledSeldom out.held out_after.held out.writes out_after.writes →
    out_after.empty_writes ≡ out.empty_writes →
    WritesAnswer (answer_of closing text) WRITE_FAULT out out_after err err sink sink
broken closing text out out_after err sink prefix faults calls none_empty = record {
  written = λ no. absurd (no refl);
  told = λ no. absurd (no refl);
  memory = λ is. absurd (let never : ⊥ = cc in never);
  nothing = λ empty. refl;
  failed = λ is other. inl (prefix, faults, refl);
  seldom = (calls, IsCalledSeldom-never err.held err.writes);
  none_empty = (none_empty, refl);
}

-- Of a state whose log ends so.
module _ {E : Type 0} (s : State) (closing : Closing)
    (closed : IsClosedBy s (closing_status closing) (closing_line closing))
    (out out_after : Standing) where
  -- its record was written, and its end told
  pub tells_record : (format status : ℕ) (err err_after : Standing) (sink sink_after : E) →
      TakesRecord format s out out_after → TellsEnd closing status err err_after sink sink_after →
      Tells (IsWrittenBy format s) status out out_after err err_after sink sink_after
  tells_record format status err err_after sink sink_after took tells = (
    answer_of closing took.bytes,
    (took.is_record, closed),
    whole closing took.bytes status out out_after err err_after sink sink_after took.text took.faults
        took.calls took.none_empty tells,
  )

  -- its record wasn't written whole
  pub breaks_record : (format : ℕ) (err : Standing) (sink : E) → BreaksRecord format s out out_after →
      Tells (IsWrittenBy format s) WRITE_FAULT out out_after err err sink sink
  breaks_record format err sink broke = (
    answer_of closing broke.bytes,
    (broke.is_record, closed),
    broken closing broke.bytes out out_after err sink broke.text broke.faults broke.calls broke.none_empty,
  )

  -- its tally was written, and its end told
  pub tells_tally : (text : List ℕ) (status : ℕ) (err err_after : Standing) (sink sink_after : E) →
      IsTallyOf s text → Appends out.held text out_after.held → out_after.faults ≡ out.faults →
      IsCalledSeldom out.held out_after.held out.writes out_after.writes →
      out_after.empty_writes ≡ out.empty_writes → TellsEnd closing status err err_after sink sink_after →
      Tells (IsTalliedBy s) status out out_after err err_after sink sink_after
  tells_tally text status err err_after sink sink_after tally all faults calls none_empty tells = (
    answer_of closing text,
    (tally, closed),
    whole closing text status out out_after err err_after sink sink_after all faults calls none_empty tells,
  )

  -- its tally wasn't written whole
  pub breaks_tally : (text : List ℕ) (err : Standing) (sink : E) → IsTallyOf s text →
      AppendsPrefix out.held text out_after.held → out_after.faults ≡ risen out.faults →
      IsCalledSeldom out.held out_after.held out.writes out_after.writes →
      out_after.empty_writes ≡ out.empty_writes →
      Tells (IsTalliedBy s) WRITE_FAULT out out_after err err sink sink
  breaks_tally text err sink tally prefix faults calls none_empty = (
    answer_of closing text,
    (tally, closed),
    broken closing text out out_after err sink prefix faults calls none_empty,
  )

-- where its record has no end, so has an answer of it
pub endless_record : (s : State) (closing : Closing) → IsClosedBy s (closing_status closing) (closing_line closing) →
    (format : ℕ) → HasEndlessRecord format s → HasEndless (IsWrittenBy format s)
endless_record s closing closed format long = (answer_of closing long.bytes, (long.is_record, closed), long.endless)

-- Of answers that are also those of another kind.
module _ {E : Type 0} (Is Also : Answer → Type 0) (also : (a : Answer) → Is a → Also a)
    (out out_after err err_after : Standing) (sink sink_after : E) where
  pub tells_also : (status : ℕ) → Tells Is status out out_after err err_after sink sink_after →
      Tells Also status out out_after err err_after sink sink_after
  tells_also status tells = (tells.0, also tells.0 tells.1, tells.2)

  -- where one was written
  pub told_also : (told : Option ℕ) →
      IfSome told (λ status. Tells Is status out out_after err err_after sink sink_after) →
      IfSome told (λ status. Tells Also status out out_after err err_after sink sink_after)
  told_also None tells = tt
  told_also (Some status) tells = tells_also status tells

-- where one of them has no end
pub endless_also : (Is Also : Answer → Type 0) → ((a : Answer) → Is a → Also a) → HasEndless Is → HasEndless Also
endless_also Is Also also (a, is, long) = (a, also a is, long)
