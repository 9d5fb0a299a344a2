-- The values of a log can be read again, and those of the marks of its end.
use Rattle.std.proofs.Common.{ℕ, zero, suc, ◌+◌, ◌^◌, ◌<◌, ◌≤◌, List, [], ◌∷◌, map, length}
use Rattle.std.proofs.Common.{sym, subst, arith}
use Rattle.std.specs.Prelude.{All, Option, Some, None, Contains}
use Rattle.std.specs.List.{AllZip, AllByRecursion}
use Rattle.std.proofs.lemmas.List.Elements.{All-contains, All-from_recursion, recursion_from_All}
use Rattle.std.proofs.lemmas.List.Elements.{All-contains_itself}
use Rattle.rn_value.specs.Kinds.{HasKind}
use Rattle.rn_value.specs.declared.value.Kind.{Kind}
use Rattle.rn_value.specs.declared.value.Value.{Value}
use Rattle.rn_model.specs.declared.system.System.{System}
use Rattle.rn_model.specs.declared.binding.Binding.{Binding}
use Rattle.rn_model.specs.declared.log.Entry.TheVariants.{Fire}
use Rattle.rn_model.specs.declared.log.MarkLine.{MarkLine}
use Rattle.rn_model.specs.declared.log.Options.{Options}
use Rattle.rn_model.specs.declared.log.Reason.{Reason}
use Rattle.rn_model.specs.declared.log.Reason.TheVariants.{Dead, Steps, Fault, Memory}
use Rattle.rn_model.specs.Good.{Good}
use Rattle.rn_model.specs.Systems.{transition_of, var_kind}
use Rattle.rn_model.specs.Agreement.{NodeAgrees}
use Rattle.rn_model.specs.Markings.{Marking, tokens_at, initial_marking}
use Rattle.rn_model.specs.Enabling.{Enabled}
use Rattle.rn_model.specs.SoundTokens.{HasSoundTokens}
use Rattle.rn_model.specs.Liveness.{IsMarkOf, LivePart}
use Rattle.rn_model.specs.Firing.{Fired}
use Rattle.rn_model.specs.Runs.{Firing, RunFrom, Log, IsTrueEnd, after_firing, end_from, end_of}
use Rattle.rn_model.specs.Runs.{EndsTruly, end_entries, entries_of}
use Rattle.rn_model.proofs.EachElement.{each_append, each_map, each_weaker}
use Rattle.rn_model.proofs.EnablingLemmas.{not_in_nil}
use Rattle.rn_model.proofs.SoundRuns.{runs_end_sound}
use Rattle.rn_record_reader.specs.Readable.{IsReadable, HasReadableValues, IsReadableEnd}
use Rattle.rn_record_reader.specs.Readable.{IsReadableEntry, IsReadableRun}
use Rattle.rn_check.proofs.GoodSystems.{checked_texts_are_good}
use Rattle.rn_readable.specs.Laws.{LogsAreReadable}
use Rattle.rn_readable.proofs.MendedValues.{fine_within}
use Rattle.rn_readable.proofs.ShallowValues.{of_var_kind, of_place_kind}
use Rattle.rn_readable.proofs.FineReadings.{IsFineUpTo}
use Rattle.rn_readable.proofs.FineBindings.{IsFineSystem, HasFineTokens, value_is_fine}
use Rattle.rn_readable.proofs.FineFirings.{tokens_stay_fine, outs_are_fine}
use Rattle.rn_readable.proofs.FineFirings.{initial_tokens_are_fine}
use Rattle.rn_readable.proofs.FineTexts.{spelled_is_fine}

-- what holds of all elements, shown one by one
each_shown : {X : Type 0} (P : X → Type 0) (xs : List X) → ((x : X) → Contains xs x → P x) →
    All P xs
each_shown P xs shown =
    All-from_recursion P xs
    (each_weaker (Contains xs) P shown xs
    (recursion_from_All (Contains xs) xs (All-contains_itself xs)))

can_be_read : (v : Value) → IsFineUpTo 128 v → IsReadable v
can_be_read v is = fine_within v 128 is.0 is.1

-- a value of a variable, with its kind
has_some_kind : (kinds : ℕ → Kind) (xs : List ℕ) (vs : List Value) (v : Value) →
    AllZip (λ x v. HasKind v (kinds x)) xs vs → Contains vs v → (x : ℕ) × HasKind v (kinds x)
has_some_kind kinds xs [] v all there = absurd (not_in_nil v there)
has_some_kind kinds [] (w ∷ vs) v all there = absurd all
has_some_kind kinds (x ∷ xs) (w ∷ vs) v all (zero, h, is) =
    (x, subst (λ u. HasKind u (kinds x)) is all.0)
has_some_kind kinds (x ∷ xs) (w ∷ vs) v all (suc k, h, is) =
    has_some_kind kinds xs vs v all.1 (k, omega (arith, h), is)

module _ (system : System) (good : Good system) (fine : IsFineSystem system) where
  -- the values of a binding that is enabled at fine tokens
  binding_is_readable : (m : Marking) (b : Binding) (depth : ℕ) → HasFineTokens m →
      Enabled system m b depth → HasReadableValues b
  binding_is_readable m b depth tokens_fine enabled =
      each_shown (λ node. All IsReadable node.values) b.nodes (λ node there.
      each_shown IsReadable node.values (λ v has.
      let agrees : NodeAgrees system node =
      All-contains (NodeAgrees system) b.nodes node enabled.agrees.nodes there in
      let kind = has_some_kind (var_kind system node.net) (transition_of system node).vars
      node.values v agrees.kinds has in
      let low = of_var_kind system good node.net kind.0 v kind.1 in
      can_be_read v (
        value_is_fine system m b depth fine tokens_fine enabled good node v there has,
        omega (arith, low),
      )))

  abbrev IsReadableFiring : Firing → Type 0
  IsReadableFiring f = HasReadableValues f.binding × All IsReadable f.outs

  -- firings from fine tokens, up to a number of 64 bits
  run_is_readable : (depth step : ℕ) (m : Marking) (fs : List Firing) → HasFineTokens m →
      step + length fs ≤ 9223372036854775808 → RunFrom system depth step m fs →
      AllByRecursion IsReadableFiring fs × HasFineTokens (end_from system step m fs)
  run_is_readable depth step m [] tokens_fine few run = (tt, tokens_fine)
  run_is_readable depth step m (f ∷ fs) tokens_fine few (fires, run) =
      let next = after_firing system step m f in
      let given : Fired = record { marking = next; outs = f.outs } in
      let low : step < 9223372036854775808 = omega (arith, few) in
      let stay = tokens_stay_fine system m f.binding depth step given good fine tokens_fine
      fires.enabled fires.fired low in
      let others = run_is_readable depth (suc step) next fs stay (omega (arith, few)) run in (
        (
          (
            binding_is_readable m f.binding depth tokens_fine fires.enabled,
            each_shown IsReadable f.outs (λ v there.
                can_be_read v (outs_are_fine system m f.binding depth step given good fine
                tokens_fine fires.enabled fires.fired low v there)),
          ),
          others.0,
        ),
        others.1,
      )

  end_is_readable : (options : Options) (fs : List Firing) (reason : Reason) →
      HasFineTokens (end_of system fs) → IsTrueEnd system options fs reason → IsReadableEnd reason
  end_is_readable options fs Dead tokens_fine ends = tt
  end_is_readable options fs Steps tokens_fine ends = tt
  end_is_readable options fs (Fault cause b) tokens_fine ends =
      binding_is_readable (end_of system fs) b options.depth tokens_fine ends.0
  end_is_readable options fs Memory tokens_fine ends = tt

  line_is_readable : (m : Marking) (line : MarkLine) → HasFineTokens m → HasSoundTokens system m →
      IsMarkOf system m line → All IsReadable line.values
  line_is_readable m line tokens_fine sound is =
      each_shown IsReadable line.values (λ v has.
      let there : Contains (tokens_at m line.inst line.place) v =
      subst (λ vs. Contains vs v) is.values has in
      let token = sound line.inst line.net line.place v is.net there in
      let low = of_place_kind system good line.net line.place v token.kind in
      can_be_read v (tokens_fine line.inst line.place v there, omega (arith, low)))

  ends_are_readable : (options : Options) (fs : List Firing) (ended : Option Reason) →
      HasFineTokens (end_of system fs) → EndsTruly system options fs ended →
      AllByRecursion IsReadableEntry (end_entries ended)
  ends_are_readable options fs None tokens_fine ends = tt
  ends_are_readable options fs (Some reason) tokens_fine ends =
      (end_is_readable options fs reason tokens_fine ends, tt)

  -- all values of a log, and of the marks of what is live at its end
  pub log_is_readable : (options : Options) (fs : List Firing) (ended : Option Reason)
      (marks : List MarkLine) → length fs < 2 ^ 63 → Log system options fs ended →
      LivePart system (end_of system fs) marks →
      IsReadableRun (record { entries = entries_of fs ended; marks = marks })
  log_is_readable options fs ended marks few log live =
      let run = run_is_readable options.depth 1 (initial_marking system) fs
      (initial_tokens_are_fine system fine) (omega (arith, few)) log.run in
      let sound = runs_end_sound system options.depth fs good log.run in
      let entry = λ (f : Firing). Fire f.worker f.binding f.outs in
      record {
        entries = All-from_recursion IsReadableEntry (entries_of fs ended)
            (each_append IsReadableEntry (map entry fs) (end_entries ended)
            (each_map IsReadableEntry entry fs run.0)
            (ends_are_readable options fs ended run.1 log.ends));
        marks = each_shown (λ line. All IsReadable line.values) marks (λ line there.
            line_is_readable (end_of system fs) line run.1 sound
            (All-contains (IsMarkOf system (end_of system fs)) marks line live.each there));
      }

-- and so each log of the system of a net text
pub logs_are_readable : LogsAreReadable
logs_are_readable bytes plain system options fired ended marks spelled checked few log live =
    let fine : IsFineSystem system =
    subst IsFineSystem (sym checked.means) (spelled_is_fine bytes plain spelled) in
    log_is_readable system (checked_texts_are_good bytes plain system spelled checked) fine options
    fired ended marks few log live
