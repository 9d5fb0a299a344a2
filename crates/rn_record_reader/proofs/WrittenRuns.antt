-- The text of a log tells the log.
use Rattle.std.proofs.Common.{◌≡◌, ℕ, suc, ◌+◌, ◌<◌, inl, inr, List, [], ◌∷◌, ◌++◌, length, refl, sym, ap, ◌∙◌, subst, append_assoc, arith}
use Rattle.std.specs.Prelude.{Option, Some, None, All, Contains, flat_map, nat_eq, option_and_then, option_map, slice_get, unwrap_or}
use Rattle.std.specs.List.{AllByRecursion}
use Rattle.std.proofs.lemmas.List.Elements.{All-contains, All-contains_itself, recursion_from_All}
use Rattle.std.proofs.lemmas.Option.{slice_get-map, slice_get_within}
use Rattle.rn_value.specs.Kinds.{HasKind}
use Rattle.rn_value.specs.Names.{AreNamed}
use Rattle.rn_value.specs.declared.value.Value.{Value}
use Rattle.rn_model.specs.declared.system.System.{System}
use Rattle.rn_model.specs.declared.log.Entry.{Entry}
use Rattle.rn_model.specs.declared.log.Entry.TheVariants.{Fire}
use Rattle.rn_model.specs.declared.log.MarkLine.{MarkLine}
use Rattle.rn_model.specs.declared.log.Options.{Options}
use Rattle.rn_model.specs.declared.log.Reason.{Reason}
use Rattle.rn_model.specs.Firing.{Fired, creations_of}
use Rattle.rn_model.specs.Good.{Good}
use Rattle.rn_model.specs.Liveness.{IsMarkOf}
use Rattle.rn_model.specs.Markings.{Instance, Marking, initial_marking, instance_at, net_of, tokens_at}
use Rattle.rn_model.specs.Runs.{EndsTruly, Firing, Fires, RunFrom, after_firing, end_from, end_of, entries_of}
use Rattle.rn_model.specs.Systems.{net_at, place_kind}
use Rattle.rn_model.proofs.AfterFiring.{found_number}
use Rattle.rn_model.proofs.CountsAfterFiring.{instances_after_firing, next_after_firing}
use Rattle.rn_model.proofs.DeadInstances.{there_of_net}
use Rattle.rn_model.proofs.EachElement.{each_weaker}
use Rattle.rn_model.proofs.MarkingsOfRuns.{firings_keep_markings, found_is_there}
use Rattle.rn_model.proofs.SoundAfter.{firings_keep_tokens_sound}
use Rattle.rn_lookup.specs.Found.{net_of_made}
use Rattle.rn_record.specs.RecordText.{IsFormat, entry_text, entries_text, first_names, header_text, mark_text, names_after, names_at_end}
use Rattle.rn_record.specs.Writable.{HasLines, HaveEntries}
use Rattle.rn_record_reader.specs.Laws.{TextsTell}
use Rattle.rn_record_reader.specs.Lines.{lines_in}
use Rattle.rn_record_reader.specs.Readable.{IsReadable, IsReadableEntry}
use Rattle.rn_record_reader.specs.Runs.{Tells, TellsAfter, Verdict, bytes_after, first_line, first_made}
use Rattle.rn_record_reader.proofs.SpelledNodes.{names_for}
use Rattle.rn_record_reader.proofs.SpelledRuns.{run_text}
use Rattle.rn_record_reader.proofs.WrittenBack.{net_made_next, net_still_made}
use Rattle.rn_record_reader.proofs.WrittenBindings.{nets_of}
use Rattle.rn_record_reader.proofs.WrittenEntries.{EndsAs, RunTold, begins_quiet, count_of, end_told, firing_told, opens}
use Rattle.rn_record_reader.proofs.WrittenFirings.{IsAt, all_few, all_real, count_all, names_same}
use Rattle.rn_record_reader.proofs.WrittenMarks.{IsRightMark, Remain, holds_few}
use Rattle.rn_record_reader.proofs.WrittenValues.{IsNet}
use Rattle.rn_record_reader.proofs.WrittenStart.{at_first, first_named}

-- Marks at a marking of a run.
module _ (system : System) (good : Good system) (m : Marking) (made : List ℕ) (at : IsAt system m made) where
  module _ (line : MarkLine) (is : IsMarkOf system m line) where
    abbrev i : Instance
    i = (there_of_net m line.inst line.net is.net).0

    abbrev found : instance_at m line.inst ≡ Some i
    found = (there_of_net m line.inst line.net is.net).1

    own_net : i.net ≡ line.net
    own_net = (there_of_net m line.inst line.net is.net).2

    place_there : line.place < length i.places
    place_there = by (slice_get i.places line.place) refl
      where
        by : (o : Option (List Value)) → slice_get i.places line.place ≡ o → line.place < length i.places
        by None e =
            absurd (is.any (is.values ∙ ap (λ o. unwrap_or (option_and_then (λ (i : Instance). slice_get i.places line.place) o) []) found
            ∙ ap (λ o. unwrap_or o []) e))
        by (Some vs) e = slice_get_within i.places line.place vs e

    among : Contains m.instances i
    among = found_is_there (λ i. nat_eq i.number line.inst) m.instances i found

    right_mark : All IsReadable line.values → All (AreNamed (names_for system made)) line.values →
        IsRightMark system good made at.real at.few line
    right_mark readable named =
        let placed = All-contains (λ (i : Instance). (i.net < length system.nets) × (length i.places ≡ length (net_at system i.net).places))
        m.instances i at.marking.placed among in
        let numbered = All-contains (λ (i : Instance). (0 < i.number) × (i.number < m.next)) m.instances i at.marking.numbered among in
        let number = found_number m.instances line.inst i found in
        let count = at.count in
        let few = at.few in
        let net_real : IsNet system line.net = subst (IsNet system) own_net placed.0 in
        let places : length i.places ≡ length (net_at system line.net).places =
        placed.1 ∙ ap (λ n. length (net_at system n).places) own_net in
        let within = place_there in record {
          made = at.nets line.inst line.net is.net;
          net = net_real;
          low = omega (arith, numbered.0, number);
          high = omega (arith, numbered.1, number, count, few);
          place = omega (arith, within, places);
          kinds =
              subst (AllByRecursion (λ v. HasKind v (place_kind system line.net line.place))) (sym is.values)
              (each_weaker (Contains (tokens_at m line.inst line.place)) (λ v. HasKind v (place_kind system line.net line.place))
              (λ v has. (at.sound line.inst line.net line.place v is.net has).kind) (tokens_at m line.inst line.place)
              (recursion_from_All (Contains (tokens_at m line.inst line.place)) (tokens_at m line.inst line.place)
              (All-contains_itself (tokens_at m line.inst line.place))));
          any = is.any;
          readable = recursion_from_All IsReadable line.values readable;
          named = recursion_from_All (AreNamed (names_for system made)) line.values named;
        }

  pub right_marks : (marks : List MarkLine) → AllByRecursion (IsMarkOf system m) marks →
      AllByRecursion (λ line. All IsReadable line.values) marks →
      AllByRecursion (λ line. All (AreNamed (names_for system made)) line.values) marks →
      AllByRecursion (IsRightMark system good made at.real at.few) marks
  right_marks [] are readable named = tt
  right_marks (line ∷ marks) are readable named =
      (right_mark line are.0 readable.0 named.0, right_marks marks are.1 readable.1 named.1)

module _ (format : ℕ) (system : System) (depth : ℕ) (good : Good system) (marks : List MarkLine) (reason : Reason) (enough : Remain format 0 marks) where
  -- what is known of a run that goes on, whose instances so far have these names
  record GoesOn (names : List (List ℕ)) (fs : List Firing) : Type 0 where
    entries : HaveEntries system names (entries_of fs (Some reason))
    named : AllByRecursion (λ line. All (AreNamed (names_at_end system names (entries_of fs (Some reason)))) line.values) marks

  -- after one firing
  module _ (step : ℕ) (m : Marking) (made : List ℕ) (at : IsAt system m made) (f : Firing)
      (fires : Fires system depth step m f) (lines : HasLines system (names_for system made) f.binding) where
    abbrev given : Fired
    given = record { marking = after_firing system step m f; outs = f.outs }

    abbrev all : List ℕ
    all = made ++ nets_of system f.binding.nodes

    next_at : IsAt system given.marking all
    next_at =
        let next = next_after_firing system m f.binding step given fires.fired in
        let count = at.count in
        let long = count_all system m made depth good at f.binding fires.enabled lines in record {
          marking = firings_keep_markings system m f.binding depth step given good at.marking fires.enabled fires.fired;
          sound = firings_keep_tokens_sound system m f.binding depth step given good at.marking at.sound fires.enabled fires.fired;
          count = omega (arith, next, count, long);
          nets = nets;
          real = all_real system m made depth good at f.binding fires.enabled lines;
          few = all_few system m made depth good at f.binding fires.enabled lines;
        }
      where
        nets : (n net : ℕ) → net_of given.marking n ≡ Some net → net_of_made all n ≡ Some net
        nets n net e = elim ((instances_after_firing system m f.binding step given at.marking fires.fired n net).0 e) as (λ _. net_of_made all n ≡ Some net) [
          | inl old ↦ net_still_made made (nets_of system f.binding.nodes) n net (at.nets n net old)
          | inr (k, c, here, number, own) ↦
              let count = at.count in
              net_made_next made (nets_of system f.binding.nodes) n k net (omega (arith, number, count))
              (slice_get-map (λ c. c.net) (creations_of system f.binding) k ∙ ap (option_map (λ c. c.net)) here ∙ ap (λ net. Some net) own)
        ]

  run_told : (fs : List Firing) (step line : ℕ) (m : Marking) (made : List ℕ) (at : IsAt system m made) →
      RunFrom system depth step m fs → EndsAs system depth reason (end_from system step m fs) →
      AllByRecursion (IsMarkOf system (end_from system step m fs)) marks →
      AllByRecursion (λ line. All IsReadable line.values) marks →
      AllByRecursion IsReadableEntry (entries_of fs (Some reason)) → GoesOn (names_for system made) fs →
      RunTold format system made step line (lines_in (run_text format system (names_for system made) step (entries_of fs (Some reason)) marks))
      (Verdict.tells (entries_of fs (Some reason)) marks)
  run_told [] step line m made at run ends are readable printable on =
      end_told system m made depth good at format step line marks (right_marks system good m made at marks are readable on.named) enough reason
      ends on.entries.0 printable.0
  run_told (f ∷ fs) step line m made at (fires, run) ends are readable printable on =
      let es : List Entry = entries_of fs (Some reason) in
      let here = on.entries.0 in
      let all : List ℕ = made ++ nets_of system f.binding.nodes in
      let names = names_for system made in
      let same = names_same system m made depth good at f.binding fires.enabled here.0 in
      let more : GoesOn (names_for system all) fs =
      subst (λ ns. GoesOn ns fs) same (record { entries = on.entries.1; named = on.named }) in
      let rest : List ℕ = run_text format system (names_for system all) (step + 1) es marks in
      let printed = recursion_from_All IsReadable f.outs printable.0.1 in
      let next : (line : ℕ) → RunTold format system all (step + 1) line (lines_in rest) (Verdict.tells es marks) =
      λ line. run_told fs (step + 1) line (after_firing system step m f) all (next_at step m made at f fires here.0)
      (subst (λ k. RunFrom system depth k (after_firing system step m f) fs) (one_more step) run)
      (subst (λ k. EndsAs system depth reason (end_from system k (after_firing system step m f) fs)) (one_more step) ends)
      (subst (λ k. AllByRecursion (IsMarkOf system (end_from system k (after_firing system step m f) fs)) marks) (one_more step) are)
      readable printable.1 more in
      let count = count_of system m made depth good at step f.worker fires.worker.0 fires.worker.1 f.binding f.outs fires.enabled here.0 printable.0.0 printed here.1 rest in
      let told = firing_told system m made depth good at step f.worker fires.worker.0 fires.worker.1 f.binding f.outs fires.enabled here.0 printable.0.0 printed here.1 rest
      ((next line).quiet all step f.worker) in
      let text : run_text format system names step (entries_of (f ∷ fs) (Some reason)) marks
      ≡ entry_text system names step (Fire f.worker f.binding f.outs) ++ rest =
      append_assoc (entry_text system names step (Fire f.worker f.binding f.outs))
      (entries_text system (names_after system names f.binding) (step + 1) es)
      (flat_map (mark_text format system (names_at_end system (names_after system names f.binding) es)) marks)
      ∙ ap (λ ns. entry_text system names step (Fire f.worker f.binding f.outs) ++ run_text format system ns (step + 1) es marks) same in
      subst (λ t. RunTold format system made step line (lines_in t) (Verdict.tells (entries_of (f ∷ fs) (Some reason)) marks)) (sym text)
      (record {
        tells = Tells.fired
            (opens system m made depth good at step f.worker fires.worker.0 fires.worker.1 f.binding f.outs fires.enabled here.0 printable.0.0 printed here.1 rest)
            told (next (line + count)).tells;
        quiet = begins_quiet system m made depth good at step f.worker fires.worker.0 fires.worker.1 f.binding f.outs fires.enabled here.0 printable.0.0 printed here.1 rest;
      })
    where
      one_more : (k : ℕ) → suc k ≡ k + 1
      one_more k = omega arith

ends_enabled : (system : System) (options : Options) (fs : List Firing) (reason : Reason) →
    EndsTruly system options fs (Some reason) → EndsAs system options.depth reason (end_of system fs)
ends_enabled system options fs Reason.Dead e = tt
ends_enabled system options fs Reason.Steps e = tt
ends_enabled system options fs Reason.Memory e = tt
ends_enabled system options fs (Reason.Fault cause b) e = e.0

-- the name of the format stands first
pub name_stands : (format : ℕ) (bytes : List ℕ) → IsFormat format → bytes_after (header_text format) (header_text format ++ bytes) ≡ Some bytes
name_stands format bytes is = elim is as (λ _. bytes_after (header_text format) (header_text format ++ bytes) ≡ Some bytes) [
  | inl one ↦ subst (λ k. bytes_after (header_text k) (header_text k ++ bytes) ≡ Some bytes) (sym one) refl
  | inr two ↦ subst (λ k. bytes_after (header_text k) (header_text k ++ bytes) ≡ Some bytes) (sym two) refl
]

pub texts_tell : TextsTell
texts_tell system format options fired reason marks good is log live has readable few =
    let es : List Entry = entries_of fired (Some reason) in
    let enough = holds_few format marks few in
    let same = first_named system good in
    let header = header_text format in
    let entries = entries_text system first_names 1 es in
    let text = run_text format system first_names 1 es marks in
    let marks_text = flat_map (mark_text format system (names_at_end system first_names es)) marks in
    let on : GoesOn format system options.depth good marks reason enough first_names fired = record {
      entries = has.entries;
      named = recursion_from_All (λ line. All (AreNamed (names_at_end system first_names es)) line.values) marks has.marks;
    } in
    let told : Tells format system (first_made system) 1 (first_line format) (lines_in text) (Verdict.tells es marks) =
    subst (λ ns. Tells format system (first_made system) 1 (first_line format) (lines_in (run_text format system ns 1 es marks)) (Verdict.tells es marks)) same
    (run_told format system options.depth good marks reason enough fired 1 (first_line format) (initial_marking system) (first_made system) (at_first system good) log.run
    (ends_enabled system options fired reason log.ends)
    (recursion_from_All (IsMarkOf system (end_of system fired)) marks live.each)
    (recursion_from_All (λ line. All IsReadable line.values) marks readable.marks)
    (recursion_from_All IsReadableEntry es readable.entries)
    (subst (λ ns. GoesOn format system options.depth good marks reason enough ns fired) (sym same) on)).tells in
    subst (λ bytes. TellsAfter format system (bytes_after header bytes) (Verdict.tells es marks)) (sym (append_assoc header entries marks_text))
    (subst (λ o. TellsAfter format system o (Verdict.tells es marks)) (sym (name_stands format text is)) told)
