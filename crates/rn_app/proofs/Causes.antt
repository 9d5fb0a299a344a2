-- Each cause has its status.
use Rattle.std.proofs.Common.{◌≡◌, ◌∙◌, ◌⊎◌, ◌≤◌, ℕ, List, [], Option, Some, None, Err, inl, inr, length, refl, sym, ap, subst, arith}
use Rattle.std.specs.Prelude.{IfSome, ⊤}
use Rattle.rn_model.specs.declared.log.Options.{Options}
use Rattle.rn_model.specs.Good.{IsInLimits}
use Rattle.rn_model.specs.declared.log.Reason.{Reason}
use Rattle.rn_model.specs.declared.log.Reason.TheVariants as End
use Rattle.rn_model.specs.declared.system.System.{System}
use Rattle.rn_record.specs.RecordText.{IsFormat}
use Rattle.rn_record_reader.specs.Laws.{OneReading}
use Rattle.rn_record_reader.specs.Runs.{Verdict, TellsRecord}
use Rattle.rn_notation.specs.Limits.{longest_net_text, longest_text}
use Rattle.rn_words.specs.declared.command.Command.{Command}
use Rattle.rn_words.specs.declared.command.Command.TheVariants as command
use Rattle.rn_words.specs.declared.command.WordsFault.{WordsFault}
use Rattle.rn_words.specs.Commands.{WordsOk}
use Rattle.rn_words.specs.Laws.{AcceptedAreWithinLimits, IsWithinLimits, ReadsWhatIsAccepted}
use Rattle.rn_words.specs.Reading.{reading}
use Rattle.rn_answering.specs.declared.answer.Answer.{Answer}
use Rattle.rn_answering.specs.declared.status.TheConstants.{DONE, NET_REFUSED, WORDS_REFUSED, FAULTED, NO_MEMORY, RECORD_REFUSED}
use Rattle.rn_answering.specs.Input.{longest_input, IsTooLong}
use Rattle.rn_answering.specs.NetTexts.{Accepted, AcceptedIn, IsRefusedBy, RefusesNet}
use Rattle.rn_answering.specs.TextCommands.{ChecksTo, PrintsTo}
use Rattle.rn_answering.specs.Refusing.{done, refusal}
use Rattle.rn_commands.specs.Ends.{end_status}
use Rattle.rn_commands.specs.Laws.{OneAnswerToRecord, OneParting}
use Rattle.rn_commands.specs.NetCommands.{EnabledTo, ReplaysTo, ReplayComesTo}
use Rattle.rn_commands.specs.Parts.{HasParts}
use Rattle.rn_commands.specs.Replaying.{IsNoRunBy, RecordTo, replayed_text}
use Rattle.rn_commands.specs.Runs.{RunsTo}
use Rattle.rn_commands.specs.LeastRuns.{RunsLeastTo}
use Rattle.rn_commands.specs.Moves.{RecordMovesTo, MovesTo, MovesComeTo}
use Rattle.rn_commands.specs.Migrating.{NetMigratesTo, MigratesTo, MigrateComesTo}
use Rattle.rn_commands.specs.Stepping.{SessionTo, SessionComesTo}
use Rattle.rn_commands.specs.Counting.{CountsTo}
use Rattle.rn_commands.specs.Translating.{RefusesWeighted, TranslatesTo}
use Rattle.rn_weighted.specs.declared.weighted.Weighted.{Weighted}
use Rattle.rn_pt.specs.declared.fault.PtFault.{PtFault}
use Rattle.rn_pt.specs.Texts.{IsRefused, Spells}
use Rattle.rn_app.specs.Commands.{ComesTo, HasNetText}
use Rattle.rn_app.specs.Laws.{AcceptedIsNotRefused, NotationsAreFormats, OneNotation, OneSystemAccepted, RunIsRead}
use Rattle.rn_app.specs.TopCall.{BeginsWithNet, CanMigrate, Comes, IsFine, IsNoInput, IsNoRecord, IsRecorded, IsUnread, MayFault}
use Rattle.rn_app.proofs.WordsAndInput.{one_command, not_faulty}

-- what is known of words, of net texts and of records
pub record Laws : Type 0 where
  pub words : ReadsWhatIsAccepted
  pub texts : AcceptedIsNotRefused
  pub systems : OneSystemAccepted
  pub notations : OneNotation
  pub formats : NotationsAreFormats
  pub readings : OneReading
  pub parts : OneParting
  pub one : OneAnswerToRecord
  pub read : RunIsRead
  pub limits : AcceptedAreWithinLimits

-- words that have a fault come to its status
pub words_status : Laws → (words : List (List ℕ)) (left left_after : Option (List ℕ)) (a : Answer) (fault : WordsFault) → reading words ≡ Err fault → Comes words left left_after a → a.status ≡ WORDS_REFUSED
words_status laws words left left_after a fault faulty (Comes.wordless other is same) = refl
words_status laws words left left_after a fault faulty (Comes.longer c limit accepted is long gives) = absurd (not_faulty laws.words words c fault accepted faulty)
words_status laws words left left_after a fault faulty (Comes.inputless _ c accepted none comes same) = absurd (not_faulty laws.words words c fault accepted faulty)
words_status laws words left left_after a fault faulty (Comes.whole _ c limit bytes accepted is all few comes) = absurd (not_faulty laws.words words c fault accepted faulty)

-- A net text that is refused is reported so, where what else a command comes to on it would say that it
-- is accepted.
refused_or : Laws → (R : Type 0) (bytes net line : List ℕ) (a : Answer) → net ≡ bytes → IsRefusedBy net line → (R → (system : System) × Accepted bytes system) → RefusesNet bytes a ⊎ R → a.status ≡ NET_REFUSED
refused_or laws R bytes net line a is refused accepted (inl (told, why, same)) = ap (λ x. x.status) same
refused_or laws R bytes net line a is refused accepted (inr r) =
    let (system, its) = accepted r in
    absurd (laws.texts bytes line system its (subst (λ b. IsRefusedBy b line) is refused))

-- the same of a net text before a line `---`
refused_before : Laws → (R : List ℕ → List ℕ → Type 0) (bytes net line : List ℕ) (a : Answer) → ((rest : List ℕ) × HasParts bytes net rest) → IsRefusedBy net line → ((other more : List ℕ) → R other more → (system : System) × Accepted other system) →
    ((other : List ℕ) × (more : List ℕ) × HasParts bytes other more × (RefusesNet other a ⊎ R other more)) → a.status ≡ NET_REFUSED
refused_before laws R bytes net line a (rest, parts) refused accepted (other, more, its, comes) =
    refused_or laws (R other more) other net line a (laws.parts bytes net rest other more parts its).0 refused (accepted other more) comes

-- a command whose net text is refused says so
net_status : Laws → (c : Command) (bytes net line : List ℕ) (a : Answer) → HasNetText c bytes net → IsRefusedBy net line → ComesTo c bytes a → a.status ≡ NET_REFUSED
net_status laws (command.Run options) bytes net line a is refused comes = refused_or laws (RunsTo options bytes a) bytes net line a is refused (λ runs. (runs.run.system, runs.run.accepted)) comes
net_status laws (command.RunLeast options) bytes net line a is refused comes = refused_or laws (RunsLeastTo options bytes a) bytes net line a is refused (λ least. (least.runs.run.system, least.runs.run.accepted)) comes
net_status laws (command.RunSeeded options seed) bytes net line a is refused comes = refused_or laws (RunsTo options bytes a) bytes net line a is refused (λ runs. (runs.run.system, runs.run.accepted)) comes
net_status laws command.Check bytes net line a is refused comes = refused_or laws (ChecksTo bytes a) bytes net line a is refused (λ checks. (checks.0, checks.1)) comes
net_status laws command.Print bytes net line a is refused comes = refused_or laws (PrintsTo bytes a) bytes net line a is refused (λ prints. (prints.1, record { plain = prints.0; spelled = prints.2; checked = prints.3 })) comes
net_status laws (command.Enabled depth) bytes net line a is refused comes = refused_or laws (EnabledTo depth bytes a) bytes net line a is refused (λ lists. (lists.0, lists.2)) comes
net_status laws (command.Replay options) bytes net line a has refused comes = refused_before laws (λ other more. ReplaysTo options other more a) bytes net line a has refused (λ other more replays. (replays.0, replays.1)) comes
net_status laws (command.Session options) bytes net line a has refused comes = refused_before laws (λ other more. SessionTo options other more a) bytes net line a has refused (λ other more serves. (serves.0, serves.1)) comes
net_status laws (command.Counts options) bytes net line a is refused comes = refused_or laws (CountsTo options bytes a) bytes net line a is refused (λ counted. (counted.counts.system, counted.counts.accepted)) comes
net_status laws (command.Moves options) bytes net line a has refused comes = refused_before laws (λ other more. MovesTo options other more a) bytes net line a has refused (λ other more moves. (moves.0, moves.1)) comes
net_status laws command.Migrate bytes net line a has refused comes = refused_before laws (λ other more. MigratesTo bytes other more a) bytes net line a has refused (λ other more migrates. (migrates.0, migrates.1)) comes
net_status laws command.Pt bytes net line a is refused comes = absurd is
net_status laws (command.Gen copies options) bytes net line a is refused gens = absurd is
net_status laws (command.GenSeeded copies options seed) bytes net line a is refused gens = absurd is

-- a text that is refused is translated by none
unweighted_status : (bytes : List ℕ) (why : PtFault) (a : Answer) → IsRefused bytes why → RefusesWeighted bytes a ⊎ TranslatesTo bytes a → a.status ≡ NET_REFUSED
unweighted_status bytes why a refused (inl refuses) = ap (λ x. x.status) refuses.is
unweighted_status bytes why a refused (inr translates) = absurd (translates.unrefused why refused)

-- a net text has no second notation
one_notation_only : Laws → (bytes net rest other more : List ℕ) (s t : System) (first second : ℕ) → HasParts bytes net rest → HasParts bytes other more → AcceptedIn first net s → AcceptedIn second other t → first ≡ second
one_notation_only laws bytes net rest other more s t first second parts again accepted also =
    laws.notations other s t first second (subst (λ n. AcceptedIn first n s) (laws.parts bytes net rest other more parts again).0 accepted) also

-- a net text of notation 2 isn't migrated
already_status : Laws → (bytes net rest : List ℕ) (system : System) (a : Answer) → HasParts bytes net rest → AcceptedIn 2 net system → MigrateComesTo bytes a → a.status ≡ NET_REFUSED
already_status laws bytes net rest system a parts accepted (other, more, again, inl (line, why, same)) = ap (λ x. x.status) same
already_status laws bytes net rest system a parts accepted (other, more, again, inr (s, also, to)) = by a (one_notation_only laws bytes net rest other more system s 2 also.plain.notation parts again accepted (also, refl)) to
  where
    by : (b : Answer) → 2 ≡ also.plain.notation → NetMigratesTo also.plain s bytes other more b → b.status ≡ NET_REFUSED
    by b second (NetMigratesTo.already is) = refl
    by b second (NetMigratesTo.alone first all) = absurd (omega (arith, second, first))
    by b second (NetMigratesTo.unread first some line why bad) = absurd (omega (arith, second, first))
    by b second (NetMigratesTo.both first some told tells) = absurd (omega (arith, second, first))

-- a command whose input isn't what it asks for says so, where it was within the limit
within_status : Laws → (c : Command) (limit : ℕ) (bytes : List ℕ) (a : Answer) → longest_input c ≡ Some limit → length bytes ≤ limit → IsNoInput c bytes → ComesTo c bytes a → a.status ≡ NET_REFUSED
within_status laws c limit bytes a is few (IsNoInput.longer other most long) comes =
    let same : limit ≡ other = cc in
    absurd (omega (arith, few, long, same))
within_status laws c limit bytes a is few (IsNoInput.refused {net} {line} has refused) comes = net_status laws c bytes net line a has refused comes
within_status laws c limit bytes a is few (IsNoInput.unweighted {why = why} refused) comes = unweighted_status bytes why a refused comes
within_status laws c limit bytes a is few (IsNoInput.already {net = net} {rest = rest} {system = system} parts second) comes = already_status laws bytes net rest system a parts second comes

-- no input of `gen` is refused
none_refused : (c : Command) (bytes : List ℕ) → longest_input c ≡ None → IsNoInput c bytes → ⊥
none_refused c bytes none (IsNoInput.longer limit is long) = absurd cc
none_refused c bytes none (IsNoInput.unweighted refused) = absurd cc
none_refused c bytes none (IsNoInput.already parts second) = absurd cc
none_refused (command.Gen copies options) bytes none (IsNoInput.refused has refused) = has
none_refused (command.GenSeeded copies options seed) bytes none (IsNoInput.refused has refused) = has
none_refused (command.Run options) bytes none (IsNoInput.refused has refused) = absurd cc
none_refused (command.RunLeast options) bytes none (IsNoInput.refused has refused) = absurd cc
none_refused (command.RunSeeded options seed) bytes none (IsNoInput.refused has refused) = absurd cc
none_refused (command.Session options) bytes none (IsNoInput.refused has refused) = absurd cc
none_refused (command.Counts options) bytes none (IsNoInput.refused has refused) = absurd cc
none_refused (command.Moves options) bytes none (IsNoInput.refused has refused) = absurd cc
none_refused command.Migrate bytes none (IsNoInput.refused has refused) = absurd cc
none_refused command.Pt bytes none (IsNoInput.refused has refused) = has
none_refused command.Check bytes none (IsNoInput.refused has refused) = absurd cc
none_refused command.Print bytes none (IsNoInput.refused has refused) = absurd cc
none_refused (command.Enabled depth) bytes none (IsNoInput.refused has refused) = absurd cc
none_refused (command.Replay options) bytes none (IsNoInput.refused has refused) = absurd cc

-- what accepted words come to on input that isn't what they ask for
pub input_status : Laws → (words : List (List ℕ)) (left_after : Option (List ℕ)) (bytes : List ℕ) (c : Command) (a : Answer) → WordsOk words c → IsNoInput c bytes → Comes words (Some bytes) left_after a → a.status ≡ NET_REFUSED
input_status laws words left_after bytes c a accepted wrong (Comes.wordless fault faulty same) = absurd (not_faulty laws.words words c fault accepted faulty)
input_status laws words left_after bytes c a accepted wrong (Comes.longer other limit given is long gives) = refl
input_status laws words left_after bytes c a accepted wrong (Comes.inputless _ other given none comes same) =
    absurd (none_refused other bytes none (subst (λ k. IsNoInput k bytes) (one_command laws.words words c other accepted given) wrong))
input_status laws words left_after bytes c a accepted wrong (Comes.whole _ other limit read given is all few comes) =
    within_status laws other limit read a is few (subst (λ b. IsNoInput other b) (sym all.all) (subst (λ k. IsNoInput k bytes) (one_command laws.words words c other accepted given) wrong)) comes

-- a record that isn't the text of a run is refused
refusing_status : Laws → (format : ℕ) (system : System) (options : Options) (rest line : List ℕ) (a : Answer) → IsFormat format → IsNoRunBy format system options rest line → RecordTo format system options rest a → a.status ≡ RECORD_REFUSED
refusing_status laws format system options rest line a is wrong told =
    ap (λ x. x.status) (laws.one format system options rest a (refusal RECORD_REFUSED line) is told (RecordTo.refused line wrong))

-- and its moves aren't listed
moving_status : Laws → (format : ℕ) (system : System) (options : Options) (rest line : List ℕ) (a : Answer) → IsFormat format → IsNoRunBy format system options rest line → RecordMovesTo format system options rest a → a.status ≡ RECORD_REFUSED
moving_status laws format system options rest line a is wrong (RecordMovesTo.refused other why) = refl
moving_status laws format system options rest line a is wrong (RecordMovesTo.moved count reason run read text moves) =
    let no = refusing_status laws format system options rest line (done (replayed_text count reason)) is wrong (RecordTo.replayed count reason run read) in
    absurd cc

-- what a command comes to on an accepted net text and a record that isn't the text of a run of it
no_record_by : Laws → (R : ℕ → System → List ℕ → Type 0) (options : Options) (bytes : List ℕ) (a : Answer) → ((format : ℕ) (system : System) (rest line : List ℕ) → IsFormat format → IsNoRunBy format system options rest line → R format system rest → a.status ≡ RECORD_REFUSED) → IsNoRecord options bytes →
    ((net : List ℕ) × (rest : List ℕ) × HasParts bytes net rest × (RefusesNet net a ⊎ ((system : System) × (accepted : Accepted net system) × R accepted.plain.notation system rest))) → a.status ≡ RECORD_REFUSED
no_record_by laws R options bytes a refuses wrong (net, rest, parts, inl (line, why, same)) =
    absurd (laws.texts net line wrong.system (subst (λ n. Accepted n wrong.system) (laws.parts bytes wrong.net wrong.record_bytes net rest wrong.parts parts).0 wrong.accepted) why)
no_record_by laws R options bytes a refuses wrong (net, rest, parts, inr (system, accepted, told)) =
    let same = laws.parts bytes wrong.net wrong.record_bytes net rest wrong.parts parts in
    let one : wrong.system ≡ system = laws.systems net wrong.system system (subst (λ n. Accepted n wrong.system) same.0 wrong.accepted) accepted in
    let told_in = wrong.accepted.plain.notation in
    let format : told_in ≡ accepted.plain.notation = laws.notations net wrong.system system told_in accepted.plain.notation (subst (λ n. AcceptedIn told_in n wrong.system) same.0 (wrong.accepted, refl)) (accepted, refl) in
    let its : IsNoRunBy accepted.plain.notation system options rest wrong.line =
    subst (λ f. IsNoRunBy f system options rest wrong.line) format (subst (λ s. IsNoRunBy told_in s options rest wrong.line) one (subst (λ b. IsNoRunBy told_in wrong.system options b wrong.line) same.1 wrong.no_run)) in
    refuses accepted.plain.notation system rest wrong.line (laws.formats net system accepted) its told

-- a command that reads a record, and refuses an input of this kind for it
pub record RefusesRecords (P : List ℕ → Type 0) (c : Command) : Type 0 where
  pub reads : longest_input c ≡ Some longest_text
  pub few : (bytes : List ℕ) → P bytes → length bytes ≤ longest_text
  pub refuses : Laws → (bytes : List ℕ) (a : Answer) → P bytes → ComesTo c bytes a → a.status ≡ RECORD_REFUSED

pub replay_refuses : (options : Options) → RefusesRecords (IsNoRecord options) (command.Replay options)
replay_refuses options = record {
  reads = refl;
  few = λ bytes wrong. wrong.few;
  refuses = λ laws bytes a wrong comes. no_record_by laws (λ format system rest. RecordTo format system options rest a) options bytes a (λ format system rest line is no told. refusing_status laws format system options rest line a is no told) wrong comes;
}

pub moves_refuse : (options : Options) → RefusesRecords (IsNoRecord options) (command.Moves options)
moves_refuse options = record {
  reads = refl;
  few = λ bytes wrong. wrong.few;
  refuses = λ laws bytes a wrong comes. no_record_by laws (λ format system rest. RecordMovesTo format system options rest a) options bytes a (λ format system rest line is no told. moving_status laws format system options rest line a is no told) wrong comes;
}

-- a record that tells no run isn't migrated
unread_status : Laws → (bytes : List ℕ) (a : Answer) → IsUnread bytes → MigrateComesTo bytes a → a.status ≡ RECORD_REFUSED
unread_status laws bytes a wrong (net, rest, parts, inl (line, why, same)) =
    absurd (laws.texts net line wrong.system (subst (λ n. Accepted n wrong.system) (laws.parts bytes wrong.net wrong.record_bytes net rest wrong.parts parts).0 wrong.accepted.0) why)
unread_status laws bytes a wrong (net, rest, parts, inr (system, accepted, to)) = by a to
  where
    same : (wrong.net ≡ net) × (wrong.record_bytes ≡ rest)
    same = laws.parts bytes wrong.net wrong.record_bytes net rest wrong.parts parts

    its : TellsRecord system 1 rest (Verdict.bad wrong.line wrong.why)
    its = subst (λ s. TellsRecord s 1 rest (Verdict.bad wrong.line wrong.why)) (laws.systems net wrong.system system (subst (λ n. Accepted n wrong.system) same.0 wrong.accepted.0) accepted)
        (subst (λ b. TellsRecord wrong.system 1 b (Verdict.bad wrong.line wrong.why)) same.1 wrong.bad)

    by : (b : Answer) → NetMigratesTo accepted.plain system bytes net rest b → b.status ≡ RECORD_REFUSED
    by b (NetMigratesTo.already second) =
        let one = one_notation_only laws bytes wrong.net wrong.record_bytes net rest wrong.system system 1 accepted.plain.notation wrong.parts parts wrong.accepted (accepted, refl) in
        absurd (omega (arith, one, second))
    by b (NetMigratesTo.alone first all) = absurd (wrong.more (same.0 ∙ all))
    by b (NetMigratesTo.unread first more line why bad) = refl
    by b (NetMigratesTo.both first more told tells) =
        let is = laws.readings system 1 rest (Verdict.bad wrong.line wrong.why) (Verdict.tells told.entries told.marks) (inl refl) its tells in
        absurd (let never : ⊥ = cc in never)

pub migrate_refuses : RefusesRecords IsUnread command.Migrate
migrate_refuses = record {
  reads = refl;
  few = λ bytes wrong. wrong.few;
  refuses = unread_status;
}

-- what the words of such a command come to on such input
pub record_status : Laws → (words : List (List ℕ)) (left_after : Option (List ℕ)) (bytes : List ℕ) (P : List ℕ → Type 0) (command : Command) (a : Answer) → RefusesRecords P command → WordsOk words command → P bytes → Comes words (Some bytes) left_after a → a.status ≡ RECORD_REFUSED
record_status laws words left_after bytes P command a reads accepted wrong (Comes.wordless fault faulty same) = absurd (not_faulty laws.words words command fault accepted faulty)
record_status laws words left_after bytes P command a reads accepted wrong (Comes.longer other limit given is long gives) =
    let most : longest_input command ≡ Some limit = subst (λ k. longest_input k ≡ Some limit) (one_command laws.words words other command given accepted) is in
    let its = reads.reads in
    let same : longest_text ≡ limit = cc in
    let few = reads.few bytes wrong in
    absurd (omega (arith, few, long, same))
record_status laws words left_after bytes P command a reads accepted wrong (Comes.inputless _ other given none comes same) =
    let nothing : longest_input command ≡ None = subst (λ k. longest_input k ≡ None) (one_command laws.words words other command given accepted) none in
    let its = reads.reads in
    absurd cc
record_status laws words left_after bytes P command a reads accepted wrong (Comes.whole _ other limit read given is all few comes) =
    reads.refuses laws read a (subst P (sym all.all) wrong) (subst (λ k. ComesTo k read a) (one_command laws.words words other command given accepted) comes)

-- a command that is done, or faulted where it may, or wants memory
abbrev pub IsDoneBut : Command → ℕ → Type 0
IsDoneBut c status = (status ≡ DONE) ⊎ ((status ≡ NO_MEMORY) ⊎ ((status ≡ FAULTED) × MayFault c))

-- a run comes to an end that is done, or faulted, or wants memory
run_status : (P : Type 0) (reason : Reason) (status : ℕ) → status ≡ end_status reason → P → (status ≡ DONE) ⊎ ((status ≡ NO_MEMORY) ⊎ ((status ≡ FAULTED) × P))
run_status P End.Dead status is p = inl is
run_status P End.Steps status is p = inl is
run_status P End.Memory status is p = inr (inl is)
run_status P (End.Fault cause b) status is p = inr (inr (is, p))

-- the text of a run is replayed
done_record : Laws → (options : Options) (bytes rest : List ℕ) (system : System) (a : Answer) → IsInLimits options → (r : IsRecorded options bytes) → r.record_bytes ≡ rest → r.system ≡ system → RecordTo r.accepted.plain.notation system options rest a → a.status ≡ DONE
done_record laws options bytes rest system a within r more same told =
    let counted = r.run.counted in
    let steps = r.run.log.steps in
    let most : options.steps ≤ 200000 = within.steps in
    let read = laws.read r.net r.system options r.record_bytes r.count r.reason r.accepted r.run (omega (arith, counted, steps, most)) r.few in
    let format = r.accepted.plain.notation in
    let its : RecordTo format r.system options r.record_bytes a = subst (λ s. RecordTo format s options r.record_bytes a) (sym same) (subst (λ b. RecordTo format system options b a) (sym more) told) in
    ap (λ x. x.status) (laws.one format r.system options r.record_bytes a (done (replayed_text r.count r.reason)) (laws.formats r.net r.system r.accepted) its (RecordTo.replayed r.count r.reason r.run read))

-- and its moves are listed
moved_record : Laws → (options : Options) (bytes rest : List ℕ) (system : System) (a : Answer) → IsInLimits options → (r : IsRecorded options bytes) → r.record_bytes ≡ rest → r.system ≡ system → RecordMovesTo r.accepted.plain.notation system options rest a → a.status ≡ DONE
moved_record laws options bytes rest system a within r more same (RecordMovesTo.refused line why) =
    let no = done_record laws options bytes rest system (refusal RECORD_REFUSED line) within r more same (RecordTo.refused line why) in
    absurd cc
moved_record laws options bytes rest system a within r more same (RecordMovesTo.moved count reason run read text moves) = refl

-- what a command comes to on an accepted net text and the text of a run of it
recorded_by : Laws → (R : ℕ → System → List ℕ → Type 0) (options : Options) (bytes : List ℕ) (a : Answer) (r : IsRecorded options bytes) → ((system : System) (rest : List ℕ) → r.record_bytes ≡ rest → r.system ≡ system → R r.accepted.plain.notation system rest → a.status ≡ DONE) →
    ((net : List ℕ) × (rest : List ℕ) × HasParts bytes net rest × (RefusesNet net a ⊎ ((system : System) × (accepted : Accepted net system) × R accepted.plain.notation system rest))) → a.status ≡ DONE
recorded_by laws R options bytes a r does (net, rest, parts, inl (line, why, same)) =
    absurd (laws.texts net line r.system (subst (λ n. Accepted n r.system) (laws.parts bytes r.net r.record_bytes net rest r.parts parts).0 r.accepted) why)
recorded_by laws R options bytes a r does (net, rest, parts, inr (system, accepted, told)) =
    let same = laws.parts bytes r.net r.record_bytes net rest r.parts parts in
    let told_in = r.accepted.plain.notation in
    let format : told_in ≡ accepted.plain.notation = laws.notations net r.system system told_in accepted.plain.notation (subst (λ n. AcceptedIn told_in n r.system) same.0 (r.accepted, refl)) (accepted, refl) in
    does system rest same.1 (laws.systems net r.system system (subst (λ n. Accepted n r.system) same.0 r.accepted) accepted) (subst (λ f. R f system rest) (sym format) told)

replay_status : Laws → (options : Options) (bytes : List ℕ) (a : Answer) → IsInLimits options → IsRecorded options bytes → ReplayComesTo options bytes a → a.status ≡ DONE
replay_status laws options bytes a within r comes = recorded_by laws (λ format system rest. RecordTo format system options rest a) options bytes a r (λ system rest more same told. done_record laws options bytes rest system a within r more same told) comes

moves_status : Laws → (options : Options) (bytes : List ℕ) (a : Answer) → IsInLimits options → IsRecorded options bytes → MovesComeTo options bytes a → a.status ≡ DONE
moves_status laws options bytes a within r comes = recorded_by laws (λ format system rest. RecordMovesTo format system options rest a) options bytes a r (λ system rest more same told. moved_record laws options bytes rest system a within r more same told) comes

-- what can be migrated is
migrate_status : Laws → (bytes : List ℕ) (a : Answer) → CanMigrate bytes → MigrateComesTo bytes a → a.status ≡ DONE
migrate_status laws bytes a can (net, rest, parts, inl (line, why, is)) =
    absurd (laws.texts net line can.system (subst (λ n. Accepted n can.system) (laws.parts bytes can.net can.record_bytes net rest can.parts parts).0 can.accepted.0) why)
migrate_status laws bytes a can (net, rest, parts, inr (system, accepted, to)) = by a to
  where
    same : (can.net ≡ net) × (can.record_bytes ≡ rest)
    same = laws.parts bytes can.net can.record_bytes net rest can.parts parts

    one : can.system ≡ system
    one = laws.systems net can.system system (subst (λ n. Accepted n can.system) same.0 can.accepted.0) accepted

    by : (b : Answer) → NetMigratesTo accepted.plain system bytes net rest b → b.status ≡ DONE
    by b (NetMigratesTo.already second) =
        let first = one_notation_only laws bytes can.net can.record_bytes net rest can.system system 1 accepted.plain.notation can.parts parts can.accepted (accepted, refl) in
        absurd (omega (arith, first, second))
    by b (NetMigratesTo.alone first all) = refl
    by b (NetMigratesTo.unread first more line why bad) =
        let read = can.read (λ all. more (sym same.0 ∙ all)) in
        let tells : TellsRecord system 1 rest (Verdict.tells read.0.entries read.0.marks) =
        subst (λ s. TellsRecord s 1 rest (Verdict.tells read.0.entries read.0.marks)) one (subst (λ b. TellsRecord can.system 1 b (Verdict.tells read.0.entries read.0.marks)) same.1 read.1) in
        let is = laws.readings system 1 rest (Verdict.bad line why) (Verdict.tells read.0.entries read.0.marks) (inl refl) bad tells in
        absurd (let never : ⊥ = cc in never)
    by b (NetMigratesTo.both first more told tells) = refl

-- a session with an accepted net text is done
session_status : Laws → (options : Options) (bytes : List ℕ) (a : Answer) → BeginsWithNet bytes → SessionComesTo options bytes a → a.status ≡ DONE
session_status laws options bytes a begins (net, rest, parts, inl (line, why, same)) =
    absurd (laws.texts net line begins.system (subst (λ n. Accepted n begins.system) (laws.parts bytes begins.net begins.lines net rest begins.parts parts).0 begins.accepted) why)
session_status laws options bytes a begins (net, rest, parts, inr (system, accepted, (text, served, is))) = ap (λ x. x.status) is

-- what is read is what was left
all_left : (left : Option (List ℕ)) (bytes known : List ℕ) → IfSome left (λ l. bytes ≡ l) → left ≡ Some known → known ≡ bytes
all_left left bytes known all is = sym (subst (λ o. IfSome o (λ l. bytes ≡ l)) is all)

-- a net text that is accepted isn't refused
never_refused : Laws → (left : Option (List ℕ)) (bytes : List ℕ) (a : Answer) → ((known : List ℕ) × (left ≡ Some known) × ((system : System) × Accepted known system)) → IfSome left (λ l. bytes ≡ l) → RefusesNet bytes a → ⊥
never_refused laws left bytes a (known, is, (system, accepted)) all (line, why, same) = laws.texts bytes line system (subst (λ b. Accepted b system) (all_left left bytes known all is) accepted) why

-- nor is the text of a weighted net
never_unweighted : (left : Option (List ℕ)) (bytes : List ℕ) (a : Answer) → ((known : List ℕ) × (left ≡ Some known) × ((net : Weighted) × Spells known net)) → IfSome left (λ l. bytes ≡ l) → RefusesWeighted bytes a → ⊥
never_unweighted left bytes a (known, is, (net, spells)) all refuses = refuses.unspelled net (subst (λ b. Spells b net) (all_left left bytes known all is) spells)

-- a command does what an input that is fine asks for
whole_status : Laws → (c : Command) (left : Option (List ℕ)) (bytes : List ℕ) (a : Answer) → IsWithinLimits c → IsFine c left → IfSome left (λ l. bytes ≡ l) → ComesTo c bytes a → IsDoneBut c a.status
whole_status laws (command.Run options) left bytes a within fine all (inl refuses) = absurd (never_refused laws left bytes a fine all refuses)
whole_status laws (command.Run options) left bytes a within fine all (inr runs) = run_status ⊤ runs.reason a.status runs.status tt
whole_status laws (command.RunLeast options) left bytes a within fine all (inl refuses) = absurd (never_refused laws left bytes a fine all refuses)
whole_status laws (command.RunLeast options) left bytes a within fine all (inr least) = run_status ⊤ least.runs.reason a.status least.runs.status tt
whole_status laws (command.RunSeeded options seed) left bytes a within fine all (inl refuses) = absurd (never_refused laws left bytes a fine all refuses)
whole_status laws (command.RunSeeded options seed) left bytes a within fine all (inr runs) = run_status ⊤ runs.reason a.status runs.status tt
whole_status laws command.Check left bytes a within fine all (inl refuses) = absurd (never_refused laws left bytes a fine all refuses)
whole_status laws command.Check left bytes a within fine all (inr (system, accepted, same)) = inl (ap (λ x. x.status) same)
whole_status laws command.Print left bytes a within fine all (inl refuses) = absurd (never_refused laws left bytes a fine all refuses)
whole_status laws command.Print left bytes a within fine all (inr (plain, system, spells, checked, same)) = inl (ap (λ x. x.status) same)
whole_status laws (command.Enabled depth) left bytes a within fine all (inl refuses) = absurd (never_refused laws left bytes a fine all refuses)
whole_status laws (command.Enabled depth) left bytes a within fine all (inr (system, found, accepted, just, same)) = inl (ap (λ x. x.status) same)
whole_status laws (command.Replay options) left bytes a within (known, is, few, recorded) all comes = inl (replay_status laws options bytes a within (subst (λ b. IsRecorded options b) (all_left left bytes known all is) recorded) comes)
whole_status laws (command.Session options) left bytes a within (known, is, few, begins) all comes = inl (session_status laws options bytes a (subst BeginsWithNet (all_left left bytes known all is) begins) comes)
whole_status laws (command.Counts options) left bytes a within fine all (inl refuses) = absurd (never_refused laws left bytes a fine all refuses)
whole_status laws (command.Counts options) left bytes a within fine all (inr counted) = run_status ⊤ counted.reason a.status counted.status tt
whole_status laws (command.Moves options) left bytes a within (known, is, few, recorded) all comes = inl (moves_status laws options bytes a within (subst (λ b. IsRecorded options b) (all_left left bytes known all is) recorded) comes)
whole_status laws command.Migrate left bytes a within (known, is, few, can) all comes = inl (migrate_status laws bytes a (subst CanMigrate (all_left left bytes known all is) can) comes)
whole_status laws command.Pt left bytes a within fine all (inl refuses) = absurd (never_unweighted left bytes a fine all refuses)
whole_status laws command.Pt left bytes a within fine all (inr translates) = inl (ap (λ x. x.status) translates.is)
whole_status laws (command.Gen copies options) left bytes a within fine all gens = run_status ⊤ gens.reason a.status gens.status tt
whole_status laws (command.GenSeeded copies options seed) left bytes a within fine all gens = run_status ⊤ gens.reason a.status gens.status tt

-- `gen` alone asks for no input
inputless_status : (c : Command) (a : Answer) → longest_input c ≡ None → ComesTo c [] a → IsDoneBut c a.status
inputless_status (command.Gen copies options) a none gens = run_status ⊤ gens.reason a.status gens.status tt
inputless_status (command.GenSeeded copies options seed) a none gens = run_status ⊤ gens.reason a.status gens.status tt
inputless_status (command.Run options) a none comes = absurd cc
inputless_status (command.RunLeast options) a none comes = absurd cc
inputless_status (command.RunSeeded options seed) a none comes = absurd cc
inputless_status (command.Session options) a none comes = absurd cc
inputless_status (command.Counts options) a none comes = absurd cc
inputless_status (command.Moves options) a none comes = absurd cc
inputless_status command.Pt a none comes = absurd cc
inputless_status command.Migrate a none comes = absurd cc
inputless_status command.Check a none comes = absurd cc
inputless_status command.Print a none comes = absurd cc
inputless_status (command.Enabled depth) a none comes = absurd cc
inputless_status (command.Replay options) a none comes = absurd cc

-- an accepted net text isn't too long
fits : (limit : ℕ) (left : Option (List ℕ)) → ((known : List ℕ) × (left ≡ Some known) × ((system : System) × Accepted known system)) → limit ≡ longest_net_text → IsTooLong limit left → ⊥
fits limit left (known, is, (system, accepted)) most long =
    let longer = subst (λ o. IsTooLong limit o) is long in
    let few = accepted.spelled.fits in
    omega (arith, longer, few, most)

-- nor is the text of a weighted net
fits_weighted : (limit : ℕ) (left : Option (List ℕ)) → ((known : List ℕ) × (left ≡ Some known) × ((net : Weighted) × Spells known net)) → limit ≡ longest_net_text → IsTooLong limit left → ⊥
fits_weighted limit left (known, is, (net, spells)) most long =
    let longer = subst (λ o. IsTooLong limit o) is long in
    let few = spells.says.fits in
    omega (arith, longer, few, most)

-- nor is what isn't longer than the longest text
fits_text : (limit : ℕ) (left : Option (List ℕ)) (known : List ℕ) → left ≡ Some known → length known ≤ longest_text → limit ≡ longest_text → IsTooLong limit left → ⊥
fits_text limit left known is few most long =
    let longer = subst (λ o. IsTooLong limit o) is long in
    omega (arith, longer, few, most)

-- so no input that is fine is too long
fine_fits : (c : Command) (limit : ℕ) (left : Option (List ℕ)) → IsFine c left → longest_input c ≡ Some limit → IsTooLong limit left → ⊥
fine_fits (command.Run options) limit left fine most long = let same : limit ≡ longest_net_text = cc in fits limit left fine same long
fine_fits (command.RunLeast options) limit left fine most long = let same : limit ≡ longest_net_text = cc in fits limit left fine same long
fine_fits (command.RunSeeded options seed) limit left fine most long = let same : limit ≡ longest_net_text = cc in fits limit left fine same long
fine_fits command.Check limit left fine most long = let same : limit ≡ longest_net_text = cc in fits limit left fine same long
fine_fits command.Print limit left fine most long = let same : limit ≡ longest_net_text = cc in fits limit left fine same long
fine_fits (command.Enabled depth) limit left fine most long = let same : limit ≡ longest_net_text = cc in fits limit left fine same long
fine_fits (command.Replay options) limit left (known, is, few, recorded) most long = let same : limit ≡ longest_text = cc in fits_text limit left known is few same long
fine_fits (command.Session options) limit left (known, is, few, begins) most long = let same : limit ≡ longest_text = cc in fits_text limit left known is few same long
fine_fits (command.Counts options) limit left fine most long = let same : limit ≡ longest_net_text = cc in fits limit left fine same long
fine_fits (command.Moves options) limit left (known, is, few, recorded) most long = let same : limit ≡ longest_text = cc in fits_text limit left known is few same long
fine_fits command.Migrate limit left (known, is, few, can) most long = let same : limit ≡ longest_text = cc in fits_text limit left known is few same long
fine_fits command.Pt limit left fine most long = let same : limit ≡ longest_net_text = cc in fits_weighted limit left fine same long
fine_fits (command.Gen copies options) limit left fine most long = absurd cc
fine_fits (command.GenSeeded copies options seed) limit left fine most long = absurd cc

-- what accepted words come to on an input that is fine
pub fine_status : Laws → (words : List (List ℕ)) (left left_after : Option (List ℕ)) (c : Command) (a : Answer) → WordsOk words c → IsFine c left → Comes words left left_after a → IsDoneBut c a.status
fine_status laws words left left_after c a accepted fine (Comes.wordless fault faulty same) = absurd (not_faulty laws.words words c fault accepted faulty)
fine_status laws words left left_after c a accepted fine (Comes.longer other limit given is long gives) =
    absurd (fine_fits c limit left fine (subst (λ k. longest_input k ≡ Some limit) (one_command laws.words words other c given accepted) is) long)
fine_status laws words left left_after c a accepted fine (Comes.inputless _ other given none comes same) =
    let one = one_command laws.words words other c given accepted in
    inputless_status c a (subst (λ k. longest_input k ≡ None) one none) (subst (λ k. ComesTo k [] a) one comes)
fine_status laws words left left_after c a accepted fine (Comes.whole _ other limit bytes given is all few comes) =
    whole_status laws c left bytes a (laws.limits words c accepted) fine all.all (subst (λ k. ComesTo k bytes a) (one_command laws.words words other c given accepted) comes)
