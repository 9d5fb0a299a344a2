use Rattle.std.proofs.Common.{◌≡◌, ◌+◌, ◌≤◌, ℕ, List, None, Some, Err, map, string_bytes, length, ap, refl, sym, subst, arith, rules}
use Rattle.rn_outside.specs.Bytes.{GivesAtMost}
use Rattle.rn_answering.specs.Input.{longest_input}
use Rattle.rn_answering.specs.declared.status.TheConstants.{NET_REFUSED}
use Rattle.rn_app.specs.Begun.{NeedsThreads}
use Rattle.rn_app.specs.link.Begun.{IfAnswered, IsPrepared, PreparesOrStops}
use Rattle.rn_app.proofs.WordsAndInput.{few_bytes, no_read, no_read_words, nothing_given, of_command, of_fault, one_command, prepared_refused, prepares, taken_at_most}
use Rattle.rn_app.proofs.WordsAndInput.{unread, unread_refused, wordless}
use Rattle.rn_app.proofs.preparing.prepare.Goals as goal

pub work-requires-clause-few : goal.work-requires-clause-few
work-requires-clause-few g c =
    let same : c.as_slice.result.now ≡ c.in_ok-bytes.bytes.items = search rules in
    subst (λ (bytes : List ℕ). length bytes ≤ 67108864) (sym same)
    (few_bytes c.in_ok-command.command c.in_ok-bytes.bytes.items (longest_input c.in_ok-command.command) refl (λ none. (c.in_ok-bytes.ensures.inputless none).1) (λ limit is. (c.in_ok-bytes.ensures.all limit is).1))

-- where the words give no command
pub returns-in_err-command-clause-comes : goal.returns-in_err-command-clause-comes
returns-in_err-command-clause-comes g c =
    let same : c.from_residual.result ≡ Err c.in_err-command.field-0.0 = search rules in
    subst (PreparesOrStops (map string_bytes c.args.words.now) (g.I.Source.left c.args.input.now) (g.I.Source.left c.args.input.now) (g.I.Source.faults c.args.input.now) (g.I.Source.faults c.args.input.now)) (sym same) (wordless (map string_bytes c.args.words.now) (g.I.Source.left c.args.input.now) (g.I.Source.faults c.args.input.now) c.in_err-command.field-0.0 c.in_err-command.ensures.given c.in_err-command.ensures.refused)

pub returns-in_err-command-clause-refuses_run : goal.returns-in_err-command-clause-refuses_run
returns-in_err-command-clause-refuses_run g c = λ command accepted needs.
    absurd (c.in_err-command.ensures.given command ((c.words_laws.ensures.accepted (map string_bytes c.args.words.now) command).1 accepted))

pub returns-in_err-command-clause-refuses_words : goal.returns-in_err-command-clause-refuses_words
returns-in_err-command-clause-refuses_words g c = λ fault faulty.
    let same : c.from_residual.result ≡ Err c.in_err-command.field-0.0 = search rules in
    (refl, no_read_words (map string_bytes c.args.words.now) c.in_err-command.field-0.0 c.from_residual.result same c.in_err-command.ensures.given c.in_err-command.ensures.refused)

pub returns-in_err-command-clause-limited : goal.returns-in_err-command-clause-limited
returns-in_err-command-clause-limited g c = λ d limit accepted is. (nothing_given (limit + 1) (g.I.Source.left c.args.input.now), omega arith)

pub returns-in_err-command-clause-taken : goal.returns-in_err-command-clause-taken
returns-in_err-command-clause-taken g c = nothing_given _ (g.I.Source.left c.args.input.now)

pub returns-in_err-command-clause-one_fault : goal.returns-in_err-command-clause-one_fault
returns-in_err-command-clause-one_fault g c = λ stopped.
    let same : c.from_residual.result ≡ Err c.in_err-command.field-0.0 = search rules in
    absurd (no_read_words (map string_bytes c.args.words.now) c.in_err-command.field-0.0 c.from_residual.result same c.in_err-command.ensures.given c.in_err-command.ensures.refused stopped)

-- where the input isn't read
pub returns-in_err-bytes-clause-comes : goal.returns-in_err-bytes-clause-comes
returns-in_err-bytes-clause-comes g c =
    let same : c.from_residual-in_err-bytes.result ≡ Err c.in_err-bytes.field-0.0 = search rules in
    subst (PreparesOrStops (map string_bytes c.args.words.now) (g.I.Source.left c.args.input.now) (g.I.Source.left c.input_of.new.input) (g.I.Source.faults c.args.input.now) (g.I.Source.faults c.input_of.new.input)) (sym same)
    (unread (map string_bytes c.args.words.now) (g.I.Source.left c.args.input.now) (g.I.Source.left c.input_of.new.input) (g.I.Source.faults c.args.input.now) (g.I.Source.faults c.input_of.new.input) c.in_ok-command.command (longest_input c.in_ok-command.command) c.in_err-bytes.field-0.0 refl c.in_ok-command.ensures.accepted
    (λ none. (c.in_err-bytes.ensures.inputless none).1) c.in_err-bytes.ensures.stopped (λ limit is. (c.input_of.ensures.limited limit is).0))

pub returns-in_err-bytes-clause-refuses_run : goal.returns-in_err-bytes-clause-refuses_run
returns-in_err-bytes-clause-refuses_run g c = λ command accepted needs.
    let same : c.from_residual-in_err-bytes.result ≡ Err c.in_err-bytes.field-0.0 = search rules in
    subst (λ r. IfAnswered r (λ a. a.status ≡ NET_REFUSED)) (sym same)
    (unread_refused (g.I.Source.left c.args.input.now) (g.I.Source.faults c.args.input.now) (g.I.Source.faults c.input_of.new.input) c.in_ok-command.command (longest_input c.in_ok-command.command) c.in_err-bytes.field-0.0 refl
    (λ none. (c.in_err-bytes.ensures.inputless none).1) c.in_err-bytes.ensures.stopped)

pub returns-in_err-bytes-clause-refuses_words : goal.returns-in_err-bytes-clause-refuses_words
returns-in_err-bytes-clause-refuses_words g c =
    of_fault _ c.words_laws.ensures.accepted (map string_bytes c.args.words.now) c.in_ok-command.command c.in_ok-command.ensures.accepted

pub returns-in_err-bytes-clause-inputless : goal.returns-in_err-bytes-clause-inputless
returns-in_err-bytes-clause-inputless g c =
    of_command (λ d. longest_input d ≡ None → c.input_of.new.input ≡ c.args.input.now) c.words_laws.ensures.accepted (map string_bytes c.args.words.now) c.in_ok-command.command c.in_ok-command.ensures.accepted (λ none. (c.input_of.ensures.inputless none).0)

pub returns-in_err-bytes-clause-limited : goal.returns-in_err-bytes-clause-limited
returns-in_err-bytes-clause-limited g c = λ d limit accepted.
    of_command (λ k. longest_input k ≡ Some limit → GivesAtMost (limit + 1) (g.I.Source.left c.args.input.now) (g.I.Source.left c.input_of.new.input) × (g.I.Source.reads c.input_of.new.input ≤ g.I.Source.reads c.args.input.now + (limit + 1))) c.words_laws.ensures.accepted (map string_bytes c.args.words.now) c.in_ok-command.command c.in_ok-command.ensures.accepted (c.input_of.ensures.limited limit) d accepted

pub returns-in_err-bytes-clause-taken : goal.returns-in_err-bytes-clause-taken
returns-in_err-bytes-clause-taken g c =
    (taken_at_most c.in_ok-command.command (g.I.Source.left c.args.input.now) (g.I.Source.left c.input_of.new.input) (g.I.Source.reads c.args.input.now) (g.I.Source.reads c.input_of.new.input) (longest_input c.in_ok-command.command) refl
    (λ none. (ap (λ input. g.I.Source.left input) (c.input_of.ensures.inputless none).0, ap (λ input. g.I.Source.reads input) (c.input_of.ensures.inputless none).0)) c.input_of.ensures.limited).0

pub returns-in_err-bytes-clause-reads : goal.returns-in_err-bytes-clause-reads
returns-in_err-bytes-clause-reads g c =
    (taken_at_most c.in_ok-command.command (g.I.Source.left c.args.input.now) (g.I.Source.left c.input_of.new.input) (g.I.Source.reads c.args.input.now) (g.I.Source.reads c.input_of.new.input) (longest_input c.in_ok-command.command) refl
    (λ none. (ap (λ input. g.I.Source.left input) (c.input_of.ensures.inputless none).0, ap (λ input. g.I.Source.reads input) (c.input_of.ensures.inputless none).0)) c.input_of.ensures.limited).1

-- where the command is done
pub returns-clause-comes : goal.returns-clause-comes
returns-clause-comes g c =
    let same : c.as_slice.result.now ≡ c.in_ok-bytes.bytes.items = search rules in
    prepares (map string_bytes c.args.words.now) (g.I.Source.left c.args.input.now) (g.I.Source.left c.input_of.new.input) (g.I.Source.faults c.args.input.now) (g.I.Source.faults c.input_of.new.input) c.in_ok-command.command c.in_ok-bytes.bytes.items c.work.result c.in_ok-command.ensures.accepted
    (λ none. (ap (λ input. g.I.Source.left input) (c.input_of.ensures.inputless none).0, (c.in_ok-bytes.ensures.inputless none).1)) c.in_ok-bytes.ensures.all
    (subst (λ (bytes : List ℕ). IsPrepared c.in_ok-command.command bytes c.work.result) same c.work.ensures)

pub returns-clause-refuses_run : goal.returns-clause-refuses_run
returns-clause-refuses_run g c = λ command accepted needs.
    let one = one_command c.words_laws.ensures.accepted (map string_bytes c.args.words.now) command c.in_ok-command.command accepted c.in_ok-command.ensures.accepted in
    prepared_refused c.in_ok-command.command c.as_slice.result.now c.work.result (subst NeedsThreads one needs) c.work.ensures

pub returns-clause-refuses_words : goal.returns-clause-refuses_words
returns-clause-refuses_words g c =
    of_fault _ c.words_laws.ensures.accepted (map string_bytes c.args.words.now) c.in_ok-command.command c.in_ok-command.ensures.accepted

pub returns-clause-inputless : goal.returns-clause-inputless
returns-clause-inputless g c =
    of_command (λ d. longest_input d ≡ None → c.input_of.new.input ≡ c.args.input.now) c.words_laws.ensures.accepted (map string_bytes c.args.words.now) c.in_ok-command.command c.in_ok-command.ensures.accepted (λ none. (c.input_of.ensures.inputless none).0)

pub returns-clause-limited : goal.returns-clause-limited
returns-clause-limited g c = λ d limit accepted.
    of_command (λ k. longest_input k ≡ Some limit → GivesAtMost (limit + 1) (g.I.Source.left c.args.input.now) (g.I.Source.left c.input_of.new.input) × (g.I.Source.reads c.input_of.new.input ≤ g.I.Source.reads c.args.input.now + (limit + 1))) c.words_laws.ensures.accepted (map string_bytes c.args.words.now) c.in_ok-command.command c.in_ok-command.ensures.accepted (c.input_of.ensures.limited limit) d accepted

pub returns-clause-taken : goal.returns-clause-taken
returns-clause-taken g c =
    (taken_at_most c.in_ok-command.command (g.I.Source.left c.args.input.now) (g.I.Source.left c.input_of.new.input) (g.I.Source.reads c.args.input.now) (g.I.Source.reads c.input_of.new.input) (longest_input c.in_ok-command.command) refl
    (λ none. (ap (λ input. g.I.Source.left input) (c.input_of.ensures.inputless none).0, ap (λ input. g.I.Source.reads input) (c.input_of.ensures.inputless none).0)) c.input_of.ensures.limited).0

pub returns-clause-reads : goal.returns-clause-reads
returns-clause-reads g c =
    (taken_at_most c.in_ok-command.command (g.I.Source.left c.args.input.now) (g.I.Source.left c.input_of.new.input) (g.I.Source.reads c.args.input.now) (g.I.Source.reads c.input_of.new.input) (longest_input c.in_ok-command.command) refl
    (λ none. (ap (λ input. g.I.Source.left input) (c.input_of.ensures.inputless none).0, ap (λ input. g.I.Source.reads input) (c.input_of.ensures.inputless none).0)) c.input_of.ensures.limited).1

pub returns-clause-one_fault : goal.returns-clause-one_fault
returns-clause-one_fault g c = λ stopped. absurd (no_read c.in_ok-command.command c.as_slice.result.now c.work.result c.work.ensures stopped)
