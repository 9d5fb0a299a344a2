-- The lines of numbers of bindings, and what a least run that is counted comes to.
use Rattle.std.proofs.Common.{◌≡◌, ◌∙◌, ◌+◌, ◌*◌, ◌/◌, ◌%◌, ◌^◌, ◌<◌, ◌++◌, ℕ, suc, List, [], ◌∷◌, length, drop, get_or, add-one, drop-cons, sym, ap, subst, arith}
use Rattle.std.specs.Prelude.{Some}
use Rattle.std.specs.Fmt.{decimal}
use Rattle.std.proofs.lemmas.Fmt.{decimal_by_steps_wide}
use Rattle.rn_value.specs.Text.{numeral}
use Rattle.rn_value.proofs.Numerals.{numeral_digit, numeral_more}
use Rattle.rn_model.specs.declared.system.System.{System}
use Rattle.rn_model.specs.declared.log.Options.{Options}
use Rattle.rn_least.specs.LeastRuns.{LeastLog}
use Rattle.rn_fire.specs.States.{State}
use Rattle.rn_incr.specs.Counts.{IsCounted}
use Rattle.rn_answering.specs.declared.answer.Answer.{Answer}
use Rattle.rn_answering.specs.NetTexts.{Accepted}
use Rattle.rn_commands.specs.Counting.{CountsTo, count_line, count_lines}
use Rattle.rn_commands.specs.link.Counting.{IsCountedBy}
use Rattle.rn_commands.specs.Ends.{end_message, end_status}

-- what is written of a number of 128 bits
pub decimal_wide : (n : ℕ) → n < 10 ^ 64 → decimal n ≡ numeral n
decimal_wide n small = decimal_by_steps_wide (λ m ds. ds ≡ numeral m)
    (λ m low. sym (numeral_digit m low))
    (λ m ds high is.
    ap (λ x. x ++ (48 + m % 10) ∷ []) is
    ∙ sym (numeral_more (m / 10) (m % 10) (omega arith) (omega arith))
    ∙ ap numeral (let same : m / 10 * 10 + m % 10 ≡ m = omega arith in same))
    n small

-- the lines of the numbers from one on begin with its own
pub count_lines_from : (counts : List ℕ) (i n : ℕ) → i < length counts → get_or counts i n ≡ n →
    count_lines i (drop i counts)
    ≡ count_line i n ++ count_lines (i + 1) (drop (i + 1) counts)
count_lines_from counts i n within at =
    ap (count_lines i) (drop-cons counts i n within ∙ ap (λ x. x ∷ drop (suc i) counts) at)
    ∙ ap (λ j. count_line i n ++ count_lines j (drop j counts)) (sym (add-one i))

-- a state that is counted, and what is written of it
pub counts_to : (system : System) (options : Options) (s : State) (counts : List ℕ) (a : Answer)
    (bytes : List ℕ) → Accepted bytes system → IsCounted system options s counts →
    IsCountedBy s counts a → CountsTo options bytes a
counts_to system options s counts a bytes accepted is ((reason, ended, text), closed) =
    let both : Some closed.0 ≡ Some reason = sym closed.1 ∙ ended in
    let same : closed.0 ≡ reason = cc in
    record {
      reason = reason;
      counts = record {
        system = system;
        accepted = accepted;
        firings = s.fired;
        log = subst (λ e. LeastLog system options s.fired e) ended is.log;
        memory = λ wants. is.reason (ended ∙ ap Some wants);
        counts = counts;
        counted = is.counts;
        lines = text;
      };
      status = closed.3 ∙ ap end_status same;
      line = closed.4 ∙ ap (λ r. end_message r (suc (length s.fired))) same;
    }
