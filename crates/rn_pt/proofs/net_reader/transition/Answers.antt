use Rattle.std.proofs.Common.{arith}
use Rattle.rn_notation.specs.declared.word.TheConstants as word
use Rattle.rn_reading.specs.link.Stages.{done}
use Rattle.rn_reading.proofs.Sorts.{word_of, a_name}
use Rattle.rn_reading.proofs.Uncounted.{started, goes, stops, reads, fails, so_fails}
use Rattle.rn_pt.specs.Grammar.{IsPtTransition, transition_of}
use Rattle.rn_pt.proofs.Phrases.{open_brace, arcs_up_to, transition, transition_name, transition_open, transition_end}
use Rattle.rn_pt.proofs.net_reader.transition.Goals as goal

pub returns-in_err-after_word-clause-reads : goal.returns-in_err-after_word-clause-reads
returns-in_err-after_word-clause-reads c = so_fails IsPtTransition c.args.tokens.now c.args.at c.from_residual.result c.in_err-after_word.field-0.0 c.from_residual.ensures.1
    (stops (word_of word.TRANS) (λ s. transition_name) c.args.tokens.now c.args.at c.in_err-after_word.field-0.0 (started transition c.args.tokens.now c.args.at) c.requires c.in_err-after_word.ensures)

pub returns-in_err-name-clause-reads : goal.returns-in_err-name-clause-reads
returns-in_err-name-clause-reads c = so_fails IsPtTransition c.args.tokens.now c.args.at c.from_residual-in_err-name.result c.in_err-name.field-0.0 c.from_residual-in_err-name.ensures.1
    (stops a_name transition_open c.args.tokens.now c.in_ok-after_word.after_word c.in_err-name.field-0.0 (goes (word_of word.TRANS) (λ s. transition_name) c.args.tokens.now c.args.at c.in_ok-after_word.after_word (started transition c.args.tokens.now c.args.at) c.in_ok-after_word.ensures) (omega (arith, c.in_ok-after_word.ensures.1, c.in_ok-after_word.ensures.0.1.1)) c.in_err-name.ensures)

pub returns-in_err-inside-clause-reads : goal.returns-in_err-inside-clause-reads
returns-in_err-inside-clause-reads c = so_fails IsPtTransition c.args.tokens.now c.args.at c.from_residual-in_err-inside.result c.in_err-inside.field-0.0 c.from_residual-in_err-inside.ensures.1
    (stops open_brace (λ s. transition_end c.in_ok-name.name) c.args.tokens.now c.in_ok-name.after_name c.in_err-inside.field-0.0 (goes a_name transition_open c.args.tokens.now c.in_ok-after_word.after_word c.in_ok-name.after_name (goes (word_of word.TRANS) (λ s. transition_name) c.args.tokens.now c.args.at c.in_ok-after_word.after_word (started transition c.args.tokens.now c.args.at) c.in_ok-after_word.ensures) c.in_ok-name.ensures) (omega (arith, c.in_ok-name.ensures.1, c.in_ok-name.ensures.0.1.1)) c.in_err-inside.ensures)

pub returns-in_err-arcs-clause-reads : goal.returns-in_err-arcs-clause-reads
returns-in_err-arcs-clause-reads c = so_fails IsPtTransition c.args.tokens.now c.args.at c.from_residual-in_err-arcs.result c.in_err-arcs.field-0.0 c.from_residual-in_err-arcs.ensures.1
    (fails arcs_up_to (λ arcs. done (transition_of c.in_ok-name.name arcs)) c.args.tokens.now c.in_ok-inside.inside c.in_err-arcs.field-0.0 (goes open_brace (λ s. transition_end c.in_ok-name.name) c.args.tokens.now c.in_ok-name.after_name c.in_ok-inside.inside (goes a_name transition_open c.args.tokens.now c.in_ok-after_word.after_word c.in_ok-name.after_name (goes (word_of word.TRANS) (λ s. transition_name) c.args.tokens.now c.args.at c.in_ok-after_word.after_word (started transition c.args.tokens.now c.args.at) c.in_ok-after_word.ensures) c.in_ok-name.ensures) c.in_ok-inside.ensures) c.in_err-arcs.ensures.reads)

pub returns-clause-reads : goal.returns-clause-reads
returns-clause-reads c = reads arcs_up_to (λ arcs. done (transition_of c.in_ok-name.name arcs)) c.args.tokens.now c.in_ok-inside.inside c.in_ok-arcs.end (goes open_brace (λ s. transition_end c.in_ok-name.name) c.args.tokens.now c.in_ok-name.after_name c.in_ok-inside.inside (goes a_name transition_open c.args.tokens.now c.in_ok-after_word.after_word c.in_ok-name.after_name (goes (word_of word.TRANS) (λ s. transition_name) c.args.tokens.now c.args.at c.in_ok-after_word.after_word (started transition c.args.tokens.now c.args.at) c.in_ok-after_word.ensures) c.in_ok-name.ensures) c.in_ok-inside.ensures) c.in_ok-arcs.ensures.reads
