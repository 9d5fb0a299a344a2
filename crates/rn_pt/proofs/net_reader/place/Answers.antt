use Rattle.std.proofs.Common.{arith}
use Rattle.rn_notation.specs.declared.sign.TheConstants as sign
use Rattle.rn_notation.specs.declared.word.TheConstants as word
use Rattle.rn_reading.specs.link.Stages.{done}
use Rattle.rn_reading.proofs.Sorts.{word_of, a_name}
use Rattle.rn_reading.proofs.Uncounted.{started, goes, stops, reads, fails, so_fails}
use Rattle.rn_pt.specs.Grammar.{IsPtPlace, place_of}
use Rattle.rn_pt.proofs.Phrases.{place, place_name, place_end, number_up_to}
use Rattle.rn_pt.proofs.net_reader.place.Goals as goal

pub returns-in_err-after_word-clause-reads : goal.returns-in_err-after_word-clause-reads
returns-in_err-after_word-clause-reads c = so_fails IsPtPlace c.args.tokens.now c.args.at c.from_residual.result c.in_err-after_word.field-0.0 c.from_residual.ensures.1
    (stops (word_of word.PLACE) (λ s. place_name) c.args.tokens.now c.args.at c.in_err-after_word.field-0.0 (started place c.args.tokens.now c.args.at) c.requires c.in_err-after_word.ensures)

pub returns-in_err-name-clause-reads : goal.returns-in_err-name-clause-reads
returns-in_err-name-clause-reads c = so_fails IsPtPlace c.args.tokens.now c.args.at c.from_residual-in_err-name.result c.in_err-name.field-0.0 c.from_residual-in_err-name.ensures.1
    (stops a_name place_end c.args.tokens.now c.in_ok-after_word.after_word c.in_err-name.field-0.0 (goes (word_of word.PLACE) (λ s. place_name) c.args.tokens.now c.args.at c.in_ok-after_word.after_word (started place c.args.tokens.now c.args.at) c.in_ok-after_word.ensures) (omega (arith, c.in_ok-after_word.ensures.1, c.in_ok-after_word.ensures.0.1.1)) c.in_err-name.ensures)

pub returns-in_err-initial-clause-reads : goal.returns-in_err-initial-clause-reads
returns-in_err-initial-clause-reads c = so_fails IsPtPlace c.args.tokens.now c.args.at c.from_residual-in_err-initial.result c.in_err-initial.field-0.0 c.from_residual-in_err-initial.ensures.1
    (fails (number_up_to sign.EQUALS) (λ initial. done (place_of c.in_ok-name.name initial)) c.args.tokens.now c.in_ok-name.after_name c.in_err-initial.field-0.0 (goes a_name place_end c.args.tokens.now c.in_ok-after_word.after_word c.in_ok-name.after_name (goes (word_of word.PLACE) (λ s. place_name) c.args.tokens.now c.args.at c.in_ok-after_word.after_word (started place c.args.tokens.now c.args.at) c.in_ok-after_word.ensures) c.in_ok-name.ensures) c.in_err-initial.ensures.reads)

pub returns-clause-reads : goal.returns-clause-reads
returns-clause-reads c = reads (number_up_to sign.EQUALS) (λ initial. done (place_of c.in_ok-name.name initial)) c.args.tokens.now c.in_ok-name.after_name c.in_ok-initial.end (goes a_name place_end c.args.tokens.now c.in_ok-after_word.after_word c.in_ok-name.after_name (goes (word_of word.PLACE) (λ s. place_name) c.args.tokens.now c.args.at c.in_ok-after_word.after_word (started place c.args.tokens.now c.args.at) c.in_ok-after_word.ensures) c.in_ok-name.ensures) c.in_ok-initial.ensures.reads
