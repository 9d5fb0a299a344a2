use Rattle.std.proofs.Common.{◌≡◌, ◌+◌, ◌∙◌, suc, string_bytes, sym, arith, Ok, rules}
use Rattle.rn_words.specs.Reading.{after_word}
use Rattle.rn_words.proofs.ReadingLemmas.{one_more}
use Rattle.rn_words.proofs.options.read_options.Goals as goal

pub loop-i-preserved : goal.loop-i-preserved
loop-i-preserved c =
    let at = c.args.first + c.loop-i.i in
    let state = c.loop-i.state in
    let word = c.index-words-i.result in
    let is : after_word c.args.verb at (string_bytes word) state.chosen state.awaits
    ≡ Ok c.in_ok-state.state = search rules in
    let next : c.args.first + (c.loop-i.i + 1) ≡ suc at = omega arith in
    sym (one_more string_bytes c.args.verb at (c.args.first + (c.loop-i.i + 1)) c.args.words.now
    c.loop-i.i word state.chosen state.awaits c.in_ok-state.state c.loop-i-test.true
    c.index-words-i.is is next)
    ∙ c.loop-i.invariant
