-- One line more.
use Rattle.std.proofs.Common.{subst, refl}
use Rattle.rn_session.specs.link.Serving.{IsAnswered}
use Rattle.rn_session.proofs.AnsweredLines.{no_line, one_line}
use Rattle.rn_session.proofs.serving.answer_all.Goals as goal

pub loop-line-init : goal.loop-line-init
loop-line-init c = record { named = c.requires; so = λ text served. (text, served, refl) }

pub loop-line-preserved : goal.loop-line-preserved
loop-line-preserved c =
    let s = c.loop-line.session in
    let t = c.answer.new.session in
    let out = c.loop-line.out.items in
    let more = c.answer.new.out.items in
    record {
      named = c.in_ok-answer.ensures.names;
      so = one_line c.args.session.now s t c.args.lines.now c.loop-line.rest.now c.in-Some.after.now
          c.in-Some.line.now c.args.out.now.items out more c.loop-line.invariant.so c.in-Some.ensures.some
          (subst (λ asked. IsAnswered s asked out t more) c.request_of.ensures c.in_ok-answer.ensures.text);
    }

pub returns : goal.returns
returns c =
    no_line c.args.session.now c.loop-line.session c.args.lines.now c.loop-line.rest.now c.args.out.now.items
    c.loop-line.out.items c.loop-line.invariant.so c.in_default.ensures.none
