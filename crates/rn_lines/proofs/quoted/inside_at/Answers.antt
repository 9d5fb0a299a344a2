use Rattle.std.proofs.Common.{sym, ◌∙◌, rules}
use Rattle.rn_lines.specs.Reading.{inside_at}
use Rattle.rn_lines.proofs.Inside.{plain_on, escape_on}
use Rattle.rn_lines.proofs.quoted.inside_at.Goals as goal

pub loop-byte-preserved-then-byte-eq92 : goal.loop-byte-preserved-then-byte-eq92
loop-byte-preserved-then-byte-eq92 c =
    escape_on c.loop-byte.meant.items c.push.new.self.items c.loop-byte.rest.now c.in-Some.others.now c.in-Some-split_first.after.now c.in-Some.byte.now c.in-Some-split_first.escaped.now c.in-Some-meaning.byte (inside_at c.args.bytes.now)
    c.in-Some.ensures.cases.0 c.in-Some-split_first.ensures.cases.0 (search rules) (search rules) (sym c.meaning.ensures ∙ c.in-Some-meaning.is) c.in_ok-push.ensures.items c.loop-byte.invariant

pub loop-byte-preserved : goal.loop-byte-preserved
loop-byte-preserved c =
    plain_on c.loop-byte.meant.items c.push-else-byte-eq92.new.self.items c.loop-byte.rest.now c.in-Some.others.now c.in-Some.byte.now (inside_at c.args.bytes.now)
    c.in-Some.ensures.cases.0 (search rules) (search rules) (search rules) c.in_ok-push-2.ensures.items c.loop-byte.invariant
