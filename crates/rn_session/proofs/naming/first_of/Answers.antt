-- One name more.
use Rattle.std.proofs.Common.{◌<◌, length, sym, ap, ◌∙◌, arith}
use Rattle.std.specs.Option.{option_copied}
use Rattle.rn_session.proofs.TakenNames.{is_named, taken_more}
use Rattle.rn_session.proofs.naming.first_of.Goals.{in-Some+in_ok-push, in_default}
use Rattle.rn_session.proofs.naming.first_of.Goals as goal

pub loop-k-preserved : goal.loop-k-preserved
loop-k-preserved c =
    let names = c.args.names.now in
    let k = c.loop-k.k in
    let low = c.loop-k-test.true in
    let few = c.requires in
    let within : k < length names = omega (arith, low, few) in
    elim c.match-get.branch [
      | in-Some+in_ok-push w ↦
          w.copied-is
          ∙ taken_more names c.loop-k.copied w.push.new.self k w.in-Some.name.now within
          (sym (ap option_copied w.in-Some.is) ∙ c.get.ensures) w.in_ok-push.ensures.ok c.loop-k.invariant
      | in_default w ↦ absurd (is_named names k within (sym (ap option_copied w.in_default.is) ∙ c.get.ensures))
    ]
