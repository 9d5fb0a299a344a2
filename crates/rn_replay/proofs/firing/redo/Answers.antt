-- What comes of an enabled binding, and what it prints.
use Rattle.std.proofs.Common.{◌≤◌, sym, ap, ◌∙◌, subst, arith}
use Rattle.std.specs.Prelude.{Ok}
use Rattle.rn_model.specs.Runs.{Firing}
use Rattle.rn_replay.specs.link.Parts.{FiresNow, last_of, outs_of}
use Rattle.rn_replay.proofs.Refusals.{redone, refused_prints}
use Rattle.rn_replay.proofs.firing.redo.Goals as goal

pub returns-then-not-same : goal.returns-then-not-same
returns-then-not-same c =
    let s = c.args.state.now in
    let t = c.fire_now.new.state in
    let f : Firing = record { worker = c.args.worker; binding = c.args.binding.now; outs = c.args.outs.now } in
    let steps = ap (λ o. o.steps) c.requires.options in
    let within : c.next_number-number.result ≤ s.setup.options.steps = omega arith in
    refused_prints s c.next_number-number.ensures.state c.requires.going c.next_number-number.result
    c.next_number-number.ensures.number f within c.in-Ok.candidate c.in-Ok.ensures t
    (subst (λ x. FiresNow s c.args.worker c.in-Ok.candidate (Ok x) t) c.if-not-fired.false c.in_ok-fired.ensures)
    (λ is.
    let same = c.has_printed-same.ensures.1 (ap (λ x. outs_of (last_of x)) c.entries.ensures.entries ∙ is) in
    let other = c.if-not-same.true in
    let never : ⊥ = cc in never)

pub returns : goal.returns
returns c =
    let s = c.args.state.now in
    let t = c.fire_now.new.state in
    let f : Firing = record { worker = c.args.worker; binding = c.args.binding.now; outs = c.args.outs.now } in
    let steps = ap (λ o. o.steps) c.requires.options in
    let within : c.next_number-number.result ≤ s.setup.options.steps = omega arith in
    redone s c.next_number-number.ensures.state c.requires.going c.next_number-number.result
    c.next_number-number.ensures.number f within c.in-Ok.candidate c.in-Ok.ensures t
    (subst (λ x. FiresNow s c.args.worker c.in-Ok.candidate (Ok x) t) c.if-not-fired.false c.in_ok-fired.ensures)
    (ap (λ x. outs_of (last_of x)) (sym c.entries.ensures.entries) ∙ c.has_printed-same.ensures.0 c.if-not-same.false) tt
