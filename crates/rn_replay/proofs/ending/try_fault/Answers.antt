-- What comes of the binding's firing.
use Rattle.std.proofs.Common.{◌<◌, length, sym, ap, ◌∙◌, subst, arith}
use Rattle.std.specs.Prelude.{Ok}
use Rattle.rn_replay.specs.link.Parts.{FiresNow, cause_of, last_of}
use Rattle.rn_replay.proofs.Endings.{tries_fault, tries_firing, tries_other}
use Rattle.rn_replay.proofs.ending.try_fault.Goals as goal

pub returns-then-fired : goal.returns-then-fired
returns-then-fired c =
    let s = c.args.state.now in
    let t = c.fire_now.new.state in
    tries_firing s c.args.cause c.args.binding.now c.in-Ok.candidate c.in-Ok.ensures 1 t
    (subst (λ x. FiresNow s 1 c.in-Ok.candidate (Ok x) t) c.if-fired.true c.in_ok-fired.ensures)

pub returns-then-not-same : goal.returns-then-not-same
returns-then-not-same c =
    let s = c.args.state.now in
    let t = c.fire_now.new.state in
    tries_other s c.args.cause c.args.binding.now c.in-Ok.candidate c.in-Ok.ensures 1 t
    (subst (λ x. FiresNow s 1 c.in-Ok.candidate (Ok x) t) c.if-fired.false c.in_ok-fired.ensures)
    (λ is.
    let same = c.has_cause-same.ensures.1 (ap (λ x. cause_of (last_of x)) c.entries.ensures.entries ∙ is) in
    let other = c.if-not-same.true in
    let never : ⊥ = cc in never)

pub returns : goal.returns
returns c =
    let s = c.args.state.now in
    let t = c.fire_now.new.state in
    let steps = ap (λ o. o.steps) c.requires.options in
    let count = c.next_number-number.ensures.number in
    let below : length s.fired < s.setup.options.steps = omega arith in
    tries_fault s c.args.cause c.args.binding.now c.in-Ok.candidate c.in-Ok.ensures 1 t
    (subst (λ x. FiresNow s 1 c.in-Ok.candidate (Ok x) t) c.if-fired.false c.in_ok-fired.ensures)
    (ap (λ x. cause_of (last_of x)) (sym c.entries.ensures.entries) ∙ c.has_cause-same.ensures.0 c.if-not-same.false)
    below
