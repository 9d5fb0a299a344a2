use Rattle.std.proofs.Common.{◌∙◌, ◌+◌, sym, subst, arith}
use Rattle.rn_finder.specs.Idle.{AreIdle}
use Rattle.rn_finder.proofs.IdleSets.{idle_before, none_before_other}
use Rattle.rn_finder.proofs.StartingBindings.{next_is_later, none_further, none_up_to}
use Rattle.rn_finder.proofs.finding.next_start.Goals as goal

pub returns-then-other-start-clause-some : goal.returns-then-other-start-clause-some
returns-then-other-start-clause-some c =
    let system = c.args.marked.system.now in
    let uplinks = c.args.marked.uplinks.now in
    let table = c.args.marked.table.now in
    let depth = c.args.marked.depth in
    let first = sym c.first_starting.ensures ∙ c.in-Some.is in
    let later = next_is_later system uplinks table depth c.requires.searched c.loop-start.next
    c.in-Some.start first in (
      (let least = c.loop-start.invariant.least in omega (arith, least, later)),
      none_up_to system uplinks table depth c.requires.searched c.args.from c.loop-start.next
          c.in-Some.start c.in-Some.start first (omega arith) c.loop-start.invariant.none,
    )

pub returns-then-other-start-clause-idle : goal.returns-then-other-start-clause-idle
returns-then-other-start-clause-idle c =
    idle_before c.args.marked.system.now c.args.marked.uplinks.now c.args.marked.table.now
    c.args.marked.depth c.requires.searched c.loop-start.next c.in-Some.start c.loop-start.idle
    c.add_unless.new.self (sym c.first_starting.ensures ∙ c.in-Some.is) c.add_unless.ensures
    c.loop-start.invariant.idle

pub loop-start-preserved : goal.loop-start-preserved
loop-start-preserved c =
    let system = c.args.marked.system.now in
    let uplinks = c.args.marked.uplinks.now in
    let table = c.args.marked.table.now in
    let depth = c.args.marked.depth in
    let first = sym c.first_starting.ensures ∙ c.in-Some.is in
    let later = next_is_later system uplinks table depth c.requires.searched c.loop-start.next
    c.in-Some.start first in
    let idle = idle_before system uplinks table depth c.requires.searched c.loop-start.next
    c.in-Some.start c.loop-start.idle c.add_unless.new.self first c.add_unless.ensures
    c.loop-start.invariant.idle in
    record {
      least = (let least = c.loop-start.invariant.least in
          let past = c.first_other-other.ensures.later in omega (arith, least, later, past));
      none = none_before_other system uplinks table depth c.requires.searched c.args.from
          c.loop-start.next c.in-Some.start c.first_other-other.result c.add_unless.new.self first
          idle c.first_other-other.ensures.passed c.loop-start.invariant.none;
      idle = subst (AreIdle system table.marking depth) (sym c.pass.ensures) idle;
    }

pub loop-start-smaller : goal.loop-start-smaller
loop-start-smaller c =
    let later = next_is_later c.args.marked.system.now c.args.marked.uplinks.now
    c.args.marked.table.now c.args.marked.depth c.requires.searched c.loop-start.next
    c.in-Some.start (sym c.first_starting.ensures ∙ c.in-Some.is) in
    let past = c.first_other-other.ensures.later in
    omega (arith, later, past)

pub returns-clause-none : goal.returns-clause-none
returns-clause-none c number least there =
    none_further c.args.marked.system.now c.args.marked.uplinks.now c.args.marked.table.now
    c.args.marked.depth c.requires.searched c.args.from c.loop-start.next (number + 1)
    (sym c.first_starting.ensures ∙ c.in_default.is) c.loop-start.invariant.none number least
    (omega arith) there
