use Rattle.std.proofs.Common.{arith}
use Rattle.rn_finder.proofs.IdleSets.{idle_more, none_then, none_with}
use Rattle.rn_finder.proofs.finding.Finding.find_between.Goals as goal

pub returns-then-number-numbers-clause-none : goal.returns-then-number-numbers-clause-none
returns-then-number-numbers-clause-none g c k least below there =
    let its = rw c.in-Some.is at c.next_start.ensures.some in
    none_then c.args.marked.system.now c.args.marked.uplinks.now c.args.marked.table.now
    c.args.marked.depth c.requires.searched c.args.numbers.from c.loop-number.next c.in-Some.number
    c.loop-number.invariant.none its.1 k least (omega arith) there

pub loop-number-preserved : goal.loop-number-preserved
loop-number-preserved g c =
    let system = c.args.marked.system.now in
    let uplinks = c.args.marked.uplinks.now in
    let table = c.args.marked.table.now in
    let depth = c.args.marked.depth in
    let its = rw c.in-Some.is at c.next_start.ensures.some in
    let vain = rw c.in_default-found.is at c.in_ok-found.ensures.none in
    record {
      none = none_with system uplinks table depth c.requires.searched c.args.numbers.from c.in-Some.number
          (none_then system uplinks table depth c.requires.searched c.args.numbers.from c.loop-number.next
          c.in-Some.number c.loop-number.invariant.none its.1)
          vain;
      idle = idle_more system uplinks table depth c.requires.searched c.in-Some.number
          c.next_start.new.idle c.add.new.self c.add.ensures c.next_start.ensures.idle vain;
    }

pub loop-number-smaller : goal.loop-number-smaller
loop-number-smaller g c =
    let its = rw c.in-Some.is at c.next_start.ensures.some in
    let later = its.0 in
    omega (arith, later)

pub returns-clause-none : goal.returns-clause-none
returns-clause-none g c k least below there =
    let none = rw c.in_default.is at c.next_start.ensures.none in
    none_then c.args.marked.system.now c.args.marked.uplinks.now c.args.marked.table.now
    c.args.marked.depth c.requires.searched c.args.numbers.from c.loop-number.next c.args.numbers.end
    c.loop-number.invariant.none (λ j low high known. none j low known) k least below there
