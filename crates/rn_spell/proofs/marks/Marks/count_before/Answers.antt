use Rattle.std.proofs.Common.{◌+◌, ◌%◌, ◌-◌, ◌∙◌, ap, arith}
use Rattle.rn_spell.proofs.MadeCounts.{made_between_most, made_before_most, read_mark}
use Rattle.rn_spell.proofs.marks.Marks.count_before.Goals as goal

pub count_made-requires : goal.count_made-requires
count_made-requires c =
    let place = c.args.place in
    let from = place - place % c.args.self.now.step in
    omega (arith, made_between_most c.args.system.now c.args.nodes.now from place (omega arith), c.requires.few)

pub count_made-requires-in-None : goal.count_made-requires-in-None
count_made-requires-in-None c = omega (arith, made_before_most c.args.system.now c.args.nodes.now c.args.place, c.requires.few)

pub overflow_add-result : goal.overflow_add-result
overflow_add-result c =
    let found = c.in-Some.ensures.lookup in
    let all = read_mark c.args.system.now c.args.nodes.now c.args.self.now.step c.args.place c.args.self.now.counts c.in-Some.count.now
    c.requires.marks found.3.0 found.1 in
    omega (arith, all, c.count_made.ensures, made_before_most c.args.system.now c.args.nodes.now c.args.place, c.requires.few)

pub returns-in-Some : goal.returns-in-Some
returns-in-Some c =
    let found = c.in-Some.ensures.lookup in
    let all = read_mark c.args.system.now c.args.nodes.now c.args.self.now.step c.args.place c.args.self.now.counts c.in-Some.count.now
    c.requires.marks found.3.0 found.1 in
    ap (λ n. c.in-Some.count.now + n) c.count_made.ensures ∙ all
