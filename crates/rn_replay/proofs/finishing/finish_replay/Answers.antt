-- The search decides whether the end is true.
use Rattle.std.proofs.Common.{refl, ◌∙◌}
use Rattle.rn_model.specs.declared.log.Reason.TheVariants.{Dead}
use Rattle.rn_replay.proofs.Endings.{dead_at_table, ended_dead, marked_end, refused_end, was_dead}
use Rattle.rn_replay.proofs.finishing.finish_replay.Goals as goal
use Rattle.rn_fire.proofs.EntryLemmas.{going_count}

pub commit_none-requires-clause-dead : goal.commit_none-requires-clause-dead
commit_none-requires-clause-dead c =
    let s = c.args.state in
    was_dead s c.length-seen.result c.next_number-number.ensures.state
    (c.length-seen.ensures.length ∙ going_count s c.requires.unsearched.going)
    (c.requires.dead.0 c.if-not-is_dead.false)

pub returns-then-not-is_dead : goal.returns-then-not-is_dead
returns-then-not-is_dead c =
    let s = c.args.state in
    let told = c.requires.unsearched in
    refused_end s.setup c.args.told.now s c.next_number-number.ensures.state refl told.going Dead told.entries
    c.next_number-number.result c.next_number-number.ensures.number (λ ends.
    let dead = c.requires.dead.1 ((dead_at_table s c.next_number-number.ensures.state).1 ends.0) in
    let other = c.if-not-is_dead.true in
    let never : ⊥ = cc in never)

pub returns : goal.returns
returns c =
    let s = c.args.state in
    let told = c.requires.unsearched in
    let dead = (dead_at_table s c.next_number-number.ensures.state).0 (c.requires.dead.0 c.if-not-is_dead.false) in
    marked_end s.setup c.args.told.now s c.next_number-number.ensures.state refl told.going Dead told.entries
    c.next_number-number.result c.next_number-number.ensures.number c.commit_none.new.self
    (ended_dead s c.commit_none.new.self c.commit_none.result told.going c.commit_none.ensures)
    (dead, told.below) c.with_marks.result c.with_marks.ensures
