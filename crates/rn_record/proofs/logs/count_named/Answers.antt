use Rattle.std.proofs.Common.{◌+◌, drop, sym, ap, ◌∙◌, subst}
use Rattle.rn_record.specs.RecordText.{names_at_end}
use Rattle.rn_record.specs.Nets.{EntriesFit, first_of}
use Rattle.rn_spell.proofs.Slices.{drop_item}
use Rattle.rn_record.proofs.EntriesInOrder.{fit_next, names_next}
use Rattle.rn_record.proofs.logs.count_named.Goals as goal

pub loop-entry-preserved : goal.loop-entry-preserved
loop-entry-preserved c =
    let system = c.args.log.now.system.now in
    let nets = c.args.log.now.nets.now in
    let entries = c.args.log.now.entries.now in
    let before = c.loop-entry.before in
    let i = c.loop-entry.entry-index in
    let entry = c.entry-item.result in
    let rest = drop (i + 1) entries in
    let count = c.count_fired-before.ensures in
    let split = drop_item entries i entry entry c.loop-entry-test.true c.entry-item.is in
    let fit = subst (EntriesFit system nets before) split c.loop-entry.invariant.0 in (
      subst (λ n. EntriesFit system nets (before + n) rest) (sym count) (fit_next system nets before entry rest fit),
      ap (λ n. names_at_end system (first_of system nets (before + n)) rest) count
          ∙ ap (λ ns. names_at_end system ns rest) (names_next system nets before entry rest fit)
          ∙ sym (ap (names_at_end system (first_of system nets before)) split)
          ∙ c.loop-entry.invariant.1,
    )
