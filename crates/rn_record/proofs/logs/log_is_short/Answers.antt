use Rattle.std.proofs.Common.{◌≡◌, ◌+◌, ◌∷◌, get_or, drop, refl, sym, ap, ◌∙◌, subst}
use Rattle.rn_spell.proofs.Slices.{drop_item}
use Rattle.rn_record.specs.RecordText.{entry_text}
use Rattle.rn_record.specs.Nets.{EntriesFit, first_of}
use Rattle.rn_record.specs.Parts.{entry_parts, AreShort}
use Rattle.rn_record.proofs.EntriesInOrder.{fits_first, fit_next, names_next}
use Rattle.rn_record.proofs.PartsOfRecords.{short_first}
use Rattle.rn_record.proofs.logs.log_is_short.Goals as goal

pub measure_entry-requires : goal.measure_entry-requires
measure_entry-requires c =
    let system = c.args.log.now.system.now in
    let nets = c.args.log.now.nets.now in
    let entries = c.args.log.now.entries.now in
    let before = c.loop-i.before in
    let i = c.loop-i.i in
    let entry = get_or entries i c.index-log-i.result in
    let rest = drop (i + 1) entries in
    let split = drop_item entries i entry c.index-log-i.result c.loop-i-test.true refl in
    let fit = subst (EntriesFit system nets before) split c.loop-i.invariant.0 in
    fits_first system nets before entry rest fit

pub loop-i-preserved : goal.loop-i-preserved
loop-i-preserved c =
    let system = c.args.log.now.system.now in
    let nets = c.args.log.now.nets.now in
    let entries = c.args.log.now.entries.now in
    let before = c.loop-i.before in
    let i = c.loop-i.i in
    let entry = get_or entries i c.index-log-i.result in
    let rest = drop (i + 1) entries in
    let split = drop_item entries i entry c.index-log-i.result c.loop-i-test.true refl in
    let fit = subst (EntriesFit system nets before) split c.loop-i.invariant.0 in
    let count = c.count_fired-before.ensures in
    let names = first_of system nets before in
    let later = first_of system nets (before + c.count_fired-before.result) in
    let text = entry_text system names (i + 1) entry in
    let next = ap (λ n. first_of system nets (before + n)) count ∙ names_next system nets before entry rest fit in
    let parts_are : entry_parts system names (i + 1) (drop i entries) ≡ text ∷ entry_parts system later (i + 1 + 1) rest =
    ap (entry_parts system names (i + 1)) split
    ∙ ap (λ ns. text ∷ entry_parts system ns (i + 1 + 1) rest) (sym next) in (
      subst (λ n. EntriesFit system nets (before + n) rest) (sym count) (fit_next system nets before entry rest fit),
      (
        λ short. c.loop-i.invariant.1.0 (subst AreShort (sym parts_are)
            (short_first text c.measure_entry.result c.measure_entry.ensures.length c.if-measure_entry.false, short)),
        λ short. (subst AreShort parts_are (c.loop-i.invariant.1.1 short)).1,
      ),
      c.measure_entry.ensures.room ∙ c.loop-i.invariant.2,
    )
