use Rattle.std.proofs.Common.{◌≡◌, ◌≤◌, ◌+◌, ◌∷◌, ◌++◌, length, get_or, drop, refl, sym, ap, ◌∙◌, subst, append_assoc, arith, rules}
use Rattle.rn_spell.proofs.Slices.{drop_item}
use Rattle.rn_pour.specs.Flows.{Standing, Breaks}
use Rattle.rn_pour.proofs.Flows.{flows_on, breaks_later, breaks_early}
use Rattle.rn_record.specs.RecordText.{entry_text, entries_text, names_past}
use Rattle.rn_record.specs.Nets.{EntriesFit, first_of}
use Rattle.rn_record.specs.Parts.{entry_parts, AreShort}
use Rattle.rn_record.proofs.EntriesInOrder.{fits_first, fit_next, names_next, fewer}
use Rattle.rn_record.proofs.PartsOfRecords.{on_err}
use Rattle.rn_record.proofs.logs.pour_entries.Goals as goal

pub pour_entry-requires-clause-fits : goal.pour_entry-requires-clause-fits
pour_entry-requires-clause-fits g c =
    let system = c.args.log.now.system.now in
    let nets = c.args.log.now.nets.now in
    let entries = c.args.log.now.entries.now in
    let before = c.loop-i.before in
    let i = c.loop-i.i in
    let entry = get_or entries i c.index-log-i.result in
    let rest = drop (i + 1) entries in
    let split = drop_item entries i entry c.index-log-i.result c.loop-i-test.true refl in
    let fit = subst (EntriesFit system nets before) split c.loop-i.invariant.0 in
    fits_first system nets before entry rest fit

pub count_fired-before-requires : goal.count_fired-before-requires
count_fired-before-requires g c =
    let system = c.args.log.now.system.now in
    let nets = c.args.log.now.nets.now in
    let entries = c.args.log.now.entries.now in
    let before = c.loop-i.before in
    let i = c.loop-i.i in
    let entry = get_or entries i c.index-log-i.result in
    let rest = drop (i + 1) entries in
    let split = drop_item entries i entry c.index-log-i.result c.loop-i-test.true refl in
    let fit = subst (EntriesFit system nets before) split c.loop-i.invariant.0 in
    let within = (fits_first system nets before entry rest fit).within in
    search (rules, within)

pub overflow_add-before : goal.overflow_add-before
overflow_add-before g c =
    let system = c.args.log.now.system.now in
    let nets = c.args.log.now.nets.now in
    let entries = c.args.log.now.entries.now in
    let before = c.loop-i.before in
    let i = c.loop-i.i in
    let entry = get_or entries i c.index-log-i.result in
    let rest = drop (i + 1) entries in
    let split = drop_item entries i entry c.index-log-i.result c.loop-i-test.true refl in
    let fit = subst (EntriesFit system nets before) split c.loop-i.invariant.0 in
    let within = (fits_first system nets before entry rest fit).within in
    let few : before + c.count_fired-before.result ≤ length nets =
    omega (arith, within, fewer system entry, c.count_fired-before.ensures) in
    search (rules, few)

pub returns-in_err-pour_entry-clause-err : goal.returns-in_err-pour_entry-clause-err
returns-in_err-pour_entry-clause-err g c =
    let system = c.args.log.now.system.now in
    let nets = c.args.log.now.nets.now in
    let entries = c.args.log.now.entries.now in
    let before = c.loop-i.before in
    let i = c.loop-i.i in
    let entry = get_or entries i c.index-log-i.result in
    let rest = drop (i + 1) entries in
    let split = drop_item entries i entry c.index-log-i.result c.loop-i-test.true refl in
    let fit = subst (EntriesFit system nets before) split c.loop-i.invariant.0 in
    let sink = g.O.Sink in
    let start : Standing = record { held = sink.held c.args.sink.now; faults = sink.faults c.args.sink.now; writes = sink.writes c.args.sink.now; empty_writes = sink.empty_writes c.args.sink.now } in
    let mid : Standing = record { held = sink.held c.loop-i.sink; faults = sink.faults c.loop-i.sink; writes = sink.writes c.loop-i.sink; empty_writes = sink.empty_writes c.loop-i.sink } in
    let since : Standing = record { held = sink.held c.pour_entry.new.sink; faults = sink.faults c.pour_entry.new.sink; writes = sink.writes c.pour_entry.new.sink; empty_writes = sink.empty_writes c.pour_entry.new.sink } in
    let names = first_of system nets before in
    let text = entry_text system names (i + 1) entry in
    let later = entries_text system (names_past system names entry) (i + 1 + 1) rest in
    let came = c.loop-i.invariant.2.0 in
    let broken = breaks_later start mid since c.args.window.now.kept came c.loop-i.window.kept text c.loop-i.invariant.2.2 c.in_err-pour_entry.ensures.err in
    let all : (came ++ text) ++ later ≡ entries_text system (first_of system nets 1) 1 entries =
    append_assoc came text later ∙ ap (λ es. came ++ entries_text system names (i + 1) es) (sym split) ∙ c.loop-i.invariant.2.1 in
    on_err c.from_residual.result _ (subst (λ t. Breaks start c.args.window.now.kept t since) all
    (breaks_early start since c.args.window.now.kept (came ++ text) later broken))

pub loop-i-preserved : goal.loop-i-preserved
loop-i-preserved g c =
    let system = c.args.log.now.system.now in
    let nets = c.args.log.now.nets.now in
    let entries = c.args.log.now.entries.now in
    let before = c.loop-i.before in
    let i = c.loop-i.i in
    let entry = get_or entries i c.index-log-i.result in
    let rest = drop (i + 1) entries in
    let split = drop_item entries i entry c.index-log-i.result c.loop-i-test.true refl in
    let fit = subst (EntriesFit system nets before) split c.loop-i.invariant.0 in
    let count = c.count_fired-before.ensures in
    let names = first_of system nets before in
    let later = first_of system nets (before + c.count_fired-before.result) in
    let text = entry_text system names (i + 1) entry in
    let next = ap (λ n. first_of system nets (before + n)) count ∙ names_next system nets before entry rest fit in
    let parts_are : entry_parts system names (i + 1) (drop i entries) ≡ text ∷ entry_parts system later (i + 1 + 1) rest =
    ap (entry_parts system names (i + 1)) split
    ∙ ap (λ ns. text ∷ entry_parts system ns (i + 1 + 1) rest) (sym next) in
    let sink = g.O.Sink in
    let start : Standing = record { held = sink.held c.args.sink.now; faults = sink.faults c.args.sink.now; writes = sink.writes c.args.sink.now; empty_writes = sink.empty_writes c.args.sink.now } in
    let mid : Standing = record { held = sink.held c.loop-i.sink; faults = sink.faults c.loop-i.sink; writes = sink.writes c.loop-i.sink; empty_writes = sink.empty_writes c.loop-i.sink } in
    let since : Standing = record { held = sink.held c.pour_entry.new.sink; faults = sink.faults c.pour_entry.new.sink; writes = sink.writes c.pour_entry.new.sink; empty_writes = sink.empty_writes c.pour_entry.new.sink } in
    let came = c.loop-i.invariant.2.0 in
    let texts_are : entries_text system names (i + 1) (drop i entries) ≡ text ++ entries_text system later (i + 1 + 1) rest =
    ap (entries_text system names (i + 1)) split
    ∙ ap (λ ns. text ++ entries_text system ns (i + 1 + 1) rest) (sym next) in (
      subst (λ n. EntriesFit system nets (before + n) rest) (sym count) (fit_next system nets before entry rest fit),
      (subst AreShort parts_are c.loop-i.invariant.1).1,
      (
        came ++ text,
        append_assoc came text (entries_text system later (i + 1 + 1) rest) ∙ ap (λ t. came ++ t) (sym texts_are) ∙ c.loop-i.invariant.2.1,
        flows_on start mid since c.args.window.now.kept came c.loop-i.window.kept text c.pour_entry.new.window.kept c.loop-i.invariant.2.2 c.in_ok-pour_entry.ensures.ok,
      ),
      c.pour_entry.ensures.room ∙ c.loop-i.invariant.3,
    )
