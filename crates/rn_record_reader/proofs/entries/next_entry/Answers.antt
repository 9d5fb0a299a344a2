-- What begins, and what is read of it.
use Rattle.std.proofs.Common.{◌≡◌, ◌+◌, ◌≤◌, length, drop, sym, ap, ◌∙◌, subst, arith}
use Rattle.rn_record_reader.specs.Lines.{lines_in}
use Rattle.rn_record_reader.specs.Firings.{FiringRead, firing_read}
use Rattle.rn_record_reader.specs.link.FiringsAhead.{ReadsFiring}
use Rattle.rn_record_reader.specs.link.CalledAhead.{bad_at}
use Rattle.rn_record_reader.specs.Runs.{Opening, opening_of, end_read, Tells}
use Rattle.rn_record_reader.specs.link.RunsAhead.{OpensWith, end_verdict}
use Rattle.rn_record_reader.proofs.CountLemmas.{IsWithin, firing_few}
use Rattle.rn_record_reader.proofs.entries.next_entry.Goals as goal

pub returns-in-Ending : goal.returns-in-Ending
returns-in-Ending c =
    let system = c.args.by.system.now in
    let made = c.args.made.now.items in
    let lines = lines_in c.args.bytes.now in
    let rest = lines_in c.in-Ending.rest.now in
    let ending = c.in-Ending.ending in
    let opens = subst (OpensWith lines) c.in-Ending.is c.in_ok-worker.ensures in
    let read : end_read c.args.by.format system made (c.args.line + 1) ending (drop 1 lines) ≡ end_verdict c.in_ok-end-in-Ending.end
    = ap (end_read c.args.by.format system made (c.args.line + 1) ending) opens.1
    ∙ ap (λ m. end_read c.args.by.format system m (c.args.line + 1) ending rest) (sym c.as_slice.ensures.value)
    ∙ c.in_ok-end-in-Ending.ensures in
    subst (Tells c.args.by.format system made c.args.step c.args.line lines) read (Tells.ended opens.0)

pub returns-in-Neither : goal.returns-in-Neither
returns-in-Neither c =
    Tells.stray (subst (OpensWith (lines_in c.args.bytes.now)) c.in-Neither.is c.in_ok-worker.ensures)

pub bad_line-requires : goal.bad_line-requires
bad_line-requires c =
    let made = c.args.made.now.items in
    let lines = lines_in c.args.bytes.now in
    let read : firing_read c.args.by.system.now made c.args.step c.in-Firing.worker lines ≡ FiringRead.broken (bad_at c.in-Broken.bad)
    = subst (ReadsFiring (firing_read c.args.by.system.now made c.args.step c.in-Firing.worker lines) c.read_firing.new.made.items) c.in-Broken.is c.in_ok-entry.ensures in
    let few : c.in-Broken.bad.before ≤ length lines
    = subst (IsWithin (length lines)) read (firing_few c.args.by.system.now made c.args.step c.in-Firing.worker lines) in
    omega (arith, few, c.requires.few)

pub returns-in-Fired : goal.returns-in-Fired
returns-in-Fired c =
    let made = c.args.made.now.items in
    let all = c.read_firing.new.made.items in
    let lines = lines_in c.args.bytes.now in
    let rest = lines_in c.in-Fired.rest.now in
    let opens : opening_of lines ≡ Opening.firing c.in-Firing.worker
    = subst (OpensWith lines) c.in-Firing.is c.in_ok-worker.ensures in
    let read : firing_read c.args.by.system.now made c.args.step c.in-Firing.worker lines ≡ FiringRead.fired c.in-Fired.entry all c.in-Fired.count rest
    = subst (ReadsFiring (firing_read c.args.by.system.now made c.args.step c.in-Firing.worker lines) all) c.in-Fired.is c.in_ok-entry.ensures in
    let few = subst (IsWithin (length lines)) read (firing_few c.args.by.system.now made c.args.step c.in-Firing.worker lines) in
    ((λ v told. Tells.fired opens read told), few.0, few.1)

pub returns-in-Broken : goal.returns-in-Broken
returns-in-Broken c =
    let made = c.args.made.now.items in
    let lines = lines_in c.args.bytes.now in
    let opens : opening_of lines ≡ Opening.firing c.in-Firing.worker
    = subst (OpensWith lines) c.in-Firing.is c.in_ok-worker.ensures in
    let read : firing_read c.args.by.system.now made c.args.step c.in-Firing.worker lines ≡ FiringRead.broken (bad_at c.in-Broken.bad)
    = subst (ReadsFiring (firing_read c.args.by.system.now made c.args.step c.in-Firing.worker lines) c.read_firing.new.made.items) c.in-Broken.is c.in_ok-entry.ensures in
    subst (Tells c.args.by.format c.args.by.system.now made c.args.step c.args.line lines) (sym c.bad_line.ensures) (Tells.broken opens read)
