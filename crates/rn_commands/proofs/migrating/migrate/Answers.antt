-- The net text or the record is refused, or both are migrated.
use Rattle.std.proofs.Common.{◌≡◌, ◌++◌, ◌∙◌, ap, sym, subst, arith, rules, codes}
use Rattle.std.proofs.lemmas.Bool.{eqb-true}
use Rattle.rn_migrate.specs.Migrated.{migrated_text}
use Rattle.rn_commands.specs.Migrating.{MigrateComesTo, migrated_pair}
use Rattle.rn_commands.proofs.PartLemmas.{rest_few}
use Rattle.rn_commands.proofs.MigrateLemmas.{already_stops, alone_done, both_done, first_notation, net_stops_migrating, plain_stops_migrating, record_stops_migrating}
use Rattle.rn_commands.proofs.migrating.migrate.Goals as goal

pub returns-in_err-plain : goal.returns-in_err-plain
returns-in_err-plain c =
    let stops = net_stops_migrating c.args.bytes.now c.parted.result.0.now c.parted.result.1.now c.parted.ensures
    c.in_err-plain.field-0.0 c.in_err-plain.ensures.refused in
    search (rules, stops)

pub returns-in_err-_system : goal.returns-in_err-_system
returns-in_err-_system c =
    let stops = plain_stops_migrating c.args.bytes.now c.parted.result.0.now c.parted.result.1.now c.parted.ensures
    c.in_ok-plain.plain c.in_ok-plain.ensures.spells c.in_err-_system.field-0.0 c.in_err-_system.ensures.refused in
    search (rules, stops)

pub returns-then-is_second : goal.returns-then-is_second
returns-then-is_second c =
    already_stops c.args.bytes.now c.parted.result.0.now c.parted.result.1.now c.parted.ensures
    c.in_ok-plain.plain c.in_ok-plain.ensures.spells c.in_ok-_system._system c.in_ok-_system.ensures.checked
    (eqb-true c.in_ok-plain.plain.notation 2 (sym c.is_second.ensures ∙ c.if-is_second.true)) c.refused_at.result c.refused_at.ensures

pub returns-in_err-system : goal.returns-in_err-system
returns-in_err-system c =
    let stops = plain_stops_migrating c.args.bytes.now c.parted.result.0.now c.parted.result.1.now c.parted.ensures
    c.in_ok-plain.plain c.in_ok-plain.ensures.spells c.in_err-system.field-0.0 c.in_err-system.ensures.refused in
    search (rules, stops)

pub returns-then-net-bytes : goal.returns-then-net-bytes
returns-then-net-bytes c =
    let bytes = c.args.bytes.now in
    let first = first_notation c.in_ok-plain.plain.notation c.in_ok-plain.ensures.notation (sym c.is_second.ensures ∙ c.if-is_second.false) in
    subst (MigrateComesTo bytes) (sym c.done.ensures)
    (alone_done bytes c.parted.result.0.now c.parted.result.1.now c.parted.ensures
    c.in_ok-plain.plain c.in_ok-plain.ensures.spells c.in_ok-system.system c.in_ok-system.ensures.checked
    first c.if-net-bytes.true c.in_ok-text.text.items c.in_ok-text.ensures)

pub migrate_record-requires-clause-few : goal.migrate_record-requires-clause-few
migrate_record-requires-clause-few c =
    let few = rest_few c.parted.ensures in omega (arith, few, c.requires)

pub returns-in_ok-pair-in-Ok : goal.returns-in_ok-pair-in-Ok
returns-in_ok-pair-in-Ok c =
    let bytes = c.args.bytes.now in
    let plain = c.in_ok-plain.plain in
    let migrates = c.in-Ok.ensures.told in
    let first = first_notation plain.notation c.in_ok-plain.ensures.notation (sym c.is_second.ensures ∙ c.if-is_second.false) in
    let same : c.as_slice.result.now ≡ c.in-Ok.migrated.items = search rules in
    let text : c.in_ok-pair-in-Ok.pair.items ≡ migrated_pair plain c.in_ok-system.system migrates.told =
    c.in_ok-pair-in-Ok.ensures
    ∙ ap (λ front. front ++ codes "---\n" ++ c.as_slice.result.now) c.in_ok-text.ensures
    ∙ ap (λ rest. migrated_text plain ++ codes "---\n" ++ rest) (same ∙ migrates.is) in
    subst (MigrateComesTo bytes) (sym c.done-in-Ok.ensures)
    (both_done bytes c.parted.result.0.now c.parted.result.1.now c.parted.ensures
    plain c.in_ok-plain.ensures.spells c.in_ok-system.system c.in_ok-system.ensures.checked
    first c.if-net-bytes.false migrates.told migrates.tells c.in_ok-pair-in-Ok.pair.items text)

pub returns-in-Err : goal.returns-in-Err
returns-in-Err c =
    let first = first_notation c.in_ok-plain.plain.notation c.in_ok-plain.ensures.notation (sym c.is_second.ensures ∙ c.if-is_second.false) in
    record_stops_migrating c.args.bytes.now c.parted.result.0.now c.parted.result.1.now c.parted.ensures
    c.in_ok-plain.plain c.in_ok-plain.ensures.spells c.in_ok-system.system c.in_ok-system.ensures.checked
    first c.if-net-bytes.false c.in-Err.fault c.refused_record.result c.in-Err.ensures.refused
    c.refused_record.ensures.memory c.refused_record.ensures.line
