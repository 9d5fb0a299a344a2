-- The record of a state is what is poured of its parts.
use Rattle.std.proofs.Common.{◌≡◌, ◌∙◌, ℕ, List, [], true, false, take, refl, sym, subst}
use Rattle.rn_model.specs.Good.{Good}
use Rattle.rn_live.proofs.GoodPlaces.{good_places}
use Rattle.rn_pour.specs.Flows.{Standing, Flows, Breaks}
use Rattle.rn_record.specs.RecordText.{record_text}
use Rattle.rn_fire.specs.Nets.{nets_logged}
use Rattle.rn_fire.specs.States.{logged}
use Rattle.rn_state_record.specs.Written.{IsRecordOf}
use Rattle.rn_state_record.proofs.WrittenStates.{is_marking}
use Rattle.rn_state_record.proofs.PouredStates.{are_live, breaks, endless, fits, its_record, lines, takes, text_is}
use Rattle.rn_state_record.proofs.pouring.pour_record.Goals as goal
use Rattle.rn_state_record.proofs.pouring.pour_record.Goals.{then-not-log_is_short-via-then-not-log_is_short, then-not-log_is_short-via-else-not-log_is_short+then-not-marks_are_short}

pub mark-requires-clause-places : goal.mark-requires-clause-places
mark-requires-clause-places g c =
    let s = c.args.state in
    let parts = c.into_parts-shared in
    let system = c.deref-system.result.now in
    let is : system ≡ s.setup.system = c.deref-system.ensures ∙ parts.ensures.system in
    let good : Good system = subst Good (sym c.deref-system.ensures) parts.ensures.good in
    let table = parts.result.table.marking in
    good_places system table good (is_marking s system table is good parts.ensures.stands)

pub count_named-named-requires : goal.count_named-named-requires
count_named-named-requires g c =
    let s = c.args.state in
    let parts = c.into_parts-shared in
    let system = c.deref-system.result.now in
    let is : system ≡ s.setup.system = c.deref-system.ensures ∙ parts.ensures.system in
    let good : Good system = subst Good (sym c.deref-system.ensures) parts.ensures.good in
    let table = parts.result.table.marking in
    let entries = c.as_slice.result.now in
    let are : entries ≡ logged s = c.as_slice.ensures.value ∙ parts.ensures.entries in
    let nets = c.as_slice-2.result.now in
    let made : nets ≡ nets_logged s = c.as_slice-2.ensures.value ∙ parts.ensures.nets in
    let marks = c.mark.new.self.marks in
    fits s system table is good parts.ensures.stands entries are nets made parts.ensures.log marks c.mark.ensures.marks

pub log_is_short-requires : goal.log_is_short-requires
log_is_short-requires g c =
    let s = c.args.state in
    let parts = c.into_parts-shared in
    let system = c.deref-system.result.now in
    let is : system ≡ s.setup.system = c.deref-system.ensures ∙ parts.ensures.system in
    let good : Good system = subst Good (sym c.deref-system.ensures) parts.ensures.good in
    let table = parts.result.table.marking in
    let entries = c.as_slice.result.now in
    let are : entries ≡ logged s = c.as_slice.ensures.value ∙ parts.ensures.entries in
    let nets = c.as_slice-2.result.now in
    let made : nets ≡ nets_logged s = c.as_slice-2.ensures.value ∙ parts.ensures.nets in
    let marks = c.mark.new.self.marks in
    fits s system table is good parts.ensures.stands entries are nets made parts.ensures.log marks c.mark.ensures.marks

pub marks_are_short-requires-clause-places : goal.marks_are_short-requires-clause-places
marks_are_short-requires-clause-places g c =
    let s = c.args.state in
    let parts = c.into_parts-shared in
    let system = c.deref-system.result.now in
    let is : system ≡ s.setup.system = c.deref-system.ensures ∙ parts.ensures.system in
    let good : Good system = subst Good (sym c.deref-system.ensures) parts.ensures.good in
    let table = parts.result.table.marking in
    good_places system table good (is_marking s system table is good parts.ensures.stands)

pub pour_parts-requires-clause-fit : goal.pour_parts-requires-clause-fit
pour_parts-requires-clause-fit g c =
    let s = c.args.state in
    let parts = c.into_parts-shared in
    let system = c.deref-system.result.now in
    let is : system ≡ s.setup.system = c.deref-system.ensures ∙ parts.ensures.system in
    let good : Good system = subst Good (sym c.deref-system.ensures) parts.ensures.good in
    let table = parts.result.table.marking in
    let entries = c.as_slice.result.now in
    let are : entries ≡ logged s = c.as_slice.ensures.value ∙ parts.ensures.entries in
    let nets = c.as_slice-2.result.now in
    let made : nets ≡ nets_logged s = c.as_slice-2.ensures.value ∙ parts.ensures.nets in
    let marks = c.mark.new.self.marks in
    fits s system table is good parts.ensures.stands entries are nets made parts.ensures.log marks c.mark.ensures.marks

pub pour_parts-requires-clause-places : goal.pour_parts-requires-clause-places
pour_parts-requires-clause-places g c =
    let s = c.args.state in
    let parts = c.into_parts-shared in
    let system = c.deref-system.result.now in
    let is : system ≡ s.setup.system = c.deref-system.ensures ∙ parts.ensures.system in
    let good : Good system = subst Good (sym c.deref-system.ensures) parts.ensures.good in
    let table = parts.result.table.marking in
    good_places system table good (is_marking s system table is good parts.ensures.stands)

pub returns-then-not-log_is_short-clause-long : goal.returns-then-not-log_is_short-clause-long
returns-then-not-log_is_short-clause-long g c =
    let s = c.args.state in
    let parts = c.into_parts-shared in
    let system = c.deref-system.result.now in
    let is : system ≡ s.setup.system = c.deref-system.ensures ∙ parts.ensures.system in
    let good : Good system = subst Good (sym c.deref-system.ensures) parts.ensures.good in
    let table = parts.result.table.marking in
    let entries = c.as_slice.result.now in
    let are : entries ≡ logged s = c.as_slice.ensures.value ∙ parts.ensures.entries in
    let nets = c.as_slice-2.result.now in
    let made : nets ≡ nets_logged s = c.as_slice-2.ensures.value ∙ parts.ensures.nets in
    let marks = c.mark.new.self.marks in
    let named = c.count_named-named.result in
    λ _. endless s system table is good parts.ensures.stands entries are nets made parts.ensures.log marks c.mark.ensures.marks c.args.format named (take named nets) refl c.count_named-named.ensures.named
    (λ short. elim c.then-not-log_is_short.branch as (λ _. ⊥) [
      | then-not-log_is_short-via-then-not-log_is_short w ↦
          let yes : c.log_is_short.result ≡ true = c.log_is_short.ensures.short.1 short.0 in
          let other : c.log_is_short.result ≡ false = w.if-not-log_is_short.true in
          let no : ⊥ = cc in no
      | then-not-log_is_short-via-else-not-log_is_short+then-not-marks_are_short w ↦
          let yes : w.marks_are_short.result ≡ true = w.marks_are_short.ensures.short.1 short.1 in
          let other : w.marks_are_short.result ≡ false = w.if-not-marks_are_short.true in
          let no : ⊥ = cc in no
    ])

pub returns-in-Ok-clause-took : goal.returns-in-Ok-clause-took
returns-in-Ok-clause-took g c =
    let s = c.args.state in
    let parts = c.into_parts-shared in
    let system = c.deref-system.result.now in
    let is : system ≡ s.setup.system = c.deref-system.ensures ∙ parts.ensures.system in
    let good : Good system = subst Good (sym c.deref-system.ensures) parts.ensures.good in
    let table = parts.result.table.marking in
    let entries = c.as_slice.result.now in
    let are : entries ≡ logged s = c.as_slice.ensures.value ∙ parts.ensures.entries in
    let nets = c.as_slice-2.result.now in
    let made : nets ≡ nets_logged s = c.as_slice-2.ensures.value ∙ parts.ensures.nets in
    let marks = c.mark.new.self.marks in
    let sink = g.O.Sink in
    let before : Standing = record { held = sink.held c.args.out.now; faults = sink.faults c.args.out.now; writes = sink.writes c.args.out.now; empty_writes = sink.empty_writes c.args.out.now } in
    let since : Standing = record { held = sink.held c.pour_parts.new.out; faults = sink.faults c.pour_parts.new.out; writes = sink.writes c.pour_parts.new.out; empty_writes = sink.empty_writes c.pour_parts.new.out } in
    let named = c.count_named-named.result in
    let ls = lines s system table is good parts.ensures.stands entries are nets made parts.ensures.log marks c.mark.ensures.marks in
    let bytes = record_text c.args.format s.setup.system (record { entries = logged s; marks = ls }) in
    let text = text_is s system table is good parts.ensures.stands entries are nets made parts.ensures.log marks c.mark.ensures.marks c.args.format named (take named nets) refl c.count_named-named.ensures.named in
    let written : IsRecordOf c.args.format s bytes = record { marks = ls; live = its_record s system table is good parts.ensures.stands entries are nets made parts.ensures.log marks c.mark.ensures.marks; text = refl } in
    let alive = are_live s system table is good parts.ensures.stands entries are nets made parts.ensures.log marks c.mark.ensures.marks in
    takes c.args.format s before since bytes written
    (subst (λ t. Flows before [] t since []) text (c.in-Ok.ensures.ok ls alive))

pub returns-clause-broke : goal.returns-clause-broke
returns-clause-broke g c =
    let s = c.args.state in
    let parts = c.into_parts-shared in
    let system = c.deref-system.result.now in
    let is : system ≡ s.setup.system = c.deref-system.ensures ∙ parts.ensures.system in
    let good : Good system = subst Good (sym c.deref-system.ensures) parts.ensures.good in
    let table = parts.result.table.marking in
    let entries = c.as_slice.result.now in
    let are : entries ≡ logged s = c.as_slice.ensures.value ∙ parts.ensures.entries in
    let nets = c.as_slice-2.result.now in
    let made : nets ≡ nets_logged s = c.as_slice-2.ensures.value ∙ parts.ensures.nets in
    let marks = c.mark.new.self.marks in
    let sink = g.O.Sink in
    let before : Standing = record { held = sink.held c.args.out.now; faults = sink.faults c.args.out.now; writes = sink.writes c.args.out.now; empty_writes = sink.empty_writes c.args.out.now } in
    let since : Standing = record { held = sink.held c.pour_parts.new.out; faults = sink.faults c.pour_parts.new.out; writes = sink.writes c.pour_parts.new.out; empty_writes = sink.empty_writes c.pour_parts.new.out } in
    let named = c.count_named-named.result in
    let ls = lines s system table is good parts.ensures.stands entries are nets made parts.ensures.log marks c.mark.ensures.marks in
    let bytes = record_text c.args.format s.setup.system (record { entries = logged s; marks = ls }) in
    let text = text_is s system table is good parts.ensures.stands entries are nets made parts.ensures.log marks c.mark.ensures.marks c.args.format named (take named nets) refl c.count_named-named.ensures.named in
    let written : IsRecordOf c.args.format s bytes = record { marks = ls; live = its_record s system table is good parts.ensures.stands entries are nets made parts.ensures.log marks c.mark.ensures.marks; text = refl } in
    let alive = are_live s system table is good parts.ensures.stands entries are nets made parts.ensures.log marks c.mark.ensures.marks in
    λ _. breaks c.args.format s before since bytes written
    (subst (λ t. Breaks before [] t since) text (c.in-Err.ensures.err ls alive))
