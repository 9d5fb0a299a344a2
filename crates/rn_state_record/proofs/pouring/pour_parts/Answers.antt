-- The marks come after the entries, and what waits goes out.
use Rattle.std.proofs.Common.{◌≡◌, ◌++◌, ℕ, List, [], ◌∷◌, refl, subst, ap, ◌∙◌, append-nil}
use Rattle.std.specs.Prelude.{Result, Ok, Err, OnOk, OnErr, take}
use Rattle.rn_pour.specs.Flows.{Standing, Flows, Breaks}
use Rattle.rn_pour.proofs.Flows.{flows_on, breaks_later}
use Rattle.rn_record.specs.RecordText.{entries_text, header_text}
use Rattle.rn_record.specs.Nets.{first_of}
use Rattle.rn_record.proofs.PartsOfRecords.{on_err, on_err_by, on_ok_by}
use Rattle.rn_end_marking.specs.MarkTexts.{marks_text}
use Rattle.rn_state_record.proofs.pouring.pour_parts.Goals as goal

none_kept : (l : List ℕ) → take 0 l ≡ []
none_kept [] = refl
none_kept (b ∷ l) = refl

pub returns-in_err-pour_marks-clause-err : goal.returns-in_err-pour_marks-clause-err
returns-in_err-pour_marks-clause-err g c =
    let sink = g.O.Sink in
    let start : Standing = record { held = sink.held c.args.out.now; faults = sink.faults c.args.out.now; writes = sink.writes c.args.out.now; empty_writes = sink.empty_writes c.args.out.now } in
    let mid : Standing = record { held = sink.held c.pour_log.new.sink; faults = sink.faults c.pour_log.new.sink; writes = sink.writes c.pour_log.new.sink; empty_writes = sink.empty_writes c.pour_log.new.sink } in
    let since : Standing = record { held = sink.held c.pour_marks.new.sink; faults = sink.faults c.pour_marks.new.sink; writes = sink.writes c.pour_marks.new.sink; empty_writes = sink.empty_writes c.pour_marks.new.sink } in
    let text = header_text c.args.log.now.format ++ entries_text c.args.log.now.system.now (first_of c.args.log.now.system.now c.args.log.now.nets.now 1) 1 c.args.log.now.entries.now in
    let empty : c.begin.new.self.kept ≡ [] = ap (λ w. w.kept) c.begin.ensures ∙ none_kept c.args.window.now.kept in
    let first : Flows start [] text mid c.pour_log.new.window.kept =
    subst (λ k. Flows start k text mid c.pour_log.new.window.kept) empty c.in_ok-pour_log.ensures.ok in
    on_err c.from_residual-in_err-pour_marks.result _
    (λ lines live. breaks_later start mid since [] text c.pour_log.new.window.kept
    (marks_text c.args.marks.now.format c.args.marks.now.system.now c.args.marks.now.nets.now lines) first
    (c.in_err-pour_marks.ensures.err lines live))

pub returns-clause-ok : goal.returns-clause-ok
returns-clause-ok g c =
    let sink = g.O.Sink in
    let start : Standing = record { held = sink.held c.args.out.now; faults = sink.faults c.args.out.now; writes = sink.writes c.args.out.now; empty_writes = sink.empty_writes c.args.out.now } in
    let mid : Standing = record { held = sink.held c.pour_log.new.sink; faults = sink.faults c.pour_log.new.sink; writes = sink.writes c.pour_log.new.sink; empty_writes = sink.empty_writes c.pour_log.new.sink } in
    let then : Standing = record { held = sink.held c.pour_marks.new.sink; faults = sink.faults c.pour_marks.new.sink; writes = sink.writes c.pour_marks.new.sink; empty_writes = sink.empty_writes c.pour_marks.new.sink } in
    let since : Standing = record { held = sink.held c.flush.new.sink; faults = sink.faults c.flush.new.sink; writes = sink.writes c.flush.new.sink; empty_writes = sink.empty_writes c.flush.new.sink } in
    let text = header_text c.args.log.now.format ++ entries_text c.args.log.now.system.now (first_of c.args.log.now.system.now c.args.log.now.nets.now 1) 1 c.args.log.now.entries.now in
    let marks : List _ → List ℕ = marks_text c.args.marks.now.format c.args.marks.now.system.now c.args.marks.now.nets.now in
    let empty : c.begin.new.self.kept ≡ [] = ap (λ w. w.kept) c.begin.ensures ∙ none_kept c.args.window.now.kept in
    let first : Flows start [] text mid c.pour_log.new.window.kept =
    subst (λ k. Flows start k text mid c.pour_log.new.window.kept) empty c.in_ok-pour_log.ensures.ok in
    on_ok_by c.flush.result
    (λ flows lines live.
    let both = flows_on start mid then [] text c.pour_log.new.window.kept (marks lines) c.pour_marks.new.window.kept first (c.in_ok-pour_marks.ensures.ok lines live) in
    subst (λ t. Flows start [] t since []) (append-nil (text ++ marks lines))
    (flows_on start then since [] (text ++ marks lines) c.pour_marks.new.window.kept [] [] both flows))
    c.flush.ensures.ok

pub returns-clause-err : goal.returns-clause-err
returns-clause-err g c =
    let sink = g.O.Sink in
    let start : Standing = record { held = sink.held c.args.out.now; faults = sink.faults c.args.out.now; writes = sink.writes c.args.out.now; empty_writes = sink.empty_writes c.args.out.now } in
    let mid : Standing = record { held = sink.held c.pour_log.new.sink; faults = sink.faults c.pour_log.new.sink; writes = sink.writes c.pour_log.new.sink; empty_writes = sink.empty_writes c.pour_log.new.sink } in
    let then : Standing = record { held = sink.held c.pour_marks.new.sink; faults = sink.faults c.pour_marks.new.sink; writes = sink.writes c.pour_marks.new.sink; empty_writes = sink.empty_writes c.pour_marks.new.sink } in
    let since : Standing = record { held = sink.held c.flush.new.sink; faults = sink.faults c.flush.new.sink; writes = sink.writes c.flush.new.sink; empty_writes = sink.empty_writes c.flush.new.sink } in
    let text = header_text c.args.log.now.format ++ entries_text c.args.log.now.system.now (first_of c.args.log.now.system.now c.args.log.now.nets.now 1) 1 c.args.log.now.entries.now in
    let marks : List _ → List ℕ = marks_text c.args.marks.now.format c.args.marks.now.system.now c.args.marks.now.nets.now in
    let empty : c.begin.new.self.kept ≡ [] = ap (λ w. w.kept) c.begin.ensures ∙ none_kept c.args.window.now.kept in
    let first : Flows start [] text mid c.pour_log.new.window.kept =
    subst (λ k. Flows start k text mid c.pour_log.new.window.kept) empty c.in_ok-pour_log.ensures.ok in
    on_err_by c.flush.result
    (λ breaks lines live.
    let both = flows_on start mid then [] text c.pour_log.new.window.kept (marks lines) c.pour_marks.new.window.kept first (c.in_ok-pour_marks.ensures.ok lines live) in
    subst (λ t. Breaks start [] t since) (append-nil (text ++ marks lines))
    (breaks_later start then since [] (text ++ marks lines) c.pour_marks.new.window.kept [] both breaks))
    c.flush.ensures.err
