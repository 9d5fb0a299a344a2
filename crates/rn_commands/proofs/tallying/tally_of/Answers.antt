-- The table stands for the end of the log, so it has the same live instances and the same number for
-- the next one.
use Rattle.std.proofs.Common.{◌≡◌, ◌-◌, ◌≤◌, ℕ, length, refl, sym, ap, ◌∙◌, subst, arith}
use Rattle.std.specs.Prelude.{◌↔◌, Contains, IfSome}
use Rattle.rn_model.specs.declared.log.FaultKind.TheVariants.{Action, Instances}
use Rattle.rn_model.specs.declared.log.Reason.{Reason}
use Rattle.rn_model.specs.declared.log.Reason.TheVariants.{Dead, Steps, Fault, Memory}
use Rattle.rn_model.specs.Liveness.{IsLive}
use Rattle.rn_model.specs.Markings.{IsMarking}
use Rattle.rn_live.specs.Rooms.{marked_from}
use Rattle.rn_live.proofs.GoodPlaces.{good_places}
use Rattle.rn_live.proofs.MarkedNumbers.{marked_ascend, marked_count, marked_listed}
use Rattle.rn_fire.specs.States.{end_marking, logged}
use Rattle.rn_commands.specs.Ends.{end_line}
use Rattle.rn_commands.specs.link.Workloads.{tally_lines}
use Rattle.rn_commands.proofs.EndedRuns.{counts_live}
use Rattle.rn_commands.proofs.LastReasons.{last_ends}
use Rattle.rn_commands.proofs.tallying.tally_of.Goals as goal

short_end : (reason : Reason) → length (end_line reason) ≤ 20
short_end Dead = omega arith
short_end Steps = omega arith
short_end Memory = omega arith
short_end (Fault Action b) = omega arith
short_end (Fault Instances b) = omega arith

pub mark-requires-clause-places : goal.mark-requires-clause-places
mark-requires-clause-places c =
    let parts = c.into_parts-system in
    let table = parts.result.table.marking in
    good_places parts.result.system.value table parts.ensures.good
    (subst (λ x. IsMarking x table) (sym parts.ensures.system) parts.ensures.stands.form)

pub returns-clause-tally : goal.returns-clause-tally
returns-clause-tally c =
    let s = c.args.state in
    let parts = c.into_parts-system in
    let system = c.deref.result.now in
    let table = parts.result.table in
    let marks = c.mark.new.self.marks in
    let numbers = marked_from 0 marks in
    let count = c.count.result in
    let end = last_ends s (logged s) c.requires refl in
    let next = c.next.ensures.number ∙ parts.ensures.stands.next in
    let made : c.saturating_sub-made.result ≡ (end_marking s).next - 1 =
    c.saturating_sub-made.ensures ∙ ap (λ n. n - 1) next in
    let line : c.end_line-end.result.now ≡ end_line end.0 =
    subst (λ e. IfSome e (λ reason. c.end_line-end.result.now ≡ end_line reason)) end.1 c.end_line-end.ensures in
    let live : (n : ℕ) → Contains numbers n ↔ IsLive system table.marking n =
    λ n.
    let at = marked_listed marks n in
    let is = c.mark.ensures.marks n in
    (λ listed. is.0 (at.0 listed), λ here. at.1 (is.1 here)) in (
      end.0,
      count,
      end.1,
      counts_live s system table numbers count (c.deref.ensures ∙ parts.ensures.system) parts.ensures.stands
          (marked_ascend 0 marks) live (marked_count marks ∙ sym c.count.ensures),
      ap (λ n. tally_lines n c.saturating_sub-made.result count c.end_line-end.result.now) c.fired_count-fired.ensures.count
          ∙ ap (λ n. tally_lines (length s.fired) n count c.end_line-end.result.now) made
          ∙ ap (λ l. tally_lines (length s.fired) ((end_marking s).next - 1) count l) line,
    )

pub returns-clause-short : goal.returns-clause-short
returns-clause-short c =
    let s = c.args.state in
    let end = last_ends s (logged s) c.requires refl in
    let line : c.end_line-end.result.now ≡ end_line end.0 =
    subst (λ e. IfSome e (λ reason. c.end_line-end.result.now ≡ end_line reason)) end.1 c.end_line-end.ensures in
    subst (λ l. length l ≤ 20) (sym line) (short_end end.0)
