use Rattle.rn_notation.proofs.Names.{[], ◌∷◌, sym, ◌∙◌, subst, refl, rules, nil_from_length, append-nil, FirstFault}
use Rattle.rn_notation.specs.Reading.{gap, token}
use Rattle.rn_notation.specs.declared.piece.Piece.{Piece}
use Rattle.rn_notation.proofs.ReadingLemmas.{SoFar, moved, room, ends, blank_read, gap_read, token_read, fault_read, whole_read, starts, stands_as, shorter}
use Rattle.rn_notation.proofs.lexing.read.Goals as goal

pub spot_on-next-requires : goal.spot_on-next-requires
spot_on-next-requires c = let r = room c.cut.result.0.now c.cut.result.1.now c.requires c.loop-first.invariant.at c.cut.ensures.whole in record { lines = r.0; columns = r.1 }

pub loop-first-init : goal.loop-first-init
loop-first-init c = subst (λ tokens. SoFar c.args.bytes.now tokens record { line = 1; column = 1 } c.args.bytes.now) (sym (search rules)) (starts c.args.bytes.now record { line = 1; column = 1 } refl)

pub next_spot-spot-requires-clause-columns : goal.next_spot-spot-requires-clause-columns
next_spot-spot-requires-clause-columns c = (room (_ ∷ []) _ c.requires c.loop-first.invariant.at c.in-Some.ensures.cases.0).1

pub loop-first-preserved-then-is_blank : goal.loop-first-preserved-then-is_blank
loop-first-preserved-then-is_blank c = blank_read _ c.loop-first.invariant c.in-Some.ensures.cases.0 (sym c.is_blank.ensures ∙ c.if-is_blank.true) c.next_spot-spot.ensures

pub loop-first-preserved-in-Gap : goal.loop-first-preserved-in-Gap
loop-first-preserved-in-Gap c = gap_read c.loop-first.invariant c.cut.ensures c.in-Gap.is c.spot_on-next.ensures

pub loop-first-smaller-in-Gap : goal.loop-first-smaller-in-Gap
loop-first-smaller-in-Gap c = shorter (gap c.cut.result.0.now) _ _ c.cut.ensures.whole (stands_as (Piece.Gap _) c.cut.ensures c.in-Gap.is)

pub loop-first-preserved : goal.loop-first-preserved
loop-first-preserved c = token_read c.loop-first.invariant c.cut.ensures c.in-Token.is c.spot_on-next.ensures (search rules)

pub loop-first-smaller : goal.loop-first-smaller
loop-first-smaller c = shorter (token c.in-Token.kind c.cut.result.0.now) _ _ c.cut.ensures.whole (stands_as (Piece.Token c.in-Token.kind _) c.cut.ensures c.in-Token.is)

pub spot_on-requires : goal.spot_on-requires
spot_on-requires c =
    let at = moved c.cut.result.0.now c.loop-first.invariant.at c.cut.ensures.whole c.spot_on-next.ensures in
    let r = room c.cut.result.1.now [] c.requires at (sym (append-nil c.cut.result.1.now)) in
    record { lines = r.0; columns = r.1 }

pub returns-in-Fault-clause-reads : goal.returns-in-Fault-clause-reads
returns-in-Fault-clause-reads c = subst (FirstFault c.args.bytes.now c.loop-first.tokens) (sym c.fault_at.ensures) (fault_read c.loop-first.invariant c.cut.ensures c.in-Fault.is c.spot_on-next.ensures)

pub returns-in-Fault-clause-end : goal.returns-in-Fault-clause-end
returns-in-Fault-clause-end c = ends (moved c.cut.result.0.now c.loop-first.invariant.at c.cut.ensures.whole c.spot_on-next.ensures) c.spot_on.ensures

pub returns : goal.returns
returns c = let r = whole_read c.loop-first.invariant (nil_from_length c.loop-first.rest.now (search rules)) in record { reads = r.0; end = r.1 }
