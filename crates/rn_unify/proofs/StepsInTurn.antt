-- What a store says after two steps, on the ids from before the first.
use Rattle.std.proofs.Common.{◌≡◌, ◌≤◌, ◌-◌, List, ◌++◌, arith, length, take, drop, sym}
use Rattle.std.proofs.Common.{length-append}
use Rattle.std.proofs.Common.{◌∙◌, ap, subst, append_assoc}
use Rattle.std.specs.Prelude.{◌↔◌}
use Rattle.std.proofs.lemmas.List.{take-append-drop, length-take-le}
use Rattle.rn_value.specs.declared.value.Value.{Value}
use Rattle.rn_term.specs.Stores.{State}
use Rattle.rn_term.specs.Assignments.{Satisfies}
use Rattle.rn_term.proofs.AssignmentLemmas.{value_stays}
use Rattle.rn_unify.specs.Laws.{SaysBothInTurn}
use Rattle.rn_unify.specs.Unifying.{AreOne}
use Rattle.rn_unify.proofs.EarlierMarks.{grown}

-- an assignment that goes on, cut where another store ends
record IsCut (s : State) (vs more : List Value) : Type 0 where
  mid : List Value
  rest : List Value
  whole : (vs ++ mid) ++ rest ≡ vs ++ more
  each : length (vs ++ mid) ≡ length s.terms

cut : (s : State) (vs more : List Value) → length vs ≤ length s.terms →
    length s.terms ≤ length (vs ++ more) → IsCut s vs more
cut s vs more low high =
    let n = length s.terms - length vs in
    let long = length-append vs more in
    let few : length (take n more) ≡ n = length-take-le n more (omega (arith, low, high, long)) in
    record {
      mid = take n more;
      rest = drop n more;
      whole = append_assoc vs (take n more) (drop n more)
          ∙ ap (λ xs. vs ++ xs) (take-append-drop n more);
      each = omega (arith, length-append vs (take n more), few, low);
    }

pub says_both_in_turn : SaysBothInTurn
says_both_in_turn old between new a b c d first second in_c in_d says other vs each = (
  λ on.
      let two = cut between vs on.0
      (omega (arith, each, (grown old between first).not_later.0))
      (omega (arith, on.1.each, (grown between new second).not_later.0)) in
      let last = (other (vs ++ two.mid) two.each).0
      (two.rest, subst (Satisfies new) (sym two.whole) on.1) in
      let early = (says vs each).0 (two.mid, last.0) in
      (early.0, early.1, (same two.mid).1 last.1),
  λ all.
      let on = (says vs each).1 (all.0, all.1) in
      let more = (other (vs ++ on.0) on.1.each).1 (on.1, (same on.0).0 all.2) in
      (on.0 ++ more.0, subst (Satisfies new) (append_assoc vs on.0 more.0) more.1),
)
  where
    same : (more : List Value) → AreOne c d vs ↔ AreOne c d (vs ++ more)
    same more =
        let left = value_stays vs more c (rw each in_c) in
        let right = value_stays vs more d (rw each in_d) in
        (λ one. left ∙ one ∙ sym right, λ one. sym left ∙ one ∙ right)
