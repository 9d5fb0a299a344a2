use Rattle.std.proofs.Common.{rules, arith, ◌≡◌, refl, sym, ap, ◌∙◌, length}
use mathlib.Core.Option.{some}
use Rattle.rn_desk.proofs.Counting.{count_allowed_by, with_entries_same}
use Rattle.rn_desk.proofs.Histories.{adds_one, adds_none}
use Rattle.std.proofs.lemmas.Option.{same_Some}
use Rattle.rn_desk.proofs.desk.Desk.count_entry.Goals as goal

pub compare_exchange_with-requires : goal.compare_exchange_with-requires
compare_exchange_with-requires g c = let v = c.args.seat.now.me.0 in let e = c.requires.turn.2 in let y = e.0 in
    let same : length (g.S.Kept.entries c.in-Some.state) ≡ length (g.S.Kept.entries y) = ap (λ z. length (g.S.Kept.entries z)) (same_Some _ _ (sym c.in-Some.is ∙ e.1)) in
    let test = c.if-length-began.true in let count = c.length.ensures in let small = c.length.type_inv in let began = c.requires.turn.1 in
    let one = adds_one g.S.Kept.author v.own.number v.own.seen (g.S.Kept.entries y) e.2 (omega (arith, same, test, count, began)) in
    (search rules, search rules, count_allowed_by _ _ _ _ _ _ _ _ _ _ c.requires.turn.0.0.0 y _ one c.requires.turn.0.0.1 e.1 began refl (omega (arith, test, small)))

pub returns-then-length-began-clause-counted : goal.returns-then-length-began-clause-counted
returns-then-length-began-clause-counted g c = λ y is. c.compare_exchange_with.ensures.2 y (ap (λ o. some o) is)

pub returns-else-length-began-clause-counted : goal.returns-else-length-began-clause-counted
returns-else-length-began-clause-counted g c = λ y is. let v = c.args.seat.now.me.0 in let e = c.requires.turn.2 in
    let same : c.in-Some.state ≡ e.0 = same_Some _ _ (sym c.in-Some.is ∙ e.1) in let this : e.0 ≡ y = same_Some _ _ (sym e.1 ∙ is) in
    let test = c.if-length-began.false in let count = c.length.ensures in let began = c.requires.turn.1 in
    let as_long : length (g.S.Kept.entries c.in-Some.state) ≡ length (g.S.Kept.entries e.0) = ap (λ z. length (g.S.Kept.entries z)) same in
    let none = adds_none g.S.Kept.author v.own.number v.own.seen (g.S.Kept.entries e.0) e.2 (omega (arith, as_long, test, count, began)) in
    ap (λ w. (w, c.args.seat.now.me.1)) (with_entries_same g.S.Kept.author v (g.S.Kept.entries y) (ap g.S.Kept.entries (sym this) ∙ none))
