use Rattle.std.proofs.Common.{rules, arith, ◌≡◌, ℕ, ◌+◌, [], sym, ap, ◌∙◌, subst, length}
use Rattle.rn_desk.specs.declared.desk.Pass.{Pass}
use Rattle.rn_desk.specs.Steps.{maker_after, made_seat}
use Rattle.rn_desk.specs.link.Seats.{IsFresh}
use Rattle.rn_desk.specs.Numbered.{EachAt}
use Rattle.rn_desk.proofs.Numbering.{AllFrom, AllFrom_push, each_of}
use Rattle.rn_desk.proofs.opening.open_desk.Goals as goal

pub split_seat-seat-requires-clause-room : goal.split_seat-seat-requires-clause-room
split_seat-seat-requires-clause-room g c = let seats = c.in_ok-desk.ensures.seats in let below = c.loop-test.true in
    (c.loop.counter, ap (λ m. m.0.role) c.loop.invariant.1, omega (arith, seats, below))

pub loop-preserved : goal.loop-preserved
loop-preserved g c = let inv = c.loop.invariant in let split = c.split_seat-seat.ensures in let f = g.S.Kept.fixed c.args.state in let z = c.in_ok-desk.desk.table.shared.table_id in
    let now = split.made ∙ ap (λ m. (made_seat m.0, [])) inv.1 in let count : length c.loop.passes.items ≡ c.loop.counter = inv.3 in
    let number : c.loop.counter + 1 ≡ 1 + length c.loop.passes.items = omega (arith, count) in
    let P : ℕ → Pass g.row.S.Denot g.row.S-Item.Denot g.row.S-Fixed.Denot → Type 0 = λ n p. IsFresh z f n p.seat in (
      split.here.0 ∙ inv.0,
      split.maker ∙ ap (λ m. (maker_after m.0, m.1)) inv.1,
      subst (AllFrom P 1) (sym c.push_reserved.ensures.items)
          (AllFrom_push P 1 c.loop.passes.items _ inv.2 (ap (λ m. m.0.own.number) now ∙ number, (split.here.1 ∙ inv.0, ap (λ m. m.0.fixed) now, ap (λ m. m.0.others) now), (ap (λ m. m.0.role) now, ap (λ m. m.1) now), ap (λ m. m.0.own.seen) now, ap (λ m. m.0.own.mine) now)),
      search rules,
      search rules,
    )

pub returns-clause-passes : goal.returns-clause-passes
returns-clause-passes g c = let A : Type 0 = Pass g.row.S.Denot g.row.S-Item.Denot g.row.S-Fixed.Denot in let z = c.in_ok-desk.desk.table.shared.table_id in
    let P : g.row.S-Fixed.Denot → ℕ → A → Type 0 = λ f n p. IsFresh z f n p.seat in
    subst (λ f. EachAt (P f) c.loop.passes.items) (sym c.in_ok-desk.ensures.fixed) (each_of (P (g.S.Kept.fixed c.args.state)) c.loop.passes.items c.loop.invariant.2)
