use Rattle.std.proofs.Common.{rules, arith, ◌≡◌, ℕ, ◌+◌, ◌∷◌, ◌++◌, sym, ap, ◌∙◌, subst, length, map}
use Rattle.rn_desk.specs.declared.desk.Pass.{Pass}
use Rattle.rn_desk.specs.declared.view.Part.{Part}
use Rattle.rn_desk.specs.link.Seats.{IsBack, IsIn}
use Rattle.rn_desk.specs.declared.view.SeatRole.TheVariants.{Idle}
use Rattle.rn_desk.specs.Turns.{parts_of, parts_count, Every, PartFits}
use Rattle.rn_desk.proofs.Numbering.{AllFrom, each_of, all_of, first_removed, first_joined, next_joined, all_joined, length-parts, all_in}
use Rattle.rn_desk.proofs.Keeping.{parts_in}
use Rattle.rn_desk.proofs.closing.close.Goals as goal

pub loop-rest-init : goal.loop-rest-init
loop-rest-init g c = let A : Type 0 = Pass g.row.S.Denot g.row.S-Item.Denot g.row.S-Fixed.Denot in let z = c.args.desk.table.shared in
    let P : ℕ → A → Type 0 = λ n p. IsBack z.table_id (g.S.Kept.fixed z.key.state.value) n p.seat in
    let own : A → Part g.row.S-Item.Denot = λ p. p.seat.me.0.own in
    let x : A = c.remove-whole.result in let xs = c.args.passes.items in let rest = c.remove-whole.new.self.items in
    let a = c.requires.seats in let b = c.args.desk.seats in let l = c.args.passes.ok.0 in
    let split : xs ≡ x ∷ rest = first_removed xs x (omega (arith, a, b, l)) c.remove-whole.ensures.value ∙ ap (λ r. x ∷ r) (sym c.remove-whole.ensures.items) in
    let all : AllFrom P 1 (x ∷ rest) = subst (AllFrom P 1) split (all_of P xs c.requires.passes) in
    (all.0.1.0, all.0.2.0, (2, all.1), first_joined own xs rest x _ split all.0.1.2)

pub join_seat-requires : goal.join_seat-requires
join_seat-requires g c = let A : Type 0 = Pass g.row.S.Denot g.row.S-Item.Denot g.row.S-Fixed.Denot in let z = c.args.desk.table.shared in
    let P : ℕ → A → Type 0 = λ n p. IsBack z.table_id (g.S.Kept.fixed z.key.state.value) n p.seat in
    let x : A = c.remove-seat.result in let xs = c.loop-rest.rest.items in let rest = c.remove-seat.new.self.items in let inv = c.loop-rest.invariant in
    let split : xs ≡ x ∷ rest = first_removed xs x (search rules) c.remove-seat.ensures.value ∙ ap (λ r. x ∷ r) (sym c.remove-seat.ensures.items) in
    let all : AllFrom P inv.2.0 (x ∷ rest) = subst (AllFrom P inv.2.0) split inv.2.1 in
    record { here = (inv.0, all.0.1.0); idle = (inv.1, all.0.2.0, all.0.2.1) }

pub loop-rest-preserved : goal.loop-rest-preserved
loop-rest-preserved g c = let A : Type 0 = Pass g.row.S.Denot g.row.S-Item.Denot g.row.S-Fixed.Denot in let z = c.args.desk.table.shared in
    let P : ℕ → A → Type 0 = λ n p. IsBack z.table_id (g.S.Kept.fixed z.key.state.value) n p.seat in
    let own : A → Part g.row.S-Item.Denot = λ p. p.seat.me.0.own in
    let x : A = c.remove-seat.result in let xs = c.loop-rest.rest.items in let rest = c.remove-seat.new.self.items in let inv = c.loop-rest.invariant in
    let split : xs ≡ x ∷ rest = first_removed xs x (search rules) c.remove-seat.ensures.value ∙ ap (λ r. x ∷ r) (sym c.remove-seat.ensures.items) in
    let all : AllFrom P inv.2.0 (x ∷ rest) = subst (AllFrom P inv.2.0) split inv.2.1 in
    let now = c.join_seat.ensures.both in (
      c.join_seat.ensures.here ∙ inv.0,
      ap (λ m. m.0.role) now ∙ inv.1,
      (inv.2.0 + 1, all.1),
      ap (λ m. (m.0.own ∷ m.0.others) ++ map own rest) now ∙ next_joined own (map own c.args.passes.items) xs rest x _ _ _ split all.0.1.2 inv.3,
    )

pub last_state-requires-clause-all : goal.last_state-requires-clause-all
last_state-requires-clause-all g c = let own : Pass g.row.S.Denot g.row.S-Item.Denot g.row.S-Fixed.Denot → Part g.row.S-Item.Denot = λ p. p.seat.me.0.own in
    let inv = c.loop-rest.invariant in let v = c.loop-rest.whole.me.0 in let xs = c.args.passes.items in
    let l = c.len.ensures in let t = c.loop-rest-test.false in let o = c.loop-rest.rest.ok.0 in
    let has : parts_of v ≡ map own xs = parts_in v Idle inv.1 ∙ all_joined own xs c.loop-rest.rest.items _ (omega (arith, l, t, o)) inv.3 in
    let count : parts_count v ≡ length xs = ap length has ∙ length-parts own xs in let a = c.requires.seats in let b = c.args.passes.ok.0 in omega (arith, count, a, b)

pub returns-clause-passes : goal.returns-clause-passes
returns-clause-passes g c = let A : Type 0 = Pass g.row.S.Denot g.row.S-Item.Denot g.row.S-Fixed.Denot in let z = c.args.desk.table.shared in
    let own : A → Part g.row.S-Item.Denot = λ p. p.seat.me.0.own in
    let inv = c.loop-rest.invariant in let v = c.loop-rest.whole.me.0 in let xs = c.args.passes.items in
    let l = c.len.ensures in let t = c.loop-rest-test.false in let o = c.loop-rest.rest.ok.0 in
    let has : parts_of v ≡ map own xs = parts_in v Idle inv.1 ∙ all_joined own xs c.loop-rest.rest.items _ (omega (arith, l, t, o)) inv.3 in
    let P : ℕ → A → Type 0 = λ n p. IsBack z.table_id (g.S.Kept.fixed z.key.state.value) n p.seat in
    let log = g.S.Kept.entries c.last_state.result in
    let Q : ℕ → A → Type 0 = λ n p. IsIn g.S.Kept.author log n p.seat in
    each_of Q xs (all_in own g.S.Kept.author log P (λ k p h. h.0) 1 xs (all_of P xs c.requires.passes) (subst (Every (PartFits g.S.Kept.author log)) has c.last_state.ensures.parts))
