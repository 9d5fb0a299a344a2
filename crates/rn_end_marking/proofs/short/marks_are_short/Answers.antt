use Rattle.std.proofs.Common.{◌≡◌, ◌<◌, ◌∙◌, true, false, refl, sym, arith}
use Rattle.rn_live.specs.Rooms.{is_marked}
use Rattle.rn_end_marking.proofs.PouredLines.{live_below, short_at}
use Rattle.rn_end_marking.proofs.ShortLines.{short_line}
use Rattle.rn_end_marking.proofs.short.marks_are_short.Goals as goal

pub returns-then-not-are_short_at-clause-short : goal.returns-then-not-are_short_at-clause-short
returns-then-not-are_short_at-clause-short c =
    let marks = c.args.marks.now in
    let m = marks.table.now.marking in
    let n = c.loop-number.number in
    let marked : is_marked marks.live.now.marks n ≡ true = sym c.is_live.ensures ∙ c.if-is_live.true in (
      (λ is. absurd (let no : ⊥ = cc in no)),
      (λ short.
          let at = short_at marks.format marks.system.now marks.nets.now m n short ((c.requires.live n).0 marked) in
          let yes : c.are_short_at.result ≡ true = c.are_short_at.ensures.short.1 at in
          let other : c.are_short_at.result ≡ false = c.if-not-are_short_at.true in
          absurd (let no : ⊥ = cc in no)),
    )

pub returns-clause-short : goal.returns-clause-short
returns-clause-short c =
    let marks = c.args.marks.now in
    let m = marks.table.now.marking in
    let end = c.next-number-end.result in (
      (λ is line mark.
          let n = line.inst in
          let below = live_below m marks.live.now.marks marks.system.now c.requires.live end c.next-number-end.ensures.below n mark.live in
          let before : n < c.loop-number.number = omega (arith, below, c.loop-number-test.false) in
          short_line marks.format marks.system.now marks.nets.now m line mark
          (c.loop-number.invariant.short n before ((c.requires.live n).1 mark.live))),
      (λ short. refl),
    )
