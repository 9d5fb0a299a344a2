use Rattle.std.proofs.Common.{rules, arith, ◌≡◌, ◌<◌, length, slice_index, subst}
use Rattle.rn_choices_uses.proofs.PuzzleLemmas.{goes_on, goes_on_alone}
use Rattle.rn_choices_uses.proofs.puzzle.FillingGrows.next.Goals as goal

pub returns-in-1-clause-says : goal.returns-in-1-clause-says
returns-in-1-clause-says c =
    let sizes = c.args.problem.now.sizes.now in
    let ds = c.args.self.now.values.items in
    let within : length ds < length sizes = search rules in
    let alone : slice_index sizes (length ds) ≡ 1 = search rules in
    let fits : 0 < slice_index sizes (length ds) = omega arith in (
      (within, fits),
      λ s led. goes_on_alone sizes c.args.problem.now.clashes.now ds s within
          alone led,
    )

pub returns-in_default-clause-says : goal.returns-in_default-clause-says
returns-in_default-clause-says c =
    let sizes = c.args.problem.now.sizes.now in
    let ds = c.args.self.now.values.items in
    let within : length ds < length sizes = search rules in
    let size : slice_index sizes (length ds) ≡ c.in-Some.size.now = search rules in (
      λ a below. let fits : a < slice_index sizes (length ds) = omega arith in (within, fits),
      λ s led.
          let goes = goes_on sizes c.args.problem.now.clashes.now ds s within led in
          (goes.0, subst (λ n. goes.0 < n) size goes.1, goes.2),
    )
