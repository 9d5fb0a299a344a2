use Rattle.std.proofs.Common.{ℕ, List, Some, ap, map}
use Rattle.std.specs.Prelude.{string_bytes}
use Rattle.rn_outside.specs.InMemory.{SourceState, SinkState}
use Rattle.renew_rows.proofs.Writing.{writes_same}
use Rattle.renew_rows.proofs.calling.make.Goals as goal

pub returns : goal.returns
returns g c =
    let after = c.renew_top-status.new in
    let held : SinkState → List ℕ = λ s. s.held in
    let left : SourceState → List ℕ = λ s. s.left in (
      c.renew_top-status.ensures.only,
      λ own. (
        Some after.input.left,
        writes_same (map string_bytes c.as_slice-words.result.now) (map string_bytes c.args.call.words.items) c.new-input.result.left c.args.call.input.items c.in_ok-out.out.held c.in_ok-err.err.held (Some after.input.left) (Some after.out.held) (Some after.err.held) c.renew_top-status.result
            (ap (λ words. map string_bytes words) c.as_slice-words.ensures.value)
            (ap left c.new-input.ensures) (ap held c.in_ok-out.ensures) (ap held c.in_ok-err.ensures)
            (c.renew_top-status.ensures.writes own),
      ),
    )
