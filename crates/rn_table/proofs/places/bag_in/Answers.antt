use Rattle.std.proofs.Common.{◌≡◌, ◌+◌, ◌*◌, ◌/◌, ◌%◌, map, slice_get, sym, ap, ◌∙◌, arith}
use Rattle.std.proofs.lemmas.List.{length-map}
use Rattle.rn_table.specs.link.Chunks.{joined}
use Rattle.rn_table.proofs.StepLemmas.{read_map}
use Rattle.rn_table.proofs.ChunkLemmas.{get_in, get_past}
use Rattle.rn_table.proofs.places.bag_in.Goals as goal

pub returns-then-at-chunks : goal.returns-then-at-chunks
returns-then-at-chunks c =
    sym (get_past (map (λ k. k.value) c.args.chunks.now) c.args.place c.requires (omega (arith, c.if-at-chunks.true, length-map c.args.chunks.now (λ k. k.value))))

pub returns : goal.returns
returns c =
    let chunks = map (λ k. k.value) c.args.chunks.now in
    let whole : 32 * (c.args.place / 32) + c.args.place % 32 ≡ c.args.place = omega arith in
    c.get.ensures ∙ ap (λ k. slice_get k (c.args.place % 32)) c.deref.ensures
    ∙ sym (get_in chunks (c.args.place / 32) (c.args.place % 32) c.index-chunks-at.result.value c.requires (omega arith) (omega (arith, c.if-at-chunks.false, length-map c.args.chunks.now (λ k. k.value))) (read_map (λ k. k.value) c.args.chunks.now (c.args.place / 32) c.index-chunks-at.result c.if-at-chunks.false c.index-chunks-at.is))
    ∙ ap (slice_get (joined chunks)) whole
