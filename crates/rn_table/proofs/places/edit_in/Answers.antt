use Rattle.std.proofs.Common.{◌≡◌, ◌+◌, ◌*◌, ◌/◌, ◌%◌, map, set, sym, ap, ◌∙◌, subst, arith}
use Rattle.std.proofs.lemmas.List.{length-map, map-set}
use Rattle.rn_table.specs.link.Chunks.{AreChunks, joined}
use Rattle.rn_table.specs.link.Steps.{with_step}
use Rattle.rn_table.proofs.StepLemmas.{read_map}
use Rattle.rn_table.proofs.ChunkLemmas.{chunks_stay, joined_few, step_in, step_past}
use Rattle.rn_table.proofs.places.edit_in.Goals as goal

pub returns-then-at-len-clause-places : goal.returns-then-at-len-clause-places
returns-then-at-len-clause-places c =
    let chunks = map (λ k. k.value) c.args.chunks.now.items in
    step_past c.args.edit.now c.args.place (joined chunks) (omega (arith, joined_few chunks c.requires, c.if-at-len.true, c.len.ensures, length-map c.args.chunks.now.items (λ k. k.value)))

pub returns-in_err-edit_chunk-clause-chunks : goal.returns-in_err-edit_chunk-clause-chunks
returns-in_err-edit_chunk-clause-chunks c =
    let chunks = map (λ k. k.value) c.args.chunks.now.items in
    subst AreChunks (sym (map-set (λ k. k.value) c.args.chunks.now.items (c.args.place / 32) c.edit_chunk.new.chunk))
    (chunks_stay chunks (c.args.place / 32) c.index_mut.result.now.value c.edit_chunk.new.chunk.value c.requires (read_map (λ k. k.value) c.args.chunks.now.items (c.args.place / 32) c.index_mut.result.now (omega (arith, c.if-at-len.false, c.len.ensures)) c.index_mut.ensures.value) c.in_err-edit_chunk.ensures.len)

pub returns-clause-places : goal.returns-clause-places
returns-clause-places c =
    let chunks = map (λ k. k.value) c.args.chunks.now.items in
    let whole : 32 * (c.args.place / 32) + c.args.place % 32 ≡ c.args.place = omega arith in
    ap joined (map-set (λ k. k.value) c.args.chunks.now.items (c.args.place / 32) c.edit_chunk.new.chunk)
    ∙ ap (λ k. joined (set chunks (c.args.place / 32) k)) c.in_ok-edit_chunk.ensures.places
    ∙ step_in c.args.edit.now chunks (c.args.place / 32) (c.args.place % 32) c.index_mut.result.now.value c.requires (omega arith) (omega (arith, c.if-at-len.false, c.len.ensures, length-map c.args.chunks.now.items (λ k. k.value))) (read_map (λ k. k.value) c.args.chunks.now.items (c.args.place / 32) c.index_mut.result.now (omega (arith, c.if-at-len.false, c.len.ensures)) c.index_mut.ensures.value)
    ∙ ap (λ n. with_step c.args.edit.now n (joined chunks)) whole

pub returns-clause-chunks : goal.returns-clause-chunks
returns-clause-chunks c =
    let chunks = map (λ k. k.value) c.args.chunks.now.items in
    subst AreChunks (sym (map-set (λ k. k.value) c.args.chunks.now.items (c.args.place / 32) c.edit_chunk.new.chunk))
    (chunks_stay chunks (c.args.place / 32) c.index_mut.result.now.value c.edit_chunk.new.chunk.value c.requires (read_map (λ k. k.value) c.args.chunks.now.items (c.args.place / 32) c.index_mut.result.now (omega (arith, c.if-at-len.false, c.len.ensures)) c.index_mut.ensures.value) c.in_ok-edit_chunk.ensures.len)
