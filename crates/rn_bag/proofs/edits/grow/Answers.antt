use Rattle.std.proofs.Common.{◌≡◌, ap, sym, ◌∙◌, subst, length}
use Rattle.std.proofs.lemmas.List.{get_or_read}
use Rattle.rn_bag.specs.link.Chunks.{Slots, Replaces, tokens_in_chunk}
use Rattle.rn_bag.proofs.EditLemmas.{on_ok_then, full_grown}
use Rattle.rn_bag.proofs.edits.grow.Goals as goal

pub returns-then-count-eq-ROOM-clause-ok : goal.returns-then-count-eq-ROOM-clause-ok
returns-then-count-eq-ROOM-clause-ok c =
    on_ok_then _ _ c.put_after.result
    (λ after x is.
    let same : c.at-chunk.result ≡ x = c.at-chunk.ensures.chunk ∙ sym (get_or_read c.args.chunks.now c.args.at.chunk x c.requires.chunk is c.at-chunk.result) in
    let full = full_grown x c.args.at.slot c.args.value
    (c.if-at-values.true ∙ ap length c.values.ensures.value ∙ ap (λ (s : Slots). length s.values) same)
    (ap (λ (s : Slots). length (tokens_in_chunk s)) (sym same) ∙ sym c.count-count.ensures.count ∙ c.if-count-at.true) in
    subst (λ ws. Replaces c.args.chunks.now c.args.at.chunk ws c.put_after.new.chunks) full.1 (after x is full.0))
    c.put_after.ensures.ok

pub put_last-requires-clause-tokens : goal.put_last-requires-clause-tokens
put_last-requires-clause-tokens c = λ x is.
    let same : c.at-chunk.result ≡ x = c.at-chunk.ensures.chunk ∙ sym (get_or_read c.args.chunks.now c.args.at.chunk x c.requires.chunk is c.at-chunk.result) in
    (full_grown x c.args.at.slot c.args.value
    (c.if-at-values.true ∙ ap length c.values.ensures.value ∙ ap (λ (s : Slots). length s.values) same)
    (ap (λ (s : Slots). length (tokens_in_chunk s)) (sym same) ∙ sym c.count-count.ensures.count ∙ c.if-count-at.true)).0

pub returns-then-count-at-clause-ok : goal.returns-then-count-at-clause-ok
returns-then-count-at-clause-ok c =
    on_ok_then _ _ c.put_last.result
    (λ after x is.
    let same : c.at-chunk.result ≡ x = c.at-chunk.ensures.chunk ∙ sym (get_or_read c.args.chunks.now c.args.at.chunk x c.requires.chunk is c.at-chunk.result) in
    let full = full_grown x c.args.at.slot c.args.value
    (c.if-at-values.true ∙ ap length c.values.ensures.value ∙ ap (λ (s : Slots). length s.values) same)
    (ap (λ (s : Slots). length (tokens_in_chunk s)) (sym same) ∙ sym c.count-count.ensures.count ∙ c.if-count-at.true) in
    subst (λ ws. Replaces c.args.chunks.now c.args.at.chunk ws c.put_last.new.chunks) full.1 (after x is))
    c.put_last.ensures.ok
