use Rattle.std.proofs.Common.{[], ◌≡◌, ◌∷◌, ◌++◌, length, map, append_assoc, length-append, sym, ap, ◌∙◌, subst, arith}
use Rattle.std.proofs.lemmas.List.{length-map, map-append, map_push}
use Rattle.std.specs.Slice.Iter.{chunks_rest}
use Rattle.rn_model.specs.Lists.{ordered_values}
use Rattle.rn_table.specs.link.Chunks.{AreChunks, joined}
use Rattle.rn_table.proofs.ChunkLemmas.{chunks_more, full_more, joined_more}
use Rattle.rn_table.proofs.places.chunks_of.Goals as goal

pub loop-piece-preserved : goal.loop-piece-preserved
loop-piece-preserved c =
    let loop = c.loop-piece.invariant in
    let steps = c.in-Some.ensures.steps in
    let rest = chunks_rest c.next.new.self in
    let before = map (λ k. k.value) c.loop-piece.chunks.items in
    let piece = map (λ p. ordered_values p.initial) c.in-Some.piece.now in
    let new : c.in_ok-new.field-0.value ≡ piece = c.in_ok-new.ensures.ok ∙ c.in_ok-chunk.ensures in
    let after : map (λ k. k.value) c.push.new.self.items ≡ before ++ piece ∷ []
    = ap (map (λ k. k.value)) c.in_ok-push.ensures.items ∙ map_push (λ k. k.value) c.loop-piece.chunks.items c.in_ok-new.field-0 ∙ ap (λ k. before ++ k ∷ []) new in
    let len : length piece ≡ length c.in-Some.piece.now = length-map c.in-Some.piece.now (λ p. ordered_values p.initial) in
    let full = loop.full (omega (arith, steps.1.2)) in
    record {
      size = steps.0 ∙ loop.size;
      places = ap (λ ks. joined ks ++ map (λ p. ordered_values p.initial) rest) after
          ∙ ap (λ ps. ps ++ map (λ p. ordered_values p.initial) rest) (joined_more before piece)
          ∙ append_assoc (joined before) piece (map (λ p. ordered_values p.initial) rest)
          ∙ ap (λ ps. joined before ++ ps) (sym (map-append (λ p. ordered_values p.initial) c.in-Some.piece.now rest) ∙ ap (map (λ p. ordered_values p.initial)) (sym steps.1.0))
          ∙ loop.places;
      chunks = subst AreChunks (sym after) (chunks_more before piece full (omega (arith, len, steps.1.1, loop.size)));
      full = λ more. full_more before piece (map (λ k. k.value) c.push.new.self.items) full (len ∙ omega (arith, more, steps.1.1, loop.size, ap length steps.1.0, length-append c.in-Some.piece.now rest)) after;
    }
