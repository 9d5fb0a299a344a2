use Rattle.std.proofs.Common.{ℕ, ◌≡◌, ◌++◌, ◌∷◌, Some, slice_get, List, get_or, ◌∙◌, subst, arith}
use Rattle.std.proofs.lemmas.List.{get_or_read}
use Rattle.rn_model.specs.Lists.{with_value}
use Rattle.rn_bag.specs.link.SlotIndices.{tokens_before, tokens_after}
use Rattle.rn_bag.specs.declared.cut.Cut.TheVariants.{Below}
use Rattle.rn_bag.specs.link.Chunks.{Slots, tokens_in}
use Rattle.rn_bag.proofs.BagLemmas.{put_again, put_anew}
use Rattle.rn_bag.proofs.EditLemmas.{on_ok_then}
use Rattle.rn_bag.proofs.SlotIndexLemmas.{chunk_ascends, rest_of_chunk}
use Rattle.rn_bag.proofs.bag.Bag.insert.Goals as goal

pub returns-in-Some-clause-ok : goal.returns-in-Some-clause-ok
returns-in-Some-clause-ok c =
    let at : (d : Slots) → slice_get (get_or c.self.inside.chunks c.seek-from.result.chunk d).values c.in-Some.slot ≡ Some c.args.value = λ d. subst (λ (s : Slots). slice_get s.values c.in-Some.slot ≡ Some c.args.value) (get_or_read c.self.inside.chunks c.seek-from.result.chunk c.at.result (omega arith) c.at.ensures.chunk d) c.in-Some.ensures.here in
    c.put_back.ensures.tokens c.args.value at
    ∙ put_again c.args.value c.self.inside.chunks c.args.self.now c.seek-from.result.chunk c.seek-from.result.slot c.in-Some.slot c.at.result c.self.view_is (omega arith) c.at.ensures.chunk c.in-Some.ensures.inside.0 c.in-Some.ensures.inside.1 c.in-Some.ensures.here c.in-Some.ensures.free c.in-Some.ensures.equal
    c.seek-from.ensures.before c.seek-from.ensures.rest

pub free_from-requires-clause-ascends : goal.free_from-requires-clause-ascends
free_from-requires-clause-ascends c =
    chunk_ascends c.self.inside.chunks c.seek-from.result.chunk c.at.result c.self.invariant.ascend (omega arith) c.at.ensures.chunk

pub free_from-requires-clause-rest : goal.free_from-requires-clause-rest
free_from-requires-clause-rest c =
    rest_of_chunk Below c.args.value c.self.inside.chunks c.seek-from.result.chunk c.seek-from.result.slot c.at.result (omega arith) c.at.ensures.chunk
    c.seek-from.ensures.rest

pub returns-clause-ok : goal.returns-clause-ok
returns-clause-ok c =
    let i : ℕ = c.seek-past.result.chunk in
    let n : ℕ = c.seek-past.result.slot in
    let ss : List Slots = c.self.inside.chunks in
    on_ok_then (tokens_in c.put_new.new.chunks ≡ tokens_before ss i n ++ c.args.value ∷ tokens_after ss i n) (tokens_in c.put_new.new.chunks ≡ with_value c.args.value c.args.self.now) c.put_new.result
    (λ e. e ∙ put_anew c.args.value ss c.args.self.now i n c.self.invariant.ascend c.self.view_is
    c.seek-past.ensures.before
    c.seek-past.ensures.rest)
    c.put_new.ensures.ok
