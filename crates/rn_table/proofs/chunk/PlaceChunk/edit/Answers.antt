use Rattle.std.proofs.Common.{[], map, set, sym, ap, ◌∙◌, arith}
use Rattle.std.proofs.lemmas.List.{get_or-map, map-set}
use Rattle.rn_table.specs.link.Steps.{stepped, with_step}
use Rattle.rn_table.proofs.chunk.PlaceChunk.edit.Goals as goal

pub returns-clause-places : goal.returns-clause-places
returns-clause-places c =
    let bags = c.self.inside.bags.items in
    let was = c.index_mut.result.now in
    map-set (λ b. b.value) bags c.args.index c.edit_shared.new.bag
    ∙ ap (set (map (λ b. b.value) bags) c.args.index) (c.in_ok-edit_shared.ensures ∙ ap (stepped c.args.edit.now) (ap (λ b. b.value) c.index_mut.ensures.value ∙ sym (get_or-map (λ b. b.value) bags c.args.index was [] (omega (arith, c.if-index-len.false, c.len.ensures)))))
    ∙ ap (with_step c.args.edit.now c.args.index) c.self.view_is
