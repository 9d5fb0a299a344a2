use Rattle.std.proofs.Common.{◌≡◌, ◌<◌, length, take, rules, subst, sym}
use Rattle.std.specs.Prelude.{Some, slice_get}
use Rattle.rn_growing.specs.link.Grown.{KeepsGrowing, laid_at}
use Rattle.rn_growing.proofs.Growth.{stands_at, taken_back}
use Rattle.rn_growing.proofs.ThingKeys.{keys_taken}
use Rattle.rn_growing.proofs.growing.Growing.undo.Goals as goal

pub undo-requires-clause-keeps : goal.undo-requires-clause-keeps
undo-requires-clause-keeps c =
    let within : c.args.to < length c.self.inside.frames.items = search rules in
    let at : slice_get c.self.inside.frames.items c.args.to ≡ Some c.index.result.now =
    stands_at c.self.inside.frames.items c.args.to c.index.result.now within c.index.ensures in
    (c.self.invariant.0.before c.args.to c.index.result.now at).keeps

pub undo-requires-clause-laid : goal.undo-requires-clause-laid
undo-requires-clause-laid c =
    let within : c.args.to < length c.self.inside.frames.items = search rules in
    let at : slice_get c.self.inside.frames.items c.args.to ≡ Some c.index.result.now =
    stands_at c.self.inside.frames.items c.args.to c.index.result.now within c.index.ensures in
    (c.self.invariant.0.before c.args.to c.index.result.now at).laid_in

pub invariant_of-self : goal.invariant_of-self
invariant_of-self c =
    let within : c.args.to < length c.self.inside.frames.items = search rules in
    let at : slice_get c.self.inside.frames.items c.args.to ≡ Some c.index.result.now =
    stands_at c.self.inside.frames.items c.args.to c.index.result.now within c.index.ensures in
    let laid : c.undo.new.self ≡ laid_at c.self.inside.laid c.index.result.now = search rules in
    let decisions : c.truncate.new.self.items ≡ take c.args.to c.self.inside.decisions.items =
    search rules in
    let frames : c.truncate-then-to-len.new.self.items ≡ take c.args.to
    c.self.inside.frames.items = search rules in
    let keys : c.truncate-then-to-len-2.new.self ≡ take c.args.to c.self.inside.keys =
    search rules in (
      subst (λ fs. KeepsGrowing c.self.inside.system.now c.undo.new.self c.truncate.new.self.items
          fs) (sym frames)
          (subst (λ ds. KeepsGrowing c.self.inside.system.now c.undo.new.self ds
          (take c.args.to c.self.inside.frames.items)) (sym decisions)
          (subst (λ l. KeepsGrowing c.self.inside.system.now l
          (take c.args.to c.self.inside.decisions.items)
          (take c.args.to c.self.inside.frames.items))
          (sym laid)
          (taken_back c.self.inside.system.now c.self.inside.laid c.self.inside.decisions.items
          c.self.inside.frames.items c.args.to c.index.result.now c.self.invariant.0 at))),
      keys_taken c.args.to c.self.inside.decisions.items c.truncate.new.self.items
          c.self.inside.keys c.truncate-then-to-len-2.new.self c.self.invariant.1 keys decisions,
    )
