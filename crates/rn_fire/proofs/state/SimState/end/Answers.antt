-- One entry more, where there is room.
use Rattle.std.proofs.Common.{◌≡◌, [], ap, sym, subst, ◌∙◌}
use Rattle.rn_model.specs.declared.log.Entry.TheVariants.{End}
use Rattle.rn_spell.specs.Made.{made_in}
use Rattle.rn_fire.specs.Ends.{MayEndBy, with_end}
use Rattle.rn_fire.specs.link.States.{KeepsRun}
use Rattle.rn_fire.specs.declared.setup.Setup.{Setup}
use Rattle.rn_fire.proofs.NetLemmas.{nets_stay}
use Rattle.rn_fire.proofs.StateLemmas.{ends, keeps_ended}
use Rattle.rn_fire.proofs.state.SimState.end.Goals as goal

pub invariant_of-self : goal.invariant_of-self
invariant_of-self c =
    let setup : Setup = record { system = c.self.inside.system.value; options = c.self.inside.options } in
    let going = ap (λ s. s.ended) c.self.view_is ∙ c.requires.going in
    let true_end = subst (λ s. MayEndBy s c.args.reason) (sym c.self.view_is) c.requires.true_end in
    let none = subst (λ s. made_in s.setup.system (End c.args.reason) ≡ []) (sym c.self.view_is) c.requires.none in
    record {
      run = subst (λ room. KeepsRun setup c.push_reserved.new.self.items room c.self.inside.table) (sym c.push_reserved.ensures.capacity)
          (keeps_ended setup c.self.inside.entries.items _ c.self.inside.table c.self.invariant.run going c.args.reason
          c.push_reserved.new.self.items c.push_reserved.ensures.items true_end);
      nets = nets_stay setup.system c.self.inside.entries.items c.push_reserved.new.self.items (End c.args.reason)
          c.self.inside.nets.items c.self.invariant.nets c.push_reserved.ensures.items none;
      live = c.self.invariant.live;
    }

pub returns : goal.returns
returns c =
    let setup : Setup = record { system = c.self.inside.system.value; options = c.self.inside.options } in
    let going = ap (λ s. s.ended) c.self.view_is ∙ c.requires.going in
    let true_end = subst (λ s. MayEndBy s c.args.reason) (sym c.self.view_is) c.requires.true_end in
    ends setup c.self.inside.entries.items _ c.self.inside.table c.self.invariant.run going c.args.reason
    c.push_reserved.new.self.items c.push_reserved.ensures.items true_end
    ∙ ap (with_end c.args.reason) c.self.view_is
