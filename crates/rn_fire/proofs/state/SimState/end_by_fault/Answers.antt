-- The nets that the binding names come with the end.
use Rattle.std.proofs.Common.{◌++◌, map, ap, sym, subst, ◌∙◌}
use Rattle.rn_model.specs.declared.log.Entry.TheVariants.{End}
use Rattle.rn_model.specs.declared.log.Reason.{Reason}
use Rattle.rn_model.specs.declared.log.Reason.TheVariants.{Fault}
use Rattle.rn_model.specs.Firing.{creations_of}
use Rattle.rn_fire.specs.Ends.{MayEndBy, with_end}
use Rattle.rn_fire.specs.link.States.{KeepsRun}
use Rattle.rn_fire.specs.declared.setup.Setup.{Setup}
use Rattle.rn_fire.proofs.NetLemmas.{made_are, nets_follow}
use Rattle.rn_fire.proofs.StateLemmas.{ends, keeps_ended}
use Rattle.rn_fire.proofs.state.SimState.end_by_fault.Goals as goal

pub invariant_of-self-2 : goal.invariant_of-self-2
invariant_of-self-2 c =
    let setup : Setup = record { system = c.self.inside.system.value; options = c.self.inside.options } in
    let b = c.args.binding in
    let reason : Reason = Fault c.args.cause b in
    let table = c.self.inside.table in
    let before = c.self.inside.entries.items in
    let after = c.push_reserved.new.self.items in
    let going = ap (λ s. s.ended) c.self.view_is ∙ c.requires.going in
    let true_end = subst (λ s. MayEndBy s reason) (sym c.self.view_is) c.requires.true_end in
    let made = c.in_ok-made.made in
    let longer = c.add_nets.ensures ∙ ap (λ made. c.reserve.new.self.items ++ made) c.as_slice.ensures
    ∙ ap (λ nets. nets ++ made) c.reserve.ensures.items in
    let own = c.in_ok-made.ensures ∙ ap (λ s. map (λ c. c.net) (creations_of s b)) c.deref.ensures ∙ made_are setup.system b in
    record {
      run = subst (λ room. KeepsRun setup after room table) (sym c.push_reserved.ensures.capacity)
          (keeps_ended setup before _ table c.self.invariant.run going reason after c.push_reserved.ensures.items true_end);
      nets = nets_follow setup.system before after (End reason) c.self.inside.nets.items c.add_nets.new.nets.items made
          c.self.invariant.nets c.push_reserved.ensures.items longer own;
      live = c.self.invariant.live;
    }

pub returns-clause-ok : goal.returns-clause-ok
returns-clause-ok c =
    let setup : Setup = record { system = c.self.inside.system.value; options = c.self.inside.options } in
    let reason : Reason = Fault c.args.cause c.args.binding in
    let going = ap (λ s. s.ended) c.self.view_is ∙ c.requires.going in
    let true_end = subst (λ s. MayEndBy s reason) (sym c.self.view_is) c.requires.true_end in
    ends setup c.self.inside.entries.items _ c.self.inside.table c.self.invariant.run going reason
    c.push_reserved.new.self.items c.push_reserved.ensures.items true_end
    ∙ ap (with_end reason) c.self.view_is
