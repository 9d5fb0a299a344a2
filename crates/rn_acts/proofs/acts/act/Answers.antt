-- By the rows of all nodes.
use Rattle.std.proofs.Common.{◌∙◌, ap, sym, subst}
use Rattle.std.specs.Prelude.{All, option_map}
use Rattle.std.proofs.lemmas.Result.{IfOk-weaker}
use Rattle.rn_model.specs.Firing.{all_effects}
use Rattle.rn_acts.specs.link.Acted.{nothing, with_effects}
use Rattle.rn_acts.proofs.ActLemmas.{rows_put}
use Rattle.rn_acts.proofs.RowsOfArcs.{put_of_arcs}
use Rattle.rn_calc.specs.OwnKinds.{HaveOwnKinds}
use Rattle.rn_acts.proofs.acts.act.Goals as goal

pub act_on-requires-clause-kinds : goal.act_on-requires-clause-kinds
act_on-requires-clause-kinds c =
    subst (All (HaveOwnKinds c.args.system.now)) (sym c.as_slice.ensures) c.requires.kinds

pub returns-clause-put : goal.returns-clause-put
returns-clause-put c =
    IfOk-weaker c.act_on.result _ _
    (λ acted is. rows_put c.args.system.now c.args.step c.args.binding.now.nodes acted
    (is ∙ ap (λ ns. option_map (with_effects c.args.system.now nothing)
    (all_effects c.args.system.now c.args.step ns)) c.as_slice.ensures))
    c.act_on.ensures

pub returns-clause-arcs : goal.returns-clause-arcs
returns-clause-arcs c =
    IfOk-weaker c.act_on.result _ _
    (λ acted is. put_of_arcs c.args.system.now c.args.step c.args.binding.now.nodes acted
    (is ∙ ap (λ ns. option_map (with_effects c.args.system.now nothing)
    (all_effects c.args.system.now c.args.step ns)) c.as_slice.ensures))
    c.act_on.ensures
