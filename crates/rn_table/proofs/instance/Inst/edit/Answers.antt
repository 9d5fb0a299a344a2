use Rattle.std.proofs.Common.{ap, ◌∙◌}
use Rattle.rn_model.specs.Markings.{Instance}
use Rattle.rn_table.specs.link.Steps.{after_step}
use Rattle.rn_table.proofs.StepLemmas.{step_of_places}
use Rattle.rn_table.proofs.instance.Inst.edit.Goals as goal

pub returns : goal.returns
returns c =
    let i : Instance = record { number = c.self.inside.number; net = c.self.inside.net; places = c.self.inside.places } in
    ap (λ ps. record i { places = ps }) c.in_ok-edit.ensures
    ∙ step_of_places c.args.edit.now i (ap (λ (j : Instance). j.number) c.self.view_is ∙ c.requires)
    ∙ ap (after_step c.args.edit.now) c.self.view_is
