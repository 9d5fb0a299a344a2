-- By the arguments of the uplink.
use Rattle.std.proofs.Common.{◌≡◌, ◌∙◌, [], sym, ap, subst}
use Rattle.std.specs.Option.{option_map_or}
use Rattle.std.proofs.lemmas.Result.{on_ok_weaker}
use Rattle.rn_model.specs.declared.system.Uplink.{Uplink}
use Rattle.rn_looking.specs.AnswerKinds.{PutsArgs}
use Rattle.rn_looking.proofs.answers.uplink_differs.Goals as goal

pub returns-in-Some : goal.returns-in-Some
returns-in-Some c =
    let args = ap (λ o. option_map_or (λ (u : Uplink). u.args) o []) c.in-Some.is in
    on_ok_weaker c.args_differ.result
    (λ puts. subst (λ args. PutsArgs args c.args.values.now c.args.pairs.now.items
    c.args_differ.new.pairs.items) (c.as_slice.ensures ∙ sym args) puts) c.args_differ.ensures
