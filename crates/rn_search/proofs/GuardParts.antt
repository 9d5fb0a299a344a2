-- Guards of which a part is known.
use Rattle.std.proofs.Common.{◌≡◌, true, sym, ap, ◌∙◌, subst}
use Rattle.std.specs.Prelude.{Some, Contains}
use Rattle.std.proofs.lemmas.List.Elements.{All-contains}
use Rattle.rn_model.specs.Agreement.{NodeAgrees}
use Rattle.rn_model.specs.Bindings.{env_of}
use Rattle.rn_model.specs.Evaluation.{worth, truth, simple_truth, IsTrueUnder}
use Rattle.rn_model.specs.Systems.{transition_of}
use Rattle.rn_model.proofs.ReadConditions.{truths_look_up}
use Rattle.rn_model.proofs.TruthLemmas.{simple_truth-Compare, simple_truth-Not}
use Rattle.rn_growing.specs.Decisions.{transition_in}
use Rattle.rn_search.specs.Missing.{IsKnown}
use Rattle.rn_search.specs.Parting.{answer_of, KnownPartsHold}
use Rattle.rn_search.proofs.Following.{entered_node}
use Rattle.rn_search.proofs.Known.{known_is_so, read_same}
use Rattle.rn_search.proofs.TrueParts.{each_true, holds_by_list, not_true}

-- some list of a guard of an entered node is true, as far as it is known
pub known_parts_hold : KnownPartsHold
known_parts_hold sought ds b head guard leads turns some entered there =
    let system = sought.system in
    let n = entered_node system b ds leads.follows.0 leads.follows.1 head entered in
    let node = n.0 in
    let own = env_of system node in
    let agrees : NodeAgrees system node =
    All-contains (NodeAgrees system) b.nodes node leads.enabled.agrees.nodes n.1 in
    let guard_there : Contains (transition_of system node).guards guard =
    subst (λ h. Contains (transition_in system h).guards guard) n.2 there in
    let list = holds_by_list guard own
    (All-contains (IsTrueUnder own) (transition_of system node).guards guard agrees.guards
    guard_there) in (
      list.0,
      list.1,
      λ one among. record {
        comparison = λ kind left right env other is knows knows_right.
            let here = subst (λ z. simple_truth z own ≡ Some true) is
            (each_true list.0 one own list.2 among) in
            let first = known_is_so sought ds b node left env leads turns some n.1
            (subst (λ h. IsKnown system ds h left env) n.2 knows) in
            let second = known_is_so sought ds b node right other leads turns some n.1
            (subst (λ h. IsKnown system ds h right other) n.2 knows_right) in
            ap (answer_of kind (worth left env)) second
            ∙ ap (λ v. answer_of kind v (worth right own)) first
            ∙ sym (simple_truth-Compare kind left right own) ∙ here;
        negated = λ cond env is knows.
            let here = subst (λ z. simple_truth z own ≡ Some true) is
            (each_true list.0 one own list.2 among) in
            truths_look_up cond env own
            (λ e side. read_same sought ds b node e env leads turns some n.1
            (subst (λ h. IsKnown system ds h e env) n.2 (knows e side)))
            ∙ not_true (truth cond own) (sym (simple_truth-Not cond own) ∙ here);
      },
    )
