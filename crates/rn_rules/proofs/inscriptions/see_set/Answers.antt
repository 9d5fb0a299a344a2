-- The variable, and its value.
use Rattle.std.proofs.Common.{◌∙◌, ap, sym, List}
use Rattle.std.specs.Prelude.{option_copied}
use Rattle.rn_declared.specs.declared.fault.Fault.{Fault}
use Rattle.rn_declared.specs.Faults.{first_from}
use Rattle.rn_rules.specs.Expressions.{Seen, seen_of}
use Rattle.rn_rules.specs.Actions.{set_faults, value_faults}
use Rattle.rn_rules.specs.Transitions.{in_action, set_action_faults}
use Rattle.rn_rules.specs.link.Scopes.{scope_in, progress_of}
use Rattle.rn_declared.proofs.ToldLemmas.{first_from-append}
use Rattle.rn_rules.proofs.inscriptions.see_set.Goals as goal

pub returns : goal.returns
unfolding set_action_faults
returns g c =
    let s = scope_in c.args.known.now in
    let p = progress_of c.args.stand.now in
    let known = c.args.first.now.fault in
    let var = c.args.var.now in
    let v : Seen = seen_of c.args.value.now (in_action s p) in
    let left : List Fault = set_faults (s.pattern_of_var var.text) (p.setter var.text) p.past var in
    c.in_ok-see_value.ensures
    ∙ ap (λ k. first_from k (value_faults (option_copied c.pattern.result) v)) c.see_left.ensures
    ∙ ap (λ o. first_from (first_from known left) (value_faults o v)) c.pattern.ensures
    ∙ sym (first_from-append left (value_faults (s.pattern_of_var var.text) v) known)
