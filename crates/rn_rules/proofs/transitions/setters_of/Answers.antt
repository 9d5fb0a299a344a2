-- One more action, or none.
use Rattle.std.proofs.Common.{◌≡◌, ◌∙◌, ap, sym, arith, List, ℕ, [], ◌∷◌, ◌++◌, ◌+◌, take, length, append-nil}
use Rattle.std.proofs.lemmas.List.{length-append}
use Rattle.rn_declared.specs.Names.{number_among}
use Rattle.rn_rules.specs.Actions.{set_name, set_names}
use Rattle.rn_declared.specs.link.Tables.{found_in}
use Rattle.rn_rules.proofs.TransitionLemmas.{set_names_more, setters_more, sets_none}
use Rattle.rn_rules.proofs.transitions.setters_of.Goals as goal
use Rattle.rn_rules.proofs.transitions.setters_of.Goals.{in-Set+in_ok-declare, in_default}

pub loop-inscription-preserved : goal.loop-inscription-preserved
loop-inscription-preserved c =
    let is = c.args.inscriptions.now in
    let i = c.loop-inscription.inscription-index in
    let x = c.inscription-item.result in
    let before : List (List ℕ) = set_names (take i is) in
    let all : List (List ℕ) = set_names (take (i + 1) is) in
    let more : all ≡ before ++ set_name x.form = set_names_more is i x c.loop-inscription-test.true c.inscription-item.is in
    elim c.match-inscription.branch [
      | in-Set+in_ok-declare w ↦
          let name : List ℕ = w.in-Set.var.text in
          let pushed : all ≡ before ++ name ∷ [] =
          more ∙ ap (λ form. before ++ set_name form) w.in-Set.is in
          let size : length all ≡ length before + 1 = ap length pushed ∙ length-append before (name ∷ []) in
          record {
            found = λ other.
                ap (λ table. found_in table other) w.table-is
                ∙ setters_more before all name c.loop-inscription.count (found_in c.loop-inscription.table)
                (found_in w.declare.new.self) c.loop-inscription.invariant.count pushed
                c.loop-inscription.invariant.found w.in_ok-declare.ensures.found other;
            count = w.count-is ∙ ap (λ n. n + 1) c.loop-inscription.invariant.count ∙ sym size;
            few = omega (arith, w.count-is, c.loop-inscription.invariant.few);
          }
      | in_default w ↦
          let same : all ≡ before =
          more ∙ ap (λ names. before ++ names) (sets_none x.form w.in_default.not-Set) ∙ append-nil before in
          record {
            found = λ other.
                ap (λ table. found_in table other) w.table-is
                ∙ c.loop-inscription.invariant.found other
                ∙ ap (λ names. number_among names other) (sym same);
            count = w.count-is ∙ c.loop-inscription.invariant.count ∙ ap length (sym same);
            few = omega (arith, w.count-is, c.loop-inscription.invariant.few);
          }
    ]
