use Rattle.std.proofs.Common.{◌≡◌, ◌-◌, ◌+◌, ◌∷◌, [], ◌++◌, ◌∙◌, arith, length}
use Rattle.std.proofs.Common.{true, false, rules}
use Rattle.rn_arcs.specs.Demanded.{fill_place}
use Rattle.rn_arcs.specs.link.Fillings.{pour_place, fill_of, joined_pour, with_pour}
use Rattle.rn_arcs.specs.Places.{is_at}
use Rattle.rn_arcs.proofs.JoiningItems.{joins, comes_after, comes_first}
use Rattle.rn_arcs.proofs.filling.put_pour.Goals as goal
use Rattle.rn_arcs.proofs.filling.put_pour.Goals.{then-rows-gt0+else-is_eq, else-rows-gt0}

pub returns-then-is_eq : goal.returns-then-is_eq
returns-then-is_eq c =
    let fs = c.args.fills.now.items in
    let n = c.len-rows.result - 1 in
    let count : length fs ≡ n + 1 = omega arith in
    let here : is_at (fill_place c.index-last.result.now) (pour_place c.args.pour.now) ≡ true =
    search rules in
    joins fill_place pour_place fill_of joined_pour fs c.args.pour.now n
    c.index-last.result.now c.index_mut.result.now c.add.new.self count c.index-last.ensures
    c.index_mut.ensures.value here c.add.ensures

pub returns : goal.returns
returns c =
    let fs = c.args.fills.now.items in
    let pour = c.args.pour.now in
    let now = c.in_ok-fill.fill in
    let came : fs ++ now ∷ [] ≡ with_pour fs pour =
    elim c.if-rows-gt0.branch [
      | then-rows-gt0+else-is_eq w ↦
          let n = c.len-rows.result - 1 in
          let count : length fs ≡ n + 1 = omega arith in
          let there : is_at (fill_place w.index-last.result.now) (pour_place pour) ≡ false =
          search rules in
          comes_after fill_place pour_place fill_of joined_pour fs pour n
          w.index-last.result.now now count w.index-last.ensures there c.in_ok-fill.ensures
      | else-rows-gt0 w ↦
          comes_first fill_place pour_place fill_of joined_pour fs pour now (omega arith)
          c.in_ok-fill.ensures
    ] in
    c.in_ok-push.ensures.items ∙ came
