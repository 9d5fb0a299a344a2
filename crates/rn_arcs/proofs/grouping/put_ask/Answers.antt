use Rattle.std.proofs.Common.{◌≡◌, ◌-◌, ◌+◌, ◌∷◌, [], ◌++◌, ◌∙◌, ap, arith, length}
use Rattle.std.proofs.Common.{true, false, rules}
use Rattle.rn_arcs.specs.link.Asks.{place_asked}
use Rattle.rn_arcs.specs.link.Groups.{place_of, first_of, joined_ask, with_arc, with_ask}
use Rattle.rn_arcs.specs.Places.{is_at}
use Rattle.rn_arcs.proofs.JoiningItems.{joins, comes_after, comes_first}
use Rattle.rn_arcs.proofs.grouping.put_ask.Goals as goal
use Rattle.rn_arcs.proofs.grouping.put_ask.Goals.{then-count-gt0+else-is_eq, else-count-gt0}

pub returns-then-is_eq : goal.returns-then-is_eq
returns-then-is_eq c =
    let gs = c.args.places.now.items in
    let n = c.len-count.result - 1 in
    let count : length gs ≡ n + 1 = omega arith in
    let here : is_at (place_of c.index-last.result.now) (place_asked c.args.ask) ≡ true =
    search rules in
    joins place_of place_asked first_of joined_ask gs c.args.ask n c.index-last.result.now
    c.index_mut.result.now c.add.new.self count c.index-last.ensures c.index_mut.ensures.value
    here c.in_ok-add.ensures

pub returns : goal.returns
returns c =
    let gs = c.args.places.now.items in
    let now = c.add-2.new.self in
    let added : now ≡ first_of c.args.ask =
    c.in_ok-add-2.ensures
    ∙ ap (with_arc c.args.ask.kind c.args.ask.value) c.new-asked.ensures in
    let came : gs ++ now ∷ [] ≡ with_ask gs c.args.ask =
    elim c.if-count-gt0.branch [
      | then-count-gt0+else-is_eq w ↦
          let n = c.len-count.result - 1 in
          let count : length gs ≡ n + 1 = omega arith in
          let there : is_at (place_of w.index-last.result.now) (place_asked c.args.ask) ≡ false =
          search rules in
          comes_after place_of place_asked first_of joined_ask gs c.args.ask n
          w.index-last.result.now now count w.index-last.ensures there added
      | else-count-gt0 w ↦
          comes_first place_of place_asked first_of joined_ask gs c.args.ask now (omega arith)
          added
    ] in
    c.in_ok-push.ensures.items ∙ came
