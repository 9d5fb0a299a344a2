use Rattle.std.proofs.Common.{◌≡◌, ◌∙◌, ap, sym, arith, rules}
use Rattle.std.proofs.lemmas.List.{take_all}
use Rattle.std.specs.Prelude.{Some, None, slice_get, flat_map}
use Rattle.rn_items.proofs.Lists.{is_past}
use Rattle.rn_record.specs.RecordText.{token_text}
use Rattle.rn_spell.specs.Made.{names_of_nets}
use Rattle.rn_window.specs.Windows.{after}
use Rattle.rn_window.proofs.Windows.{nothing}
use Rattle.rn_end_marking.proofs.TokenTexts.{token_put}
use Rattle.rn_end_marking.proofs.tokens.put_each.Goals as goal
use Rattle.rn_end_marking.proofs.tokens.put_each.Goals.{in-Some, in_default}

pub loop-index-init : goal.loop-index-init
loop-index-init c = sym (nothing c.args.window.now)

pub loop-index-preserved : goal.loop-index-preserved
loop-index-preserved c =
    let f = token_text (names_of_nets c.args.names.now.system.now c.args.names.now.nets.now) in
    let bag = c.args.bag.now in
    let i = c.loop-index.index in
    elim c.match-get.branch [
      | in-Some w ↦
          let at : slice_get bag i ≡ Some w.in-Some.token.now = search rules in
          w.window-is ∙ token_put f bag i w.in-Some.token.now c.args.window.now c.loop-index.window w.put_token.new.window at
          c.loop-index.invariant w.put_token.ensures
      | in_default w ↦
          let none : slice_get bag i ≡ None = search rules in
          absurd (let no : ⊥ = omega (arith, is_past bag i none, c.loop-index-test.true, c.len-index-end.ensures.count) in no)
    ]

pub returns : goal.returns
returns c =
    let f = token_text (names_of_nets c.args.names.now.system.now c.args.names.now.nets.now) in
    let bag = c.args.bag.now in
    c.loop-index.invariant
    ∙ ap (λ xs. after c.args.window.now (flat_map f xs))
    (take_all c.loop-index.index bag (omega (arith, c.loop-index-test.false, c.len-index-end.ensures.count)))
