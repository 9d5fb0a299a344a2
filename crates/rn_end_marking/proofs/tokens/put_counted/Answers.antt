use Rattle.std.proofs.Common.{◌≡◌, ◌∙◌, ◌-◌, drop, sym, arith, rules}
use Rattle.std.specs.Prelude.{Some, None, slice_get}
use Rattle.rn_items.proofs.Lists.{is_past}
use Rattle.rn_live.proofs.TokenLemmas.{got}
use Rattle.rn_model.specs.Repeats.{repeats_of}
use Rattle.rn_record.specs.RecordText.{item_text}
use Rattle.rn_spell.specs.Made.{names_of_nets}
use Rattle.rn_end_marking.proofs.TokenTexts.{one_run, run_put, none_left}
use Rattle.rn_end_marking.proofs.tokens.put_counted.Goals as goal

pub loop-token-preserved : goal.loop-token-preserved
loop-token-preserved c =
    let f = item_text (names_of_nets c.args.names.now.system.now c.args.names.now.nets.now) in
    let bag = c.args.bag.now in
    let i = c.loop-token.index in
    let j = c.next_other-next.result in
    let token = c.in-Some.token.now in
    let first : slice_get bag i ≡ Some token = search rules in
    let inside = (got bag i token first).0 in
    let run = one_run token bag i j (c.next_other-next.ensures.later inside) c.next_other-next.ensures.bound
    (λ k low below. c.next_other-next.ensures.equal k low below ∙ first)
    (λ less is. c.next_other-next.ensures.other j (omega arith) less (is ∙ sym first)) in
    record {
      within = c.next_other-next.ensures.bound;
      left = run_put f (repeats_of (drop i bag)) (record { value = token; count = j - i }) (repeats_of (drop j bag))
          c.loop-token.window c.put_item.new.window run (search rules)
          ∙ c.loop-token.invariant.left;
    }

pub returns : goal.returns
returns c =
    let f = item_text (names_of_nets c.args.names.now.system.now c.args.names.now.nets.now) in
    let bag = c.args.bag.now in
    let i = c.loop-token.index in
    let none : slice_get bag i ≡ None = search rules in
    sym (none_left f bag i c.loop-token.window (is_past bag i none)) ∙ c.loop-token.invariant.left
