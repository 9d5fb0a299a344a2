-- A line more, the line that parts, or the end.
use Rattle.std.proofs.Common.{◌≡◌, ◌-◌, ◌+◌, true, length, take, drop, sym, ap, ◌∙◌, subst, arith}
use Rattle.std.specs.Prelude.{IsTrue}
use Rattle.std.proofs.lemmas.Bool.{false≢true}
use Rattle.std.proofs.lemmas.List.{take_rest}
use Rattle.rn_commands.specs.Parts.{HasParts, line_length, is_parting}
use Rattle.rn_commands.proofs.PartLemmas.{all_net, line_past, parted_at}
use Rattle.rn_commands.proofs.replays.parted.Goals as goal

pub returns-then-is_parting : goal.returns-then-is_parting
returns-then-is_parting c =
    let bytes = c.args.bytes.now in
    let at = c.loop-at.at in
    let n = c.line_length.result in
    let is : n ≡ line_length (drop at bytes) = c.line_length.ensures ∙ ap line_length (take_rest bytes at) in
    let cut : (at + n) - at ≡ n = omega arith in
    let parting : IsTrue (is_parting (take n (drop at bytes))) =
    subst (λ k. is_parting (take k (drop at bytes)) ≡ true) cut (sym c.is_parting.ensures ∙ c.if-is_parting.true) in
    subst (HasParts bytes (take at bytes)) (sym (take_rest bytes (at + n)))
    (parted_at bytes at n c.loop-at.invariant is parting)

pub loop-at-preserved : goal.loop-at-preserved
loop-at-preserved c =
    let bytes = c.args.bytes.now in
    let at = c.loop-at.at in
    let n = c.line_length.result in
    let is : n ≡ line_length (drop at bytes) = c.line_length.ensures ∙ ap line_length (take_rest bytes at) in
    let cut : (at + n) - at ≡ n = omega arith in
    line_past bytes at n c.loop-at.invariant c.loop-at-test.true is
    (λ is_one. false≢true (sym c.if-is_parting.false ∙ c.is_parting.ensures
    ∙ ap (λ k. is_parting (take k (drop at bytes))) cut ∙ is_one))

pub returns : goal.returns
returns c =
    let bytes = c.args.bytes.now in
    subst (HasParts bytes bytes) (sym (take_rest bytes (length bytes)))
    (all_net bytes c.loop-at.at c.loop-at.invariant c.loop-at-test.false)
