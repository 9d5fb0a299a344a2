use Rattle.std.proofs.Common.{◌+◌, ◌<◌, ◌∙◌, Some, sym, ap, arith}
use Rattle.rn_spell.proofs.Halving.{no_number, not_there, there, room}
use Rattle.rn_spell.proofs.numbering.number_by_halving.Goals as goal

pub returns-in_err-place : goal.returns-in_err-place
returns-in_err-place c =
    c.from_residual.ensures
    ∙ no_number c.args.system.now c.args.path.now c.args.index c.args.nodes.now c.args.next c.in_err-place.ensures.none

pub returns-then-not-makes : goal.returns-then-not-makes
returns-then-not-makes c =
    let place = c.in_ok-place.place in
    let at = c.in_ok-place.ensures in
    not_there c.args.system.now c.args.path.now c.args.index c.args.nodes.now c.args.next place c.index-nodes-place.result
    at.within c.index-nodes-place.is at.before at.behind (sym c.makes.ensures ∙ c.if-not-makes.true)

-- the number is one of those that the nodes' instances get
numbered : (c : goal.After-count_before-before) → c.args.next + c.count_before-before.result + c.args.index < 4294967296
numbered c =
    let place = c.in_ok-place.place in
    let at = c.in_ok-place.ensures in
    let inside = room c.args.system.now c.args.path.now c.args.index c.args.nodes.now c.args.next place c.index-nodes-place.result
    at.within c.index-nodes-place.is at.before at.behind (sym c.makes.ensures ∙ c.if-not-makes.false) in
    omega (arith, inside, c.count_before-before.ensures, c.requires.low)

pub overflow_add-result : goal.overflow_add-result
overflow_add-result c = omega (arith, numbered c)

pub overflow_add-result-2 : goal.overflow_add-result-2
overflow_add-result-2 c = omega (arith, numbered c)

pub overflow_cast-result-3 : goal.overflow_cast-result-3
overflow_cast-result-3 c = omega (arith, numbered c)

pub returns : goal.returns
returns c =
    let place = c.in_ok-place.place in
    let at = c.in_ok-place.ensures in
    ap (λ n. Some (c.args.next + n + c.args.index)) c.count_before-before.ensures
    ∙ there c.args.system.now c.args.path.now c.args.index c.args.nodes.now c.args.next place c.index-nodes-place.result
    at.within c.index-nodes-place.is at.before at.behind (sym c.makes.ensures ∙ c.if-not-makes.false)
