use Rattle.std.proofs.Common.{◌∷◌, [], sym, subst}
use Rattle.std.specs.Prelude.{Contains, slice_set}
use Rattle.std.proofs.lemmas.List.Elements.{Contains-append_left, Contains-push}
use Rattle.rn_holders.proofs.HoldingLemmas.{kept_by, stands_by, keep_through}
use Rattle.rn_holders.proofs.holding.hold.Goals as goal

pub returns-then-contains-clause-keep : goal.returns-then-contains-clause-keep
returns-then-contains-clause-keep c =
    let holders = c.lengthen.new.holders.items in
    let list = c.index_mut-list.result.now in
    keep_through c.args.holders.now.items holders (slice_set holders c.args.number list)
    c.lengthen.ensures.same
    (kept_by holders c.args.number list c.in_ok-lengthen.ensures.long c.index_mut-list.ensures.value list
    (λ holder has. has))

pub returns-in_err-push-clause-keep : goal.returns-in_err-push-clause-keep
returns-in_err-push-clause-keep c =
    let holders = c.lengthen.new.holders.items in
    let list = c.index_mut-list.result.now in
    let new = c.push.new.self in
    keep_through c.args.holders.now.items holders (slice_set holders c.args.number new)
    c.lengthen.ensures.same
    (kept_by holders c.args.number list c.in_ok-lengthen.ensures.long c.index_mut-list.ensures.value new
    (λ holder has. subst (λ xs. Contains xs holder) (sym c.in_err-push.ensures.err) has))

pub returns-clause-keep : goal.returns-clause-keep
returns-clause-keep c =
    let holders = c.lengthen.new.holders.items in
    let list = c.index_mut-list.result.now in
    let new = c.push.new.self in
    keep_through c.args.holders.now.items holders (slice_set holders c.args.number new)
    c.lengthen.ensures.same
    (kept_by holders c.args.number list c.in_ok-lengthen.ensures.long c.index_mut-list.ensures.value new
    (λ holder has. subst (λ xs. Contains xs holder) (sym c.in_ok-push.ensures.ok)
    (Contains-append_left list (c.args.holder ∷ []) holder has)))

pub returns-clause-has : goal.returns-clause-has
returns-clause-has c =
    let holders = c.lengthen.new.holders.items in
    let list = c.index_mut-list.result.now in
    let new = c.push.new.self in
    subst (λ xs. Contains xs c.args.holder)
    (sym (stands_by holders c.args.number list c.in_ok-lengthen.ensures.long
    c.index_mut-list.ensures.value new))
    (subst (λ xs. Contains xs c.args.holder) (sym c.in_ok-push.ensures.ok)
    (Contains-push list c.args.holder))
