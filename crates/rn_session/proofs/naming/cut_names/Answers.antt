-- There are as many names as the next number says.
use Rattle.std.proofs.Common.{◌≡◌, ◌+◌, ◌-◌, length, ap, ◌∙◌, arith}
use Rattle.rn_table.specs.Tables.{Kept}
use Rattle.rn_fire.specs.States.{State}
use Rattle.rn_session.specs.link.Serving.{names_at}
use Rattle.rn_session.proofs.NamesSoFar.{next_is}
use Rattle.rn_session.proofs.TakenNames.{cut_none, cut_some}
use Rattle.rn_session.proofs.naming.cut_names.Goals as goal

pub overflow_sub-count : goal.overflow_sub-count
overflow_sub-count c =
    let s : State = c.args.session.now in
    let next : c.next-count.result ≡ length (names_at s) + 1 =
    c.next-count.ensures.number ∙ ap (λ (t : Kept). t.marking.next)
    (c.table.ensures.table ∙ ap (λ (x : State). x.table) c.state.ensures.state) ∙ next_is s c.state.ensures.session in
    omega (arith, next)

pub returns-in_ok-names : goal.returns-in_ok-names
returns-in_ok-names c =
    let s : State = c.args.session.now in
    let next : c.next-count.result ≡ length (names_at s) + 1 =
    c.next-count.ensures.number ∙ ap (λ (t : Kept). t.marking.next)
    (c.table.ensures.table ∙ ap (λ (x : State). x.table) c.state.ensures.state) ∙ next_is s c.state.ensures.session in
    let count : c.next-count.result - 1 ≡ length (names_at s) = omega (arith, next) in
    c.in_ok-names.ensures
    ∙ cut_some c.args.names.now (names_at s) c.requires.0 (c.next-count.result - 1) c.requires.1 count

pub returns-else-count-len : goal.returns-else-count-len
returns-else-count-len c =
    let s : State = c.args.session.now in
    let next : c.next-count.result ≡ length (names_at s) + 1 =
    c.next-count.ensures.number ∙ ap (λ (t : Kept). t.marking.next)
    (c.table.ensures.table ∙ ap (λ (x : State). x.table) c.state.ensures.state) ∙ next_is s c.state.ensures.session in
    let low = c.if-count-len.false in
    let len = c.len.ensures in
    cut_none c.args.names.now (names_at s) c.requires.0 c.requires.1 (omega (arith, next, low, len))
