use Rattle.std.proofs.Common.{◌≡◌, sym, ap, ◌∙◌, subst}
use Rattle.std.specs.Option.{option_copied}
use Rattle.std.proofs.lemmas.Result.{IfOk-weaker}
use Rattle.rn_finder.specs.First.{IsFirstOf}
use Rattle.rn_finder.specs.Starting.{HasStartIn}
use Rattle.rn_parted.specs.Parted.{IsKept, Parted}
use Rattle.rn_parted.proofs.LeastLemmas.{first_of_parts}
use Rattle.rn_parted.proofs.firsts.first_in.Goals as goal

pub returns-then-parted-number : goal.returns-then-parted-number
returns-then-parted-number c =
    let system = c.args.marked.system.now in
    let m = c.args.marked.table.now.marking in
    let depth = c.args.marked.depth in
    let p : Parted = c.in-Some.parted.now in
    let its = subst (λ o. IsKept system m depth (option_copied o)) c.in-Some.is c.requires.kept in
    let number : p.instance ≡ c.args.number =
    ap (λ (q : Parted). q.instance) (sym c.parted.view_is) ∙ c.if-parted-number.true in
    let first = subst (λ k. IsFirstOf system m depth (HasStartIn k) (option_copied c.first.result))
    number
    (subst (λ d. IsFirstOf system m d (HasStartIn p.instance) (option_copied c.first.result)) its.within
    (subst (λ x. IsFirstOf system x p.depth (HasStartIn p.instance) (option_copied c.first.result))
    its.marking
    (subst (IsFirstOf system p.marking p.depth (HasStartIn p.instance)) (sym c.first.ensures)
    (first_of_parts system p its.so)))) in
    IfOk-weaker c.copied.result _ _
    (λ o is. subst (IsFirstOf system m depth (HasStartIn c.args.number)) (sym is) first)
    c.copied.ensures
