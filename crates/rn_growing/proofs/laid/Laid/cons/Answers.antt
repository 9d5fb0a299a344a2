use Rattle.std.proofs.Common.{◌≡◌, ◌≤◌, [], ◌∷◌, length, arith, rules, subst}
use Rattle.std.specs.Prelude.{Some, None}
use Rattle.rn_unify.proofs.EarlierMarks.{grown}
use Rattle.rn_growing.specs.link.Building.{PutsBefore}
use Rattle.rn_growing.proofs.BuildingLists.{nothing_before}
use Rattle.rn_growing.proofs.laid.Laid.cons.Goals as goal

pub some_before-requires-2-clause-tail_within : goal.some_before-requires-2-clause-tail_within
some_before-requires-2-clause-tail_within c =
    let more : length c.args.self.now.store.terms ≤ length c.atom.new.self.store.terms =
    (grown c.args.self.now.store c.atom.new.self.store
    c.atom.ensures.grows.store).not_later.0 in
    let within = c.requires.tail_within in
    omega (arith, more, within)

pub returns-in-Some-clause-put : goal.returns-in-Some-clause-put
returns-in-Some-clause-put c =
    let none : [] ≡ c.args.ids = search rules in
    let other : c.from_vec.result ≡ c.in_ok-atom.field-0 ∷ [] = search rules in
    let told : PutsBefore c.atom.new.self (c.in_ok-atom.field-0 ∷ []) c.args.tail
    c.some_before-2.new.self (Some c.in-Some.field-0) =
    subst (λ ids. PutsBefore c.atom.new.self ids c.args.tail c.some_before-2.new.self
    (Some c.in-Some.field-0)) other (rw c.in-Some.is at c.in_ok-some_before.ensures.put) in
    subst (λ ids. PutsBefore c.args.self.now ids c.args.tail c.some_before-2.new.self
    (Some c.args.tail)) none
    (nothing_before c.args.self.now c.atom.new.self c.some_before-2.new.self _ c.in_ok-atom.field-0
    c.args.tail c.frame-laid_in.ensures.laid c.in_ok-atom.ensures.built c.atom.ensures.grows
    c.some_before-2.ensures.grows c.requires.tail_within (Some c.in-Some.field-0) told)

pub returns-clause-put : goal.returns-clause-put
returns-clause-put c =
    let none : [] ≡ c.args.ids = search rules in
    let other : c.from_vec.result ≡ c.in_ok-atom.field-0 ∷ [] = search rules in
    let told : PutsBefore c.atom.new.self (c.in_ok-atom.field-0 ∷ []) c.args.tail
    c.some_before-2.new.self None =
    subst (λ ids. PutsBefore c.atom.new.self ids c.args.tail c.some_before-2.new.self None)
    other (rw c.in-None.is at c.in_ok-some_before.ensures.put) in
    subst (λ ids. PutsBefore c.args.self.now ids c.args.tail c.some_before-2.new.self None) none
    (nothing_before c.args.self.now c.atom.new.self c.some_before-2.new.self _ c.in_ok-atom.field-0
    c.args.tail c.frame-laid_in.ensures.laid c.in_ok-atom.ensures.built c.atom.ensures.grows
    c.some_before-2.ensures.grows c.requires.tail_within None told)
