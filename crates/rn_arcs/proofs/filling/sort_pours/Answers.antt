use Rattle.std.proofs.Common.{◌∙◌, sym, rules}
use Rattle.std.specs.Prelude.{filter}
use Rattle.std.specs.Ordering.{is_lt}
use Rattle.std.proofs.lemmas.List.Sorted.{ranks_by, answers_always}
use Rattle.rn_arcs.specs.link.Fillings.{pour_place}
use Rattle.rn_arcs.specs.Places.{InstPlace, place_cmp}
use Rattle.rn_arcs.specs.declared.filling.Pour.{Pour}
use Rattle.rn_arcs.proofs.PlaceOrder.{place_total, ties_are_one}
use Rattle.rn_arcs.proofs.filling.sort_pours.Goals as goal

-- something that is put at a place
abbrev some_pour : InstPlace → Pour
some_pour k = record { inst = k.0; place = k.1; count = 1 }

pub returns-clause-sorted : goal.returns-clause-sorted
returns-clause-sorted c =
    c.in_ok-sort_by.ensures.sorted (λ a b. is_lt (place_cmp (pour_place a) (pour_place b)))
    (ranks_by place_total pour_place)
    (answers_always _ _ _ (λ f a r g k. search rules))

pub returns-clause-stable : goal.returns-clause-stable
returns-clause-stable c k =
    let stable = c.sort_by.ensures.stable
    (λ a b. is_lt (place_cmp (pour_place a) (pour_place b))) (ranks_by place_total pour_place)
    (answers_always _ _ _ (λ f a r g k. search rules)) (some_pour k) in
    sym (λ i. filter (λ a. ties_are_one k (pour_place a) i) c.sort_by.new.self.items)
    ∙ stable
    ∙ (λ i. filter (λ a. ties_are_one k (pour_place a) i) c.args.pours.now.items)
