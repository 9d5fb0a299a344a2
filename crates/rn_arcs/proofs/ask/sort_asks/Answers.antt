use Rattle.std.proofs.Common.{◌∙◌, sym, pos, rules}
use Rattle.std.specs.Prelude.{filter}
use Rattle.std.specs.Ordering.{is_lt}
use Rattle.std.proofs.lemmas.List.Sorted.{ranks_by, answers_always}
use Rattle.rn_value.specs.declared.value.Value.TheVariants as Value
use Rattle.rn_model.specs.declared.system.ArcKind.TheVariants.{Input}
use Rattle.rn_arcs.specs.link.Asks.{place_asked}
use Rattle.rn_arcs.specs.Places.{InstPlace, place_cmp}
use Rattle.rn_arcs.specs.declared.ask.Ask.{Ask}
use Rattle.rn_arcs.proofs.PlaceOrder.{place_total, ties_are_one}
use Rattle.rn_arcs.proofs.ask.sort_asks.Goals as goal

-- some ask of a place
abbrev some_ask : InstPlace → Ask
some_ask k = record { inst = k.0; place = k.1; kind = Input; value = Value.Int (pos 0) }

pub returns-clause-sorted : goal.returns-clause-sorted
returns-clause-sorted c =
    c.in_ok-sort_by.ensures.sorted (λ a b. is_lt (place_cmp (place_asked a) (place_asked b)))
    (ranks_by place_total place_asked)
    (answers_always _ _ _ (λ f a r g k. search rules))

pub returns-clause-stable : goal.returns-clause-stable
returns-clause-stable c k =
    let stable = c.sort_by.ensures.stable
    (λ a b. is_lt (place_cmp (place_asked a) (place_asked b))) (ranks_by place_total place_asked)
    (answers_always _ _ _ (λ f a r g k. search rules)) (some_ask k) in
    sym (λ i. filter (λ a. ties_are_one k (place_asked a) i) c.sort_by.new.self.items)
    ∙ stable
    ∙ (λ i. filter (λ a. ties_are_one k (place_asked a) i) c.args.asks.now.items)
