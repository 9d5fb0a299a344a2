-- What waits in the window comes after the text.
use Rattle.std.proofs.Common.{◌≡◌, ℕ, List, [], ◌∷◌, ◌++◌, length, subst, sym, refl, ap, ◌∙◌}
use Rattle.std.specs.Prelude.{Result, Ok, Err, OnErr, take}
use Rattle.std.proofs.lemmas.List.{append-nil}
use Rattle.rn_outside.specs.Bytes.{Appends, AppendsPrefix}
use Rattle.rn_pour.specs.Flows.{Standing, Flows, Breaks}
use Rattle.rn_pour.proofs.Flows.{breaks_later}
use Rattle.rn_pour.proofs.whole.write_text.Goals as goal

-- a sink that failed while the rest went out took a prefix of the text
prefix_of : {A E : Type 0} (b m a : Standing) (x k : List ℕ) → Flows b [] x m k → (r : Result A E) →
    OnErr r (Breaks m k [] a) → OnErr r (AppendsPrefix b.held x a.held)
prefix_of b m a x k flows (Ok done) breaks = tt
prefix_of b m a x k flows (Err error) breaks =
    let all : Breaks b [] x a = subst (λ t. Breaks b [] t a) (append-nil x) (breaks_later b m a [] x k [] flows breaks) in
    record { taken = all.taken; short = all.short; appends = all.holds }

-- no byte is kept
none_kept : (l : List ℕ) → take 0 l ≡ []
none_kept [] = refl
none_kept (b ∷ l) = refl

pub returns-clause-prefix : goal.returns-clause-prefix
returns-clause-prefix g c =
    let empty : c.begin.new.self.kept ≡ [] = ap (λ w. w.kept) c.begin.ensures ∙ none_kept c.args.window.now.kept in
    let text = g.T.Text.text c.args.text.now in
    let before : Standing = record {
      held = g.O.Sink.held c.args.sink.now;
      faults = g.O.Sink.faults c.args.sink.now;
      writes = g.O.Sink.writes c.args.sink.now;
      empty_writes = g.O.Sink.empty_writes c.args.sink.now;
    } in
    let since : Standing = record {
      held = g.O.Sink.held c.pour.new.sink;
      faults = g.O.Sink.faults c.pour.new.sink;
      writes = g.O.Sink.writes c.pour.new.sink;
      empty_writes = g.O.Sink.empty_writes c.pour.new.sink;
    } in
    let flows : Flows before [] text since c.pour.new.window.kept =
    subst (λ k. Flows before k text since c.pour.new.window.kept) empty c.in_ok-pour.ensures.ok in
    let last : Standing = record {
      held = g.O.Sink.held c.flush.new.sink;
      faults = g.O.Sink.faults c.flush.new.sink;
      writes = g.O.Sink.writes c.flush.new.sink;
      empty_writes = g.O.Sink.empty_writes c.flush.new.sink;
    } in
    prefix_of before since last text c.pour.new.window.kept flows c.flush.result c.flush.ensures.err
