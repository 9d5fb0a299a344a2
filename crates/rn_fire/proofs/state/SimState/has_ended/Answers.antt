-- The last entry says it.
use Rattle.std.proofs.Common.{ap, sym, ◌∙◌, subst, refl}
use Rattle.std.specs.Prelude.{Some}
use Rattle.std.specs.Option.{option_copied}
use Rattle.rn_fire.specs.States.{IsState}
use Rattle.rn_fire.specs.link.States.{firings_in, end_in}
use Rattle.rn_fire.proofs.EntryLemmas.{last_tells}
use Rattle.rn_fire.proofs.state.SimState.has_ended.Goals as goal

pub returns-in-Some-End : goal.returns-in-Some-End
returns-in-Some-End c =
    let entries = c.self.inside.entries.items in
    let last = sym c.last.ensures.value ∙ ap option_copied c.in-Some-End.is ∙ ap Some c.in-Some-End.field-0-is in
    let ended = last_tells c.deref.result.now (firings_in entries) (end_in entries) c.in-Some-End.field-0-0 _ (c.deref.ensures.value ∙ c.self.invariant.run.whole) last in
    record {
      ended = (λ yes none. ended (ap (λ s. s.ended) c.self.view_is ∙ none), λ some. refl);
      state = subst IsState c.self.view_is c.self.invariant.run.state;
    }
