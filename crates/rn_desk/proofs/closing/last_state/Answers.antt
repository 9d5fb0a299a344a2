use Rattle.std.proofs.Common.{◌≡◌, refl, sym, ap, ◌∙◌, subst, Some}
use Rattle.std.specs.Option.{IsSome}
use mathlib.Core.Option.{some-injective}
use Rattle.rn_desk.specs.Entries.{authored}
use Rattle.rn_desk.specs.Turns.{Every, PartFits, parts_of}
use Rattle.rn_desk.proofs.Ending.{ends}
use Rattle.std.proofs.lemmas.Option.{same_Some}
use Rattle.rn_desk.proofs.closing.last_state.Goals as goal

pub unwrap-requires : goal.unwrap-requires
unwrap-requires g c = let z = c.args.desk.table.shared in
    let end = ends g.S.Kept.entries g.S.Kept.author g.S.Kept.fixed z.key.seats z.key.state.value _ c.args.whole.me.0 _ _ c.requires.idle c.requires.all c.close_with-closed.ensures.values.2 in
    let same : c.take-state.result ≡ Some end.0 = some-injective _ _ (sym c.take-state.ensures.value ∙ end.1) in subst IsSome (sym same) refl

pub returns : goal.returns
returns g c = let z = c.args.desk.table.shared in let v = c.args.whole.me.0 in let author = g.S.Kept.author in
    let end = ends g.S.Kept.entries g.S.Kept.author g.S.Kept.fixed z.key.seats z.key.state.value _ v _ _ c.requires.idle c.requires.all c.close_with-closed.ensures.values.2 in
    let same : c.take-state.result ≡ Some end.0 = some-injective _ _ (sym c.take-state.ensures.value ∙ end.1) in
    let state : end.0 ≡ c.unwrap.result = same_Some _ _ (sym same ∙ c.unwrap.ensures) in record {
      fixed = ap g.S.Kept.fixed (sym state) ∙ end.4;
      parts = subst (λ y. Every (PartFits author (g.S.Kept.entries y)) (parts_of v)) state end.2;
      others = λ n over. ap (λ y. authored author n (g.S.Kept.entries y)) (sym state) ∙ end.3 n over;
    }
