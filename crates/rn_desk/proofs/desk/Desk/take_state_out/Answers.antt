use Rattle.std.proofs.Common.{◌≡◌, ◌∷◌, refl, sym, ap, ◌∙◌, subst, Some, None}
use Rattle.std.specs.Option.{IsSome}
use Rattle.atomic_table.specs.Table.{rest}
use Rattle.rn_desk.proofs.Keeping.{first_value}
use Rattle.rn_desk.proofs.desk.Desk.take_state_out.Goals as goal

pub exchange-requires : goal.exchange-requires
exchange-requires g c = let full = c.requires.full in (c.requires.here, (Some full.0, full.1 ∙ ap (λ l. (0, Some full.0) ∷ rest l) (sym full.1)))

pub unwrap-requires : goal.unwrap-requires
unwrap-requires g c = let full = c.requires.full in let took = c.exchange.ensures in
    let same : c.exchange.result ≡ Some full.0 = ap (first_value c.exchange.result) (sym took.2 ∙ full.1) in subst IsSome (sym same) refl

pub returns : goal.returns
returns g c = let full = c.requires.full in let took = c.exchange.ensures in let gone = ap rest full.1 in record {
  here = took.0;
  state = took.2 ∙ (ap (λ o. (0, o) ∷ rest c.args.seat.now.me.1) c.unwrap.ensures ∙ ap (λ l. (0, Some c.unwrap.result) ∷ l) gone);
  empty = took.3 ∙ ap (λ l. (c.args.seat.now.me.0, (0, None) ∷ l)) gone;
}
