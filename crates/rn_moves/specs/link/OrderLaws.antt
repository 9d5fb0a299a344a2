-- The derived `partial_cmp` of tokens answers as `token_cmp`, which so is a total order.
use Rattle.std.proofs.Common.{◌≡◌, refl}
use Rattle.std.specs.Prelude.{Option, Some}
use Rattle.std.specs.Ordering.{nat_cmp, ordering_then, partial_ordering_then, is_eq}
use Rattle.std.specs.Cmp.{IsTotalOrder, Some-then}
use Rattle.std.specs.Cmp as laws_of
use Rattle.std.specs.declared.cmp.Ordering.{Ordering}
use Rattle.rn_value.specs.link.OrderLaws.{alike}
use Rattle.rn_moves.specs.declared.token.Token.{Token}
use Rattle.rn_moves.specs.contracts.token.TokenPartialEq.TheImpl as derived_eq
use Rattle.rn_moves.specs.contracts.token.TokenPartialOrd.TheImpl as derived
use Rattle.rn_moves.specs.contracts.token.TokenPartialOrd.TheImpl.Laws as laws
use Rattle.rn_moves.specs.Order.{token_cmp}

then_alike : (c d : Option Ordering) (a b : Ordering) → c ≡ Some a → d ≡ Some b →
    partial_ordering_then c d ≡ Some (ordering_then a b)
then_alike c d a b e f = rw (e, f) (Some-then a b)

pub token_alike : (x y : Token) → derived.ghosts.partial_cmp x y ≡ Some (token_cmp x y)
token_alike x y =
    then_alike _ _ (nat_cmp x.inst y.inst) _ refl
    (then_alike _ _ (nat_cmp x.place y.place) _ refl (alike x.value y.value))

pub token_cmp-total : IsTotalOrder token_cmp
token_cmp-total = laws_of.total laws.laws-law token_alike

pub token_cmp-ties : (x y : Token) → derived_eq.ghosts.eq x y ≡ is_eq (token_cmp x y)
token_cmp-ties = laws_of.ties laws.laws-law token_alike
