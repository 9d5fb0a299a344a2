-- A log has only one list of moves.
use Rattle.std.proofs.Common.{◌≡◌, ℕ, suc, ◌+◌, List, [], ◌∷◌, length, refl, sym, ◌∙◌, subst}
use Rattle.std.specs.Ordering.{nat_cmp}
use Rattle.std.proofs.lemmas.Map.Lookups.{exact_unsigned}
use Rattle.std.proofs.lemmas.Option.{same_Some}
use Rattle.rn_value.specs.Order.{IsAntisymmetric}
use Rattle.rn_value.specs.link.OrderLaws.{then_equal, value_cmp-apart}
use Rattle.rn_value.specs.declared.value.Value.{Value}
use Rattle.rn_value.proofs.SortedLists.{by_counts}
use Rattle.rn_model.specs.declared.system.System.{System}
use Rattle.rn_model.specs.declared.binding.Binding.{Binding}
use Rattle.rn_model.specs.declared.log.Entry.{Entry}
use Rattle.rn_model.specs.declared.log.Entry.TheVariants.{Fire, End}
use Rattle.rn_model.specs.Firing.{creations_of}
use Rattle.rn_moves.specs.declared.token.Token.{Token}
use Rattle.rn_moves.specs.declared.token.Moves.{Moves}
use Rattle.rn_moves.specs.Laws.{MovesAreOne}
use Rattle.rn_moves.specs.Moves.{AreTokens, AreMovesOf, AreMovesFrom, come_at}
use Rattle.rn_moves.specs.Order.{token_cmp}
use Rattle.rn_moves.specs.link.OrderLaws.{token_cmp-total}

token_cmp-apart : IsAntisymmetric token_cmp
token_cmp-apart t u e =
    let by_inst = then_equal (nat_cmp t.inst u.inst) _ e in
    let by_place = then_equal (nat_cmp t.place u.place) _ by_inst.1 in
    let insts : t.inst ≡ u.inst = exact_unsigned t.inst u.inst by_inst.0 in
    let places : t.place ≡ u.place = exact_unsigned t.place u.place by_place.0 in
    let values : t.value ≡ u.value = value_cmp-apart t.value u.value by_place.1 in
    let token : ℕ → ℕ → Value → Token = λ n p v. record { inst = n; place = p; value = v } in
    let same : token t.inst t.place t.value ≡ token u.inst u.place u.value = cc in
    same

-- tokens in order that have the same values everywhere are the same
tokens_one : (at : ℕ → ℕ → List Value) (ts us : List Token) → AreTokens at ts →
    AreTokens at us → ts ≡ us
tokens_one at ts us are too =
    by_counts token_cmp token_cmp-total token_cmp-apart ts us are.ascending too.ascending
    (λ t. are.counted t.inst t.place t.value ∙ sym (too.counted t.inst t.place t.value))

moves_same : (m o : Moves) → m.taken ≡ o.taken → m.put ≡ o.put → m ≡ o
moves_same m o taken put =
    let moves : List Token → List Token → Moves = λ t p. record { taken = t; put = p } in
    let same : moves m.taken m.put ≡ moves o.taken o.put = cc in
    same

moves_one : (system : System) (next step : ℕ) (b : Binding) (m o : Moves) →
    AreMovesOf system next step b m → AreMovesOf system next step b o → m ≡ o
moves_one system next step b m o are too =
    let acts = same_Some too.acts are.acts (sym too.are ∙ are.are) in
    moves_same m o (tokens_one _ m.taken o.taken are.taken too.taken)
    (tokens_one _ m.put o.put are.put
    (subst (λ fx. AreTokens (come_at system next b fx) o.put) acts too.put))

from_one : (system : System) (next step : ℕ) (entries : List Entry) (ms os : List Moves) →
    AreMovesFrom system next step entries ms → AreMovesFrom system next step entries os → ms ≡ os
from_one system next step [] [] [] are too = refl
from_one system next step [] [] (o ∷ os) are too = absurd too
from_one system next step [] (m ∷ ms) os are too = absurd are
from_one system next step (Fire worker b outs ∷ entries) [] os are too = absurd are
from_one system next step (Fire worker b outs ∷ entries) (m ∷ ms) [] are too = absurd too
from_one system next step (Fire worker b outs ∷ entries) (m ∷ ms) (o ∷ os) are too =
    let first : m ≡ o = moves_one system next step b m o are.0 too.0 in
    let rest : ms ≡ os =
    from_one system (next + length (creations_of system b)) (suc step) entries ms os are.1 too.1 in
    cc
from_one system next step (End reason ∷ entries) ms os are too =
    from_one system next step entries ms os are too

pub moves_are_one : MovesAreOne
moves_are_one system entries [] others are too = absurd are
moves_are_one system entries (m ∷ ms) [] are too = absurd too
moves_are_one system entries (m ∷ ms) (o ∷ os) are too =
    let first : m ≡ o =
    moves_same m o (are.0.taken ∙ sym too.0.taken) (tokens_one _ m.put o.put are.0.put too.0.put) in
    let rest : ms ≡ os = from_one system 2 1 entries ms os are.1 too.1 in
    cc
