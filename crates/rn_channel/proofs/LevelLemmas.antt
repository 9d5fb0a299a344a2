-- Levels of calls, as they are computed one after another.
use Rattle.std.proofs.Common.{ℕ, suc, ◌≡◌, ◌∙◌, ◌+◌, ◌<◌, ◌≤◌, List, [], ◌∷◌, ◌++◌, Bool, true, false}
use Rattle.std.specs.Prelude.{◌||◌}
use Rattle.std.proofs.Math.ListN.{get_or-eq_default}
use Rattle.std.proofs.Common.{◌&&◌, length, Some, refl, sym, ap, subst, arith, nat_lt, ⊎_elim}
use Rattle.std.specs.Prelude.{slice_index_or}
use Rattle.std.specs.List.{list_any, list_all}
use Rattle.std.proofs.lemmas.Bool.{cases_lt}
use Rattle.std.proofs.lemmas.Bool.Decides.{nat_tests}
use Rattle.rn_model.specs.declared.system.System.{System}
use Rattle.rn_model.specs.declared.system.Net.{Net}
use Rattle.rn_model.specs.declared.system.Transition.{Transition}
use Rattle.rn_channel.specs.Answering.{is_of}
use Rattle.rn_channel.specs.Heights.{calls_answered, net_answers, is_answered, suffices}
use Rattle.rn_channel.specs.link.Kept.{IsLevel, AreLevelsFrom, least_height}

-- tests that agree are passed by all alike
all_same : {X : Type 0} (p q : X → Bool) → ((x : X) → p x ≡ q x) → (xs : List X) →
    list_all p xs ≡ list_all q xs
all_same p q same [] = refl
all_same p q same (x ∷ xs) =
    ap (λ b. b && list_all p xs) (same x) ∙ ap (λ b. q x && b) (all_same p q same xs)

-- and by some alike
any_same : {X : Type 0} (p q : X → Bool) → ((x : X) → p x ≡ q x) → (xs : List X) →
    list_any p xs ≡ list_any q xs
any_same p q same [] = refl
any_same p q same (x ∷ xs) =
    ap (λ b. b || list_any p xs) (same x) ∙ ap (λ b. q x || b) (any_same p q same xs)

-- calls are answered alike where the channels are
pub calls_same : (f g : ℕ → Bool) → ((c : ℕ) → f c ≡ g c) → (t : Transition) →
    calls_answered f t ≡ calls_answered g t
calls_same f g same t =
    all_same (λ call. f call.channel) (λ call. g call.channel) (λ call. same call.channel) t.downlinks

nets_same : (f g : ℕ → Bool) → ((c : ℕ) → f c ≡ g c) → (channel : ℕ) (nets : List Net) →
    list_any (net_answers (calls_answered f) channel) nets
    ≡ list_any (net_answers (calls_answered g) channel) nets
nets_same f g same channel nets =
    any_same (net_answers (calls_answered f) channel) (net_answers (calls_answered g) channel)
    (λ net. any_same (λ t. is_of channel t.uplink && calls_answered f t)
    (λ t. is_of channel t.uplink && calls_answered g t)
    (λ t. ap (λ b. is_of channel t.uplink && b) (calls_same f g same t)) net.transitions)
    nets

-- the level after a level
pub level_after : (system : System) (k : ℕ) (level next : List Bool) → IsLevel system k level →
    length next ≡ length level →
    ((c : ℕ) → c < length level → slice_index_or next c false
    ≡ list_any (net_answers (calls_answered (λ d. slice_index_or level d false)) c) system.nets) →
    IsLevel system (suc k) next
level_after system k level next is size each = record {
  size = size ∙ is.size;
  each = λ c. ⊎_elim (inside c) (outside c) (cases_lt c (length system.channels));
}
  where
    inside : (c : ℕ) → c < length system.channels →
        slice_index_or next c false ≡ is_answered system (suc k) c
    inside c below =
        let within : nat_lt c (length system.channels) ≡ true = grind (arith, nat_tests) in
        let size_is = is.size in
        let here = each c (omega (arith, below, size_is)) in
        let same = nets_same (λ d. slice_index_or level d false) (is_answered system k) is.each c system.nets in
        rw within (here ∙ same)

    outside : (c : ℕ) → length system.channels ≤ c →
        slice_index_or next c false ≡ is_answered system (suc k) c
    outside c past =
        let none : nat_lt c (length system.channels) ≡ false = grind (arith, nat_tests) in
        let size_is = is.size in
        let over : length next ≤ c = omega (arith, past, size, size_is) in
        rw none (get_or-eq_default next false over)

-- one more level after others
pub one_more_level : (system : System) (k : ℕ) (levels : List (List Bool)) (level : List Bool) →
    AreLevelsFrom system k levels → IsLevel system (k + length levels) level →
    AreLevelsFrom system k (levels ++ level ∷ [])
one_more_level system k [] level all is =
    let same : k + 0 ≡ k = omega arith in (subst (λ n. IsLevel system n level) same is, tt)
one_more_level system k (l ∷ levels) level all is =
    let same : k + suc (length levels) ≡ suc k + length levels = omega arith in (
      all.0,
      one_more_level system (suc k) levels level all.1 (subst (λ n. IsLevel system n level) same is),
    )

-- the calls are answered at the first level that is left: it is the least height
pub height_here : (system : System) (t : Transition) (k : ℕ) (left rest : List (List Bool))
    (level : List Bool) → left ≡ level ∷ rest → AreLevelsFrom system k left →
    calls_answered (λ c. slice_index_or level c false) t ≡ true →
    least_height system t k (length left) ≡ Some k
height_here system t k left rest level is are answered =
    let levels = subst (AreLevelsFrom system k) is are in
    let here : suffices system k t ≡ true
    = sym (calls_same (λ c. slice_index_or level c false) (is_answered system k) levels.0.each t) ∙ answered in
    ap (λ l. least_height system t k (length l)) is ∙ rw here refl

-- they aren't: it is among the others
pub height_later : (system : System) (t : Transition) (k : ℕ) (left rest : List (List Bool))
    (level : List Bool) → left ≡ level ∷ rest → AreLevelsFrom system k left →
    calls_answered (λ c. slice_index_or level c false) t ≡ false →
    AreLevelsFrom system (suc k) rest
    × (least_height system t k (length left) ≡ least_height system t (suc k) (length rest))
height_later system t k left rest level is are unanswered =
    let levels = subst (AreLevelsFrom system k) is are in
    let here : suffices system k t ≡ false
    = sym (calls_same (λ c. slice_index_or level c false) (is_answered system k) levels.0.each t) ∙ unanswered in
    (levels.1, ap (λ l. least_height system t k (length l)) is ∙ rw here refl)
