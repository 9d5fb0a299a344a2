-- How a wish on the value of each id turns into another as terms are added.
use Rattle.std.proofs.Common.{◌≡◌, ◌≢◌, ◌<◌, ◌+◌, ℕ, suc, List, [], ◌∷◌, ◌++◌, refl, arith}
use Rattle.std.proofs.Common.{length, sym, ◌∙◌, subst, length-append}
use Rattle.std.specs.Prelude.{◌↔◌}
use Rattle.std.proofs.lemmas.List.{take_all, length-take-le, get_or-take}
use Rattle.std.proofs.Math.Seq.{take-suc}
use Rattle.rn_value.specs.declared.value.Value.{Value}
use Rattle.rn_value.specs.declared.value.Value.TheVariants as Value
use Rattle.rn_term.specs.declared.term.Term.{Term}
use Rattle.rn_term.specs.declared.term.Term.TheVariants as T
use Rattle.rn_term.specs.Stores.{State, IsBuiltBelow, with_term}
use Rattle.rn_term.specs.Assignments.{value_at, HasValue, HasListTail, Satisfies, Keeps}
use Rattle.rn_term.proofs.AssignmentLemmas.{value_stays, satisfies_term}
use Rattle.rn_term.proofs.GrowingStores.{terms_extend}
use Rattle.rn_term.proofs.KeepingLemmas.{keeps_term}
use Rattle.rn_unify.specs.link.Binding.{Becomes, prefix_of}
use Rattle.rn_unify.specs.link.Adding.{Turns}
use Rattle.rn_unify.proofs.EarlierMarks.{grown, grown_not, grown_through, grown_by_term}
use Rattle.rn_unify.proofs.Becoming.{becomes_same, becomes_through}
use Rattle.rn_unify.proofs.FreeNumbers.{free_number-term}

-- a wish on the value of an id, under an assignment
abbrev pub Wish : Type 1
Wish = List Value → Value → Type 0

-- in the store itself a wish turns into each that is true exactly where it is
pub turns_same : (s : State) (wish left : Wish) → Keeps s →
    ((vs : List Value) (v : Value) → Satisfies s vs → wish vs v ↔ left vs v) → Turns s wish s left
turns_same s wish left keeps same = record {
  earlier = (grown_not s).earlier;
  keeps = keeps;
  becomes = λ v. becomes_same s (λ vs. wish vs v) (λ vs. left vs v) (λ vs sat. same vs v sat);
  number = refl;
  notes = refl;
}

pub turns_not : (s : State) (wish : Wish) → Keeps s → Turns s wish s wish
turns_not s wish keeps = turns_same s wish wish keeps (λ vs v sat. (λ is. is, λ is. is))

-- a wish that turns into another, which turns into a third
pub turns_through : (old s new : State) (wish between left : Wish) → Turns old wish s between →
    Turns s between new left → Turns old wish new left
turns_through old s new wish between left first last =
    let room = (grown old s first.earlier).not_later.0 in
    record {
      earlier =
          (grown_through old s new (grown old s first.earlier) (grown s new last.earlier)).earlier;
      keeps = last.keeps;
      becomes = λ v.
          becomes_through old s new (λ vs. wish vs v) (λ vs. between vs v) (λ vs. left vs v) room
          (first.becomes v) (last.becomes v);
      number = last.number ∙ first.number;
      notes = last.notes ∙ first.notes;
    }

-- An assignment of a store with one more term is one from before, and a value of the term.
pub record IsSplit (s : State) (t : Term) (ws : List Value) : Type 0 where
  pub whole : ws ≡ prefix_of s ws ++ value_at ws (length s.terms) ∷ []
  pub each : length (prefix_of s ws) ≡ length s.terms
  pub satisfies : Satisfies s (prefix_of s ws)
  pub has : HasValue (prefix_of s ws) t (value_at ws (length s.terms))

pub split_last : (s : State) (t : Term) (ws : List Value) → Keeps s →
    IsBuiltBelow (length s.terms) t → Satisfies (with_term s t) ws → IsSplit s t ws
split_last s t ws keeps built sat =
    let both = (terms_extend s t (prefix_of s ws) (value_at ws (length s.terms)) keeps built each).0
    (subst (Satisfies (with_term s t)) whole sat) in
    record { whole = whole; each = each; satisfies = both.0; has = both.1 }
  where
    long : length ws ≡ length s.terms + 1
    long = sat.each ∙ length-append s.terms (t ∷ [])

    each : length (prefix_of s ws) ≡ length s.terms
    each = length-take-le (length s.terms) ws (omega (arith, long))

    whole : ws ≡ prefix_of s ws ++ value_at ws (length s.terms) ∷ []
    whole = sym (take_all (suc (length s.terms)) ws (omega (arith, long)))
        ∙ take-suc ws (length s.terms) (Value.Tuple []) (omega (arith, long))

-- As a term is added a wish that speaks of its value as well turns into one of its id.
module _ (s : State) (t : Term) (wish : List Value → Value → Value → Type 0) (left : Wish)
    (keeps : Keeps s) (built : IsBuiltBelow (length s.terms) t)
    (same : (vs : List Value) (u v : Value) → length vs ≡ length s.terms →
    wish vs u v ↔ left (vs ++ u ∷ []) v) where
  abbrev Before : Wish
  Before vs v = (u : Value) × HasValue vs t u × wish vs u v

  pub turns_with : t ≢ T.Free → HasListTail s t → Turns s Before (with_term s t) left
  turns_with variable tail = record {
    earlier = (grown_by_term s t).earlier;
    keeps = keeps_term s t keeps built tail;
    becomes = λ v. record {
      back = λ ws sat. (split_last s t ws keeps built sat).satisfies;
      enough = λ ws sat is.
          let cut = split_last s t ws keeps built sat in (
            value_at ws (length s.terms),
            cut.has,
            (same (prefix_of s ws) (value_at ws (length s.terms)) v cut.each).1
                (subst (λ us. left us v) cut.whole is),
          );
      forth = λ vs sat (u, has, is). (
        u ∷ [],
        satisfies_term s t vs u keeps built sat has,
        (same vs u v sat.each).0 is,
      );
    };
    number = free_number-term s t variable;
    notes = refl;
  }

-- so what a wish asks of the value of an id from before becomes what the other asks of it
pub becomes_at : (old new : State) (wish left : Wish) (var : ℕ) → Turns old wish new left →
    var < length old.terms →
    Becomes old (λ vs. wish vs (value_at vs var)) new (λ vs. left vs (value_at vs var))
becomes_at old new wish left var turned within = record {
  back = (turned.becomes (Value.Tuple [])).back;
  enough = λ ws sat is.
      subst (wish (prefix_of old ws))
      (sym (get_or-take (length old.terms) ws var (Value.Tuple []) within))
      ((turned.becomes (value_at ws var)).enough ws sat is);
  forth = λ vs sat is.
      let on = (turned.becomes (value_at vs var)).forth vs sat is in (
        on.0,
        on.1,
        subst (left (vs ++ on.0)) (sym (value_stays vs on.0 var (rw sat.each within))) on.2,
      );
}
