-- What is built of a list before a tail.
use Rattle.std.proofs.Common.{◌≡◌, ◌<◌, ◌≤◌, ℕ, List, [], ◌∷◌, ◌++◌, length, take, map, refl, sym}
use Rattle.std.proofs.Common.{ap, ◌∙◌, subst, arith}
use Rattle.std.specs.Prelude.{Option, Some, None, Result, Ok, Err, IfOk, option_map}
use Rattle.std.specs.Prelude.{option_and_then}
use Rattle.std.proofs.lemmas.List.{get_or-take, take-take}
use Rattle.std.proofs.lemmas.List.Elements.{All-contains}
use Rattle.rn_value.specs.declared.value.Value.{Value, ind-Value, roll-Value, out-roll-Value}
use Rattle.rn_value.specs.declared.value.Value.TheVariants as Value
use Rattle.rn_value.specs.declared.value.Value.TheOpen as V
use Rattle.rn_term.specs.Assignments.{Satisfies, value_at}
use Rattle.rn_unify.proofs.EarlierMarks.{grown}
use Rattle.rn_model.specs.Evaluation.{list_onto, list_of, list_step}
use Rattle.rn_model.specs.Derivation.{Assignment}
use Rattle.rn_model.proofs.EvaluationLemmas.{list_of-List}
use Rattle.rn_growing.specs.link.Building.{BuildsAll, BuildsOr, IsPutBefore, PutsBefore}
use Rattle.rn_growing.specs.link.Layouts.{id_of, IsLaidIn, IsReadAs}
use Rattle.rn_growing.specs.link.Laid.{LaidState, GivesAssignment, Grows, Builds, NeverHas}
use Rattle.rn_growing.proofs.BuildingSteps.{values_kept}
use Rattle.rn_growing.proofs.LaidSteps.{reads_before, read_later}

-- a value with elements of a list is that list
list_layer : (x : V.Value-F Value) (others : List Value) → list_step x ≡ Some others →
    roll-Value x ≡ Value.List others
list_layer (V.Int n) others e = absurd (let no : ⊥ = cc in no)
list_layer (V.Text s) others e = absurd (let no : ⊥ = cc in no)
list_layer (V.Tuple vs) others e = absurd (let no : ⊥ = cc in no)
list_layer (V.List vs) others e = let same : vs ≡ others = cc in Value.rolls-List vs
    ∙ ap (λ ws. Value.List ws) same
list_layer (V.Inst i) others e = absurd (let no : ⊥ = cc in no)

list_of_is : (v : Value) (others : List Value) → list_of v ≡ Some others → v ≡ Value.List others
list_of_is =
    ind-Value (λ v. (others : List Value) → list_of v ≡ Some others → v ≡ Value.List others)
    (λ x y is others e. list_layer x others (ap list_step (sym (out-roll-Value x)) ∙ e))

-- what a list before a tail has a value from
record Unconsed (terms : Option (List Value)) (rest : Option Value) : Type 0 where
  first : List Value
  first_is : terms ≡ Some first
  others : List Value
  rest_is : rest ≡ Some (Value.List others)

onto : (vs : List Value) (o : Option (List Value)) (v : Value) →
    option_map (λ others. Value.List (vs ++ others)) o ≡ Some v →
    (others : List Value) × (o ≡ Some others)
onto vs None v e = absurd (let no : ⊥ = cc in no)
onto vs (Some others) v e = (others, refl)

unconsed : (terms : Option (List Value)) (rest : Option Value) (v : Value) →
    option_and_then (λ vs. option_and_then (list_onto vs) rest) terms ≡ Some v →
    Unconsed terms rest
unconsed None rest v e = absurd (let no : ⊥ = cc in no)
unconsed (Some vs) None v e = absurd (let no : ⊥ = cc in no)
unconsed (Some vs) (Some w) v e =
    let list = onto vs (list_of w) v e in
    record {
      first = vs;
      first_is = refl;
      others = list.0;
      rest_is =
          ap Some (list_of_is w list.0 list.1);
    }

consed : (terms : Option (List Value)) (rest : Option Value) (vs others : List Value) →
    terms ≡ Some vs → rest ≡ Some (Value.List others) →
    option_and_then (λ us. option_and_then (list_onto us) rest) terms ≡ Some
    (Value.List (vs ++ others))
consed terms rest vs others e f =
    ap (λ t. option_and_then (λ us. option_and_then (list_onto us) rest) t) e
    ∙ ap (λ r. option_and_then (list_onto vs) r) f
    ∙ ap (λ o. option_map (λ ws. Value.List (vs ++ ws)) o) (list_of-List others)

module _ (old mid late new : LaidState) (terms : Assignment → Option (List Value))
    (rest whole : Assignment → Option Value) (ids : List ℕ) (tail : ℕ)
    (is : (a : Assignment) → option_and_then (λ vs. option_and_then (list_onto vs) (rest a))
    (terms a) ≡ whole a)
    (builds : BuildsAll old terms mid ids) (more : Grows old mid) where
  never_some : ((a : Assignment) → GivesAssignment old a → Unconsed (terms a) (rest a) → ⊥) →
      NeverHas old whole
  never_some never a given = elim (whole a) as (λ o. whole a ≡ o → o ≡ None) [
    | None ↦ λ e. refl
    | Some v ↦ λ e. absurd (never a given (unconsed (terms a) (rest a) v (is a ∙ e)))
  ] refl

  pub no_tail : NeverHas mid rest → NeverHas old whole
  no_tail never = never_some (λ a given un.
      let none : rest a ≡ None = never a
      ((builds.adds.exact a).1 (given, (un.first, un.first_is))) in
      let some = un.rest_is in
      let no : ⊥ = cc in no)

  module _ (then_builds : Builds mid rest late tail) (still : Grows mid late) where
    is_late : (a : Assignment) → GivesAssignment old a → (un : Unconsed (terms a) (rest a)) → GivesAssignment late a
    is_late a given un =
        (then_builds.adds.exact a).1 (
          (builds.adds.exact a).1 (given, (un.first, un.first_is)),
          (Value.List un.others, un.rest_is),
        )

    never_put : PutsBefore late ids tail new None → NeverHas old whole
    never_put never =
        never_some
        (λ a given un. never a rest then_builds.reads (is_late a given un) un.others un.rest_is)

    module _ (id : ℕ) (put : IsPutBefore late ids tail new id) (last : Grows late new) where
      abbrev n : ℕ
      n = length mid.store.terms

      abbrev m : ℕ
      m = length late.store.terms

      low : n ≤ m
      low = (grown mid.store late.store still.store).not_later.0

      kept : (vs : List Value) → map (value_at (take n (take m vs))) ids ≡ map (value_at vs) ids
      kept vs =
          ap (λ us. map (value_at us) ids) (take-take n m vs low)
          ∙ values_kept n vs ids (λ k there. All-contains (λ j. j < n) ids k builds.within there)

      put_built : Builds old whole new id
      put_built = record {
        within = put.within;
        laid = put.laid;
        reads = λ a vs sat reads.
            let sat_late = put.back vs sat in
            let reads_late = reads_before late new a vs then_builds.laid last.slots reads in
            let sat_mid = then_builds.adds.back (take m vs) sat_late in
            let reads_mid = reads_before mid late a (take m vs) builds.laid still.slots
            reads_late in
            let first = builds.reads a (take n (take m vs)) sat_mid reads_mid
            ∙ ap Some (kept vs) in
            let list = put.value vs sat in
            let there = then_builds.reads a (take m vs) sat_late reads_late
            ∙ ap Some (get_or-take m vs tail (Value.Tuple []) then_builds.within ∙ list.1) in
            sym (is a) ∙ consed (terms a) (rest a) (map (value_at vs) ids) list.0 first there
            ∙ ap Some (sym list.2);
        adds = record {
          back = λ vs sat.
              let before : length old.store.terms ≤ n =
              (grown old.store mid.store more.store).not_later.0 in
              subst (Satisfies old.store) (take-take (length old.store.terms) n vs before)
              (builds.adds.back (take n vs)
              (subst (Satisfies mid.store) (take-take n m vs low)
              (then_builds.adds.back (take m vs) (put.back vs sat))));
          exact = λ a. (
            λ given.
                let at = (put.exact a rest then_builds.reads).0 given in
                let mid_given = (then_builds.adds.exact a).0 at.0 in
                let start = (builds.adds.exact a).0 mid_given.0 in (
                  start.0,
                  (
                    Value.List (start.1.0 ++ at.1.0),
                    sym (is a)
                        ∙ consed (terms a) (rest a) start.1.0 at.1.0 start.1.1 at.1.1,
                  ),
                ),
            λ both.
                let un = unconsed (terms a) (rest a) both.1.0 (is a ∙ both.1.1) in
                (put.exact a rest then_builds.reads).1
                (is_late a both.0 un, (un.others, un.rest_is)),
          );
        };
      }

    pub put_answer : {E : Type 0} (result : Result (Option ℕ) E) → Grows late new →
        IfOk result (λ told. PutsBefore late ids tail new told) →
        IfOk result (λ told. BuildsOr old whole new told)
    put_answer (Err e) last put = tt
    put_answer (Ok None) last put = never_put put
    put_answer (Ok (Some id)) last put = put_built id put last

pub no_front : (old : LaidState) (terms : Assignment → Option (List Value))
    (rest whole : Assignment → Option Value) →
    ((a : Assignment) → option_and_then (λ vs. option_and_then (list_onto vs) (rest a)) (terms a) ≡
    whole a) → ((a : Assignment) → GivesAssignment old a → terms a ≡ None) → NeverHas old whole
no_front old terms rest whole is none a given = sym (is a)
    ∙ ap (λ t. option_and_then (λ vs. option_and_then (list_onto vs) (rest a)) t) (none a given)

-- nothing before a tail: a list of another value before it says whether the tail is a list
module _ (old mid new : LaidState) (w : Value) (other tail : ℕ)
    (laid : IsLaidIn (id_of old.slots) old.store) (builds : Builds old (λ a. Some w) mid other)
    (more : Grows old mid) (last : Grows mid new) (tail_in : tail < length old.store.terms) where
  still_read : (rest : Assignment → Option Value) →
      IsReadAs old.store (id_of old.slots) rest tail →
      IsReadAs mid.store (id_of mid.slots) rest tail
  still_read rest is = read_later old mid rest tail laid more.slots builds.adds.back tail_in is

  nothing_put : (id : ℕ) → IsPutBefore mid (other ∷ []) tail new id →
      IsPutBefore old [] tail new tail
  nothing_put id put = record {
    within =
        let first = (grown old.store mid.store more.store).not_later.0 in
        let then_more = (grown mid.store new.store last.store).not_later.0 in
        omega (arith, tail_in, first, then_more);
    laid = put.laid;
    value = λ vs sat. let list = put.value vs sat in (list.0, list.1, list.1);
    back = λ vs sat.
        let low = (grown old.store mid.store more.store).not_later.0 in
        subst (Satisfies old.store)
        (take-take (length old.store.terms) (length mid.store.terms) vs low)
        (builds.adds.back (take (length mid.store.terms) vs) (put.back vs sat));
    exact = λ a rest is. (
      λ given. let at = (put.exact a rest (still_read rest is)).0 given in
          (((builds.adds.exact a).0 at.0).0, at.1),
      λ both. (put.exact a rest (still_read rest is)).1
          ((builds.adds.exact a).1 (both.0, (w, refl)), both.1),
    );
  }

  pub nothing_before : (told : Option ℕ) → PutsBefore mid (other ∷ []) tail new told →
      PutsBefore old [] tail new (option_map (λ id. tail) told)
  nothing_before (Some id) put = nothing_put id put
  nothing_before None never = λ a rest is given. never a rest (still_read rest is)
      ((builds.adds.exact a).1 (given, (w, refl)))
