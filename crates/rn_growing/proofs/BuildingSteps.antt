-- What is built of the forms of expressions.
use Rattle.std.proofs.Common.{◌≡◌, ◌≤◌, ◌<◌, ◌+◌, ℕ, ℤ, zero, suc, List, [], ◌∷◌, ◌++◌, length}
use Rattle.std.proofs.Common.{take, drop, map, get_or, refl, sym, ap, ◌∙◌, subst, arith}
use Rattle.std.proofs.Common.{length-append}
use Rattle.std.specs.Prelude.{Option, Some, None, All, Contains, option_map, option_and_then}
use Rattle.std.proofs.lemmas.List.{get_or-take, take-take, length-take-le, take-append-drop}
use Rattle.std.proofs.lemmas.List.{append-nil, length-map}
use Rattle.std.proofs.lemmas.List.Elements.{All-contains}
use Rattle.std.proofs.Math.Seq.{take-suc, take-append_seam}
use Rattle.std.specs.Option.{IsSome, option_to_list}
use Rattle.std.proofs.lemmas.List.Elements.{All-append}
use Rattle.rn_value.specs.declared.value.Value.{Value}
use Rattle.rn_value.specs.declared.value.Value.TheVariants as Value
use Rattle.rn_term.specs.Assignments.{Satisfies, value_at}
use Rattle.rn_unify.proofs.EarlierMarks.{grown}
use Rattle.rn_model.specs.declared.expr.OpKind.{OpKind}
use Rattle.rn_model.specs.declared.expr.Expr.{Expr}
use Rattle.rn_model.specs.Evaluation.{list_onto}
use Rattle.rn_model.specs.declared.expr.Expr.TheVariants as E
use Rattle.rn_model.specs.Derivation.{Assignment, Unknowns, unknowns_within, term_value}
use Rattle.rn_model.specs.Derivation.{term_values}
use Rattle.rn_model.specs.Derivation as D
use Rattle.rn_model.proofs.DerivationLemmas.{term_value-Int, term_value-Text, term_value-Var}
use Rattle.rn_model.proofs.DerivationLemmas.{term_value-This, term_value-Tuple, term_value-List}
use Rattle.rn_model.proofs.DerivationLemmas.{term_value-Cons, term_value-Neg, term_value-Op}
use Rattle.rn_growing.specs.declared.decision.Head.{Head}
use Rattle.rn_growing.specs.link.Building.{along, unknowns_at, part_at, parts_at, BuildsAll, IsMade}
use Rattle.rn_growing.specs.link.Layouts.{id_of, AreRead}
use Rattle.rn_growing.specs.link.Laid.{LaidState, GivesAssignment, Grows, Builds, NeverHas}
use Rattle.rn_growing.proofs.LaidSteps.{reads_before}

-- a term that always has the value of another
pub builds_as : (old new : LaidState) (term other : Assignment → Option Value) (id : ℕ) →
    ((a : Assignment) → term a ≡ other a) → Builds old term new id → Builds old other new id
builds_as old new term other id same builds = record {
  within = builds.within;
  laid = builds.laid;
  reads = λ a vs sat reads. sym (same a) ∙ builds.reads a vs sat reads;
  adds = record {
    back = builds.adds.back;
    exact = λ a. (
      λ given. let both = (builds.adds.exact a).0 given in
          (both.0, (both.1.0, sym (same a) ∙ both.1.1)),
      λ both. (builds.adds.exact a).1 (both.0, (both.1.0, same a ∙ both.1.1)),
    );
  };
}

along-var : (way : List ℕ) (u : Unknowns) (x : ℕ) → (along way u).var x ≡ u.var x
along-var [] u x = refl
along-var (i ∷ way) u x = along-var way (unknowns_within i u) x

along-this : (way : List ℕ) (u : Unknowns) → (along way u).this ≡ u.this
along-this [] u = refl
along-this (i ∷ way) u = along-this way (unknowns_within i u)

pub along-hole : (way : List ℕ) (u : Unknowns) (rest : List ℕ) →
    (along way u).hole rest ≡ u.hole (way ++ rest)
along-hole [] u rest = refl
along-hole (i ∷ way) u rest = along-hole way (unknowns_within i u) rest

-- a way with one more step
pub along-snoc : (way : List ℕ) (i : ℕ) (u : Unknowns) →
    along (way ++ i ∷ []) u ≡ unknowns_within i (along way u)
along-snoc [] i u = refl
along-snoc (j ∷ way) i u = along-snoc way i (unknowns_within j u)

module _ (head : Head) (site : D.Site) (way : List ℕ) (e : Expr) where
  abbrev whole : Assignment → Option Value
  whole a = part_at a head site way e

  abbrev seen : Assignment → Unknowns
  seen a = along way (unknowns_at a head site)

  -- what is read there, by the form of the expression
  pub int_is : (n : ℤ) → e ≡ E.Int n → (a : Assignment) → Some (Value.Int n) ≡ whole a
  int_is n is a = sym (ap (λ x. term_value x (seen a)) is ∙ term_value-Int n (seen a))

  pub text_is : (s : List ℕ) → e ≡ E.Text s → (a : Assignment) → Some (Value.Text s) ≡ whole a
  text_is s is a = sym (ap (λ x. term_value x (seen a)) is ∙ term_value-Text s (seen a))

  pub var_is : (x : ℕ) → e ≡ E.Var x → (a : Assignment) → Some (a.var head.path x) ≡ whole a
  var_is x is a =
      sym (ap (λ y. term_value y (seen a)) is ∙ term_value-Var x (seen a)
      ∙ ap Some (along-var way (unknowns_at a head site) x))

  pub this_is : e ≡ E.This → (a : Assignment) → Some (Value.Inst head.inst) ≡ whole a
  this_is is a =
      sym (ap (λ y. term_value y (seen a)) is ∙ term_value-This (seen a)
      ∙ ap (λ i. Some (Value.Inst i)) (along-this way (unknowns_at a head site)))

  pub tuple_is : (parts : List Expr) → e ≡ E.Tuple parts → (a : Assignment) →
      option_map (λ vs. Value.Tuple vs) (parts_at a head site way 0 parts) ≡ whole a
  tuple_is parts is a = sym (ap (λ y. term_value y (seen a)) is ∙ term_value-Tuple parts (seen a))

  pub list_is : (parts : List Expr) → e ≡ E.List parts → (a : Assignment) →
      option_map (λ vs. Value.List vs) (parts_at a head site way 0 parts) ≡ whole a
  list_is parts is a = sym (ap (λ y. term_value y (seen a)) is ∙ term_value-List parts (seen a))

  hole_seen : (a : Assignment) → (seen a).hole [] ≡ a.hole head.path site way
  hole_seen a = along-hole way (unknowns_at a head site) []
      ∙ ap (a.hole head.path site) (append-nil way)

  pub neg_is : (part : Expr) → e ≡ E.Neg part → (a : Assignment) →
      Some (a.hole head.path site way) ≡ whole a
  neg_is part is a =
      sym (ap (λ y. term_value y (seen a)) is ∙ term_value-Neg part (seen a)
      ∙ ap Some (hole_seen a))

  pub op_is : (kind : OpKind) (x y : Expr) → e ≡ E.Op kind x y → (a : Assignment) →
      Some (a.hole head.path site way) ≡ whole a
  op_is kind x y is a =
      sym (ap (λ z. term_value z (seen a)) is ∙ term_value-Op kind x y (seen a)
      ∙ ap Some (hole_seen a))

  pub cons_is : (parts : List Expr) (tail : Expr) → e ≡ E.Cons parts tail → (a : Assignment) →
      option_and_then
      (λ vs. option_and_then (list_onto vs)
      (part_at a head site (way ++ length parts ∷ []) tail))
      (parts_at a head site way 0 parts) ≡ whole a
  cons_is parts tail is a =
      let last : unknowns_within (length (map term_value parts)) (seen a) ≡ along
      (way ++ length parts ∷ []) (unknowns_at a head site) =
      ap (λ n. unknowns_within n (seen a)) (length-map parts term_value)
      ∙ sym (along-snoc way (length parts) (unknowns_at a head site)) in
      sym (ap (λ y. term_value y (seen a)) is ∙ term_value-Cons parts tail (seen a)
      ∙ ap (λ u. option_and_then (λ vs. option_and_then (list_onto vs) (term_value tail u))
      (term_values 0 (map term_value parts) (seen a))) last)

pub values_kept : (n : ℕ) (vs : List Value) (ids : List ℕ) →
    ((id : ℕ) → Contains ids id → id < n) → map (value_at (take n vs)) ids ≡ map (value_at vs) ids
values_kept n vs [] within = refl
values_kept n vs (id ∷ ids) within =
    ap (λ v. v ∷ map (value_at (take n vs)) ids)
    (get_or-take n vs id (Value.Tuple []) (within id (0, omega arith, refl)))
    ∙ ap (λ us. value_at vs id ∷ us)
    (values_kept n vs ids (λ k there. within k (suc there.0, omega (arith, there.1), there.2)))

mapped : (o : Option (List Value)) (make : List Value → Value) (v : Value) →
    option_map make o ≡ Some v → (vs : List Value) × (o ≡ Some vs)
mapped None make v e = absurd (let no : ⊥ = cc in no)
mapped (Some vs) make v e = (vs, refl)

-- a value that is made of terms built side by side
pub made_of : (old mid new : LaidState) (terms : Assignment → Option (List Value))
    (make : List Value → Value) (ids : List ℕ) (id : ℕ) → BuildsAll old terms mid ids →
    Grows old mid → IsMade mid make ids new id → Grows mid new →
    Builds old (λ a. option_map make (terms a)) new id
made_of old mid new terms make ids id builds more made still = record {
  within = made.within;
  laid = made.laid;
  reads = λ a vs sat reads.
      let n = length mid.store.terms in
      let there = builds.reads a (take n vs) (made.adds.back vs sat)
      (reads_before mid new a vs builds.laid still.slots reads) in
      ap (option_map make) there
      ∙ ap (λ us. Some (make us))
      (values_kept n vs ids (λ k inside. All-contains (λ j. j < n) ids k builds.within inside))
      ∙ ap Some (sym (made.value vs sat));
  adds = record {
    back = λ vs sat.
        let n = length old.store.terms in
        let m = length mid.store.terms in
        let low : n ≤ m = (grown old.store mid.store more.store).not_later.0 in
        subst (Satisfies old.store) (take-take n m vs low)
        (builds.adds.back (take m vs) (made.adds.back vs sat));
    exact = λ a. (
      λ given.
          let early = (builds.adds.exact a).0 ((made.adds.exact a).0 given).0 in
          (early.0, (make early.1.0, ap (option_map make) early.1.1)),
      λ both.
          let has = mapped (terms a) make both.1.0 both.1.1 in
          (made.adds.exact a).1 ((builds.adds.exact a).1 (both.0, has), tt),
    );
  };
}

-- parts side by side, one after another
joined : Option (List Value) → Option Value → Option (List Value)
joined None o = None
joined (Some vs) o = option_map (λ v. vs ++ v ∷ []) o

joined_cons : (o : Option Value) (t : Option (List Value)) (l : Option Value) →
    option_and_then (λ v. option_map (λ vs. v ∷ vs) (joined t l)) o ≡ joined
    (option_and_then (λ v. option_map (λ vs. v ∷ vs) t) o) l
unfolding joined
joined_cons None t l = refl
joined_cons (Some v) None l = refl
joined_cons (Some v) (Some vs) None = refl
joined_cons (Some v) (Some vs) (Some w) = refl

joined_one : (o : Option Value) →
    option_and_then (λ v. option_map (λ vs. v ∷ vs) (Some [])) o ≡ joined (Some []) o
unfolding joined
joined_one None = refl
joined_one (Some v) = refl

joined_none : (o : Option (List Value)) → joined o None ≡ None
unfolding joined
joined_none None = refl
joined_none (Some vs) = refl

joined_nothing : (l : Option Value) → joined None l ≡ None
unfolding joined
joined_nothing l = refl

joined_some : (ts : List Value) (v : Value) → joined (Some ts) (Some v) ≡ Some (ts ++ v ∷ [])
unfolding joined
joined_some ts v = refl

unjoined : (o : Option (List Value)) (l : Option Value) (vs : List Value) → joined o l ≡ Some vs →
    ((ts : List Value) × (o ≡ Some ts)) × ((v : Value) × (l ≡ Some v))
unfolding joined
unjoined None l vs e = absurd (let no : ⊥ = cc in no)
unjoined (Some ts) None vs e = absurd (let no : ⊥ = cc in no)
unjoined (Some ts) (Some v) vs e = ((ts, refl), (v, refl))

parts_more : (es : List Expr) (e : Expr) (i : ℕ) (u : Unknowns) →
    term_values i (map term_value (es ++ e ∷ [])) u ≡ joined (term_values i (map term_value es) u)
    (term_value e (unknowns_within (i + length es) u))
parts_more [] e i u =
    let place : i + 0 ≡ i = omega arith in
    joined_one (term_value e (unknowns_within i u))
    ∙ ap (λ k. joined (Some []) (term_value e (unknowns_within k u))) (sym place)
parts_more (x ∷ es) e i u =
    let place : (i + 1) + length es ≡ i + suc (length es) = omega arith in
    ap (λ t. option_and_then (λ v. option_map (λ vs. v ∷ vs) t)
    (term_value x (unknowns_within i u))) (parts_more es e (i + 1) u)
    ∙ joined_cons (term_value x (unknowns_within i u)) (term_values (i + 1) (map term_value es) u)
    (term_value e (unknowns_within ((i + 1) + length es) u))
    ∙ ap (λ k. joined (term_values i (map term_value (x ∷ es)) u)
    (term_value e (unknowns_within k u))) place

none_cons : (o : Option Value) (t r : Option (List Value)) → (t ≡ None → r ≡ None) →
    option_and_then (λ v. option_map (λ vs. v ∷ vs) t) o ≡ None →
    option_and_then (λ v. option_map (λ vs. v ∷ vs) r) o ≡ None
none_cons None t r rest e = refl
none_cons (Some v) None r rest e = ap (option_map (λ vs. v ∷ vs)) (rest refl)
none_cons (Some v) (Some vs) r rest e = absurd (let no : ⊥ = cc in no)

-- where the first of some parts have no values, all have none
none_front : (es others : List Expr) (i : ℕ) (u : Unknowns) →
    term_values i (map term_value es) u ≡ None →
    term_values i (map term_value (es ++ others)) u ≡ None
none_front [] others i u e = absurd (let no : ⊥ = cc in no)
none_front (x ∷ es) others i u e =
    none_cons (term_value x (unknowns_within i u)) (term_values (i + 1) (map term_value es) u)
    (term_values (i + 1) (map term_value (es ++ others)) u) (none_front es others (i + 1) u) e

module _ (head : Head) (site : D.Site) (way : List ℕ) (exprs : List Expr) (i : ℕ) (e : Expr)
    (within : i < length exprs) (is : e ≡ get_or exprs i e) where
  abbrev at_start : Assignment → Unknowns
  at_start a = along way (unknowns_at a head site)

  parts_step : (a : Assignment) →
      joined (parts_at a head site way 0 (take i exprs)) (part_at a head site (way ++ i ∷ []) e) ≡
      parts_at a head site way 0 (take (i + 1) exprs)
  parts_step a =
      let room : i ≤ length exprs = omega (arith, within) in
      let place : i ≡ 0 + length (take i exprs) = omega (arith, length-take-le i exprs room) in
      let one : suc i ≡ i + 1 = omega arith in
      let front : take i exprs ++ e ∷ [] ≡ take (i + 1) exprs = ap (λ x. take i exprs ++ x ∷ []) is
      ∙ sym (take-suc exprs i e within) ∙ ap (λ k. take k exprs) one in
      ap (λ u. joined (parts_at a head site way 0 (take i exprs)) (term_value e u))
      (along-snoc way i (unknowns_at a head site)
      ∙ ap (λ k. unknowns_within k (at_start a)) place)
      ∙ sym (parts_more (take i exprs) e 0 (at_start a))
      ∙ ap (λ es. term_values 0 (map term_value es) (at_start a)) front

  module _ (start mid new : LaidState) (ids : List ℕ)
      (builds : BuildsAll start (λ a. parts_at a head site way 0 (take i exprs)) mid ids)
      (more : Grows start mid) where
    either : (a : Assignment) → GivesAssignment start a →
        NeverHas mid (λ a. part_at a head site (way ++ i ∷ []) e) → (o : Option (List Value)) →
        parts_at a head site way 0 (take i exprs) ≡ o →
        joined o (part_at a head site (way ++ i ∷ []) e) ≡ None
    either a given never None has = joined_nothing (part_at a head site (way ++ i ∷ []) e)
    either a given never (Some ts) has =
        let there : GivesAssignment mid a = (builds.adds.exact a).1 (given, (ts, has)) in
        ap (joined (Some ts)) (never a there) ∙ joined_none (Some ts)

    pub none_built : NeverHas mid (λ a. part_at a head site (way ++ i ∷ []) e) → (a : Assignment) →
        GivesAssignment start a → parts_at a head site way 0 exprs ≡ None
    none_built never a given =
        let front : parts_at a head site way 0 (take (i + 1) exprs) ≡ None = sym (parts_step a)
        ∙ either a given never (parts_at a head site way 0 (take i exprs)) refl in
        ap (λ es. term_values 0 (map term_value es) (at_start a))
        (sym (take-append-drop (i + 1) exprs))
        ∙ none_front (take (i + 1) exprs) (drop (i + 1) exprs) 0 (at_start a) front

    map_more : (vs : List Value) (ks : List ℕ) (k : ℕ) →
        map (value_at vs) ks ++ value_at vs k ∷ [] ≡ map (value_at vs) (ks ++ k ∷ [])
    map_more vs [] k = refl
    map_more vs (j ∷ ks) k = ap (λ us. value_at vs j ∷ us) (map_more vs ks k)

    module _ (id : ℕ)
        (then_builds : Builds mid (λ a. part_at a head site (way ++ i ∷ []) e) new id)
        (still : Grows mid new) where
      abbrev n : ℕ
      n = length mid.store.terms

      longer : n ≤ length new.store.terms
      longer = (grown mid.store new.store still.store).not_later.0

      kept : (vs : List Value) → map (value_at (take n vs)) ids ≡ map (value_at vs) ids
      kept vs = values_kept n vs ids
          (λ k inside. All-contains (λ j. j < n) ids k builds.within inside)

      all_reads : (a : Assignment) (vs : List Value) → Satisfies new.store vs →
          AreRead (id_of new.slots) a vs →
          parts_at a head site way 0 (take (i + 1) exprs) ≡ Some
          (map (value_at vs) (ids ++ id ∷ []))
      all_reads a vs sat reads =
          let first = builds.reads a (take n vs) (then_builds.adds.back vs sat)
          (reads_before mid new a vs builds.laid still.slots reads) in
          sym (parts_step a)
          ∙ ap (λ o. joined o (part_at a head site (way ++ i ∷ []) e)) (first ∙ ap Some (kept vs))
          ∙ ap (joined (Some (map (value_at vs) ids))) (then_builds.reads a vs sat reads)
          ∙ joined_some (map (value_at vs) ids) (value_at vs id)
          ∙ ap Some (map_more vs ids id)

      one_more : All (λ k. k < length new.store.terms) (ids ++ id ∷ [])
      one_more = All-append (λ k. k < length new.store.terms) ids (id ∷ [])
          (λ k d h. omega (arith, builds.within k d h, longer)) (λ k d h. only k d h)
        where
          only : (k d : ℕ) → k < 1 → get_or (id ∷ []) k d < length new.store.terms
          only zero d h = then_builds.within
          only (suc k) d h = absurd (let no : ⊥ = omega (arith, h) in no)

      pub all_built : BuildsAll start (λ a. parts_at a head site way 0 (take (i + 1) exprs)) new
          (ids ++ id ∷ [])
      all_built = record {
        within = one_more;
        laid = then_builds.laid;
        reads = all_reads;
        adds = record {
          back = λ vs sat.
              let m = length start.store.terms in
              let low : m ≤ n = (grown start.store mid.store more.store).not_later.0 in
              subst (Satisfies start.store) (take-take m n vs low)
              (builds.adds.back (take n vs) (then_builds.adds.back vs sat));
          exact = λ a. (
            λ given.
                let late = (then_builds.adds.exact a).0 given in
                let early = (builds.adds.exact a).0 late.0 in (
                  early.0,
                  (
                    early.1.0 ++ late.1.0 ∷ [],
                    sym (parts_step a)
                        ∙ ap (λ o. joined o (part_at a head site (way ++ i ∷ []) e)) early.1.1
                        ∙ ap (joined (Some early.1.0)) late.1.1 ∙ joined_some early.1.0 late.1.0,
                  ),
                ),
            λ both.
                let parts = unjoined (parts_at a head site way 0 (take i exprs))
                (part_at a head site (way ++ i ∷ []) e) both.1.0 (parts_step a ∙ both.1.1) in
                (then_builds.adds.exact a).1 ((builds.adds.exact a).1 (both.0, parts.0), parts.1),
          );
        };
      }

-- what is left of a list when its last element was taken
pub popped_front : (xs ys : List ℕ) (o : Option ℕ) (i : ℕ) →
    xs ++ option_to_list o ≡ ys ++ i ∷ [] → IsSome o → xs ≡ ys
popped_front xs ys None i e some = absurd (let no : ⊥ = cc in no)
popped_front xs ys (Some j) i e some =
    let long : length xs ≡ length ys =
    omega (arith, ap length e, length-append xs (j ∷ []), length-append ys (i ∷ [])) in
    sym (take-append_seam xs (j ∷ [])) ∙ ap (take (length xs)) e
    ∙ ap (λ n. take n (ys ++ i ∷ [])) long ∙ take-append_seam ys (i ∷ [])
