-- Which instances terms are forced to be.
use Rattle.std.proofs.Common.{◌≡◌, ℕ, ℤ, List, ◌++◌, refl, sym, ap, ◌∙◌}
use Rattle.std.specs.Prelude.{Option, Some, None, Result, Ok, Err, IfOk, ◌↔◌, option_map}
use Rattle.std.specs.Prelude.{option_and_then}
use Rattle.std.proofs.lemmas.Option.{same_Some}
use Rattle.rn_value.specs.declared.value.InstRef.{InstRef}
use Rattle.rn_value.specs.declared.value.Value.{Value, out-Value}
use Rattle.rn_value.specs.declared.value.Value.TheVariants as Value
use Rattle.rn_value.specs.declared.value.Value.TheOpen as V
use Rattle.rn_model.specs.declared.expr.Expr.{Expr, fold_out-Expr}
use Rattle.rn_model.specs.declared.expr.Expr.TheVariants as E
use Rattle.rn_model.specs.declared.system.System.{System}
use Rattle.rn_model.specs.Evaluation.{list_onto, list_of}
use Rattle.rn_model.specs.Derivation.{Assignment, Unknowns, term_value, term_step}
use Rattle.rn_model.proofs.DerivationLemmas.{term_value-Int, term_value-Text, term_value-Tuple}
use Rattle.rn_model.proofs.DerivationLemmas.{term_value-List, term_value-Cons}
use Rattle.rn_growing.specs.declared.decision.Decision.{Decision}
use Rattle.rn_growing.specs.declared.slot.Unknown.{Unknown}
use Rattle.rn_growing.specs.Equations.{IsForcedTo}
use Rattle.rn_growing.specs.link.Grown.{Says}
use Rattle.rn_growing.specs.link.Laid.{LaidState, IsGiven}
use Rattle.rn_growing.specs.link.Layouts.{asked}
use Rattle.rn_growing.proofs.Growth.{solvable}
use Rattle.rn_growing.proofs.Telling.{forced_answer}

inst_part : V.Value-F Value → Option InstRef
inst_part (V.Inst i) = Some i
inst_part _ = None

-- the instance that a value names
inst_of : Value → Option InstRef
inst_of v = inst_part (out-Value v)

inst_of-Inst : (i : InstRef) → inst_of (Value.Inst i) ≡ Some i
unfolding inst_of inst_part
inst_of-Inst i = rw (Value.outs-Inst i)

-- a term never names an instance
pub NamesNone : Option Value → Type 0
NamesNone o = option_and_then inst_of o ≡ None

pub int_names_none : (n : ℤ) (u : Unknowns) → NamesNone (term_value (E.Int n) u)
unfolding inst_of inst_part NamesNone
int_names_none n u = ap (option_and_then inst_of) (term_value-Int n u) ∙ rw (Value.outs-Int n)

pub text_names_none : (s : List ℕ) (u : Unknowns) → NamesNone (term_value (E.Text s) u)
unfolding inst_of inst_part NamesNone
text_names_none s u = ap (option_and_then inst_of) (term_value-Text s u) ∙ rw (Value.outs-Text s)

step_has_none : (u : Unknowns) → term_value E.Step u ≡ None
step_has_none u =
    ap (λ f. f u) (fold_out-Expr (Unknowns → Option Value) term_step E.Step) ∙ rw E.outs-Step

pub step_names_none : (u : Unknowns) → NamesNone (term_value E.Step u)
unfolding NamesNone
step_names_none u = ap (option_and_then inst_of) (step_has_none u)

tuple_none : (o : Option (List Value)) → NamesNone (option_map (λ vs. Value.Tuple vs) o)
unfolding inst_of inst_part NamesNone
tuple_none None = refl
tuple_none (Some vs) = rw (Value.outs-Tuple vs)

list_none : (o : Option (List Value)) (f : List Value → List Value) →
    NamesNone (option_map (λ vs. Value.List (f vs)) o)
unfolding inst_of inst_part NamesNone
list_none None f = refl
list_none (Some vs) f = rw (Value.outs-List (f vs))

cons_none : (terms : Option (List Value)) (rest : Option Value) →
    NamesNone (option_and_then (λ vs. option_and_then (list_onto vs) rest) terms)
unfolding NamesNone
cons_none None rest = refl
cons_none (Some vs) None = refl
cons_none (Some vs) (Some w) = list_none (list_of w) (λ others. vs ++ others)

pub tuple_names_none : (parts : List Expr) (u : Unknowns) →
    NamesNone (term_value (E.Tuple parts) u)
unfolding NamesNone
tuple_names_none parts u = ap (option_and_then inst_of) (term_value-Tuple parts u) ∙ tuple_none _

pub list_names_none : (parts : List Expr) (u : Unknowns) → NamesNone (term_value (E.List parts) u)
unfolding NamesNone
list_names_none parts u =
    ap (option_and_then inst_of) (term_value-List parts u) ∙ list_none _ (λ vs. vs)

pub cons_names_none : (parts : List Expr) (tail : Expr) (u : Unknowns) →
    NamesNone (term_value (E.Cons parts tail) u)
unfolding NamesNone
cons_names_none parts tail u =
    ap (option_and_then inst_of) (term_value-Cons parts tail u) ∙ cons_none _ _

module _ (system : System) (laid : LaidState) (ds : List Decision) (says : Says system laid ds)
  where
    pub told_none : (term : Assignment → Option Value) → ((a : Assignment) → NamesNone (term a)) →
        (i : InstRef) → (None ≡ Some i) ↔ IsForcedTo system ds term (Value.Inst i)
    unfolding NamesNone
    told_none term none i = (
      λ e. absurd (let no : ⊥ = cc in no),
      λ forced.
          let s = solvable system laid ds says in
          let some : None ≡ Some i =
          sym (none s.0) ∙ ap (option_and_then inst_of) (forced s.0 s.1) ∙ inst_of-Inst i in
          some,
    )

    pub told_this : (term : Assignment → Option Value) (j k : InstRef) → k ≡ j →
        ((a : Assignment) → term a ≡ Some (Value.Inst j)) →
        (i : InstRef) → (Some k ≡ Some i) ↔ IsForcedTo system ds term (Value.Inst i)
    told_this term j k same is i = (
      λ e a solves. is a ∙ ap (λ l. Some (Value.Inst l)) (sym same ∙ same_Some k i e),
      λ forced.
          let s = solvable system laid ds says in
          ap Some same ∙ sym (inst_of-Inst j)
          ∙ ap (option_and_then inst_of) (sym (is s.0) ∙ forced s.0 s.1) ∙ inst_of-Inst i,
    )

    pub told_instance : (path : List ℕ) (u : Unknown) (o : Option Value) (told : Option InstRef) →
        ((v : Value) → (o ≡ Some v) ↔ IsGiven laid path u v) →
        ((i : InstRef) → (told ≡ Some i) ↔ (o ≡ Some (Value.Inst i))) → (i : InstRef) →
        (told ≡ Some i) ↔ IsForcedTo system ds (λ a. Some (asked a path u)) (Value.Inst i)
    told_instance path u o told given names i =
        let forced = forced_answer {E = ℕ} (Ok o) system laid ds path u says given
        (Value.Inst i) in (
          λ e. forced.0 ((names i).0 e),
          λ f. (names i).1 (forced.1 f),
        )

-- terms that are the same
pub told_alike : {E : Type 0} (result : Result (Option InstRef) E) (system : System)
    (ds : List Decision) (term other : Assignment → Option Value) →
    ((a : Assignment) → term a ≡ other a) →
    IfOk result (λ told. (i : InstRef) →
    (told ≡ Some i) ↔ IsForcedTo system ds term (Value.Inst i))
    → IfOk result (λ told. (i : InstRef) → (told ≡ Some i)
    ↔ IsForcedTo system ds other (Value.Inst i))
told_alike (Err e) system ds term other alike told = tt
told_alike (Ok o) system ds term other alike told = λ i. (
  λ e a solves. sym (alike a) ∙ (told i).0 e a solves,
  λ forced. (told i).1 (λ a solves. alike a ∙ forced a solves),
)
