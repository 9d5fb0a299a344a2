-- A walk that looks for free variables in a term, with what is left to look at on a stack.
use Rattle.std.proofs.Common.{◌≡◌, ◌⊎◌, ⊎_elim, inl, inr, ◌<◌, ◌+◌, ℕ, List, [], ◌∷◌, ◌++◌}
use Rattle.std.proofs.Common.{refl, arith, length, sym, ◌∙◌, ap, subst}
use Rattle.std.specs.Prelude.{Option, Some, None, IsSome, IsTrue, Bool, ◌↔◌}
use Rattle.std.specs.List.{Contains}
use Rattle.std.proofs.lemmas.List.Elements.{Contains-append_left, Contains-append_right}
use Rattle.std.proofs.lemmas.List.Elements.{Contains-append_cases, Contains-push}
use Rattle.std.proofs.lemmas.List.Elements.{Contains-push_cases}
use Rattle.rn_term.specs.declared.seen.Seen.{Seen}
use Rattle.rn_term.specs.Stores.{State, term_at, link_of, Leads}
use Rattle.rn_term.specs.Assignments.{Keeps}
use Rattle.rn_term.specs.Occurring.{parts_of, Occurs, IsFree, IsSoughtHere, HasSought}
use Rattle.rn_term.specs.link.Seen.{IsSeen}
use Rattle.rn_term.proofs.AssignmentLemmas.{link_within}
use Rattle.rn_term.proofs.Bulks.{bulk, bulk-parts, bulk-leads, total_of, total_of-append}
use Rattle.rn_term.proofs.Occurrences.{by_parts, leads_occurs, leads_past, occurs-through}
use Rattle.rn_term.proofs.LinkLemmas.{none_or_some}
use Rattle.rn_term.proofs.Occurrences.{occurring_within, end_is_here, occurs_at_end}
use Rattle.rn_term.proofs.Parts.{no_parts}

-- an id is met: it is left to look at, or links lead from it to one that was walked through, or
-- nothing that is looked for occurs in it
abbrev IsMet : State → Option ℕ → List ℕ → List ℕ → ℕ → Type 0
IsMet s sought walked rest id = Contains rest id
    ⊎ (((end : ℕ) × Leads s.notes id end × Contains walked end) ⊎ (¬ HasSought s sought id))

-- A walk has come so far: what was walked through isn't bound and isn't what is looked for, its
-- parts are met, and what is left occurs in the id from which it started.
pub record IsWalked (s : State) (sought : Option ℕ) (id : ℕ) (seen : Seen) (rest : List ℕ) : Type 0
  where
    pub walked : List ℕ
    pub remembered : (k : ℕ) → IsSeen seen k → Contains walked k
    pub ends : (k : ℕ) → Contains walked k → link_of s.notes k ≡ None
    pub other : (k : ℕ) → Contains walked k → ¬ IsSoughtHere s sought k
    pub parts : (k p : ℕ) → Contains walked k → Contains (parts_of (term_at s k)) p →
        IsMet s sought walked rest p
    pub start : IsMet s sought walked rest id
    pub occurring : (x : ℕ) → Contains rest x → Occurs s x id

none_in : {B : Type 0} (x : ℕ) → Contains {X = ℕ} [] x → B
none_in x is = absurd (let no : ⊥ = omega (arith, is.1) in no)

-- nothing was walked through
pub walk_starts : (s : State) (sought : Option ℕ) (id : ℕ) (seen : Seen) (rest : List ℕ) →
    ((k : ℕ) → ¬ IsSeen seen k) → rest ≡ id ∷ [] → IsWalked s sought id seen rest
walk_starts s sought id seen rest none is =
    subst (IsWalked s sought id seen) (sym is) (record {
      walked = [];
      remembered = λ k seen. absurd (none k seen);
      ends = λ k there. none_in k there;
      other = λ k there. none_in k there;
      parts = λ k p there part. none_in k there;
      start = inl (Contains-push [] id);
      occurring = λ x there. ⊎_elim
          (λ none. none_in x none)
          (λ same. subst (λ y. Occurs s y id) same Occurs.here)
          (Contains-push_cases [] id x there);
    })

module _ (s : State) (sought : Option ℕ) (id : ℕ) (seen : Seen) (before rest : List ℕ) (next : ℕ)
    (keeps : Keeps s) (within : id < length s.terms)
    (walk : IsWalked s sought id seen before) (popped : before ≡ rest ++ next ∷ []) where
  next_left : Contains before next
  next_left = subst (λ xs. Contains xs next) (sym popped) (Contains-push rest next)

  -- the next id is one of the store
  pub next_within : next < length s.terms
  next_within = occurring_within s keeps next id within (walk.occurring next next_left)

  -- what else is left
  left_or_next : (x : ℕ) → Contains before x → Contains rest x ⊎ (next ≡ x)
  left_or_next x there =
      Contains-push_cases rest next x (subst (λ xs. Contains xs x) popped there)

  rest_left : (x : ℕ) → Contains rest x → Contains before x
  rest_left x there =
      subst (λ xs. Contains xs x) (sym popped) (Contains-append_left rest (next ∷ []) x there)

  steps_before : total_of (bulk s) before ≡ total_of (bulk s) rest + bulk s next
  steps_before =
      let all = ap (total_of (bulk s)) popped in
      omega (arith, all, total_of-append (bulk s) rest (next ∷ []))

  module _ (end : ℕ) (leads : Leads s.notes next end) (end_within : end < length s.terms)
      (unbound : link_of s.notes end ≡ None) where
    -- what doesn't occur where links lead doesn't occur in the next one
    lacking : ¬ HasSought s sought end → ¬ HasSought s sought next
    lacking none has =
        none (has.0, has.1, has.2, occurs_at_end s keeps has.0 next end has.1.unbound leads has.3)

    -- what was met is met still, where more is left and that to which the next one leads is walked
    met_still : (walked more : List ℕ) → ((x : ℕ) → Contains walk.walked x → Contains walked x) →
        Contains walked end ⊎ (¬ HasSought s sought end) →
        ((x : ℕ) → Contains rest x → Contains more x) → (x : ℕ) →
        IsMet s sought walk.walked before x → IsMet s sought walked more x
    met_still walked more same here left x met = ⊎_elim
        (λ there. ⊎_elim
        (λ in_rest. inl (left x in_rest))
        (λ is. inr (⊎_elim
        (λ at. inl (end, subst (λ y. Leads s.notes y end) is leads, at))
        (λ none. inr (subst (λ y. ¬ HasSought s sought y) is (lacking none)))
        here))
        (left_or_next x there))
        (λ more_met. inr (⊎_elim
        (λ there. inl (there.0, there.1, same there.0 there.2))
        (λ none. inr none)
        more_met))
        met

    -- the next one leads to what no variable that is looked for occurs in
    pub skipped : ¬ HasSought s sought end → IsWalked s sought id seen rest
    skipped none = record {
      walked = walk.walked;
      remembered = walk.remembered;
      ends = walk.ends;
      other = walk.other;
      parts = λ k p there part.
          met_still walk.walked rest (λ x is. is) (inr none) (λ x is. is) p
          (walk.parts k p there part);
      start = met_still walk.walked rest (λ x is. is) (inr none) (λ x is. is) id walk.start;
      occurring = λ x there. walk.occurring x (rest_left x there);
    }

    -- the next one leads to what was walked through
    pub passed : IsSeen seen end → IsWalked s sought id seen rest
    passed has = record {
      walked = walk.walked;
      remembered = walk.remembered;
      ends = walk.ends;
      other = walk.other;
      parts = λ k p there part.
          met_still walk.walked rest (λ x is. is) (inl (walk.remembered end has)) (λ x is. is) p
          (walk.parts k p there part);
      start =
          met_still walk.walked rest (λ x is. is) (inl (walk.remembered end has)) (λ x is. is) id
          walk.start;
      occurring = λ x there. walk.occurring x (rest_left x there);
    }

    pub passed_smaller : total_of (bulk s) rest < total_of (bulk s) before
    passed_smaller = omega (
      arith,
      steps_before,
      bulk-parts s keeps next next_within,
    )

    -- it leads to a term, whose parts are left
    pub walked_on : (after : Seen) (more : List ℕ) →
        ((k : ℕ) → IsSeen after k → (k ≡ end) ⊎ IsSeen seen k) → ¬ IsSoughtHere s sought end →
        more ≡ rest ++ parts_of (term_at s end) → IsWalked s sought id after more
    walked_on after more only apart is =
        subst (IsWalked s sought id after) (sym is) (record {
          walked = now;
          remembered = λ k has. ⊎_elim
              (λ same. subst (Contains now) (sym same) here)
              (λ old. older k (walk.remembered k old))
              (only k has);
          ends = λ k there. ⊎_elim
              (λ old. walk.ends k old)
              (λ same. subst (λ y. link_of s.notes y ≡ None) same unbound)
              (Contains-push_cases walk.walked end k there);
          other = λ k there. ⊎_elim
              (λ old. walk.other k old)
              (λ same. subst (λ y. ¬ IsSoughtHere s sought y) same apart)
              (Contains-push_cases walk.walked end k there);
          parts = λ k p there part. ⊎_elim
              (λ old. still p (walk.parts k p old part))
              (λ same. inl (Contains-append_right rest (parts_of (term_at s end)) p
              (subst (λ y. Contains (parts_of (term_at s y)) p) (sym same) part)))
              (Contains-push_cases walk.walked end k there);
          start = still id walk.start;
          occurring = λ x there. ⊎_elim
              (λ old. walk.occurring x (rest_left x old))
              (λ part. occurs-through s x next id
              (occurs-through s x end next (Occurs.in_part part Occurs.here)
              (leads_occurs s next end leads)) (walk.occurring next next_left))
              (Contains-append_cases rest (parts_of (term_at s end)) x there);
        })
      where
        now : List ℕ
        now = walk.walked ++ end ∷ []

        here : Contains now end
        here = Contains-push walk.walked end

        older : (x : ℕ) → Contains walk.walked x → Contains now x
        older x there = Contains-append_left walk.walked (end ∷ []) x there

        still : (x : ℕ) → IsMet s sought walk.walked before x →
            IsMet s sought now (rest ++ parts_of (term_at s end)) x
        still x met =
            met_still now (rest ++ parts_of (term_at s end)) older (inl here)
            (λ y there. Contains-append_left rest (parts_of (term_at s end)) y there) x met

    pub walked_smaller : (more : List ℕ) → more ≡ rest ++ parts_of (term_at s end) →
        total_of (bulk s) more < total_of (bulk s) before
    walked_smaller more is =
        let all = ap (total_of (bulk s)) is in
        omega (
          arith,
          steps_before,
          all,
          total_of-append (bulk s) rest (parts_of (term_at s end)),
          bulk-parts s keeps end end_within,
          bulk-leads s keeps next end next_within leads,
        )

    -- it leads to a free variable that is looked for
    pub found_here : IsSoughtHere s sought end → HasSought s sought id
    found_here is = (
      end,
      record { within = end_within; variable = is.0; unbound = unbound },
      is.1,
      occurs-through s end next id (leads_occurs s next end leads) (walk.occurring next next_left),
    )

-- nothing is left to look at: no variable that is looked for occurs
pub not_found : (s : State) (sought : Option ℕ) (id : ℕ) (seen : Seen) (rest : List ℕ) → Keeps s →
    id < length s.terms → IsWalked s sought id seen rest → rest ≡ [] → ¬ HasSought s sought id
not_found s sought id seen rest keeps within walk empty (var, free, is, occurs) =
    ⊎_elim
    (λ left. none_in id (subst (λ xs. Contains xs id) empty left))
    (λ met. ⊎_elim
    (λ at. all id within at.0 at.1 at.2 occurs)
    (λ none. none (var, free, is, occurs))
    met)
    walk.start
  where
    IsClear : ℕ → Type 0
    IsClear x = (end : ℕ) → Leads s.notes x end → Contains walk.walked end → ¬ Occurs s var x

    unbound_whole : (x part : ℕ) → Contains (parts_of (term_at s x)) part → (o : Option ℕ) →
        link_of s.notes x ≡ o → link_of s.notes x ≡ None
    unbound_whole x part there None none = none
    unbound_whole x part there (Some to) some =
        absurd (no_parts s x part (link_within s keeps x to some).2 there)

    step : (x : ℕ) → x < length s.terms →
        ((p : ℕ) → Contains (parts_of (term_at s x)) p → IsClear p) →
        ((to : ℕ) → link_of s.notes x ≡ Some to → IsClear to) → IsClear x
    step x small parts bound end leads there Occurs.here =
        walk.other end there
        (subst (IsSoughtHere s sought) (end_is_here s x end free.unbound leads) (free.variable, is))
    step x small parts bound end leads there (Occurs.in_part {part = part} piece deeper) =
        let same : x ≡ end = end_is_here s x end
        (unbound_whole x part piece (link_of s.notes x) refl) leads in
        ⊎_elim
        (λ left. none_in part (subst (λ xs. Contains xs part) empty left))
        (λ met. ⊎_elim
        (λ at. parts part piece at.0 at.1 at.2 deeper)
        (λ none. none (var, free, is, deeper))
        met)
        (walk.parts x part (subst (Contains walk.walked) (sym same) there) piece)
    step x small parts bound end leads there (Occurs.in_bound {to = to} link deeper) =
        bound to link end (leads_past s x to end (walk.ends end there) link leads) there deeper

    all : (x : ℕ) → x < length s.terms → IsClear x
    all x small = by_parts s keeps IsClear step x small

-- where nothing is popped nothing was left
pub none_popped : (before : List ℕ) (o : Option ℕ) (n : ℕ) → n ≡ length before →
    (0 < n → IsSome o) → ((x : ℕ) → o ≡ Some x → ⊥) → before ≡ []
none_popped [] o n long some none = refl
none_popped (x ∷ xs) o n long some none = absurd (is_none o none (some (omega (arith, long)))) where
  is_none : (o : Option ℕ) → ((x : ℕ) → o ≡ Some x → ⊥) → IsSome o → ⊥
  is_none None none is = cc
  is_none (Some x) none is = none x refl

-- a variable doesn't occur in an id from which links lead to another variable or a value
pub none_in_leaf : (s : State) → Keeps s → (var id end : ℕ) → link_of s.notes var ≡ None →
    Leads s.notes id end → link_of s.notes end ≡ None → (end ≡ var → ⊥) →
    parts_of (term_at s end) ≡ [] → ¬ Occurs s var id
none_in_leaf s keeps var id end free leads unbound other leaf occurs =
    here end unbound other leaf (occurs_at_end s keeps var id end free leads occurs)
  where
    here : (end : ℕ) → link_of s.notes end ≡ None → (end ≡ var → ⊥) →
        parts_of (term_at s end) ≡ [] → ¬ Occurs s var end
    here _ unbound other leaf Occurs.here = other refl
    here end unbound other leaf (Occurs.in_part {part = part} piece rest) =
        none_in part (subst (λ xs. Contains xs part) leaf piece)
    here end unbound other leaf (Occurs.in_bound {to = to} link rest) =
        none_or_some to (sym unbound ∙ link)

-- looking for one variable where links lead is looking for it in an id
pub sought_occurs : (s : State) → Keeps s → (var id end : ℕ) → IsFree s var →
    Leads s.notes id end → (found : Bool) → (IsTrue found ↔ HasSought s (Some var) end) →
    IsTrue found ↔ Occurs s var id
sought_occurs s keeps var id end free leads found exact = (
  λ is.
      let one = exact.0 is in
      occurs-through s var end id
      (subst (λ x. Occurs s x end) (sym one.2) one.3) (leads_occurs s id end leads),
  λ is. exact.1 (var, free, refl, occurs_at_end s keeps var id end free.unbound leads is),
)
