use Rattle.std.proofs.Common.{◌≡◌, ◌≢◌, inl, inr, refl, sym, ◌∙◌, ℕ, List, Bool, true, false}
use Rattle.std.specs.Prelude.{MatchBool}
use Rattle.std.proofs.lemmas.Result.{IfOk-weaker}
use Rattle.rn_term.specs.declared.term.Term.TheVariants as T
use Rattle.rn_term.specs.Stores.{State, Leads, term_at}
use Rattle.rn_term.specs.Assignments.{MayBeOne}
use Rattle.rn_term.proofs.Agreement.{leads-same}
use Rattle.rn_unify.specs.link.Binding.{AreEnds, IsLeft, IsLinked, IsSolved}
use Rattle.rn_unify.proofs.binding.solve.Goals as goal

-- what is answered of the ends is one of the ids from which links lead there
at_ends : (old new : State) (a b x y : ℕ) (later : List (ℕ × ℕ)) (answer : Bool) →
    AreEnds old a b x y →
    MatchBool answer (IsLinked old x y new) ((new ≡ old) × ¬ MayBeOne old x y) →
    MatchBool answer (IsSolved old a b later new later) ((new ≡ old) × ¬ MayBeOne old a b)
at_ends old new a b x y later true ends linked = record {
  x = x;
  y = y;
  ends = ends;
  way = inr (inl (linked, refl));
}
at_ends old new a b x y later false ends (same, never) = (
  same,
  λ one.
      never (
        one.0,
        one.1,
        sym (leads-same old one.0 a x one.1 ends.first) ∙ one.2
            ∙ leads-same old one.0 b y one.1 ends.second,
      ),
)

-- the same of ends that are left to be compared
left_at_ends : (s : State) (a b x y : ℕ) (before after : List (ℕ × ℕ)) (answer : Bool) →
    AreEnds s a b x y → (term_at s x ≢ T.Free) →
    MatchBool answer (IsLeft s x y before after) (¬ MayBeOne s x y) →
    MatchBool answer (IsSolved s a b before s after) ((s ≡ s) × ¬ MayBeOne s a b)
left_at_ends s a b x y before after true ends built left = record {
  x = x;
  y = y;
  ends = ends;
  way = inr (inr (built, refl, left));
}
left_at_ends s a b x y before after false ends built never = (
  refl,
  λ one.
      never (
        one.0,
        one.1,
        sym (leads-same s one.0 a x one.1 ends.first) ∙ one.2
            ∙ leads-same s one.0 b y one.1 ends.second,
      ),
)

pub returns-else-is_variable-2-clause-solved : goal.returns-else-is_variable-2-clause-solved
returns-else-is_variable-2-clause-solved c =
    IfOk-weaker c.leave.result
    (λ answer. MatchBool answer
    (IsLeft c.args.store.now c.follow-x.result c.follow-y.result c.args.later.now.items
    c.leave.new.later.items)
    (¬ MayBeOne c.args.store.now c.follow-x.result c.follow-y.result))
    (λ answer. MatchBool answer
    (IsSolved c.args.store.now c.args.a c.args.b c.args.later.now.items c.args.store.now
    c.leave.new.later.items)
    ((c.args.store.now ≡ c.args.store.now) × ¬ MayBeOne c.args.store.now c.args.a c.args.b))
    (λ answer. left_at_ends c.args.store.now c.args.a c.args.b c.follow-x.result
    c.follow-y.result c.args.later.now.items c.leave.new.later.items answer (record {
      kept = c.follow-x.ensures.kept;
      first = c.follow-x.ensures.leads;
      second = c.follow-y.ensures.leads;
      first_within = c.follow-x.ensures.within;
      second_within = c.follow-y.ensures.within;
      first_end = c.follow-x.ensures.end;
      second_end = c.follow-y.ensures.end;
    })
    (λ free. let yes = c.is_variable.ensures.1 free in cc))
    c.leave.ensures.left

pub link_ends-requires-clause-ends : goal.link_ends-requires-clause-ends
link_ends-requires-clause-ends c = record {
  kept = c.follow-x.ensures.kept;
  first = Leads.here;
  second = Leads.here;
  first_within = c.follow-x.ensures.within;
  second_within = c.follow-y.ensures.within;
  first_end = c.follow-x.ensures.end;
  second_end = c.follow-y.ensures.end;
}

pub returns-then-is_variable-2-clause-solved : goal.returns-then-is_variable-2-clause-solved
returns-then-is_variable-2-clause-solved c =
    IfOk-weaker c.link_ends.result
    (λ answer. MatchBool answer
    (IsLinked c.args.store.now c.follow-x.result c.follow-y.result c.link_ends.new.store)
    ((c.link_ends.new.store ≡ c.args.store.now)
    × ¬ MayBeOne c.args.store.now c.follow-x.result c.follow-y.result))
    (λ answer. MatchBool answer
    (IsSolved c.args.store.now c.args.a c.args.b c.args.later.now.items c.link_ends.new.store
    c.args.later.now.items)
    ((c.link_ends.new.store ≡ c.args.store.now)
    × ¬ MayBeOne c.args.store.now c.args.a c.args.b))
    (λ answer. at_ends c.args.store.now c.link_ends.new.store c.args.a c.args.b c.follow-x.result
    c.follow-y.result c.args.later.now.items answer (record {
      kept = c.follow-x.ensures.kept;
      first = c.follow-x.ensures.leads;
      second = c.follow-y.ensures.leads;
      first_within = c.follow-x.ensures.within;
      second_within = c.follow-y.ensures.within;
      first_end = c.follow-x.ensures.end;
      second_end = c.follow-y.ensures.end;
    }))
    c.link_ends.ensures.linked
