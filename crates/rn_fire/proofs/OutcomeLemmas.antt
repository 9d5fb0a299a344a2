-- What a firing comes to, by what its actions give and how many instances it makes.
use Rattle.std.proofs.Common.{◌≡◌, ℕ, ◌+◌, ◌*◌, ◌≤◌, Bool, true, false, List, [], ◌∷◌, length, map, refl, sym, ap, ◌∙◌, subst, arith}
use Rattle.std.specs.Prelude.{Option, Some, None, Err, flat_map, option_map}
use Rattle.std.specs.List.{AllByRecursion}
use Rattle.std.proofs.lemmas.List.{length-append, length-map}
use Rattle.std.proofs.lemmas.List.FromFn.{length-enumerate_from}
use Rattle.std.proofs.lemmas.List.Elements.{recursion_from_All}
use Rattle.std.specs.Prelude.{◌↔◌, suc}
use Rattle.std.specs.List.{enumerate_from}
use Rattle.rn_value.specs.declared.value.InstRef.TheVariants.{Old}
use Rattle.rn_value.specs.declared.value.Value.{Value}
use Rattle.rn_model.specs.declared.system.System.{System}
use Rattle.rn_model.specs.declared.binding.Node.{Node}
use Rattle.rn_model.specs.declared.binding.Binding.{Binding}
use Rattle.rn_model.specs.declared.log.FaultKind.TheVariants as Fault
use Rattle.rn_model.specs.Bindings.{IsNodeOf, Shape}
use Rattle.rn_model.specs.Demands.{cleared_at, taken_at}
use Rattle.rn_model.specs.Enabling.{Fits}
use Rattle.rn_model.specs.Firing.{Effects, all_effects, creations_of, effects, fire, firing_result, made_by, marking_after, named, too_many}
use Rattle.rn_model.specs.Runs.{entries_of}
use Rattle.rn_model.proofs.EachElement.{each_weaker}
use Rattle.rn_model.proofs.SoundRuns.{runs_end_sound}
use Rattle.rn_model.proofs.StandingTables.{tables_enable_the_same}
use Rattle.rn_acts.specs.Acted.{AreOfArcs, ArePut}
use Rattle.rn_acts.specs.declared.acts.Acted.{Acted}
use Rattle.rn_acts.proofs.NumberingLemmas.{creations_kept}
use Rattle.rn_binding.specs.Soundness.{IsSound}
use Rattle.rn_table.specs.Changes.{changed, values_at}
use Rattle.rn_table.specs.Laws.{LeavesNew}
use Rattle.rn_table.specs.declared.change.Change.{Change}
use Rattle.rn_fire.specs.Commits.{IsEnabledNow}
use Rattle.rn_fire.specs.link.Outcomes.{FiresBy, IsOutcome}
use Rattle.rn_fire.specs.States.{State, IsState, end_marking, logged}
use Rattle.rn_fire.specs.declared.outcome.Outcome.{Outcome}
use Rattle.rn_fire.specs.declared.outcome.Outcome.TheVariants.{Undefined}
use Rattle.rn_fire.proofs.EntryLemmas.{count_going}
use Rattle.rn_model.specs.Good.{Good}
use Rattle.rn_model.specs.Markings.{Marking}
use Rattle.rn_model.specs.Systems.{transition_of}
use Rattle.rn_model.proofs.MarkingsOfRuns.{good_transition}
use Rattle.rn_model.proofs.NumbersOfRuns.{stays_within}

-- an undefined action
pub no_effects : (o : Option Effects) → option_map (λ fx. fx.outs) o ≡ None → o ≡ None
no_effects None e = refl
no_effects (Some fx) e = absurd (let no : ⊥ = cc in no)

pub some_effects : (o : Option Effects) (outs : List Value) → Some outs ≡ option_map (λ fx. fx.outs) o →
    (fx : Effects) × (o ≡ Some fx) × (outs ≡ fx.outs)
some_effects None outs e = absurd (let no : ⊥ = cc in no)
some_effects (Some fx) outs e = let same : outs ≡ fx.outs = cc in (fx, refl, same)

module _ (system : System) (b : Binding) (next step : ℕ) where
  pub instances_fault : (fx : Effects) → effects system b next step ≡ Some fx →
      too_many next (length (creations_of system b)) ≡ true → (m : Marking) → m.next ≡ next →
      fire system m b step ≡ Err Fault.Instances
  instances_fault fx are many m is =
      let more : too_many m.next (length (creations_of system b)) ≡ true =
      ap (λ k. too_many k (length (creations_of system b))) is ∙ many in
      ap (firing_result system m b) (ap (λ k. effects system b k step) is ∙ are) ∙ rw more refl

-- A binding of the shape has at most 200 creations a node.
few_by_node : (system : System) (node : Node) → Good system → IsNodeOf system node →
    length (made_by system node) ≤ 200
few_by_node system node good of =
    let t = transition_of system node in
    let many = (good_transition system node.net node.transition good of.net of.transition).many in
    let count : length (made_by system node) ≡ length t.creations =
    length-map (enumerate_from 0 t.creations) _ ∙ length-enumerate_from 0 t.creations in
    omega (arith, many, count)

count_flat : {X Y : Type 0} (f : X → List Y) (xs : List X) →
    AllByRecursion (λ x. length (f x) ≤ 200) xs → length (flat_map f xs) ≤ length xs * 200
count_flat f [] all = omega arith
count_flat f (x ∷ xs) all =
    let here = all.0 in
    let rest = count_flat f xs all.1 in
    let both = length-append (f x) (flat_map f xs) in
    omega (arith, here, rest, both)

pub few_creations : (system : System) (b : Binding) (depth next : ℕ) → Good system →
    Shape system b depth → next ≤ 1000001 →
    next + length (creations_of system b) ≤ 4294967296
few_creations system b depth next good shape low =
    let each = each_weaker (IsNodeOf system) (λ node. length (made_by system node) ≤ 200)
    (λ node of. few_by_node system node good of) b.nodes
    (recursion_from_All (IsNodeOf system) b.nodes shape.nodes) in
    let all = count_flat (made_by system) b.nodes each in
    let many = shape.many in
    omega (arith, low, all, many)

-- What the calls give, over a binding with the numbers of its new instances.
pub record MadeFor (system : System) (numbered : Binding) (step next : ℕ) (acted : Acted)
    (change : Change) (over : Bool) : Type 0 where
  pub outs : Some acted.outs
      ≡ option_map (λ fx. fx.outs) (all_effects system step numbered.nodes)
  pub put : (fx : Effects) → all_effects system step numbered.nodes ≡ Some fx →
      ArePut system fx acted.put
  pub put_arcs : AreOfArcs system numbered.nodes acted.put
  pub taken : (n place : ℕ) →
      values_at change.taken n place ≡ taken_at system numbered (Old n) place
  pub cleared : (n place : ℕ) → values_at change.cleared n place
      ≡ flat_map (λ vs. vs) (cleared_at system numbered (Old n) place)
  pub made : change.made ≡ map (λ c. c.net) (creations_of system numbered)
  pub is_put : change.put ≡ acted.put
  pub arcs : AreOfArcs system numbered.nodes change.taken
      × AreOfArcs system numbered.nodes change.cleared
  pub after : (fx : Effects) (m : Marking) → ArePut system fx acted.put →
      LeavesNew change m.next →
      changed system change m
      ≡ marking_after system m (creations_of system numbered) numbered fx
  pub many : over ≡ too_many next (length change.made)

module _ (system : System) (b : Binding) (next step : ℕ) (acted : Acted) (change : Change)
    (over : Bool) (given : MadeFor system (named system b next) step next acted change over) where
  -- the effects of its actions
  abbrev Acts : Type 0
  Acts = (fx : Effects) × (effects system b next step ≡ Some fx) × (acted.outs ≡ fx.outs)

  acts : Acts
  acts = some_effects (effects system b next step) acted.outs given.outs

  made_is : length change.made ≡ length (creations_of system b)
  made_is =
      ap length given.made ∙ length-map (creations_of system (named system b next)) (λ c. c.net)
      ∙ ap length (creations_kept system b next)

  counts : too_many next (length (creations_of system b)) ≡ over
  counts = sym (given.many ∙ ap (too_many next) made_is)

  pub is_over : over ≡ true → IsOutcome system b next step (Undefined Fault.Instances)
  is_over e = instances_fault system b next step acts.0 acts.1 (counts ∙ e)

  pub fires_by : over ≡ false → next ≤ 1000001 → FiresBy system b next step acted.outs change
  fires_by e low =
      let nb = named system b next in
      let few = counts ∙ e in
      record {
        acts = acts.0;
        are = acts.1;
        printed = acts.2;
        few = few;
        low = stays_within next (length (creations_of system b)) low few;
        of = record {
          taken = given.taken;
          cleared = given.cleared;
          taken_arcs = given.arcs.0;
          cleared_arcs = given.arcs.1;
          put_arcs = subst (AreOfArcs system nb.nodes) (sym given.is_put) given.put_arcs;
          made = given.made ∙ ap (map (λ c. c.net)) (creations_kept system b next);
        };
        after = λ m leaves.
            given.after acts.0 m (given.put acts.0 acts.1) leaves
            ∙ ap (λ made. marking_after system m made nb acts.0) (creations_kept system b next);
      }

-- The same at a state: the number of the firing, and that of the next instance.
pub outcome_now : (s : State) (system : System) (b other : Binding) (next step : ℕ) (o p : Outcome) →
    s.ended ≡ None → system ≡ s.setup.system → next ≡ s.table.marking.next →
    step ≡ length (logged s) → other ≡ b → o ≡ p → IsOutcome system b next (step + 1) o →
    IsOutcome s.setup.system other s.table.marking.next (suc (length s.fired)) p
outcome_now s system b other next step o p going is next_is step_is same what outcome =
    let count : step + 1 ≡ suc (length s.fired) =
    let n = step_is ∙ ap (λ e. length (entries_of s.fired e)) going ∙ count_going s.fired in
    omega (arith, n) in
    subst (IsOutcome s.setup.system other s.table.marking.next (suc (length s.fired))) what
    (subst (λ c. IsOutcome s.setup.system c s.table.marking.next (suc (length s.fired)) o) (sym same)
    (subst (λ n. IsOutcome s.setup.system b s.table.marking.next n o) count
    (subst (λ n. IsOutcome s.setup.system b n (step + 1) o) next_is
    (subst (λ x. IsOutcome x b next (step + 1) o) is outcome))))

-- what the table meets is enabled, and nothing else of what is sound
pub fits_decides : (s : State) (b : Binding) → IsState s →
    IsSound s.setup.system s.setup.options.depth b →
    Fits s.setup.system s.table.marking b ↔ IsEnabledNow s b
fits_decides s b is sound =
    let tokens = runs_end_sound s.setup.system s.setup.options.depth s.fired is.good is.log.run in
    let same = tables_enable_the_same s.setup.system s.table.marking (end_marking s) b
    s.setup.options.depth tokens is.stands in (
      λ fits. same.0 (record {
        shape = sound.shape;
        agrees = sound.agrees;
        derived = sound.derived;
        fits = fits;
      }),
      λ enabled. (same.1 enabled).fits,
    )
