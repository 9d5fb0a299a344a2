-- Calls below the nodes of a binding.
use Rattle.std.proofs.Common.{ℕ, zero, suc, ◌≡◌, ◌∙◌, ◌+◌, ◌-◌, ◌<◌, ◌≤◌, List, [], ◌∷◌, length, Bool, true, false}
use Rattle.std.proofs.Common.{◌&&◌, Some, refl, sym, ap, subst, arith, nat_lt, Contains, true≢false, get_or}
use Rattle.std.specs.Prelude.{◌||◌, slice_get, unwrap_or, All}
use Rattle.std.specs.List.{list_any, list_all}
use Rattle.std.proofs.lemmas.List.{length-append}
use Rattle.std.proofs.lemmas.List.Elements.{All-contains}
use Rattle.std.proofs.lemmas.Bool.{eq-eqb}
use Rattle.std.proofs.lemmas.Bool.Decides.{nat_tests}
use Rattle.rn_items.proofs.Bools.{both_true, true_both}
use Rattle.rn_model.specs.declared.system.System.{System}
use Rattle.rn_model.specs.declared.system.Transition.{Transition}
use Rattle.rn_model.specs.declared.system.Downlink.{Downlink}
use Rattle.rn_model.specs.declared.binding.Node.{Node}
use Rattle.rn_model.specs.declared.binding.Binding.{Binding}
use Rattle.rn_model.specs.Systems.{transition_of, net_at, empty_net, empty_transition}
use Rattle.rn_model.specs.Bindings.{Shape, IsNodeOf}
use Rattle.rn_model.specs.Good.{Good}
use Rattle.rn_model.proofs.MarkingsOfRuns.{good_transition}
use Rattle.rn_channel.specs.Answering.{is_of}
use Rattle.rn_channel.specs.Heights.{calls_answered, net_answers, is_answered, suffices}

-- a test that follows from another is passed by all that pass the other
all_more : {X : Type 0} (p q : X → Bool) → ((x : X) → p x ≡ true → q x ≡ true) → (xs : List X) →
    list_all p xs ≡ true → list_all q xs ≡ true
all_more p q more [] all = refl
all_more p q more (x ∷ xs) all =
    let both = both_true (p x) (list_all p xs) all in
    true_both (q x) (list_all q xs) (more x both.0) (all_more p q more xs both.1)

any_more : {X : Type 0} (p q : X → Bool) → ((x : X) → p x ≡ true → q x ≡ true) → (xs : List X) →
    list_any p xs ≡ true → list_any q xs ≡ true
any_more p q more [] some = some
any_more p q more (x ∷ xs) some = by (p x) refl some (any_more p q more xs)
  where
    by : (b : Bool) → p x ≡ b → (b || list_any p xs) ≡ true →
        (list_any p xs ≡ true → list_any q xs ≡ true) → (q x || list_any q xs) ≡ true
    by true e s rest = rw (more x e) refl
    by false e s rest = let later = rest s in or_right (q x) (list_any q xs) later
      where
        or_right : (a b : Bool) → b ≡ true → (a || b) ≡ true
        or_right true b e = refl
        or_right false b e = e

calls_more : (f g : ℕ → Bool) → ((c : ℕ) → f c ≡ true → g c ≡ true) → (t : Transition) →
    calls_answered f t ≡ true → calls_answered g t ≡ true
calls_more f g more t all =
    all_more (λ call. f call.channel) (λ call. g call.channel) (λ call. more call.channel) t.downlinks all

-- a channel that fewer levels suffice to answer is answered with one level more
more_answered : (system : System) (k : ℕ) (c : ℕ) → is_answered system k c ≡ true →
    is_answered system (suc k) c ≡ true
more_answered system zero c is = absurd (true≢false (sym is))
more_answered system (suc k) c is =
    let both = both_true (nat_lt c (length system.channels)) _ is in
    true_both (nat_lt c (length system.channels)) _ both.0
    (any_more (net_answers (calls_answered (is_answered system k)) c)
    (net_answers (calls_answered (is_answered system (suc k))) c)
    (λ net. any_more (λ t. is_of c t.uplink && calls_answered (is_answered system k) t)
    (λ t. is_of c t.uplink && calls_answered (is_answered system (suc k)) t)
    (λ t here.
    let parts = both_true (is_of c t.uplink) _ here in
    true_both (is_of c t.uplink) _ parts.0
    (calls_more (is_answered system k) (is_answered system (suc k)) (more_answered system k) t parts.1))
    net.transitions)
    system.nets both.1)

pub more_levels_suffice : (system : System) (k : ℕ) (t : Transition) → suffices system k t ≡ true →
    suffices system (suc k) t ≡ true
more_levels_suffice system k t is =
    calls_more (is_answered system k) (is_answered system (suc k)) (more_answered system k) t is

-- what holds at each index holds of all
all_at : {X : Type 0} (p : X → Bool) (xs : List X) →
    ((i : ℕ) (x : X) → slice_get xs i ≡ Some x → p x ≡ true) → list_all p xs ≡ true
all_at p [] each = refl
all_at p (x ∷ xs) each =
    true_both (p x) (list_all p xs) (each 0 x refl) (all_at p xs (λ i y is. each (suc i) y is))

-- an element that passes is among some that do
any_at : {X : Type 0} (p : X → Bool) (xs : List X) (i : ℕ) (d : X) → i < length xs →
    p (unwrap_or (slice_get xs i) d) ≡ true → list_any p xs ≡ true
any_at p [] i d below is = absurd (omega (arith, below))
any_at p (x ∷ xs) zero d below is = rw is refl
any_at p (x ∷ xs) (suc i) d below is =
    or_right (p x) (list_any p xs) (any_at p xs i d (omega (arith, below)) is)
  where
    or_right : (a b : Bool) → b ≡ true → (a || b) ≡ true
    or_right true b e = refl
    or_right false b e = e

-- an index that is there is below the length
within : {X : Type 0} (xs : List X) (i : ℕ) (x : X) → slice_get xs i ≡ Some x → i < length xs
within [] i x is = let no : ⊥ = cc in absurd no
within (y ∷ xs) zero x is = omega arith
within (y ∷ xs) (suc i) x is = let below = within xs i x is in omega (arith, below)

-- what stands at an index
got : {X : Type 0} (xs : List X) (i : ℕ) (x : X) → slice_get xs i ≡ Some x → get_or xs i x ≡ x
got [] i x is = let no : ⊥ = cc in absurd no
got (y ∷ xs) zero x is = let same : y ≡ x = cc in same
got (y ∷ xs) (suc i) x is = got xs i x is

module _ (system : System) (b : Binding) (depth : ℕ) (good : Good system) (shape : Shape system b depth) where
  -- a node's call goes to a channel of the system
  channel_there : (node : Node) (i : ℕ) (d : Downlink) → Contains b.nodes node →
      slice_get (transition_of system node).downlinks i ≡ Some d →
      nat_lt d.channel (length system.channels) ≡ true
  channel_there node i d there is =
      let of = All-contains (IsNodeOf system) b.nodes node shape.nodes there in
      let t = good_transition system node.net node.transition good of.net of.transition in
      let below = within (transition_of system node).downlinks i d is in
      let call = t.kinds.downlinks i d below in
      let there = subst (λ x. x.channel < length system.channels)
      (got (transition_of system node).downlinks i d is) call.1.there in
      grind (arith, nat_tests)

  -- the levels that are left suffice below each node
  pub levels_suffice : (left : ℕ) (node : Node) → Contains b.nodes node → depth - length node.path ≡ left →
      suffices system left (transition_of system node) ≡ true
  levels_suffice zero node there is = all_at (λ call. false) (transition_of system node).downlinks
      (λ i d at.
      let child = shape.children node i d there at in
      let called = child.1 in
      let low = All-contains (λ n. length n.path ≤ depth) b.nodes child.0 shape.deep called.node_there in
      let long : length child.0.path ≡ length node.path + 1
      = ap length called.path ∙ length-append node.path (i ∷ []) in
      absurd (omega (arith, low, long, is)))
  levels_suffice (suc left) node there is =
      all_at (λ call. is_answered system (suc left) call.channel) (transition_of system node).downlinks
      (λ i d at.
      let child = shape.children node i d there at in
      let called = child.1 in
      let answers = child.2 in
      let long : length child.0.path ≡ length node.path + 1
      = ap length called.path ∙ length-append node.path (i ∷ []) in
      let fewer : depth - length child.0.path ≡ left = omega (arith, long, is) in
      let below = levels_suffice left child.0 called.node_there fewer in
      let of = All-contains (IsNodeOf system) b.nodes child.0 shape.nodes called.node_there in
      let of_channel : is_of d.channel (transition_of system child.0).uplink ≡ true
      = ap (is_of d.channel) answers.1 ∙ eq-eqb answers.0.channel d.channel answers.2 in
      true_both (nat_lt d.channel (length system.channels)) _
      (channel_there node i d there at)
      (any_at (net_answers (calls_answered (is_answered system left)) d.channel) system.nets child.0.net
      empty_net of.net
      (any_at (λ t. is_of d.channel t.uplink && calls_answered (is_answered system left) t)
      (net_at system child.0.net).transitions child.0.transition empty_transition of.transition
      (true_both (is_of d.channel (transition_of system child.0).uplink) _ of_channel below))))
