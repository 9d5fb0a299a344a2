-- Kinds of known arguments, and of what answers know by them.
use Rattle.std.proofs.Common.{◌≡◌, ℕ, zero, suc, ◌+◌, ◌<◌, List, [], ◌∷◌, ◌++◌, length, get_or}
use Rattle.std.proofs.Common.{length-append}
use Rattle.std.proofs.Common.{refl, sym, ap, ◌∙◌, subst, inl, inr, ◌⊎◌, arith}
use Rattle.std.specs.Prelude.{Option, Some, None, All, Contains, IfSome, slice_get}
use Rattle.std.specs.Prelude.{option_and_then, option_map, unwrap_or}
use Rattle.std.specs.List.{AllZip}
use Rattle.std.proofs.lemmas.List.Elements.{All-push, Contains-get_or}
use Rattle.std.proofs.lemmas.Option.{slice_get_within}
use Rattle.rn_value.specs.Kinds.{HasKind}
use Rattle.rn_value.specs.declared.value.Kind.{Kind}
use Rattle.rn_value.specs.declared.value.Kind.TheVariants as Kind
use Rattle.rn_value.specs.declared.value.Value.{Value}
use Rattle.rn_model.specs.declared.expr.Expr.{Expr}
use Rattle.rn_model.specs.declared.expr.Expr.TheVariants as E
use Rattle.rn_model.specs.declared.system.Downlink.{Downlink}
use Rattle.rn_model.specs.declared.system.System.{System}
use Rattle.rn_model.specs.declared.system.Transition.{Transition}
use Rattle.rn_model.specs.Good.{Good, IsGoodCall}
use Rattle.rn_model.specs.Kinds.{HasExprKind}
use Rattle.rn_model.specs.Systems.{channel_kinds, net_at, transition_at, uplink_args, var_kind}
use Rattle.rn_model.proofs.AgreeingValues.{can_compare}
use Rattle.rn_model.proofs.AskedValues.{later}
use Rattle.rn_model.proofs.EachElement.{at_place}
use Rattle.rn_model.proofs.HoleKinds.{kind_beside, uplink_of}
use Rattle.rn_model.proofs.MarkingsOfRuns.{good_transition}
use Rattle.rn_calc.proofs.FitByKinds.{in_downlinks}
use Rattle.rn_channel.specs.Answering.{answering}
use Rattle.rn_growing.specs.declared.decision.Head.{Head}
use Rattle.rn_growing.specs.Grown.{Grown}
use Rattle.rn_growing.proofs.Growth.{at_in, some_equal}
use Rattle.rn_growing.specs.declared.decision.Decision.{Decision}
use Rattle.rn_growing.specs.Decisions.{transition_in}
use Rattle.rn_search.specs.declared.point.Called.{Called}
use Rattle.rn_search.specs.Offering.{answers}
use Rattle.rn_search.specs.Points.{net_called, node_of}
use Rattle.rn_search.specs.Sought.{Sought}
use Rattle.rn_search.proofs.Allowed.{answer_below, answer_is_of, net_there}
use Rattle.rn_search.proofs.Sound.{before_or_last}
use Rattle.rn_looking.specs.AnswerKinds.{FitAnswer, FitArgs, HaveKindsBeside, HaveKindsOfArgs}
use Rattle.rn_looking.specs.AnswerKinds.{FitsArg, KnowsAnswer, PutsArg, PutsArgs, PutsKnown, PutsVar}
use Rattle.rn_looking.specs.Branches.{IsLookedAt}
use Rattle.rn_looking.specs.NodeKinds.{AreOfKinds, HasItsKinds, IsKindedAt, kinds_at}
use Rattle.rn_looking.proofs.KindedNodes.{kinded_node, same_kinds, well}
use Rattle.rn_looking.proofs.KindedValues.{var_kind_is}
use Rattle.rn_looking.proofs.LookedAt.{node_is}

-- one more argument is looked at
pub arg_more : (g : Grown) (head : Head) (args : List Expr) (values next : List (Option Value))
    (i : ℕ) (e : Expr) (told : Option Value) → length values ≡ i → slice_get args i ≡ Some e →
    next ≡ values ++ told ∷ [] → IfSome told (HasItsKinds g head e) →
    HaveKindsOfArgs g head args values → HaveKindsOfArgs g head args next
arg_more g head args values next i e told many here put its so k f v at value =
    elim (before_or_last values told k (Some v) (subst (λ os. slice_get os k ≡ Some (Some v)) put
    value)) as (λ _. HasItsKinds g head f v) [
      | inl before ↦ so k f v at before.1
      | inr last ↦
          let there : slice_get args k ≡ Some e =
          ap (slice_get args) (last.0 ∙ many) ∙ here in
          let same : e ≡ f = some_equal e f (sym there ∙ at) in
          subst (λ e. HasItsKinds g head e v) same
          (subst (λ o. IfSome o (HasItsKinds g head e)) (sym last.1) its)
    ]

pub length_more : (values : List (Option Value)) (told : Option Value) (i : ℕ) →
    length values ≡ i → length (values ++ told ∷ []) ≡ i + 1
length_more values told i many =
    let long = length-append values (told ∷ []) in omega (arith, long, many)

-- what is put beside a variable
pub puts_var : (x : ℕ) (v : Value) (old new : List (ℕ × Value)) → new ≡ old ++ (x, v) ∷ [] →
    PutsVar x v old new
puts_var x v old new put kinds has all =
    subst (AreOfKinds kinds) (sym put) (All-push (λ p. HasKind p.1 (kinds p.0)) old (x, v) all has)

pub puts_arg : (e : Expr) (x : ℕ) (v : Value) (old new : List (ℕ × Value)) → e ≡ E.Var x →
    PutsVar x v old new → PutsArg e v old new
puts_arg e x v old new is puts kinds kind has fits all =
    let same = var_kind_is kinds x kind (subst (λ f. HasExprKind kinds f kind) is has) in
    puts kinds (subst (HasKind v) (sym same) fits) all

-- what may be known of an argument
pub puts_known : (e : Expr) (v : Value) (old new : List (ℕ × Value)) → PutsArg e v old new →
    PutsKnown e (Some v) old new
puts_known e v old new puts kinds fits all = puts kinds fits.0 fits.1 fits.2 all

fits_known : (kinds : ℕ → Kind) (args : List Expr) (values : List (Option Value)) (k : ℕ)
    (e : Expr) (told : Option Value) → FitArgs kinds args values → slice_get args k ≡ Some e →
    slice_get values k ≡ Some told → IfSome told (FitsArg kinds e)
fits_known kinds args values k e None fit at value = tt
fits_known kinds args values k e (Some v) fit at value = fit k e v at value

-- one argument after another
pub puts_more : (args : List Expr) (values : List (Option Value)) (k : ℕ) (e : Expr)
    (told : Option Value) (first old new : List (ℕ × Value)) → slice_get args k ≡ Some e →
    slice_get values k ≡ Some told → PutsArgs args values first old → PutsKnown e told old new →
    PutsArgs args values first new
puts_more args values k e told first old new at value so puts kinds fit all =
    puts kinds (fits_known kinds args values k e told fit at value) (so kinds fit all)

-- none yet
pub puts_none : (args : List Expr) (values : List (Option Value)) (pairs : List (ℕ × Value)) →
    PutsArgs args values pairs pairs
puts_none args values pairs kinds fit all = all

-- What an answer knows by its arguments.
pub knows_answer : (t : Transition) (values : List (Option Value)) (old new : List (ℕ × Value)) →
    FitAnswer t values → old ≡ [] → PutsArgs (uplink_args t) values old new → KnowsAnswer t new
knows_answer t values old new (kinds, compare, fit) none puts = (
  kinds,
  compare,
  puts kinds fit
      (subst (AreOfKinds kinds) (sym none) (λ k d low. absurd (let no : ⊥ = omega (arith, low) in
      no))),
)

-- Values with the kinds of a channel fit the transitions that answer it.
module _ (system : System) (net channel : ℕ) (values : List (Option Value))
    (good : Good system) (kinds : HaveKindsBeside (channel_kinds system channel) values) where
  pub answer_fits : (i t : ℕ) → slice_get (answering system net channel) i ≡ Some t →
      FitAnswer (transition_at system net t) values
  answer_fits i t at =
      let low = answer_below channel 0 (net_at system net).transitions i t at in
      let within : t < length (net_at system net).transitions = omega (arith, low) in
      let well_kinded =
      (good_transition system net t good (net_there system.nets net t within) within).kinds in
      let tr = transition_at system net t in (
        var_kind system net,
        λ guard there c among.
            can_compare system (net_at system net) (var_kind system net) tr well_kinded guard there
            c among,
        λ k e v arg value.
            let up = uplink_of tr.uplink k e arg in
            let same : channel ≡ up.0.channel =
            answer_is_of system channel net i t up.0 at within up.1 in
            let call = well_kinded.uplink up.0 up.1 in
            let beside = kind_beside (HasExprKind (var_kind system net)) up.0.args
            (channel_kinds system up.0.channel) k e call.fits up.2 in (
              beside.0,
              beside.2,
              kinds k beside.0 v
                  (subst (λ c. slice_get (channel_kinds system c) k ≡ Some beside.0) (sym same) beside.1)
                  value,
            ),
      )

-- the argument that stands beside a kind has it
arg_beside : (R : Expr → Kind → Type 0) (es : List Expr) (ks : List Kind) (k : ℕ) (kind : Kind) →
    AllZip R es ks → slice_get ks k ≡ Some kind →
    (e : Expr) × (slice_get es k ≡ Some e) × R e kind
arg_beside R es [] k kind all is = absurd (let no : ⊥ = cc in no)
arg_beside R [] (l ∷ ks) k kind all is = absurd all
arg_beside R (e ∷ es) (l ∷ ks) zero kind all is =
    (e, refl, subst (R e) (some_equal l kind is) all.0)
arg_beside R (e ∷ es) (l ∷ ks) (suc k) kind all is = arg_beside R es ks k kind all.1 is

abbrev node_of_with : Sought → ℕ → List Decision → Head
node_of_with sought node ds = node_of sought ds node

-- The arguments of a downlink of a node that is looked at.
module _ (sought : Sought) (g : Grown) (node : ℕ) (head : Head) (t : Transition)
    (looked : IsLookedAt sought g node head t) (i : ℕ) (downlink : Downlink)
    (link : slice_get t.downlinks i ≡ Some downlink) where
  pub args_kinded : All (IsKindedAt g head) downlink.args
  args_kinded k d low =
      let e = get_or downlink.args k d in
      let nodes = kinded_node sought g node head t looked in (
        nodes.forces,
        nodes.exprs e (in_downlinks t downlink (at_in t.downlinks i downlink link) e
            (later downlink.target e downlink.args (Contains-get_or downlink.args k d low))),
      )

  -- where known, they have the kinds of its channel
  pub known_beside : (values : List (Option Value)) →
      HaveKindsOfArgs g head downlink.args values →
      HaveKindsBeside (channel_kinds sought.system downlink.channel) values
  known_beside values so k kind v at value =
      let kinds = var_kind sought.system head.net in
      let call = (at_place (λ d. HasExprKind kinds d.target Kind.Net
      × IsGoodCall sought.system kinds d.channel d.args) t.downlinks i downlink
      (well sought g node head t looked).downlinks link).1 in
      let arg = arg_beside (HasExprKind kinds) downlink.args
      (channel_kinds sought.system downlink.channel) k kind call.fits at in
      so k arg.0 v arg.1 value kind
      (subst (λ ks. HasExprKind ks arg.0 kind) (sym (same_kinds sought g node head t looked)) arg.2)

  -- and the transitions that may answer are those of its channel
  pub answers_of : (called : Called) (net : ℕ) (found : List ℕ) (ds : List Decision) →
      ds ≡ g.decisions → found ≡ answers sought ds node i called →
      net_called sought ds called ≡ Some net →
      found ≡ answering sought.system net downlink.channel
  answers_of called net found ds same is of =
      let head_is = ap (node_of_with sought node) same ∙ node_is sought g node head t looked in
      let there : slice_get (transition_in sought.system (node_of sought ds node)).downlinks i
      ≡ Some downlink =
      ap (λ h. slice_get (transition_in sought.system h).downlinks i) head_is
      ∙ ap (λ (u : Transition). slice_get u.downlinks i) (sym looked.transition) ∙ link in
      is
      ∙ ap (λ o. unwrap_or (option_and_then (λ net. option_map
      (λ (d : Downlink). answering sought.system net d.channel)
      (slice_get (transition_in sought.system (node_of sought ds node)).downlinks i)) o) []) of
      ∙ ap (λ o. unwrap_or (option_map
      (λ (d : Downlink). answering sought.system net d.channel) o) []) there
