-- Kinds of operator applications, and of the expressions in which they count.
use Rattle.std.proofs.Common.{◌≡◌, ℕ, zero, suc, ◌+◌, true, refl, List, [], ◌∷◌, ◌++◌, map, sym, ap, ◌∙◌, subst}
use Rattle.std.specs.Prelude.{Option, Some, None, Contains, slice_get, filter, flat_map}
use Rattle.std.specs.List.{AllByRecursion, AllZip, enumerate_from}
use Rattle.std.specs.Option.{option_map_or}
use Rattle.std.proofs.lemmas.Option.{same_Some}
use Rattle.std.proofs.lemmas.List.Elements.{All-contains, All-from_recursion}
use Rattle.rn_value.specs.declared.value.Kind.{Kind, out-Kind}
use Rattle.rn_value.specs.declared.value.Kind.TheVariants as Kind
use Rattle.rn_model.specs.declared.expr.Expr.{Expr, para-roll-Expr}
use Rattle.rn_model.specs.declared.expr.Expr.TheVariants as E
use Rattle.rn_model.specs.declared.expr.Expr.TheOpen as O
use Rattle.rn_model.specs.declared.system.System.{System}
use Rattle.rn_model.specs.declared.system.Net.{Net}
use Rattle.rn_model.specs.declared.system.Transition.{Transition}
use Rattle.rn_model.specs.declared.system.Uplink.{Uplink}
use Rattle.rn_model.specs.Systems.{uplink_args, channel_kinds}
use Rattle.rn_model.specs.Kinds.{HasExprKind, ShareKind}
use Rattle.rn_model.specs.Good.{IsWellKinded, IsGoodCall, IsGoodArc}
use Rattle.rn_model.specs.Derivation.{Site, uplink_arg, downlink_arg, arc, Hole, holes_in, holes_step, holes_of_parts, within_part, finds_token, sides_of, args_of, sites_of}
use Rattle.rn_model.specs.KindLaws.{HolesHaveKinds}
use Rattle.rn_model.proofs.DerivationLemmas.{holes_in-Int, holes_in-Text, holes_in-Var, holes_in-This, holes_in-Tuple, holes_in-List, holes_in-Cons, holes_in-Neg, holes_in-Op}
use Rattle.rn_model.proofs.EachElement.{each_append, each_map, each_flat_map, each_filter, each_place, at_place}
use Rattle.rn_model.proofs.FormsOfExpressions.{by_form}
use Rattle.rn_model.proofs.OperandKinds.{HasSome, opened, tuple_at, list_at, cons_at}

-- an expression that stands beside a kind has it
pub kind_beside : (R : Expr → Kind → Type 0) (es : List Expr) (ks : List Kind) (k : ℕ) (e : Expr) → AllZip R es ks → slice_get es k ≡ Some e → (kind : Kind) × (slice_get ks k ≡ Some kind) × R e kind
kind_beside R [] ks k e all is = absurd (let no : ⊥ = cc in no)
kind_beside R (f ∷ es) [] k e all is = absurd all
kind_beside R (f ∷ es) (kind ∷ ks) zero e all is = (kind, refl, subst (λ g. R g kind) (same_Some f e is) all.0)
kind_beside R (f ∷ es) (kind ∷ ks) (suc k) e all is = kind_beside R es ks k e all.1 is

module _ (kinds : ℕ → Kind) where
  -- the application in a hole has a kind
  abbrev FormHas : Hole → Type 0
  FormHas hole = HasSome kinds hole.form

  abbrev HolesHave : Expr → Type 0
  HolesHave e = HasSome kinds e → AllByRecursion FormHas (holes_in e)

  abbrev with_holes : Expr → Expr × List Hole
  with_holes e = (e, holes_in e)

  none_have : (e : Expr) → holes_in e ≡ [] → HolesHave e
  none_have e none some = subst (AllByRecursion FormHas) (sym none) tt

  parts_have : (parts : List Expr) → AllByRecursion HolesHave parts → AllByRecursion (HasSome kinds) parts → (i : ℕ) → AllByRecursion FormHas (holes_of_parts i (map with_holes parts))
  parts_have [] have some i = tt
  parts_have (part ∷ parts) have some i =
      each_append FormHas (map (within_part i) (holes_in part)) (holes_of_parts (i + 1) (map with_holes parts))
      (each_map FormHas (within_part i) (holes_in part) (have.0 some.0)) (parts_have parts have.1 some.1 (i + 1))

  with_last_have : (parts : List Expr) (last : Expr) → AllByRecursion HolesHave parts → AllByRecursion (HasSome kinds) parts → HolesHave last → HasSome kinds last → (i : ℕ) →
      AllByRecursion FormHas (holes_of_parts i (map with_holes parts ++ with_holes last ∷ []))
  with_last_have [] last have some ends some_last i = each_append FormHas (map (within_part i) (holes_in last)) [] (each_map FormHas (within_part i) (holes_in last) (ends some_last)) tt
  with_last_have (part ∷ parts) last have some ends some_last i =
      each_append FormHas (map (within_part i) (holes_in part)) (holes_of_parts (i + 1) (map with_holes parts ++ with_holes last ∷ []))
      (each_map FormHas (within_part i) (holes_in part) (have.0 some.0)) (with_last_have parts last have.1 some.1 ends some_last (i + 1))

  tuple_have : (parts : List Expr) → AllByRecursion HolesHave parts → HolesHave (E.Tuple parts)
  tuple_have parts have (kind, has) =
      let step = sym (opened kinds (E.Tuple parts) kind ∙ rw (E.outs-Tuple parts)) ∙ has in
      subst (AllByRecursion FormHas) (sym (holes_in-Tuple parts)) (parts_have parts have (tuple_at kinds parts (out-Kind kind) step) 0)

  list_have : (parts : List Expr) → AllByRecursion HolesHave parts → HolesHave (E.List parts)
  list_have parts have (kind, has) =
      let step = sym (opened kinds (E.List parts) kind ∙ rw (E.outs-List parts)) ∙ has in
      subst (AllByRecursion FormHas) (sym (holes_in-List parts)) (parts_have parts have (list_at kinds parts (out-Kind kind) step) 0)

  cons_have : (parts : List Expr) (tail : Expr) → AllByRecursion HolesHave parts → HolesHave tail → HolesHave (E.Cons parts tail)
  cons_have parts tail have ends (kind, has) =
      let step = sym (opened kinds (E.Cons parts tail) kind ∙ rw (E.outs-Cons parts tail)) ∙ has in
      let at = cons_at kinds parts tail (out-Kind kind) step in
      subst (AllByRecursion FormHas) (sym (holes_in-Cons parts tail)) (with_last_have parts tail have at.0 ends (Kind.List at.1.0, at.1.1) 0)

  holes_in-Step : holes_in E.Step ≡ []
  holes_in-Step = ap holes_in (sym E.rolls-Step) ∙ para-roll-Expr (List Hole) holes_step O.Step

  -- where an expression has a kind, each operator application in it has one
  pub holes_have : (e : Expr) → HasSome kinds e → AllByRecursion FormHas (holes_in e)
  holes_have = by_form HolesHave (record {
    int = λ n. none_have (E.Int n) (holes_in-Int n);
    text = λ s. none_have (E.Text s) (holes_in-Text s);
    var = λ x. none_have (E.Var x) (holes_in-Var x);
    this = none_have E.This holes_in-This;
    step = none_have E.Step holes_in-Step;
    tuple = tuple_have;
    list = list_have;
    cons = cons_have;
    neg = λ part _ some. subst (AllByRecursion FormHas) (sym (holes_in-Neg part)) (some, tt);
    op = λ op a b _ _ some. subst (AllByRecursion FormHas) (sym (holes_in-Op op a b)) (some, tt);
  })

pub holes_have_kinds : HolesHaveKinds
holes_have_kinds kinds e kind hole has there =
    All-contains (FormHas kinds) (holes_in e) hole (All-from_recursion (FormHas kinds) (holes_in e) (holes_have kinds e (kind, has))) there

-- where an uplink has an argument, it is there
pub uplink_of : (o : Option Uplink) (k : ℕ) (f : Expr) → slice_get (option_map_or (λ u. u.args) o []) k ≡ Some f → (u : Uplink) × (o ≡ Some u) × (slice_get u.args k ≡ Some f)
uplink_of None k f at = absurd (let no : ⊥ = cc in no)
uplink_of (Some u) k f at = (u, refl, at)

-- The expressions at the sites of a transition have kinds.
module _ (system : System) (net : Net) (kinds : ℕ → Kind) (t : Transition) (good : IsWellKinded system net kinds t) where
  abbrev SiteHas : Site × Expr → Type 0
  SiteHas s = HasSome kinds s.1

  arg_has : (channel : ℕ) (args : List Expr) → IsGoodCall system kinds channel args → (k : ℕ) (e : Expr) → slice_get args k ≡ Some e → HasSome kinds e
  arg_has channel args call k e at = let beside = kind_beside (HasExprKind kinds) args (channel_kinds system channel) k e call.fits at in (beside.0, beside.2)

  sides_have : AllByRecursion SiteHas (flat_map sides_of (enumerate_from 0 t.equalities))
  sides_have = each_flat_map SiteHas sides_of (enumerate_from 0 t.equalities)
      (each_place (λ e. AllByRecursion SiteHas (sides_of e)) t.equalities (λ k e at.
      let share = at_place (λ e. ShareKind kinds e.0 e.1) t.equalities k e good.equalities at in ((share.0, share.1), ((share.0, share.2), tt))))

  uplinks_have : AllByRecursion SiteHas (map (λ e. (uplink_arg e.0, e.1)) (enumerate_from 0 (uplink_args t)))
  uplinks_have = each_map SiteHas (λ e. (uplink_arg e.0, e.1)) (enumerate_from 0 (uplink_args t))
      (each_place (λ e. SiteHas (uplink_arg e.0, e.1)) (uplink_args t) (λ k e at.
      let up = uplink_of t.uplink k e at in arg_has up.0.channel up.0.args (good.uplink up.0 up.1) k e up.2))

  calls_have : AllByRecursion SiteHas (flat_map args_of (enumerate_from 0 t.downlinks))
  calls_have = each_flat_map SiteHas args_of (enumerate_from 0 t.downlinks)
      (each_place (λ d. AllByRecursion SiteHas (args_of d)) t.downlinks (λ i d at.
      let call = (at_place (λ d. HasExprKind kinds d.target Kind.Net × IsGoodCall system kinds d.channel d.args) t.downlinks i d good.downlinks at).1 in
      each_map SiteHas (λ e. (downlink_arg i e.0, e.1)) (enumerate_from 0 d.args)
      (each_place (λ e. SiteHas (downlink_arg i e.0, e.1)) d.args (λ k e here. arg_has d.channel d.args call k e here))))

  arcs_have : AllByRecursion SiteHas (map (λ e. (arc e.0, e.1.inscription)) (filter (λ e. finds_token e.1.kind) (enumerate_from 0 t.arcs)))
  arcs_have = each_map SiteHas (λ e. (arc e.0, e.1.inscription)) (filter (λ e. finds_token e.1.kind) (enumerate_from 0 t.arcs))
      (each_filter (λ e. SiteHas (arc e.0, e.1.inscription)) (λ e. finds_token e.1.kind) (enumerate_from 0 t.arcs)
      (each_place (λ e. finds_token e.1.kind ≡ true → SiteHas (arc e.0, e.1.inscription)) t.arcs (λ k x at finds.
      (_, (at_place (IsGoodArc net kinds) t.arcs k x good.arcs at).kind))))

  -- an operator application at a site has a kind
  pub hole_has : (site : Site) (e : Expr) (hole : Hole) → Contains (sites_of t) (site, e) → Contains (holes_in e) hole → HasSome kinds hole.form
  hole_has site e hole there within =
      let sides = flat_map sides_of (enumerate_from 0 t.equalities) in
      let uplinks = map (λ e. (uplink_arg e.0, e.1)) (enumerate_from 0 (uplink_args t)) in
      let calls = flat_map args_of (enumerate_from 0 t.downlinks) in
      let arcs = map (λ e. (arc e.0, e.1.inscription)) (filter (λ e. finds_token e.1.kind) (enumerate_from 0 t.arcs)) in
      let each = each_append SiteHas ((sides ++ uplinks) ++ calls) arcs (each_append SiteHas (sides ++ uplinks) calls (each_append SiteHas sides uplinks sides_have uplinks_have) calls_have) arcs_have in
      let some = All-contains SiteHas (sites_of t) (site, e) (All-from_recursion SiteHas (sites_of t) each) there in
      All-contains (FormHas kinds) (holes_in e) hole (All-from_recursion (FormHas kinds) (holes_in e) (holes_have kinds e some)) within
