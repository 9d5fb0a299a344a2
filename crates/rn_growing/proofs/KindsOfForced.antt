-- What decisions force has its kind.
use Rattle.std.proofs.Common.{◌≡◌, ℕ, zero, suc, ◌<◌, ◌≤◌, Bool, true, false, List, [], ◌∷◌, length, take, get_or, refl, sym, ap, ◌∙◌, subst, arith}
use Rattle.std.specs.Prelude.{Option, Some, Contains, slice_get, nat_eq, if◌then◌else◌}
use Rattle.std.specs.List.{AllZip}
use Rattle.std.specs.Cmp.Lexicographic.{pointwise}
use Rattle.std.proofs.lemmas.Option.{same_Some, slice_get-get_or}
use Rattle.rn_items.proofs.Numbers.{same_numbers, numbers_themselves}
use Rattle.rn_value.specs.Kinds.{HasKind}
use Rattle.rn_value.specs.declared.value.InstRef.TheVariants.{New}
use Rattle.rn_value.specs.declared.value.Kind.{Kind}
use Rattle.rn_value.specs.declared.value.Value.{Value}
use Rattle.rn_model.specs.declared.expr.Expr.{Expr}
use Rattle.rn_model.specs.declared.system.System.{System}
use Rattle.rn_model.specs.declared.system.Downlink.{Downlink}
use Rattle.rn_model.specs.Lists.{HaveOneValue}
use Rattle.rn_model.specs.Systems.{net_at, var_kind, place_kind, uplink_args, channel_kinds}
use Rattle.rn_model.specs.Kinds.{HasExprKind, ShareKind}
use Rattle.rn_model.specs.Agreement.{inscribed_kind}
use Rattle.rn_model.specs.Good.{Good, IsWellKinded, IsGoodCall, IsGoodArc}
use Rattle.rn_model.specs.Derivation.{Assignment, left, right, uplink_arg, downlink_arg, arc}
use Rattle.rn_model.specs.Derivation as D
use Rattle.rn_model.specs.KindLaws.{Standing, alike, gives, var_is, hole_is}
use Rattle.rn_model.proofs.EachElement.{at_place, at_places}
use Rattle.rn_model.proofs.HoleKinds.{kind_beside, uplink_of}
use Rattle.rn_model.proofs.MarkingsOfRuns.{good_transition}
use Rattle.rn_model.proofs.MendedTerms.{mended_by, mended_meets, mended_has_kinds}
use Rattle.rn_model.proofs.MendedValues.{inst_has_kind}
use Rattle.rn_growing.specs.declared.decision.Head.{Head}
use Rattle.rn_growing.specs.declared.decision.Caller.{Caller}
use Rattle.rn_growing.specs.declared.decision.Decision.{Decision}
use Rattle.rn_growing.specs.declared.decision.Decision.TheVariants.{Entered, Found, Computed}
use Rattle.rn_growing.specs.Decisions.{transition_in, site_of}
use Rattle.rn_growing.specs.Equations.{EntryBrings, Brings, Solves, IsForcedTo, read_at}
use Rattle.rn_growing.specs.Kinded.{AreKinded, KindedForceKinds}
use Rattle.rn_growing.specs.Turns.{IsEntered, AreInTurn, MayCome, SameThing}
use Rattle.rn_growing.proofs.Growth.{front_at, at_in}

-- the net of the node that decisions enter on a path
abbrev entered_net : List Decision → List ℕ → ℕ
entered_net [] path = 0
entered_net (Entered head caller ∷ ds) path = if pointwise nat_eq head.path path then head.net else entered_net ds path
entered_net (Found head k v ∷ ds) path = entered_net ds path
entered_net (Computed head site way v ∷ ds) path = entered_net ds path

-- none is on the thing of an earlier one
abbrev Once : List Decision → Type 0
Once ds = (j k : ℕ) (d e : Decision) → j < k → slice_get ds j ≡ Some d → slice_get ds k ≡ Some e → ¬ SameThing d e

rest_once : (d : Decision) (ds : List Decision) → Once (d ∷ ds) → Once ds
rest_once d ds once j k e f less first second = once (suc j) (suc k) e f (omega (arith, less)) first second

entered_first : (h head : Head) (from caller : Option Caller) (ds : List Decision) (k : ℕ) → Once (Entered h from ∷ ds) → slice_get ds k ≡ Some (Entered head caller) → (same : Bool) → pointwise nat_eq h.path head.path ≡ same → same ≡ false
entered_first h head from caller ds k once at true e = absurd (once 0 (suc k) (Entered h from) (Entered head caller) (omega arith) refl at (same_numbers h.path head.path e))
entered_first h head from caller ds k once at false e = refl

net_entered : (ds : List Decision) (head : Head) (caller : Option Caller) (k : ℕ) → Once ds → slice_get ds k ≡ Some (Entered head caller) → entered_net ds head.path ≡ head.net
net_entered [] head caller k once at = absurd (let no : ⊥ = cc in no)
net_entered (d ∷ ds) head caller zero once at =
    let is : d ≡ Entered head caller = same_Some d (Entered head caller) at in
    ap (λ d. entered_net (d ∷ ds) head.path) is ∙ rw (numbers_themselves head.path) refl
net_entered (Entered h from ∷ ds) head caller (suc k) once at =
    let other = entered_first h head from caller ds k once at (pointwise nat_eq h.path head.path) refl in
    let passed : entered_net (Entered h from ∷ ds) head.path ≡ entered_net ds head.path = rw other refl in
    passed ∙ net_entered ds head caller k (rest_once (Entered h from) ds once) at
net_entered (Found h j v ∷ ds) head caller (suc k) once at = net_entered ds head caller k (rest_once (Found h j v) ds once) at
net_entered (Computed h site way v ∷ ds) head caller (suc k) once at = net_entered ds head caller k (rest_once (Computed h site way v) ds once) at

module _ (system : System) (ds : List Decision) (good : Good system) (turns : AreInTurn system ds) (kinded : AreKinded system ds) (a : Assignment) (solves : Solves system ds a) where
  abbrev kinds : List ℕ → ℕ → Kind
  kinds path = var_kind system (entered_net ds path)

  abbrev mended : Assignment
  mended = mended_by kinds a

  abbrev standing : Head → D.Site → Standing
  standing head site = record { inst = head.inst; path = head.path; site = site }

  at_index : (d : Decision) (k : ℕ) (h : k < length ds) (e : get_or ds k d ≡ d) → slice_get ds k ≡ Some d
  at_index d k h e = slice_get-get_or ds k d h ∙ ap Some e

  kinds_of : (head : Head) → IsEntered ds head → kinds head.path ≡ var_kind system head.net
  kinds_of head (caller, (k, h, e)) = ap (var_kind system) (net_entered ds head caller k turns.once (at_index (Entered head caller) k h e))

  at_kinds : (head : Head) → IsEntered ds head → (e : Expr) (kind : Kind) → HasExprKind (var_kind system head.net) e kind → HasExprKind (kinds head.path) e kind
  at_kinds head there e kind has = subst (λ ks. HasExprKind ks e kind) (sym (kinds_of head there)) has

  well : (head : Head) → IsEntered ds head → IsWellKinded system (net_at system head.net) (var_kind system head.net) (transition_in system head)
  well head (caller, there) = let is = kinded (Entered head caller) there in (good_transition system head.net head.transition good is.0 is.1).kinds

  -- a node that was entered before was entered
  later : (k : ℕ) (head : Head) → k < length ds → IsEntered (take k ds) head → IsEntered ds head
  later k head low (caller, (j, h, e)) =
      let c : Decision = Entered head caller in
      let room : k ≤ length ds = omega (arith, low) in
      let before = front_at ds k j c (slice_get-get_or (take k ds) j c h ∙ ap Some e) room in
      (caller, at_in ds j c before.1)

  came : (d : Decision) → Contains ds d → (k : ℕ) × (k < length ds) × MayCome system (take k ds) d
  came d (k, h, e) = (k, h, turns.came k d (at_index d k h e))

  caller_entered : (head : Head) (from : Caller) → Contains ds (Entered head (Some from)) → IsEntered ds from.head
  caller_entered head from there = let may = came (Entered head (Some from)) there in later may.0 from.head may.1 may.2.entered

  alike_mended : (head other : Head) → IsEntered ds head → IsEntered ds other → (s r : D.Site) (e f : Expr) (kind : Kind) →
      HasExprKind (var_kind system head.net) e kind → HasExprKind (var_kind system other.net) f kind →
      HaveOneValue (read_at a head s e) (read_at a other r f) → HaveOneValue (read_at mended head s e) (read_at mended other r f)
  alike_mended head other there too s r e f kind first second one =
      mended_meets kinds a (alike (standing head s) e (standing other r) f) (kind, at_kinds head there e kind first, at_kinds other too f kind second) one

  arg_mended : (head : Head) (from : Caller) (downlink : Downlink) → Contains ds (Entered head (Some from)) → slice_get (transition_in system from.head).downlinks from.downlink ≡ Some downlink →
      (k : ℕ) (e f : Expr) → slice_get downlink.args k ≡ Some e → slice_get (uplink_args (transition_in system head)) k ≡ Some f →
      HaveOneValue (read_at a from.head (downlink_arg from.downlink k) e) (read_at a head (uplink_arg k) f) → HaveOneValue (read_at mended from.head (downlink_arg from.downlink k) e) (read_at mended head (uplink_arg k) f)
  arg_mended head from downlink there at k e f here answered one =
      let calls = caller_entered head from there in
      let entered : IsEntered ds head = (Some from, there) in
      let up = uplink_of (transition_in system head).uplink k f answered in
      let channel : downlink.channel ≡ up.0.channel = (kinded (Entered head (Some from)) there).2 from downlink up.0 refl at up.1 in
      let down = (at_place (λ d. HasExprKind (var_kind system from.head.net) d.target Kind.Net × IsGoodCall system (var_kind system from.head.net) d.channel d.args) (transition_in system from.head).downlinks from.downlink downlink (well from.head calls).downlinks at).1 in
      let answer = (well head entered).uplink up.0 up.1 in
      let beside = kind_beside (HasExprKind (var_kind system from.head.net)) downlink.args (channel_kinds system downlink.channel) k e down.fits here in
      let fits = subst (λ c. AllZip (HasExprKind (var_kind system head.net)) up.0.args (channel_kinds system c)) (sym channel) answer.fits in
      let has = at_places (HasExprKind (var_kind system head.net)) up.0.args (channel_kinds system downlink.channel) k f beside.0 fits up.2 beside.1 in
      alike_mended from.head head calls entered (downlink_arg from.downlink k) (uplink_arg k) e f beside.0 beside.2 has one

  entry_mended : (head : Head) (caller : Option Caller) → Contains ds (Entered head caller) → EntryBrings system a head caller → EntryBrings system mended head caller
  entry_mended head caller there brings = record {
    equalities = λ k e here.
        let entered : IsEntered ds head = (caller, there) in
        let share = at_place (λ e. ShareKind (var_kind system head.net) e.0 e.1) (transition_in system head).equalities k e (well head entered).equalities here in
        alike_mended head head entered entered (left k) (right k) e.0 e.1 share.0 share.1 share.2 (brings.equalities k e here);
    creations = λ j c here.
        let entered : IsEntered ds head = (caller, there) in
        let is_net : var_kind system head.net c.var ≡ Kind.Net = (at_place (λ c. (c.net < length system.nets) × (var_kind system head.net c.var ≡ Kind.Net)) (transition_in system head).creations j c (well head entered).creations here).1 in
        let kind : Kind.Net ≡ kinds head.path c.var = sym (ap (λ ks. ks c.var) (kinds_of head entered) ∙ is_net) in
        mended_meets kinds a (var_is head.path c.var (Value.Inst (New head.path j))) (subst (HasKind (Value.Inst (New head.path j))) kind (inst_has_kind (New head.path j))) (brings.creations j c here);
    args = λ from downlink is at k e f here answered.
        arg_mended head from downlink (subst (λ c. Contains ds (Entered head c)) is there) at k e f here answered (brings.args from downlink is at k e f here answered);
  }

  brings_mended : (d : Decision) → Contains ds d → Brings system a d → Brings system mended d
  brings_mended (Entered head caller) there brings = entry_mended head caller there brings
  brings_mended (Found head k v) there brings = λ x at.
      let may = came (Found head k v) there in
      let entered = later may.0 head may.1 may.2.0 in
      let arc_good = at_place (IsGoodArc (net_at system head.net) (var_kind system head.net)) (transition_in system head).arcs k x (well head entered).arcs at in
      let kind = inscribed_kind x.kind (place_kind system head.net x.place) in
      mended_meets kinds a (gives (standing head (arc k)) x.inscription v) (kind, at_kinds head entered x.inscription kind arc_good.kind, kinded (Found head k v) there x at) (brings x at)
  brings_mended (Computed head site way v) there brings = mended_meets kinds a (hole_is head.path (site_of site) way v) (kinded (Computed head site way v) there) brings

  solves_mended : Solves system ds mended
  solves_mended d there = brings_mended d there (solves d there)

  forced_var : (head : Head) → IsEntered ds head → (x : ℕ) (v : Value) → IsForcedTo system ds (λ a. Some (a.var head.path x)) v → HasKind v (var_kind system head.net x)
  forced_var head there x v forced =
      let is : mended.var head.path x ≡ v = same_Some (mended.var head.path x) v (forced mended solves_mended) in
      subst (HasKind v) (ap (λ ks. ks x) (kinds_of head there)) (subst (λ w. HasKind w (kinds head.path x)) is ((mended_has_kinds kinds a).vars head.path x))

  forced_term : (head : Head) → IsEntered ds head → (site : D.Site) (e : Expr) (kind : Kind) (v : Value) → HasExprKind (var_kind system head.net) e kind → IsForcedTo system ds (λ a. read_at a head site e) v → HasKind v kind
  forced_term head there site e kind v has forced = (mended_has_kinds kinds a).terms (standing head site) e kind v (at_kinds head there e kind has) (forced mended solves_mended)

pub kinded_force_kinds : KindedForceKinds
kinded_force_kinds system ds head good turns kinded (a, solves) there =
    (forced_var system ds good turns kinded a solves head there, forced_term system ds good turns kinded a solves head there)
