-- The constants of a system that a text spells are fine.
use Rattle.std.proofs.Common.{◌≡◌, ℕ, ℤ, neg_ℤ, Bool, List, [], ◌∷◌, map, refl, sym, ap}
use Rattle.std.proofs.Common.{◌∙◌, subst}
use Rattle.std.specs.Prelude.{All, Option, Some, None, flat_map, slice_get}
use Rattle.std.specs.List.{AllByRecursion}
use Rattle.std.specs.Option.{option_map_or}
use Rattle.std.proofs.lemmas.List.Elements.{All-from_recursion}
use Rattle.rn_value.specs.declared.value.Value.{Value}
use Rattle.rn_value.specs.declared.value.Value.TheVariants as Value
use Rattle.rn_model.specs.declared.expr.Expr.{Expr, fold_out-Expr}
use Rattle.rn_model.specs.declared.expr.Expr.TheVariants as E
use Rattle.rn_model.specs.declared.system.ArcKind.{ArcKind}
use Rattle.rn_model.specs.declared.system.ArcKind.TheVariants as A
use Rattle.rn_model.specs.declared.system.Uplink.{Uplink}
use Rattle.rn_model.specs.declared.system.Downlink.{Downlink}
use Rattle.rn_model.specs.declared.system.NetArc.{NetArc}
use Rattle.rn_model.specs.declared.system.Action.{Action}
use Rattle.rn_model.specs.declared.system.Place.{Place}
use Rattle.rn_model.specs.Good.{action_expr}
use Rattle.rn_model.proofs.EachElement.{each_append, each_map, each_flat_map, each_weaker}
use Rattle.rn_notation.specs.declared.token.Spot.{Spot}
use Rattle.rn_notation.specs.declared.token.Token.{Token}
use Rattle.rn_notation.specs.declared.token.TokenKind.{TokenKind}
use Rattle.rn_inscript.specs.declared.exprs.PExpr.{PExpr}
use Rattle.rn_inscript.specs.declared.conds.PCond.{PCond}
use Rattle.rn_inscript.specs.declared.conds.PSimple.{PSimple}
use Rattle.rn_inscript.specs.declared.inscriptions.PName.{PName}
use Rattle.rn_inscript.specs.declared.inscriptions.PInscribed.{PInscribed}
use Rattle.rn_inscript.specs.declared.inscriptions.PInscribed.TheVariants as I
use Rattle.rn_inscript.specs.declared.inscriptions.PInscription.{PInscription}
use Rattle.rn_inscript.specs.Conditions.{IsCond, IsAlternatives, IsMoreAlternatives, IsBoth}
use Rattle.rn_inscript.specs.Conditions.{IsMoreBoth, IsSimple}
use Rattle.rn_inscript.specs.Expressions.{IsMoreExprs}
use Rattle.rn_inscript.specs.Inscriptions.{IsInscribed, IsCall, absent, name_at}
use Rattle.rn_net.specs.declared.kinds.PKind.{PKind}
use Rattle.rn_net.specs.declared.constants.PConst.{PConst, fold-roll-PConst}
use Rattle.rn_net.specs.declared.constants.PConstForm.{PConstForm, fold-PConstForm}
use Rattle.rn_net.specs.declared.constants.PConstForm.{fold_out-PConstForm}
use Rattle.rn_net.specs.declared.constants.PConstForm.TheVariants as C
use Rattle.rn_net.specs.declared.plain.Plain.{Plain}
use Rattle.rn_net.specs.declared.plain.PChannel.{PChannel}
use Rattle.rn_net.specs.declared.plain.PNet.{PNet}
use Rattle.rn_net.specs.declared.plain.PVar.{PVar}
use Rattle.rn_net.specs.declared.plain.PPlace.{PPlace}
use Rattle.rn_net.specs.declared.plain.PMax.{PMax}
use Rattle.rn_net.specs.declared.plain.PTransition.{PTransition}
use Rattle.rn_net.specs.Constants.{constant_at, IsConstant, AreConstants, AreMoreConstants}
use Rattle.rn_net.specs.Constants as Constants
use Rattle.rn_net.specs.Kinds.{IsKind, AreListed, AreKinds, AreMoreKinds}
use Rattle.rn_net.specs.Nets.{IsSystem, AreItems, IsChannel, IsNet, AreParts, AreVars, IsPlace}
use Rattle.rn_net.specs.Nets.{AreMoreNames, IsKindOfPlace, IsCapacity, AreInitial, IsTransition}
use Rattle.rn_net.specs.Nets.{AreInscribed, AreInscriptions, further_arc}
use Rattle.rn_net.specs.Texts.{Spells}
use Rattle.rn_numbered.specs.Numbered.{value_of, value_of_form, capacity_of, Numbers}
use Rattle.rn_numbering.specs.Numbering.{numbers_of}
use Rattle.rn_numbered.specs.Numbered.{equality_of, action_of, uplink_of, downlink_of, arc_of}
use Rattle.rn_numbering.specs.Numbering.{transition_of, numbered_net_of, system_of}
use Rattle.rn_numbered.specs.Numbered.{expr_of, kind_of}
use Rattle.rn_spelled.proofs.KindDepths.{push}
use Rattle.rn_readable.proofs.MendedValues.{mended, IsFine, int_is_fine, text_is_fine}
use Rattle.rn_readable.proofs.MendedValues.{mended-Tuple, mended-List}
use Rattle.rn_readable.proofs.FineReadings.{constants_step}
use Rattle.rn_readable.proofs.FineBindings.{IsFineExpr, IsFineTransition, IsFineNet, IsFineSystem}
use Rattle.rn_readable.proofs.FineTokens.{AreFineTokens, tokens_are_fine}
use Rattle.rn_readable.proofs.FineExpressions.{IsFinePart, of_kind, expr_is_fine, listed_are_fine}
use Rattle.rn_readable.proofs.FineExpressions.{tuple_is_fine}

-- Constants.
abbrev IsFineConst : PConst → Type 0
IsFineConst c = IsFine (value_of c)

abbrev form_value : PConstForm → Value
form_value = fold-PConstForm Value Value value_of_form (λ const. const.form)

value-at : (s : Spot) (f : PConstForm) (v : Value) → form_value f ≡ v → IsFine v →
    IsFineConst (constant_at s f)
value-at s f v e fine =
    let same : value_of (constant_at s f) ≡ v =
    fold-roll-PConst Value Value value_of_form (λ const. const.form)
    (record { form = f; spot = s }) ∙ e in
    subst IsFine (sym same) fine

number_is_fine : (s : Spot) (n : ℤ) → IsFine (Value.Int n) → IsFineConst (constant_at s (C.Int n))
number_is_fine s n fine =
    value-at s (C.Int n) (Value.Int n)
    (fold_out-PConstForm Value Value value_of_form (λ const. const.form) (C.Int n)
    ∙ rw (C.outs-Int n)) fine

text_const_is_fine : (s : Spot) (t : List ℕ) → IsFine (Value.Text t) →
    IsFineConst (constant_at s (C.Text t))
text_const_is_fine s t fine =
    value-at s (C.Text t) (Value.Text t)
    (fold_out-PConstForm Value Value value_of_form (λ const. const.form) (C.Text t)
    ∙ rw (C.outs-Text t)) fine

all_mended : (cs : List PConst) → AllByRecursion IsFineConst cs →
    map mended (map value_of cs) ≡ map value_of cs
all_mended [] all = refl
all_mended (c ∷ cs) all =
    ap (λ v. v ∷ map mended (map value_of cs)) all.0
    ∙ ap (λ vs. value_of c ∷ vs) (all_mended cs all.1)

tuple_const_is_fine : (s : Spot) (cs : List PConst) → AllByRecursion IsFineConst cs →
    IsFineConst (constant_at s (C.Tuple cs))
tuple_const_is_fine s cs all =
    value-at s (C.Tuple cs) (Value.Tuple (map value_of cs))
    (fold_out-PConstForm Value Value value_of_form (λ const. const.form) (C.Tuple cs)
    ∙ rw (C.outs-Tuple cs))
    (mended-Tuple (map value_of cs) ∙ ap (λ vs. Value.Tuple vs) (all_mended cs all))

list_const_is_fine : (s : Spot) (cs : List PConst) → AllByRecursion IsFineConst cs →
    IsFineConst (constant_at s (C.List cs))
list_const_is_fine s cs all =
    value-at s (C.List cs) (Value.List (map value_of cs))
    (fold_out-PConstForm Value Value value_of_form (λ const. const.form) (C.List cs)
    ∙ rw (C.outs-List cs))
    (mended-List (map value_of cs) ∙ ap (λ vs. Value.List vs) (all_mended cs all))

mutual
  constant_is_fine : {ts rest : List Token} {c : PConst} → IsConstant ts c rest →
      AreFineTokens ts → IsFineConst c × AreFineTokens rest
  constant_is_fine (IsConstant.number {t = t} {n = n} e) d =
      (number_is_fine t.spot n (int_is_fine n (of_kind e d.0).0), d.1)
  constant_is_fine (IsConstant.negative {t = t} {n = n} e f) d =
      (number_is_fine t.spot (neg_ℤ n) (int_is_fine (neg_ℤ n) (of_kind f d.1.0).1), d.1.1)
  constant_is_fine (IsConstant.text {t = t} {s = s} e) d =
      (text_const_is_fine t.spot s (text_is_fine s (of_kind e d.0)), d.1)
  constant_is_fine (IsConstant.tuple {t = t} {items = items} e x) d =
      let p = items_are_fine x d.1 in (tuple_const_is_fine t.spot items p.0, p.1)
  constant_is_fine (IsConstant.list {t = t} {items = items} e x) d =
      let p = items_are_fine x d.1 in (list_const_is_fine t.spot items p.0, p.1)

  items_are_fine : {close : TokenKind} {ts rest : List Token} {cs : List PConst} →
      Constants.AreItems close ts cs rest → AreFineTokens ts →
      AllByRecursion IsFineConst cs × AreFineTokens rest
  items_are_fine (Constants.AreItems.nothing e) d = (tt, d.1)
  items_are_fine (Constants.AreItems.some x e) d =
      let p = constants_are_fine x d in (p.0, p.1.1)

  constants_are_fine : {ts rest : List Token} {cs : List PConst} → AreConstants ts cs rest →
      AreFineTokens ts → AllByRecursion IsFineConst cs × AreFineTokens rest
  constants_are_fine (AreConstants.constants x m) d =
      let p = constant_is_fine x d in more_constants_are_fine m (p.0, tt) p.1

  more_constants_are_fine : {before cs : List PConst} {ts rest : List Token} →
      AreMoreConstants before ts cs rest → AllByRecursion IsFineConst before →
      AreFineTokens ts → AllByRecursion IsFineConst cs × AreFineTokens rest
  more_constants_are_fine AreMoreConstants.no_more_constants all d = (all, d)
  more_constants_are_fine
      (AreMoreConstants.more_constants {before = before} {item = item} e x m) all d =
      let p = constant_is_fine x d.1 in
      more_constants_are_fine m (push IsFineConst before item all p.0) p.1

-- What follows a kind, or a condition.
mutual
  after_kind : {ts rest : List Token} {k : PKind} → IsKind ts k rest → AreFineTokens ts →
      AreFineTokens rest
  after_kind (IsKind.int e) d = d.1
  after_kind (IsKind.text e) d = d.1
  after_kind (IsKind.net e) d = d.1
  after_kind (IsKind.tuple e x) d = after_listed x d.1
  after_kind (IsKind.list e x f) d = (after_kind x d.1).1

  after_listed : {close : TokenKind} {ts rest : List Token} {ks : List PKind} →
      AreListed close ts ks rest → AreFineTokens ts → AreFineTokens rest
  after_listed (AreListed.nothing e) d = d.1
  after_listed (AreListed.some x e) d = (after_kinds x d).1

  after_kinds : {ts rest : List Token} {ks : List PKind} → AreKinds ts ks rest →
      AreFineTokens ts → AreFineTokens rest
  after_kinds (AreKinds.kinds x m) d = after_more_kinds m (after_kind x d)

  after_more_kinds : {before ks : List PKind} {ts rest : List Token} →
      AreMoreKinds before ts ks rest → AreFineTokens ts → AreFineTokens rest
  after_more_kinds AreMoreKinds.no_more_kinds d = d
  after_more_kinds (AreMoreKinds.more_kinds e x m) d = after_more_kinds m (after_kind x d.1)

mutual
  after_cond : {ts rest : List Token} {c : PCond} → IsCond ts c rest → AreFineTokens ts →
      AreFineTokens rest
  after_cond (IsCond.any x) d = after_alternatives x d

  after_alternatives : {ts rest : List Token} {all : List (List PSimple)} →
      IsAlternatives ts all rest → AreFineTokens ts → AreFineTokens rest
  after_alternatives (IsAlternatives.alternatives x m) d =
      after_more_alternatives m (after_both x d)

  after_more_alternatives : {before all : List (List PSimple)} {ts rest : List Token} →
      IsMoreAlternatives before ts all rest → AreFineTokens ts → AreFineTokens rest
  after_more_alternatives IsMoreAlternatives.no_more_alternatives d = d
  after_more_alternatives (IsMoreAlternatives.more_alternatives e x m) d =
      after_more_alternatives m (after_both x d.1)

  after_both : {ts rest : List Token} {all : List PSimple} → IsBoth ts all rest →
      AreFineTokens ts → AreFineTokens rest
  after_both (IsBoth.both x m) d = after_more_both m (after_simple x d)

  after_more_both : {before all : List PSimple} {ts rest : List Token} →
      IsMoreBoth before ts all rest → AreFineTokens ts → AreFineTokens rest
  after_more_both IsMoreBoth.no_more_both d = d
  after_more_both (IsMoreBoth.more_both e x m) d = after_more_both m (after_simple x d.1)

  after_simple : {ts rest : List Token} {s : PSimple} → IsSimple ts s rest → AreFineTokens ts →
      AreFineTokens rest
  after_simple (IsSimple.bare x) d = (expr_is_fine x d).1
  after_simple (IsSimple.compare x e y) d = (expr_is_fine y (expr_is_fine x d).1.1).1
  after_simple (IsSimple.negation e f x g) d = (after_cond x d.1.1).1

-- The expressions of an inscription, but for those of guards and the targets of calls.
abbrev valued : PInscribed → List PExpr
valued (I.Arc kind place None) = []
valued (I.Arc kind place (Some e)) = e ∷ []
valued (I.Guard cond) = []
valued (I.Print e) = e ∷ []
valued (I.Set var e) = e ∷ []
valued (I.Uplink channel args) = args
valued (I.New var net) = []
valued (I.Downlink target channel args) = args
valued (I.Equality a b) = a ∷ b ∷ []

abbrev IsFineForm : PInscribed → Type 0
IsFineForm form = AllByRecursion IsFinePart (valued form)

call_is_fine : {ts rest : List Token} {call : PName × List PExpr} → IsCall ts call rest →
    AreFineTokens ts → AllByRecursion IsFinePart call.1 × AreFineTokens rest
call_is_fine (IsCall.call e f x) d = listed_are_fine x d.1.1

absent_is_fine : (kind : ArcKind) (p : PName) (s : Spot) →
    IsFineForm (I.Arc kind p (absent kind s))
absent_is_fine A.Input p s = (tuple_is_fine s [] tt, tt)
absent_is_fine A.Output p s = (tuple_is_fine s [] tt, tt)
absent_is_fine A.Test p s = (tuple_is_fine s [] tt, tt)
absent_is_fine A.Reserve p s = (tuple_is_fine s [] tt, tt)
absent_is_fine A.FlexInput p s = tt
absent_is_fine A.FlexOutput p s = tt
absent_is_fine A.Inhibit p s = (tuple_is_fine s [] tt, tt)
absent_is_fine A.Clear p s = tt

form_is_fine : {ts rest : List Token} {form : PInscribed} → IsInscribed ts form rest →
    AreFineTokens ts → IsFineForm form × AreFineTokens rest
form_is_fine (IsInscribed.plain_arc {u = u} {kind = kind} {p = p} is a) d =
    (absent_is_fine kind (record { text = p; spot = u.spot }) u.spot, d.1.1)
form_is_fine (IsInscribed.arc is a b x) d =
    let p = expr_is_fine x d.1.1.1 in ((p.0, tt), p.1)
form_is_fine (IsInscribed.guard is x) d = (tt, after_cond x d.1)
form_is_fine (IsInscribed.print is a x) d = let p = expr_is_fine x d.1.1 in ((p.0, tt), p.1)
form_is_fine (IsInscribed.set is a b x) d = let p = expr_is_fine x d.1.1.1 in ((p.0, tt), p.1)
form_is_fine (IsInscribed.uplink is x) d = call_is_fine x d.1
form_is_fine (IsInscribed.creation is a b c) d = (tt, d.1.1.1.1)
form_is_fine (IsInscribed.downlink is a x) d = call_is_fine x d.1.1
form_is_fine (IsInscribed.equality x is y) d =
    let p = expr_is_fine x d in
    let q = expr_is_fine y p.1.1 in
    ((p.0, (q.0, tt)), q.1)

-- Nets.
after_names : {before all : List PName} {ts rest : List Token} → AreMoreNames before ts all rest →
    AreFineTokens ts → AreFineTokens rest
after_names AreMoreNames.no_more_names d = d
after_names (AreMoreNames.more_names e f m) d = after_names m d.1.1

after_channel : {ts rest : List Token} {channel : PChannel} → IsChannel ts channel rest →
    AreFineTokens ts → AreFineTokens rest
after_channel (IsChannel.channel e f g x h) d = (after_listed x d.1.1.1).1

after_vars : {ts rest : List Token} {vars : List PVar} → AreVars ts vars rest →
    AreFineTokens ts → AreFineTokens rest
after_vars (AreVars.vars e f m g x h) d = (after_kind x (after_names m d.1.1).1).1

after_place_kind : {spot : Spot} {ts rest : List Token} {kind : PKind} →
    IsKindOfPlace spot ts kind rest → AreFineTokens ts → AreFineTokens rest
after_place_kind IsKindOfPlace.absent d = d
after_place_kind (IsKindOfPlace.given e x) d = after_kind x d.1

after_capacity : {ts rest : List Token} {max : Option PMax} → IsCapacity ts max rest →
    AreFineTokens ts → AreFineTokens rest
after_capacity IsCapacity.none d = d
after_capacity (IsCapacity.some e f) d = d.1.1

initial_are_fine : {ts rest : List Token} {items : List PConst} → AreInitial ts items rest →
    AreFineTokens ts → AllByRecursion IsFineConst items × AreFineTokens rest
initial_are_fine AreInitial.none d = (tt, d)
initial_are_fine (AreInitial.some e x) d = constants_are_fine x d.1

abbrev IsFinePlace : PPlace → Type 0
IsFinePlace place = AllByRecursion IsFineConst place.initial

place_is_fine : {ts rest : List Token} {place : PPlace} → IsPlace ts place rest →
    AreFineTokens ts → IsFinePlace place × AreFineTokens rest
place_is_fine (IsPlace.place e f x m y g) d =
    let p = initial_are_fine y (after_capacity m (after_place_kind x d.1.1)) in (p.0, p.1.1)

abbrev IsFineInscription : PInscription → Type 0
IsFineInscription i = IsFineForm i.form

further_are_fine : {before es : List PExpr} {ts rest : List Token} → IsMoreExprs before ts es rest →
    AllByRecursion IsFinePart before → AreFineTokens ts →
    AllByRecursion IsFinePart es × AreFineTokens rest
further_are_fine IsMoreExprs.no_more_exprs all d = (all, d)
further_are_fine (IsMoreExprs.more_exprs {before = before} {e = e} is x m) all d =
    let p = expr_is_fine x d.1 in further_are_fine m (push IsFinePart before e all p.0) p.1

further_arcs_are_fine : (kind : ArcKind) (place : PName) (es : List PExpr) →
    AllByRecursion IsFinePart es →
    AllByRecursion IsFineInscription (map (further_arc kind place) es)
further_arcs_are_fine kind place [] all = tt
further_arcs_are_fine kind place (e ∷ es) all =
    ((all.0, tt), further_arcs_are_fine kind place es all.1)

statement_is_fine : {notation : ℕ} {ts rest : List Token} {all : List PInscription} →
    AreInscribed notation ts all rest → AreFineTokens ts →
    AllByRecursion IsFineInscription all × AreFineTokens rest
statement_is_fine (AreInscribed.one x) d = let p = form_is_fine x d in ((p.0, tt), p.1)
statement_is_fine
    (AreInscribed.several {t = t} {u = u} {v = v} {kind = kind} {p = p} {more = more} second a k c x m)
    d =
    let first = form_is_fine (IsInscribed.arc {t = t} {u = u} {v = v} a k c x) d in
    let others = further_are_fine m tt first.1 in (
      (first.0, further_arcs_are_fine kind (name_at u.spot p) more others.0),
      others.1,
    )

inscriptions_are_fine : {notation : ℕ} {before all : List PInscription} {ts rest : List Token} →
    AreInscriptions notation before ts all rest → AllByRecursion IsFineInscription before →
    AreFineTokens ts → AllByRecursion IsFineInscription all × AreFineTokens rest
inscriptions_are_fine AreInscriptions.no_more_inscriptions all d = (all, d)
inscriptions_are_fine (AreInscriptions.more_inscriptions {before = before} {more = more} x e m) all
    d =
    let p = statement_is_fine x d in
    inscriptions_are_fine m (each_append IsFineInscription before more all p.0) p.1.1

abbrev IsFinePTransition : PTransition → Type 0
IsFinePTransition t = AllByRecursion IsFineInscription t.inscriptions

transition_is_fine : {notation : ℕ} {ts rest : List Token} {t : PTransition} →
    IsTransition notation ts t rest →
    AreFineTokens ts → IsFinePTransition t × AreFineTokens rest
transition_is_fine (IsTransition.transition e f g x h) d =
    let p = inscriptions_are_fine x tt d.1.1.1 in (p.0, p.1.1)

record IsFinePNet (net : PNet) : Type 0 where
  places : AllByRecursion IsFinePlace net.places
  transitions : AllByRecursion IsFinePTransition net.transitions

parts_are_fine : {notation : ℕ} {before net : PNet} {ts rest : List Token} →
    AreParts notation before ts net rest →
    IsFinePNet before → AreFineTokens ts → IsFinePNet net × AreFineTokens rest
parts_are_fine AreParts.no_more_parts w d = (w, d)
parts_are_fine (AreParts.and_vars x m) w d =
    parts_are_fine m (record { places = w.places; transitions = w.transitions }) (after_vars x d)
parts_are_fine (AreParts.and_place {places = places} {place = place} x m) w d =
    let p = place_is_fine x d in
    parts_are_fine m
    (record { places = push IsFinePlace places place w.places p.0; transitions = w.transitions })
    p.1
parts_are_fine (AreParts.and_transition {transitions = transitions} {transition = transition} x m)
    w d =
    let p = transition_is_fine x d in
    parts_are_fine m
    (record {
      places = w.places;
      transitions = push IsFinePTransition transitions transition w.transitions p.0;
    })
    p.1

net_is_fine : {notation : ℕ} {ts rest : List Token} {net : PNet} → IsNet notation ts net rest → AreFineTokens ts →
    IsFinePNet net × AreFineTokens rest
net_is_fine (IsNet.net e f g x h) d =
    let p = parts_are_fine x (record { places = tt; transitions = tt }) d.1.1.1 in (p.0, p.1.1)

nets_are_fine : {notation : ℕ} {before plain : Plain} {ts : List Token} →
    AreItems notation before ts plain →
    AllByRecursion IsFinePNet before.nets → AreFineTokens ts → AllByRecursion IsFinePNet plain.nets
nets_are_fine AreItems.no_more_items all d = all
nets_are_fine (AreItems.and_channel x m) all d = nets_are_fine m all (after_channel x d)
nets_are_fine (AreItems.and_net {nets = nets} {net = net} x m) all d =
    let p = net_is_fine x d in nets_are_fine m (push IsFinePNet nets net all p.0) p.1

system_is_fine : {ts : List Token} {plain : Plain} → IsSystem ts plain → AreFineTokens ts →
    AllByRecursion IsFinePNet plain.nets
system_is_fine (IsSystem.first x) d = nets_are_fine x tt d
system_is_fine (IsSystem.second e f g x) d = nets_are_fine x tt d.1.1.1

-- The parts of a transition that an inscription gives.
module _ (to : Numbers) where
  args_are_fine : (args : List PExpr) → AllByRecursion IsFinePart args →
      AllByRecursion IsFineExpr (map (λ e. expr_of e to.var) args)
  args_are_fine args all =
      each_map IsFineExpr (λ e. expr_of e to.var) args
      (each_weaker IsFinePart (λ e. IsFineExpr (expr_of e to.var)) (λ e fine. fine to.var) args
      all)

  abbrev BothFine : Expr × Expr → Type 0
  BothFine e = IsFineExpr e.0 × IsFineExpr e.1

  equality_is_fine : (i : PInscribed) → IsFineForm i → AllByRecursion BothFine (equality_of to i)
  equality_is_fine (I.Equality a b) fine = ((fine.0 to.var, fine.1.0 to.var), tt)
  equality_is_fine _ fine = tt

  abbrev IsFineAction : Action → Type 0
  IsFineAction a = IsFineExpr (action_expr a)

  action_is_fine : (i : PInscribed) → IsFineForm i → AllByRecursion IsFineAction (action_of to i)
  action_is_fine (I.Print e) fine = (fine.0 to.var, tt)
  action_is_fine (I.Set var e) fine = (fine.0 to.var, tt)
  action_is_fine _ fine = tt

  abbrev IsFineUplink : Uplink → Type 0
  IsFineUplink u = AllByRecursion IsFineExpr u.args

  uplink_is_fine : (i : PInscribed) → IsFineForm i → AllByRecursion IsFineUplink (uplink_of to i)
  uplink_is_fine (I.Uplink channel args) fine = (args_are_fine args fine, tt)
  uplink_is_fine _ fine = tt

  abbrev IsFineDownlink : Downlink → Type 0
  IsFineDownlink d = All IsFineExpr d.args

  downlink_is_fine : (i : PInscribed) → IsFineForm i →
      AllByRecursion IsFineDownlink (downlink_of to i)
  downlink_is_fine (I.Downlink target channel args) fine = (
    All-from_recursion IsFineExpr (map (λ e. expr_of e to.var) args) (args_are_fine args fine),
    tt,
  )
  downlink_is_fine _ fine = tt

  abbrev IsFineArc : NetArc → Type 0
  IsFineArc arc = IsFineExpr arc.inscription

  nothing_is_fine : IsFineExpr (E.List [])
  nothing_is_fine = fold_out-Expr Bool constants_step (E.List []) ∙ rw (E.outs-List [])

  arc_is_fine : (i : PInscribed) → IsFineForm i → AllByRecursion IsFineArc (arc_of to i)
  arc_is_fine (I.Arc kind place None) fine = (nothing_is_fine, tt)
  arc_is_fine (I.Arc kind place (Some e)) fine = (fine.0 to.var, tt)
  arc_is_fine _ fine = tt

first_uplink : (us : List Uplink) → AllByRecursion (λ u. AllByRecursion IsFineExpr u.args) us →
    All IsFineExpr (option_map_or (λ u. u.args) (slice_get us 0) [])
first_uplink [] all = All-from_recursion IsFineExpr [] tt
first_uplink (u ∷ us) all = All-from_recursion IsFineExpr u.args all.0

module _ (plain : Plain) where
  numbered_transition : (net : PNet) (t : PTransition) → IsFinePTransition t →
      IsFineTransition (transition_of plain net t)
  numbered_transition net t fine =
      let to : Numbers = numbers_of plain net in
      let is : List PInscribed = map (λ i. i.form) t.inscriptions in
      let forms : AllByRecursion IsFineForm is =
      each_map IsFineForm (λ i. i.form) t.inscriptions fine in
      record {
        equalities = All-from_recursion (BothFine to) (flat_map (equality_of to) is)
            (each_flat_map (BothFine to) (equality_of to) is
            (each_weaker IsFineForm (λ i. AllByRecursion (BothFine to) (equality_of to i))
            (equality_is_fine to) is forms));
        uplink = first_uplink (flat_map (uplink_of to) is)
            (each_flat_map (IsFineUplink to) (uplink_of to) is
            (each_weaker IsFineForm (λ i. AllByRecursion (IsFineUplink to) (uplink_of to i))
            (uplink_is_fine to) is forms));
        downlinks = All-from_recursion (IsFineDownlink to) (flat_map (downlink_of to) is)
            (each_flat_map (IsFineDownlink to) (downlink_of to) is
            (each_weaker IsFineForm (λ i. AllByRecursion (IsFineDownlink to) (downlink_of to i))
            (downlink_is_fine to) is forms));
        arcs = All-from_recursion (IsFineArc to) (flat_map (arc_of to) is)
            (each_flat_map (IsFineArc to) (arc_of to) is
            (each_weaker IsFineForm (λ i. AllByRecursion (IsFineArc to) (arc_of to i))
            (arc_is_fine to) is forms));
        actions = All-from_recursion (IsFineAction to) (flat_map (action_of to) is)
            (each_flat_map (IsFineAction to) (action_of to) is
            (each_weaker IsFineForm (λ i. AllByRecursion (IsFineAction to) (action_of to i))
            (action_is_fine to) is forms));
      }

  abbrev HasFineInitial : Place → Type 0
  HasFineInitial place = All IsFine place.initial

  numbered_place : (p : PPlace) → IsFinePlace p → All IsFine (map value_of p.initial)
  numbered_place p fine =
      All-from_recursion IsFine (map value_of p.initial) (each_map IsFine value_of p.initial fine)

  numbered_net : (net : PNet) → IsFinePNet net → IsFineNet (numbered_net_of plain net)
  numbered_net net fine = record {
    transitions = All-from_recursion IsFineTransition
        (map (transition_of plain net) net.transitions)
        (each_map IsFineTransition (transition_of plain net) net.transitions
        (each_weaker IsFinePTransition (λ t. IsFineTransition (transition_of plain net t))
        (numbered_transition net) net.transitions fine.transitions));
    initial = All-from_recursion HasFineInitial (numbered_net_of plain net).places
        (each_map HasFineInitial
        (λ p. record {
          name = p.name.text;
          kind = kind_of p.kind;
          initial = map value_of p.initial;
          max = capacity_of p.max;
        })
        net.places
        (each_weaker IsFinePlace (λ p. All IsFine (map value_of p.initial)) numbered_place
        net.places fine.places));
  }

-- the system of a text has fine constants
pub spelled_is_fine : (bytes : List ℕ) (plain : Plain) → Spells bytes plain →
    IsFineSystem (system_of plain)
spelled_is_fine bytes plain spelled =
    All-from_recursion IsFineNet (map (numbered_net_of plain) plain.nets)
    (each_map IsFineNet (numbered_net_of plain) plain.nets
    (each_weaker IsFinePNet (λ net. IsFineNet (numbered_net_of plain net)) (numbered_net plain) plain.nets
    (system_is_fine spelled.system (tokens_are_fine spelled.read))))
