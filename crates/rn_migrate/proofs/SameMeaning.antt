-- The system that a plain form means doesn't depend on spots.
use Rattle.std.proofs.Common.{◌≡◌, ℕ, List, [], ◌∷◌, length, map, refl, ap, ◌∙◌}
use Rattle.std.proofs.Math.Path.{fun_ext}
use Rattle.std.specs.Prelude.{flat_map, Option, Some, None, option_map, unwrap_or, slice_get}
use Rattle.std.proofs.lemmas.List.{length-map}
use Rattle.rn_value.specs.declared.value.Kind.{Kind}
use Rattle.rn_value.specs.declared.value.Value.{Value}
use Rattle.rn_model.specs.declared.expr.Expr.{Expr}
use Rattle.rn_model.specs.declared.expr.Cond.{Cond, roll-Cond}
use Rattle.rn_model.specs.declared.expr.Simple.{Simple}
use Rattle.rn_model.specs.declared.expr.Simple.TheVariants as Simple
use Rattle.rn_model.specs.declared.expr.CompareKind.TheVariants.{Same}
use Rattle.rn_model.specs.declared.system.ArcKind.{ArcKind}
use Rattle.rn_model.specs.declared.system.System.{System}
use Rattle.rn_model.specs.declared.system.Net.{Net}
use Rattle.rn_model.specs.declared.system.Var.{Var}
use Rattle.rn_model.specs.declared.system.Place.{Place}
use Rattle.rn_model.specs.declared.system.Channel.{Channel}
use Rattle.rn_model.specs.declared.system.Transition.{Transition}
use Rattle.rn_model.specs.declared.system.NetArc.{NetArc}
use Rattle.rn_model.specs.declared.system.Uplink.{Uplink}
use Rattle.rn_model.specs.declared.system.Downlink.{Downlink}
use Rattle.rn_model.specs.declared.system.Creation.{Creation}
use Rattle.rn_model.specs.declared.system.Action.{Action}
use Rattle.rn_model.specs.declared.system.Action.TheVariants as Action
use Rattle.rn_inscript.specs.declared.exprs.PExpr.{PExpr}
use Rattle.rn_inscript.specs.declared.conds.PCond.{PCond}
use Rattle.rn_inscript.specs.declared.inscriptions.PInscribed.{PInscribed}
use Rattle.rn_inscript.specs.declared.inscriptions.PInscribed.TheVariants as I
use Rattle.rn_inscript.specs.declared.inscriptions.PInscription.{PInscription}
use Rattle.rn_net.specs.declared.kinds.PKind.{PKind}
use Rattle.rn_net.specs.declared.constants.PConst.{PConst}
use Rattle.rn_net.specs.declared.plain.Plain.{Plain}
use Rattle.rn_net.specs.declared.plain.PChannel.{PChannel}
use Rattle.rn_net.specs.declared.plain.PNet.{PNet}
use Rattle.rn_net.specs.declared.plain.PVar.{PVar}
use Rattle.rn_net.specs.declared.plain.PPlace.{PPlace}
use Rattle.rn_net.specs.declared.plain.PMax.{PMax}
use Rattle.rn_net.specs.declared.plain.PTransition.{PTransition}
use Rattle.rn_declared.specs.Channels.{channel_from}
use Rattle.rn_numbered.specs.Numbered.{Numbers, kind_of_form, kind_of, value_of_form, value_of, capacity_of, number_in, expr_of_form, expr_of, simple_of_form, cond_of, inscription_of, equality_of, guard_of, action_of, creation_of, uplink_of, downlink_of, arc_of, inscribed}
use Rattle.rn_numbering.specs.Numbering.{numbers_of, transition_of, numbered_net_of, system_of}
use Rattle.rn_occurring.specs.TransitionVars.{with_vars}
use Rattle.rn_print.specs.SameButSpots.{kind_unplaced, constant_unplaced, expr_unplaced, cond_unplaced, inscribed_unplaced, inscription_unplaced, channel_unplaced, var_unplaced, max_unplaced, place_unplaced, transition_unplaced, net_unplaced, unplaced}
use Rattle.rn_migrate.proofs.Folds.{Steps, kind_fold, constant_fold, expr_fold, cond_fold}
use Rattle.rn_migrate.proofs.MovedFaults.{kept, joined_kept, each}
use Rattle.rn_migrate.proofs.SameDeclarations.{kind_ids, constant_ids, channel_from_kept}
use Rattle.rn_migrate.proofs.SameExpressions.{expr_ids}

-- the parts of a system, by what they are made of
abbrev channel_made : List ℕ → List Kind → Channel
channel_made name kinds = record { name = name; kinds = kinds }

abbrev var_made : List ℕ → Kind → Var
var_made name kind = record { name = name; kind = kind }

abbrev place_made : List ℕ → Kind → List Value → Option ℕ → Place
place_made name kind initial max =
    record { name = name; kind = kind; initial = initial; max = max }

abbrev net_made : List ℕ → List Var → List Place → List Transition → Net
net_made name vars places transitions =
    record { name = name; vars = vars; places = places; transitions = transitions }

abbrev system_made : List Net → List Channel → System
system_made nets channels = record { nets = nets; channels = channels }

abbrev uplink_made : ℕ → List Expr → Uplink
uplink_made channel args = record { channel = channel; args = args }

abbrev downlink_made : Expr → ℕ → List Expr → Downlink
downlink_made target channel args = record { target = target; channel = channel; args = args }

abbrev arc_made : ArcKind → ℕ → Expr → NetArc
arc_made kind place inscription =
    record { kind = kind; place = place; inscription = inscription }

kind_kept : (k : PKind) → kind_of (kind_unplaced k) ≡ kind_of k
kind_kept =
    kind_fold Kind Kind kind_of_form (λ kind. kind.form) (λ x z. z ≡ x) (λ x. x)
    (λ y. ap kind_of_form (kind_ids Kind Kind y)) (λ s x z is. is)

value_kept : (c : PConst) → value_of (constant_unplaced c) ≡ value_of c
value_kept =
    constant_fold Value Value value_of_form (λ const. const.form) (λ x z. z ≡ x) (λ x. x)
    (λ y. ap value_of_form (constant_ids Value Value y)) (λ s x z is. is)

abbrev Numbered : Type 0
Numbered = (List ℕ → ℕ) → Expr

expr_kept : (e : PExpr) → expr_of (expr_unplaced e) ≡ expr_of e
expr_kept =
    expr_fold Numbered Numbered expr_of_form (λ e. e.form) (λ x z. z ≡ x) (λ x. x)
    (λ y. ap expr_of_form (expr_ids Numbered Numbered y)) (λ s x z is. is)

expr_at : (e : PExpr) (var : List ℕ → ℕ) → expr_of (expr_unplaced e) var ≡ expr_of e var
expr_at e var = ap (λ f. f var) (expr_kept e)

abbrev Simples : Type 0
Simples = (List ℕ → ℕ) → Simple

abbrev Conds : Type 0
Conds = (List ℕ → ℕ) → Cond

same_list : {A : Type 0} (list : List A) → map (λ x. x) list ≡ list
same_list [] = refl
same_list (x ∷ xs) = ap (λ ys. x ∷ ys) (same_list xs)

same_lists : {A : Type 0} (lists : List (List A)) → map (map (λ x. x)) lists ≡ lists
same_lists [] = refl
same_lists (list ∷ lists) =
    ap (λ l. l ∷ map (map (λ x. x)) lists) (same_list list) ∙ ap (λ ls. list ∷ ls) (same_lists lists)

abbrev rolled : List (List Simples) → Conds
rolled any var = roll-Cond (record { any = map (map (λ simple. simple var)) any })

steps : Steps Simples Conds simple_of_form
    (λ cond var. roll-Cond (record { any = map (map (λ simple. simple var)) cond.any }))
    (λ x. x) (λ x. x)
steps = record {
  compared = λ kind x y. fun_ext (λ var.
      ap (λ a. Simple.Compare kind a (expr_of (expr_unplaced y) var)) (expr_at x var)
      ∙ ap (λ b. Simple.Compare kind (expr_of x var) b) (expr_at y var));
  bare = λ x. fun_ext (λ var. ap (λ a. Simple.Compare Same a a) (expr_at x var));
  negated = λ c. refl;
  joined = λ any. ap rolled (same_lists any);
}

cond_kept : (c : PCond) → cond_of (cond_unplaced c) ≡ cond_of c
cond_kept = cond_fold Simples Conds simple_of_form
    (λ cond var. roll-Cond (record { any = map (map (λ simple. simple var)) cond.any }))
    (λ x. x) (λ x. x) steps

args_kept : (args : List PExpr) (var : List ℕ → ℕ) →
    map (λ e. expr_of e var) (map expr_unplaced args) ≡ map (λ e. expr_of e var) args
args_kept args var = kept (λ e. expr_of e var) expr_unplaced args (λ e. expr_at e var)

-- the parts of a transition that one inscription gives
equality_kept : (to : Numbers) (f : PInscribed) →
    equality_of to (inscribed_unplaced f) ≡ equality_of to f
equality_kept to (I.Arc kind place e) = refl
equality_kept to (I.Guard cond) = refl
equality_kept to (I.Print e) = refl
equality_kept to (I.Set var e) = refl
equality_kept to (I.Uplink channel args) = refl
equality_kept to (I.New var net) = refl
equality_kept to (I.Downlink target channel args) = refl
equality_kept to (I.Equality a b) =
    ap (λ x. (x, expr_of (expr_unplaced b) to.var) ∷ []) (expr_at a to.var)
    ∙ ap (λ y. (expr_of a to.var, y) ∷ []) (expr_at b to.var)

guard_kept : (to : Numbers) (f : PInscribed) → guard_of to (inscribed_unplaced f) ≡ guard_of to f
guard_kept to (I.Arc kind place e) = refl
guard_kept to (I.Guard cond) = ap (λ c. c to.var ∷ []) (cond_kept cond)
guard_kept to (I.Print e) = refl
guard_kept to (I.Set var e) = refl
guard_kept to (I.Uplink channel args) = refl
guard_kept to (I.New var net) = refl
guard_kept to (I.Downlink target channel args) = refl
guard_kept to (I.Equality a b) = refl

action_kept : (to : Numbers) (f : PInscribed) → action_of to (inscribed_unplaced f) ≡ action_of to f
action_kept to (I.Arc kind place e) = refl
action_kept to (I.Guard cond) = refl
action_kept to (I.Print e) = ap (λ x. Action.Print x ∷ []) (expr_at e to.var)
action_kept to (I.Set var e) = ap (λ x. Action.Set (to.var var.text) x ∷ []) (expr_at e to.var)
action_kept to (I.Uplink channel args) = refl
action_kept to (I.New var net) = refl
action_kept to (I.Downlink target channel args) = refl
action_kept to (I.Equality a b) = refl

creation_kept : (to : Numbers) (f : PInscribed) →
    creation_of to (inscribed_unplaced f) ≡ creation_of to f
creation_kept to (I.Arc kind place e) = refl
creation_kept to (I.Guard cond) = refl
creation_kept to (I.Print e) = refl
creation_kept to (I.Set var e) = refl
creation_kept to (I.Uplink channel args) = refl
creation_kept to (I.New var net) = refl
creation_kept to (I.Downlink target channel args) = refl
creation_kept to (I.Equality a b) = refl

uplink_kept : (to : Numbers) (f : PInscribed) → uplink_of to (inscribed_unplaced f) ≡ uplink_of to f
uplink_kept to (I.Arc kind place e) = refl
uplink_kept to (I.Guard cond) = refl
uplink_kept to (I.Print e) = refl
uplink_kept to (I.Set var e) = refl
uplink_kept to (I.Uplink channel args) =
    ap (λ n. uplink_made (to.channel channel.text n)
    (map (λ e. expr_of e to.var) (map expr_unplaced args)) ∷ []) (length-map args expr_unplaced)
    ∙ ap (λ es. uplink_made (to.channel channel.text (length args)) es ∷ []) (args_kept args to.var)
uplink_kept to (I.New var net) = refl
uplink_kept to (I.Downlink target channel args) = refl
uplink_kept to (I.Equality a b) = refl

downlink_kept : (to : Numbers) (f : PInscribed) →
    downlink_of to (inscribed_unplaced f) ≡ downlink_of to f
downlink_kept to (I.Arc kind place e) = refl
downlink_kept to (I.Guard cond) = refl
downlink_kept to (I.Print e) = refl
downlink_kept to (I.Set var e) = refl
downlink_kept to (I.Uplink channel args) = refl
downlink_kept to (I.New var net) = refl
downlink_kept to (I.Downlink target channel args) =
    let args2 = map (λ e. expr_of e to.var) (map expr_unplaced args) in
    ap (λ x. downlink_made x (to.channel channel.text (length (map expr_unplaced args))) args2 ∷ [])
    (expr_at target to.var)
    ∙ ap (λ n. downlink_made (expr_of target to.var) (to.channel channel.text n) args2 ∷ [])
    (length-map args expr_unplaced)
    ∙ ap (λ es. downlink_made (expr_of target to.var) (to.channel channel.text (length args)) es ∷ [])
    (args_kept args to.var)
downlink_kept to (I.Equality a b) = refl

inscription_kept : (to : Numbers) (e : Option PExpr) →
    inscription_of to (option_map expr_unplaced e) ≡ inscription_of to e
inscription_kept to None = refl
inscription_kept to (Some e) = expr_at e to.var

arc_kept : (to : Numbers) (f : PInscribed) → arc_of to (inscribed_unplaced f) ≡ arc_of to f
arc_kept to (I.Arc kind place e) =
    ap (λ x. arc_made kind (to.place place.text) x ∷ []) (inscription_kept to e)
arc_kept to (I.Guard cond) = refl
arc_kept to (I.Print e) = refl
arc_kept to (I.Set var e) = refl
arc_kept to (I.Uplink channel args) = refl
arc_kept to (I.New var net) = refl
arc_kept to (I.Downlink target channel args) = refl
arc_kept to (I.Equality a b) = refl

-- the transition of these parts
abbrev made : List ℕ → List (Expr × Expr) → List Cond → List Action → List Creation → List Uplink →
    List Downlink → List NetArc → Transition
made name equalities guards actions creations uplinks downlinks arcs = record {
  name = name;
  vars = [];
  action_vars = [];
  equalities = equalities;
  guards = guards;
  actions = actions;
  creations = creations;
  uplink = slice_get uplinks 0;
  downlinks = downlinks;
  arcs = arcs;
}

inscribed_kept : (to : Numbers) (name : List ℕ) (is : List PInscribed) →
    inscribed to name (map inscribed_unplaced is) ≡ inscribed to name is
inscribed_kept to name is =
    let u = inscribed_unplaced in
    let is2 = map u is in
    let e = flat_map (equality_of to) in
    let g = flat_map (guard_of to) in
    let a = flat_map (action_of to) in
    let c = flat_map (creation_of to) in
    let k = flat_map (uplink_of to) in
    let d = flat_map (downlink_of to) in
    let r = flat_map (arc_of to) in
    ap (λ x. made name x (g is2) (a is2) (c is2) (k is2) (d is2) (r is2))
    (joined_kept (equality_of to) u is (equality_kept to))
    ∙ ap (λ x. made name (e is) x (a is2) (c is2) (k is2) (d is2) (r is2))
    (joined_kept (guard_of to) u is (guard_kept to))
    ∙ ap (λ x. made name (e is) (g is) x (c is2) (k is2) (d is2) (r is2))
    (joined_kept (action_of to) u is (action_kept to))
    ∙ ap (λ x. made name (e is) (g is) (a is) x (k is2) (d is2) (r is2))
    (joined_kept (creation_of to) u is (creation_kept to))
    ∙ ap (λ x. made name (e is) (g is) (a is) (c is) x (d is2) (r is2))
    (joined_kept (uplink_of to) u is (uplink_kept to))
    ∙ ap (λ x. made name (e is) (g is) (a is) (c is) (k is) x (r is2))
    (joined_kept (downlink_of to) u is (downlink_kept to))
    ∙ ap (λ x. made name (e is) (g is) (a is) (c is) (k is) (d is) x)
    (joined_kept (arc_of to) u is (arc_kept to))

-- numbers of names
abbrev counted : List (List ℕ) → List (List ℕ) → List (List ℕ) → (List ℕ → ℕ → ℕ) → Numbers
counted vars places nets channel = record {
  var = number_in vars;
  place = number_in places;
  net = number_in nets;
  channel = channel;
}

abbrev channel_in : List PChannel → List ℕ → ℕ → ℕ
channel_in channels name count = unwrap_or (channel_from 0 channels name count) 0

numbers_kept : (plain : Plain) (net : PNet) →
    numbers_of (unplaced plain) (net_unplaced net) ≡ numbers_of plain net
numbers_kept plain net =
    let vars = map (λ (v : PVar). v.name.text) net.vars in
    let places = map (λ (p : PPlace). p.name.text) net.places in
    let nets = map (λ (n : PNet). n.name.text) plain.nets in
    let places2 = map (λ (p : PPlace). p.name.text) (map place_unplaced net.places) in
    let nets2 = map (λ (n : PNet). n.name.text) (map net_unplaced plain.nets) in
    let channel2 = channel_in (map channel_unplaced plain.channels) in
    ap (λ x. counted x places2 nets2 channel2)
    (kept (λ (v : PVar). v.name.text) var_unplaced net.vars (λ v. refl))
    ∙ ap (λ x. counted vars x nets2 channel2)
    (kept (λ (p : PPlace). p.name.text) place_unplaced net.places (λ p. refl))
    ∙ ap (λ x. counted vars places x channel2)
    (kept (λ (n : PNet). n.name.text) net_unplaced plain.nets (λ n. refl))
    ∙ ap (counted vars places nets)
    (fun_ext (λ name. fun_ext (λ count.
    ap (λ o. unwrap_or o 0) (channel_from_kept 0 plain.channels name count))))

-- transitions, places and nets
transition_kept : (plain : Plain) (net : PNet) (t : PTransition) →
    transition_of (unplaced plain) (net_unplaced net) (transition_unplaced t)
    ≡ transition_of plain net t
transition_kept plain net t =
    let forms = map (λ (i : PInscription). i.form) t.inscriptions in
    let forms2 = map (λ (i : PInscription). i.form) (map inscription_unplaced t.inscriptions) in
    ap (λ to. with_vars (length (map var_unplaced net.vars)) (inscribed to t.name.text forms2))
    (numbers_kept plain net)
    ∙ ap (λ n. with_vars n (inscribed (numbers_of plain net) t.name.text forms2))
    (length-map net.vars var_unplaced)
    ∙ ap (λ fs. with_vars (length net.vars) (inscribed (numbers_of plain net) t.name.text fs))
    (each (λ (i : PInscription). i.form) (λ (i : PInscription). i.form) inscription_unplaced
    inscribed_unplaced t.inscriptions (λ i. refl))
    ∙ ap (with_vars (length net.vars)) (inscribed_kept (numbers_of plain net) t.name.text forms)

capacity_same : (max : Option PMax) → capacity_of (option_map max_unplaced max) ≡ capacity_of max
capacity_same None = refl
capacity_same (Some max) = refl

abbrev place_meant : PPlace → Place
place_meant p = place_made p.name.text (kind_of p.kind) (map value_of p.initial) (capacity_of p.max)

place_kept : (p : PPlace) → place_meant (place_unplaced p) ≡ place_meant p
place_kept p =
    let name = p.name.text in
    ap (λ kind. place_made name kind (map value_of (map constant_unplaced p.initial))
    (capacity_of (option_map max_unplaced p.max))) (kind_kept p.kind)
    ∙ ap (λ values. place_made name (kind_of p.kind) values (capacity_of (option_map max_unplaced p.max)))
    (kept value_of constant_unplaced p.initial value_kept)
    ∙ ap (place_made name (kind_of p.kind) (map value_of p.initial)) (capacity_same p.max)

abbrev var_meant : PVar → Var
var_meant v = var_made v.name.text (kind_of v.kind)

each_transition : (plain : Plain) (net : PNet) (ts : List PTransition) →
    map (transition_of (unplaced plain) (net_unplaced net)) (map transition_unplaced ts)
    ≡ map (transition_of plain net) ts
each_transition plain net [] = refl
each_transition plain net (t ∷ ts) =
    ap (λ x. x ∷ map (transition_of (unplaced plain) (net_unplaced net)) (map transition_unplaced ts))
    (transition_kept plain net t)
    ∙ ap (λ xs. transition_of plain net t ∷ xs) (each_transition plain net ts)

net_kept : (plain : Plain) (net : PNet) →
    numbered_net_of (unplaced plain) (net_unplaced net) ≡ numbered_net_of plain net
net_kept plain net =
    let name = net.name.text in
    let places2 = map place_meant (map place_unplaced net.places) in
    let transitions2 = map (transition_of (unplaced plain) (net_unplaced net))
    (map transition_unplaced net.transitions) in
    ap (λ vars. net_made name vars places2 transitions2)
    (kept var_meant var_unplaced net.vars (λ v. ap (var_made v.name.text) (kind_kept v.kind)))
    ∙ ap (λ places. net_made name (map var_meant net.vars) places transitions2)
    (kept place_meant place_unplaced net.places place_kept)
    ∙ ap (net_made name (map var_meant net.vars) (map place_meant net.places))
    (each_transition plain net net.transitions)

abbrev channel_meant : PChannel → Channel
channel_meant c = channel_made c.name.text (map kind_of c.kinds)

each_net : (plain : Plain) (nets : List PNet) →
    map (numbered_net_of (unplaced plain)) (map net_unplaced nets) ≡ map (numbered_net_of plain) nets
each_net plain [] = refl
each_net plain (n ∷ ns) =
    ap (λ x. x ∷ map (numbered_net_of (unplaced plain)) (map net_unplaced ns)) (net_kept plain n)
    ∙ ap (λ xs. numbered_net_of plain n ∷ xs) (each_net plain ns)

pub system_kept : (plain : Plain) → system_of (unplaced plain) ≡ system_of plain
system_kept plain =
    ap (λ nets. system_made nets (map channel_meant (map channel_unplaced plain.channels)))
    (each_net plain plain.nets)
    ∙ ap (system_made (map (numbered_net_of plain) plain.nets))
    (kept channel_meant channel_unplaced plain.channels
    (λ c. ap (channel_made c.name.text) (kept kind_of kind_unplaced c.kinds kind_kept)))
