-- What the alternatives of a point mean.
use Rattle.std.specs.Prelude.{ℕ, zero, suc, ◌+◌, List, [], ◌∷◌, ◌++◌, Option, Some, None}
use Rattle.std.specs.Prelude.{option_map, option_and_then, unwrap_or, slice_get, length, take, map}
use Rattle.std.specs.Prelude.{flat_map, nat_eq, if◌then◌else◌}
use Rattle.rn_value.specs.declared.value.InstRef.{InstRef}
use Rattle.rn_value.specs.declared.value.InstRef.TheVariants.{Old, New}
use Rattle.rn_value.specs.declared.value.Value.{Value}
use Rattle.rn_value.specs.declared.value.Value.TheVariants as Value
use Rattle.rn_model.specs.declared.system.System.{System}
use Rattle.rn_model.specs.declared.system.Transition.{Transition}
use Rattle.rn_model.specs.Lists.{count_of}
use Rattle.rn_model.specs.Markings.{net_of, tokens}
use Rattle.rn_model.specs.Derivation.{Hole, holes_in, sites_of}
use Rattle.rn_model.specs.Derivation as D
use Rattle.rn_growing.specs.declared.decision.Head.{Head}
use Rattle.rn_growing.specs.declared.decision.Decision.{Decision}
use Rattle.rn_growing.specs.declared.decision.Decision.TheVariants.{Entered, Found, Computed}
use Rattle.rn_growing.specs.Decisions.{transition_in}
use Rattle.rn_growing.proofs.SameUnknowns.{as_site}
use Rattle.rn_channel.specs.Answering.{answering}
use Rattle.rn_search.specs.declared.point.Point.{Point}
use Rattle.rn_search.specs.declared.point.Point.TheVariants as P
use Rattle.rn_search.specs.declared.point.Called.{Called}
use Rattle.rn_search.specs.declared.point.Called.TheVariants.{Kept, Made}
use Rattle.rn_search.specs.Sought.{Sought}

-- the node that a decision is on
abbrev pub node_on : Decision → Head
node_on (Entered head caller) = head
node_on (Found head k v) = head
node_on (Computed head site way v) = head

-- the node of the decision at an index
abbrev pub node_of : Sought → List Decision → ℕ → Head
node_of sought decisions k =
    unwrap_or (option_map node_on (slice_get decisions k)) sought.start

-- the token at an index, where no earlier one equals it
abbrev pub first_token : List Value → ℕ → Option Value
first_token tokens i =
    option_and_then
    (λ v. if nat_eq (count_of v (take i tokens)) 0 then Some v else None)
    (slice_get tokens i)

-- the tokens that lie in the place of a node's arc
abbrev pub tokens_of : Sought → Head → ℕ → List Value
tokens_of sought head arc =
    unwrap_or
    (option_map (λ x. tokens sought.marking head.inst x.place)
    (slice_get (transition_in sought.system head).arcs arc)) []

-- the operator applications of a transition, site by site
abbrev pub holes_of : Transition → List (D.Site × Hole)
holes_of t = flat_map (λ s. map (λ hole. (s.0, hole)) (holes_in s.1)) (sites_of t)

-- the instance on which a called transition occurs
abbrev pub instance_of : Sought → List Decision → Called → InstRef
instance_of sought decisions (Kept n) = Old n
instance_of sought decisions (Made k j) = New (node_of sought decisions k).path j

-- its net: the marking's, or that of the creation
abbrev pub net_called : Sought → List Decision → Called → Option ℕ
net_called sought decisions (Kept n) = net_of sought.marking n
net_called sought decisions (Made k j) =
    option_map (λ c. c.net)
    (slice_get (transition_in sought.system (node_of sought decisions k)).creations j)

-- the entry of the child at a node's downlink
abbrev pub child : Head → ℕ → InstRef → ℕ → ℕ → Decision
child from i inst net t =
    Entered
    (record { path = from.path ++ i ∷ []; inst = inst; net = net; transition = t })
    (Some (record { head = from; downlink = i }))

-- an alternative of a call on an instance of this net: the transition at an index of those that
-- answer
abbrev pub called_at : System → Head → ℕ → InstRef → ℕ → ℕ → Option Decision
called_at system from i inst a net =
    option_and_then
    (λ d. option_map (child from i inst net) (slice_get (answering system net d.channel) a))
    (slice_get (transition_in system from).downlinks i)

-- the one alternative, 0
abbrev pub only_at : ℕ → Decision → Option Decision
only_at zero d = Some d
only_at (suc a) d = None

-- the decision that an alternative of a point is, where it is one
abbrev pub offered : Sought → List Decision → Point → ℕ → Option Decision
offered sought decisions P.Start a = only_at a (Entered sought.start None)
offered sought decisions (P.Token node arc from) a =
    option_map (λ v. Found (node_of sought decisions node) arc v)
    (first_token (tokens_of sought (node_of sought decisions node) arc) (from + a))
offered sought decisions (P.List node arc) a =
    only_at a (Found (node_of sought decisions node) arc
    (Value.List (tokens_of sought (node_of sought decisions node) arc)))
offered sought decisions (P.Result node k n) a =
    option_and_then
    (λ hole. only_at a (Computed (node_of sought decisions node) (as_site hole.0) hole.1.way
    (Value.Int n)))
    (slice_get (holes_of (transition_in sought.system (node_of sought decisions node))) k)
offered sought decisions (P.Call node i called) a =
    option_and_then
    (called_at sought.system (node_of sought decisions node) i
    (instance_of sought decisions called) a)
    (net_called sought decisions called)

-- a decision that no binding follows: it enters a node of a net that isn't there
abbrev pub nowhere : System → Decision
nowhere system =
    Entered (record { path = []; inst = Old 0; net = length system.nets; transition = 0 }) None

-- What an alternative of a point means. One that isn't a decision means one that nothing follows.
abbrev pub offers : Sought → List Decision → Point → ℕ → Decision
offers sought decisions point a =
    unwrap_or (offered sought decisions point a) (nowhere sought.system)
