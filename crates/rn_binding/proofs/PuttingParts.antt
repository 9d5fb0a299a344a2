-- One step of a list that is put together from pieces, each of a numbered element.
use Rattle.std.proofs.Common.{◌≡◌, ℕ, ◌+◌, ◌<◌, ◌≤◌, List, [], ◌∷◌, ◌++◌, length, get_or, drop}
use Rattle.std.proofs.Common.{sym, ap, ◌∙◌, append_assoc}
use Rattle.std.proofs.Common.{Bool, true, false, map, refl}
use Rattle.std.specs.Prelude.{flat_map, filter, if◌then◌else◌}
use Rattle.std.specs.List.{enumerate_from}
use Rattle.std.proofs.lemmas.Grind.{flat_map-append}
use Rattle.std.proofs.lemmas.List.{at_drop_more, map-append}
use Rattle.std.proofs.Math.ListN.{drop_of_length-le}
use Rattle.rn_model.specs.declared.system.System.{System}
use Rattle.rn_model.specs.declared.system.Transition.{Transition}
use Rattle.rn_model.specs.declared.system.NetArc.{NetArc}
use Rattle.rn_model.specs.declared.system.Downlink.{Downlink}
use Rattle.rn_model.specs.declared.expr.Expr.{Expr}
use Rattle.rn_model.specs.declared.binding.Node.{Node}
use Rattle.rn_model.specs.Systems.{transition_of, uplink_args}
use Rattle.rn_model.specs.Derivation.{Item, entry, found, computed, Site, Hole, holes_in}
use Rattle.rn_model.specs.Derivation.{sides_of, args_of, sites_of}
use Rattle.rn_model.specs.Derivation.{uplink_arg}
use Rattle.rn_model.specs.Derivation.{computed_at, downlink_arg, arc, finds_token, finds_values}
use Rattle.rn_model.specs.Derivation.{node_items}
use Rattle.rn_binding.specs.link.Applications.{holes_at, arc_site}
use Rattle.rn_binding.specs.link.Parts.{found_at}

-- what is put and what is left are as before where the next piece was put
pub moved : {A : Type 0} (done after piece rest next all : List A) → done ++ rest ≡ all →
    rest ≡ piece ++ next → after ≡ done ++ piece → after ++ next ≡ all
moved done after piece rest next all kept first put =
    ap (λ xs. xs ++ next) put ∙ append_assoc done piece next ∙ ap (λ xs. done ++ xs) (sym first)
    ∙ kept

-- what is made of the elements from an index on, each beside its number
pub numbered : {X Y : Type 0} (F : List (ℕ × X) → List Y) (xs : List X) (i : ℕ) (x : X) →
    i < length xs → x ≡ get_or xs i x →
    F (enumerate_from i (drop i xs)) ≡ F ((i, x) ∷ enumerate_from (i + 1) (drop (i + 1) xs))
numbered F xs i x h is =
    at_drop_more (λ ys. F (enumerate_from i ys)) xs i x h
    ∙ ap (λ y. F ((i, y) ∷ enumerate_from (i + 1) (drop (i + 1) xs))) (sym is)

-- and of none at the end
pub none_left : {X Y : Type 0} (F : List (ℕ × X) → List Y) (xs : List X) (i : ℕ) →
    length xs ≤ i → F (enumerate_from i (drop i xs)) ≡ F []
none_left F xs i h = ap (λ ys. F (enumerate_from i ys)) (drop_of_length-le xs h)

-- the pieces of a list that passes a test and is mapped
one_kept : {X Y : Type 0} (f : X → Y) (x : X) (pieces : List Y) (kept : List X) (passes : Bool) →
    pieces ≡ map f kept →
    (if passes then f x ∷ [] else []) ++ pieces ≡ map f (if passes then x ∷ kept else kept)
one_kept f x pieces kept true e = ap (λ ys. f x ∷ ys) e
one_kept f x pieces kept false e = e

kept_pieces : {X Y : Type 0} (test : X → Bool) (f : X → Y) (xs : List X) →
    flat_map (λ x. if test x then f x ∷ [] else []) xs ≡ map f (filter test xs)
kept_pieces test f [] = refl
kept_pieces test f (x ∷ xs) =
    one_kept f x (flat_map (λ y. if test y then f y ∷ [] else []) xs) (filter test xs) (test x)
    (kept_pieces test f xs)

-- one more downlink
pub downlink_put : (ds : List Downlink) (i : ℕ) (d : Downlink) (args : List Expr)
    (one next all : List (Site × Hole)) → i < length ds → d ≡ get_or ds i d → args ≡ d.args →
    one ++ flat_map holes_at (flat_map args_of (enumerate_from i (drop i ds))) ≡ all →
    next ≡ one ++ flat_map holes_at (map (λ e. (downlink_arg i e.0, e.1)) (enumerate_from 0 args)) →
    next ++ flat_map holes_at (flat_map args_of (enumerate_from (i + 1) (drop (i + 1) ds))) ≡ all
downlink_put ds i d args one next all h is args_are kept put =
    let on = flat_map holes_at in
    let others = flat_map args_of (enumerate_from (i + 1) (drop (i + 1) ds)) in
    moved one next (on (args_of (i, d))) (on (flat_map args_of (enumerate_from i (drop i ds)))) (on others) all kept
    (numbered (λ es. on (flat_map args_of es)) ds i d h is
    ∙ flat_map-append holes_at (args_of (i, d)) others)
    (put ∙ ap (λ xs. one ++ on (map (λ e. (downlink_arg i e.0, e.1)) (enumerate_from 0 xs))) args_are)

-- the operator applications of a transition, one kind of inscriptions after another
pub sites_put : (t : Transition) (equalities : List (Expr × Expr)) (uplinks : List Expr)
    (downlinks : List Downlink) (arcs : List NetArc) (old one two three : List (Site × Hole)) →
    equalities ≡ t.equalities → uplinks ≡ uplink_args t → downlinks ≡ t.downlinks → arcs ≡ t.arcs →
    one ≡ old ++ flat_map holes_at (flat_map sides_of (enumerate_from 0 equalities)) →
    two ≡ one ++ flat_map holes_at (map (λ e. (uplink_arg e.0, e.1)) (enumerate_from 0 uplinks)) →
    three ≡ two ++ flat_map holes_at (flat_map args_of (enumerate_from 0 downlinks)) →
    three ++ flat_map holes_at (flat_map arc_site (enumerate_from 0 arcs))
    ≡ old ++ flat_map holes_at (sites_of t)
sites_put t equalities uplinks downlinks arcs old one two three a b c d first second third =
    let on = holes_at in
    let sides = flat_map sides_of (enumerate_from 0 t.equalities) in
    let ups = map (λ e. (uplink_arg e.0, e.1)) (enumerate_from 0 (uplink_args t)) in
    let downs = flat_map args_of (enumerate_from 0 t.downlinks) in
    let tokens = map (λ e. (arc e.0, e.1.inscription)) (filter (λ e. finds_token e.1.kind) (enumerate_from 0 t.arcs)) in
    let one_is : one ≡ old ++ flat_map on sides = first ∙ ap (λ xs. old ++ flat_map on (flat_map sides_of (enumerate_from 0 xs))) a in
    let two_is : two ≡ old ++ flat_map on (sides ++ ups) =
    second ∙ ap (λ xs. one ++ flat_map on (map (λ e. (uplink_arg e.0, e.1)) (enumerate_from 0 xs))) b
    ∙ joined old one sides ups one_is in
    let three_is : three ≡ old ++ flat_map on ((sides ++ ups) ++ downs) =
    third ∙ ap (λ xs. two ++ flat_map on (flat_map args_of (enumerate_from 0 xs))) c
    ∙ joined old two (sides ++ ups) downs two_is in
    ap (λ xs. three ++ flat_map on (flat_map arc_site (enumerate_from 0 xs))) d
    ∙ ap (λ xs. three ++ flat_map on xs) (kept_pieces (λ e. finds_token e.1.kind) (λ e. (arc e.0, e.1.inscription)) (enumerate_from 0 t.arcs))
    ∙ joined old three ((sides ++ ups) ++ downs) tokens three_is
  where
    joined : (old one : List (Site × Hole)) (xs ys : List (Site × Expr)) → one ≡ old ++ flat_map holes_at xs →
        one ++ flat_map holes_at ys ≡ old ++ flat_map holes_at (xs ++ ys)
    joined old one xs ys is =
        ap (λ zs. zs ++ flat_map holes_at ys) is
        ∙ append_assoc old (flat_map holes_at xs) (flat_map holes_at ys)
        ∙ ap (λ zs. old ++ zs) (sym (flat_map-append holes_at xs ys))

-- operator applications as items of a node
abbrev pub as_item : Node → Site × Hole → Item
as_item node hole = computed node hole.0 hole.1

at_each_site : (node : Node) (sites : List (Site × Expr)) →
    map (as_item node) (flat_map holes_at sites) ≡ flat_map (computed_at node) sites
at_each_site node [] = refl
at_each_site node (s ∷ sites) =
    map-append (as_item node) (holes_at s) (flat_map holes_at sites)
    ∙ ap (λ xs. xs ++ map (as_item node) (flat_map holes_at sites))
    (mapped (holes_in s.1))
    ∙ ap (λ xs. computed_at node s ++ xs) (at_each_site node sites)
  where
    mapped : (hs : List Hole) → map (as_item node) (map (λ hole. (s.0, hole)) hs) ≡
        map (computed node s.0) hs
    mapped [] = refl
    mapped (h ∷ hs) = ap (λ xs. computed node s.0 h ∷ xs) (mapped hs)

pub computed_put : (node : Node) (t : Transition) (hs : List (Site × Hole)) (old new : List Item) →
    hs ≡ flat_map holes_at (sites_of t) → new ≡ old ++ map (as_item node) hs →
    new ≡ old ++ flat_map (computed_at node) (sites_of t)
computed_put node t hs old new are put =
    put ∙ ap (λ xs. old ++ map (as_item node) xs) are
    ∙ ap (λ xs. old ++ xs) (at_each_site node (sites_of t))

-- the items of a node: its entry, what its arcs find, and its operator applications
pub node_put : (system : System) (node : Node) (t : Transition) (arcs : List NetArc) (old one two : List Item) →
    t ≡ transition_of system node → arcs ≡ t.arcs → one ≡ old ++ entry node ∷ [] →
    two ≡ one ++ flat_map (found_at node) (enumerate_from 0 arcs) →
    two ++ flat_map (computed_at node) (sites_of t) ≡ old ++ node_items system node
node_put system node t arcs old one two is arcs_are first second =
    let finds = map (λ e. found node e.0 e.1) (filter (λ e. finds_values e.1.kind) (enumerate_from 0 t.arcs)) in
    let computes = flat_map (computed_at node) (sites_of t) in
    let two_is : two ≡ (old ++ entry node ∷ []) ++ finds =
    second ∙ ap (λ xs. xs ++ flat_map (found_at node) (enumerate_from 0 arcs)) first
    ∙ ap (λ xs. (old ++ entry node ∷ []) ++ flat_map (found_at node) (enumerate_from 0 xs)) arcs_are
    ∙ ap (λ xs. (old ++ entry node ∷ []) ++ xs)
    (kept_pieces (λ e. finds_values e.1.kind) (λ e. found node e.0 e.1) (enumerate_from 0 t.arcs)) in
    ap (λ xs. xs ++ computes) (two_is ∙ append_assoc old (entry node ∷ []) finds)
    ∙ append_assoc old (entry node ∷ finds) computes
    ∙ ap (λ u. old ++ (entry node ∷ (map (λ e. found node e.0 e.1)
    (filter (λ e. finds_values e.1.kind) (enumerate_from 0 u.arcs))
    ++ flat_map (computed_at node) (sites_of u)))) is
