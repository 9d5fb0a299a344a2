-- The tokens of the workload text are its plain form: part by part, whatever follows.
use Rattle.std.proofs.Common.{◌≡◌, ℕ, ℤ, pos, List, [], ◌∷◌, codes, refl}
use Rattle.rn_notation.specs.declared.token.Token.{Token}
use Rattle.rn_notation.specs.declared.token.TokenKind.TheVariants.{Name, Number}
use Rattle.rn_inscript.specs.declared.exprs.PForm.TheVariants as F
use Rattle.rn_inscript.specs.Expressions.{IsExpr, IsTerms, IsProduct, IsFactors, IsUnary, IsPrimary, IsListed, IsExprs, IsMoreExprs, at_spot}
use Rattle.rn_inscript.specs.Conditions.{IsCond, IsAlternatives, IsMoreAlternatives, IsBoth, IsMoreBoth, IsSimple}
use Rattle.rn_inscript.specs.Inscriptions.{IsCall, IsInscribed, name_at}
use Rattle.rn_inscript.specs.Signs.{open_paren, close_paren, close_brace}
use Rattle.rn_net.specs.declared.kinds.PKindForm.TheVariants as K
use Rattle.rn_net.specs.Kinds.{IsKind, AreListed, AreKinds, AreMoreKinds, kind_at}
use Rattle.rn_net.specs.Constants.{IsConstant, AreConstants, AreMoreConstants}
use Rattle.rn_net.specs.Nets.{IsChannel, AreMoreNames, AreVars, IsKindOfPlace, IsCapacity, AreInitial, IsPlace, AreInscribed, AreInscriptions, IsTransition, AreParts, IsNet, AreItems, IsSystem}
use Rattle.rn_gen.proofs.Streams.{with_kinds, past}
use Rattle.rn_gen.proofs.Forms.{Kinds, Stream, go_kinds, go_channel, done_kinds, done_channel, int_var_kinds, int_var, net_var_kinds, net_var, int_place_kinds, int_place, net_place_kinds, net_place, make_kinds, make, step_kinds, step, finish_kinds, finish, go_on_kinds, go_on, be_done_kinds, be_done, main_kinds, main, worker_kinds, worker, workload_kinds, workload_form}

-- a variable and a number alone, as operands and as expressions
var_product : {t : Token} {rest : List Token} {x : List ℕ} → t.kind ≡ Name x →
    IsProduct (t ∷ rest) (at_spot t.spot (F.Name x)) rest
var_product is = IsProduct.product (IsUnary.primary (IsPrimary.name is)) IsFactors.no_more_factors

int_product : {t : Token} {rest : List Token} {z : ℤ} → t.kind ≡ Number z →
    IsProduct (t ∷ rest) (at_spot t.spot (F.Int z)) rest
int_product is = IsProduct.product (IsUnary.primary (IsPrimary.number is)) IsFactors.no_more_factors

var_alone : {t : Token} {rest : List Token} {x : List ℕ} → t.kind ≡ Name x →
    IsExpr (t ∷ rest) (at_spot t.spot (F.Name x)) rest
var_alone is = IsExpr.sum (var_product is) IsTerms.no_more_terms

int_alone : {t : Token} {rest : List Token} {z : ℤ} → t.kind ≡ Number z →
    IsExpr (t ∷ rest) (at_spot t.spot (F.Int z)) rest
int_alone is = IsExpr.sum (int_product is) IsTerms.no_more_terms

-- `ch(x)` and `ch()`
call_of_var : {t u v w : Token} {rest : List Token} {ch x : List ℕ} → t.kind ≡ Name ch →
    u.kind ≡ open_paren → v.kind ≡ Name x → w.kind ≡ close_paren →
    IsCall (t ∷ u ∷ v ∷ w ∷ rest) (name_at t.spot ch, at_spot v.spot (F.Name x) ∷ []) rest
call_of_var a b c d =
    IsCall.call a b (IsListed.some (IsExprs.exprs (var_alone c) IsMoreExprs.no_more_exprs) d)

call_of_none : {t u v : Token} {rest : List Token} {ch : List ℕ} → t.kind ≡ Name ch →
    u.kind ≡ open_paren → v.kind ≡ close_paren → IsCall (t ∷ u ∷ v ∷ rest) (name_at t.spot ch, []) rest
call_of_none a b c = IsCall.call a b (IsListed.nothing c)

go_channel_reads : (at : Stream) (more : Kinds) →
    IsChannel (with_kinds at (go_kinds more)) (go_channel at) (with_kinds (past 6 at) more)
unfolding go_kinds go_channel
go_channel_reads at more =
    IsChannel.channel refl refl refl
    (AreListed.some (AreKinds.kinds (IsKind.int refl) AreMoreKinds.no_more_kinds) refl) refl

done_channel_reads : (at : Stream) (more : Kinds) →
    IsChannel (with_kinds at (done_kinds more)) (done_channel at) (with_kinds (past 5 at) more)
unfolding done_kinds done_channel
done_channel_reads at more = IsChannel.channel refl refl refl (AreListed.nothing refl) refl

int_var_reads : (x : List ℕ) (at : Stream) (more : Kinds) →
    AreVars (with_kinds at (int_var_kinds x more)) (int_var x at ∷ []) (with_kinds (past 5 at) more)
int_var_reads x at more =
    AreVars.vars {names = name_at (at 1).spot x ∷ []} {kind = kind_at (at 3).spot K.Int}
    refl refl AreMoreNames.no_more_names refl (IsKind.int refl) refl

net_var_reads : (x : List ℕ) (at : Stream) (more : Kinds) →
    AreVars (with_kinds at (net_var_kinds x more)) (net_var x at ∷ []) (with_kinds (past 5 at) more)
net_var_reads x at more =
    AreVars.vars {names = name_at (at 1).spot x ∷ []} {kind = kind_at (at 3).spot K.Net}
    refl refl AreMoreNames.no_more_names refl (IsKind.net refl) refl

int_place_reads : (p : List ℕ) (z : ℤ) (at : Stream) (more : Kinds) →
    IsPlace (with_kinds at (int_place_kinds p z more)) (int_place p z at)
    (with_kinds (past 7 at) more)
int_place_reads p z at more =
    IsPlace.place refl refl (IsKindOfPlace.given refl (IsKind.int refl)) IsCapacity.none
    (AreInitial.some refl
    (AreConstants.constants (IsConstant.number refl) AreMoreConstants.no_more_constants))
    refl

net_place_reads : (p : List ℕ) (at : Stream) (more : Kinds) →
    IsPlace (with_kinds at (net_place_kinds p more)) (net_place p at) (with_kinds (past 5 at) more)
net_place_reads p at more =
    IsPlace.place refl refl (IsKindOfPlace.given refl (IsKind.net refl)) IsCapacity.none
    AreInitial.none refl

make_reads : (at : Stream) (more : Kinds) →
    IsTransition 1 (with_kinds at (make_kinds more)) (make at) (with_kinds (past 31 at) more)
unfolding make_kinds make
make_reads at more =
    IsTransition.transition refl refl refl
    (AreInscriptions.more_inscriptions (AreInscribed.one (IsInscribed.arc refl refl refl (var_alone refl))) refl
    (AreInscriptions.more_inscriptions
    (AreInscribed.one (IsInscribed.guard refl (IsCond.any (IsAlternatives.alternatives
    (IsBoth.both (IsSimple.compare (var_alone refl) refl (int_alone refl)) IsMoreBoth.no_more_both)
    IsMoreAlternatives.no_more_alternatives)))) refl
    (AreInscriptions.more_inscriptions (AreInscribed.one (IsInscribed.creation refl refl refl refl)) refl
    (AreInscriptions.more_inscriptions
    (AreInscribed.one (IsInscribed.arc refl refl refl
    (IsExpr.sum (var_product refl) (IsTerms.more_terms refl (int_product refl) IsTerms.no_more_terms))))
    refl
    (AreInscriptions.more_inscriptions (AreInscribed.one (IsInscribed.arc refl refl refl (var_alone refl))) refl
    AreInscriptions.no_more_inscriptions)))))
    refl

step_reads : (at : Stream) (more : Kinds) →
    IsTransition 1 (with_kinds at (step_kinds more)) (step at) (with_kinds (past 21 at) more)
unfolding step_kinds step
step_reads at more =
    IsTransition.transition refl refl refl
    (AreInscriptions.more_inscriptions (AreInscribed.one (IsInscribed.arc refl refl refl (var_alone refl))) refl
    (AreInscriptions.more_inscriptions
    (AreInscribed.one (IsInscribed.downlink refl refl (call_of_var refl refl refl refl))) refl
    (AreInscriptions.more_inscriptions (AreInscribed.one (IsInscribed.arc refl refl refl (var_alone refl))) refl
    AreInscriptions.no_more_inscriptions)))
    refl

finish_reads : (at : Stream) (more : Kinds) →
    IsTransition 1 (with_kinds at (finish_kinds more)) (finish at) (with_kinds (past 15 at) more)
unfolding finish_kinds finish
finish_reads at more =
    IsTransition.transition refl refl refl
    (AreInscriptions.more_inscriptions (AreInscribed.one (IsInscribed.arc refl refl refl (var_alone refl))) refl
    (AreInscriptions.more_inscriptions
    (AreInscribed.one (IsInscribed.downlink refl refl (call_of_none refl refl refl))) refl
    AreInscriptions.no_more_inscriptions))
    refl

go_on_reads : (at : Stream) (more : Kinds) →
    IsTransition 1 (with_kinds at (go_on_kinds more)) (go_on at) (with_kinds (past 27 at) more)
unfolding go_on_kinds go_on
go_on_reads at more =
    IsTransition.transition refl refl refl
    (AreInscriptions.more_inscriptions (AreInscribed.one (IsInscribed.uplink refl (call_of_var refl refl refl refl))) refl
    (AreInscriptions.more_inscriptions (AreInscribed.one (IsInscribed.arc refl refl refl (var_alone refl))) refl
    (AreInscriptions.more_inscriptions
    (AreInscribed.one (IsInscribed.guard refl (IsCond.any (IsAlternatives.alternatives
    (IsBoth.both (IsSimple.compare (var_alone refl) refl (int_alone refl)) IsMoreBoth.no_more_both)
    IsMoreAlternatives.no_more_alternatives)))) refl
    (AreInscriptions.more_inscriptions
    (AreInscribed.one (IsInscribed.arc refl refl refl
    (IsExpr.sum (var_product refl) (IsTerms.more_terms refl (int_product refl) IsTerms.no_more_terms))))
    refl AreInscriptions.no_more_inscriptions))))
    refl

be_done_reads : (at : Stream) (more : Kinds) →
    IsTransition 1 (with_kinds at (be_done_kinds more)) (be_done at) (with_kinds (past 14 at) more)
unfolding be_done_kinds be_done
be_done_reads at more =
    IsTransition.transition refl refl refl
    (AreInscriptions.more_inscriptions (AreInscribed.one (IsInscribed.uplink refl (call_of_none refl refl refl))) refl
    (AreInscriptions.more_inscriptions (AreInscribed.one (IsInscribed.arc refl refl refl (int_alone refl))) refl
    AreInscriptions.no_more_inscriptions))
    refl

main_reads : (z : ℤ) (at : Stream) (more : Kinds) →
    IsNet 1 (with_kinds at (main_kinds z more)) (main z at) (with_kinds (past 98 at) more)
unfolding main_kinds main
main_reads z at more =
    let finished = close_brace ∷ more in
    let stepped = finish_kinds finished in
    let made = step_kinds stepped in
    let marked = make_kinds made in
    let c_marked = net_place_kinds (codes "busy") marked in
    let declared = int_place_kinds (codes "c") z c_marked in
    let w = net_var_kinds (codes "w") declared in
    let k = int_var_kinds (codes "k") w in
    IsNet.net refl refl refl
    (AreParts.and_vars (int_var_reads (codes "n") (past 3 at) k)
    (AreParts.and_vars (int_var_reads (codes "k") (past 8 at) w)
    (AreParts.and_vars (net_var_reads (codes "w") (past 13 at) declared)
    (AreParts.and_place (int_place_reads (codes "c") z (past 18 at) c_marked)
    (AreParts.and_place (net_place_reads (codes "busy") (past 25 at) marked)
    (AreParts.and_transition (make_reads (past 30 at) made)
    (AreParts.and_transition (step_reads (past 61 at) stepped)
    (AreParts.and_transition (finish_reads (past 82 at) finished)
    AreParts.no_more_parts))))))))
    refl

worker_reads : (at : Stream) (more : Kinds) →
    IsNet 1 (with_kinds at (worker_kinds more)) (worker at) (with_kinds (past 57 at) more)
unfolding worker_kinds worker
worker_reads at more =
    let finished = close_brace ∷ more in
    let gone = be_done_kinds finished in
    let declared = go_on_kinds gone in
    let k = int_place_kinds (codes "s") (pos 0) declared in
    IsNet.net refl refl refl
    (AreParts.and_vars (int_var_reads (codes "k") (past 3 at) k)
    (AreParts.and_place (int_place_reads (codes "s") (pos 0) (past 8 at) declared)
    (AreParts.and_transition (go_on_reads (past 15 at) gone)
    (AreParts.and_transition (be_done_reads (past 42 at) finished)
    AreParts.no_more_parts))))
    refl

-- the whole text: its first token is that of the first channel
pub workload_reads : (z : ℤ) (at : Stream) →
    IsSystem (with_kinds at (workload_kinds z)) (workload_form z at)
unfolding workload_kinds workload_form go_kinds
workload_reads z at =
    let nets = main_kinds z (worker_kinds []) in
    IsSystem.first
    (AreItems.and_channel (go_channel_reads at (done_kinds nets))
    (AreItems.and_channel (done_channel_reads (past 6 at) nets)
    (AreItems.and_net (main_reads z (past 11 at) (worker_kinds []))
    (AreItems.and_net (worker_reads (past 109 at) []) AreItems.no_more_items))))
