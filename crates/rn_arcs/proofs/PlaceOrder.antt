-- The order of places is total, and only equal places are equal in it.
use Rattle.std.proofs.Common.{◌≡◌, ℕ, true, false, ◌&&◌, refl, sym, ap, ◌∙◌}
use Rattle.std.specs.Prelude.{not, nat_eq}
use Rattle.std.specs.Ordering.{nat_cmp, ordering_then, ordering_reverse, is_eq, is_lt}
use Rattle.std.specs.Cmp.{IsTotalOrder, Equal-is, both_ways, tied_itself}
use Rattle.std.specs.Cmp as laws_of
use Rattle.std.specs.List.Sorted.{ties}
use Rattle.std.specs.declared.cmp.Ordering.{Ordering}
use Rattle.std.specs.declared.cmp.Ordering.TheVariants.{Less, Equal, Greater}
use Rattle.std.proofs.lemmas.Bool.{eqb-true, eq-eqb, false≢true}
use Rattle.std.proofs.lemmas.Cmp.{then_total, on_total, nat_cmp_total}
use Rattle.std.proofs.lemmas.Map.Lookups.{exact_unsigned}
use Rattle.rn_value.specs.Order.{inst_cmp}
use Rattle.rn_value.specs.link.OrderLaws.{inst_alike, insts_apart, then_equal}
use Rattle.rn_value.specs.declared.value.InstRef.{InstRef}
use Rattle.rn_value.specs.contracts.value.InstRefPartialOrd.TheImpl.Laws as inst_laws
use Rattle.rn_arcs.specs.Places.{InstPlace, place_cmp, is_at}

pub inst_total : IsTotalOrder inst_cmp
inst_total = laws_of.total inst_laws.laws-law inst_alike

pub place_total : IsTotalOrder place_cmp
place_total =
    then_total (on_total (λ (k : InstPlace). k.0) inst_total)
    (on_total (λ (k : InstPlace). k.1) nat_cmp_total)

pub same_place : (k l : InstPlace) → is_at k l ≡ true → l ≡ k
same_place k l e =
    let both = then_equal (inst_cmp l.0 k.0) (nat_cmp l.1 k.1)
    ((Equal-is (place_cmp l k)).0 e) in
    let inst : l.0 ≡ k.0 = insts_apart l.0 k.0 both.0 in
    let place : l.1 ≡ k.1 = exact_unsigned l.1 k.1 both.1 in
    let same : (l.0, l.1) ≡ (k.0, k.1) = cc in
    same

-- a place is equal to itself
pub at_itself : (k : InstPlace) → is_at k k ≡ true
at_itself k = (Equal-is (place_cmp k k)).1 (tied_itself place_total k)

-- neither is below the other exactly where they are the same
tie : (r s : Ordering) → r ≡ ordering_reverse s → not (is_lt r) && not (is_lt s) ≡ is_eq s
tie r Less e = rw e refl
tie r Equal e = rw e refl
tie r Greater e = rw e refl

pub ties_are_one : (k l : InstPlace) → ties (λ x y. is_lt (place_cmp x y)) k l ≡ is_at k l
ties_are_one k l = tie (place_cmp k l) (place_cmp l k) (place_total.antisymm k l)

-- the same place: the same instance and the same number
pub eq_then : (c d : Ordering) → is_eq (ordering_then c d) ≡ is_eq c && is_eq d
eq_then Less d = refl
eq_then Equal d = refl
eq_then Greater d = refl

pub eq_numbers : (p q : ℕ) → is_eq (nat_cmp p q) ≡ nat_eq p q
eq_numbers p q =
    both_ways (is_eq (nat_cmp p q)) (nat_eq p q)
    (λ e. eq-eqb p q (exact_unsigned p q ((Equal-is (nat_cmp p q)).0 e)))
    (λ e. (Equal-is (nat_cmp p q)).1
    (let same : p ≡ q = eqb-true p q e in
    ap (nat_cmp p) (sym same) ∙ tied_itself nat_cmp_total p))

pub at_both : (k : InstPlace) (inst : InstRef) (place : ℕ) →
    is_at k (inst, place) ≡ is_eq (inst_cmp inst k.0) && nat_eq place k.1
at_both k inst place =
    eq_then (inst_cmp inst k.0) (nat_cmp place k.1)
    ∙ ap (λ t. is_eq (inst_cmp inst k.0) && t) (eq_numbers place k.1)

-- what is neither below a place nor the place itself is above it
above : (r s : Ordering) → r ≡ ordering_reverse s → is_lt s ≡ false → is_eq s ≡ false → r ≡ Less
above r Less e low other = absurd (false≢true (sym low))
above r Equal e low other = absurd (false≢true (sym other))
above r Greater e low other = e

pub is_above : (k l : InstPlace) → is_lt (place_cmp l k) ≡ false → is_at k l ≡ false →
    place_cmp k l ≡ Less
is_above k l low other =
    above (place_cmp k l) (place_cmp l k) (place_total.antisymm k l) low other

-- a place above this one isn't this one
pub not_at_above : (k l : InstPlace) → place_cmp k l ≡ Less → is_at k l ≡ false
not_at_above k l low =
    ap is_eq (place_total.antisymm l k ∙ ap ordering_reverse low)

-- a place below one that isn't above another is below that one
by_answer : (k l m : InstPlace) (r : Ordering) → place_cmp l m ≡ r → place_cmp k l ≡ Less →
    is_lt (place_cmp m l) ≡ false → place_cmp k m ≡ Less
by_answer k l m Less e low up = place_total.trans k l m low e
by_answer k l m Equal e low up =
    sym (laws_of.alike_right place_total l m k e) ∙ low
by_answer k l m Greater e low up =
    let back : place_cmp m l ≡ Less =
    place_total.antisymm m l ∙ ap ordering_reverse e in
    absurd (false≢true (sym up ∙ ap is_lt back))

pub stays_below : (k l m : InstPlace) → place_cmp k l ≡ Less → is_lt (place_cmp m l) ≡ false →
    place_cmp k m ≡ Less
stays_below k l m low up = by_answer k l m (place_cmp l m) refl low up
