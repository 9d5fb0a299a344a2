-- Whether something was decided of a thing, by the tests for it.
use Rattle.std.proofs.Common.{◌≡◌, ℕ, Bool, true, List, refl, sym}
use Rattle.std.specs.Prelude.{Option}
use Rattle.std.specs.List.{list_any}
use Rattle.std.proofs.lemmas.Bool.{eq-eqb}
use Rattle.rn_value.specs.declared.value.Value.{Value}
use Rattle.rn_growing.specs.declared.decision.Site.{Site}
use Rattle.rn_growing.specs.declared.decision.Head.{Head}
use Rattle.rn_growing.specs.declared.decision.Caller.{Caller}
use Rattle.rn_growing.specs.declared.decision.Decision.{Decision}
use Rattle.rn_growing.specs.declared.decision.Decision.TheVariants.{Entered, Found, Computed}
use Rattle.rn_growing.specs.Decided.{enters, finds, computes}
use Rattle.rn_growing.specs.Grown.{IsNew}
use Rattle.rn_growing.specs.Turns.{SameThing}
use Rattle.rn_growing.proofs.NewThings.{some_passes}
use Rattle.rn_growing.proofs.SameUnknowns.{site_itself}
use Rattle.rn_search.specs.Ending.{IsDecided}
use Rattle.rn_search.specs.Room.{on_one_thing}
use Rattle.rn_search.proofs.Falling.{one_thing}
use Rattle.rn_items.proofs.Numbers.{numbers_themselves}

-- a decision is on its own thing
itself : (d : Decision) → on_one_thing d d ≡ true
itself (Entered head caller) = numbers_themselves head.path
itself (Found head k v) = rw (numbers_themselves head.path, eq-eqb k k refl) refl
itself (Computed head site way v) =
    rw (numbers_themselves head.path, site_itself site, numbers_themselves way) refl

by_test : (d : Decision) (test : Decision → Bool) →
    ((e : Decision) → test e ≡ true → on_one_thing e d ≡ true) → (ds : List Decision) →
    list_any test ds ≡ true → IsDecided ds d
by_test d test on ds any =
    let e = some_passes test ds any in
    (e.0, e.1, one_thing e.0 e.0 d (itself e.0) (on e.0 e.2))

pub was_entered : (ds : List Decision) (head : Head) (caller : Option Caller) →
    list_any (enters head.path) ds ≡ true → IsDecided ds (Entered head caller)
was_entered ds head caller any = by_test (Entered head caller) (enters head.path) on ds any
  where
    on : (e : Decision) → enters head.path e ≡ true →
        on_one_thing e (Entered head caller) ≡ true
    on (Entered other from) is = is
    on (Found other j w) is = absurd (let no : ⊥ = cc in no)
    on (Computed other at along w) is = absurd (let no : ⊥ = cc in no)

pub was_found : (ds : List Decision) (head : Head) (k : ℕ) (v : Value) →
    list_any (finds head.path k) ds ≡ true → IsDecided ds (Found head k v)
was_found ds head k v any = by_test (Found head k v) (finds head.path k) on ds any
  where
    on : (e : Decision) → finds head.path k e ≡ true → on_one_thing e (Found head k v) ≡ true
    on (Found other j w) is = is
    on (Entered other from) is = absurd (let no : ⊥ = cc in no)
    on (Computed other at along w) is = absurd (let no : ⊥ = cc in no)

pub was_computed : (ds : List Decision) (head : Head) (site : Site) (way : List ℕ) (v : Value) →
    list_any (computes head.path site way) ds ≡ true → IsDecided ds (Computed head site way v)
was_computed ds head site way v any =
    by_test (Computed head site way v) (computes head.path site way) on ds any
  where
    on : (e : Decision) → computes head.path site way e ≡ true →
        on_one_thing e (Computed head site way v) ≡ true
    on (Computed other at along w) is = is
    on (Entered other from) is = absurd (let no : ⊥ = cc in no)
    on (Found other j w) is = absurd (let no : ⊥ = cc in no)

-- what is new isn't decided
pub new_is_open : (ds : List Decision) (d : Decision) → IsNew ds d → ¬ IsDecided ds d
new_is_open ds d fresh (e, there, same) = fresh e there (turned d e same)
  where
    turned : (d e : Decision) → SameThing d e → SameThing e d
    turned (Entered head caller) (Entered other from) same = sym same
    turned (Found head k v) (Found other j w) same = (sym same.0, sym same.1)
    turned (Computed head site way v) (Computed other at along w) same =
        (sym same.0, sym same.1, sym same.2)
    turned (Entered head caller) (Found other j w) same = same
    turned (Entered head caller) (Computed other at along w) same = same
    turned (Found head k v) (Entered other from) same = same
    turned (Found head k v) (Computed other at along w) same = same
    turned (Computed head site way v) (Entered other from) same = same
    turned (Computed head site way v) (Found other j w) same = same
