-- The links of notes, as notes come and go.
use Rattle.std.proofs.Common.{◌≡◌, ◌≢◌, ◌⊎◌, ⊎_elim, ◌<◌, ℕ, suc, List, [], ◌∷◌, ◌++◌}
use Rattle.std.proofs.Common.{refl, arith}
use Rattle.std.proofs.Common.{length, sym, ◌∙◌, ap, subst, Bool, true, false, get_or, set}
use Rattle.std.specs.Prelude.{Option, Some, None, nat_eq, if◌then◌else◌}
use Rattle.std.proofs.lemmas.Bool.Decides.{eqb_tells}
use Rattle.std.proofs.lemmas.List.{get_or-set_same, get_or-set_other}
use Rattle.std.proofs.lemmas.Option.{same_Some}
use Rattle.rn_term.specs.Stores.{link_of}

-- the first of two links
abbrev pub or_link : Option ℕ → Option ℕ → Option ℕ
or_link None other = other
or_link (Some to) other = Some to

abbrev IsNoLink : Option ℕ → Type 0
IsNoLink None = Unit {0}
IsNoLink (Some to) = ⊥

-- no link is none to an id
pub none_or_some : {B : Type 0} (to : ℕ) → None ≡ Some to → B
none_or_some to e = absurd (subst IsNoLink e tt)

picked : (b : Bool) (to : ℕ) (x y : Option ℕ) →
    (if b then Some to else or_link x y) ≡ or_link (if b then Some to else x) y
picked true to x y = refl
picked false to x y = refl

pub link-after : (prefix back : List (ℕ × ℕ)) (id : ℕ) →
    link_of (prefix ++ back) id ≡ or_link (link_of prefix id) (link_of back id)
link-after [] back id = refl
link-after (note ∷ prefix) back id =
    ap (λ o. if nat_eq note.0 id then Some note.1 else o) (link-after prefix back id)
    ∙ picked (nat_eq note.0 id) note.1 (link_of prefix id) (link_of back id)

-- a link stays as notes come
pub link-stays : (prefix back : List (ℕ × ℕ)) (id to : ℕ) →
    link_of prefix id ≡ Some to → link_of (prefix ++ back) id ≡ Some to
link-stays prefix back id to is =
    link-after prefix back id ∙ ap (λ o. or_link o (link_of back id)) is

-- where there was no link, the new note gives the link
pub link-new : (prefix : List (ℕ × ℕ)) (var to id : ℕ) → link_of prefix id ≡ None →
    link_of (prefix ++ (var, to) ∷ []) id ≡ (if nat_eq var id then Some to else None)
link-new prefix var to id none =
    link-after prefix ((var, to) ∷ []) id ∙ ap (λ o. or_link o (link_of ((var, to) ∷ []) id)) none

-- the link of the variable of a new note
pub link-here : (prefix : List (ℕ × ℕ)) (var to id : ℕ) → link_of prefix var ≡ None → id ≡ var →
    link_of (prefix ++ (var, to) ∷ []) id ≡ Some to
link-here prefix var to id none is =
    ap (link_of (prefix ++ (var, to) ∷ [])) is ∙ link-new prefix var to var none
    ∙ ap (λ b. if b then Some to else None) (eqb_true var)
  where
    eqb_true : (n : ℕ) → nat_eq n n ≡ true
    eqb_true n = ⊎_elim (λ e. e.0) (λ e. absurd (e.1 refl)) (eqb_tells n n)

-- every other id keeps its link
pub link-other : (prefix : List (ℕ × ℕ)) (var to id : ℕ) → id ≢ var →
    link_of (prefix ++ (var, to) ∷ []) id ≡ link_of prefix id
link-other prefix var to id other =
    link-after prefix ((var, to) ∷ []) id
    ∙ ap (λ b. or_link (link_of prefix id) (if b then Some to else None)) apart
    ∙ alone (link_of prefix id)
  where
    apart : nat_eq var id ≡ false
    apart = ⊎_elim (λ e. absurd (other (sym e.1))) (λ e. e.0) (eqb_tells var id)

    alone : (o : Option ℕ) → or_link o None ≡ o
    alone None = refl
    alone (Some to) = refl

-- each link is a note
pub noted_link : (notes : List (ℕ × ℕ)) (id to : ℕ) → link_of notes id ≡ Some to →
    (k : ℕ) × (k < length notes) × (get_or notes k (0, 0) ≡ (id, to))
noted_link [] id to is = none_or_some to is
noted_link (note ∷ notes) id to is =
    first (λ later. noted_link notes id to later) (eqb_tells note.0 id)
  where
    first : (link_of notes id ≡ Some to →
        (k : ℕ) × (k < length notes) × (get_or notes k (0, 0) ≡ (id, to))) →
        ((nat_eq note.0 id ≡ true) × (note.0 ≡ id)) ⊎ ((nat_eq note.0 id ≡ false) × (note.0 ≢ id)) →
        (k : ℕ) × (k < length (note ∷ notes)) × (get_or (note ∷ notes) k (0, 0) ≡ (id, to))
    first more = ⊎_elim
        (λ e. (
          0,
          omega arith,
          pair_is e.1 (same_Some note.1 to
              (sym (ap (λ b. if b then Some note.1 else link_of notes id) e.0) ∙ is)),
        ))
        (λ e. let found = more
        (sym (ap (λ b. if b then Some note.1 else link_of notes id) e.0) ∙ is)
        in (suc found.0, omega (arith, found.1), found.2))
      where
        pair_is : note.0 ≡ id → note.1 ≡ to → note ≡ (id, to)
        pair_is a b = ap (λ x. (x, note.1)) a ∙ ap (λ y. (id, y)) b

-- writing the link of a variable's note
pub set_link : (links : List (Option ℕ)) (notes : List (ℕ × ℕ)) (var to : ℕ) →
    ((id : ℕ) → get_or links id None ≡ link_of notes id) → var < length links →
    link_of notes var ≡ None →
    (id : ℕ) → get_or (set links var (Some to)) id None ≡ link_of (notes ++ (var, to) ∷ []) id
set_link links notes var to are within none id = ⊎_elim
    (λ e. ap (λ i. get_or (set links var (Some to)) i None) e.1
    ∙ get_or-set_same links var (Some to) None within
    ∙ sym (link-here notes var to id none e.1))
    (λ e. get_or-set_other links var id (Some to) None e.1 ∙ are id
    ∙ sym (link-other notes var to id e.1))
    (eqb_tells id var)

-- taking back the link of the last note
pub unset_link : (links : List (Option ℕ)) (notes : List (ℕ × ℕ)) (var to : ℕ) →
    ((id : ℕ) → get_or links id None ≡ link_of (notes ++ (var, to) ∷ []) id) → var < length links →
    link_of notes var ≡ None →
    (id : ℕ) → get_or (set links var None) id None ≡ link_of notes id
unset_link links notes var to are within none id = ⊎_elim
    (λ e. ap (λ i. get_or (set links var None) i None) e.1
    ∙ get_or-set_same links var None None within
    ∙ sym (ap (link_of notes) e.1 ∙ none))
    (λ e. get_or-set_other links var id None None e.1 ∙ are id
    ∙ link-other notes var to id e.1)
    (eqb_tells id var)
