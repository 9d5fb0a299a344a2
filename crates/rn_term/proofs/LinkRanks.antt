-- Where links lead: each id has a root, and along links the ranks fall.
use Rattle.std.proofs.Common.{◌≡◌, ◌≢◌, ⊎_elim, ◌<◌, ◌≤◌, ◌+◌, ℕ, zero, suc, List, [], ◌∷◌, ◌++◌}
use Rattle.std.proofs.Common.{refl, arith, length, sym, ◌∙◌, ap, subst, get_or, take}
use Rattle.std.specs.Prelude.{Some, None, nat_eq, if◌then◌else◌}
use Rattle.std.proofs.lemmas.Bool.Decides.{eqb_tells}
use Rattle.std.proofs.lemmas.List.{take_all}
use Rattle.std.proofs.Math.Seq.{take-suc}
use Rattle.std.proofs.lemmas.Option.{same_Some}
use Rattle.rn_term.specs.Stores.{State, link_of, Leads}
use Rattle.rn_term.specs.Assignments.{Keeps}
use Rattle.rn_term.proofs.LinkLemmas.{none_or_some, link-stays, link-here, link-other}

-- Links lead from each id to its root, and an id without a link is its own root. A link is between
-- ids of one root, and leads to a lower rank.
pub record Rooting (notes : List (ℕ × ℕ)) : Type 0 where
  pub root : ℕ → ℕ
  pub rank : ℕ → ℕ
  pub most : ℕ
  pub leads : (id : ℕ) → Leads notes id (root id)
  pub own : (id : ℕ) → link_of notes id ≡ None → root id ≡ id
  pub same : (id to : ℕ) → link_of notes id ≡ Some to → root id ≡ root to
  pub falls : (id to : ℕ) → link_of notes id ≡ Some to → rank to < rank id
  pub bounded : (id : ℕ) → rank id ≤ most

no_notes : Rooting []
no_notes = record {
  root = λ id. id;
  rank = λ id. 0;
  most = 0;
  leads = λ id. Leads.here;
  own = λ id none. refl;
  same = λ id to is. none_or_some to is;
  falls = λ id to is. none_or_some to is;
  bounded = λ id. omega arith;
}

-- links lead on from where others led
pub leads-through : (notes : List (ℕ × ℕ)) (a b c : ℕ) → Leads notes a b → Leads notes b c →
    Leads notes a c
leads-through notes a _ c Leads.here later = later
leads-through notes a b c (Leads.next {to = to} is first) later =
    Leads.next is (leads-through notes to b c first later)

-- links still lead where they led as a note comes
pub leads-more : (notes back : List (ℕ × ℕ)) (a b : ℕ) → Leads notes a b →
    Leads (notes ++ back) a b
leads-more notes back a _ Leads.here = Leads.here
leads-more notes back a b (Leads.next {to = to} is later) =
    Leads.next (link-stays notes back a to is) (leads-more notes back to b later)

-- a number that is another one where two ids are the same
abbrev where_same : ℕ → ℕ → ℕ → ℕ → ℕ
where_same a b n other = if nat_eq a b then other else n

where_same-yes : (a b n other : ℕ) → a ≡ b → where_same a b n other ≡ other
where_same-yes a b n other same = ⊎_elim
    (λ e. ap (λ t. if t then other else n) e.0)
    (λ e. absurd (e.1 same))
    (eqb_tells a b)

where_same-no : (a b n other : ℕ) → a ≢ b → where_same a b n other ≡ n
where_same-no a b n other apart = ⊎_elim
    (λ e. absurd (apart e.1))
    (λ e. ap (λ t. if t then other else n) e.0)
    (eqb_tells a b)

module _ (notes : List (ℕ × ℕ)) (before : Rooting notes) (var to : ℕ)
    (fresh : link_of notes var ≡ None) (apart : ¬ Leads notes to var) where
  abbrev more : List (ℕ × ℕ)
  more = notes ++ (var, to) ∷ []

  to_elsewhere : before.root to ≢ var
  to_elsewhere is = apart (subst (λ r. Leads notes to r) is (before.leads to))

  abbrev root : ℕ → ℕ
  root id = where_same (before.root id) var (before.root id) (before.root to)

  abbrev rank : ℕ → ℕ
  rank id = where_same (before.root id) var (before.rank id) (before.rank id + before.rank to + 1)

  still : (id : ℕ) → Leads more id (before.root id)
  still id = leads-more notes ((var, to) ∷ []) id (before.root id) (before.leads id)

  leads : (id : ℕ) → Leads more id (root id)
  leads id = ⊎_elim
      (λ e. subst (λ r. Leads more id r)
      (sym (where_same-yes (before.root id) var (before.root id) (before.root to) e.1))
      (leads-through more id var (before.root to)
      (subst (λ r. Leads more id r) e.1 (still id))
      (Leads.next (link-here notes var to var fresh refl) (still to))))
      (λ e. subst (λ r. Leads more id r)
      (sym (where_same-no (before.root id) var (before.root id) (before.root to) e.1))
      (still id))
      (eqb_tells (before.root id) var)

  var_alone : before.root var ≡ var
  var_alone = before.own var fresh

  root-to : root to ≡ before.root to
  root-to = where_same-no (before.root to) var (before.root to) (before.root to) to_elsewhere

  rank-to : rank to ≡ before.rank to
  rank-to = where_same-no (before.root to) var (before.rank to)
      (before.rank to + before.rank to + 1) to_elsewhere

  own : (id : ℕ) → link_of more id ≡ None → root id ≡ id
  own id none = ⊎_elim
      (λ e. none_or_some to (sym none ∙ link-here notes var to id fresh e.1))
      (λ e. unbound e.1 (before.own id (sym (link-other notes var to id e.1) ∙ none)))
      (eqb_tells id var)
    where
      unbound : id ≢ var → before.root id ≡ id → root id ≡ id
      unbound other alone =
          where_same-no (before.root id) var (before.root id) (before.root to)
          (λ is. other (sym alone ∙ is))
          ∙ alone

  same_here : (id : ℕ) → id ≡ var → root id ≡ root to
  same_here id is =
      where_same-yes (before.root id) var (before.root id) (before.root to)
      (ap before.root is ∙ var_alone)
      ∙ sym root-to

  falls_here : (id : ℕ) → id ≡ var → rank to < rank id
  falls_here id is =
      let now = where_same-yes (before.root id) var (before.rank id)
      (before.rank id + before.rank to + 1) (ap before.root is ∙ var_alone) in
      omega (arith, now, rank-to)

  same_other : (id end : ℕ) → link_of notes id ≡ Some end → root id ≡ root end
  same_other id end is =
      ap (λ r. where_same r var r (before.root to)) (before.same id end is)

  falls_other : (id end : ℕ) → link_of notes id ≡ Some end → rank end < rank id
  falls_other id end is = ⊎_elim
      (λ e. omega (
        arith,
        where_same-yes (before.root id) var (before.rank id)
            (before.rank id + before.rank to + 1) e.1,
        where_same-yes (before.root end) var (before.rank end)
            (before.rank end + before.rank to + 1) (sym (before.same id end is) ∙ e.1),
        before.falls id end is,
      ))
      (λ e. omega (
        arith,
        where_same-no (before.root id) var (before.rank id)
            (before.rank id + before.rank to + 1) e.1,
        where_same-no (before.root end) var (before.rank end)
            (before.rank end + before.rank to + 1) (λ f. e.1 (before.same id end is ∙ f)),
        before.falls id end is,
      ))
      (eqb_tells (before.root id) var)

  bounded : (id : ℕ) → rank id ≤ before.most + before.most + 1
  bounded id = ⊎_elim
      (λ e. omega (
        arith,
        where_same-yes (before.root id) var (before.rank id)
            (before.rank id + before.rank to + 1) e.1,
        before.bounded id,
        before.bounded to,
      ))
      (λ e. omega (
        arith,
        where_same-no (before.root id) var (before.rank id)
            (before.rank id + before.rank to + 1) e.1,
        before.bounded id,
      ))
      (eqb_tells (before.root id) var)

  -- a link after the new note is the new one, or one from before
  link_cases : {B : Type 0} (id end : ℕ) → link_of more id ≡ Some end →
      (id ≡ var → end ≡ to → B) → (link_of notes id ≡ Some end → B) → B
  link_cases id end is new old = ⊎_elim
      (λ e. new e.1 (same_Some end to (sym is ∙ link-here notes var to id fresh e.1)))
      (λ e. old (sym (link-other notes var to id e.1) ∙ is))
      (eqb_tells id var)

  with_new : Rooting more
  with_new = record {
    root = root;
    rank = rank;
    most = before.most + before.most + 1;
    leads = leads;
    own = own;
    same = λ id end is. link_cases id end is
        (λ here there. subst (λ x. root id ≡ root x) (sym there) (same_here id here))
        (same_other id end);
    falls = λ id end is. link_cases id end is
        (λ here there. subst (λ x. rank x < rank id) (sym there) (falls_here id here))
        (falls_other id end);
    bounded = bounded;
  }

ranks_up_to : (s : State) → Keeps s → (k : ℕ) → k ≤ length s.notes → Rooting (take k s.notes)
ranks_up_to s keeps zero within = no_notes
ranks_up_to s keeps (suc k) within =
    let note : ℕ × ℕ = get_or s.notes k (0, 0) in
    let fits = keeps.noted k (omega (arith, within)) in
    subst Rooting (sym (take-suc s.notes k (0, 0) (omega (arith, within))))
    (with_new (take k s.notes) (ranks_up_to s keeps k (omega (arith, within))) note.0 note.1
    fits.fresh fits.apart)

pub link_ranks : (s : State) → Keeps s → Rooting s.notes
link_ranks s keeps =
    subst Rooting (take_all (length s.notes) s.notes (omega arith))
    (ranks_up_to s keeps (length s.notes) (omega arith))
