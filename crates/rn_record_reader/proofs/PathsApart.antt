-- The nodes of a binding have different paths.
use Rattle.std.proofs.Common.{◌≡◌, ◌≢◌, ℕ, zero, suc, ◌+◌, ◌<◌, ◌⊎◌, inl, inr, true, List, [], ◌∷◌, ◌++◌, refl, sym, ap, ◌∙◌, subst, append_assoc, arith}
use Rattle.std.specs.Prelude.{Option, ⊤}
use Rattle.std.specs.List.{AllByRecursion}
use Rattle.std.proofs.lemmas.List.{append-nil}
use Rattle.rn_model.specs.declared.system.System.{System}
use Rattle.rn_model.proofs.EachElement.{each_append, each_weaker}
use Rattle.rn_lines.specs.LineText.{LineSaid}
use Rattle.rn_lines.specs.NodeText.{NodeSaid}
use Rattle.rn_record_reader.specs.Paths.{children_from, children, is_root}
use Rattle.rn_record_reader.specs.Nodes.{Judged, judged, Placed, Stop, node_then, nodes_from, count_called, placed_at}
use Rattle.rn_record_reader.specs.declared.role.Role.{Role}

cancelled : (r a b : List ℕ) → r ++ a ≡ r ++ b → a ≡ b
cancelled [] a b e = e
cancelled (c ∷ r) a b e = cancelled r a b (let rest : r ++ a ≡ r ++ b = cc in rest)

abbrev Extends : List ℕ → List ℕ → Type 0
Extends p q = (s : List ℕ) × (q ≡ p ++ s)

-- Paths that part, so that neither goes on from the other.
record Part (p q : List ℕ) : Type 0 where
  from : List ℕ
  i : ℕ
  j : ℕ
  s : List ℕ
  t : List ℕ
  first : p ≡ from ++ i ∷ s
  second : q ≡ from ++ j ∷ t
  differ : i ≢ j

parted : (p q x y : List ℕ) → Part p q → Extends p x → Extends q y → y ≢ x
parted p q x y part a b same =
    let left : x ≡ part.from ++ (part.i ∷ (part.s ++ a.0)) =
    a.1 ∙ ap (λ z. z ++ a.0) part.first ∙ append_assoc part.from (part.i ∷ part.s) a.0 in
    let right : y ≡ part.from ++ (part.j ∷ (part.t ++ b.0)) =
    b.1 ∙ ap (λ z. z ++ b.0) part.second ∙ append_assoc part.from (part.j ∷ part.t) b.0 in
    let heads = cancelled part.from (part.i ∷ (part.s ++ a.0)) (part.j ∷ (part.t ++ b.0)) (sym left ∙ sym same ∙ right) in
    let is : part.i ≡ part.j = cc in
    part.differ is

-- a path goes on from one of these
abbrev Covers : List (List ℕ) → List ℕ → Type 0
Covers [] q = ⊥
Covers (p ∷ ps) q = Extends p q ⊎ Covers ps q

abbrev AllPart : List (List ℕ) → Type 0
AllPart [] = ⊤
AllPart (p ∷ ps) = AllByRecursion (Part p) ps × AllPart ps

apart_from : (p : List ℕ) (ps : List (List ℕ)) (x y : List ℕ) → AllByRecursion (Part p) ps → Extends p x →
    Covers ps y → y ≢ x
apart_from p [] x y all a b = absurd b
apart_from p (q ∷ ps) x y all a (inl b) = parted p q x y all.0 a b
apart_from p (q ∷ ps) x y all a (inr b) = apart_from p ps x y all.1 a b

module _ (path : List ℕ) where
  siblings : (i j more : ℕ) → i < j → AllByRecursion (Part (path ++ i ∷ [])) (children_from path j more)
  siblings i j zero low = tt
  siblings i j (suc more) low = (
    record { from = path; i = i; j = j; s = []; t = []; first = refl; second = refl; differ = λ same. let no : ⊥ = omega (arith, same, low) in no },
    siblings i (j + 1) more (omega (arith, low)),
  )

  child_parts : (i : ℕ) (q : List ℕ) → Part path q → Part (path ++ i ∷ []) q
  child_parts i q part = record {
    from = part.from;
    i = part.i;
    j = part.j;
    s = part.s ++ i ∷ [];
    t = part.t;
    first = ap (λ p. p ++ i ∷ []) part.first ∙ append_assoc part.from (part.i ∷ part.s) (i ∷ []);
    second = part.second;
    differ = part.differ;
  }

  all_part : (i more : ℕ) (due : List (List ℕ)) → AllByRecursion (Part path) due → AllPart due →
      AllPart (children_from path i more ++ due)
  all_part i zero due from all = all
  all_part i (suc more) due from all = (
    each_append (Part (path ++ i ∷ [])) (children_from path (i + 1) more) due (siblings i (i + 1) more (omega arith))
        (each_weaker (Part path) (Part (path ++ i ∷ [])) (child_parts i) due from),
    all_part (i + 1) more due from all,
  )

  below : (i more : ℕ) (due : List (List ℕ)) (q : List ℕ) → Covers (children_from path i more ++ due) q →
      ((j : ℕ) × (s : List ℕ) × (q ≡ path ++ j ∷ s)) ⊎ Covers due q
  below i zero due q covered = inr covered
  below i (suc more) due q (inl on) = inl (i, on.0, on.1 ∙ append_assoc path (i ∷ []) on.0)
  below i (suc more) due q (inr on) = below (i + 1) more due q on

  covered_up : (more : ℕ) (due : List (List ℕ)) (q : List ℕ) → Covers (children path more ++ due) q → Covers (path ∷ due) q
  covered_up more due q covered = by (below 0 more due q covered)
    where
      by : ((j : ℕ) × (s : List ℕ) × (q ≡ path ++ j ∷ s)) ⊎ Covers due q → Covers (path ∷ due) q
      by (inl on) = inl (on.0 ∷ on.1, on.2)
      by (inr on) = inr on

  other_path : (more : ℕ) (due : List (List ℕ)) (q : List ℕ) → AllByRecursion (Part path) due →
      Covers (children path more ++ due) q → q ≢ path
  other_path more due q from covered = by (below 0 more due q covered)
    where
      by : ((j : ℕ) × (s : List ℕ) × (q ≡ path ++ j ∷ s)) ⊎ Covers due q → q ≢ path
      by (inl on) same =
          let none = cancelled path (on.0 ∷ on.1) [] (sym on.2 ∙ same ∙ sym (append-nil path)) in
          let no : ⊥ = cc in no
      by (inr on) same = apart_from path due path q from ([], sym (append-nil path)) on same

-- nodes with different paths
abbrev pub Differ : List Placed → Type 0
Differ [] = ⊤
Differ (x ∷ xs) = AllByRecursion (λ y. y.path ≢ x.path) xs × Differ xs

module _ (system : System) (role : Role) where
  abbrev Apart : List (List ℕ) → List (Option LineSaid) → Type 0
  Apart due lines = (nodes : List Placed) (stop : Stop) → nodes_from system role due lines ≡ (nodes, stop) →
      AllPart due → AllByRecursion (λ x. Covers due x.path) nodes × Differ nodes

  none_apart : (due : List (List ℕ)) (nodes : List Placed) → [] ≡ nodes → AllByRecursion (λ x. Covers due x.path) nodes × Differ nodes
  none_apart due nodes e = subst (λ xs. AllByRecursion (λ x. Covers due x.path) xs × Differ xs) e (tt, tt)

  one_apart : (path : List ℕ) (due : List (List ℕ)) (line : Option LineSaid) (lines : List (Option LineSaid)) →
      ((n : NodeSaid) → Apart (children path (count_called system n) ++ due) lines) → (j : Judged) →
      (nodes : List Placed) (stop : Stop) →
      node_then system path j (λ n. nodes_from system role (children path (count_called system n) ++ due) lines) ≡ (nodes, stop) →
      AllPart (path ∷ due) → AllByRecursion (λ x. Covers (path ∷ due) x.path) nodes × Differ nodes
  one_apart path due line lines more (Judged.late n) nodes stop e all = none_apart (path ∷ due) nodes (ap (λ r. r.0) e)
  one_apart path due line lines more (Judged.refused r) nodes stop e all = none_apart (path ∷ due) nodes (ap (λ r. r.0) e)
  one_apart path due line lines more (Judged.stands n) nodes stop e all =
      let count = count_called system n in
      let read : List Placed × Stop = nodes_from system role (children path count ++ due) lines in
      let rest = more n read.0 read.1 refl (all_part path 0 count due all.0 all.1) in
      subst (λ xs. AllByRecursion (λ x. Covers (path ∷ due) x.path) xs × Differ xs) (ap (λ r. r.0) e) (
        (
          inl ([], sym (append-nil path)),
          each_weaker (λ x. Covers (children path count ++ due) x.path) (λ x. Covers (path ∷ due) x.path)
              (λ x. covered_up path count due x.path) read.0 rest.0,
        ),
        (
          each_weaker (λ x. Covers (children path count ++ due) x.path) (λ y. y.path ≢ path)
              (λ y. other_path path count due y.path all.0) read.0 rest.0,
          rest.1,
        ),
      )

  nodes_apart : (due : List (List ℕ)) (lines : List (Option LineSaid)) → Apart due lines
  nodes_apart [] lines nodes stop e all = none_apart [] nodes (ap (λ r. r.0) e)
  nodes_apart (path ∷ due) [] nodes stop e all = none_apart (path ∷ due) nodes (ap (λ r. r.0) e)
  nodes_apart (path ∷ due) (line ∷ lines) nodes stop e all =
      one_apart path due line lines (λ n. nodes_apart (children path (count_called system n) ++ due) lines)
      (judged system role (is_root path) line) nodes stop e all

  -- the nodes of a binding have different paths
  pub paths_differ : (lines : List (Option LineSaid)) (nodes : List Placed) (stop : Stop) →
      nodes_from system role ([] ∷ []) lines ≡ (nodes, stop) → Differ nodes
  paths_differ lines nodes stop e = (nodes_apart ([] ∷ []) lines nodes stop e (tt, tt)).1

  first_of : (path : List ℕ) (j : Judged) (more : NodeSaid → List Placed × Stop) (x : Placed) (xs : List Placed) (stop : Stop) →
      node_then system path j more ≡ (x ∷ xs, stop) → x.path ≡ path
  first_of path (Judged.late n) more x xs stop e = absurd (let none = ap (λ r. r.0) e in let no : ⊥ = cc in no)
  first_of path (Judged.refused r) more x xs stop e = absurd (let none = ap (λ r. r.0) e in let no : ⊥ = cc in no)
  first_of path (Judged.stands n) more x xs stop e =
      let all = ap (λ r. r.0) e in
      let same : placed_at system path n ≡ x = cc in
      sym (ap (λ y. y.path) same)

  -- and the first one has the path of the start
  pub first_path : (lines : List (Option LineSaid)) (x : Placed) (xs : List Placed) (stop : Stop) →
      nodes_from system role ([] ∷ []) lines ≡ (x ∷ xs, stop) → x.path ≡ []
  first_path [] x xs stop e = absurd (let none = ap (λ r. r.0) e in let no : ⊥ = cc in no)
  first_path (line ∷ lines) x xs stop e =
      first_of [] (judged system role true line) (λ n. nodes_from system role (children [] (count_called system n) ++ []) lines) x xs stop e
