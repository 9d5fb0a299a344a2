-- Entry by entry: the lines so far, followed by those of the entries that are left, are all lines.
use Rattle.std.proofs.Common.{◌≡◌, ℕ, zero, suc, ◌+◌, ◌<◌, ◌≤◌, List, [], ◌∷◌, ◌++◌, length, drop, get_or}
use Rattle.std.proofs.Common.{refl, sym, ap, ◌∙◌, subst, append_assoc, append-nil, drop-cons, arith}
use Rattle.std.specs.List.{AllByRecursion}
use Rattle.rn_model.specs.declared.system.System.{System}
use Rattle.rn_model.specs.declared.log.Entry.{Entry}
use Rattle.rn_model.specs.declared.log.Entry.TheVariants.{Fire, End}
use Rattle.rn_model.specs.Firing.{creations_of}
use Rattle.rn_moves.specs.declared.token.Moves.{Moves}
use Rattle.rn_moves.specs.link.Connecting.{HasEntryNodes, WritesAll, WritesEntry}
use Rattle.rn_moves.specs.link.Movable.{HaveMoves}
use Rattle.rn_moves.specs.Moves.{AreFirst, AreMovesFrom}
use Rattle.rn_moves.specs.MovesText.{MovesText, all_lines, moves_lines, names_of, nets_of}

-- Each list of the moves of the entries that are left goes on to one of all entries, whose lines are
-- those so far and then its own.
abbrev pub Continues : System → List ℕ → List (List ℕ) → List Entry → List ℕ → ℕ → ℕ → List Entry →
    List ℕ → Type 0
Continues system nets names entries before next step todo out =
    (others : List Moves) → AreMovesFrom system next step todo others →
    (all : List Moves) × AreMovesFrom system 2 1 entries all
    × (out ++ all_lines system nets names step others
    ≡ before ++ all_lines system nets names 1 all)

drop_past : {A : Type 0} (i : ℕ) (xs : List A) → length xs ≤ i → drop i xs ≡ []
drop_past zero [] past = refl
drop_past (suc i) [] past = refl
drop_past zero (x ∷ xs) past = absurd (let no : ⊥ = omega (arith, past) in no)
drop_past (suc i) (x ∷ xs) past = drop_past i xs (omega (arith, past))

module _ (system : System) (nets : List ℕ) (names : List (List ℕ)) (entries : List Entry)
    (before : List ℕ) where
  -- one entry more
  entry_on : (next step next' step' : ℕ) (entry : Entry) (rest : List Entry) (out out' : List ℕ) →
      Continues system nets names entries before next step (entry ∷ rest) out →
      WritesEntry system nets names next step entry next' step' out out' →
      Continues system nets names entries before next' step' rest out'
  entry_on next step next' step' (Fire worker b outs) rest out out' goes wrote others are =
      let at_next = subst (λ k. AreMovesFrom system k step' rest others) wrote.next_is are in
      let own = subst (λ k. AreMovesFrom system (next + length (creations_of system b)) k rest others) wrote.step_is at_next in
      let all = goes (wrote.moves ∷ others) (wrote.are, own) in (
        all.0,
        all.1,
        ap (λ o. o ++ all_lines system nets names step' others) wrote.text
            ∙ ap (λ k. (out ++ moves_lines system nets names step wrote.moves) ++ all_lines system nets names k others) wrote.step_is
            ∙ append_assoc out (moves_lines system nets names step wrote.moves) (all_lines system nets names (suc step) others)
            ∙ all.2,
      )
  entry_on next step next' step' (End reason) rest out out' goes (next_is, step_is, same) others are =
      let at_next = subst (λ k. AreMovesFrom system k step' rest others) next_is are in
      let own = subst (λ k. AreMovesFrom system next k rest others) step_is at_next in
      let all = goes others own in (
        all.0,
        all.1,
        ap (λ o. o ++ all_lines system nets names step' others) same
            ∙ ap (λ k. out ++ all_lines system nets names k others) step_is ∙ all.2,
      )

  -- what follows an entry can be listed too
  rest_may : (last next step next' step' : ℕ) (entry : Entry) (rest : List Entry)
      (out out' : List ℕ) → HaveMoves system last next step (entry ∷ rest) →
      WritesEntry system nets names next step entry next' step' out out' →
      HaveMoves system last next' step' rest
  rest_may last next step next' step' (Fire worker b outs) rest out out' may wrote =
      subst (λ k. HaveMoves system last k step' rest) (sym wrote.next_is)
      (subst (λ k. HaveMoves system last (next + length (creations_of system b)) k rest) (sym wrote.step_is) may.1)
  rest_may last next step next' step' (End reason) rest out out' may (next_is, step_is, same) =
      subst (λ k. HaveMoves system last k step' rest) (sym next_is)
      (subst (λ k. HaveMoves system last next k rest) (sym step_is) may)

  -- the entry at an index
  pub step_on : (next step next' step' i : ℕ) (entry : Entry) (out out' : List ℕ) →
      i < length entries → entry ≡ get_or entries i entry →
      Continues system nets names entries before next step (drop i entries) out →
      WritesEntry system nets names next step entry next' step' out out' →
      Continues system nets names entries before next' step' (drop (i + 1) entries) out'
  step_on next step next' step' i entry out out' low is goes wrote =
      let same : suc i ≡ i + 1 = omega arith in
      subst (λ j. Continues system nets names entries before next' step' (drop j entries) out') same (entry_on next step next' step' entry (drop (suc i) entries) out out'
      (subst (λ todo. Continues system nets names entries before next step todo out) (at_index i entry low is) goes) wrote)
    where
      at_index : (i : ℕ) (entry : Entry) → i < length entries → entry ≡ get_or entries i entry →
          drop i entries ≡ entry ∷ drop (suc i) entries
      at_index i entry low is =
          drop-cons entries i entry low ∙ ap (λ e. e ∷ drop (suc i) entries) (sym is)

  pub rest_told : (last next step next' step' i : ℕ) (entry : Entry) (out out' : List ℕ) →
      i < length entries → entry ≡ get_or entries i entry →
      HaveMoves system last next step (drop i entries) →
      WritesEntry system nets names next step entry next' step' out out' →
      HaveMoves system last next' step' (drop (i + 1) entries)
  rest_told last next step next' step' i entry out out' low is may wrote =
      let same : suc i ≡ i + 1 = omega arith in
      subst (λ j. HaveMoves system last next' step' (drop j entries)) same (rest_may last next step next' step' entry (drop (suc i) entries) out out'
      (subst (HaveMoves system last next step)
      (drop-cons entries i entry low ∙ ap (λ e. e ∷ drop (suc i) entries) (sym is)) may) wrote)

  -- at the end all are written
  pub all_written : (next step i : ℕ) (out : List ℕ) → length entries ≤ i →
      Continues system nets names entries before next step (drop i entries) out →
      WritesAll system nets names entries before out
  all_written next step i out past goes =
      let none = drop_past i entries past in
      let all = subst (λ todo. Continues system nets names entries before next step todo out) none goes [] tt in
      record { moves = all.0; are = all.1; text = sym (append-nil out) ∙ all.2 }

-- each node of a log whose moves can be listed is one of the system
pub nodes_told : (system : System) (last next step : ℕ) (entries : List Entry) →
    HaveMoves system last next step entries → AllByRecursion (HasEntryNodes system) entries
nodes_told system last next step [] may = tt
nodes_told system last next step (Fire worker b outs ∷ entries) may = (
  may.0.defined.nodes,
  nodes_told system last (next + length (creations_of system b)) (suc step) entries may.1,
)
nodes_told system last next step (End reason ∷ entries) may =
    (tt, nodes_told system last next step entries may)

-- the lines of the start, and then those of all entries, are the text
pub all_told : (system : System) (entries : List Entry) (first : Moves) (nets : List ℕ)
    (names : List (List ℕ)) (before after : List ℕ) → nets ≡ nets_of system entries →
    names ≡ names_of system nets → AreFirst system first →
    before ≡ moves_lines system nets names 0 first →
    WritesAll system nets names entries before after → MovesText system entries after
all_told system entries first nets names before after nets_are names_are begins lines wrote =
    let same : names ≡ names_of system (nets_of system entries) =
    names_are ∙ ap (names_of system) nets_are in
    record {
      moves = first ∷ wrote.moves;
      are = (begins, wrote.are);
      text = wrote.text
          ∙ ap (λ t. t ++ all_lines system nets names 1 wrote.moves) lines
          ∙ ap (λ ns. all_lines system ns names 0 (first ∷ wrote.moves)) nets_are
          ∙ ap (λ ms. all_lines system (nets_of system entries) ms 0 (first ∷ wrote.moves)) same;
    }
