-- Counting an entry keeps the rule.
use Rattle.std.proofs.Common.{◌≡◌, ◌≢◌, ℕ, ◌+◌, ◌<◌, eqb, Bool, List, [], ◌∷◌, ◌++◌, length, get_or, set, drop, sym, refl, ap, ◌∙◌, subst, ⊎_elim, inr, ◌⊎◌, arith, Option, Some, eq-eqb, length-append}
use Rattle.std.proofs.Math.Seq.{drop-append_seam, drop-length}
use mathlib.Core.Option.{none, some}
use mathlib.Core.Option as maybe
use lib.ListN.{get_elem?}
use prog.Atomic.{either}
use Rattle.atomic_table.specs.Table.{Me, step, keeps, Allows}
use Rattle.atomic_table.proofs.Lists.{set_here}
use Rattle.rn_desk.specs.declared.view.SeatRole.{SeatRole}
use Rattle.rn_desk.specs.declared.view.SeatRole.TheVariants.{Holds}
use Rattle.rn_desk.specs.declared.view.Part.{Part}
use Rattle.rn_desk.specs.declared.view.SeatView.{SeatView}
use Rattle.rn_desk.specs.Entries.{authored}
use Rattle.rn_desk.specs.Turns.{total, Every, wrapped, tickets_in, is_number, parts, PartFits, parts_of, number_count, RoleFits, Turns}
use Rattle.rn_desk.specs.Steps.{grown, with_entries, Counts}
use Rattle.rn_desk.proofs.Setting.{BoardState}
use Rattle.rn_desk.proofs.Sums.{total-set_same, total_at, total_two}
use Rattle.rn_desk.proofs.Histories.{append_none, authored-append, authored_by_other, is_number_here, all_fit_longer}
use Rattle.rn_desk.proofs.Roles.{turn_elsewhere}
use Rattle.rn_desk.proofs.Views.{is_within, ticket_stays}
use Rattle.rn_desk.proofs.Keeping.{value_or, restep, knows, parts_in, fits_in, fixed_in, alone}

abbrev said_value : {A : Type 0} → A → maybe.Option (Option A) → A
said_value d none = d
said_value d (some o) = value_or d o

module _ {S I F : Type 0} (entries : S → List I) (author : I → ℕ) (fixed : S → F) (seats : ℕ) (start : S) where
  abbrev Rule : BoardState S I F → Type 0
  Rule = Turns entries author fixed seats start

  module _ (s : BoardState S I F) (r : Rule s) (id : ℕ) (v : SeatView I F) (t : ℕ) (e : I) (at : get_elem? s.views id ≡ some v) (is : v.role ≡ Holds t) (who : (author e ≡ v.own.number) ⊎ (author e ≡ 0)) where
    -- the number of parts of the seat that have the author's number
    own_count : number_count (author e) v ≡ is_number (author e) v.own + total (is_number (author e)) v.others
    own_count = ap (total (is_number (author e))) (parts_in v (Holds t) is)

    no_part : author e ≡ 0 → total (number_count (author e)) s.views ≡ 0
    no_part q = ap (λ (k : ℕ). total (number_count k) s.views) q ∙ r.no_zero

    -- none of the parts that were joined into the seat authored the entry
    others_none : total (is_number (author e)) v.others ≡ 0
    others_none = let c = own_count in let one = alone entries author fixed seats start s r (author e) in let inside = total_at (number_count (author e)) s.views id v at in
        ⊎_elim (λ q. let a = is_number_here (author e) v.own (sym q) in omega arith) (λ q. let b = no_part q in omega arith) who

    -- and none of another seat's
    elsewhere : (j : ℕ) (d : SeatView I F) → j ≢ id → get_elem? s.views j ≡ some d → total (is_number (author e)) (parts_of d) ≡ 0
    elsewhere j d other h = let c = own_count in let one = alone entries author fixed seats start s r (author e) in
        ⊎_elim (λ q. let a = is_number_here (author e) v.own (sym q) in let two = total_two (number_count (author e)) s.views id j v d at h (λ f. other (sym f)) in omega arith)
        (λ q. let b = no_part q in let inside = total_at (number_count (author e)) s.views j d h in omega arith) who

    -- and no number that isn't made
    author_made : (m : ℕ) → r.made < m → author e ≢ m
    author_made m over same = let c = own_count in let inside = total_at (number_count (author e)) s.views id v at in
        ⊎_elim (λ q. let a = is_number_here (author e) v.own (sym q) in let b : total (number_count (author e)) s.views ≡ 0 = ap (λ (k : ℕ). total (number_count k) s.views) same ∙ r.unmade m over in omega arith) (λ q. omega arith) who

    -- the seat's own parts fit the longer history
    own_fits : (y : S) → entries y ≡ v.own.seen ++ e ∷ [] → entries y ≡ r.log ++ e ∷ []
        → Every (PartFits author (r.log ++ e ∷ [])) (parts v.role (grown author v.own (entries y)) v.others)
    own_fits y adds all = let log : List I = r.log ++ e ∷ [] in let own : Part I = grown author v.own (entries y) in let fit = fits_in entries author fixed seats start s r id v (Holds t) at is in
        subst (λ (z : SeatRole). Every (PartFits author log) (parts z own v.others)) (sym is) (
          (
            ([], sym (append_none (entries y) log [] all refl)),
            authored-append author v.own.number r.log (e ∷ []) ∙ (λ i. fit.0.1 i ++ authored author v.own.number (sym (ap (drop (length v.own.seen)) adds ∙ drop-append_seam v.own.seen (e ∷ [])) i)),
          ),
          all_fit_longer author r.log e v.others others_none fit.1,
        )

  pub count_allowed : (slots id old new : ℕ) (v : SeatView I F) (t : ℕ) (y : S) (e : I) (cs : List (ℕ × Option S)) → v.role ≡ Holds t → old ≡ length v.own.seen → new ≡ old + 1 → new < 18446744073709551616
      → entries y ≡ v.own.seen ++ e ∷ [] → (author e ≡ v.own.number) ⊎ (author e ≡ 0)
      → Allows Rule slots id (v, cs) 2 (λ x. either (eqb x old) new x) (Counts entries author fixed (step slots 2 old new (some (Some y))) (v, cs))
  count_allowed slots id old new v t y e cs is began up fits adds who s r deep at small = let k = knows entries author fixed seats start s r id v (Holds t) at is in
      let log : List I = r.log ++ e ∷ [] in let own : Part I = grown author v.own (entries y) in let w : SeatView I F = with_entries author (entries y) v in
      let x : ℕ = get_or s.words 2 0 in let z : ℕ = either (eqb x old) new x in let count : x ≡ wrapped (length r.log) = ap (λ ws. get_or ws 2 0) r.words in
      let long : length log ≡ length r.log + 1 = length-append r.log (e ∷ []) in
      let here : length v.own.seen ≡ length r.log = ap length k.3 in let found : x ≡ old = omega arith in let now : z ≡ new = ap (λ (b : Bool). either b new x) (eq-eqb x old found) in let next : z ≡ wrapped (length log) = omega arith in
      let all : entries y ≡ log = adds ∙ ap (λ (l : List I). l ++ e ∷ []) k.3 in let mine : r.seat_of r.served ≡ id = ap r.seat_of (sym k.0) ∙ k.2 in (
        w,
        keeps,
        tt,
        restep entries author fixed seats start s r id v w (set s.words 2 z) s.homes log r.drawn r.served r.seat_of at
            (ap (λ ws. set ws 2 z) r.words ∙ ap (λ (n : ℕ). wrapped r.drawn ∷ wrapped r.served ∷ n ∷ []) next)
            (λ u low high. ticket_stays s.views id v w at (r.seat_of u) u (λ has. has) (r.queue u low high))
            (r.waiting ∙ ap (λ (n : ℕ). r.served + n) (sym (total-set_same tickets_in s.views id v w at refl)))
            (ap (λ (z : SeatRole). length (parts z own v.others)) is ∙ sym (ap (λ (z : SeatRole). length (parts z v.own v.others)) is))
            (λ n. ap (λ (z : SeatRole). total (is_number n) (parts z own v.others)) is ∙ sym (ap (λ (z : SeatRole). total (is_number n) (parts z v.own v.others)) is))
            (λ m over. authored-append author m r.log (e ∷ []) ∙ append_none _ _ _ (r.unwritten m over) (authored_by_other author m e (author_made s r id v t e at is who m over)))
            (subst (RoleFits (s.homes ≡ none ∷ []) log r.made r.drawn r.served r.seat_of id own) (sym is) (k.0, k.1, k.2, all, k.4))
            (λ j d other h. turn_elsewhere r.log r.made r.drawn r.served r.seat_of id j d.own (s.homes ≡ none ∷ []) (s.homes ≡ none ∷ []) log d.role mine other (r.roles j d h))
            (own_fits s r id v t e at is who y adds all)
            (λ j d other h. all_fit_longer author r.log e (parts_of d) (elsewhere s r id v t e at is who j d other h) (r.fits j d h))
            (fixed_in entries author fixed seats start s r id v (Holds t) at is refl)
            (inr (k.4, (w, ap (get_elem? (set s.views id w)) mine ∙ set_here s.views id w (is_within s.views id v at), is ∙ ap (λ (z : ℕ). let x : SeatRole = Holds z in x) k.0))),
        λ y' is'. let same : y ≡ y' = ap (λ (o : maybe.Option (Option S)). said_value y o) is' in ap (λ (q : S). (with_entries author (entries q) v, cs)) same,
      )

  -- the same, where the step reads the state through an Option
  pub count_allowed_by : (slots id old new : ℕ) (me : Me (Option S) (SeatView I F)) (t : ℕ) (y : S) (full : Option S) (one : (e : I) × (entries y ≡ me.0.own.seen ++ e ∷ []) × ((author e ≡ me.0.own.number) ⊎ (author e ≡ 0)))
      → me.0.role ≡ Holds t → full ≡ Some y → old ≡ length me.0.own.seen → new ≡ old + 1 → new < 18446744073709551616
      → Allows Rule slots id me 2 (λ x. either (eqb x old) new x) (Counts entries author fixed (step slots 2 old new (some full)) me)
  count_allowed_by slots id old new me t y full one is said began up fits = subst (λ (o : Option S). Allows Rule slots id me 2 (λ x. either (eqb x old) new x) (Counts entries author fixed (step slots 2 old new (some o)) me)) (sym said)
      (count_allowed slots id old new me.0 t y one.0 me.1 is began up fits one.1 one.2)

module _ {I F : Type 0} (author : I → ℕ) (v : SeatView I F) where
  -- a seat that sees no new entry stays as it was
  pub with_entries_same : (all : List I) → all ≡ v.own.seen → v ≡ with_entries author all v
  with_entries_same all same = let none_new : authored author v.own.number (drop (length v.own.seen) all) ≡ [] = ap (λ l. authored author v.own.number (drop (length v.own.seen) l)) same ∙ ap (authored author v.own.number) (drop-length v.own.seen) in
      let mine : v.own.mine ≡ v.own.mine ++ authored author v.own.number (drop (length v.own.seen) all) = sym (append_none v.own.mine v.own.mine _ refl none_new) in
      λ i. record { role = v.role; own = record { number = v.own.number; seen = sym same i; mine = mine i }; others = v.others; fixed = v.fixed }
