-- The tokens of the translation are legal, and none of them goes too deep.
use Rattle.std.proofs.Common.{◌≡◌, ℕ, zero, suc, ◌<◌, length, sym, subst, Bool, true, false, not, List, [], ◌∷◌, refl, codes}
use Rattle.std.specs.Prelude.{Option, Some, None, All, is_some, nat_lt}
use Rattle.std.proofs.lemmas.List.Elements.{All-head, All-tail}
use Rattle.rn_items.proofs.Bools.{both_true}
use Rattle.rn_value.specs.Words.{IsName, is_identifier, is_reserved, index_of, reserved_words}
use Rattle.rn_model.specs.declared.system.ArcKind.{ArcKind}
use Rattle.rn_model.proofs.EachElement.{at_place}
use Rattle.rn_notation.specs.declared.token.Token.{Token}
use Rattle.rn_notation.specs.declared.token.TokenKind.TheVariants.{Name}
use Rattle.rn_net.specs.Levels.{IsShallow, after}
use Rattle.rn_net.specs.Words.{semicolon}
use Rattle.rn_inscript.specs.Signs.{colon}
use Rattle.rn_net.specs.Levels.Region.{between, declaring, inscribing}
use Rattle.rn_inscript.specs.Levels.{Count}
use Rattle.rn_inscript.specs.Levels.Level.{bracket}
use Rattle.rn_print.proofs.Atoms.{Legal}
use Rattle.rn_print.proofs.SpelledExpressions.{AllLegal}
use Rattle.rn_weighted.specs.declared.weighted.Weighted.{Weighted}
use Rattle.rn_weighted.specs.declared.weighted.WPlace.{WPlace}
use Rattle.rn_weighted.specs.declared.weighted.WTransition.{WTransition}
use Rattle.rn_weighted.specs.declared.weighted.WArc.{WArc}
use Rattle.rn_weighted.specs.Weighted.{IsWArc, IsWArcKind, IsWPlace, IsWTransition, IsWeighted}
use Rattle.rn_translated.specs.TranslatedSystem.{flexible}
use Rattle.rn_translated.specs.Translation.{place_name}
use Rattle.rn_translated.proofs.ArcDemands.{by_kind}
use Rattle.rn_translated.proofs.FormsOfNets.{form_kind}
use Rattle.rn_translated.proofs.FormsMean.{some_place, name_of}
use Rattle.rn_translated.proofs.TokensOfNets.{tok, more_blacks, initial_tokens, list_tokens, arc_word, inscription_tokens, arcs_tokens, transitions_tokens, places_tokens, net_tokens}

-- names are legal
not_reserved : (o : Option ℕ) → not (is_some o) ≡ true → o ≡ None
not_reserved None e = refl
not_reserved (Some n) e = let never : ⊥ = cc in absurd never

legal_name : (s : List ℕ) → IsName s → Legal (Name s)
legal_name s is =
    let both = both_true (is_identifier s) (not (is_reserved s)) is in
    (both.0, not_reserved (index_of reserved_words s) both.1)

legal_blacks : (n : ℕ) (rest : List Token) → AllLegal rest → AllLegal (more_blacks n rest)
legal_blacks zero rest legal = legal
legal_blacks (suc n) rest legal = (tt, (tt, (tt, legal_blacks n rest legal)))

legal_initial : (n : ℕ) (rest : List Token) → AllLegal rest → AllLegal (initial_tokens n rest)
legal_initial zero rest legal = legal
legal_initial (suc n) rest legal = (tt, (tt, (tt, legal_blacks n rest legal)))

legal_list : (n : ℕ) (rest : List Token) → AllLegal rest → AllLegal (list_tokens n rest)
legal_list zero rest legal = (tt, (tt, legal))
legal_list (suc n) rest legal = (tt, (tt, (tt, legal_blacks n _ (tt, legal))))

legal_word : (more : Bool) (kind : ArcKind) → IsWArcKind kind →
    Legal (arc_word (form_kind more kind))
legal_word true kind is = by_kind (λ k. Legal (arc_word (flexible k))) kind is tt tt tt
legal_word false kind is = by_kind (λ k. Legal (arc_word k)) kind is tt tt tt

legal_inscription : (more : Bool) (n : ℕ) (rest : List Token) → AllLegal rest →
    AllLegal (inscription_tokens more n rest)
legal_inscription true n rest legal = legal_list n rest legal
legal_inscription false n rest legal = (tt, (tt, legal))

module _ (wps : List WPlace) (good : All IsWPlace wps) where
  legal_place_name : (k : ℕ) → k < length wps → Legal (Name (place_name wps k))
  legal_place_name k within =
      let at = some_place wps k within in
      let is = at_place IsWPlace wps k at.0 good at.1 in
      subst (λ name. Legal (Name name)) (sym (name_of wps k at.0 at.1))
      (legal_name at.0.name is.name.0)

  legal_arcs : (arcs : List WArc) (rest : List Token) → All (IsWArc (length wps)) arcs →
      AllLegal rest → AllLegal (arcs_tokens wps arcs rest)
  legal_arcs [] rest are legal = legal
  legal_arcs (a ∷ arcs) rest are legal =
      let is = All-head (IsWArc (length wps)) a arcs are in
      let more = nat_lt 1 a.weight in
      let others = legal_arcs arcs rest (All-tail (IsWArc (length wps)) a arcs are) legal in (legal_word more a.kind is.kind, (legal_place_name a.place is.place, (tt, legal_inscription more a.weight _ (tt, others))))

  legal_transitions : (wts : List WTransition) (rest : List Token) →
      All (IsWTransition (length wps)) wts → AllLegal rest →
      AllLegal (transitions_tokens wps wts rest)
  legal_transitions [] rest are legal = legal
  legal_transitions (wt ∷ wts) rest are legal =
      let is = All-head (IsWTransition (length wps)) wt wts are in
      let others = legal_transitions wts rest (All-tail (IsWTransition (length wps)) wt wts are)
      legal in (tt, (legal_name wt.name is.name.0, (tt, legal_arcs wt.arcs _ is.arcs (tt, others))))

legal_places : (wps : List WPlace) (rest : List Token) → All IsWPlace wps → AllLegal rest →
    AllLegal (places_tokens wps rest)
legal_places [] rest are legal = legal
legal_places (wp ∷ wps) rest are legal =
    let is = All-head IsWPlace wp wps are in
    let others = legal_places wps rest (All-tail IsWPlace wp wps are) legal in (tt, (legal_name wp.name is.name.0, (tt, (tt, (tt, legal_initial wp.initial _ (tt, others))))))

main_legal : Legal (Name (codes "main"))
unfolding reserved_words
main_legal = (refl, refl)

pub are_legal : (net : Weighted) → IsWeighted net → AllLegal (net_tokens net)
are_legal net good = (
  tt,
  (
    main_legal,
    (
      tt,
      legal_places net.places _ good.places
          (legal_transitions net.places good.places net.transitions _ good.transitions (tt, tt)),
    ),
  ),
)

-- levels
shallow_blacks : (n : ℕ) (rest : List Token) → IsShallow (declaring 0) rest →
    IsShallow (declaring 0) (more_blacks n rest)
shallow_blacks zero rest shallow = shallow
shallow_blacks (suc n) rest shallow = (refl, (refl, (refl, shallow_blacks n rest shallow)))

shallow_initial : (n : ℕ) (rest : List Token) → IsShallow (declaring 0) rest →
    IsShallow (declaring 0) (initial_tokens n rest)
shallow_initial zero rest shallow = shallow
shallow_initial (suc n) rest shallow = (refl, (refl, (refl, shallow_blacks n rest shallow)))

shallow_places : (wps : List WPlace) (rest : List Token) → IsShallow between rest →
    IsShallow between (places_tokens wps rest)
shallow_places [] rest shallow = shallow
shallow_places (wp ∷ wps) rest shallow = (refl, (refl, (refl, (refl, (refl, shallow_initial wp.initial _ (refl, shallow_places wps rest shallow))))))

-- before an inscription's expression, within its list, and after it
abbrev begun : Count
begun = record { levels = []; ended = false; operators = 0 }

abbrev inside : Count
inside = record { levels = bracket ∷ []; ended = true; operators = 0 }

abbrev ended : Count
ended = record { levels = []; ended = true; operators = 0 }

shallow_within : (n : ℕ) (rest : List Token) → IsShallow (inscribing 1 inside) rest →
    IsShallow (inscribing 1 inside) (more_blacks n rest)
shallow_within zero rest shallow = shallow
shallow_within (suc n) rest shallow = (refl, (refl, (refl, shallow_within n rest shallow)))

shallow_list : (n : ℕ) (rest : List Token) → IsShallow (inscribing 0 ended) rest →
    IsShallow (inscribing 0 begun) (list_tokens n rest)
shallow_list zero rest shallow = (refl, (refl, shallow))
shallow_list (suc n) rest shallow = (refl, (refl, (refl, shallow_within n _ (refl, shallow))))

shallow_inscription : (more : Bool) (n : ℕ) (rest : List Token) →
    IsShallow (inscribing 0 ended) rest →
    IsShallow (inscribing 0 begun) (inscription_tokens more n rest)
shallow_inscription true n rest shallow = shallow_list n rest shallow
shallow_inscription false n rest shallow = (refl, (refl, shallow))

word_begins : (more : Bool) (kind : ArcKind) → IsWArcKind kind →
    after between (arc_word (form_kind more kind)) ≡ inscribing 0 begun
word_begins true kind is =
    by_kind (λ k. after between (arc_word (flexible k)) ≡ inscribing 0 begun) kind is refl refl refl
word_begins false kind is =
    by_kind (λ k. after between (arc_word k) ≡ inscribing 0 begun) kind is refl refl refl

shallow_arcs : (wps : List WPlace) (arcs : List WArc) (rest : List Token) →
    All (IsWArc (length wps)) arcs → IsShallow between rest →
    IsShallow between (arcs_tokens wps arcs rest)
shallow_arcs wps [] rest are shallow = shallow
shallow_arcs wps (a ∷ arcs) rest are shallow =
    let is = All-head (IsWArc (length wps)) a arcs are in
    let more = nat_lt 1 a.weight in
    let others = shallow_arcs wps arcs rest (All-tail (IsWArc (length wps)) a arcs are) shallow in
    let inscription = inscription_tokens more a.weight
    (tok semicolon ∷ arcs_tokens wps arcs rest) in (
      refl,
      subst
          (λ region. IsShallow region
          (tok (Name (place_name wps a.place)) ∷ tok colon ∷ inscription))
          (sym (word_begins more a.kind is.kind))
          (refl, (refl, shallow_inscription more a.weight _ (refl, others))),
    )

shallow_transitions : (wps : List WPlace) (wts : List WTransition) (rest : List Token) →
    All (IsWTransition (length wps)) wts → IsShallow between rest →
    IsShallow between (transitions_tokens wps wts rest)
shallow_transitions wps [] rest are shallow = shallow
shallow_transitions wps (wt ∷ wts) rest are shallow =
    let is = All-head (IsWTransition (length wps)) wt wts are in
    let others = shallow_transitions wps wts rest
    (All-tail (IsWTransition (length wps)) wt wts are) shallow in
    (refl, (refl, (refl, shallow_arcs wps wt.arcs _ is.arcs (refl, others))))

pub are_shallow : (net : Weighted) → IsWeighted net → IsShallow between (net_tokens net)
are_shallow net good = (
  refl,
  (
    refl,
    (
      refl,
      shallow_places net.places _
          (shallow_transitions net.places net.transitions _ good.transitions (refl, tt)),
    ),
  ),
)
