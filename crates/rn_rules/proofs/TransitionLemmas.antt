-- Inscriptions of a transition, one after another.
use Rattle.std.proofs.Common.{◌≡◌, ℕ, suc, ◌+◌, ◌<◌, Bool, false, ◌||◌, List, [], ◌∷◌, ◌++◌}
use Rattle.std.proofs.Common.{length, map, take, drop, get_or, refl, sym, ap, ◌∙◌, Option}
use Rattle.std.proofs.Common.{add-one, drop-cons, append-nil, zero-add}
use Rattle.std.proofs.lemmas.List.{take_more}
use Rattle.std.proofs.lemmas.Grind.{flat_map-append}
use Rattle.rn_model.specs.Limits.{most_inscriptions}
use Rattle.rn_inscript.specs.declared.exprs.PExpr.{PExpr}
use Rattle.rn_inscript.specs.declared.inscriptions.PName.{PName}
use Rattle.rn_inscript.specs.declared.inscriptions.PInscribed.{PInscribed}
use Rattle.rn_inscript.specs.declared.inscriptions.PInscribed.TheVariants as I
use Rattle.rn_inscript.specs.declared.inscriptions.PInscription.{PInscription}
use Rattle.rn_declared.specs.declared.fault.Fault.{Fault}
use Rattle.rn_declared.specs.Faults.{first_from, past_limit}
use Rattle.rn_declared.specs.Names.{number_among, same_name}
use Rattle.rn_declared.specs.link.Tables.{or_number, with_name}
use Rattle.rn_rules.specs.Actions.{set_name, set_names}
use Rattle.rn_rules.specs.Transitions.{Scope, Progress, is_uplink, inscription_faults, inscriptions_faults}
use Rattle.rn_declared.proofs.NameLemmas.{push}
use Rattle.rn_declared.proofs.ToldLemmas.{first_from-append}

-- what is reported of the next inscription, and of those that are left
pub inscriptions_told_more : (s : Scope) (p : Progress) (is : List PInscription) (i : ℕ) (x : PInscription)
    (sets : ℕ) (up : Bool) (known now : Option Fault) → i < length is → x ≡ get_or is i x →
    sets ≡ length (set_name x.form) → up ≡ is_uplink x.form →
    now ≡ first_from known (inscription_faults s p x x.form) →
    first_from now
    (inscriptions_faults s
    (record { setter = p.setter; past = p.past + sets; sets = p.sets; called = p.called || up })
    (drop (i + 1) is))
    ≡ first_from known (inscriptions_faults s p (drop i is))
inscriptions_told_more s p is i x sets up known now h at count uplink told =
    let next : ℕ → Bool → Progress =
    λ n b. record { setter = p.setter; past = p.past + n; sets = p.sets; called = p.called || b } in
    let left : List PInscription = drop (i + 1) is in
    let rest : drop i is ≡ x ∷ left =
    drop-cons is i x h ∙ ap (λ y. y ∷ drop (suc i) is) (sym at) ∙ ap (λ n. x ∷ drop n is) (sym (add-one i)) in
    let own : List Fault = inscription_faults s p x x.form in
    ap (λ k. first_from k (inscriptions_faults s (next sets up) left)) told
    ∙ ap (λ n. first_from (first_from known own) (inscriptions_faults s (next n up) left)) count
    ∙ ap (λ b. first_from (first_from known own) (inscriptions_faults s (next (length (set_name x.form)) b) left)) uplink
    ∙ sym (first_from-append own (inscriptions_faults s (next (length (set_name x.form)) (is_uplink x.form)) left) known)
    ∙ ap (λ xs. first_from known (inscriptions_faults s p xs)) (sym rest)

-- the variables that are set in the next inscription, too
pub set_names_more : (is : List PInscription) (i : ℕ) (x : PInscription) → i < length is →
    x ≡ get_or is i x → set_names (take (i + 1) is) ≡ set_names (take i is) ++ set_name x.form
set_names_more is i x h at =
    ap set_names (take_more is i x h ∙ ap (λ y. take i is ++ y ∷ []) (sym at))
    ∙ flat_map-append (λ y. set_name y.form) (take i is) (x ∷ [])
    ∙ ap (λ names. set_names (take i is) ++ names) (append-nil (set_name x.form))

-- an inscription of another form than an action sets none
pub sets_none : (form : PInscribed) → ((var : PName) (value : PExpr) → form ≡ I.Set var value → ⊥) →
    set_name form ≡ []
sets_none (I.Set var value) other = absurd (other var value refl)
sets_none (I.Arc kind place e) other = refl
sets_none (I.Guard cond) other = refl
sets_none (I.Print e) other = refl
sets_none (I.Uplink channel args) other = refl
sets_none (I.New var net) other = refl
sets_none (I.Downlink target channel args) other = refl
sets_none (I.Equality a b) other = refl

-- the table of the actions so far, and one more
pub setters_more : (names all : List (List ℕ)) (name : List ℕ) (count : ℕ) (found more : List ℕ → Option ℕ) →
    count ≡ length names → all ≡ names ++ name ∷ [] →
    ((other : List ℕ) → found other ≡ number_among names other) →
    ((other : List ℕ) → more other ≡ with_name found name count other) →
    (other : List ℕ) → more other ≡ number_among all other
setters_more names all name count found more size is old step other =
    step other
    ∙ ap (λ o. or_number o (same_name name other) count) (old other)
    ∙ ap (or_number (number_among names other) (same_name name other)) (size ∙ sym (zero-add (length names)))
    ∙ sym (push 0 names name other)
    ∙ ap (λ ns. number_among ns other) (sym is)

-- where the table finds the numbers of the actions, it stands where the first inscription does
pub transition_told : (s : Scope) (is : List PInscription) (found : List ℕ → Option ℕ) (count : ℕ)
    (known now : Option Fault) →
    ((name : List ℕ) → found name ≡ number_among (set_names is) name) →
    count ≡ length (set_names is) →
    now ≡ first_from known (inscriptions_faults s (record { setter = found; past = 0; sets = count; called = false }) is) →
    first_from now (past_limit most_inscriptions (map (λ i. i.spot) is))
    ≡ first_from known
    (inscriptions_faults s
    (record { setter = number_among (set_names is); past = 0; sets = length (set_names is); called = false }) is
    ++ past_limit most_inscriptions (map (λ i. i.spot) is))
transition_told s is found count known now finds counts told =
    let at : (List ℕ → Option ℕ) → ℕ → Progress =
    λ f n. record { setter = f; past = 0; sets = n; called = false } in
    let past : List Fault = past_limit most_inscriptions (map (λ i. i.spot) is) in
    let same : found ≡ number_among (set_names is) = λ j name. finds name j in
    ap (λ k. first_from k past) told
    ∙ ap (λ f. first_from (first_from known (inscriptions_faults s (at f count) is)) past) same
    ∙ ap (λ n. first_from (first_from known (inscriptions_faults s (at (number_among (set_names is)) n) is)) past) counts
    ∙ sym (first_from-append (inscriptions_faults s (at (number_among (set_names is)) (length (set_names is))) is) past known)
