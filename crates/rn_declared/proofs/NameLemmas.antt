-- Names that are declared one after another.
use Rattle.std.proofs.Common.{◌≡◌, ℕ, suc, ◌+◌, ◌<◌, Bool, true, false, cond, ◌||◌, List, [], ◌∷◌, ◌++◌}
use Rattle.std.proofs.Common.{length, map, take, drop, get_or, refl, sym, ap, ◌∙◌, Option, Some, None, arith}
use Rattle.std.proofs.Common.{add-one, drop-cons, zero-add}
use Rattle.std.proofs.lemmas.List.{length-take-le}
use Rattle.std.proofs.lemmas.List.{take_more, map-append, length-map}
use Rattle.std.specs.Prelude.{is_some, ◌≤◌}
use Rattle.std.proofs.lemmas.List.{drop_all}
use Rattle.std.specs.List.{list_any}
use Rattle.rn_inscript.specs.declared.inscriptions.PName.{PName}
use Rattle.rn_declared.specs.declared.fault.Fault.{Fault}
use Rattle.rn_declared.specs.Faults.{first_from, past_limit}
use Rattle.rn_declared.specs.Names.{same_name, number_from, number_among, names_faults, name_faults, declared_faults}
use Rattle.rn_declared.specs.link.Tables.{or_number, with_name, name_told}
use Rattle.rn_declared.proofs.ToldLemmas.{first_from-append}

-- one more name
pub push : (n : ℕ) (before : List (List ℕ)) (name other : List ℕ) →
    number_from n (before ++ name ∷ []) other
    ≡ or_number (number_from n before other) (same_name name other) (n + length before)
push n [] name other = ap (λ m. cond (same_name name other) (Some m) None) (omega arith)
push n (x ∷ before) name other = by (push (n + 1) before name other) (same_name x other)
  where
    by : (number_from (n + 1) (before ++ name ∷ []) other
        ≡ or_number (number_from (n + 1) before other) (same_name name other) (n + 1 + length before)) → (b : Bool) →
        cond b (Some n) (number_from (n + 1) (before ++ name ∷ []) other)
        ≡ or_number (cond b (Some n) (number_from (n + 1) before other)) (same_name name other) (n + length (x ∷ before))
    by next true = refl
    by next false =
        next
        ∙ ap (or_number (number_from (n + 1) before other) (same_name name other)) (omega arith)

-- a name has a number exactly where it was declared
there : (n : ℕ) (before : List (List ℕ)) (name : List ℕ) →
    is_some (number_from n before name) ≡ list_any (λ declared. same_name declared name) before
there n [] name = refl
there n (x ∷ before) name = by (there (n + 1) before name) (same_name x name)
  where
    by : (is_some (number_from (n + 1) before name)
        ≡ list_any (λ declared. same_name declared name) before) → (b : Bool) →
        is_some (cond b (Some n) (number_from (n + 1) before name))
        ≡ (b || list_any (λ declared. same_name declared name) before)
    by next true = refl
    by next false = next

abbrev pub texts : List PName → List (List ℕ)
texts names = map (λ n. n.text) names

-- the table of the names so far, and one more
pub found_more : (names : List PName) (i : ℕ) (x : PName) (found more : List ℕ → Option ℕ) →
    i < length names → x ≡ get_or names i x →
    ((name : List ℕ) → found name ≡ number_among (texts (take i names)) name) →
    ((name : List ℕ) → more name ≡ with_name found x.text i name) →
    (name : List ℕ) → more name ≡ number_among (texts (take (i + 1) names)) name
found_more names i x found more h is old step name =
    let before : List (List ℕ) = texts (take i names) in
    let count : length before ≡ i = length-map (take i names) (λ n. n.text) ∙ length-take-le i names (omega arith) in
    let all : texts (take (i + 1) names) ≡ before ++ x.text ∷ [] =
    ap texts (take_more names i x h ∙ ap (λ y. take i names ++ y ∷ []) (sym is))
    ∙ map-append (λ n. n.text) (take i names) (x ∷ []) in
    step name
    ∙ ap (λ o. or_number o (same_name x.text name) i) (old name)
    ∙ ap (or_number (number_among before name) (same_name x.text name)) (sym count)
    ∙ sym (push 0 before x.text name ∙ ap (or_number (number_among before name) (same_name x.text name)) (zero-add (length before)))
    ∙ ap (λ ns. number_among ns name) (sym all)

-- what is reported of the next name, and of those that are left
pub names_told_more : (names : List PName) (i : ℕ) (x : PName) (found : List ℕ → Option ℕ)
    (known : Option Fault) → i < length names → x ≡ get_or names i x →
    ((name : List ℕ) → found name ≡ number_among (texts (take i names)) name) →
    first_from (first_from known (name_told (is_some (found x.text)) x))
    (names_faults (texts (take (i + 1) names)) (drop (i + 1) names))
    ≡ first_from known (names_faults (texts (take i names)) (drop i names))
names_told_more names i x found known h is old =
    let before : List (List ℕ) = texts (take i names) in
    let all : texts (take (i + 1) names) ≡ before ++ x.text ∷ [] =
    ap texts (take_more names i x h ∙ ap (λ y. take i names ++ y ∷ []) (sym is))
    ∙ map-append (λ n. n.text) (take i names) (x ∷ []) in
    let rest : drop i names ≡ x ∷ drop (i + 1) names =
    drop-cons names i x h ∙ ap (λ y. y ∷ drop (suc i) names) (sym is) ∙ ap (λ n. x ∷ drop n names) (sym (add-one i)) in
    let again : is_some (found x.text) ≡ list_any (λ declared. same_name declared x.text) before =
    ap is_some (old x.text) ∙ there 0 before x.text in
    ap (λ b. first_from (first_from known (name_told b x)) (names_faults (texts (take (i + 1) names)) (drop (i + 1) names))) again
    ∙ ap (λ ns. first_from (first_from known (name_faults before x)) (names_faults ns (drop (i + 1) names))) all
    ∙ sym (first_from-append (name_faults before x) (names_faults (before ++ x.text ∷ []) (drop (i + 1) names)) known)
    ∙ ap (λ ns. first_from known (names_faults before ns)) (sym rest)

pub length_names : {X : Type 0} (f : X → PName) (xs : List X) (i : ℕ) → i < length xs →
    i < length (map f xs)
length_names f xs i h = omega (arith, length-map xs f)

-- at the end of all names only the limit is left
pub names_told_all : (names : List PName) (n most : ℕ) (known now : Option Fault) → length names ≤ n →
    first_from now (names_faults (texts (take n names)) (drop n names))
    ≡ first_from known (names_faults [] names) →
    first_from now (past_limit most (map (λ name. name.spot) names))
    ≡ first_from known (declared_faults most names)
names_told_all names n most known now h told =
    let past : List Fault = past_limit most (map (λ name. name.spot) names) in
    let nothing : drop n names ≡ [] = drop_all n names h in
    ap (λ k. first_from k past)
    (sym (ap (λ ns. first_from now (names_faults (texts (take n names)) ns)) nothing) ∙ told)
    ∙ sym (first_from-append (names_faults [] names) past known)
