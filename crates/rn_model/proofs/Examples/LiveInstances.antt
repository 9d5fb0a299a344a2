-- A marking in which one instance is live by its net, one by a token of a live one, and one isn't.
use Rattle.std.proofs.Common.{◌≡◌, ℕ, zero, suc, ◌<◌, ◌⊎◌, Bool, true, false, [], ◌∷◌, length, refl, sym, ap, ◌∙◌, subst, inl, inr, arith}
use Rattle.std.specs.Prelude.{◌≢◌, Some, None, All, Contains, IsTrue, codes, nat_eq}
use Rattle.std.specs.List.{AllAdjacentBelow}
use Rattle.std.specs.List.Sorted.{IsSorted, IsStrictlyIncreasing}
use Rattle.std.proofs.lemmas.List.Elements.{All-nil, All-cons}
use Rattle.std.proofs.Math.Dec.{T, eqb→eq}
use Rattle.std.proofs.lemmas.Option.{same_Some}
use Rattle.rn_value.specs.Order.{value_cmp}
use Rattle.rn_value.specs.declared.value.InstRef.TheVariants.{Old}
use Rattle.rn_value.specs.declared.value.Kind.TheVariants as Kind
use Rattle.rn_value.specs.declared.value.Value.{Value, fold_out-Value}
use Rattle.rn_value.specs.declared.value.Value.TheVariants as Value
use Rattle.rn_model.specs.declared.system.System.{System}
use Rattle.rn_model.specs.declared.log.MarkLine.{MarkLine}
use Rattle.rn_model.specs.Systems.{empty_transition, net_at, may_start}
use Rattle.rn_model.specs.Markings.{Marking, Instance, IsMarking, IsThere, instance_at, net_of, tokens_at}
use Rattle.rn_model.specs.Liveness.{IsLive, starts, held, mentions, mentions_step, ComesBefore, IsMarkOf, LivePart, Stands}
use Rattle.rn_model.proofs.Examples.ExampleSystems.{int, place_of}
use Rattle.rn_model.proofs.EnablingLemmas.{not_in_nil, the_one}

-- `main` has a transition that starts firings, and the one of `w` waits for a call
abbrev sys : System
sys = record {
  nets =
      record { name = codes "main"; vars = []; places = place_of Kind.Net [] ∷ []; transitions = empty_transition ∷ [] }
      ∷ record { name = codes "w"; vars = []; places = place_of Kind.Int [] ∷ []; transitions = record empty_transition { uplink = Some (record { channel = 0; args = [] }) } ∷ [] }
      ∷ [];
  channels = record { name = codes "c"; kinds = [] } ∷ [];
}

abbrev to_second : Value
to_second = Value.Inst (Old 2)

abbrev main : Instance
main = record { number = 1; net = 0; places = (to_second ∷ []) ∷ [] }

abbrev named : Instance
named = record { number = 2; net = 1; places = (int 0 ∷ []) ∷ [] }

abbrev lost : Instance
lost = record { number = 3; net = 1; places = (int 7 ∷ []) ∷ [] }

abbrev m : Marking
m = record { next = 4; instances = main ∷ named ∷ lost ∷ [] }

mentions-Inst : (k n : ℕ) → mentions (Value.Inst (Old k)) n ≡ nat_eq k n
mentions-Inst k n = ap (λ f. f n) (fold_out-Value (ℕ → Bool) mentions_step (Value.Inst (Old k))) ∙ rw (Value.outs-Inst (Old k))

mentions-int : (k n : ℕ) → mentions (int k) n ≡ false
mentions-int k n = ap (λ f. f n) (fold_out-Value (ℕ → Bool) mentions_step (int k)) ∙ simp (Value.outs-Int)

-- live by its net
main_lives : IsLive sys m 1
main_lives = starts {net = 0} refl refl

-- live by a token of a live one
named_lives : IsLive sys m 2
named_lives = held 0 main_lives (0, omega arith, refl) (mentions-Inst 2 2) (named, refl)

same_number : (k n : ℕ) → nat_eq k n ≡ true → n ≡ k
same_number k n e = sym (eqb→eq k n (subst T (sym e) tt))

abbrev IsOneOfTwo : ℕ → Type 0
IsOneOfTwo n = (n ≡ 1) ⊎ (n ≡ 2)

-- an instance of a net with a transition without uplink is the first
by_net : (n net : ℕ) (one two three : Bool) → nat_eq 1 n ≡ one → nat_eq 2 n ≡ two → nat_eq 3 n ≡ three → net_of m n ≡ Some net → IsTrue (may_start sys net) → IsOneOfTwo n
by_net n net true two three a b c there may = inl (same_number 1 n a)
by_net n net false true three a b c there may = inr (same_number 2 n b)
by_net n net false false true a b c there may =
    let at_three : net_of m 3 ≡ Some net = subst (λ k. net_of m k ≡ Some net) (same_number 3 n c) there in
    let waits : IsTrue (may_start sys 1) = subst (λ k. IsTrue (may_start sys k)) (sym (same_Some 1 net at_three)) may in
    let no : ⊥ = cc in absurd no
by_net n net false false false a b c there may = let none : None ≡ Some net = rw (a, b, c) at there in let no : ⊥ = cc in absurd no

-- what a token of the first names is the second
by_main : (n place : ℕ) (token : Value) → Contains (tokens_at m 1 place) token → IsTrue (mentions token n) → IsOneOfTwo n
by_main n zero token there names =
    let is : to_second ≡ token = the_one to_second token there in
    let equal : nat_eq 2 n ≡ true = sym (mentions-Inst 2 n) ∙ subst (λ v. IsTrue (mentions v n)) (sym is) names in
    inr (same_number 2 n equal)
by_main n (suc place) token there names = absurd (not_in_nil token there)

-- a number names none
by_named : (n place : ℕ) (token : Value) → Contains (tokens_at m 2 place) token → IsTrue (mentions token n) → IsOneOfTwo n
by_named n zero token there names =
    let is : int 0 ≡ token = the_one (int 0) token there in
    let at_number : true ≡ false = sym (subst (λ v. IsTrue (mentions v n)) (sym is) names) ∙ mentions-int 0 n in
    let no : ⊥ = cc in absurd no
by_named n (suc place) token there names = absurd (not_in_nil token there)

by_holder : (n holder place : ℕ) (token : Value) → IsOneOfTwo holder → Contains (tokens_at m holder place) token → IsTrue (mentions token n) → IsOneOfTwo n
by_holder n holder place token (inl first) there names = by_main n place token (subst (λ h. Contains (tokens_at m h place) token) first there) names
by_holder n holder place token (inr second) there names = by_named n place token (subst (λ h. Contains (tokens_at m h place) token) second there) names

only_two : (n : ℕ) → IsLive sys m n → IsOneOfTwo n
only_two n (starts {net = net} there may) = by_net n net (nat_eq 1 n) (nat_eq 2 n) (nat_eq 3 n) refl refl refl there may
only_two n (held {holder = holder} {token = token} place live there names is) = by_holder n holder place token (only_two holder live) there names

-- the third isn't live: no token of a live one names it
lost_is_dead : ¬ IsLive sys m 3
lost_is_dead live = elim (only_two 3 live) as (λ _. ⊥) [ inl e ↦ (let no : ⊥ = omega (arith, e) in no) | inr e ↦ (let no : ⊥ = omega (arith, e) in no) ]

abbrev first_line : MarkLine
first_line = record { inst = 1; net = 0; place = 0; values = to_second ∷ [] }

abbrev second_line : MarkLine
second_line = record { inst = 2; net = 1; place = 0; values = int 0 ∷ [] }

abbrev third_line : MarkLine
third_line = record { inst = 3; net = 1; place = 0; values = int 7 ∷ [] }

ascending : AllAdjacentBelow ComesBefore (first_line ∷ second_line ∷ []) 2
ascending zero d h = inl (omega arith)
ascending (suc k) d h = let no : ⊥ = omega (arith, h) in absurd no

not_empty : (v : Value) → v ∷ [] ≢ []
not_empty v e = let no : ⊥ = cc in no

first_is_mark : IsMarkOf sys m first_line
first_is_mark = record { live = main_lives; net = refl; values = refl; any = not_empty to_second }

second_is_mark : IsMarkOf sys m second_line
second_is_mark = record { live = named_lives; net = refl; values = refl; any = not_empty (int 0) }

abbrev HasLine : ℕ → ℕ → Type 0
HasLine n place = (line : MarkLine) × Contains (first_line ∷ second_line ∷ []) line × (line.inst ≡ n) × (line.place ≡ place)

line_of_first : (place : ℕ) → tokens_at m 1 place ≢ [] → HasLine 1 place
line_of_first zero any = (first_line, (0, omega arith, refl), refl, refl)
line_of_first (suc place) any = absurd (any refl)

line_of_second : (place : ℕ) → tokens_at m 2 place ≢ [] → HasLine 2 place
line_of_second zero any = (second_line, (1, omega arith, refl), refl, refl)
line_of_second (suc place) any = absurd (any refl)

line_of : (n place : ℕ) → IsOneOfTwo n → tokens_at m n place ≢ [] → HasLine n place
line_of n place (inl first) any = subst (λ k. HasLine k place) (sym first) (line_of_first place (subst (λ k. tokens_at m k place ≢ []) first any))
line_of n place (inr second) any = subst (λ k. HasLine k place) (sym second) (line_of_second place (subst (λ k. tokens_at m k place ≢ []) second any))

-- the marks are the tokens of the two live ones
live_part : LivePart sys m (first_line ∷ second_line ∷ [])
live_part = record {
  ascending = ascending;
  each = All-cons (IsMarkOf sys m) first_line (second_line ∷ []) first_is_mark (All-cons (IsMarkOf sys m) second_line [] second_is_mark (All-nil (IsMarkOf sys m)));
  all = λ n place live any. line_of n place (only_two n live) any;
}

-- a line of the third is none of them
no_line_of_lost : ¬ LivePart sys m (first_line ∷ second_line ∷ third_line ∷ [])
no_line_of_lost marks = lost_is_dead (marks.each 2 third_line (omega arith)).live

-- and none may lack
no_line_lacks : ¬ LivePart sys m (first_line ∷ [])
no_line_lacks marks =
    let line = marks.all 2 0 named_lives (not_empty (int 0)) in
    let is : first_line ≡ line.0 = the_one first_line line.0 line.1 in
    let one_is_two : 1 ≡ 2 = ap (λ l. l.inst) is ∙ line.2 in
    let no : ⊥ = omega (arith, one_is_two) in no

-- a table without the third stands for the marking
abbrev kept : Marking
kept = record { next = 4; instances = main ∷ named ∷ [] }

numbers_ascend : IsStrictlyIncreasing (1 ∷ 2 ∷ [])
numbers_ascend zero h = omega arith
numbers_ascend (suc k) h = let no : ⊥ = omega (arith, h) in absurd no

one_is_sorted : (v : Value) → IsSorted value_cmp (v ∷ [])
one_is_sorted v = λ k d low high. let no : ⊥ = omega (arith, high) in absurd no

abbrev HasSortedPlaces : Instance → Type 0
HasSortedPlaces i = All (λ vs. IsSorted value_cmp vs) i.places

abbrev IsNumbered : Instance → Type 0
IsNumbered i = (0 < i.number) × (i.number < 4)

abbrev HasItsPlaces : Instance → Type 0
HasItsPlaces i = (i.net < 2) × (length i.places ≡ length (net_at sys i.net).places)

of_two : (P : Instance → Type 0) → P main → P named → All P (main ∷ named ∷ [])
of_two P first second = All-cons P main (named ∷ []) first (All-cons P named [] second (All-nil P))

kept_is_marking : IsMarking sys kept
kept_is_marking = record {
  ascending = numbers_ascend;
  numbered = of_two IsNumbered (omega arith, omega arith) (omega arith, omega arith);
  placed = of_two HasItsPlaces (omega arith, refl) (omega arith, refl);
  sorted = of_two HasSortedPlaces (All-cons (λ vs. IsSorted value_cmp vs) (to_second ∷ []) [] (one_is_sorted to_second) (All-nil _))
      (All-cons (λ vs. IsSorted value_cmp vs) (int 0 ∷ []) [] (one_is_sorted (int 0)) (All-nil _));
}

kept_there : (n : ℕ) → IsOneOfTwo n → IsThere kept n
kept_there n (inl first) = subst (IsThere kept) (sym first) (main, refl)
kept_there n (inr second) = subst (IsThere kept) (sym second) (named, refl)

stands : Stands sys kept m
stands = record {
  form = kept_is_marking;
  next = refl;
  kept = of_two (λ i. instance_at m i.number ≡ Some i) refl refl;
  live = λ n live. kept_there n (only_two n live);
}

-- without a live one it doesn't,
no_live_one_lacks : ¬ Stands sys (record { next = 4; instances = main ∷ [] }) m
no_live_one_lacks s = let there = s.live 2 named_lives in let no : ⊥ = cc there.1 in no

-- nor with another next number
same_next : ¬ Stands sys (record { next = 3; instances = main ∷ named ∷ [] }) m
same_next s = let no : ⊥ = omega (arith, s.next) in no
