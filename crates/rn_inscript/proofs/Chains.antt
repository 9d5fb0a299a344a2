-- Phrases between which signs of one sort stand, the first phrase having been taken: sums, products,
-- lists of expressions, and conditions.
use Rattle.rn_inscript.proofs.Names.{◌≡◌, ℕ, ◌+◌, ◌<◌, ◌≤◌, ◌⊎◌, inl, inr, false, List, [], ◌∷◌, length, drop, refl, sym, ◌∙◌, ap, subst, arith, Option, Some, None, Token, TokenKind, Level, Count, without_minuses, goes_too_far, after_token, Seen, ReadFault, Phrases, Then, Done, BeginAlike, CanEnd, IsNextOne, IsNotNext, Ends, Stage, Fails, IsSoFar, strength, ready, ended, alike-cons}
use Rattle.rn_reading.specs.declared.fault.ReadFault.TheVariants as Fault
use Rattle.rn_inscript.proofs.StageLemmas.{begin, change, inner_fails, inner_read, weaker}
use Rattle.rn_inscript.proofs.CountSteps.{IsBinary, binary-small, binary-after, binary-far}
use Rattle.rn_inscript.proofs.Passing.{pass, far_next}

-- what goes on with a sign of the sort
abbrev pub Goes : {A B S : Type 0} → (Item : Phrases B) (sort : TokenKind → Option S) (add : S → A → B → A) (Tail : A → Phrases A) → A → Phrases A
Goes Item sort add Tail a ts e rest =
    (t : Token) × (us : List Token) × (sign : _) × (ts ≡ t ∷ us) × (sort t.kind ≡ Some sign) × Then Item (λ b. Tail (add sign a b)) us e rest

pub record Chain {A B S : Type 0} (n : ℕ) (Item : Phrases B) (sort : TokenKind → Option S) (add : S → A → B → A) (Tail : A → Phrases A) : Type 0 where
  pub nothing : (a : A) (ts : List Token) → Tail a ts a ts
  pub on : {t : Token} {us mid rest : List Token} {sign : S} {a e : A} {b : B} → sort t.kind ≡ Some sign →
      Item us b mid → Tail (add sign a b) mid e rest → Tail a (t ∷ us) e rest
  pub split : {ts rest : List Token} {a e : A} → Tail a ts e rest →
      ((e ≡ a) × (rest ≡ ts)) ⊎ Goes Item sort add Tail a ts e rest
  pub binds : (kind : TokenKind) (sign : S) → sort kind ≡ Some sign → strength kind ≡ n

-- what follows an item doesn't go on with it
pub chain_follow : {A B S : Type 0} {n : ℕ} {Item : Phrases B} {sort : TokenKind → Option S} {add : S → A → B → A} {Tail : A → Phrases A} →
    Chain n Item sort add Tail → (a : A) (ts : List Token) (e : A) (rest : List Token) → Ends n rest → Tail a ts e rest → Ends (n + 1) ts
chain_follow {n = n} c a ts e rest ends x = elim (c.split x) as (λ w. Ends (n + 1) ts) [
  | inl d ↦ subst (Ends (n + 1)) d.1 (weaker n (n + 1) rest (omega arith) ends)
  | inr g ↦ subst (Ends (n + 1)) (sym g.3) (let is : strength g.0.kind ≡ n = c.binds g.0.kind g.2 g.4 in omega (arith, is))
]

-- an item that no sign of the sort follows is the whole chain
pub one-item : {A B S : Type 0} {n : ℕ} {Item : Phrases B} {sort : TokenKind → Option S} {add : S → A → B → A} {Tail : A → Phrases A} {u : Token} {mid us rest : List Token} {a e : A} →
    Chain n Item sort add Tail → mid ≡ u ∷ us → sort u.kind ≡ None → Tail a mid e rest → rest ≡ u ∷ us
one-item {sort = sort} {u = u} c is none x = elim (c.split x) [
  | inl d ↦ d.1 ∙ is
  | inr g ↦ absurd (let same : g.0 ≡ u = let a = g.3 in cc in let yes : sort u.kind ≡ Some g.2 = ap (λ v. sort v.kind) (sym same) ∙ g.4 in cc)
]

pub chain_can_end : {A B S : Type 0} {n : ℕ} {Item : Phrases B} {sort : TokenKind → Option S} {add : S → A → B → A} {Tail : A → Phrases A} →
    Chain n Item sort add Tail → (a : A) → CanEnd (Tail a)
chain_can_end c a = ([], a, λ rest. c.nothing a rest)

-- an item can end what goes on with a sign
pub chain_on_can_end : {A B S : Type 0} {n : ℕ} {Item : Phrases B} {sort : TokenKind → Option S} {add : S → A → B → A} {Tail : A → Phrases A} {t : Token} {sign : S} →
    Chain n Item sort add Tail → CanEnd Item → sort t.kind ≡ Some sign → (a : A) → CanEnd (λ ts. Tail a (t ∷ ts))
chain_on_can_end c item is a = (item.0, _, λ rest. c.on is (item.2 rest) (c.nothing _ rest))

-- a sign of the sort was taken
pub chain_on : {A B S : Type 0} {n : ℕ} {Item : Phrases B} {sort : TokenKind → Option S} {add : S → A → B → A} {Tail : A → Phrases A} {X : Phrases A} {start left : List Token} {first now : Count} {t : Token} {sign : S} {a : A} →
    Chain n Item sort add Tail → sort t.kind ≡ Some sign →
    Stage n X start first (λ ts. Tail a (t ∷ ts)) left now →
    Stage n X start first (Then Item (λ b. Tail (add sign a b))) left now
chain_on {n = n} {Item = Item} {add = add} {Tail = Tail} {t = t} {sign = sign} {a = a} c is s = change (Then Item (λ b. Tail (add sign a b))) s
    (λ ts e rest y. c.on is y.2 y.3)
    (λ ts e rest alike ends x. elim (c.split x) as (λ w. Then Item (λ b. Tail (add sign a b)) ts e rest) [
      | inl d ↦ absurd (let small : Ends n (t ∷ ts) = subst (Ends n) d.1 ends in let equal : strength t.kind ≡ n = c.binds t.kind sign is in omega (arith, small, equal))
      | inr g ↦ subst (λ us. Then Item (λ b. Tail (add sign a b)) us e rest) (let h : g.1 ≡ ts = let e = g.3 in cc in h) (subst (λ x. Then Item (λ b. Tail (add x a b)) g.1 e rest) (let h : g.2 ≡ sign = let e = g.3 in let f = g.4 in cc in h) g.5)
    ])

-- no sign of the sort is next
pub chain_done : {A B S : Type 0} {n : ℕ} {Item : Phrases B} {sort : TokenKind → Option S} {add : S → A → B → A} {Tail : A → Phrases A} {X : Phrases A} {start left : List Token} {first now : Count} {a : A} →
    Chain n Item sort add Tail → ((t : Token) (others : List Token) → left ≡ t ∷ others → sort t.kind ≡ None) →
    Stage n X start first (Tail a) left now → Stage n X start first (Done a) left now
chain_done {Tail = Tail} {left = left} {a = a} c none s = change (Done a) s
    (λ ts e rest d. subst (λ b. Tail a ts b rest) (sym d.0) (subst (λ us. Tail a ts a us) (sym d.1) (c.nothing a ts)))
    (λ ts e rest alike ends x. elim (c.split x) as (λ w. Done a ts e rest) [
      | inl d ↦ d
      | inr g ↦ let next = alike-cons left g.0 g.1 (subst (λ us. BeginAlike left us) g.3 alike) in
          absurd (let no = none g.0 next.0 next.1 in let yes = g.4 in cc)
    ])

-- a phrase that is a chain
pub record Joined {A B S : Type 0} (n : ℕ) (X : Phrases A) (Item : Phrases B) (sort : TokenKind → Option S) (add : S → A → B → A) (Tail : A → Phrases A) (one : B → A) : Type 0 where
  pub chain : Chain n Item sort add Tail
  pub join : {ts mid rest : List Token} {b : B} {e : A} → Item ts b mid → Tail (one b) mid e rest → X ts e rest
  pub part : {ts rest : List Token} {e : A} → X ts e rest → Then Item (λ b. Tail (one b)) ts e rest
  pub item : CanEnd Item

pub joined_begins : {A B S : Type 0} {n : ℕ} {X : Phrases A} {Item : Phrases B} {sort : TokenKind → Option S} {add : S → A → B → A} {Tail : A → Phrases A} {one : B → A} →
    Joined n X Item sort add Tail one → (start : List Token) (first : Count) → Stage n X start first (Then Item (λ b. Tail (one b))) start first
joined_begins {n = n} {X = X} {Item = Item} {Tail = Tail} {one = one} j start first = change (Then Item (λ b. Tail (one b))) (begin n X start first)
    (λ ts e rest y. j.join y.2 y.3) (λ ts e rest alike ends x. j.part x)

pub first_fails : {A B S : Type 0} {n : ℕ} {X : Phrases A} {Item : Phrases B} {sort : TokenKind → Option S} {add : S → A → B → A} {Tail : A → Phrases A} {one : B → A} →
    Joined n X Item sort add Tail one → (start : List Token) (first : Count) (total : ℕ) (e : ReadFault) →
    Fails (n + 1) Item start first total e → Fails n X start first total e
first_fails j start first total e f = inner_fails total e (joined_begins j start first) (λ b. chain_follow j.chain _) (λ b. chain_can_end j.chain _) f

pub first_read : {A B S : Type 0} {n : ℕ} {X : Phrases A} {Item : Phrases B} {sort : TokenKind → Option S} {add : S → A → B → A} {Tail : A → Phrases A} {one : B → A} →
    Joined n X Item sort add Tail one → {tokens : List Token} {before after : Seen} {first : Count} {around : List Level} {b : B} →
    IsSoFar (n + 1) Item tokens before first around (Done b) after → IsSoFar n X tokens before first around (Tail (one b)) after
first_read {Tail = Tail} {one = one} j {tokens = tokens} {before = before} {first = first} s = inner_read (λ b. Tail (one b)) (joined_begins j (drop before.at tokens) first) (λ b. chain_follow j.chain _) s

-- what the sign between two items does to the count
abbrev pub Separates : {S : Type 0} → (TokenKind → Option S) → List Level → ℕ → ℕ → Type 0
Separates {S = S} sort around operators after = (kind : TokenKind) (sign : S) (levels : List Level) → sort kind ≡ Some sign → without_minuses levels ≡ around →
    (goes_too_far (ended levels operators) kind ≡ false) × (after_token (ended levels operators) kind ≡ ready around after)

pub sign_taken : {A B S : Type 0} {n : ℕ} {X : Phrases A} {Item : Phrases B} {sort : TokenKind → Option S} {add : S → A → B → A} {Tail : A → Phrases A} {one : B → A} →
    Joined n X Item sort add Tail one → {tokens : List Token} {before now : Seen} {first : Count} {around : List Level} {a : A} {sign : S} (after : ℕ) (then : Seen) →
    IsSoFar n X tokens before first around (Tail a) now → without_minuses around ≡ around → IsNextOne (λ t. sort t.kind) tokens now.at sign → Separates sort around now.operators after →
    then ≡ record { at = now.at + 1; operators = after } →
    Stage n X (drop before.at tokens) first (Then Item (λ b. Tail (add sign a b))) (drop then.at tokens) (ready around then.operators)
sign_taken {n = n} {X = X} {Item = Item} {add = add} {Tail = Tail} j {tokens = tokens} {before = before} {now = now} {first = first} {around = around} {a = a} {sign = sign} after then s base next separates is =
    let both = separates next.0.kind sign s.open_now next.2 (s.closed ∙ base) in
    rw is (chain_on j.chain next.2 (pass tokens now.at next.0.kind (ready around after) s.stage next.1 refl both.0 both.1))

pub operator_separates : {S : Type 0} {sort : TokenKind → Option S} {around : List Level} {operators : ℕ} → ((kind : TokenKind) (sign : S) → sort kind ≡ Some sign → IsBinary kind) → operators < 256 → Separates sort around operators (operators + 1)
operator_separates {operators = operators} binary few = λ kind sign levels is here. (binary-small levels operators (binary kind sign is) few, binary-after levels operators (binary kind sign is) here)

pub sign_far : {A B S : Type 0} {n : ℕ} {X : Phrases A} {Item : Phrases B} {sort : TokenKind → Option S} {add : S → A → B → A} {Tail : A → Phrases A} {one : B → A} →
    Joined n X Item sort add Tail one → {tokens : List Token} {before now : Seen} {first : Count} {around : List Level} {a : A} {sign : S} →
    IsSoFar n X tokens before first around (Tail a) now → IsNextOne (λ t. sort t.kind) tokens now.at sign →
    ((kind : TokenKind) (sign : S) → sort kind ≡ Some sign → IsBinary kind) → 256 ≤ now.operators →
    Fails n X (drop before.at tokens) first (length tokens) (Fault.TooFar now.at)
sign_far j {tokens = tokens} {now = now} {a = a} {sign = sign} s next binary far =
    far_next tokens now.at next.0.kind s.stage next.1 refl (chain_on_can_end j.chain j.item next.2 a) (binary-far s.open_now now.operators (binary next.0.kind sign next.2) far)

pub item_fails : {A B S : Type 0} {n : ℕ} {X : Phrases A} {Item : Phrases B} {sort : TokenKind → Option S} {add : S → A → B → A} {Tail : A → Phrases A} {one : B → A} →
    Joined n X Item sort add Tail one → {start mid : List Token} {first now : Count} {a : A} {sign : S} (total : ℕ) (e : ReadFault) →
    Stage n X start first (Then Item (λ b. Tail (add sign a b))) mid now →
    Fails (n + 1) Item mid now total e → Fails n X start first total e
item_fails j total e s f = inner_fails total e s (λ b. chain_follow j.chain _) (λ b. chain_can_end j.chain _) f

pub item_read : {A B S : Type 0} {n : ℕ} {X : Phrases A} {Item : Phrases B} {sort : TokenKind → Option S} {add : S → A → B → A} {Tail : A → Phrases A} {one : B → A} →
    Joined n X Item sort add Tail one → {tokens : List Token} {before then after : Seen} {first : Count} {around : List Level} {a : A} {b : B} {sign : S} →
    Stage n X (drop before.at tokens) first (Then Item (λ b. Tail (add sign a b))) (drop then.at tokens) (ready around then.operators) →
    IsSoFar (n + 1) Item tokens then (ready around then.operators) around (Done b) after →
    IsSoFar n X tokens before first around (Tail (add sign a b)) after
item_read {add = add} {Tail = Tail} j {a = a} {sign = sign} s p = inner_read (λ b. Tail (add sign a b)) s (λ b. chain_follow j.chain _) p

pub all_read : {A B S : Type 0} {n : ℕ} {X : Phrases A} {Item : Phrases B} {sort : TokenKind → Option S} {add : S → A → B → A} {Tail : A → Phrases A} {one : B → A} →
    Joined n X Item sort add Tail one → {tokens : List Token} {before now : Seen} {first : Count} {around : List Level} {a : A} →
    IsSoFar n X tokens before first around (Tail a) now → IsNotNext (λ t. sort t.kind) tokens now.at → IsSoFar n X tokens before first around (Done a) now
all_read j s none = record { open_now = s.open_now; closed = s.closed; stage = chain_done j.chain none s.stage }
