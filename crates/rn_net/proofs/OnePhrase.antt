-- Tokens begin with one phrase of a sort at most: what phrases are put together from, kinds and
-- constants.
use Rattle.rn_net.proofs.Names.{◌≡◌, true, false, Bool, ◌||◌, List, [], ◌∷◌, ◌++◌, refl, sym, ◌∙◌, ap, subst, nat_eq, arith, neg_ℤ, Spot, Token, TokenKind, Word, Number, Text, Sign, Phrases, Then, Done, comma, name_at, Takes, PName, PKind, PConst, IsKind, AreListed, AreKinds, AreMoreKinds, kind_at, IsConstant, AreConstants, AreMoreConstants, constant_at}
use Rattle.std.proofs.Common.{ℤ}
use Rattle.rn_notation.specs.declared.sign.TheConstants as sign
use Rattle.rn_notation.specs.declared.word.TheConstants as word
use Rattle.rn_net.specs.declared.kinds.PKindForm.TheVariants as K
use Rattle.rn_net.specs.declared.constants.PConstForm.TheVariants as C
use Rattle.rn_net.specs.Constants.{AreItems}
use Rattle.rn_net.proofs.Sorts.{WithKind, WithName, WithNumber, tell}

-- both phrases are one, and the same comes after them
abbrev pub Same : {A : Type 0} → A → A → List Token → List Token → Type 0
Same a b r q = (a ≡ b) × (r ≡ q)

-- tokens begin with one such phrase at most
abbrev pub One : {A : Type 0} → Phrases A → Type 0
One {A = A} X = (ts r q : List Token) (a b : A) → X ts a r → X ts b q → Same a b r q

-- the tokens don't go on with a comma
abbrev pub NoComma : List Token → Type 0
NoComma [] = Unit {0}
NoComma (t ∷ ts) = t.kind ≡ comma → ⊥

-- they begin with one such phrase at most that isn't followed by a comma
abbrev pub OneRow : {A : Type 0} → Phrases A → Type 0
OneRow {A = A} X = (ts r q : List Token) (a b : A) → X ts a r → X ts b q → NoComma r → NoComma q → Same a b r q

pub one_done : {A : Type 0} (a : A) → One (Done a)
one_done a ts r q b c x y = (x.0 ∙ sym y.0, x.1 ∙ sym y.1)

pub one_kind_then : {A : Type 0} (kind : TokenKind) (Y : Spot → Phrases A) → ((s : Spot) → One (Y s)) → One (WithKind kind Y)
one_kind_then kind Y one ts r q a b x y =
    let first : y.0 ≡ x.0 = let e = x.2 in let f = y.2 in cc in
    let others : y.1 ≡ x.1 = let e = x.2 in let f = y.2 in cc in
    one x.0.spot x.1 r q a b x.4 (subst (λ t. Y t.spot x.1 b q) first (subst (λ us. Y y.0.spot us b q) others y.4))

pub one_name_then : {A : Type 0} (Y : PName → Phrases A) → ((n : PName) → One (Y n)) → One (WithName Y)
one_name_then Y one ts r q a b x y =
    let first : y.0 ≡ x.0 = let e = x.3 in let f = y.3 in cc in
    let others : y.1 ≡ x.1 = let e = x.3 in let f = y.3 in cc in
    let name : y.2 ≡ x.2 = let e = x.4 in let f = y.4 in cc in
    one (name_at x.0.spot x.2) x.1 r q a b x.5
    (subst (λ t. Y (name_at t.spot x.2) x.1 b q) first (subst (λ us. Y (name_at y.0.spot x.2) us b q) others (subst (λ s. Y (name_at y.0.spot s) y.1 b q) name y.5)))

pub one_number_then : {A : Type 0} (Y : Spot → ℤ → Phrases A) → ((s : Spot) (n : ℤ) → One (Y s n)) → One (WithNumber Y)
one_number_then Y one ts r q a b x y =
    let first : y.0 ≡ x.0 = let e = x.3 in let f = y.3 in cc in
    let others : y.1 ≡ x.1 = let e = x.3 in let f = y.3 in cc in
    let number : y.2 ≡ x.2 = let e = x.4 in let f = y.4 in cc in
    one x.0.spot x.2 x.1 r q a b x.5
    (subst (λ t. Y t.spot x.2 x.1 b q) first (subst (λ us. Y y.0.spot x.2 us b q) others (subst (λ n. Y y.0.spot n y.1 b q) number y.5)))

pub one_then : {A B : Type 0} (X : Phrases A) (Y : A → Phrases B) → One X → ((a : A) → One (Y a)) → One (Then X Y)
one_then X Y one more ts r q a b x y =
    let s = one ts x.1 y.1 x.0 y.0 x.2 y.2 in
    more x.0 x.1 r q a b x.3 (subst (λ c. Y c x.1 b q) (sym s.0) (subst (λ us. Y y.0 us b q) (sym s.1) y.3))

-- a row ends where no comma follows it
pub one_up_to : {A : Type 0} (X : Phrases A) (close : TokenKind) → (close ≡ comma → ⊥) → OneRow X → One (Then X (λ a. Takes close a))
one_up_to X close other one ts r q a b x y =
    let s = one ts x.1 y.1 x.0 y.0 x.2 y.2 (ends x.3.0 x.3.1 x.3.2) (ends y.3.0 y.3.1 y.3.2) in
    (x.3.3 ∙ s.0 ∙ sym y.3.3, let d = s.1 in let e = x.3.1 in let f = y.3.1 in cc)
  where
    ends : {mid rest : List Token} (t : Token) → mid ≡ t ∷ rest → t.kind ≡ close → NoComma mid
    ends {rest = rest} t is h = subst NoComma (sym is) (λ c. other (sym h ∙ c))

-- whether a kind, or a constant, begins with such a token
abbrev begins_kind : TokenKind → Bool
begins_kind (Word k) = nat_eq k word.INT || (nat_eq k word.TEXT || nat_eq k word.NET)
begins_kind (Sign k) = nat_eq k sign.LEFT_BRACKET || nat_eq k sign.LEFT_BRACE
begins_kind _ = false

kind_begins : {t : Token} {us rest : List Token} {k : PKind} → IsKind (t ∷ us) k rest → begins_kind t.kind ≡ true
kind_begins (IsKind.int h) = ap begins_kind h
kind_begins (IsKind.text h) = ap begins_kind h
kind_begins (IsKind.net h) = ap begins_kind h
kind_begins (IsKind.tuple h l) = ap begins_kind h
kind_begins (IsKind.list h k c) = ap begins_kind h

no_kinds : {close : TokenKind} {t : Token} {us rest : List Token} {ks : List PKind} → begins_kind close ≡ false → t.kind ≡ close → AreKinds (t ∷ us) ks rest → ⊥
no_kinds {t = t} none is (AreKinds.kinds x m) = let yes = kind_begins x in let no : begins_kind t.kind ≡ false = ap begins_kind is ∙ none in cc

row_end : {close : TokenKind} (u : Token) (us : List Token) → (close ≡ comma → ⊥) → u.kind ≡ close → NoComma (u ∷ us)
row_end u us other is = λ c. other (sym is ∙ c)

-- a token isn't of two kinds
pub differ : {i j k : TokenKind} → i ≡ j → i ≡ k → (tell j ≡ tell k → ⊥) → ⊥
differ h k other = other (ap tell (sym h ∙ k))

mutual
  one-kind : {ts r q : List Token} {a b : PKind} → IsKind ts a r → IsKind ts b q → Same a b r q
  one-kind (IsKind.int h) (IsKind.int k) = (refl, refl)
  one-kind (IsKind.int h) (IsKind.text k) = absurd (differ h k (λ e. omega (arith, e)))
  one-kind (IsKind.int h) (IsKind.net k) = absurd (differ h k (λ e. omega (arith, e)))
  one-kind (IsKind.int h) (IsKind.tuple k m) = absurd (differ h k (λ e. omega (arith, e)))
  one-kind (IsKind.int h) (IsKind.list k x c) = absurd (differ h k (λ e. omega (arith, e)))
  one-kind (IsKind.text h) (IsKind.int k) = absurd (differ h k (λ e. omega (arith, e)))
  one-kind (IsKind.text h) (IsKind.text k) = (refl, refl)
  one-kind (IsKind.text h) (IsKind.net k) = absurd (differ h k (λ e. omega (arith, e)))
  one-kind (IsKind.text h) (IsKind.tuple k m) = absurd (differ h k (λ e. omega (arith, e)))
  one-kind (IsKind.text h) (IsKind.list k x c) = absurd (differ h k (λ e. omega (arith, e)))
  one-kind (IsKind.net h) (IsKind.int k) = absurd (differ h k (λ e. omega (arith, e)))
  one-kind (IsKind.net h) (IsKind.text k) = absurd (differ h k (λ e. omega (arith, e)))
  one-kind (IsKind.net h) (IsKind.net k) = (refl, refl)
  one-kind (IsKind.net h) (IsKind.tuple k m) = absurd (differ h k (λ e. omega (arith, e)))
  one-kind (IsKind.net h) (IsKind.list k x c) = absurd (differ h k (λ e. omega (arith, e)))
  one-kind (IsKind.tuple h l) (IsKind.int k) = absurd (differ h k (λ e. omega (arith, e)))
  one-kind (IsKind.tuple h l) (IsKind.text k) = absurd (differ h k (λ e. omega (arith, e)))
  one-kind (IsKind.tuple h l) (IsKind.net k) = absurd (differ h k (λ e. omega (arith, e)))
  one-kind (IsKind.tuple {t = t} h l) (IsKind.tuple k m) = let s = one-listed refl (λ e. cc) l m in (ap (λ ks. kind_at t.spot (K.Tuple ks)) s.0, s.1)
  one-kind (IsKind.tuple h l) (IsKind.list k x c) = absurd (differ h k (λ e. omega (arith, e)))
  one-kind (IsKind.list h x c) (IsKind.int k) = absurd (differ h k (λ e. omega (arith, e)))
  one-kind (IsKind.list h x c) (IsKind.text k) = absurd (differ h k (λ e. omega (arith, e)))
  one-kind (IsKind.list h x c) (IsKind.net k) = absurd (differ h k (λ e. omega (arith, e)))
  one-kind (IsKind.list h x c) (IsKind.tuple k m) = absurd (differ h k (λ e. omega (arith, e)))
  one-kind (IsKind.list {t = t} h x c) (IsKind.list k y d) = let s = one-kind x y in (ap (λ k. kind_at t.spot (K.List k)) s.0, let e = s.1 in cc)

  one-listed : {close : TokenKind} {ts r q : List Token} {a b : List PKind} → begins_kind close ≡ false → (close ≡ comma → ⊥) → AreListed close ts a r → AreListed close ts b q → Same a b r q
  one-listed none other (AreListed.nothing h) (AreListed.nothing k) = (refl, refl)
  one-listed none other (AreListed.nothing h) (AreListed.some x k) = absurd (no_kinds none h x)
  one-listed none other (AreListed.some x h) (AreListed.nothing k) = absurd (no_kinds none k x)
  one-listed none other (AreListed.some {u = u} {rest = r} x h) (AreListed.some {u = v} {rest = q} y k) = let s = one-kinds x y (row_end u r other h) (row_end v q other k) in (s.0, let e = s.1 in cc)

  one-kinds : {ts r q : List Token} {a b : List PKind} → AreKinds ts a r → AreKinds ts b q → NoComma r → NoComma q → Same a b r q
  one-kinds {q = q} {b = b} (AreKinds.kinds {mid = mid} {kind = k} x m) (AreKinds.kinds {mid = end} y n) e f =
      let s = one-kind x y in
      one-more-kinds m (subst (λ us. AreMoreKinds (k ∷ []) us b q) (sym s.1) (subst (λ c. AreMoreKinds (c ∷ []) end b q) (sym s.0) n)) e f

  one-more-kinds : {a b c : List PKind} {ts r q : List Token} → AreMoreKinds a ts b r → AreMoreKinds a ts c q → NoComma r → NoComma q → Same b c r q
  one-more-kinds AreMoreKinds.no_more_kinds AreMoreKinds.no_more_kinds e f = (refl, refl)
  one-more-kinds AreMoreKinds.no_more_kinds (AreMoreKinds.more_kinds h x m) e f = absurd (e h)
  one-more-kinds (AreMoreKinds.more_kinds h x m) AreMoreKinds.no_more_kinds e f = absurd (f h)
  one-more-kinds {a = a} {c = c} {q = q} (AreMoreKinds.more_kinds {kind = k} h x m) (AreMoreKinds.more_kinds {mid = end} i y n) e f =
      let s = one-kind x y in
      one-more-kinds m (subst (λ us. AreMoreKinds (a ++ k ∷ []) us c q) (sym s.1) (subst (λ j. AreMoreKinds (a ++ j ∷ []) end c q) (sym s.0) n)) e f

pub one_kind : One IsKind
one_kind ts r q a b x y = one-kind x y

pub one_listed : (close : TokenKind) → begins_kind close ≡ false → (close ≡ comma → ⊥) → One (AreListed close)
one_listed close none other ts r q a b x y = one-listed none other x y

abbrev begins_constant : TokenKind → Bool
begins_constant (Number n) = true
begins_constant (Text s) = true
begins_constant (Sign k) = nat_eq k sign.MINUS || (nat_eq k sign.LEFT_BRACKET || nat_eq k sign.LEFT_BRACE)
begins_constant _ = false

constant_begins : {t : Token} {us rest : List Token} {k : PConst} → IsConstant (t ∷ us) k rest → begins_constant t.kind ≡ true
constant_begins (IsConstant.number h) = ap begins_constant h
constant_begins (IsConstant.negative h n) = ap begins_constant h
constant_begins (IsConstant.text h) = ap begins_constant h
constant_begins (IsConstant.tuple h l) = ap begins_constant h
constant_begins (IsConstant.list h l) = ap begins_constant h

no_constants : {close : TokenKind} {t : Token} {us rest : List Token} {ks : List PConst} → begins_constant close ≡ false → t.kind ≡ close → AreConstants (t ∷ us) ks rest → ⊥
no_constants {t = t} none is (AreConstants.constants x m) = let yes = constant_begins x in let no : begins_constant t.kind ≡ false = ap begins_constant is ∙ none in cc

mutual
  one-constant : {ts r q : List Token} {a b : PConst} → IsConstant ts a r → IsConstant ts b q → Same a b r q
  one-constant (IsConstant.number {t = t} {n = n} h) (IsConstant.number {n = m} k) = (ap (λ n. constant_at t.spot (C.Int n)) (let e : n ≡ m = cc in e), refl)
  one-constant (IsConstant.number h) (IsConstant.negative k n) = absurd cc
  one-constant (IsConstant.number h) (IsConstant.text k) = absurd cc
  one-constant (IsConstant.number h) (IsConstant.tuple k l) = absurd cc
  one-constant (IsConstant.number h) (IsConstant.list k l) = absurd cc
  one-constant (IsConstant.negative h i) (IsConstant.number k) = absurd cc
  one-constant (IsConstant.negative {t = t} {n = n} h i) (IsConstant.negative {n = m} k j) = (ap (λ n. constant_at t.spot (C.Int (neg_ℤ n))) (let e : n ≡ m = cc in e), refl)
  one-constant (IsConstant.negative h i) (IsConstant.text k) = absurd cc
  one-constant (IsConstant.negative h i) (IsConstant.tuple k l) = absurd cc
  one-constant (IsConstant.negative h i) (IsConstant.list k l) = absurd cc
  one-constant (IsConstant.text h) (IsConstant.number k) = absurd cc
  one-constant (IsConstant.text h) (IsConstant.negative k n) = absurd cc
  one-constant (IsConstant.text {t = t} {s = s} h) (IsConstant.text {s = u} k) = (ap (λ s. constant_at t.spot (C.Text s)) (let e : s ≡ u = cc in e), refl)
  one-constant (IsConstant.text h) (IsConstant.tuple k l) = absurd cc
  one-constant (IsConstant.text h) (IsConstant.list k l) = absurd cc
  one-constant (IsConstant.tuple h l) (IsConstant.number k) = absurd cc
  one-constant (IsConstant.tuple h l) (IsConstant.negative k n) = absurd cc
  one-constant (IsConstant.tuple h l) (IsConstant.text k) = absurd cc
  one-constant (IsConstant.tuple {t = t} h l) (IsConstant.tuple k m) = let s = one-items refl (λ e. cc) l m in (ap (λ ks. constant_at t.spot (C.Tuple ks)) s.0, s.1)
  one-constant (IsConstant.tuple h l) (IsConstant.list k m) = absurd cc
  one-constant (IsConstant.list h l) (IsConstant.number k) = absurd cc
  one-constant (IsConstant.list h l) (IsConstant.negative k n) = absurd cc
  one-constant (IsConstant.list h l) (IsConstant.text k) = absurd cc
  one-constant (IsConstant.list h l) (IsConstant.tuple k m) = absurd cc
  one-constant (IsConstant.list {t = t} h l) (IsConstant.list k m) = let s = one-items refl (λ e. cc) l m in (ap (λ ks. constant_at t.spot (C.List ks)) s.0, s.1)

  one-items : {close : TokenKind} {ts r q : List Token} {a b : List PConst} → begins_constant close ≡ false → (close ≡ comma → ⊥) → AreItems close ts a r → AreItems close ts b q → Same a b r q
  one-items none other (AreItems.nothing h) (AreItems.nothing k) = (refl, refl)
  one-items none other (AreItems.nothing h) (AreItems.some x k) = absurd (no_constants none h x)
  one-items none other (AreItems.some x h) (AreItems.nothing k) = absurd (no_constants none k x)
  one-items none other (AreItems.some {u = u} {rest = r} x h) (AreItems.some {u = v} {rest = q} y k) = let s = one-constants x y (row_end u r other h) (row_end v q other k) in (s.0, let e = s.1 in cc)

  pub one-constants : {ts r q : List Token} {a b : List PConst} → AreConstants ts a r → AreConstants ts b q → NoComma r → NoComma q → Same a b r q
  one-constants {q = q} {b = b} (AreConstants.constants {mid = mid} {item = k} x m) (AreConstants.constants {mid = end} y n) e f =
      let s = one-constant x y in
      one-more-constants m (subst (λ us. AreMoreConstants (k ∷ []) us b q) (sym s.1) (subst (λ c. AreMoreConstants (c ∷ []) end b q) (sym s.0) n)) e f

  one-more-constants : {a b c : List PConst} {ts r q : List Token} → AreMoreConstants a ts b r → AreMoreConstants a ts c q → NoComma r → NoComma q → Same b c r q
  one-more-constants AreMoreConstants.no_more_constants AreMoreConstants.no_more_constants e f = (refl, refl)
  one-more-constants AreMoreConstants.no_more_constants (AreMoreConstants.more_constants h x m) e f = absurd (e h)
  one-more-constants (AreMoreConstants.more_constants h x m) AreMoreConstants.no_more_constants e f = absurd (f h)
  one-more-constants {a = a} {c = c} {q = q} (AreMoreConstants.more_constants {item = k} h x m) (AreMoreConstants.more_constants {mid = end} i y n) e f =
      let s = one-constant x y in
      one-more-constants m (subst (λ us. AreMoreConstants (a ++ k ∷ []) us c q) (sym s.1) (subst (λ j. AreMoreConstants (a ++ j ∷ []) end c q) (sym s.0) n)) e f
