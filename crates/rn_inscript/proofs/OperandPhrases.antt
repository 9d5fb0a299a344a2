-- What the productions of primary expressions say of their first token.
use Rattle.rn_inscript.proofs.Names.{◌≡◌, ℕ, ℤ, ◌⊎◌, inl, inr, true, Bool, cond, List, [], ◌∷◌, refl, sym, ap, subst, arith, nat_eq, codes, list_any, nat_tests, common_steps, Spot, Token, TokenKind, Name, Word, Number, Text, Sign, PExpr, minus, open_paren, close_paren, open_bracket, close_bracket, open_brace, close_brace, colon, this_word, IsExpr, IsProduct, IsUnary, IsPrimary, IsListed, IsExprs, at_spot, Phrases, Then, Done, Takes}
use Rattle.rn_inscript.specs.declared.exprs.PForm.TheVariants as F

-- whether a token begins a primary expression
abbrev pub begins_primary : TokenKind → Bool
begins_primary (Name s) = true
begins_primary (Number n) = true
begins_primary (Text s) = true
begins_primary (Word k) = nat_eq k 17
begins_primary (Sign k) = list_any (nat_eq k) (0 ∷ 2 ∷ 4 ∷ [])

pub primary-begins : {t : Token} {ts rest : List Token} {e : PExpr} → IsPrimary (t ∷ ts) e rest → begins_primary t.kind ≡ true
primary-begins (IsPrimary.number h) = ap begins_primary h
primary-begins (IsPrimary.text h) = ap begins_primary h
primary-begins (IsPrimary.name h) = ap begins_primary h
primary-begins (IsPrimary.this h) = ap begins_primary h
primary-begins (IsPrimary.step h u v) = ap begins_primary h
primary-begins (IsPrimary.tuple h l) = ap begins_primary h
primary-begins (IsPrimary.list h l) = ap begins_primary h
primary-begins (IsPrimary.list_with_tail h x c y d) = ap begins_primary h
primary-begins (IsPrimary.parentheses h x c) = ap begins_primary h

-- the parentheses of `step()`, after its name
abbrev pub StepEnd : Spot → Phrases PExpr
StepEnd spot ts e rest = (u : Token) × (us : List Token) × (ts ≡ u ∷ us) × (u.kind ≡ open_paren) × Takes close_paren (at_spot spot F.Step) us e rest

-- what can follow the elements of a list
abbrev pub ListEnd : Spot → List PExpr → Phrases PExpr
ListEnd spot es ts e rest =
    Takes close_brace (at_spot spot (F.List es)) ts e rest
    ⊎ ((u : Token) × (us : List Token) × (ts ≡ u ∷ us) × (u.kind ≡ colon) × Then IsExpr (λ tail. Takes close_brace (at_spot spot (F.Cons es tail))) us e rest)

-- what can follow the brace of a list
abbrev pub ListInside : Spot → Phrases PExpr
ListInside spot ts e rest =
    Takes close_brace (at_spot spot (F.List [])) ts e rest ⊎ Then IsExprs (ListEnd spot) ts e rest

-- what can follow the first token of a primary expression, which has this kind
abbrev pub PrimaryEnd : Spot → TokenKind → Phrases PExpr
PrimaryEnd spot (Number n) ts e rest = Done (at_spot spot (F.Int n)) ts e rest
PrimaryEnd spot (Text s) ts e rest = Done (at_spot spot (F.Text s)) ts e rest
PrimaryEnd spot (Name s) ts e rest = Done (at_spot spot (F.Name s)) ts e rest ⊎ ((s ≡ codes "step") × StepEnd spot ts e rest)
PrimaryEnd spot (Word k) ts e rest = Done (at_spot spot F.This) ts e rest
PrimaryEnd spot (Sign k) ts e rest =
    cond (nat_eq k 0) (ListInside spot ts e rest)
    (cond (nat_eq k 2) (Then (IsListed close_bracket) (λ es. Done (at_spot spot (F.Tuple es))) ts e rest)
    (Then IsExpr (Takes close_paren) ts e rest))

-- a primary expression has a first token
abbrev pub PrimaryParts : Phrases PExpr
PrimaryParts [] e rest = ⊥
PrimaryParts (t ∷ ts) e rest = PrimaryEnd t.spot t.kind ts e rest

list-inside : (spot : Spot) {ts rest : List Token} {es : List PExpr} → IsListed close_brace ts es rest → ListInside spot ts (at_spot spot (F.List es)) rest
list-inside spot (IsListed.nothing c) = inl (_, refl, c, refl)
list-inside spot (IsListed.some x c) = inr (_, _, x, inl (_, refl, c, refl))

primary-parts : {ts rest : List Token} {e : PExpr} → IsPrimary ts e rest → PrimaryParts ts e rest
primary-parts (IsPrimary.number h) = rw h (refl, refl)
primary-parts (IsPrimary.text h) = rw h (refl, refl)
primary-parts (IsPrimary.name h) = rw h (inl (refl, refl))
primary-parts (IsPrimary.this h) = rw h (refl, refl)
primary-parts (IsPrimary.step h u v) = rw h (inr (refl, (_, _, refl, u, (_, refl, v, refl))))
primary-parts (IsPrimary.tuple h l) = rw h (_, _, l, (refl, refl))
primary-parts (IsPrimary.list h l) = rw h (list-inside _ l)
primary-parts (IsPrimary.list_with_tail h x c y d) = rw h (inr (_, _, x, inr (_, _, refl, c, (_, _, y, (_, refl, d, refl)))))
primary-parts (IsPrimary.parentheses h x c) = rw h (_, _, x, (_, refl, c, refl))

pub primary-some : {e : PExpr} {rest : List Token} → IsPrimary [] e rest → ⊥
primary-some x = primary-parts x

-- what follows a first token of a kind
pub primary-only : {t : Token} {kind : TokenKind} {ts rest : List Token} {e : PExpr} → t.kind ≡ kind → IsPrimary (t ∷ ts) e rest → PrimaryEnd t.spot kind ts e rest
primary-only {t = t} {ts = ts} {rest = rest} {e = e} h x = subst (λ k. PrimaryEnd t.spot k ts e rest) h (primary-parts x)

pub number-only : (n : ℤ) {t : Token} {ts rest : List Token} {e : PExpr} → t.kind ≡ Number n → IsPrimary (t ∷ ts) e rest → Done (at_spot t.spot (F.Int n)) ts e rest
number-only n k x = primary-only k x

pub text-only : (s : List ℕ) {t : Token} {ts rest : List Token} {e : PExpr} → t.kind ≡ Text s → IsPrimary (t ∷ ts) e rest → Done (at_spot t.spot (F.Text s)) ts e rest
text-only s k x = primary-only k x

pub this-only : {t : Token} {ts rest : List Token} {e : PExpr} → t.kind ≡ this_word → IsPrimary (t ∷ ts) e rest → Done (at_spot t.spot F.This) ts e rest
this-only k x = primary-only k x

pub name-only : (s : List ℕ) {t : Token} {ts rest : List Token} {e : PExpr} → t.kind ≡ Name s → IsPrimary (t ∷ ts) e rest → Done (at_spot t.spot (F.Name s)) ts e rest ⊎ ((s ≡ codes "step") × StepEnd t.spot ts e rest)
name-only s k x = primary-only k x

pub paren-only : {t : Token} {ts rest : List Token} {e : PExpr} → t.kind ≡ open_paren → IsPrimary (t ∷ ts) e rest → Then IsExpr (Takes close_paren) ts e rest
paren-only k x = primary-only k x

pub bracket-only : {t : Token} {ts rest : List Token} {e : PExpr} → t.kind ≡ open_bracket → IsPrimary (t ∷ ts) e rest → Then (IsListed close_bracket) (λ es. Done (at_spot t.spot (F.Tuple es))) ts e rest
bracket-only k x = primary-only k x

pub brace-only : {t : Token} {ts rest : List Token} {e : PExpr} → t.kind ≡ open_brace → IsPrimary (t ∷ ts) e rest → ListInside t.spot ts e rest
brace-only k x = primary-only k x

-- what can follow a bracket, apart from the last one
abbrev pub ListedInside : TokenKind → Phrases (List PExpr)
ListedInside close ts es rest = Takes close [] ts es rest ⊎ Then IsExprs (Takes close) ts es rest

pub listed-only : {close : TokenKind} {ts rest : List Token} {es : List PExpr} → IsListed close ts es rest → ListedInside close ts es rest
listed-only (IsListed.nothing c) = inl (_, refl, c, refl)
listed-only (IsListed.some x c) = inr (_, _, x, (_, refl, c, refl))

pub listed-on : {close : TokenKind} {ts rest : List Token} {es : List PExpr} → ListedInside close ts es rest → IsListed close ts es rest
listed-on {close = close} {ts = ts} {rest = rest} {es = es} x = elim x [
  | inl y ↦ subst (λ us. IsListed close us es rest) (sym y.1) (subst (λ all. IsListed close (y.0 ∷ rest) all rest) (sym y.3) (IsListed.nothing y.2))
  | inr y ↦ subst (λ all. IsListed close ts all rest) (sym y.3.3) (IsListed.some (subst (λ us. IsExprs ts y.0 us) y.3.1 y.2) y.3.2)
]

-- whether a token begins an expression
abbrev pub begins_expr : TokenKind → Bool
begins_expr (Sign k) = list_any (nat_eq k) (0 ∷ 2 ∷ 4 ∷ 17 ∷ [])
begins_expr kind = begins_primary kind

wider : (kind : TokenKind) → begins_primary kind ≡ true → begins_expr kind ≡ true
wider (Sign k) h = grind (arith, nat_tests, common_steps)
wider (Name s) h = h
wider (Number n) h = h
wider (Text s) h = h
wider (Word k) h = h

unary-begins : {t : Token} {ts rest : List Token} {e : PExpr} → IsUnary (t ∷ ts) e rest → begins_expr t.kind ≡ true
unary-begins (IsUnary.negative h x) = ap begins_expr h
unary-begins {t = t} (IsUnary.primary x) = wider t.kind (primary-begins x)

pub expr-begins : {t : Token} {ts rest : List Token} {e : PExpr} → IsExpr (t ∷ ts) e rest → begins_expr t.kind ≡ true
expr-begins (IsExpr.sum (IsProduct.product x y) z) = unary-begins x

pub exprs-begin : {t : Token} {ts rest : List Token} {es : List PExpr} → IsExprs (t ∷ ts) es rest → begins_expr t.kind ≡ true
exprs-begin (IsExprs.exprs x y) = expr-begins x

-- an expression isn't empty
unary-some : {ts rest : List Token} {e : PExpr} → IsUnary ts e rest → ts ≡ [] → ⊥
unary-some (IsUnary.negative h x) is = cc
unary-some {rest = rest} {e = e} (IsUnary.primary x) is = primary-some (subst (λ us. IsPrimary us e rest) is x)

pub expr-some : {ts rest : List Token} {e : PExpr} → IsExpr ts e rest → ts ≡ [] → ⊥
expr-some (IsExpr.sum (IsProduct.product x y) z) is = unary-some x is

pub exprs-some : {ts rest : List Token} {es : List PExpr} → IsExprs ts es rest → ts ≡ [] → ⊥
exprs-some (IsExprs.exprs x y) is = expr-some x is

-- a unary minus
pub minus-only : {t : Token} {ts rest : List Token} {e : PExpr} → t.kind ≡ minus → IsUnary (t ∷ ts) e rest → Then IsUnary (λ e. Done (at_spot t.spot (F.Neg e))) ts e rest
minus-only k (IsUnary.negative h x) = (_, _, x, (refl, refl))
minus-only k (IsUnary.primary x) = absurd (let a : begins_primary minus ≡ true = subst (λ kind. begins_primary kind ≡ true) k (primary-begins x) in cc)

pub no-minus : {ts rest : List Token} {e : PExpr} → ((t : Token) (us : List Token) → ts ≡ t ∷ us → t.kind ≡ minus → ⊥) → IsUnary ts e rest → IsPrimary ts e rest
no-minus other (IsUnary.negative h x) = absurd (other _ _ refl h)
no-minus other (IsUnary.primary x) = x
