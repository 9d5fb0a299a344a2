-- What the productions of kinds say of their first token.
use Rattle.rn_net.proofs.Names.{◌≡◌, ℕ, ◌+◌, ◌≤◌, ◌⊎◌, inl, inr, List, [], ◌∷◌, ◌++◌, length, drop, refl, sym, ◌∙◌, subst, arith, Spot, Token, TokenKind, Sign, Phrases, Then, Done, BeginAlike, Sort, done, open_brace, close_brace, open_bracket, close_bracket, comma, IsClose, IsNotNextKind, PKind, int_word, text_word, net_word, IsKind, AreListed, AreKinds, AreMoreKinds, kind_at, Region, declaring, Stage, Fails, HasNext, any, and_then, alike-cons}
use Rattle.rn_reading.specs.declared.fault.ReadFault.TheVariants as Fault
use Rattle.rn_net.specs.declared.kinds.PKindForm.{PKindForm}
use Rattle.rn_net.specs.declared.kinds.PKindForm.TheVariants as K
use Rattle.rn_net.proofs.Sorts.{WithKind, kind_then, kind_read, kind_far, from_done, next_is, tell_apart}
use Rattle.rn_net.proofs.Steps.{begin, stuck}
use Rattle.rn_net.proofs.Rows.{Row, row_up_to, opening_small, opening_deep, close_small, close_after}

-- kinds, one of which is `int`
abbrev pub kinds : Sort PKind
kinds = record { is = IsKind; ends = (any int_word ∷ [], _, λ rest. IsKind.int refl) }

abbrev pub listed : TokenKind → Sort (List PKind)
listed close = record { is = AreListed close; ends = (any close ∷ [], [], λ rest. AreListed.nothing refl) }

pub more-split : {all es : List PKind} {ts rest : List Token} → AreMoreKinds all ts es rest →
    ((es ≡ all) × (rest ≡ ts)) ⊎ ((t : Token) × (us : List Token) × (ts ≡ t ∷ us) × (t.kind ≡ comma) × Then IsKind (λ e. AreMoreKinds (all ++ e ∷ [])) us es rest)
more-split (AreMoreKinds.no_more_kinds) = inl (refl, refl)
more-split (AreMoreKinds.more_kinds c k more) = inr (_, _, refl, c, (_, _, k, more))

pub kinds-part : {ts rest : List Token} {es : List PKind} → AreKinds ts es rest → Then IsKind (λ e. AreMoreKinds (e ∷ [])) ts es rest
kinds-part (AreKinds.kinds k more) = (_, _, k, more)

abbrev pub kind_row : Row kinds AreKinds AreMoreKinds
kind_row = record {
  nothing = λ all ts. AreMoreKinds.no_more_kinds;
  on = λ c k more. AreMoreKinds.more_kinds c k more;
  split = more-split;
  join = λ k more. AreKinds.kinds k more;
  part = kinds-part;
}

-- the forms of kinds, by their first token
abbrev pub leaf : TokenKind → PKindForm → Sort PKind
leaf kind form = kind_then kind (λ spot. done (kind_at spot form))

abbrev pub tuple : Sort PKind
tuple = kind_then open_bracket (λ spot. and_then (listed close_bracket) (λ parts. done (kind_at spot (K.Tuple parts))))

abbrev pub list : Sort PKind
list = kind_then open_brace (λ spot. and_then kinds (λ element. kind_then close_brace (λ end. done (kind_at spot (K.List element)))))

abbrev pub Forms : Phrases PKind
Forms ts e rest = (leaf int_word K.Int).is ts e rest ⊎ ((leaf text_word K.Text).is ts e rest ⊎ ((leaf net_word K.Net).is ts e rest ⊎ (tuple.is ts e rest ⊎ list.is ts e rest)))

pub split : {ts rest : List Token} {e : PKind} → IsKind ts e rest → Forms ts e rest
split (IsKind.int h) = inl (_, _, refl, h, (refl, refl))
split (IsKind.text h) = inr (inl (_, _, refl, h, (refl, refl)))
split (IsKind.net h) = inr (inr (inl (_, _, refl, h, (refl, refl))))
split (IsKind.tuple h l) = inr (inr (inr (inl (_, _, refl, h, (_, _, l, (refl, refl))))))
split (IsKind.list h k c) = inr (inr (inr (inr (_, _, refl, h, (_, _, k, (_, _, refl, c, (refl, refl)))))))

int-on : (ts : List Token) (e : PKind) (rest : List Token) → (leaf int_word K.Int).is ts e rest → IsKind ts e rest
int-on ts e rest x = subst (λ us. IsKind us e rest) (sym x.2) (from_done (λ b r. IsKind (x.0 ∷ x.1) b r) x.4 (IsKind.int x.3))

text-on : (ts : List Token) (e : PKind) (rest : List Token) → (leaf text_word K.Text).is ts e rest → IsKind ts e rest
text-on ts e rest x = subst (λ us. IsKind us e rest) (sym x.2) (from_done (λ b r. IsKind (x.0 ∷ x.1) b r) x.4 (IsKind.text x.3))

net-on : (ts : List Token) (e : PKind) (rest : List Token) → (leaf net_word K.Net).is ts e rest → IsKind ts e rest
net-on ts e rest x = subst (λ us. IsKind us e rest) (sym x.2) (from_done (λ b r. IsKind (x.0 ∷ x.1) b r) x.4 (IsKind.net x.3))

tuple-on : (ts : List Token) (e : PKind) (rest : List Token) → tuple.is ts e rest → IsKind ts e rest
tuple-on ts e rest x = subst (λ us. IsKind us e rest) (sym x.2) (from_done (λ b r. IsKind (x.0 ∷ x.1) b r) x.4.3 (IsKind.tuple x.3 x.4.2))

list-on : (ts : List Token) (e : PKind) (rest : List Token) → list.is ts e rest → IsKind ts e rest
list-on ts e rest x = subst (λ us. IsKind us e rest) (sym x.2)
    (from_done (λ b r. IsKind (x.0 ∷ x.1) b r) x.4.3.4 (IsKind.list x.3 (subst (λ us. IsKind x.1 x.4.0 us) x.4.3.2 x.4.2) x.4.3.3))

int-only : (tokens : List Token) (at : ℕ) {spot : Spot} → HasNext tokens at int_word spot → (ts : List Token) (e : PKind) (rest : List Token) → BeginAlike (drop at tokens) ts → Forms ts e rest → (leaf int_word K.Int).is ts e rest
int-only tokens at here ts e rest alike (inl y) = y
int-only tokens at here ts e rest alike (inr (inl y)) = absurd (tell_apart int_word text_word (sym (next_is tokens at y.0 y.1 here alike y.2) ∙ y.3) (λ e. omega (arith, e)))
int-only tokens at here ts e rest alike (inr (inr (inl y))) = absurd (tell_apart int_word net_word (sym (next_is tokens at y.0 y.1 here alike y.2) ∙ y.3) (λ e. omega (arith, e)))
int-only tokens at here ts e rest alike (inr (inr (inr (inl y)))) = absurd (tell_apart int_word open_bracket (sym (next_is tokens at y.0 y.1 here alike y.2) ∙ y.3) (λ e. omega (arith, e)))
int-only tokens at here ts e rest alike (inr (inr (inr (inr y)))) = absurd (tell_apart int_word open_brace (sym (next_is tokens at y.0 y.1 here alike y.2) ∙ y.3) (λ e. omega (arith, e)))

text-only : (tokens : List Token) (at : ℕ) {spot : Spot} → HasNext tokens at text_word spot → (ts : List Token) (e : PKind) (rest : List Token) → BeginAlike (drop at tokens) ts → Forms ts e rest → (leaf text_word K.Text).is ts e rest
text-only tokens at here ts e rest alike (inl y) = absurd (tell_apart text_word int_word (sym (next_is tokens at y.0 y.1 here alike y.2) ∙ y.3) (λ e. omega (arith, e)))
text-only tokens at here ts e rest alike (inr (inl y)) = y
text-only tokens at here ts e rest alike (inr (inr (inl y))) = absurd (tell_apart text_word net_word (sym (next_is tokens at y.0 y.1 here alike y.2) ∙ y.3) (λ e. omega (arith, e)))
text-only tokens at here ts e rest alike (inr (inr (inr (inl y)))) = absurd (tell_apart text_word open_bracket (sym (next_is tokens at y.0 y.1 here alike y.2) ∙ y.3) (λ e. omega (arith, e)))
text-only tokens at here ts e rest alike (inr (inr (inr (inr y)))) = absurd (tell_apart text_word open_brace (sym (next_is tokens at y.0 y.1 here alike y.2) ∙ y.3) (λ e. omega (arith, e)))

net-only : (tokens : List Token) (at : ℕ) {spot : Spot} → HasNext tokens at net_word spot → (ts : List Token) (e : PKind) (rest : List Token) → BeginAlike (drop at tokens) ts → Forms ts e rest → (leaf net_word K.Net).is ts e rest
net-only tokens at here ts e rest alike (inl y) = absurd (tell_apart net_word int_word (sym (next_is tokens at y.0 y.1 here alike y.2) ∙ y.3) (λ e. omega (arith, e)))
net-only tokens at here ts e rest alike (inr (inl y)) = absurd (tell_apart net_word text_word (sym (next_is tokens at y.0 y.1 here alike y.2) ∙ y.3) (λ e. omega (arith, e)))
net-only tokens at here ts e rest alike (inr (inr (inl y))) = y
net-only tokens at here ts e rest alike (inr (inr (inr (inl y)))) = absurd (tell_apart net_word open_bracket (sym (next_is tokens at y.0 y.1 here alike y.2) ∙ y.3) (λ e. omega (arith, e)))
net-only tokens at here ts e rest alike (inr (inr (inr (inr y)))) = absurd (tell_apart net_word open_brace (sym (next_is tokens at y.0 y.1 here alike y.2) ∙ y.3) (λ e. omega (arith, e)))

tuple-only : (tokens : List Token) (at : ℕ) {spot : Spot} → HasNext tokens at open_bracket spot → (ts : List Token) (e : PKind) (rest : List Token) → BeginAlike (drop at tokens) ts → Forms ts e rest → tuple.is ts e rest
tuple-only tokens at here ts e rest alike (inl y) = absurd (tell_apart open_bracket int_word (sym (next_is tokens at y.0 y.1 here alike y.2) ∙ y.3) (λ e. omega (arith, e)))
tuple-only tokens at here ts e rest alike (inr (inl y)) = absurd (tell_apart open_bracket text_word (sym (next_is tokens at y.0 y.1 here alike y.2) ∙ y.3) (λ e. omega (arith, e)))
tuple-only tokens at here ts e rest alike (inr (inr (inl y))) = absurd (tell_apart open_bracket net_word (sym (next_is tokens at y.0 y.1 here alike y.2) ∙ y.3) (λ e. omega (arith, e)))
tuple-only tokens at here ts e rest alike (inr (inr (inr (inl y)))) = y
tuple-only tokens at here ts e rest alike (inr (inr (inr (inr y)))) = absurd (tell_apart open_bracket open_brace (sym (next_is tokens at y.0 y.1 here alike y.2) ∙ y.3) (λ e. omega (arith, e)))

list-only : (tokens : List Token) (at : ℕ) {spot : Spot} → HasNext tokens at open_brace spot → (ts : List Token) (e : PKind) (rest : List Token) → BeginAlike (drop at tokens) ts → Forms ts e rest → list.is ts e rest
list-only tokens at here ts e rest alike (inl y) = absurd (tell_apart open_brace int_word (sym (next_is tokens at y.0 y.1 here alike y.2) ∙ y.3) (λ e. omega (arith, e)))
list-only tokens at here ts e rest alike (inr (inl y)) = absurd (tell_apart open_brace text_word (sym (next_is tokens at y.0 y.1 here alike y.2) ∙ y.3) (λ e. omega (arith, e)))
list-only tokens at here ts e rest alike (inr (inr (inl y))) = absurd (tell_apart open_brace net_word (sym (next_is tokens at y.0 y.1 here alike y.2) ∙ y.3) (λ e. omega (arith, e)))
list-only tokens at here ts e rest alike (inr (inr (inr (inl y)))) = absurd (tell_apart open_brace open_bracket (sym (next_is tokens at y.0 y.1 here alike y.2) ∙ y.3) (λ e. omega (arith, e)))
list-only tokens at here ts e rest alike (inr (inr (inr (inr y)))) = y

-- the whole phrase in other words, by its first token
pub begin_int : (tokens : List Token) (at : ℕ) {spot : Spot} (first : Region) → HasNext tokens at int_word spot → Stage IsKind (drop at tokens) first (leaf int_word K.Int) (drop at tokens) first
begin_int tokens at first here = begin (leaf int_word K.Int) (drop at tokens) first int-on (λ ts e rest alike x. int-only tokens at here ts e rest alike (split x))

pub begin_text : (tokens : List Token) (at : ℕ) {spot : Spot} (first : Region) → HasNext tokens at text_word spot → Stage IsKind (drop at tokens) first (leaf text_word K.Text) (drop at tokens) first
begin_text tokens at first here = begin (leaf text_word K.Text) (drop at tokens) first text-on (λ ts e rest alike x. text-only tokens at here ts e rest alike (split x))

pub begin_net : (tokens : List Token) (at : ℕ) {spot : Spot} (first : Region) → HasNext tokens at net_word spot → Stage IsKind (drop at tokens) first (leaf net_word K.Net) (drop at tokens) first
begin_net tokens at first here = begin (leaf net_word K.Net) (drop at tokens) first net-on (λ ts e rest alike x. net-only tokens at here ts e rest alike (split x))

pub begin_tuple : (tokens : List Token) (at : ℕ) {spot : Spot} (first : Region) → HasNext tokens at open_bracket spot → Stage IsKind (drop at tokens) first tuple (drop at tokens) first
begin_tuple tokens at first here = begin tuple (drop at tokens) first tuple-on (λ ts e rest alike x. tuple-only tokens at here ts e rest alike (split x))

pub begin_list : (tokens : List Token) (at : ℕ) {spot : Spot} (first : Region) → HasNext tokens at open_brace spot → Stage IsKind (drop at tokens) first list (drop at tokens) first
begin_list tokens at first here = begin list (drop at tokens) first list-on (λ ts e rest alike x. list-only tokens at here ts e rest alike (split x))

pub int_read : (tokens : List Token) (at next depth : ℕ) {spot : Spot} → HasNext tokens at int_word spot → next ≡ at + 1 → Stage IsKind (drop at tokens) (declaring depth) (done (kind_at spot K.Int)) (drop next tokens) (declaring depth)
int_read tokens at next depth here there = kind_read (λ spot. done (kind_at spot K.Int)) tokens at next (declaring depth) (begin_int tokens at (declaring depth) here) here there refl refl

pub text_read : (tokens : List Token) (at next depth : ℕ) {spot : Spot} → HasNext tokens at text_word spot → next ≡ at + 1 → Stage IsKind (drop at tokens) (declaring depth) (done (kind_at spot K.Text)) (drop next tokens) (declaring depth)
text_read tokens at next depth here there = kind_read (λ spot. done (kind_at spot K.Text)) tokens at next (declaring depth) (begin_text tokens at (declaring depth) here) here there refl refl

pub net_read : (tokens : List Token) (at next depth : ℕ) {spot : Spot} → HasNext tokens at net_word spot → next ≡ at + 1 → Stage IsKind (drop at tokens) (declaring depth) (done (kind_at spot K.Net)) (drop next tokens) (declaring depth)
net_read tokens at next depth here there = kind_read (λ spot. done (kind_at spot K.Net)) tokens at next (declaring depth) (begin_net tokens at (declaring depth) here) here there refl refl

-- no token is next that begins a kind
pub none_next : (tokens : List Token) (at : ℕ) (first : Region) → at ≤ length tokens → IsNotNextKind tokens at int_word → IsNotNextKind tokens at text_word → IsNotNextKind tokens at net_word →
    IsNotNextKind tokens at open_bracket → IsNotNextKind tokens at open_brace → Fails IsKind (drop at tokens) first (length tokens) (Fault.Stopped at)
none_next tokens at first inside a b c d e = stuck kinds tokens at (begin kinds (drop at tokens) first (λ ts e rest x. x) (λ ts e rest alike x. x)) inside (λ ts k rest alike x. none ts k rest alike (split x))
  where
    next-of : {k : TokenKind} {ts : List Token} (t : Token) (us : List Token) → BeginAlike (drop at tokens) ts → IsNotNextKind tokens at k → ts ≡ t ∷ us → t.kind ≡ k → ⊥
    next-of t us alike other is has = let next = alike-cons (drop at tokens) t us (subst (λ vs. BeginAlike (drop at tokens) vs) is alike) in other t next.0 next.1 has

    none : (ts : List Token) (k : PKind) (rest : List Token) → BeginAlike (drop at tokens) ts → Forms ts k rest → ⊥
    none ts k rest alike (inl y) = next-of y.0 y.1 alike a y.2 y.3
    none ts k rest alike (inr (inl y)) = next-of y.0 y.1 alike b y.2 y.3
    none ts k rest alike (inr (inr (inl y))) = next-of y.0 y.1 alike c y.2 y.3
    none ts k rest alike (inr (inr (inr (inl y)))) = next-of y.0 y.1 alike d y.2 y.3
    none ts k rest alike (inr (inr (inr (inr y)))) = next-of y.0 y.1 alike e y.2 y.3

-- the bracket of a tuple, and the brace of a list
pub tuple_open : (tokens : List Token) (at next depth inside levels : ℕ) {spot : Spot} → HasNext tokens at open_bracket spot → next ≡ at + 1 → levels ≡ inside + 1 → levels + depth ≡ 64 →
    Stage IsKind (drop at tokens) (declaring depth) (and_then (listed close_bracket) (λ parts. done (kind_at spot (K.Tuple parts)))) (drop next tokens) (declaring (depth + 1))
tuple_open tokens at next depth inside levels here there some fits =
    kind_read (λ spot. and_then (listed close_bracket) (λ parts. done (kind_at spot (K.Tuple parts)))) tokens at next (declaring (depth + 1)) (begin_tuple tokens at (declaring depth) here) here there (opening_small depth inside levels some fits) refl

pub tuple_deep : (tokens : List Token) (at depth levels : ℕ) {spot : Spot} → HasNext tokens at open_bracket spot → levels ≡ 0 → levels + depth ≡ 64 →
    Fails IsKind (drop at tokens) (declaring depth) (length tokens) (Fault.TooFar at)
tuple_deep tokens at depth levels here none fits =
    kind_far (λ spot. and_then (listed close_bracket) (λ parts. done (kind_at spot (K.Tuple parts)))) tokens at (begin_tuple tokens at (declaring depth) here) here (opening_deep depth levels none fits)

abbrev pub list_end : Spot → PKind → Sort PKind
list_end spot element = kind_then close_brace (λ end. done (kind_at spot (K.List element)))

pub list_open : (tokens : List Token) (at next depth inside levels : ℕ) {spot : Spot} → HasNext tokens at open_brace spot → next ≡ at + 1 → levels ≡ inside + 1 → levels + depth ≡ 64 →
    Stage IsKind (drop at tokens) (declaring depth) (and_then kinds (list_end spot)) (drop next tokens) (declaring (depth + 1))
list_open tokens at next depth inside levels here there some fits =
    kind_read (λ spot. and_then kinds (list_end spot)) tokens at next (declaring (depth + 1)) (begin_list tokens at (declaring depth) here) here there (opening_small depth inside levels some fits) refl

pub list_deep : (tokens : List Token) (at depth levels : ℕ) {spot : Spot} → HasNext tokens at open_brace spot → levels ≡ 0 → levels + depth ≡ 64 →
    Fails IsKind (drop at tokens) (declaring depth) (length tokens) (Fault.TooFar at)
list_deep tokens at depth levels here none fits =
    kind_far (λ spot. and_then kinds (list_end spot)) tokens at (begin_list tokens at (declaring depth) here) here (opening_deep depth levels none fits)

-- what stands after an opening bracket
abbrev ListedForms : (close : ℕ) → Phrases (List PKind)
ListedForms close ts es rest = WithKind (Sign close) (λ spot. Done []) ts es rest ⊎ (row_up_to kind_row (Sign close)).is ts es rest

listed-split : {close : ℕ} {ts rest : List Token} {es : List PKind} → AreListed (Sign close) ts es rest → ListedForms close ts es rest
listed-split (AreListed.nothing c) = inl (_, _, refl, c, (refl, refl))
listed-split (AreListed.some ks c) = inr (_, _, ks, (_, refl, c, refl))

pub listed_none : (tokens : List Token) (at next depth close : ℕ) {spot : Spot} → IsClose close → HasNext tokens at (Sign close) spot → next ≡ at + 1 →
    Stage (AreListed (Sign close)) (drop at tokens) (declaring (depth + 1)) (done []) (drop next tokens) (declaring depth)
listed_none tokens at next depth close is here there =
    kind_read (λ spot. done []) tokens at next (declaring depth)
    (begin (kind_then (Sign close) (λ spot. done [])) (drop at tokens) (declaring (depth + 1))
    (λ ts es rest x. subst (λ us. AreListed (Sign close) us es rest) (sym x.2) (from_done (λ b r. AreListed (Sign close) (x.0 ∷ x.1) b r) x.4 (AreListed.nothing x.3)))
    (λ ts es rest alike x. elim (listed-split x) as (λ w. WithKind (Sign close) (λ spot. Done []) ts es rest) [ inl y ↦ y | inr y ↦ absurd (begins-none tokens at close is here alike y) ]))
    here there (close_small close (depth + 1) is) (close_after close depth is)
  where
    wrong : {kind : TokenKind} (close : ℕ) {ts : List Token} (tokens : List Token) (at : ℕ) {spot : Spot} (t : Token) (us : List Token) → HasNext tokens at (Sign close) spot → BeginAlike (drop at tokens) ts → ts ≡ t ∷ us → t.kind ≡ kind → Sign close ≡ kind
    wrong close tokens at t us here alike is has = sym (next_is tokens at t us here alike is) ∙ has

    not-close : (close : ℕ) → IsClose close → (k : ℕ) → Sign close ≡ Sign k → (k ≡ 3) ⊎ (k ≡ 5)
    not-close close is k h = elim is as (λ w. (k ≡ 3) ⊎ (k ≡ 5)) [ inl e ↦ inl (let g : close ≡ k = cc in sym g ∙ e) | inr e ↦ inr (let g : close ≡ k = cc in sym g ∙ e) ]

    other : (close : ℕ) → IsClose close → {ts rest : List Token} {e : PKind} (tokens : List Token) (at : ℕ) {spot : Spot} → HasNext tokens at (Sign close) spot → BeginAlike (drop at tokens) ts → Forms ts e rest → ⊥
    other close is tokens at here alike (inl y) = let h : Sign close ≡ int_word = wrong close tokens at y.0 y.1 here alike y.2 y.3 in cc
    other close is tokens at here alike (inr (inl y)) = let h : Sign close ≡ text_word = wrong close tokens at y.0 y.1 here alike y.2 y.3 in cc
    other close is tokens at here alike (inr (inr (inl y))) = let h : Sign close ≡ net_word = wrong close tokens at y.0 y.1 here alike y.2 y.3 in cc
    other close is tokens at here alike (inr (inr (inr (inl y)))) = elim (not-close close is 2 (wrong close tokens at y.0 y.1 here alike y.2 y.3)) as (λ w. ⊥) [ inl e ↦ omega (arith, e) | inr e ↦ omega (arith, e) ]
    other close is tokens at here alike (inr (inr (inr (inr y)))) = elim (not-close close is 0 (wrong close tokens at y.0 y.1 here alike y.2 y.3)) as (λ w. ⊥) [ inl e ↦ omega (arith, e) | inr e ↦ omega (arith, e) ]

    begins-none : (tokens : List Token) (at close : ℕ) {spot : Spot} → IsClose close → HasNext tokens at (Sign close) spot → {ts rest : List Token} {es : List PKind} → BeginAlike (drop at tokens) ts → (row_up_to kind_row (Sign close)).is ts es rest → ⊥
    begins-none tokens at close is here alike y = let p = kinds-part y.2 in other close is tokens at here alike (split p.2)

pub listed_some : (tokens : List Token) (at close : ℕ) (first : Region) → IsNotNextKind tokens at (Sign close) →
    Stage (AreListed (Sign close)) (drop at tokens) first (row_up_to kind_row (Sign close)) (drop at tokens) first
listed_some tokens at close first other = begin (row_up_to kind_row (Sign close)) (drop at tokens) first
    (λ ts es rest x. subst (λ ks. AreListed (Sign close) ts ks rest) (sym x.3.3) (AreListed.some (subst (λ us. AreKinds ts x.0 us) x.3.1 x.2) x.3.2))
    (λ ts es rest alike x. elim (listed-split x) as (λ w. (row_up_to kind_row (Sign close)).is ts es rest) [
      | inl y ↦ absurd (let next = alike-cons (drop at tokens) y.0 y.1 (subst (λ us. BeginAlike (drop at tokens) us) y.2 alike) in other y.0 next.0 next.1 y.3)
      | inr y ↦ y
    ])
