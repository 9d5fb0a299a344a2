-- What the productions of constants say of their first token.
use Rattle.rn_net.proofs.Names.{◌≡◌, ℕ, ◌+◌, ◌≤◌, ◌⊎◌, inl, inr, false, List, [], ◌∷◌, ◌++◌, length, drop, refl, sym, ◌∙◌, subst, arith, pos, Spot, Token, TokenKind, Number, Text, Sign, Phrases, Then, Done, BeginAlike, Sort, done, open_brace, close_brace, open_bracket, close_bracket, comma, minus, IsNotNextKind, PConst, IsConstant, AreConstants, AreMoreConstants, constant_at, Region, is_too_deep, after, declaring, Stage, Fails, HasNext, IsNoNumber, IsNoText, IsEnd, any, and_then, alike-cons, neg_ℤ}
use Rattle.std.proofs.Common.{ℤ}
use Rattle.rn_reading.specs.declared.fault.ReadFault.TheVariants as Fault
use Rattle.rn_net.specs.declared.constants.PConstForm.{PConstForm}
use Rattle.rn_net.specs.declared.constants.PConstForm.TheVariants as C
use Rattle.rn_net.specs.Constants.{AreItems}
use Rattle.rn_net.proofs.Sorts.{WithKind, kind_then, number_then, kind_read, kind_far, from_done, next_is, tell_apart}
use Rattle.rn_net.proofs.Steps.{begin, stuck}
use Rattle.rn_net.proofs.Rows.{Row, row_up_to, opening_small, opening_deep}

-- constants, one of which is `0`
abbrev pub constants : Sort PConst
constants = record { is = IsConstant; ends = (any (Number (pos 0)) ∷ [], _, λ rest. IsConstant.number refl) }

abbrev pub listed : TokenKind → Sort (List PConst)
listed close = record { is = AreItems close; ends = (any close ∷ [], [], λ rest. AreItems.nothing refl) }

pub more-split : {all es : List PConst} {ts rest : List Token} → AreMoreConstants all ts es rest →
    ((es ≡ all) × (rest ≡ ts)) ⊎ ((t : Token) × (us : List Token) × (ts ≡ t ∷ us) × (t.kind ≡ comma) × Then IsConstant (λ e. AreMoreConstants (all ++ e ∷ [])) us es rest)
more-split (AreMoreConstants.no_more_constants) = inl (refl, refl)
more-split (AreMoreConstants.more_constants c k more) = inr (_, _, refl, c, (_, _, k, more))

pub constants-part : {ts rest : List Token} {es : List PConst} → AreConstants ts es rest → Then IsConstant (λ e. AreMoreConstants (e ∷ [])) ts es rest
constants-part (AreConstants.constants k more) = (_, _, k, more)

abbrev pub constant_row : Row constants AreConstants AreMoreConstants
constant_row = record {
  nothing = λ all ts. AreMoreConstants.no_more_constants;
  on = λ c k more. AreMoreConstants.more_constants c k more;
  split = more-split;
  join = λ k more. AreConstants.constants k more;
  part = constants-part;
}

-- the forms of constants, by their first token
abbrev pub leaf : TokenKind → PConstForm → Sort PConst
leaf kind form = kind_then kind (λ spot. done (constant_at spot form))

abbrev pub negative_end : Spot → Sort PConst
negative_end spot = number_then (λ place n. done (constant_at spot (C.Int (neg_ℤ n))))

abbrev pub negative : Sort PConst
negative = kind_then minus negative_end

abbrev pub tuple_end : Spot → Sort PConst
tuple_end spot = and_then (listed close_bracket) (λ parts. done (constant_at spot (C.Tuple parts)))

abbrev pub tuple : Sort PConst
tuple = kind_then open_bracket tuple_end

abbrev pub list_end : Spot → Sort PConst
list_end spot = and_then (listed close_brace) (λ parts. done (constant_at spot (C.List parts)))

abbrev pub list : Sort PConst
list = kind_then open_brace list_end

abbrev pub Numbers : Phrases PConst
Numbers ts e rest = (n : ℤ) × (leaf (Number n) (C.Int n)).is ts e rest

abbrev pub Textual : Phrases PConst
Textual ts e rest = (s : List ℕ) × (leaf (Text s) (C.Text s)).is ts e rest

abbrev pub Forms : Phrases PConst
Forms ts e rest = Numbers ts e rest ⊎ (Textual ts e rest ⊎ (negative.is ts e rest ⊎ (tuple.is ts e rest ⊎ list.is ts e rest)))

pub split : {ts rest : List Token} {e : PConst} → IsConstant ts e rest → Forms ts e rest
split (IsConstant.number h) = inl (_, (_, _, refl, h, (refl, refl)))
split (IsConstant.text h) = inr (inl (_, (_, _, refl, h, (refl, refl))))
split (IsConstant.negative h n) = inr (inr (inl (_, _, refl, h, (_, _, _, refl, n, (refl, refl)))))
split (IsConstant.tuple h l) = inr (inr (inr (inl (_, _, refl, h, (_, _, l, (refl, refl))))))
split (IsConstant.list h l) = inr (inr (inr (inr (_, _, refl, h, (_, _, l, (refl, refl))))))

number-on : (n : ℤ) (ts : List Token) (e : PConst) (rest : List Token) → (leaf (Number n) (C.Int n)).is ts e rest → IsConstant ts e rest
number-on n ts e rest x = subst (λ us. IsConstant us e rest) (sym x.2) (from_done (λ b r. IsConstant (x.0 ∷ x.1) b r) x.4 (IsConstant.number x.3))

text-on : (s : List ℕ) (ts : List Token) (e : PConst) (rest : List Token) → (leaf (Text s) (C.Text s)).is ts e rest → IsConstant ts e rest
text-on s ts e rest x = subst (λ us. IsConstant us e rest) (sym x.2) (from_done (λ b r. IsConstant (x.0 ∷ x.1) b r) x.4 (IsConstant.text x.3))

minus-on : (ts : List Token) (e : PConst) (rest : List Token) → negative.is ts e rest → IsConstant ts e rest
minus-on ts e rest x = subst (λ us. IsConstant us e rest) (sym x.2) (subst (λ us. IsConstant (x.0 ∷ us) e rest) (sym x.4.3) (from_done (λ b r. IsConstant (x.0 ∷ x.4.0 ∷ x.4.1) b r) x.4.5 (IsConstant.negative x.3 x.4.4)))

tuple-on : (ts : List Token) (e : PConst) (rest : List Token) → tuple.is ts e rest → IsConstant ts e rest
tuple-on ts e rest x = subst (λ us. IsConstant us e rest) (sym x.2) (from_done (λ b r. IsConstant (x.0 ∷ x.1) b r) x.4.3 (IsConstant.tuple x.3 x.4.2))

list-on : (ts : List Token) (e : PConst) (rest : List Token) → list.is ts e rest → IsConstant ts e rest
list-on ts e rest x = subst (λ us. IsConstant us e rest) (sym x.2) (from_done (λ b r. IsConstant (x.0 ∷ x.1) b r) x.4.3 (IsConstant.list x.3 x.4.2))

number-only : (n : ℤ) (tokens : List Token) (at : ℕ) {spot : Spot} → HasNext tokens at (Number n) spot → (ts : List Token) (e : PConst) (rest : List Token) → BeginAlike (drop at tokens) ts → Forms ts e rest → (leaf (Number n) (C.Int n)).is ts e rest
number-only n tokens at here ts e rest alike (inl y) = subst (λ m. (leaf (Number m) (C.Int m)).is ts e rest) (let h : y.0 ≡ n = let f : y.1.0.kind ≡ (Number n) = (next_is tokens at y.1.0 y.1.1 here alike y.1.2) in let g : y.1.0.kind ≡ Number y.0 = y.1.3 in cc in h) y.1
number-only n tokens at here ts e rest alike (inr (inl y)) = absurd (tell_apart (Number n) (Text y.0) (sym (next_is tokens at y.1.0 y.1.1 here alike y.1.2) ∙ y.1.3) (λ e. omega (arith, e)))
number-only n tokens at here ts e rest alike (inr (inr (inl y))) = absurd (tell_apart (Number n) minus (sym (next_is tokens at y.0 y.1 here alike y.2) ∙ y.3) (λ e. omega (arith, e)))
number-only n tokens at here ts e rest alike (inr (inr (inr (inl y)))) = absurd (tell_apart (Number n) open_bracket (sym (next_is tokens at y.0 y.1 here alike y.2) ∙ y.3) (λ e. omega (arith, e)))
number-only n tokens at here ts e rest alike (inr (inr (inr (inr y)))) = absurd (tell_apart (Number n) open_brace (sym (next_is tokens at y.0 y.1 here alike y.2) ∙ y.3) (λ e. omega (arith, e)))

text-only : (s : List ℕ) (tokens : List Token) (at : ℕ) {spot : Spot} → HasNext tokens at (Text s) spot → (ts : List Token) (e : PConst) (rest : List Token) → BeginAlike (drop at tokens) ts → Forms ts e rest → (leaf (Text s) (C.Text s)).is ts e rest
text-only s tokens at here ts e rest alike (inl y) = absurd (tell_apart (Text s) (Number y.0) (sym (next_is tokens at y.1.0 y.1.1 here alike y.1.2) ∙ y.1.3) (λ e. omega (arith, e)))
text-only s tokens at here ts e rest alike (inr (inl y)) = subst (λ m. (leaf (Text m) (C.Text m)).is ts e rest) (let h : y.0 ≡ s = let f : y.1.0.kind ≡ (Text s) = (next_is tokens at y.1.0 y.1.1 here alike y.1.2) in let g : y.1.0.kind ≡ Text y.0 = y.1.3 in cc in h) y.1
text-only s tokens at here ts e rest alike (inr (inr (inl y))) = absurd (tell_apart (Text s) minus (sym (next_is tokens at y.0 y.1 here alike y.2) ∙ y.3) (λ e. omega (arith, e)))
text-only s tokens at here ts e rest alike (inr (inr (inr (inl y)))) = absurd (tell_apart (Text s) open_bracket (sym (next_is tokens at y.0 y.1 here alike y.2) ∙ y.3) (λ e. omega (arith, e)))
text-only s tokens at here ts e rest alike (inr (inr (inr (inr y)))) = absurd (tell_apart (Text s) open_brace (sym (next_is tokens at y.0 y.1 here alike y.2) ∙ y.3) (λ e. omega (arith, e)))

minus-only : (tokens : List Token) (at : ℕ) {spot : Spot} → HasNext tokens at minus spot → (ts : List Token) (e : PConst) (rest : List Token) → BeginAlike (drop at tokens) ts → Forms ts e rest → negative.is ts e rest
minus-only tokens at here ts e rest alike (inl y) = absurd (tell_apart minus (Number y.0) (sym (next_is tokens at y.1.0 y.1.1 here alike y.1.2) ∙ y.1.3) (λ e. omega (arith, e)))
minus-only tokens at here ts e rest alike (inr (inl y)) = absurd (tell_apart minus (Text y.0) (sym (next_is tokens at y.1.0 y.1.1 here alike y.1.2) ∙ y.1.3) (λ e. omega (arith, e)))
minus-only tokens at here ts e rest alike (inr (inr (inl y))) = y
minus-only tokens at here ts e rest alike (inr (inr (inr (inl y)))) = absurd (tell_apart minus open_bracket (sym (next_is tokens at y.0 y.1 here alike y.2) ∙ y.3) (λ e. omega (arith, e)))
minus-only tokens at here ts e rest alike (inr (inr (inr (inr y)))) = absurd (tell_apart minus open_brace (sym (next_is tokens at y.0 y.1 here alike y.2) ∙ y.3) (λ e. omega (arith, e)))

tuple-only : (tokens : List Token) (at : ℕ) {spot : Spot} → HasNext tokens at open_bracket spot → (ts : List Token) (e : PConst) (rest : List Token) → BeginAlike (drop at tokens) ts → Forms ts e rest → tuple.is ts e rest
tuple-only tokens at here ts e rest alike (inl y) = absurd (tell_apart open_bracket (Number y.0) (sym (next_is tokens at y.1.0 y.1.1 here alike y.1.2) ∙ y.1.3) (λ e. omega (arith, e)))
tuple-only tokens at here ts e rest alike (inr (inl y)) = absurd (tell_apart open_bracket (Text y.0) (sym (next_is tokens at y.1.0 y.1.1 here alike y.1.2) ∙ y.1.3) (λ e. omega (arith, e)))
tuple-only tokens at here ts e rest alike (inr (inr (inl y))) = absurd (tell_apart open_bracket minus (sym (next_is tokens at y.0 y.1 here alike y.2) ∙ y.3) (λ e. omega (arith, e)))
tuple-only tokens at here ts e rest alike (inr (inr (inr (inl y)))) = y
tuple-only tokens at here ts e rest alike (inr (inr (inr (inr y)))) = absurd (tell_apart open_bracket open_brace (sym (next_is tokens at y.0 y.1 here alike y.2) ∙ y.3) (λ e. omega (arith, e)))

list-only : (tokens : List Token) (at : ℕ) {spot : Spot} → HasNext tokens at open_brace spot → (ts : List Token) (e : PConst) (rest : List Token) → BeginAlike (drop at tokens) ts → Forms ts e rest → list.is ts e rest
list-only tokens at here ts e rest alike (inl y) = absurd (tell_apart open_brace (Number y.0) (sym (next_is tokens at y.1.0 y.1.1 here alike y.1.2) ∙ y.1.3) (λ e. omega (arith, e)))
list-only tokens at here ts e rest alike (inr (inl y)) = absurd (tell_apart open_brace (Text y.0) (sym (next_is tokens at y.1.0 y.1.1 here alike y.1.2) ∙ y.1.3) (λ e. omega (arith, e)))
list-only tokens at here ts e rest alike (inr (inr (inl y))) = absurd (tell_apart open_brace minus (sym (next_is tokens at y.0 y.1 here alike y.2) ∙ y.3) (λ e. omega (arith, e)))
list-only tokens at here ts e rest alike (inr (inr (inr (inl y)))) = absurd (tell_apart open_brace open_bracket (sym (next_is tokens at y.0 y.1 here alike y.2) ∙ y.3) (λ e. omega (arith, e)))
list-only tokens at here ts e rest alike (inr (inr (inr (inr y)))) = y

-- the whole phrase in other words, by its first token
pub begin_number : (n : ℤ) (tokens : List Token) (at : ℕ) {spot : Spot} (first : Region) → HasNext tokens at (Number n) spot → Stage IsConstant (drop at tokens) first (leaf (Number n) (C.Int n)) (drop at tokens) first
begin_number n tokens at first here = begin (leaf (Number n) (C.Int n)) (drop at tokens) first (number-on n) (λ ts e rest alike x. number-only n tokens at here ts e rest alike (split x))

pub begin_text : (s : List ℕ) (tokens : List Token) (at : ℕ) {spot : Spot} (first : Region) → HasNext tokens at (Text s) spot → Stage IsConstant (drop at tokens) first (leaf (Text s) (C.Text s)) (drop at tokens) first
begin_text s tokens at first here = begin (leaf (Text s) (C.Text s)) (drop at tokens) first (text-on s) (λ ts e rest alike x. text-only s tokens at here ts e rest alike (split x))

pub begin_minus : (tokens : List Token) (at : ℕ) {spot : Spot} (first : Region) → HasNext tokens at minus spot → Stage IsConstant (drop at tokens) first negative (drop at tokens) first
begin_minus tokens at first here = begin negative (drop at tokens) first minus-on (λ ts e rest alike x. minus-only tokens at here ts e rest alike (split x))

pub begin_tuple : (tokens : List Token) (at : ℕ) {spot : Spot} (first : Region) → HasNext tokens at open_bracket spot → Stage IsConstant (drop at tokens) first tuple (drop at tokens) first
begin_tuple tokens at first here = begin tuple (drop at tokens) first tuple-on (λ ts e rest alike x. tuple-only tokens at here ts e rest alike (split x))

pub begin_list : (tokens : List Token) (at : ℕ) {spot : Spot} (first : Region) → HasNext tokens at open_brace spot → Stage IsConstant (drop at tokens) first list (drop at tokens) first
begin_list tokens at first here = begin list (drop at tokens) first list-on (λ ts e rest alike x. list-only tokens at here ts e rest alike (split x))

pub number_leaf : (n : ℤ) (tokens : List Token) (at next depth : ℕ) {spot : Spot} → HasNext tokens at (Number n) spot → next ≡ at + 1 → Stage IsConstant (drop at tokens) (declaring depth) (done (constant_at spot (C.Int n))) (drop next tokens) (declaring depth)
number_leaf n tokens at next depth here there = kind_read (λ spot. done (constant_at spot (C.Int n))) tokens at next (declaring depth) (begin_number n tokens at (declaring depth) here) here there refl refl

pub text_leaf : (s : List ℕ) (tokens : List Token) (at next depth : ℕ) {spot : Spot} → HasNext tokens at (Text s) spot → next ≡ at + 1 → Stage IsConstant (drop at tokens) (declaring depth) (done (constant_at spot (C.Text s))) (drop next tokens) (declaring depth)
text_leaf s tokens at next depth here there = kind_read (λ spot. done (constant_at spot (C.Text s))) tokens at next (declaring depth) (begin_text s tokens at (declaring depth) here) here there refl refl

pub negative_open : (tokens : List Token) (at next depth : ℕ) {spot : Spot} → HasNext tokens at minus spot → next ≡ at + 1 → Stage IsConstant (drop at tokens) (declaring depth) (negative_end spot) (drop next tokens) (declaring depth)
negative_open tokens at next depth here there = kind_read negative_end tokens at next (declaring depth) (begin_minus tokens at (declaring depth) here) here there refl refl

-- no token is next that begins a constant
pub none_next : (tokens : List Token) (at : ℕ) (first : Region) → at ≤ length tokens → IsNoNumber tokens at → IsNoText tokens at → IsNotNextKind tokens at minus →
    IsNotNextKind tokens at open_bracket → IsNotNextKind tokens at open_brace → Fails IsConstant (drop at tokens) first (length tokens) (Fault.Stopped at)
none_next tokens at first inside a b c d e = stuck constants tokens at (begin constants (drop at tokens) first (λ ts e rest x. x) (λ ts e rest alike x. x)) inside (λ ts k rest alike x. none ts k rest alike (split x))
  where
    here : {ts : List Token} (t : Token) (us : List Token) → BeginAlike (drop at tokens) ts → ts ≡ t ∷ us → (others : List Token) × (drop at tokens ≡ t ∷ others)
    here t us alike is = alike-cons (drop at tokens) t us (subst (λ vs. BeginAlike (drop at tokens) vs) is alike)

    none : (ts : List Token) (k : PConst) (rest : List Token) → BeginAlike (drop at tokens) ts → Forms ts k rest → ⊥
    none ts k rest alike (inl y) = let n = here y.1.0 y.1.1 alike y.1.2 in a y.1.0 n.0 y.0 n.1 y.1.3
    none ts k rest alike (inr (inl y)) = let n = here y.1.0 y.1.1 alike y.1.2 in b y.1.0 n.0 y.0 n.1 y.1.3
    none ts k rest alike (inr (inr (inl y))) = let n = here y.0 y.1 alike y.2 in c y.0 n.0 n.1 y.3
    none ts k rest alike (inr (inr (inr (inl y)))) = let n = here y.0 y.1 alike y.2 in d y.0 n.0 n.1 y.3
    none ts k rest alike (inr (inr (inr (inr y)))) = let n = here y.0 y.1 alike y.2 in e y.0 n.0 n.1 y.3

pub tuple_open : (tokens : List Token) (at next depth inside levels : ℕ) {spot : Spot} → HasNext tokens at open_bracket spot → next ≡ at + 1 → levels ≡ inside + 1 → levels + depth ≡ 64 →
    Stage IsConstant (drop at tokens) (declaring depth) (tuple_end spot) (drop next tokens) (declaring (depth + 1))
tuple_open tokens at next depth inside levels here there some fits =
    kind_read tuple_end tokens at next (declaring (depth + 1)) (begin_tuple tokens at (declaring depth) here) here there (opening_small depth inside levels some fits) refl

pub tuple_deep : (tokens : List Token) (at depth levels : ℕ) {spot : Spot} → HasNext tokens at open_bracket spot → levels ≡ 0 → levels + depth ≡ 64 →
    Fails IsConstant (drop at tokens) (declaring depth) (length tokens) (Fault.TooFar at)
tuple_deep tokens at depth levels here none fits =
    kind_far tuple_end tokens at (begin_tuple tokens at (declaring depth) here) here (opening_deep depth levels none fits)

pub list_open : (tokens : List Token) (at next depth inside levels : ℕ) {spot : Spot} → HasNext tokens at open_brace spot → next ≡ at + 1 → levels ≡ inside + 1 → levels + depth ≡ 64 →
    Stage IsConstant (drop at tokens) (declaring depth) (list_end spot) (drop next tokens) (declaring (depth + 1))
list_open tokens at next depth inside levels here there some fits =
    kind_read list_end tokens at next (declaring (depth + 1)) (begin_list tokens at (declaring depth) here) here there (opening_small depth inside levels some fits) refl

pub list_deep : (tokens : List Token) (at depth levels : ℕ) {spot : Spot} → HasNext tokens at open_brace spot → levels ≡ 0 → levels + depth ≡ 64 →
    Fails IsConstant (drop at tokens) (declaring depth) (length tokens) (Fault.TooFar at)
list_deep tokens at depth levels here none fits =
    kind_far list_end tokens at (begin_list tokens at (declaring depth) here) here (opening_deep depth levels none fits)

-- a sign that ends a list of constants
pub end_small : (close n : ℕ) → IsEnd close → is_too_deep (declaring n) (Sign close) ≡ false
end_small close n (inl h) = subst (λ k. is_too_deep (declaring n) (Sign k) ≡ false) (sym h) refl
end_small close n (inr (inl h)) = subst (λ k. is_too_deep (declaring n) (Sign k) ≡ false) (sym h) refl
end_small close n (inr (inr h)) = subst (λ k. is_too_deep (declaring n) (Sign k) ≡ false) (sym h) refl

pub end_not : (close k : ℕ) → IsEnd close → (k ≡ 1 → ⊥) → (k ≡ 3 → ⊥) → (k ≡ 7 → ⊥) → Sign close ≡ Sign k → ⊥
end_not close k (inl e) a b c h = a (let g : close ≡ k = cc in sym g ∙ e)
end_not close k (inr (inl e)) a b c h = b (let g : close ≡ k = cc in sym g ∙ e)
end_not close k (inr (inr e)) a b c h = c (let g : close ≡ k = cc in sym g ∙ e)

pub end-comma : (close : ℕ) → IsEnd close → Sign close ≡ comma → ⊥
end-comma close is = end_not close 6 is (λ e. omega (arith, e)) (λ e. omega (arith, e)) (λ e. omega (arith, e))

abbrev ListedForms : (close : ℕ) → Phrases (List PConst)
ListedForms close ts es rest = WithKind (Sign close) (λ spot. Done []) ts es rest ⊎ (row_up_to constant_row (Sign close)).is ts es rest

listed-split : {close : ℕ} {ts rest : List Token} {es : List PConst} → AreItems (Sign close) ts es rest → ListedForms close ts es rest
listed-split (AreItems.nothing c) = inl (_, _, refl, c, (refl, refl))
listed-split (AreItems.some ks c) = inr (_, _, ks, (_, refl, c, refl))

not-close : (close : ℕ) → IsEnd close → {ts rest : List Token} {e : PConst} (tokens : List Token) (at : ℕ) {spot : Spot} → HasNext tokens at (Sign close) spot → BeginAlike (drop at tokens) ts → Forms ts e rest → ⊥
not-close close is tokens at here alike (inl y) = let h : Sign close ≡ Number y.0 = sym (next_is tokens at y.1.0 y.1.1 here alike y.1.2) ∙ y.1.3 in cc
not-close close is tokens at here alike (inr (inl y)) = let h : Sign close ≡ Text y.0 = sym (next_is tokens at y.1.0 y.1.1 here alike y.1.2) ∙ y.1.3 in cc
not-close close is tokens at here alike (inr (inr (inl y))) = end_not close 17 is (λ e. omega (arith, e)) (λ e. omega (arith, e)) (λ e. omega (arith, e)) (sym (next_is tokens at y.0 y.1 here alike y.2) ∙ y.3)
not-close close is tokens at here alike (inr (inr (inr (inl y)))) = end_not close 2 is (λ e. omega (arith, e)) (λ e. omega (arith, e)) (λ e. omega (arith, e)) (sym (next_is tokens at y.0 y.1 here alike y.2) ∙ y.3)
not-close close is tokens at here alike (inr (inr (inr (inr y)))) = end_not close 0 is (λ e. omega (arith, e)) (λ e. omega (arith, e)) (λ e. omega (arith, e)) (sym (next_is tokens at y.0 y.1 here alike y.2) ∙ y.3)

pub listed_none : (tokens : List Token) (at next depth close : ℕ) (last : Region) {spot : Spot} → IsEnd close → HasNext tokens at (Sign close) spot → next ≡ at + 1 → after (declaring depth) (Sign close) ≡ last →
    Stage (AreItems (Sign close)) (drop at tokens) (declaring depth) (done []) (drop next tokens) last
listed_none tokens at next depth close last is here there then_at =
    kind_read (λ spot. done []) tokens at next last
    (begin (kind_then (Sign close) (λ spot. done [])) (drop at tokens) (declaring depth)
    (λ ts es rest x. subst (λ us. AreItems (Sign close) us es rest) (sym x.2) (from_done (λ b r. AreItems (Sign close) (x.0 ∷ x.1) b r) x.4 (AreItems.nothing x.3)))
    (λ ts es rest alike x. elim (listed-split x) as (λ w. WithKind (Sign close) (λ spot. Done []) ts es rest) [ inl y ↦ y | inr y ↦ absurd (let p = constants-part y.2 in not-close close is tokens at here alike (split p.2)) ]))
    here there (end_small close depth is) then_at

pub listed_some : (tokens : List Token) (at close : ℕ) (first : Region) → IsNotNextKind tokens at (Sign close) →
    Stage (AreItems (Sign close)) (drop at tokens) first (row_up_to constant_row (Sign close)) (drop at tokens) first
listed_some tokens at close first other = begin (row_up_to constant_row (Sign close)) (drop at tokens) first
    (λ ts es rest x. subst (λ ks. AreItems (Sign close) ts ks rest) (sym x.3.3) (AreItems.some (subst (λ us. AreConstants ts x.0 us) x.3.1 x.2) x.3.2))
    (λ ts es rest alike x. elim (listed-split x) as (λ w. (row_up_to constant_row (Sign close)).is ts es rest) [
      | inl y ↦ absurd (let next = alike-cons (drop at tokens) y.0 y.1 (subst (λ us. BeginAlike (drop at tokens) us) y.2 alike) in other y.0 next.0 next.1 y.3)
      | inr y ↦ y
    ])
