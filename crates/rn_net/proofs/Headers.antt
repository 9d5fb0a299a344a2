-- What comes before the items of a text: nothing, or `notation 2;`.
use Rattle.rn_net.proofs.Names.{◌≡◌, ℕ, pos, ◌+◌, false, List, [], ◌∷◌, ◌++◌, drop, refl, sym, ◌∙◌, ap, subst, arith, Spot, Token, TokenKind, Number, BeginAlike, IsNotNextKind, Plain, Top, Halts, IsBare, IsShallow, after, is_too_deep, region_after, between, IsSystem, plain_of, with_item, HasNext, notation_name, semicolon, any, alike-cons}
use Rattle.rn_net.specs.Nets.{AreItems}
use Rattle.rn_net.proofs.NetPhrases.{item_sort}
use Rattle.rn_net.proofs.Systems.{items-on, no-header, no-item}

as-first : (ts : List Token) (p : Plain) → (ts ≡ [] → ⊥) → AreItems 1 (plain_of 1 [] []) ts p → IsSystem ts p
as-first [] p some x = absurd (some refl)
as-first (t ∷ ts) p some x = IsSystem.first x

as-second : (t u v : Token) (ts : List Token) (p : Plain) → t.kind ≡ notation_name → u.kind ≡ Number (pos 2) → v.kind ≡ semicolon → (ts ≡ [] → ⊥) → AreItems 2 (plain_of 2 [] []) ts p → IsSystem (t ∷ u ∷ v ∷ ts) p
as-second t u v [] p h k c some x = absurd (some refl)
as-second t u v (w ∷ ts) p h k c some x = IsSystem.second h k c x

-- a text of notation 1
only-first : {ts : List Token} {p : Plain} (tokens : List Token) → IsNotNextKind tokens 0 notation_name → IsSystem ts p → BeginAlike tokens ts → AreItems 1 (plain_of 1 [] []) ts p
only-first tokens other (IsSystem.first x) alike = x
only-first tokens other (IsSystem.second {t = t} {u = u} {v = v} {w = w} {ts = ts} h k c x) alike =
    let n = alike-cons tokens t (u ∷ v ∷ w ∷ ts) alike in absurd (other t n.0 n.1 h)

some-system : {ts : List Token} {p : Plain} → IsSystem ts p → ts ≡ [] → ⊥
some-system (IsSystem.first x) e = let f = e in cc
some-system (IsSystem.second h k c x) e = let f = e in cc

pub header_none : (tokens : List Token) → IsNotNextKind tokens 0 notation_name → Top tokens (drop 0 tokens) (plain_of 1 [] []) × IsBare tokens (drop 0 tokens)
header_none tokens other = (
  record {
    taken = [];
    whole = refl;
    on = λ ts p some x. as-first ts p some x;
    only = λ ts p alike x. only-first tokens other x alike;
    within = tt;
    count = refl;
  },
  λ none p x. some-system x none,
)

-- its three tokens are in no level and no operators
Flat : TokenKind → TokenKind → TokenKind → Type 0
Flat x y z = ((is_too_deep between x ≡ false) × ((is_too_deep (after between x) y ≡ false) × ((is_too_deep (after (after between x) y) z ≡ false) × Unit {0})))
    × (after (after (after between x) y) z ≡ between)

header-flat : (t u v : Token) → t.kind ≡ notation_name → u.kind ≡ Number (pos 2) → v.kind ≡ semicolon → IsShallow between (t ∷ u ∷ v ∷ []) × (region_after between (t ∷ u ∷ v ∷ []) ≡ between)
unfolding Flat
header-flat t u v h k c =
    subst (λ x. Flat x u.kind v.kind) (sym h) (subst (λ y. Flat notation_name y v.kind) (sym k) (subst (λ z. Flat notation_name (Number (pos 2)) z) (sym c) ((refl, (refl, (refl, tt))), refl)))

-- nothing else begins so
after-header : {us : List Token} {p : Plain} (t u v : Token) (ts : List Token) → t.kind ≡ notation_name → IsSystem us p → us ≡ t ∷ u ∷ v ∷ ts → AreItems 2 (plain_of 2 [] []) ts p × (ts ≡ [] → ⊥)
after-header t u v ts h (IsSystem.first {t = s} x) is = absurd (no-header 1 x ((let e : s ≡ t = cc in ap (λ w. w.kind) e) ∙ h))
after-header {p = p} t u v ts h (IsSystem.second {w = w} {ts = vs} i k c x) is =
    let same : ts ≡ w ∷ vs = cc in (subst (λ ws. AreItems 2 (plain_of 2 [] []) ws p) (sym same) x, λ e. (let f : w ∷ vs ≡ [] = sym same ∙ e in cc))

pub header_given : {r s q : Spot} (tokens : List Token) (i j k : ℕ) → HasNext tokens 0 notation_name r → i ≡ 0 + 1 → HasNext tokens i (Number (pos 2)) s → j ≡ i + 1 → HasNext tokens j semicolon q → k ≡ j + 1 →
    Top tokens (drop k tokens) (plain_of 2 [] []) × IsBare tokens (drop k tokens)
header_given tokens i j k a i_is b j_is c k_is = (
  record {
    taken = a.0 ∷ b.0 ∷ c.0 ∷ [];
    whole = whole;
    on = λ ts p some x. as-second a.0 b.0 c.0 ts p a.2 b.2 c.2 some x;
    only = λ ts p alike x. (after-header a.0 b.0 c.0 ts a.2 x refl).0;
    within = (header-flat a.0 b.0 c.0 a.2 b.2 c.2).0;
    count = (header-flat a.0 b.0 c.0 a.2 b.2 c.2).1;
  },
  λ none p x. (after-header a.0 b.0 c.0 (drop k tokens) a.2 x whole).1 none,
)
  where
    whole : tokens ≡ a.0 ∷ b.0 ∷ c.0 ∷ drop k tokens
    whole = a.1.0 ∙ ap (λ us. a.0 ∷ us) (ap (λ n. drop n tokens) (sym i_is) ∙ b.1.0)
        ∙ ap (λ us. a.0 ∷ b.0 ∷ us) (ap (λ n. drop n tokens) (sym j_is) ∙ c.1.0)
        ∙ ap (λ n. a.0 ∷ b.0 ∷ c.0 ∷ drop n tokens) (sym k_is)

-- some text goes on after its first tokens
goes-on : (t u v : Token) → t.kind ≡ notation_name → u.kind ≡ Number (pos 2) → v.kind ≡ semicolon → (ts : List Token) × (p : Plain) × IsSystem (t ∷ u ∷ v ∷ ts) p
goes-on t u v h k c =
    let y = (item_sort 2).ends in
    let x = y.2 [] in (
      y.0 ++ [],
      with_item (plain_of 2 [] []) y.1,
      as-second t u v (y.0 ++ []) (with_item (plain_of 2 [] []) y.1) h k c
          (λ e. no-item 2 y.1 [] (subst (λ us. (item_sort 2).is us y.1 []) e x)) (items-on y.1 x AreItems.no_more_items),
    )

-- no `2` is next
pub header_open : {r : Spot} (tokens : List Token) (i : ℕ) → HasNext tokens 0 notation_name r → i ≡ 0 + 1 → IsNotNextKind tokens i (Number (pos 2)) → Halts tokens i
header_open tokens i a i_is other = record {
  before = a.0 ∷ [];
  left = drop i tokens;
  parts = a.1.0 ∙ ap (λ n. a.0 ∷ drop n tokens) (sym i_is);
  stands = i_is;
  begins = (let y = goes-on a.0 (any (Number (pos 2))) (any semicolon) a.2 refl refl in (any (Number (pos 2)) ∷ any semicolon ∷ y.0, y.1, (y.2, refl)));
  none = λ ts p alike ends x. by ts p alike x refl;
  within = (refl, tt);
}
  where
    by : {us : List Token} (ts : List Token) (p : Plain) → BeginAlike (drop i tokens) ts → IsSystem us p → us ≡ a.0 ∷ ts → ⊥
    by ts p alike (IsSystem.first {t = s} x) is = no-header 1 x ((let e : s ≡ a.0 = cc in ap (λ w. w.kind) e) ∙ a.2)
    by ts p alike (IsSystem.second {u = u} {v = v} {w = w} {ts = vs} h k c x) is =
        let same : ts ≡ u ∷ v ∷ w ∷ vs = cc in
        let n = alike-cons (drop i tokens) u (v ∷ w ∷ vs) (subst (λ us. BeginAlike (drop i tokens) us) same alike) in
        other u n.0 n.1 k

-- no semicolon is next
pub header_unclosed : {r s : Spot} (tokens : List Token) (i j : ℕ) → HasNext tokens 0 notation_name r → i ≡ 0 + 1 → HasNext tokens i (Number (pos 2)) s → j ≡ i + 1 → IsNotNextKind tokens j semicolon → Halts tokens j
header_unclosed tokens i j a i_is b j_is other = record {
  before = a.0 ∷ b.0 ∷ [];
  left = drop j tokens;
  parts = a.1.0 ∙ ap (λ us. a.0 ∷ us) (ap (λ n. drop n tokens) (sym i_is) ∙ b.1.0) ∙ ap (λ n. a.0 ∷ b.0 ∷ drop n tokens) (sym j_is);
  stands = (let h : j ≡ 2 = omega (arith, i_is, j_is) in h);
  begins = (let y = goes-on a.0 b.0 (any semicolon) a.2 b.2 refl in (any semicolon ∷ y.0, y.1, (y.2, refl)));
  none = λ ts p alike ends x. by ts p alike x refl;
  within = (let f = header-flat a.0 b.0 (any semicolon) a.2 b.2 refl in (f.0.0, (f.0.1.0, tt)));
}
  where
    by : {us : List Token} (ts : List Token) (p : Plain) → BeginAlike (drop j tokens) ts → IsSystem us p → us ≡ a.0 ∷ b.0 ∷ ts → ⊥
    by ts p alike (IsSystem.first {t = s} x) is = no-header 1 x ((let e : s ≡ a.0 = cc in ap (λ w. w.kind) e) ∙ a.2)
    by ts p alike (IsSystem.second {v = v} {w = w} {ts = vs} h k c x) is =
        let same : ts ≡ v ∷ w ∷ vs = cc in
        let n = alike-cons (drop j tokens) v (w ∷ vs) (subst (λ us. BeginAlike (drop j tokens) us) same alike) in
        other v n.0 n.1 c
