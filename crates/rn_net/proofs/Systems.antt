-- How the items of a text follow one another.
use Rattle.rn_net.proofs.Names.{◌≡◌, ℕ, ◌<◌, ◌⊎◌, inl, inr, true, List, [], ◌∷◌, ◌++◌, length, drop, refl, sym, ◌∙◌, ap, subst, append_assoc, arith, length-append, length-drop, Token, BeginAlike, CanEnd, done, ReadFault, Plain, Item, IsShallow, region_after, is_too_deep, net_counting, between, IsSystem, IsItem, with_item, Stage, Fails, IsBeginning, Top, Ends, IsBare, notation_name, channel_word, net_word, alike-append, count-append, within-append}
use Rattle.rn_reading.specs.declared.fault.ReadFault.TheVariants as Fault
use Rattle.rn_net.specs.Nets.{AreItems}
use Rattle.rn_net.proofs.Sorts.{tell_apart}
use Rattle.rn_net.proofs.NetPhrases.{item-begins}

pub items-on : {ts mid : List Token} (i : Item) {p e : Plain} → IsItem p.notation ts i mid → AreItems p.notation (with_item p i) mid e → AreItems p.notation p ts e
items-on (Item.Channel channel) x rest = AreItems.and_channel x rest
items-on (Item.Net net) x rest = AreItems.and_net x rest

abbrev pub Split : ℕ → Plain → List Token → Plain → Type 0
Split notation p ts e = ((ts ≡ []) × (e ≡ p)) ⊎ ((i : Item) × (mid : List Token) × IsItem notation ts i mid × AreItems notation (with_item p i) mid e)

pub items-split : (notation : ℕ) {p e : Plain} {ts : List Token} → AreItems notation p ts e → Split notation p ts e
items-split notation (AreItems.no_more_items) = inl (refl, refl)
items-split notation (AreItems.and_channel {channel = channel} x rest) = inr (Item.Channel channel, _, x, rest)
items-split notation (AreItems.and_net {net = net} x rest) = inr (Item.Net net, _, x, rest)

pub no-item : (notation : ℕ) (i : Item) (rest : List Token) → IsItem notation [] i rest → ⊥
no-item notation i rest x = let y = item-begins notation [] rest i x in let e = y.2 in cc

-- no channel or net begins with a name
pub no-header : (notation : ℕ) {p e : Plain} {t : Token} {ts : List Token} → AreItems notation p (t ∷ ts) e → t.kind ≡ notation_name → ⊥
no-header notation {t = t} {ts = ts} y h = elim (items-split notation y) as (λ w. ⊥) [
  | inl d ↦ (let e = d.0 in cc)
  | inr g ↦
      let w = item-begins notation (t ∷ ts) g.1 g.0 g.2 in
      let same : t ≡ w.0 = let e = w.2 in cc in
      elim w.3 as (λ v. ⊥) [
        | inl e ↦ tell_apart notation_name channel_word (sym h ∙ ap (λ u. u.kind) same ∙ e) (λ d. omega (arith, d))
        | inr e ↦ tell_apart notation_name net_word (sym h ∙ ap (λ u. u.kind) same ∙ e) (λ d. omega (arith, d))
      ]
]

nothing : (a b : List Token) → a ++ b ≡ [] → b ≡ []
nothing [] b e = e
nothing (x ∷ a) b e = absurd cc

-- an item is read
pub top_read : {tokens mid left : List Token} {p : Plain} {i : Item} → Top tokens mid p → Stage (IsItem p.notation) mid between (done i) left between → Top tokens left (with_item p i)
top_read {tokens = tokens} {mid = mid} {left = left} {p = p} {i = i} s x = record {
  taken = s.taken ++ x.taken;
  whole = s.whole ∙ ap (λ us. s.taken ++ us) x.whole ∙ sym (append_assoc s.taken x.taken left);
  on = λ ts e more y. subst (λ us. IsSystem us e) (sym (append_assoc s.taken x.taken ts)) (s.on (x.taken ++ ts) e (λ n. more (nothing x.taken ts n)) (items-on i (x.on ts i ts (refl, refl)) (kept i y)));
  only = λ ts e alike y.
      let z = s.only (x.taken ++ ts) e (subst (λ us. BeginAlike us (x.taken ++ ts)) (sym x.whole) (alike-append x.taken left ts alike)) (subst (λ us. IsSystem us e) (append_assoc s.taken x.taken ts) y) in
      kept-back i (elim (items-split p.notation {p = p} {e = e} {ts = x.taken ++ ts} z) as (λ w. AreItems p.notation (with_item p i) ts e) [
        | inl d ↦ absurd (no-item p.notation i ts (subst (λ us. IsItem p.notation us i ts) d.0 (x.on ts i ts (refl, refl))))
        | inr g ↦ let d = x.only ts g.0 g.1 alike tt g.2 in subst (λ us. AreItems p.notation (with_item p i) us e) d.1 (subst (λ j. AreItems p.notation (with_item p j) g.1 e) d.0 g.3)
      ]);
  within = within-append net_counting between s.taken x.taken s.within (subst (λ r. IsShallow r x.taken) (sym s.count) x.within);
  count = count-append net_counting between s.taken x.taken ∙ ap (λ r. region_after r x.taken) s.count ∙ x.count;
}
  where
    kept : {ts : List Token} {e : Plain} (i : Item) → AreItems (with_item p i).notation (with_item p i) ts e → AreItems p.notation (with_item p i) ts e
    kept (Item.Channel channel) y = y
    kept (Item.Net net) y = y

    kept-back : {ts : List Token} {e : Plain} (i : Item) → AreItems p.notation (with_item p i) ts e → AreItems (with_item p i).notation (with_item p i) ts e
    kept-back (Item.Channel channel) y = y
    kept-back (Item.Net net) y = y

-- the last item is read
pub top_last : {tokens mid left : List Token} {p : Plain} {i : Item} → Top tokens mid p → Stage (IsItem p.notation) mid between (done i) left between → left ≡ [] → Top tokens [] (with_item p i) × IsSystem tokens (with_item p i)
top_last {tokens = tokens} {mid = mid} {left = left} {p = p} {i = i} s x none = (
  subst (λ us. Top tokens us (with_item p i)) none (top_read s x),
  subst (λ us. IsSystem us (with_item p i)) (sym (s.whole ∙ ap (λ us. s.taken ++ us) (x.whole ∙ ap (λ us. x.taken ++ us) none)))
      (s.on (x.taken ++ []) (with_item p i) (λ e. no-item p.notation i [] (subst (λ us. IsItem p.notation us i []) e (x.on [] i [] (refl, refl)))) (items-on i (x.on [] i [] (refl, refl)) AreItems.no_more_items)),
)

-- what is taken, and then what an item can go on with, is a beginning
pub begins-with : {tokens mid : List Token} {p : Plain} (s : Top tokens mid p) (ts : List Token) → CanEnd (λ us. IsItem p.notation (ts ++ us)) → IsBeginning (s.taken ++ ts)
begins-with {p = p} s ts end =
    let item : IsItem p.notation (ts ++ (end.0 ++ [])) end.1 [] = end.2 [] in (
      end.0 ++ [],
      with_item p end.1,
      (
        subst (λ us. IsSystem us (with_item p end.1)) (sym (append_assoc s.taken ts (end.0 ++ [])))
            (s.on (ts ++ (end.0 ++ [])) (with_item p end.1) (λ e. no-item p.notation end.1 [] (subst (λ us. IsItem p.notation us end.1 []) e item)) (items-on end.1 item AreItems.no_more_items)),
        refl,
      ),
    )

pub top_fails : {tokens mid : List Token} {p : Plain} (e : ReadFault) → IsBare tokens mid → Top tokens mid p → Fails (IsItem p.notation) mid between (length tokens) e → Ends tokens e
top_fails {tokens = tokens} {mid = mid} {p = p} (Fault.Stopped k) bare s f = let x = f.1 in record {
  before = s.taken ++ x.taken;
  left = f.0;
  parts = parts;
  stands = (let a = ap length parts in let b = length-append (s.taken ++ x.taken) f.0 in omega (arith, a, b, f.2));
  begins = begins-with s x.taken x.begins;
  none = λ ts e alike ends y.
      let z = s.only (x.taken ++ ts) e (subst (λ us. BeginAlike us (x.taken ++ ts)) (sym x.whole) (alike-append x.taken f.0 ts alike)) (subst (λ us. IsSystem us e) (append_assoc s.taken x.taken ts) y) in
      elim (items-split p.notation {p = p} {e = e} {ts = x.taken ++ ts} z) as (λ w. ⊥) [
        | inl d ↦
            let none : ts ≡ [] = nothing x.taken ts d.0 in
            let same : f.0 ≡ ts = ends none ∙ sym none in
            bare (x.whole ∙ ap (λ us. x.taken ++ us) same ∙ d.0) e (subst (λ us. IsSystem us e) (ap (λ us. (s.taken ++ x.taken) ++ us) (sym same) ∙ sym parts) y)
        | inr g ↦ x.none ts g.0 g.1 alike tt g.2
      ];
  within = within-append net_counting between s.taken x.taken s.within (subst (λ r. IsShallow r x.taken) (sym s.count) x.within);
}
  where
    parts : tokens ≡ (s.taken ++ f.1.taken) ++ f.0
    parts = s.whole ∙ ap (λ us. s.taken ++ us) f.1.whole ∙ sym (append_assoc s.taken f.1.taken f.0)
top_fails {tokens = tokens} {mid = mid} {p = p} (Fault.TooFar k) bare s f = let x = f.1 in record {
  before = s.taken ++ x.taken;
  token = x.token;
  left = x.others;
  parts = parts ∙ ap (λ us. (s.taken ++ x.taken) ++ us) x.next;
  stands = (let a = ap length parts in let b = length-append (s.taken ++ x.taken) f.0 in omega (arith, a, b, f.2));
  begins = subst IsBeginning (sym (append_assoc s.taken x.taken (x.token ∷ []))) (begins-with s (x.taken ++ x.token ∷ []) (x.begins.0, x.begins.1, λ rest. subst (λ us. IsItem p.notation us x.begins.1 rest) (sym (append_assoc x.taken (x.token ∷ []) (x.begins.0 ++ rest))) (x.begins.2 rest)));
  within = within-append net_counting between s.taken x.taken s.within (subst (λ r. IsShallow r x.taken) (sym s.count) x.within);
  deep = subst (λ r. is_too_deep r x.token.kind ≡ true) (ap (λ r. region_after r x.taken) (sym s.count) ∙ sym (count-append net_counting between s.taken x.taken)) x.far;
}
  where
    parts : tokens ≡ (s.taken ++ f.1.taken) ++ f.0
    parts = s.whole ∙ ap (λ us. s.taken ++ us) f.1.whole ∙ sym (append_assoc s.taken f.1.taken f.0)
top_fails (Fault.NoMemory _) bare s f = tt

-- an item leaves the notation
pub same_notation : (p : Plain) (i : Item) → (with_item p i).notation ≡ p.notation
same_notation p (Item.Channel channel) = refl
same_notation p (Item.Net net) = refl

-- where an index is at the end, or isn't
none-of : (ts : List Token) → length ts ≡ 0 → ts ≡ []
none-of [] h = refl
none-of (t ∷ ts) h = absurd (omega (arith, h))

pub at_end : (tokens : List Token) (at : ℕ) → at ≡ length tokens → drop at tokens ≡ []
at_end tokens at h = none-of (drop at tokens) (omega (arith, h, length-drop at tokens))

pub not_bare : (tokens : List Token) (at : ℕ) → at < length tokens → IsBare tokens (drop at tokens)
not_bare tokens at h = λ none p x. let e : length (drop at tokens) ≡ 0 = ap length none in omega (arith, e, h, length-drop at tokens)
