-- Phrases that begin with a whole expression or inscription, which ends where a comma or a semicolon
-- comes next, and how they are read.
use Rattle.rn_net.proofs.Names.{◌≡◌, ℕ, ◌+◌, ◌≤◌, ◌⊎◌, inl, inr, true, false, ◌&&◌, List, [], ◌∷◌, ◌++◌, length, drop, refl, sym, ◌∙◌, ap, subst, append_assoc, arith, nat_eq, if◌then◌else◌, length-append, length-drop, drop-drop, drop-append_seam, nat_tests, common_steps, Token, TokenKind, Name, Word, Number, Text, Sign, Phrases, BeginAlike, CanEnd, Sort, close_brace, comma, IsNotNextKind, Count, IsWithin, at_first, after_token, count_after, goes_too_far, Wholes, IsPrefix, IsLongest, IsReading, ReadFault, semicolon, Region, is_too_deep, after, begun_by, inscribed_from, is_semicolon, is_comma, open_after, region_after, IsShallow, net_counting, between, inscribing, Stage, Fails, Refuses, Anything, Progress, append-nil, alike-cons, too_far, split-at}
use Rattle.rn_reading.specs.declared.fault.ReadFault.TheVariants as Fault
use Rattle.rn_reading.proofs.Steps.{take, change, stuck}
use Rattle.rn_net.proofs.Fronts.{is_inside, Passes, AreInside}

-- some tokens are taken at once
taken : {A : Type 0} {X : Phrases A} {start left : List Token} {first : Region} (Y : Phrases A) (some : List Token) (now : Region) →
    Progress net_counting Anything X start first Y (some ++ left) now → IsShallow now some → Progress net_counting Anything X start first (λ ts. Y (some ++ ts)) left (region_after now some)
taken Y [] now s small = s
taken Y (t ∷ some) now s small = taken (λ ts. Y (t ∷ ts)) some (after now t.kind) (take net_counting Anything s small.0) small.1

-- a comma or a semicolon
abbrev pub IsOut : TokenKind → Type 0
IsOut kind = (kind ≡ semicolon) ⊎ (kind ≡ comma)

-- outside of brackets neither is inside a phrase
pub out : {A : Type 0} (j : ℕ) (kind : TokenKind) → IsOut kind → Passes 0 j kind → A
out j kind (inl is) p = absurd (let a : is_inside kind ≡ false = ap is_inside is in let b = p.inside in cc)
out j kind (inr is) p = absurd (let a : (is_comma kind && nat_eq 0 0) ≡ true = ap (λ k. is_comma k && nat_eq 0 0) is in let b = p.apart in cc)

pub inside-front : (i k : ℕ) (a b : List Token) → AreInside i k (a ++ b) → (j : ℕ) × AreInside i j a
inside-front i k [] b h = (i, refl)
inside-front i k (t ∷ a) b h = let r = inside-front h.0 k a b h.2 in (r.0, (h.0, h.1, r.1))

same-depth : {i j k : ℕ} {kind : TokenKind} → Passes i j kind → Passes i k kind → j ≡ k
same-depth p q = sym p.depth ∙ q.depth

pub inside-back : (i j k : ℕ) (a b : List Token) → AreInside i j a → AreInside i k (a ++ b) → AreInside j k b
inside-back i j k [] b x y = subst (λ n. AreInside n k b) x y
inside-back i j k (t ∷ a) b x y = inside-back x.0 j k a b x.2 (subst (λ n. AreInside n k (a ++ b)) (same-depth y.1 x.1) y.2)

-- where the first token stands that is in no phrase is given by the tokens
pub unique : (i : ℕ) (p q : List Token) (u v : Token) (r s : List Token) → AreInside i 0 p → AreInside i 0 q → IsOut u.kind → IsOut v.kind → p ++ u ∷ r ≡ q ++ v ∷ s → (p ≡ q) × (u ∷ r ≡ v ∷ s)
unique i [] [] u v r s a b h k is = (refl, is)
unique i [] (y ∷ q) u v r s a b h k is = out b.0 y.kind (let e : y ≡ u = cc in subst (λ w. IsOut w.kind) (sym e) h) (subst (λ n. Passes n b.0 y.kind) a b.1)
unique i (x ∷ p) [] u v r s a b h k is = out a.0 x.kind (let e : x ≡ v = cc in subst (λ w. IsOut w.kind) (sym e) k) (subst (λ n. Passes n a.0 x.kind) b a.1)
unique i (x ∷ p) (y ∷ q) u v r s a b h k is =
    let here : x ≡ y = cc in
    let depth : b.0 ≡ a.0 = same-depth b.1 (subst (λ w. Passes i a.0 w.kind) here a.1) in
    let rest = unique a.0 p q u v r s a.2 (subst (λ n. AreInside n 0 q) depth b.2) h k (let e : p ++ u ∷ r ≡ q ++ v ∷ s = cc in e) in
    (ap (λ us. x ∷ us) rest.0 ∙ ap (λ w. w ∷ q) here, rest.1)

-- levels and operators of the text are those of the phrase
not-semicolon : (kind : TokenKind) → is_inside kind ≡ true → is_semicolon kind ≡ false
not-semicolon (Sign k) h = grind (arith, nat_tests, common_steps)
not-semicolon (Word k) h = refl
not-semicolon (Name s) h = refl
not-semicolon (Number n) h = refl
not-semicolon (Text s) h = refl

step : (i j : ℕ) (c : Count) (kind : TokenKind) → Passes i j kind → after (inscribing i c) kind ≡ inscribing j (after_token c kind)
step i j c kind p =
    ap (λ b. if b then between else if is_comma kind && nat_eq i 0 then inscribing 0 at_first else inscribing (open_after i kind) (after_token c kind)) (not-semicolon kind p.inside)
    ∙ ap (λ b. if b then inscribing 0 at_first else inscribing (open_after i kind) (after_token c kind)) p.apart
    ∙ ap (λ n. inscribing n (after_token c kind)) p.depth

region-inside : (i j : ℕ) (c : Count) (ts : List Token) → AreInside i j ts → region_after (inscribing i c) ts ≡ inscribing j (count_after c ts)
region-inside i j c [] h = ap (λ n. inscribing n c) h
region-inside i j c (t ∷ ts) h = ap (λ r. region_after r ts) (step i h.0 c t.kind h.1) ∙ region-inside h.0 j (after_token c t.kind) ts h.2

shallow-inside : (i j : ℕ) (c : Count) (ts : List Token) → AreInside i j ts → IsWithin c ts → IsShallow (inscribing i c) ts
shallow-inside i j c [] h w = tt
shallow-inside i j c (t ∷ ts) h w = (w.0, subst (λ r. IsShallow r ts) (sym (step i h.0 c t.kind h.1)) (shallow-inside h.0 j (after_token c t.kind) ts h.2 w.1))

begun-from : (kind : TokenKind) → is_inside kind ≡ true → (kind ≡ close_brace → ⊥) → begun_by kind ≡ inscribed_from kind
begun-from (Word k) h other = grind (arith, nat_tests, common_steps)
begun-from (Sign k) h other = let ne : (k ≡ 1 → ⊥) = λ e. other (ap Sign e) in grind (arith, nat_tests, common_steps)
begun-from (Name s) h other = refl
begun-from (Number n) h other = refl
begun-from (Text s) h other = refl

begun : (j : ℕ) (kind : TokenKind) → Passes 0 j kind → (kind ≡ close_brace → ⊥) → begun_by kind ≡ inscribing j (after_token at_first kind)
begun j kind p other = begun-from kind p.inside other ∙ ap (λ n. inscribing n (after_token at_first kind)) p.depth

-- where the tokens of a phrase begin, their levels and operators are counted anew
pub record Fresh (now : Region) (j : ℕ) (ts : List Token) : Type 0 where
  pub shallow : IsWithin at_first ts → IsShallow now ts
  pub deep : (kind : TokenKind) → goes_too_far (count_after at_first ts) kind ≡ true → is_too_deep (region_after now ts) kind ≡ true
  pub region : (ts ≡ [] → ⊥) → region_after now ts ≡ inscribing j (count_after at_first ts)

-- after the comma before it
pub fresh_first : (j : ℕ) (ts : List Token) → AreInside 0 j ts → Fresh (inscribing 0 at_first) j ts
fresh_first j ts h = record {
  shallow = λ w. shallow-inside 0 j at_first ts h w;
  deep = λ kind far. subst (λ r. is_too_deep r kind ≡ true) (sym (region-inside 0 j at_first ts h)) far;
  region = λ some. region-inside 0 j at_first ts h;
}

first-small : (kind : TokenKind) → goes_too_far at_first kind ≡ true → ⊥
first-small kind h = grind (arith, nat_tests, common_steps)

-- the first of some tokens isn't a closing brace
abbrev pub OpensNone : List Token → Type 0
OpensNone ts = (t : Token) (us : List Token) → ts ≡ t ∷ us → t.kind ≡ close_brace → ⊥

-- between statements
pub fresh_between : (j : ℕ) (ts : List Token) → AreInside 0 j ts → OpensNone ts → Fresh between j ts
fresh_between j [] h other = record { shallow = λ w. tt; deep = λ kind far. absurd (first-small kind far); region = λ some. absurd (some refl) }
fresh_between j (t ∷ ts) h other = record {
  shallow = λ w. (refl, subst (λ r. IsShallow r ts) (sym (begun h.0 t.kind h.1 (other t ts refl))) (shallow-inside h.0 j (after_token at_first t.kind) ts h.2 w.1));
  deep = λ kind far. subst (λ r. is_too_deep r kind ≡ true) (sym at) far;
  region = λ some. at;
}
  where
    at : region_after between (t ∷ ts) ≡ inscribing j (count_after at_first (t ∷ ts))
    at = ap (λ r. region_after r ts) (begun h.0 t.kind h.1 (other t ts refl)) ∙ region-inside h.0 j (after_token at_first t.kind) ts h.2

pub opens_none : (tokens : List Token) (at : ℕ) (taken left : List Token) → drop at tokens ≡ taken ++ left → IsNotNextKind tokens at close_brace → OpensNone taken
opens_none tokens at taken left is other t us here h = other t (us ++ left) (is ∙ ap (λ vs. vs ++ left) here) h

-- where the tokens taken end
left-is : (tokens : List Token) (at k : ℕ) (taken left : List Token) → drop at tokens ≡ taken ++ left → k ≡ at + length taken → left ≡ drop k tokens
left-is tokens at k taken left is there = sym (drop-append_seam taken left) ∙ ap (drop (length taken)) (sym is) ∙ drop-drop (length taken) at tokens ∙ ap (λ n. drop n tokens) (sym there)

index-is : (tokens : List Token) (at k : ℕ) (taken left : List Token) → at ≤ length tokens → drop at tokens ≡ taken ++ left → k ≡ at + length taken → k + length left ≡ length tokens
index-is tokens at k taken left inside is there =
    let a = length-drop at tokens in let b = length-append taken left in let c : length (drop at tokens) ≡ length (taken ++ left) = ap length is in omega (arith, a, b, c, there, inside)

-- they are taken up to an index
onward : {A : Type 0} {X Y : Phrases A} {start : List Token} {first now : Region} (tokens : List Token) (at k : ℕ) (some left : List Token) → Progress net_counting Anything X start first Y (drop at tokens) now →
    drop at tokens ≡ some ++ left → left ≡ drop k tokens → IsShallow now some → Progress net_counting Anything X start first (λ ts. Y (some ++ ts)) (drop k tokens) (region_after now some)
onward {X = X} {Y = Y} {start = start} {first = first} {now = now} tokens at k some left s parts there small =
    taken Y some now (subst (λ us. Progress net_counting Anything X start first Y us now) (parts ∙ ap (λ us. some ++ us) there) s) small

pub moved : {A : Type 0} {Whole : Wholes A} {a : A} (tokens : List Token) (at end : ℕ) → at ≤ length tokens → IsReading Whole tokens at a end → (at ≤ end) × (end ≤ length tokens)
moved tokens at end inside r = let x = index-is tokens at end r.taken r.longest.left inside r.longest.parts r.ends in (omega (arith, r.ends), omega (arith, x))

-- tokens that are cut after a whole phrase, before the comma or semicolon that ends it
pub record Cut {A B : Type 0} (Whole : Wholes A) (Next : List Token → A → Sort B) (ts : List Token) (b : B) (rest : List Token) : Type 0 where
  pub part : List Token
  pub item : A
  pub end : Token
  pub others : List Token
  pub parts : ts ≡ part ++ end ∷ others
  pub ends : IsOut end.kind
  pub whole : Whole part item
  pub goes : (Next part item).is (end ∷ others) b rest

pub record Opening {A B : Type 0} (Whole : Wholes A) (W : Sort B) (Next : List Token → A → Sort B) : Type 0 where
  pub inside : (p : List Token) (a : A) → Whole p a → AreInside 0 0 p
  pub one : (p : List Token) (a b : A) → Whole p a → Whole p b → a ≡ b
  pub some : (p : List Token) (a : A) → Whole p a → p ≡ [] → ⊥
  pub join : (p us : List Token) (a : A) (b : B) (rest : List Token) → Whole p a → (Next p a).is us b rest → W.is (p ++ us) b rest
  pub split : (ts : List Token) (b : B) (rest : List Token) → W.is ts b rest → Cut Whole Next ts b rest

prefix-inside : {A B : Type 0} {Whole : Wholes A} {W : Sort B} {Next : List Token → A → Sort B} (o : Opening Whole W Next) (taken : List Token) → IsPrefix Whole taken → (j : ℕ) × AreInside 0 j taken
prefix-inside o taken p = inside-front 0 0 taken p.0 (o.inside (taken ++ p.0) p.1 p.2)

-- the longest prefix is cut there, or in it is no such token
pub cut_at : {A B : Type 0} {Whole : Wholes A} {W : Sort B} {Next : List Token → A → Sort B} (o : Opening Whole W Next) (tokens taken ts : List Token) (b : B) (rest : List Token) (l : IsLongest Whole tokens taken) → BeginAlike l.left ts →
    (c : Cut Whole Next (taken ++ ts) b rest) → (c.part ≡ taken) × (c.end ∷ c.others ≡ ts)
cut_at {A = A} {Whole = Whole} o tokens taken ts b rest l alike c = by (split-at taken ts c.part (c.end ∷ c.others) c.parts)
  where
    next : (m : List Token) → c.part ≡ taken ++ m → ts ≡ m ++ c.end ∷ c.others → (c.part ≡ taken) × (c.end ∷ c.others ≡ ts)
    next [] same is = (same ∙ append-nil taken, sym is)
    next (t ∷ m) same is =
        let n = alike-cons l.left t (m ++ c.end ∷ c.others) (subst (λ us. BeginAlike l.left us) is alike) in
        let p : IsPrefix Whole (taken ++ t ∷ []) = (m, c.item, subst (λ us. Whole us c.item) (same ∙ sym (append_assoc taken (t ∷ []) m)) c.whole) in
        let most = l.longest (taken ++ t ∷ []) n.0 (l.parts ∙ ap (λ us. taken ++ us) n.1 ∙ sym (append_assoc taken (t ∷ []) n.0)) p in
        absurd (omega (arith, most, length-append taken (t ∷ [])))

    by : ((m : List Token) × (c.part ≡ taken ++ m) × (ts ≡ m ++ c.end ∷ c.others)) ⊎ ((t : Token) × (m : List Token) × (taken ≡ c.part ++ t ∷ m) × (c.end ∷ c.others ≡ t ∷ m ++ ts)) → (c.part ≡ taken) × (c.end ∷ c.others ≡ ts)
    by (inl s) = next s.0 s.1 s.2
    by (inr s) =
        let d = prefix-inside o taken l.prefix in
        let e = inside-back 0 0 d.0 c.part (s.0 ∷ s.1) (o.inside c.part c.item c.whole) (subst (AreInside 0 d.0) s.2 d.1) in
        out e.0 s.0.kind (subst (λ w. IsOut w.kind) (let h : c.end ≡ s.0 = let f = s.3 in cc in h) c.ends) e.1

-- the whole phrase is read
pub opening_read : {A B : Type 0} {Whole : Wholes A} {W : Sort B} {Z : Phrases B} {Next : List Token → A → Sort B} {start : List Token} {first now : Region} {a : A} (o : Opening Whole W Next) (tokens : List Token) (at end : ℕ) →
    Stage Z start first W (drop at tokens) now → (r : IsReading Whole tokens at a end) → Fresh now 0 r.taken → Stage Z start first (Next r.taken a) (drop end tokens) (inscribing 0 (count_after at_first r.taken))
opening_read {Whole = Whole} {W = W} {Z = Z} {Next = Next} {start = start} {first = first} {a = a} o tokens at end s r f =
    change net_counting Anything (Next r.taken a).is
    (subst (λ c. Progress net_counting Anything Z start first (λ ts. W.is (r.taken ++ ts)) (drop end tokens) c) (f.region (o.some r.taken a r.whole)) (onward tokens at end r.taken r.longest.left s r.longest.parts left (f.shallow r.within)))
    (λ ts b rest y. o.join r.taken ts a b rest r.whole y)
    (λ ts b rest alike follows w.
    let c = o.split (r.taken ++ ts) b rest w in
    let same = cut_at o (drop at tokens) r.taken ts b rest r.longest (subst (λ us. BeginAlike us ts) (sym left) alike) c in
    let item : c.item ≡ a = o.one r.taken c.item a (subst (λ us. Whole us c.item) same.0 c.whole) r.whole in
    subst (λ us. (Next r.taken a).is us b rest) same.1 (subst (λ x. (Next r.taken x).is (c.end ∷ c.others) b rest) item (subst (λ us. (Next us c.item).is (c.end ∷ c.others) b rest) same.0 c.goes)))
  where
    left : r.longest.left ≡ drop end tokens
    left = left-is tokens at end r.taken r.longest.left r.longest.parts r.ends

-- some tokens of the whole phrase begin what is left
opening-begins : {A B : Type 0} {Whole : Wholes A} {W : Sort B} {Next : List Token → A → Sort B} (o : Opening Whole W Next) (taken : List Token) → IsPrefix Whole taken → CanEnd (λ ts. W.is (taken ++ ts))
opening-begins {W = W} {Next = Next} o taken p = let y = (Next (taken ++ p.0) p.1).ends in (
  p.0 ++ y.0,
  y.1,
  λ rest. subst (λ us. W.is us y.1 rest) (append_assoc taken p.0 (y.0 ++ rest) ∙ ap (λ us. taken ++ us) (sym (append_assoc p.0 y.0 rest))) (o.join (taken ++ p.0) (y.0 ++ rest) p.1 y.1 rest p.2 (y.2 rest)),
)

-- it isn't read
pub opening_fails : {A B : Type 0} {Whole : Wholes A} {W : Sort B} {Z : Phrases B} {Next : List Token → A → Sort B} {start : List Token} {first now : Region} (o : Opening Whole W Next) (tokens : List Token) (at : ℕ) (e : ReadFault) → at ≤ length tokens →
    Stage Z start first W (drop at tokens) now → ((j : ℕ) (ts left : List Token) → drop at tokens ≡ ts ++ left → AreInside 0 j ts → Fresh now j ts) → Refuses Whole tokens at e → Fails Z start first (length tokens) e
opening_fails {Whole = Whole} {W = W} o tokens at (Fault.Stopped k) inside s fresh x =
    let d = prefix-inside o x.taken x.longest.prefix in
    let f = fresh d.0 x.taken x.longest.left x.longest.parts d.1 in
    let left = left-is tokens at k x.taken x.longest.left x.longest.parts x.stops in
    stuck net_counting Anything tokens k (onward tokens at k x.taken x.longest.left s x.longest.parts left (f.shallow x.within))
    (omega (arith, index-is tokens at k x.taken x.longest.left inside x.longest.parts x.stops)) (opening-begins o x.taken x.longest.prefix)
    (λ ts b rest alike w.
    let c = o.split (x.taken ++ ts) b rest w in
    let same = cut_at o (drop at tokens) x.taken ts b rest x.longest (subst (λ us. BeginAlike us ts) (sym left) alike) c in
    x.not_whole c.item (subst (λ us. Whole us c.item) same.0 c.whole))
opening_fails {W = W} o tokens at (Fault.TooFar k) inside s fresh x =
    let d = prefix-inside o (x.before ++ x.token ∷ []) x.prefix in
    let g = inside-front 0 d.0 x.before (x.token ∷ []) d.1 in
    let f = fresh g.0 x.before (x.token ∷ x.left) x.parts g.1 in
    let b = opening-begins o (x.before ++ x.token ∷ []) x.prefix in
    let left = left-is tokens at k x.before (x.token ∷ x.left) x.parts x.stands in
    too_far net_counting Anything tokens k (onward tokens at k x.before (x.token ∷ x.left) s x.parts left (f.shallow x.within))
    (sym left ∙ ap (λ us. x.token ∷ us) (ap (drop 1) left ∙ drop-drop 1 k tokens), omega (arith, index-is tokens at k x.before (x.token ∷ x.left) inside x.parts x.stands))
    (b.0, b.1, λ rest. subst (λ us. W.is us b.1 rest) (append_assoc x.before (x.token ∷ []) (b.0 ++ rest)) (b.2 rest)) (f.deep x.token.kind x.far)
opening_fails o tokens at (Fault.NoMemory _) inside s fresh x = tt
