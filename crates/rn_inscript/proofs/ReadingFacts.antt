-- From the stages of a reading to the longest reading, and that there is one answer.
use Rattle.rn_inscript.proofs.Names.{◌≡◌, ℕ, ◌+◌, ◌<◌, ◌≤◌, List, [], ◌∷◌, ◌++◌, length, drop, refl, sym, ◌∙◌, ap, subst, append_assoc, arith, inl, inr, Result, Ok, Err, length-append, Token, Seen, InscriptFault, ReadFault, IsWithin, inscript_counting, at_first, Phrases, Done, BeginAlike, Fails, IsSoFar, ready, Wholes, IsPrefix, IsLongest, IsReading, IsStopped, IsDeep, IsRefusal, IsAnswer, Answers, index-of}
use Rattle.std.proofs.lemmas.List.{append-nil}
use Rattle.rn_inscript.specs.declared.fault.InscriptFault.TheVariants as Fault
use Rattle.rn_reading.specs.declared.fault.ReadFault.TheVariants as Read
use Rattle.rn_inscript.specs.link.Faults.{inscript_fault}
use Rattle.rn_reading.proofs.Wholes.{split-at, within-at}

-- the phrases of a sort after which nothing comes
abbrev pub wholes : {A : Type 0} → Phrases A → Wholes A
wholes X ts a = X ts a []

-- of two prefixes of a list the longer one goes on with what the shorter one leaves
pub longer : (taken left others rest : List Token) → taken ++ left ≡ others ++ rest → length taken < length others →
    (u : Token) × (us : List Token) × (others ≡ taken ++ u ∷ us) × (left ≡ u ∷ (us ++ rest))
longer taken left others rest e lt = elim (split-at others rest taken left (sym e)) [
  | inl g ↦ absurd (omega (arith, lt, ap length g.1, length-append others g.0))
  | inr g ↦ g
]

pub same_length : (a x b y : List Token) → a ++ x ≡ b ++ y → length a ≡ length b → a ≡ b
same_length a x b y e h = elim (split-at a x b y e) [
  | inl g ↦ nothing g.0 (omega (arith, h, ap length g.1, length-append a g.0)) g.1
  | inr g ↦ absurd (omega (arith, h, ap length g.2, length-append b (g.0 ∷ g.1)))
]
  where
    nothing : (m : List Token) → length m ≡ 0 → b ≡ a ++ m → a ≡ b
    nothing [] none is = sym (is ∙ append-nil a)
    nothing (t ∷ m) none is = absurd (omega (arith, none))

-- where no longer prefix goes on, the tokens taken are the longest prefix
longest_of : {A : Type 0} (X : Phrases A) (start taken left : List Token) → start ≡ taken ++ left → IsPrefix (wholes X) taken →
    ((ts : List Token) (a : A) → BeginAlike left ts → X (taken ++ ts) a [] → ts ≡ []) → IsLongest (wholes X) start taken
longest_of X start taken left whole prefix none = record {
  left = left;
  parts = whole;
  prefix = prefix;
  longest = λ others rest e p. at_most others rest (sym whole ∙ e) p;
}
  where
    grown : (others rest : List Token) → taken ++ left ≡ others ++ rest → IsPrefix (wholes X) others → length taken < length others → ⊥
    grown others rest e p lt =
        let l = longer taken left others rest e lt in
        let more : X (taken ++ (l.0 ∷ (l.1 ++ p.0))) p.1 [] = subst (λ us. X us p.1 []) (ap (λ us. us ++ p.0) l.2 ∙ append_assoc taken (l.0 ∷ l.1) p.0) p.2 in
        let like : BeginAlike left (l.0 ∷ (l.1 ++ p.0)) = subst (λ us. BeginAlike us (l.0 ∷ (l.1 ++ p.0))) (sym l.3) refl in
        let empty = none (l.0 ∷ (l.1 ++ p.0)) p.1 like more in cc

    at_most : (others rest : List Token) → taken ++ left ≡ others ++ rest → IsPrefix (wholes X) others → length others ≤ length taken
    at_most others rest e p = let shorter = grown others rest e p in omega (arith, shorter)

prefix-nil : {A : Type 0} (X : Phrases A) (taken more : List Token) (a : A) → X (taken ++ (more ++ [])) a [] → IsPrefix (wholes X) taken
prefix-nil X taken more a x = (more, a, subst (λ us. X (taken ++ us) a []) (append-nil more) x)

-- what was read, and that nothing else is read so
pub read_answer : {A : Type 0} {n : ℕ} {X : Phrases A} (tokens : List Token) (at : ℕ) (after : Seen) (a : A) → at ≤ length tokens → after.at ≤ length tokens →
    IsSoFar n X tokens (record { at = at; operators = 0 }) (ready [] 0) [] (Done a) after → IsAnswer (wholes X) tokens at (Ok (a, after.at))
read_answer {X = X} tokens at after a here there p = (
  record {
    taken = p.stage.taken;
    longest = longest_of X (drop at tokens) p.stage.taken (drop after.at tokens) p.stage.whole (prefix-nil X p.stage.taken [] a (p.stage.on [] a [] (refl, refl)))
        (λ ts b alike x. sym (p.stage.only ts b [] alike tt x).1);
    whole = subst (λ us. X us a []) (append-nil p.stage.taken) (p.stage.on [] a [] (refl, refl));
    within = p.stage.within;
    ends = omega (arith, index-of at tokens here, index-of after.at tokens there, ap length p.stage.whole, length-append p.stage.taken (drop after.at tokens));
  },
  λ b x. (p.stage.only [] b [] tt tt (subst (λ us. X us b []) (sym (append-nil p.stage.taken)) x)).0,
)

pub refusal_fact : {A : Type 0} (n : ℕ) (X : Phrases A) (tokens : List Token) (at : ℕ) (fault : ReadFault) → at ≤ length tokens → Fails n X (drop at tokens) (ready [] 0) (length tokens) fault →
    IsRefusal (wholes X) tokens at (inscript_fault fault)
refusal_fact n X tokens at (Read.Stopped k) here f = let p = f.1 in record {
  taken = p.taken;
  longest = longest_of X (drop at tokens) p.taken f.0 p.whole (prefix-nil X p.taken p.begins.0 p.begins.1 (p.begins.2 [])) (λ ts b alike x. absurd (p.none ts b [] alike tt x));
  not_whole = λ a x. p.none [] a [] tt tt (subst (λ us. X us a []) (sym (append-nil p.taken)) x);
  within = p.within;
  stops = omega (arith, index-of at tokens here, f.2, ap length p.whole, length-append p.taken f.0);
}
refusal_fact n X tokens at (Read.TooFar k) here f = let p = f.1 in record {
  before = p.taken;
  token = p.token;
  left = p.others;
  parts = p.whole ∙ ap (λ us. p.taken ++ us) p.next;
  prefix = (p.begins.0, p.begins.1, subst (λ us. X us p.begins.1 []) (ap (λ us. p.taken ++ (p.token ∷ us)) (append-nil p.begins.0) ∙ sym (append_assoc p.taken (p.token ∷ []) p.begins.0)) (p.begins.2 []));
  within = p.within;
  far = p.far;
  stands = omega (arith, index-of at tokens here, f.2, ap length p.whole, length-append p.taken f.0);
}
refusal_fact n X tokens at (Read.NoMemory _) here f = tt

-- two longest prefixes are one
pub one_longest : {A : Type 0} {Whole : Wholes A} {tokens a b : List Token} → IsLongest Whole tokens a → IsLongest Whole tokens b → a ≡ b
one_longest {a = a} {b = b} p q = same_length a p.left b q.left (sym p.parts ∙ q.parts)
    (let x = p.longest b q.left q.parts q.prefix in let y = q.longest a p.left p.parts p.prefix in omega (arith, x, y))

-- a token that goes too far is none of those that don't
not_past : {A : Type 0} {Whole : Wholes A} {tokens : List Token} {at k : ℕ} (d : IsDeep Whole tokens at k) (taken left : List Token) → drop at tokens ≡ taken ++ left → IsWithin at_first taken → length d.before < length taken → ⊥
not_past d taken left parts w lt =
    let r = longer d.before (d.token ∷ d.left) taken left (sym d.parts ∙ parts) lt in let same : r.0 ≡ d.token = let e = r.3 in cc in
    let within = within-at inscript_counting at_first d.before d.token r.1 (subst (IsWithin at_first) (r.2 ∙ ap (λ u. d.before ++ u ∷ r.1) same) w) in let far = d.far in cc

not_deep : {A : Type 0} {Whole : Wholes A} {tokens taken : List Token} {at k : ℕ} → IsLongest Whole (drop at tokens) taken → IsWithin at_first taken → IsDeep Whole tokens at k → ⊥
not_deep {taken = taken} l w d =
    let long = l.longest (d.before ++ d.token ∷ []) d.left (d.parts ∙ sym (append_assoc d.before (d.token ∷ []) d.left)) d.prefix in
    not_past d taken l.left l.parts w (omega (arith, long, length-append d.before (d.token ∷ [])))

-- two tokens that go too far first are one
one_deep : {A : Type 0} {Whole : Wholes A} {tokens : List Token} {at j k : ℕ} → IsDeep Whole tokens at j → IsDeep Whole tokens at k → j ≡ k
one_deep d e =
    let not_more = not_past d e.before (e.token ∷ e.left) e.parts e.within in let not_less = not_past e d.before (d.token ∷ d.left) d.parts d.within in
    omega (arith, not_more, not_less, d.stands, e.stands)

pub answer_reads : {A : Type 0} {Whole : Wholes A} {tokens : List Token} {at : ℕ} (r : Result (A × ℕ) InscriptFault) → IsAnswer Whole tokens at r → (a : A) (end : ℕ) → IsReading Whole tokens at a end → Answers r (Ok (a, end))
answer_reads {Whole = Whole} (Ok (b, m)) s a end x = let same = one_longest x.longest s.0.longest in
    let e : a ≡ b = s.1 a (subst (λ us. Whole us a) same x.whole) in let f : m ≡ end = s.0.ends ∙ ap (λ us. _ + length us) (sym same) ∙ sym x.ends in cc
answer_reads {Whole = Whole} (Err (Fault.P2 k)) s a end x = absurd (s.not_whole a (subst (λ us. Whole us a) (one_longest x.longest s.longest) x.whole))
answer_reads (Err (Fault.P5 k)) s a end x = absurd (not_deep x.longest x.within s)
answer_reads (Err (Fault.NoMemory _)) s a end x = tt

pub answer_stops : {A : Type 0} {Whole : Wholes A} {tokens : List Token} {at : ℕ} (r : Result (A × ℕ) InscriptFault) → IsAnswer Whole tokens at r → (k : ℕ) → IsStopped Whole tokens at k → Answers r (Err (Fault.P2 k))
answer_stops {Whole = Whole} (Ok (b, m)) s k x = absurd (x.not_whole b (subst (λ us. Whole us b) (one_longest s.0.longest x.longest) s.0.whole))
answer_stops (Err (Fault.P2 j)) s k x = let same = one_longest s.longest x.longest in let f : j ≡ k = s.stops ∙ ap (λ us. _ + length us) same ∙ sym x.stops in ap (λ i. Err (Fault.P2 i)) f
answer_stops (Err (Fault.P5 j)) s k x = absurd (not_deep x.longest x.within s)
answer_stops (Err (Fault.NoMemory _)) s k x = tt

pub answer_deep : {A : Type 0} {Whole : Wholes A} {tokens : List Token} {at : ℕ} (r : Result (A × ℕ) InscriptFault) → IsAnswer Whole tokens at r → (k : ℕ) → IsDeep Whole tokens at k → Answers r (Err (Fault.P5 k))
answer_deep (Ok (b, m)) s k x = absurd (not_deep s.0.longest s.0.within x)
answer_deep (Err (Fault.P2 j)) s k x = absurd (not_deep s.longest s.within x)
answer_deep (Err (Fault.P5 j)) s k x = ap (λ i. Err (Fault.P5 i)) (one_deep s x)
answer_deep (Err (Fault.NoMemory _)) s k x = tt

-- what a reader returns that returns an answer
pub ruleset answers = (answer_reads, answer_stops, answer_deep)
