-- What the productions of conditions say of a next token.
use Rattle.rn_inscript.proofs.Names.{◌≡◌, ℕ, ◌+◌, ◌<◌, ◌≤◌, ◌⊎◌, inl, inr, List, [], ◌∷◌, ◌++◌, length, drop, refl, sym, ◌∙◌, ap, subst, arith, Some, ⊤, Err, nat_tests, common_steps, Token, TokenKind, Name, Word, Number, Text, Sign, CompareKind, Seen, ReadFault, PExpr, PCond, PSimple, compare_of, IsExpr, IsCond, IsAlternatives, IsMoreAlternatives, IsBoth, IsMoreBoth, IsSimple, any_of, Level, Count, without_minuses, Phrases, Then, Done, BeginAlike, CanEnd, IsNextOne, IsNotNext, Ends, Stage, Fails, IsSoFar, Reads, IsNotNextSign, strength, ready, ended, past_operator, alike-cons}
use Rattle.rn_reading.specs.declared.fault.ReadFault.TheVariants as Fault
use Rattle.rn_inscript.specs.declared.conds.PSimple.TheVariants as S
use Rattle.rn_inscript.specs.Signs.{not_sign}
use Rattle.rn_inscript.proofs.StageLemmas.{begin, change, inner, inner_fails}
use Rattle.rn_inscript.proofs.CountSteps.{IsBinary, binary-sign, binary-small, binary-after, binary-far}
use Rattle.rn_inscript.proofs.Passing.{pass, far_next}
use Rattle.rn_inscript.proofs.BracketSteps.{can_end_then, can_end_done, can_end_by, done_follow}
use Rattle.rn_inscript.proofs.Chains.{Joined}
use Rattle.rn_inscript.proofs.OneSign.{sign_of, sign-is, sign-some}
use Rattle.rn_inscript.proofs.ExpressionPhrases.{zero-expr}

pub sign-binary : (k : ℕ) → 10 ≤ k → (kind : TokenKind) (u : ⊤) → sign_of k kind ≡ Some u → IsBinary kind
sign-binary k high kind u is = subst IsBinary (sym (sign-is k kind u is)) (binary-sign k high)

pub compare-binary : (kind : TokenKind) (c : CompareKind) → compare_of kind ≡ Some c → IsBinary kind
compare-binary (Sign k) c h = binary-sign k (grind (arith, nat_tests, common_steps))
compare-binary (Name s) c h = cc
compare-binary (Number n) c h = cc
compare-binary (Text s) c h = cc
compare-binary (Word k) c h = cc

pub compare-strength : (kind : TokenKind) (c : CompareKind) → compare_of kind ≡ Some c → strength kind ≡ 3
compare-strength (Sign k) c h = grind (arith, nat_tests, common_steps)
compare-strength (Name s) c h = cc
compare-strength (Number n) c h = cc
compare-strength (Text s) c h = cc
compare-strength (Word k) c h = cc

pub zero-simple : CanEnd IsSimple
zero-simple = (zero-expr.0, S.Bare zero-expr.1, λ rest. IsSimple.bare (zero-expr.2 rest))

pub zero-both : CanEnd IsBoth
zero-both = (zero-simple.0, zero-simple.1 ∷ [], λ rest. IsBoth.both (zero-simple.2 rest) IsMoreBoth.no_more_both)

pub zero-alternatives : CanEnd IsAlternatives
zero-alternatives = (zero-both.0, zero-both.1 ∷ [], λ rest. IsAlternatives.alternatives (zero-both.2 rest) IsMoreAlternatives.no_more_alternatives)

pub zero-cond : CanEnd IsCond
zero-cond = (zero-alternatives.0, any_of zero-alternatives.1, λ rest. IsCond.any (zero-alternatives.2 rest))

pub conjunctions : Joined 2 IsBoth IsSimple (sign_of 21) (λ sign all e. all ++ e ∷ []) IsMoreBoth (λ e. e ∷ [])
conjunctions = record {
  chain = record {
    nothing = λ all ts. IsMoreBoth.no_more_both;
    on = λ {t = t} is item more. IsMoreBoth.more_both (sign-is 21 t.kind tt is) item more;
    split = elim [ IsMoreBoth.no_more_both ↦ inl (refl, refl) | IsMoreBoth.more_both is item more ↦ inr (_, _, tt, refl, sign-some 21 _ is, (_, _, item, more)) ];
    binds = λ kind sign is. ap strength (sign-is 21 kind sign is);
  };
  join = λ item more. IsBoth.both item more;
  part = elim [ IsBoth.both item more ↦ (_, _, item, more) ];
  item = zero-simple;
}

pub disjunctions : Joined 1 IsAlternatives IsBoth (sign_of 22) (λ sign all e. all ++ e ∷ []) IsMoreAlternatives (λ e. e ∷ [])
disjunctions = record {
  chain = record {
    nothing = λ all ts. IsMoreAlternatives.no_more_alternatives;
    on = λ {t = t} is item more. IsMoreAlternatives.more_alternatives (sign-is 22 t.kind tt is) item more;
    split = elim [ IsMoreAlternatives.no_more_alternatives ↦ inl (refl, refl) | IsMoreAlternatives.more_alternatives is item more ↦ inr (_, _, tt, refl, sign-some 22 _ is, (_, _, item, more)) ];
    binds = λ kind sign is. ap strength (sign-is 22 kind sign is);
  };
  join = λ item more. IsAlternatives.alternatives item more;
  part = elim [ IsAlternatives.alternatives item more ↦ (_, _, item, more) ];
  item = zero-both;
}

-- what a phrase of another sort stands for is made of what it is read as
wider : {n m : ℕ} → n ≤ m → (ts : List Token) → Ends n ts → Ends m ts
wider few [] h = tt
wider few (t ∷ ts) h = omega (arith, few, h)

made_follow : {A B : Type 0} (f : A → B) {n m : ℕ} → n ≤ m → (a : A) (ts : List Token) (e : B) (rest : List Token) → Ends n rest → Done (f a) ts e rest → Ends m ts
made_follow f {n = n} few a ts e rest ends d = wider few ts (done_follow n ts e rest ends d)

made_fails : {A B : Type 0} (f : A → B) {n m : ℕ} {X : Phrases A} {Z : Phrases B} {start mid : List Token} {first now : Count} (total : ℕ) (e : ReadFault) → n ≤ m →
    Stage n Z start first (Then X (λ a. Done (f a))) mid now → Fails m X mid now total e → Fails n Z start first total e
made_fails f total e few s x = inner_fails total e s (made_follow f few) (λ a. can_end_done (f a)) x

-- a phrase was read inside another
so_far : {A B : Type 0} {n m : ℕ} {X Y : Phrases A} {Z W : Phrases B} {tokens : List Token} {before then after : Seen} {first now : Count} {around : List Level} (p : IsSoFar m X tokens then now around Y after) →
    Stage n Z (drop before.at tokens) first W (drop after.at tokens) (ended p.open_now after.operators) → IsSoFar n Z tokens before first around W after
so_far p s = record { open_now = p.open_now; closed = p.closed; stage = s }

made_read : {A B : Type 0} (f : A → B) {n m : ℕ} {X : Phrases A} {Z : Phrases B} {tokens : List Token} {before then after : Seen} {first now : Count} {around : List Level} {a : A} → n ≤ m →
    Stage n Z (drop before.at tokens) first (Then X (λ a. Done (f a))) (drop then.at tokens) now → IsSoFar m X tokens then now around (Done a) after → IsSoFar n Z tokens before first around (Done (f a)) after
made_read f {before = before} few s p = so_far {before = before} p (inner (λ a. Done (f a)) s p.stage (made_follow f few))

-- the whole condition
pub cond-part : {ts rest : List Token} {c : PCond} → IsCond ts c rest → Then IsAlternatives (λ all. Done (any_of all)) ts c rest
cond-part (IsCond.any x) = (_, _, x, (refl, refl))

cond_stage : (start : List Token) (first : Count) → Stage 1 IsCond start first (Then IsAlternatives (λ all. Done (any_of all))) start first
cond_stage start first = change (Then IsAlternatives (λ all. Done (any_of all))) (begin 1 IsCond start first) (λ ts e rest y. rw (y.3.0, y.3.1) (IsCond.any y.2)) (λ ts e rest alike ends x. cond-part x)

pub cond_fails : (tokens : List Token) (seen : Seen) (around : List Level) (e : ReadFault) → Reads 1 IsAlternatives tokens seen around (Err e) → Reads 1 IsCond tokens seen around (Err e)
cond_fails tokens seen around e f = made_fails any_of (length tokens) e (omega arith) (cond_stage (drop seen.at tokens) (ready around seen.operators)) f

pub cond_read : (tokens : List Token) (seen after : Seen) (around : List Level) (all : List (List PSimple)) →
    IsSoFar 1 IsAlternatives tokens seen (ready around seen.operators) around (Done all) after → IsSoFar 1 IsCond tokens seen (ready around seen.operators) around (Done (any_of all)) after
cond_read tokens seen after around all p = made_read any_of (omega arith) (cond_stage (drop seen.at tokens) (ready around seen.operators)) p

-- an expression, and what can follow it in a simple condition
abbrev pub SimpleEnd : PExpr → Phrases PSimple
SimpleEnd a ts e rest = Done (S.Bare a) ts e rest
    ⊎ ((t : Token) × (us : List Token) × (kind : CompareKind) × (ts ≡ t ∷ us) × (compare_of t.kind ≡ Some kind) × Then IsExpr (λ b. Done (S.Compare kind a b)) us e rest)

simple-on : {ts rest : List Token} {e : PSimple} → Then IsExpr SimpleEnd ts e rest → IsSimple ts e rest
simple-on y = elim y.3 [
  | inl d ↦ rw (d.0, d.1) (IsSimple.bare y.2)
  | inr z ↦ rw (z.5.3.0, z.5.3.1) (IsSimple.compare (rw z.3 at y.2) z.4 z.5.2)
]

pub simple-only : {ts rest : List Token} {e : PSimple} → ((t : Token) (us : List Token) → ts ≡ t ∷ us → t.kind ≡ not_sign → ⊥) → IsSimple ts e rest → Then IsExpr SimpleEnd ts e rest
simple-only other (IsSimple.bare x) = (_, _, x, inl (refl, refl))
simple-only other (IsSimple.compare x is y) = (_, _, x, inr (_, _, _, refl, is, (_, _, y, (refl, refl))))
simple-only other (IsSimple.negation n p x c) = absurd (other _ _ refl n)

simple_stage : (tokens : List Token) (seen : Seen) (first : Count) → IsNotNextSign tokens seen.at 23 →
    Stage 3 IsSimple (drop seen.at tokens) first (Then IsExpr SimpleEnd) (drop seen.at tokens) first
simple_stage tokens seen first other = change (Then IsExpr SimpleEnd) (begin 3 IsSimple (drop seen.at tokens) first) (λ ts e rest y. simple-on y)
    (λ ts e rest alike ends x. simple-only (λ t us is h. let next = alike-cons (drop seen.at tokens) t us (subst (λ vs. BeginAlike (drop seen.at tokens) vs) is alike) in other t next.0 next.1 h) x)

pub end-follow : (a : PExpr) (ts : List Token) (e : PSimple) (rest : List Token) → Ends 3 rest → SimpleEnd a ts e rest → Ends 4 ts
end-follow a ts e rest ends x = elim x [
  | inl d ↦ subst (Ends 4) d.1 (wider (omega arith) rest ends)
  | inr z ↦ subst (Ends 4) (sym z.3) (let h : strength z.0.kind ≡ 3 = compare-strength z.0.kind z.2 z.4 in omega (arith, h))
]

end-ends : (a : PExpr) → CanEnd (SimpleEnd a)
end-ends a = ([], S.Bare a, λ rest. inl (refl, refl))

pub left_fails : (tokens : List Token) (seen : Seen) (around : List Level) (e : ReadFault) → IsNotNextSign tokens seen.at 23 → Fails 4 IsExpr (drop seen.at tokens) (ready around seen.operators) (length tokens) e →
    Reads 3 IsSimple tokens seen around (Err e)
left_fails tokens seen around e other f = inner_fails (length tokens) e (simple_stage tokens seen (ready around seen.operators) other) end-follow end-ends f

-- an expression was read
pub left_read : (tokens : List Token) (seen after : Seen) (around : List Level) (a : PExpr) → IsNotNextSign tokens seen.at 23 →
    IsSoFar 4 IsExpr tokens seen (ready around seen.operators) around (Done a) after → IsSoFar 3 IsSimple tokens seen (ready around seen.operators) around (SimpleEnd a) after
left_read tokens seen after around a other p = so_far {before = seen} p (inner SimpleEnd (simple_stage tokens seen (ready around seen.operators) other) p.stage end-follow)

pub bare_read : (tokens : List Token) (seen after : Seen) (around : List Level) (a : PExpr) → IsSoFar 3 IsSimple tokens seen (ready around seen.operators) around (SimpleEnd a) after → IsNotNext (λ t. compare_of t.kind) tokens after.at →
    IsSoFar 3 IsSimple tokens seen (ready around seen.operators) around (Done (S.Bare a)) after
bare_read tokens seen after around a p none = so_far {before = seen} p (change (Done (S.Bare a)) p.stage (λ ts e rest d. inl d) (λ ts e rest alike ends x. elim x [
  | inl d ↦ d
  | inr z ↦ absurd (let next = alike-cons (drop after.at tokens) z.0 z.1 (rw z.3 at alike) in let no = none z.0 next.0 next.1 in let yes = z.4 in cc)
]))

compare-on : {t : Token} (a : PExpr) (kind : CompareKind) → compare_of t.kind ≡ Some kind → (ts : List Token) (e : PSimple) (rest : List Token) → Then IsExpr (λ b. Done (S.Compare kind a b)) ts e rest → SimpleEnd a (t ∷ ts) e rest
compare-on {t = t} a kind is ts e rest y = inr (t, ts, kind, refl, is, y)

pub compare_far : (tokens : List Token) (seen after : Seen) (around : List Level) (a : PExpr) (kind : CompareKind) → IsSoFar 3 IsSimple tokens seen (ready around seen.operators) around (SimpleEnd a) after → IsNextOne (λ t. compare_of t.kind) tokens after.at kind →
    256 ≤ after.operators → Reads 3 IsSimple tokens seen around (Err (Fault.TooFar after.at))
compare_far tokens seen after around a kind p next far =
    far_next tokens after.at next.0.kind p.stage next.1 refl
    (can_end_by (Then IsExpr (λ b. Done (S.Compare kind a b))) (λ ts. SimpleEnd a (next.0 ∷ ts)) (can_end_then IsExpr (λ b. Done (S.Compare kind a b)) zero-expr (λ b. can_end_done (S.Compare kind a b))) (compare-on a kind next.2))
    (binary-far p.open_now after.operators (compare-binary next.0.kind kind next.2) far)

compare_stage : (tokens : List Token) (seen after then : Seen) (around : List Level) (a : PExpr) (kind : CompareKind) → IsSoFar 3 IsSimple tokens seen (ready around seen.operators) around (SimpleEnd a) after → without_minuses around ≡ around →
    IsNextOne (λ t. compare_of t.kind) tokens after.at kind → after.operators < 256 → then ≡ past_operator after →
    Stage 3 IsSimple (drop seen.at tokens) (ready around seen.operators) (Then IsExpr (λ b. Done (S.Compare kind a b))) (drop then.at tokens) (ready around then.operators)
compare_stage tokens seen after then around a kind p base next few is =
    subst (λ s. Stage 3 IsSimple (drop seen.at tokens) (ready around seen.operators) (Then IsExpr (λ b. Done (S.Compare kind a b))) (drop s.at tokens) (ready around s.operators)) (sym is)
    (change (Then IsExpr (λ b. Done (S.Compare kind a b)))
    (pass tokens after.at next.0.kind (ready around (after.operators + 1)) p.stage next.1 refl
    (binary-small p.open_now after.operators (compare-binary next.0.kind kind next.2) few) (binary-after p.open_now after.operators (compare-binary next.0.kind kind next.2) (p.closed ∙ base)))
    (compare-on a kind next.2)
    (λ ts e rest alike ends x. elim x [
      | inl d ↦ absurd (let small : Ends 3 (next.0 ∷ ts) = subst (Ends 3) d.1 ends in let h : strength next.0.kind ≡ 3 = compare-strength next.0.kind kind next.2 in omega (arith, small, h))
      | inr z ↦ subst (λ us. Then IsExpr (λ b. Done (S.Compare kind a b)) us e rest) (let h : z.1 ≡ ts = let d = z.3 in cc in h)
          (subst (λ k. Then IsExpr (λ b. Done (S.Compare k a b)) z.1 e rest) (let h : z.2 ≡ kind = let d = z.3 in let f = z.4 in let g = next.2 in cc in h) z.5)
    ]))

pub right_fails : (tokens : List Token) (seen after then : Seen) (around : List Level) (a : PExpr) (kind : CompareKind) (e : ReadFault) → IsSoFar 3 IsSimple tokens seen (ready around seen.operators) around (SimpleEnd a) after → without_minuses around ≡ around →
    IsNextOne (λ t. compare_of t.kind) tokens after.at kind → after.operators < 256 → then ≡ past_operator after → Reads 4 IsExpr tokens then around (Err e) → Reads 3 IsSimple tokens seen around (Err e)
right_fails tokens seen after then around a kind e p base next few is f = made_fails (S.Compare kind a) (length tokens) e (omega arith) (compare_stage tokens seen after then around a kind p base next few is) f

pub right_read : (tokens : List Token) (seen after then end : Seen) (around : List Level) (a b : PExpr) (kind : CompareKind) → IsSoFar 3 IsSimple tokens seen (ready around seen.operators) around (SimpleEnd a) after → without_minuses around ≡ around →
    IsNextOne (λ t. compare_of t.kind) tokens after.at kind → after.operators < 256 → then ≡ past_operator after → IsSoFar 4 IsExpr tokens then (ready around then.operators) around (Done b) end →
    IsSoFar 3 IsSimple tokens seen (ready around seen.operators) around (Done (S.Compare kind a b)) end
right_read tokens seen after then end around a b kind p base next few is q = made_read (S.Compare kind a) (omega arith) (compare_stage tokens seen after then around a kind p base next few is) q
