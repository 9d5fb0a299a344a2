-- Brackets are passed: levels open and close.
use Rattle.rn_inscript.proofs.Names.{◌≡◌, ℕ, ◌+◌, ◌<◌, ◌≤◌, false, List, [], ◌∷◌, ◌++◌, length, drop, refl, sym, ◌∙◌, ap, subst, append_assoc, arith, nat_le, Result, Ok, Err, or-false, Token, TokenKind, Sign, Seen, ReadFault, Level, bracket, Count, without_minuses, levels_at, goes_too_far, after_token, Phrases, Then, Done, CanEnd, IsNext, Takes, Ends, Stage, Fails, IsSoFar, ReadsFrom, IsNextSign, IsNotNextSign, strength, ready, ended, past}
use Rattle.rn_reading.specs.declared.fault.ReadFault.TheVariants as Fault
use Rattle.rn_inscript.proofs.StageLemmas.{change, inner, inner_fails, inner_read, so_far, weaker}
use Rattle.rn_inscript.proofs.CountSteps.{le-false, le-true}
use Rattle.rn_inscript.proofs.Passing.{pass, far_next, stuck_sign}

-- a token of a kind, wherever it stands
abbrev pub any : TokenKind → Token
any kind = record { kind = kind; start = 0; end = 0; spot = record { line = 1; column = 1 } }

pub can_end_then : {A B : Type 0} (X : Phrases A) (Y : A → Phrases B) → CanEnd X → ((a : A) → CanEnd (Y a)) → CanEnd (Then X Y)
can_end_then X Y x y = let end = y x.1 in (x.0 ++ end.0, end.1, λ rest. (x.1, end.0 ++ rest, subst (λ us. X us x.1 (end.0 ++ rest)) (sym (append_assoc x.0 end.0 rest)) (x.2 (end.0 ++ rest)), end.2 rest))

pub can_end_takes : {A : Type 0} (kind : TokenKind) (a : A) → CanEnd (Takes kind a)
can_end_takes kind a = (any kind ∷ [], a, λ rest. (any kind, refl, refl, refl))

pub can_end_done : {A : Type 0} (a : A) → CanEnd (Done a)
can_end_done a = ([], a, λ rest. (refl, refl))

pub can_end_by : {A : Type 0} (Y Z : Phrases A) → CanEnd Y → ((ts : List Token) (e : A) (rest : List Token) → Y ts e rest → Z ts e rest) → CanEnd Z
can_end_by Y Z y on = (y.0, y.1, λ rest. on (y.0 ++ rest) y.1 rest (y.2 rest))

pub takes_follow : {A : Type 0} {kind : TokenKind} {a : A} (m : ℕ) → strength kind < m → (ts : List Token) (e : A) (rest : List Token) → Takes kind a ts e rest → Ends m ts
takes_follow m small ts e rest y = subst (Ends m) (sym y.1) (subst (λ k. strength k < m) (sym y.2) small)

pub done_follow : {A : Type 0} {a : A} (n : ℕ) (ts : List Token) (e : A) (rest : List Token) → Ends n rest → Done a ts e rest → Ends n ts
done_follow n ts e rest ends d = subst (Ends n) d.1 ends

-- the last phrase of another fails, or is read
pub done_fails : {A B : Type 0} {n m : ℕ} {X : Phrases A} {Z : Phrases B} {f : A → B} {start mid : List Token} {first now : Count} (total : ℕ) (e : ReadFault) →
    n ≤ m → Stage n Z start first (Then X (λ a. Done (f a))) mid now → Fails m X mid now total e → Fails n Z start first total e
done_fails {n = n} {m = m} {f = f} total e le s p = inner_fails total e s (λ a ts e rest ends d. weaker n m ts le (done_follow n ts e rest ends d)) (λ a. can_end_done (f a)) p

pub done_read : {A B : Type 0} {n m : ℕ} {X : Phrases A} {Z : Phrases B} {f : A → B} {tokens : List Token} {before then after : Seen} {first now : Count} {around : List Level} {a : A} →
    n ≤ m → Stage n Z (drop before.at tokens) first (Then X (λ a. Done (f a))) (drop then.at tokens) now → IsSoFar m X tokens then now around (Done a) after →
    IsSoFar n Z tokens before first around (Done (f a)) after
done_read {n = n} {m = m} {f = f} le s p = inner_read (λ a. Done (f a)) s (λ a ts e rest ends d. weaker n m ts le (done_follow n ts e rest ends d)) p

-- a reader that is another's whole answer
pub whole_reads : {A : Type 0} {n : ℕ} {X Z : Phrases A} (tokens : List Token) (before : Seen) (first : Count) (around : List Level) (r : Result (A × Seen) ReadFault) →
    Stage n Z (drop before.at tokens) first (Then X Done) (drop before.at tokens) first →
    ReadsFrom n X tokens before first around r → ReadsFrom n Z tokens before first around r
whole_reads {n = n} tokens before first around (Ok (a, after)) s p = record { open_now = p.open_now; closed = p.closed; stage = inner Done s p.stage (λ b. done_follow n) }
whole_reads {n = n} tokens before first around (Err e) s p = inner_fails (length tokens) e s (λ b. done_follow n) can_end_done p

-- what an opening bracket does to the count
abbrev pub IsOpening : ℕ → Type 0
IsOpening k = (c : Count) →
    (goes_too_far c (Sign k) ≡ nat_le 64 (length (levels_at c (Sign k)))) × (after_token c (Sign k) ≡ ready (bracket ∷ levels_at c (Sign k)) c.operators)

pub opening-brace : IsOpening 0
opening-brace c = (or-false _, refl)

pub opening-bracket : IsOpening 2
opening-bracket c = (or-false _, refl)

pub opening-paren : IsOpening 4
opening-paren c = (or-false _, refl)

pub opening_passed : {A : Type 0} {n k : ℕ} {X Y : Phrases A} {start : List Token} {first now : Count} {around : List Level} {levels : ℕ} (tokens : List Token) (at : ℕ) {t : Token} →
    IsOpening k → Stage n X start first Y (drop at tokens) now → IsNext tokens at t → t.kind ≡ Sign k →
    levels_at now (Sign k) ≡ around → levels + length around ≡ 64 → 0 < levels →
    Stage n X start first (λ ts. Y (t ∷ ts)) (drop (at + 1) tokens) (ready (bracket ∷ around) now.operators)
opening_passed {k = k} {now = now} {around = around} tokens at opening s next is here fits some =
    let o = opening now in
    pass tokens at (Sign k) (ready (bracket ∷ around) now.operators) s next is
    (o.0 ∙ ap (λ ls. nat_le 64 (length ls)) here ∙ le-false 64 (length around) (omega (arith, fits, some)))
    (o.1 ∙ ap (λ ls. ready (bracket ∷ ls) now.operators) here)

pub opening_far : {A : Type 0} {n k : ℕ} {X Y : Phrases A} {start : List Token} {first now : Count} {around : List Level} {levels : ℕ} (tokens : List Token) (at : ℕ) {t : Token} →
    IsOpening k → Stage n X start first Y (drop at tokens) now → IsNext tokens at t → t.kind ≡ Sign k →
    levels_at now (Sign k) ≡ around → levels + length around ≡ 64 → levels ≡ 0 → CanEnd (λ ts. Y (t ∷ ts)) →
    Fails n X start first (length tokens) (Fault.TooFar at)
opening_far {k = k} {now = now} {around = around} tokens at opening s next is here fits none end =
    far_next tokens at (Sign k) s next is end
    ((opening now).0 ∙ ap (λ ls. nat_le 64 (length ls)) here ∙ le-true 64 (length around) (omega (arith, fits, none)))

-- what a closing bracket does to the count, after an operand or after its opening bracket
pub record IsClosing (k : ℕ) : Type 0 where
  pub small : (levels : List Level) (operators : ℕ) → goes_too_far (ended levels operators) (Sign k) ≡ false
  pub after : (levels : List Level) (operators : ℕ) → after_token (ended levels operators) (Sign k) ≡ ended (drop 1 (without_minuses levels)) operators
  pub small_first : (levels : List Level) (operators : ℕ) → goes_too_far (ready levels operators) (Sign k) ≡ false
  pub after_first : (levels : List Level) (operators : ℕ) → after_token (ready levels operators) (Sign k) ≡ ended (drop 1 levels) operators
  pub weak : strength (Sign k) ≡ 0

pub closing-brace : IsClosing 1
closing-brace = record { small = λ l o. refl; after = λ l o. refl; small_first = λ l o. refl; after_first = λ l o. refl; weak = refl }

pub closing-bracket : IsClosing 3
closing-bracket = record { small = λ l o. refl; after = λ l o. refl; small_first = λ l o. refl; after_first = λ l o. refl; weak = refl }

pub closing-paren : IsClosing 5
closing-paren = record { small = λ l o. refl; after = λ l o. refl; small_first = λ l o. refl; after_first = λ l o. refl; weak = refl }

-- the token that was to come was taken
pub taken : {A : Type 0} {n : ℕ} {X : Phrases A} {kind : TokenKind} {start left : List Token} {first now : Count} {t : Token} {a : A} →
    t.kind ≡ kind → Stage n X start first (λ ts. Takes kind a (t ∷ ts)) left now → Stage n X start first (Done a) left now
taken {kind = kind} {t = t} {a = a} is s = change (Done a) s
    (λ ts e rest d. (t, ap (λ us. t ∷ us) (sym d.1), is, d.0))
    (λ ts e rest alike ends y. (y.3, let h = y.1 in cc))

pub close_read : {A : Type 0} {n k : ℕ} {X : Phrases A} {tokens : List Token} {before seen : Seen} {first : Count} {around : List Level} {a : A} →
    IsClosing k → IsSoFar n X tokens before first (bracket ∷ around) (Takes (Sign k) a) seen → IsNextSign tokens seen.at k → IsSoFar n X tokens before first around (Done a) (past seen)
close_read {k = k} {tokens = tokens} {seen = seen} closing s next =
    so_far (taken next.2 (pass tokens seen.at (Sign k) _ s.stage next.1 next.2 (closing.small s.open_now seen.operators) (closing.after s.open_now seen.operators ∙ ap (λ ls. ended (drop 1 ls) seen.operators) s.closed)))

pub close_stuck : {A : Type 0} {n k : ℕ} {X : Phrases A} {tokens : List Token} {before seen : Seen} {first : Count} {around : List Level} {a : A} →
    IsSoFar n X tokens before first around (Takes (Sign k) a) seen → seen.at ≤ length tokens → IsNotNextSign tokens seen.at k → Fails n X (drop before.at tokens) first (length tokens) (Fault.Stopped seen.at)
close_stuck {k = k} {tokens = tokens} {seen = seen} {a = a} s inside other = stuck_sign tokens seen.at k s.stage inside (can_end_takes (Sign k) a) other

pub close_first : {A : Type 0} {n k : ℕ} {X : Phrases A} (tokens : List Token) (before seen : Seen) {first : Count} {around : List Level} {a : A} →
    IsClosing k → Stage n X (drop before.at tokens) first (Takes (Sign k) a) (drop seen.at tokens) (ready (bracket ∷ around) seen.operators) →
    IsNextSign tokens seen.at k → IsSoFar n X tokens before first around (Done a) (past seen)
close_first {k = k} tokens before seen {around = around} closing s next =
    so_far (taken next.2 (pass tokens seen.at (Sign k) _ s next.1 next.2 (closing.small_first (bracket ∷ around) seen.operators) (closing.after_first (bracket ∷ around) seen.operators)))

-- what is in brackets fails, or is read
pub inside_fails : {A B : Type 0} {n m k : ℕ} {X : Phrases A} {Z : Phrases B} {f : A → B} {start mid : List Token} {first now : Count} (total : ℕ) (e : ReadFault) →
    IsClosing k → 0 < m → Stage n Z start first (Then X (λ a. Takes (Sign k) (f a))) mid now → Fails m X mid now total e → Fails n Z start first total e
inside_fails {m = m} {k = k} {f = f} total e closing some s p =
    inner_fails total e s (λ b ts e rest ends y. takes_follow m (subst (λ x. x < m) (sym closing.weak) some) ts e rest y) (λ b. can_end_takes (Sign k) (f b)) p

pub inside_read : {A B : Type 0} {n m k : ℕ} {X : Phrases A} {Z : Phrases B} {f : A → B} {tokens : List Token} {before then after : Seen} {first now : Count} {around : List Level} {a : A} →
    IsClosing k → 0 < m → Stage n Z (drop before.at tokens) first (Then X (λ a. Takes (Sign k) (f a))) (drop then.at tokens) now → IsSoFar m X tokens then now around (Done a) after →
    IsSoFar n Z tokens before first around (Takes (Sign k) (f a)) after
inside_read {m = m} {k = k} {f = f} closing some s p =
    inner_read (λ a. Takes (Sign k) (f a)) s (λ b ts e rest ends y. takes_follow m (subst (λ x. x < m) (sym closing.weak) some) ts e rest y) p
