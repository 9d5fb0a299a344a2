-- Texts that flow one after another.
use Rattle.std.proofs.Common.{◌≡◌, ℕ, ◌+◌, ◌-◌, ◌≤◌, List, [], ◌++◌, length, take, drop, Option, Some, None, refl, sym, ap, ◌∙◌, subst, append_assoc, append-nil, length-append, arith}
use Rattle.std.specs.Prelude.{IfSome}
use Rattle.std.specs.Option.{option_map}
use Rattle.std.proofs.Math.Seq.{take-add, take-append-add}
use Rattle.std.proofs.lemmas.List.{take-append-le, take-append-drop}
use Rattle.rn_outside.specs.Bytes.{Appends, AppendsPrefix, IsCalledSeldom}
use Rattle.rn_outside.specs.Faults.{Rose, risen}
use Rattle.rn_pour.specs.Flows.{Standing, held_with, Flows, Breaks}

held_nothing : (held : Option (List ℕ)) → held_with held [] ≡ held
held_nothing None = refl
held_nothing (Some h) = ap Some (append-nil h)

held_more : (held : Option (List ℕ)) (x y : List ℕ) →
    held_with held (x ++ y) ≡ option_map (λ h. h ++ y) (held_with held x)
held_more None x y = refl
held_more (Some h) x y = ap Some (sym (append_assoc h x y))

-- what a sink holds is known as long as it was
lost : (m : List ℕ) (x y : List ℕ) → held_with None x ≡ held_with (Some m) y → ⊥
lost m x y is = subst (λ o. IfSome o (λ _. ⊥)) is tt

same_calls : (held : Option (List ℕ)) (calls : ℕ) →
    IfSome held (λ then. IfSome held (λ now. calls + length then ≤ calls + length now))
same_calls None calls = tt
same_calls (Some h) calls = omega arith

few_calls : (a b : Option (List ℕ)) (bytes : List ℕ) (calls later : ℕ) → Appends a bytes b →
    later ≤ calls + length bytes →
    IfSome a (λ then. IfSome b (λ now. later + length then ≤ calls + length now))
few_calls None b bytes calls later took few = tt
few_calls (Some h) b bytes calls later took few =
    subst (λ o. IfSome o (λ now. later + length h ≤ calls + length now)) (sym took)
    (omega (arith, few, length-append h bytes))

calls_on : (a b c : Option (List ℕ)) (x y : List ℕ) (i j k : ℕ) → held_with b x ≡ held_with a y →
    IfSome a (λ then. IfSome b (λ now. j + length then ≤ i + length now)) →
    IfSome b (λ then. IfSome c (λ now. k + length then ≤ j + length now)) →
    IfSome a (λ then. IfSome c (λ now. k + length then ≤ i + length now))
calls_on None b c x y i j k is first second = tt
calls_on (Some h) None c x y i j k is first second = absurd (lost h x y is)
calls_on (Some h) (Some m) None x y i j k is first second = tt
calls_on (Some h) (Some m) (Some l) x y i j k is first second = omega (arith, first, second)

seldom_on : (a b c : Option (List ℕ)) (x y : List ℕ) (i j k : ℕ) → held_with b x ≡ held_with a y →
    IfSome a (λ then. IfSome b (λ now. j + length then ≤ i + length now)) →
    IsCalledSeldom b c j k → IsCalledSeldom a c i k
seldom_on None b c x y i j k is first second = tt
seldom_on (Some h) None c x y i j k is first second = absurd (lost h x y is)
seldom_on (Some h) (Some m) None x y i j k is first second = tt
seldom_on (Some h) (Some m) (Some l) x y i j k is first second = omega (arith, first, second)

abbrev bytes_of : Option (List ℕ) → List ℕ
bytes_of None = []
bytes_of (Some h) = h

-- the first bytes of what came later, behind what was written before
prefix_of : (h m x z y : List ℕ) (n : ℕ) → m ++ x ≡ h ++ z → length x ≤ length z →
    m ++ take n (x ++ y) ≡ h ++ take ((length z - length x) + n) (z ++ y)
prefix_of h m x z y n is within =
    let lengths : length m + length x ≡ length h + length z =
    sym (length-append m x) ∙ ap length is ∙ length-append h z in
    let count : length m + n ≡ length h + ((length z - length x) + n) = omega (arith, lengths, within) in
    let all : m ++ (x ++ y) ≡ h ++ (z ++ y) =
    sym (append_assoc m x y) ∙ ap (λ l. l ++ y) is ∙ append_assoc h z y in
    sym (take-append-add m (x ++ y) n) ∙ ap (take (length m + n)) all
    ∙ ap (λ k. take k (h ++ (z ++ y))) count
    ∙ take-append-add h (z ++ y) ((length z - length x) + n)

prefix_on : (a b c : Option (List ℕ)) (x z y : List ℕ) (n : ℕ) → held_with b x ≡ held_with a z →
    length x ≤ length z → Appends b (take n (x ++ y)) c →
    Appends a (take ((length z - length x) + n) (z ++ y)) c
prefix_on None None c x z y n is within took = took
prefix_on None (Some m) c x z y n is within took = absurd (lost m z x (sym is))
prefix_on (Some h) None c x z y n is within took = absurd (lost h x z is)
prefix_on (Some h) (Some m) c x z y n is within took =
    took ∙ ap Some (prefix_of h m x z y n (ap bytes_of is) within)

-- no text
pub flows_nothing : (b : Standing) (k : List ℕ) → Flows b k [] b k
flows_nothing b k = record {
  holds = ap (held_with b.held) (sym (append-nil k));
  within = omega (arith, length-append k []);
  faults = refl;
  calls = same_calls b.held b.writes;
  none_empty = refl;
}

-- a text that waits
pub flows_waiting : (b : Standing) (k x : List ℕ) → Flows b k x b (k ++ x)
flows_waiting b k x = record {
  holds = refl;
  within = omega arith;
  faults = refl;
  calls = same_calls b.held b.writes;
  none_empty = refl;
}

-- a text that was written, with all that waited
pub flows_written : (b a : Standing) (k x : List ℕ) → Appends b.held (k ++ x) a.held →
    a.faults ≡ b.faults → a.writes ≤ b.writes + length (k ++ x) → a.empty_writes ≡ b.empty_writes →
    Flows b k x a []
flows_written b a k x took faults few none = record {
  holds = held_nothing a.held ∙ took;
  within = omega arith;
  faults = faults;
  calls = few_calls b.held a.held (k ++ x) b.writes a.writes took few;
  none_empty = none;
}

-- one text after another
pub flows_on : (b m a : Standing) (k x k1 y k2 : List ℕ) → Flows b k x m k1 → Flows m k1 y a k2 →
    Flows b k (x ++ y) a k2
flows_on b m a k x k1 y k2 first second = record {
  holds = second.holds ∙ held_more m.held k1 y ∙ ap (option_map (λ h. h ++ y)) first.holds
      ∙ sym (held_more b.held (k ++ x) y) ∙ ap (held_with b.held) (append_assoc k x y);
  within = omega (
    arith,
    first.within,
    second.within,
    length-append k x,
    length-append k1 y,
    length-append k (x ++ y),
    length-append x y,
  );
  faults = second.faults ∙ first.faults;
  calls = calls_on b.held m.held a.held k1 (k ++ x) b.writes m.writes a.writes first.holds first.calls second.calls;
  none_empty = second.none_empty ∙ first.none_empty;
}

-- the sink failed in a later text
pub breaks_later : (b m a : Standing) (k x k1 y : List ℕ) → Flows b k x m k1 → Breaks m k1 y a →
    Breaks b k (x ++ y) a
breaks_later b m a k x k1 y first second = record {
  taken = (length (k ++ x) - length k1) + second.taken;
  short = omega (
    arith,
    first.within,
    second.short,
    length-append k x,
    length-append k1 y,
    length-append k (x ++ y),
    length-append x y,
  );
  holds = subst (λ l. Appends b.held (take ((length (k ++ x) - length k1) + second.taken) l) a.held)
      (append_assoc k x y)
      (prefix_on b.held m.held a.held k1 (k ++ x) y second.taken first.holds first.within second.holds);
  faults = second.faults ∙ ap risen first.faults;
  cause = subst (λ f. Rose f a.faults) first.faults second.cause;
  calls = seldom_on b.held m.held a.held k1 (k ++ x) b.writes m.writes a.writes first.holds first.calls second.calls;
  none_empty = second.none_empty ∙ first.none_empty;
}

-- the sink failed in an earlier text
pub breaks_early : (b a : Standing) (k x y : List ℕ) → Breaks b k x a → Breaks b k (x ++ y) a
breaks_early b a k x y broken =
    let within : broken.taken ≤ length (k ++ x) = omega (arith, broken.short) in
    record {
      taken = broken.taken;
      short = omega (arith, broken.short, length-append k x, length-append k (x ++ y), length-append x y);
      holds = subst (λ l. Appends b.held l a.held)
          (sym (take-append-le broken.taken (k ++ x) y within) ∙ ap (take broken.taken) (append_assoc k x y))
          broken.holds;
      faults = broken.faults;
      cause = broken.cause;
      calls = broken.calls;
      none_empty = broken.none_empty;
    }

-- the sink failed while what waited and a text were written
pub breaks_written : (b a : Standing) (k x : List ℕ) → AppendsPrefix b.held (k ++ x) a.held →
    a.faults ≡ risen b.faults → Rose b.faults a.faults → IsCalledSeldom b.held a.held b.writes a.writes →
    a.empty_writes ≡ b.empty_writes → Breaks b k x a
breaks_written b a k x prefix faults cause calls none = record {
  taken = prefix.taken;
  short = prefix.short;
  holds = prefix.appends;
  faults = faults;
  cause = cause;
  calls = calls;
  none_empty = none;
}

-- for functions that pour several texts
pub ruleset pours = (flows_nothing, flows_on, breaks_later, breaks_early)

-- The steps of one text, of which the bytes before `skip` have come.
module _ (b m a : Standing) (k k1 text : List ℕ) (skip n : ℕ) (came : Flows b k (take skip text) m k1) where
  -- all the others came, and wait
  pub poured : Flows b k text m (k1 ++ drop skip text)
  poured = subst (λ t. Flows b k t m (k1 ++ drop skip text)) (take-append-drop skip text)
      (flows_on b m m k (take skip text) k1 (drop skip text) (k1 ++ drop skip text) came
      (flows_waiting m k1 (drop skip text)))

  -- the next n were written
  pub piece_written : Flows m k1 (take n (drop skip text)) a [] → Flows b k (take (skip + n) text) a []
  piece_written next = subst (λ t. Flows b k t a []) (sym (take-add skip n text))
      (flows_on b m a k (take skip text) k1 (take n (drop skip text)) [] came next)

  -- the sink failed while they were written
  pub piece_broken : Breaks m k1 (take n (drop skip text)) a → Breaks b k text a
  piece_broken broken =
      let whole : (take skip text ++ take n (drop skip text)) ++ drop n (drop skip text) ≡ text =
      append_assoc (take skip text) (take n (drop skip text)) (drop n (drop skip text))
      ∙ ap (λ t. take skip text ++ t) (take-append-drop n (drop skip text)) ∙ take-append-drop skip text in
      subst (λ t. Breaks b k t a) whole
      (breaks_early b a k (take skip text ++ take n (drop skip text)) (drop n (drop skip text))
      (breaks_later b m a k (take skip text) k1 (take n (drop skip text)) came broken))

-- A piece went to the sink: what waited, and some of a text.
module _ (b a : Standing) (k x piece : List ℕ) (is : piece ≡ k ++ x) where
  -- the sink took it
  pub piece_taken : Appends b.held piece a.held → a.faults ≡ b.faults →
      a.writes ≤ b.writes + length piece → a.empty_writes ≡ b.empty_writes → Flows b k x a []
  piece_taken took faults few none =
      flows_written b a k x (subst (λ p. Appends b.held p a.held) is took) faults
      (subst (λ p. a.writes ≤ b.writes + length p) is few) none

  -- the sink failed
  pub piece_refused : AppendsPrefix b.held piece a.held → a.faults ≡ risen b.faults →
      Rose b.faults a.faults → IsCalledSeldom b.held a.held b.writes a.writes →
      a.empty_writes ≡ b.empty_writes → Breaks b k x a
  piece_refused prefix faults cause calls none =
      breaks_written b a k x (subst (λ p. AppendsPrefix b.held p a.held) is prefix) faults cause calls none
