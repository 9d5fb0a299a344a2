-- Pieces that a source gives and a sink takes one after another.
use Rattle.std.proofs.Common.{ℕ, ◌+◌, ◌-◌, ◌≤◌, List, [], ◌++◌, length, take, drop, Option, Some, None, sym, refl, ap, ◌∙◌, subst, append_assoc, append-nil, length-append, arith}
use Rattle.std.proofs.Math.Seq.{take-add, take-append-add}
use Rattle.std.proofs.lemmas.List.{length-take-le, take-append-le, take_rest}
use Rattle.std.specs.Option.{option_map}
use Rattle.rn_outside.specs.Bytes.{Gives, GivesAtMost, GivesPrefix, Appends, AppendsPrefix, IsCalledSeldom}

-- a source that gave nothing is as it was
pub Gives-nothing : (left : Option (List ℕ)) → Gives left [] left
Gives-nothing None = refl
Gives-nothing (Some bytes) = refl

-- two pieces that a source gave are one
pub Gives-append : (a : Option (List ℕ)) (xs : List ℕ) (b : Option (List ℕ)) (ys : List ℕ) (c : Option (List ℕ)) → Gives a xs b → Gives b ys c → Gives a (xs ++ ys) c
Gives-append a xs b ys None first second = first ∙ ap (option_map (λ rest. xs ++ rest)) second
Gives-append a xs b ys (Some rest) first second =
    first ∙ ap (option_map (λ r. xs ++ r)) second ∙ ap Some (sym (append_assoc xs ys rest))

-- a piece, and then some prefix of the rest, are some prefix
pub GivesPrefix-append : (a : Option (List ℕ)) (xs : List ℕ) (b c : Option (List ℕ)) → Gives a xs b → GivesPrefix b c → GivesPrefix a c
GivesPrefix-append a xs b c first second = record {
  prefix = xs ++ second.prefix;
  gives = Gives-append a xs b second.prefix c first second.gives;
}

-- two pieces are some prefix
pub GivesPrefix-from_two : (a : Option (List ℕ)) (xs : List ℕ) (b : Option (List ℕ)) (ys : List ℕ) (c : Option (List ℕ)) → Gives a xs b → Gives b ys c → GivesPrefix a c
GivesPrefix-from_two a xs b ys c first second = record { prefix = xs ++ ys; gives = Gives-append a xs b ys c first second }

-- a piece, and then another, are few bytes where both together are
pub GivesAtMost-from_two : (a : Option (List ℕ)) (xs : List ℕ) (b : Option (List ℕ)) (ys : List ℕ) (c : Option (List ℕ)) (most : ℕ) → Gives a xs b → Gives b ys c → length xs + length ys ≤ most → GivesAtMost most a c
GivesAtMost-from_two a xs b ys c most first second few = record {
  prefix = xs ++ ys;
  few = omega (arith, few, length-append xs ys);
  gives = Gives-append a xs b ys c first second;
}

-- the same for one piece
pub GivesAtMost-from_one : (a : Option (List ℕ)) (xs : List ℕ) (b : Option (List ℕ)) (most : ℕ) → Gives a xs b → length xs ≤ most → GivesAtMost most a b
GivesAtMost-from_one a xs b most gives few = record { prefix = xs; few = few; gives = gives }

-- a sink that took nothing is as it was
pub Appends-nothing : (held : Option (List ℕ)) → Appends held [] held
Appends-nothing None = refl
Appends-nothing (Some bytes) = ap Some (sym (append-nil bytes))

-- two pieces that a sink took are one
pub Appends-append : (a : Option (List ℕ)) (xs : List ℕ) (b : Option (List ℕ)) (ys : List ℕ) (c : Option (List ℕ)) → Appends a xs b → Appends b ys c → Appends a (xs ++ ys) c
Appends-append None xs b ys c first second = second ∙ ap (option_map (λ held. held ++ ys)) first
Appends-append (Some held) xs b ys c first second =
    second ∙ ap (option_map (λ h. h ++ ys)) first ∙ ap Some (append_assoc held xs ys)

-- the first m of the bytes, and then the n after them, are the first m + n
pub Appends-take : (a b c : Option (List ℕ)) (bytes : List ℕ) (m n : ℕ) → Appends a (take m bytes) b → Appends b (take n (drop m bytes)) c → Appends a (take (m + n) bytes) c
Appends-take a b c bytes m n first second =
    subst (λ piece. Appends a piece c) (sym (take-add m n bytes)) (Appends-append a (take m bytes) b (take n (drop m bytes)) c first second)

-- a piece, and then a prefix of the next one, are a prefix of both
pub AppendsPrefix-append : (a : Option (List ℕ)) (xs : List ℕ) (b : Option (List ℕ)) (ys : List ℕ) (c : Option (List ℕ)) → Appends a xs b → AppendsPrefix b ys c → AppendsPrefix a (xs ++ ys) c
AppendsPrefix-append a xs b ys c first second = record {
  taken = length xs + second.taken;
  short = omega (arith, length-append xs ys);
  appends = subst (λ piece. Appends a piece c) (sym (take-append-add xs ys second.taken)) (Appends-append a xs b (take second.taken ys) c first second.appends);
}

-- a prefix of a piece is one of the piece with more after it
pub AppendsPrefix-longer : (a : Option (List ℕ)) (xs ys : List ℕ) (b : Option (List ℕ)) → AppendsPrefix a xs b → AppendsPrefix a (xs ++ ys) b
AppendsPrefix-longer a xs ys b prefix =
    let within : prefix.taken ≤ length xs = omega arith in
    record {
      taken = prefix.taken;
      short = omega (arith, length-append xs ys);
      appends = subst (λ piece. Appends a piece b) (sym (take-append-le prefix.taken xs ys within)) prefix.appends;
    }

-- the same, where all bytes after the first m were offered and n of them taken
pub Appends-offered : (a b c : Option (List ℕ)) (bytes : List ℕ) (m n : ℕ) → Appends a (take m bytes) b → Appends b (take n (take (length bytes - m) (drop m bytes))) c → Appends a (take (m + n) bytes) c
Appends-offered a b c bytes m n first second =
    Appends-take a b c bytes m n first (rw (sym (take_rest bytes m)) second)

-- where each call took a byte at least but one, which may have taken none, there were few calls
pub IsCalledSeldom-taken : (a b : Option (List ℕ)) (bytes : List ℕ) (taken calls calls_after : ℕ) → Appends a (take taken bytes) b → taken ≤ length bytes → calls_after ≤ calls + taken + 1 → IsCalledSeldom a b calls calls_after
IsCalledSeldom-taken None b bytes taken calls calls_after appends within few = tt
IsCalledSeldom-taken (Some held) b bytes taken calls calls_after appends within few =
    subst (λ after. IsCalledSeldom (Some held) after calls calls_after) (sym appends) (omega (arith, few, length-append held (take taken bytes), length-take-le taken bytes within))

-- a sink that wasn't called
pub IsCalledSeldom-never : (a : Option (List ℕ)) (calls : ℕ) → IsCalledSeldom a a calls calls
IsCalledSeldom-never None calls = tt
IsCalledSeldom-never (Some held) calls = omega arith

-- for functions that read or write several times
pub ruleset pieces = (Gives-nothing, Gives-append, GivesPrefix-append, GivesPrefix-from_two, GivesAtMost-from_two, GivesAtMost-from_one, Appends-nothing, Appends-append, Appends-offered, AppendsPrefix-append, AppendsPrefix-longer)

-- for functions whose sinks may not be called
pub ruleset seldom = (IsCalledSeldom-never)

-- for a function that writes by several calls
pub ruleset calls = (Appends-nothing, Appends-offered, IsCalledSeldom-taken)
