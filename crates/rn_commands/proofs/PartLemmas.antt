-- Going over lines.
use Rattle.std.proofs.Common.{◌≡◌, ◌∙◌, ◌≤◌, ◌<◌, ◌+◌, ◌++◌, ℕ, List, [], refl, sym, ap, subst, arith}
use Rattle.std.specs.Prelude.{length, take, drop, IsTrue, ◌≢◌}
use Rattle.std.proofs.lemmas.List.{append_assoc, append-nil, drop-drop, length-drop, take-append-drop, drop_all}
use Rattle.std.proofs.Math.Seq.{take-add}
use Rattle.rn_commands.specs.Laws.{OneParting}
use Rattle.rn_commands.specs.Parts.{HasParts, line_length, first_line, after_line, is_parting}

-- The bytes up to here are lines of which none parts: the parts of those that are left, after these
-- lines, are those of all.
pub record IsPastLines (bytes : List ℕ) (at : ℕ) : Type 0 where
  pub within : at ≤ length bytes
  pub parts : (net rest : List ℕ) → HasParts (drop at bytes) net rest →
      HasParts bytes (take at bytes ++ net) rest

-- before the first line
pub none_past : (bytes : List ℕ) → IsPastLines bytes 0
none_past bytes = record { within = omega arith; parts = λ net rest has. has }

-- a line more
pub line_past : (bytes : List ℕ) (at n : ℕ) → IsPastLines bytes at → at < length bytes →
    n ≡ line_length (drop at bytes) → ¬ IsTrue (is_parting (take n (drop at bytes))) →
    IsPastLines bytes (at + n)
line_past bytes at n past more is other =
    let size : length (drop at bytes) + at ≡ length bytes = omega (arith, length-drop at bytes, more) in
    let some : drop at bytes ≢ [] = λ none. omega (arith, size, ap length none, more) in
    record {
      within = omega (arith, size, is);
      parts = λ net rest has.
          let left : HasParts (drop n (drop at bytes)) net rest = subst (λ xs. HasParts xs net rest) (sym (drop-drop n at bytes)) has in
          let own : HasParts (drop at bytes) (take n (drop at bytes) ++ net) rest = further_by (drop at bytes) n net rest is some other left in
          subst (λ xs. HasParts bytes xs rest) (sym (append_assoc (take at bytes) (take n (drop at bytes)) net) ∙ ap (λ xs. xs ++ net) (sym (take-add at n bytes))) (past.parts (take n (drop at bytes) ++ net) rest own);
    }
  where
    further_by : (bytes : List ℕ) (n : ℕ) (net rest : List ℕ) → n ≡ line_length bytes → bytes ≢ [] → ¬ IsTrue (is_parting (take n bytes)) → HasParts (drop n bytes) net rest → HasParts bytes (take n bytes ++ net) rest
    further_by bytes n net rest is some other has =
        subst (λ k. HasParts bytes (take k bytes ++ net) rest) (sym is) (HasParts.further some (subst (λ k. ¬ IsTrue (is_parting (take k bytes))) is other) (subst (λ k. HasParts (drop k bytes) net rest) is has))

-- the line that parts
pub parted_at : (bytes : List ℕ) (at n : ℕ) → IsPastLines bytes at →
    n ≡ line_length (drop at bytes) → IsTrue (is_parting (take n (drop at bytes))) →
    HasParts bytes (take at bytes) (drop (at + n) bytes)
parted_at bytes at n past is parting =
    let own : HasParts (drop at bytes) [] (after_line (drop at bytes)) = HasParts.parted (subst (λ k. IsTrue (is_parting (take k (drop at bytes)))) is parting) in
    let left : HasParts (drop at bytes) [] (drop (at + n) bytes) = subst (HasParts (drop at bytes) []) (ap (λ k. drop k (drop at bytes)) (sym is) ∙ drop-drop n at bytes) own in
    subst (λ net. HasParts bytes net (drop (at + n) bytes)) (append-nil (take at bytes)) (past.parts [] (drop (at + n) bytes) left)

-- no line parts
pub all_net : (bytes : List ℕ) (at : ℕ) → IsPastLines bytes at → length bytes ≤ at →
    HasParts bytes bytes (drop (length bytes) bytes)
all_net bytes at past over =
    let none : drop at bytes ≡ [] = drop_all at bytes over in
    let end : drop (length bytes) bytes ≡ [] = drop_all (length bytes) bytes (omega arith) in
    let own : HasParts (drop at bytes) [] [] = subst (λ xs. HasParts xs [] []) (sym none) HasParts.whole in
    let all : take at bytes ++ [] ≡ bytes = ap (λ xs. take at bytes ++ xs) (sym none) ∙ take-append-drop at bytes in
    subst (HasParts bytes bytes) (sym end) (subst (λ net. HasParts bytes net []) all (past.parts [] [] own))

-- the record isn't longer than the input
pub rest_few : {bytes net rest : List ℕ} → HasParts bytes net rest → length rest ≤ length bytes
rest_few HasParts.whole = omega arith
rest_few (HasParts.parted {bytes = bytes} parting) = omega (arith, length-drop (line_length bytes) bytes)
rest_few (HasParts.further {bytes = bytes} some other has) = omega (arith, length-drop (line_length bytes) bytes, rest_few has)

-- bytes have one parting
parts_alike : {bytes net rest other_net other_rest : List ℕ} → HasParts bytes net rest →
    HasParts bytes other_net other_rest → (net ≡ other_net) × (rest ≡ other_rest)
parts_alike HasParts.whole HasParts.whole = (refl, refl)
parts_alike HasParts.whole (HasParts.parted parting) = absurd (let never : ⊥ = cc in never)
parts_alike HasParts.whole (HasParts.further some other has) = absurd (some refl)
parts_alike (HasParts.parted parting) HasParts.whole = absurd (let never : ⊥ = cc in never)
parts_alike (HasParts.parted parting) (HasParts.parted again) = (refl, refl)
parts_alike (HasParts.parted parting) (HasParts.further some other has) = absurd (other parting)
parts_alike (HasParts.further some other has) HasParts.whole = absurd (some refl)
parts_alike (HasParts.further some other has) (HasParts.parted parting) = absurd (other parting)
parts_alike (HasParts.further {bytes = bytes} some other has) (HasParts.further again still more) =
    let both = parts_alike has more in (ap (λ xs. first_line bytes ++ xs) both.0, both.1)

pub one_parting : OneParting
one_parting bytes net rest other_net other_rest has more = parts_alike has more
