-- Bytes that are repeated by blocks.
use Rattle.std.proofs.Common.{◌≡◌, ◌∙◌, ℕ, zero, suc, ◌+◌, ◌*◌, List, [], ◌++◌, sym, ap, append_assoc, add-zero}
use Rattle.std.specs.Prelude.{◌/◌, ◌%◌}
use Rattle.std.proofs.lemmas.List.{append-nil}
use Rattle.std.proofs.Math.Nat.{add-suc, suc-mul, zero-mul, mul_comm, div-add-mod}
use Rattle.renew_rows.specs.Pieces.{bytes_times}

bytes_times-add : (m n : ℕ) (bytes : List ℕ) → bytes_times (m + n) bytes ≡ bytes_times m bytes ++ bytes_times n bytes
bytes_times-add m zero bytes =
    ap (λ k. bytes_times k bytes) (add-zero m) ∙ sym (append-nil (bytes_times m bytes))
bytes_times-add m (suc n) bytes =
    ap (λ k. bytes_times k bytes) (add-suc m n)
    ∙ ap (λ start. start ++ bytes) (bytes_times-add m n bytes)
    ∙ append_assoc (bytes_times m bytes) (bytes_times n bytes) bytes

bytes_times-bytes_times : (m n : ℕ) (bytes : List ℕ) → bytes_times m (bytes_times n bytes) ≡ bytes_times (m * n) bytes
bytes_times-bytes_times zero n bytes = ap (λ k. bytes_times k bytes) (sym (zero-mul n))
bytes_times-bytes_times (suc m) n bytes =
    ap (λ start. start ++ bytes_times n bytes) (bytes_times-bytes_times m n bytes)
    ∙ sym (bytes_times-add (m * n) n bytes)
    ∙ ap (λ k. bytes_times k bytes) (sym (suc-mul m n))

by_blocks : (count size : ℕ) (base bytes : List ℕ) →
    (base ++ bytes_times (count / size) (bytes_times size bytes)) ++ bytes_times (count % size) bytes
    ≡ base ++ bytes_times count bytes
by_blocks count size base bytes =
    append_assoc base (bytes_times (count / size) (bytes_times size bytes)) (bytes_times (count % size) bytes)
    ∙ ap (λ text. base ++ text)
    (ap (λ start. start ++ bytes_times (count % size) bytes) (bytes_times-bytes_times (count / size) size bytes)
    ∙ sym (bytes_times-add (count / size * size) (count % size) bytes)
    ∙ ap (λ k. bytes_times k bytes)
    (ap (λ k. k + count % size) (mul_comm (count / size) size) ∙ div-add-mod count size))

-- so many blocks, and then what is left
pub in_blocks : (count size : ℕ) (base bytes block blocks all : List ℕ) →
    block ≡ [] ++ bytes_times size bytes → blocks ≡ base ++ bytes_times (count / size) block →
    all ≡ blocks ++ bytes_times (count % size) bytes → all ≡ base ++ bytes_times count bytes
in_blocks count size base bytes block blocks all block_is blocks_are all_is =
    all_is ∙ ap (λ text. text ++ bytes_times (count % size) bytes)
    (blocks_are ∙ ap (λ text. base ++ bytes_times (count / size) text) block_is)
    ∙ by_blocks count size base bytes
