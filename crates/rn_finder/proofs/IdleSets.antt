-- Sets of numbers as words of 64 bits, and the instances of such a set.
use Rattle.std.proofs.Common.{◌≡◌, ◌≢◌, ℕ, ◌+◌, ◌*◌, ◌/◌, ◌%◌, ◌<◌, ◌≤◌, true, List, get_or, sym, ap, ◌∙◌, subst, arith, ⊎_elim}
use Rattle.std.specs.Prelude.{◌⊎◌, Some, find, nat_le}
use Rattle.rn_bag.specs.Words.{has_bit}
use Rattle.rn_model.specs.declared.system.System.{System}
use Rattle.rn_table.specs.Tables.{Kept}
use Rattle.rn_channel.specs.declared.uplinks.Uplinks.{Uplinks}
use Rattle.rn_finder.specs.Idle.{AreIdle, IsIn}
use Rattle.rn_finder.specs.Starting.{AreNoStartsBetween, IsNoStartIn, IsSearchable}
use Rattle.rn_finder.proofs.Numbers.{less_or_not}
use Rattle.rn_finder.proofs.StartingBindings.{before_first, next_is_later, none_unless_known, none_up_to}

-- All numbers from one on are in a set up to the bit of a word.
abbrev pub AreInFrom : List ℕ → ℕ → ℕ → ℕ → Type 0
AreInFrom ws from at bit = (n : ℕ) → from ≤ n → n < 64 * at + bit → IsIn ws n

pub in_from_first : (ws : List ℕ) (from : ℕ) → AreInFrom ws from (from / 64) (from % 64)
in_from_first ws from n least below = absurd (let no : ⊥ = omega (arith, least, below) in no)

-- those of a word too, whose bits are set
pub in_from_more : (ws : List ℕ) (from at bit to : ℕ) → to ≤ 64 → AreInFrom ws from at bit →
    ((i : ℕ) → bit ≤ i → i < to → has_bit (get_or ws at 0) i ≡ true) → AreInFrom ws from at to
in_from_more ws from at bit to within before present n least below = ⊎_elim
    (λ (less : n < 64 * at + bit). before n least less)
    (λ (not_less : 64 * at + bit ≤ n).
    let word : n / 64 ≡ at = omega (arith, not_less, below, within) in
    ap (λ k. has_bit (get_or ws k 0) (n % 64)) word
    ∙ present (n % 64) (omega (arith, word, not_less)) (omega (arith, word, below)))
    (less_or_not n (64 * at + bit))

pub in_from_next : (ws : List ℕ) (from at : ℕ) → AreInFrom ws from at 64 →
    AreInFrom ws from (at + 1) 0
in_from_next ws from at before n least below = before n least (omega (arith, below))

-- Going through the instances that may start a firing, and of which some are known to be idle.
module _ (system : System) (uplinks : Uplinks) (table : Kept) (depth : ℕ)
    (searched : IsSearchable system uplinks table) where
  abbrev Idles : List ℕ → Type 0
  Idles = AreIdle system table.marking depth

  -- a number before the next instance that may start starts nothing, so it may be known
  pub idle_before : (next start : ℕ) (old new : List ℕ) →
      find (λ n. nat_le next n) table.starting ≡ Some start →
      ((n : ℕ) → IsIn new n → IsIn old n ⊎ ((n ≡ next) × (next ≢ start))) → Idles old → Idles new
  idle_before next start old new first more idle n has = ⊎_elim
      (λ (before : IsIn old n). idle n before)
      (λ (its : (n ≡ next) × (next ≢ start)).
      let later = next_is_later system uplinks table depth searched next start first in
      subst (IsNoStartIn system table.marking depth) (sym its.0)
      (none_unless_known system uplinks table depth next searched
      (λ there. its.1
      (let back = before_first system uplinks table next start next searched first there (omega arith) in
      omega (arith, later, back)))))
      (more n has)

  -- what was searched in vain may be known
  pub idle_more : (number : ℕ) (old new : List ℕ) →
      ((n : ℕ) → IsIn new n → IsIn old n ⊎ (n ≡ number)) → Idles old →
      IsNoStartIn system table.marking depth number → Idles new
  idle_more number old new more idle none n has = ⊎_elim
      (λ (before : IsIn old n). idle n before)
      (λ (same : n ≡ number). subst (IsNoStartIn system table.marking depth) (sym same) none)
      (more n has)

  -- behind the next instance that may start all are idle up to another
  pub none_before_other : (from next start other : ℕ) (idle : List ℕ) →
      find (λ n. nat_le next n) table.starting ≡ Some start → Idles idle →
      ((n : ℕ) → start ≤ n → n < other → IsIn idle n) →
      AreNoStartsBetween system table depth from next →
      AreNoStartsBetween system table depth from other
  none_before_other from next start other idle first are passed before k least below there = ⊎_elim
      (λ (less : k < start).
      none_up_to system uplinks table depth searched from next start start first (omega arith) before
      k least less there)
      (λ (not_less : start ≤ k). are k (passed k not_less below))
      (less_or_not k start)

  -- from a number on, and then from the next one on
  pub none_then : (from next end : ℕ) → AreNoStartsBetween system table depth from next →
      AreNoStartsBetween system table depth next end → AreNoStartsBetween system table depth from end
  none_then from next end first second k least below there = ⊎_elim
      (λ (less : k < next). first k least less there)
      (λ (not_less : next ≤ k). second k not_less below there)
      (less_or_not k next)

  -- with one more
  pub none_with : (from number : ℕ) → AreNoStartsBetween system table depth from number →
      IsNoStartIn system table.marking depth number →
      AreNoStartsBetween system table depth from (number + 1)
  none_with from number before none k least below there = ⊎_elim
      (λ (less : k < number). before k least less there)
      (λ (not_less : number ≤ k). let same : number ≡ k = omega (arith, below, not_less) in
      subst (IsNoStartIn system table.marking depth) same none)
      (less_or_not k number)
