-- Accepted words give numbers within their limits.
use Rattle.std.proofs.Common.{◌≡◌, ◌≤◌, ◌∙◌, ℕ, List, Option, Some, None, unwrap_or, option_map, refl}
use Rattle.std.proofs.Common.{ap, subst, arith}
use Rattle.rn_model.specs.declared.log.Options.{Options}
use Rattle.rn_model.specs.Good.{IsInLimits}
use Rattle.rn_model.specs.Limits.{most_workers, most_steps, greatest_depth, greatest_sweep}
use Rattle.rn_words.specs.declared.table.Verb.{Verb}
use Rattle.rn_words.specs.declared.table.Verb.TheVariants.{Gen}
use Rattle.rn_words.specs.declared.table.Verb.TheVariants as verb
use Rattle.rn_words.specs.declared.table.Setting.{Setting}
use Rattle.rn_words.specs.declared.table.Setting.TheVariants.{Workers, Steps, Depth, Sweep, Pick, Seed}
use Rattle.rn_words.specs.declared.table.Picked.{Picked}
use Rattle.rn_words.specs.declared.table.Picked.TheVariants.{Any, Least}
use Rattle.rn_words.specs.declared.chosen.OptionValue.{OptionValue}
use Rattle.rn_words.specs.declared.chosen.OptionValue.TheVariants.{Number, Picks}
use Rattle.rn_words.specs.declared.chosen.Chosen.{Chosen}
use Rattle.rn_words.specs.declared.command.Command.{Command}
use Rattle.rn_words.specs.Choices.{nothing, with_given, options_of, run_of, gen_of, command_of}
use Rattle.rn_words.specs.Commands.{GivesOptions, FollowsVerb}
use Rattle.rn_words.specs.Laws.{AcceptedAreWithinLimits, IsWithinLimits}
use Rattle.rn_words.specs.Table.{pick_named, least, most, most_copies, greatest_seed}
use Rattle.rn_words.specs.Values.{value_within, value_of}

-- each value that is chosen is one that its option may have
record AreWithin (chosen : Chosen) : Type 0 where
  pub workers : (n : ℕ) → chosen.workers ≡ Some n → (1 ≤ n) × (n ≤ most_workers)
  pub steps : (n : ℕ) → chosen.steps ≡ Some n → n ≤ most_steps
  pub depth : (n : ℕ) → chosen.depth ≡ Some n → n ≤ greatest_depth
  pub sweep : (n : ℕ) → chosen.sweep ≡ Some n → n ≤ greatest_sweep
  pub seed : (n : ℕ) → chosen.seed ≡ Some n → n ≤ greatest_seed

-- a value that a word spells is within the limits
within : (low high : ℕ) (word : List ℕ) (n : ℕ) → value_within low high word ≡ Some n → (low ≤ n) × (n ≤ high)
within low high word n is = grind (arith, is)

-- one more number that its option may have
with_one : (chosen : Chosen) (s : Setting) (n : ℕ) → AreWithin chosen → (least s ≤ n) × (n ≤ most s) → AreWithin (with_given chosen s (Number n))
with_one chosen Workers n are (low, high) = record {
  workers = λ m is. let same : n ≡ m = cc in subst (λ k. (1 ≤ k) × (k ≤ most_workers)) same (low, high);
  steps = are.steps;
  depth = are.depth;
  sweep = are.sweep;
  seed = are.seed;
}
with_one chosen Steps n are (low, high) = record {
  workers = are.workers;
  steps = λ m is. let same : n ≡ m = cc in subst (λ k. k ≤ most_steps) same high;
  depth = are.depth;
  sweep = are.sweep;
  seed = are.seed;
}
with_one chosen Depth n are (low, high) = record {
  workers = are.workers;
  steps = are.steps;
  depth = λ m is. let same : n ≡ m = cc in subst (λ k. k ≤ greatest_depth) same high;
  sweep = are.sweep;
  seed = are.seed;
}
with_one chosen Sweep n are (low, high) = record {
  workers = are.workers;
  steps = are.steps;
  depth = are.depth;
  sweep = λ m is. let same : n ≡ m = cc in subst (λ k. k ≤ greatest_sweep) same high;
  seed = are.seed;
}
with_one chosen Pick n are limits = are
with_one chosen Seed n are (low, high) = record {
  workers = are.workers;
  steps = are.steps;
  depth = are.depth;
  sweep = are.sweep;
  seed = λ m is. let same : n ≡ m = cc in subst (λ k. k ≤ greatest_seed) same high;
}

-- a number that a word spells within limits is within them
by_number : (low high : ℕ) (word : List ℕ) (n : ℕ) →
    option_map Number (value_within low high word) ≡ Some (Number n) → (low ≤ n) × (n ≤ high)
by_number low high word n is = by (value_within low high word) refl is
  where
    by : (o : Option ℕ) → value_within low high word ≡ o → option_map Number o ≡ Some (Number n) →
        (low ≤ n) × (n ≤ high)
    by None e same = let no : ⊥ = cc in absurd no
    by (Some m) e same = let which : m ≡ n = cc in within low high word n (e ∙ ap Some which)

-- and so is one that is the value of an option
number_within : (s : Setting) (word : List ℕ) (n : ℕ) → value_of s word ≡ Some (Number n) →
    (least s ≤ n) × (n ≤ most s)
number_within Workers word n is = by_number (least Workers) (most Workers) word n is
number_within Steps word n is = by_number (least Steps) (most Steps) word n is
number_within Depth word n is = by_number (least Depth) (most Depth) word n is
number_within Sweep word n is = by_number (least Sweep) (most Sweep) word n is
number_within Seed word n is = by_number (least Seed) (most Seed) word n is
number_within Pick word n is = by (pick_named word) is
  where
    by : (o : Option Picked) → option_map Picks o ≡ Some (Number n) → (0 ≤ n) × (n ≤ 0)
    by None same = let no : ⊥ = cc in absurd no
    by (Some picked) same = let no : ⊥ = cc in absurd no

-- one more value that a word spells
with_value : (chosen : Chosen) (s : Setting) (word : List ℕ) (value : OptionValue) → AreWithin chosen →
    value_of s word ≡ Some value → AreWithin (with_given chosen s value)
with_value chosen s word (Number n) are spells = with_one chosen s n are (number_within s word n spells)
with_value chosen s word (Picks picked) are spells = record {
  workers = are.workers;
  steps = are.steps;
  depth = are.depth;
  sweep = are.sweep;
  seed = are.seed;
}

-- the options that words give are within their limits
all_within : (verb : Verb) (chosen all : Chosen) (words : List (List ℕ)) → GivesOptions verb chosen words all → AreWithin chosen → AreWithin all
all_within verb chosen all words GivesOptions.done are = are
all_within verb chosen all words (GivesOptions.joined s word value next more) are = all_within verb (with_given chosen s value) all _ more (with_value chosen s word value are next.spells)
all_within verb chosen all words (GivesOptions.apart s word value next more) are = all_within verb (with_given chosen s value) all _ more (with_value chosen s word value are next.spells)

none_within : AreWithin nothing
none_within = record {
  workers = λ n is. absurd cc;
  steps = λ n is. absurd cc;
  depth = λ n is. absurd cc;
  sweep = λ n is. absurd cc;
  seed = λ n is. absurd cc;
}

-- a value or its default is where both are
or_default : (P : ℕ → Type 0) (o : Option ℕ) (default : ℕ) → ((n : ℕ) → o ≡ Some n → P n) → P default → P (unwrap_or o default)
or_default P None default given otherwise = otherwise
or_default P (Some n) default given otherwise = given n refl

options_within : (steps : ℕ) (chosen : Chosen) → steps ≤ most_steps → AreWithin chosen → IsInLimits (options_of steps chosen)
options_within steps chosen few are = record {
  workers = or_default (λ n. (1 ≤ n) × (n ≤ most_workers)) chosen.workers 4 are.workers (omega arith, omega arith);
  steps = or_default (λ n. n ≤ most_steps) chosen.steps steps are.steps few;
  depth = or_default (λ n. n ≤ greatest_depth) chosen.depth 4 are.depth (omega arith);
  sweep_every = or_default (λ n. n ≤ greatest_sweep) chosen.sweep 64 are.sweep (omega arith);
}

-- the command `run` of options within their limits
run_within : (options : Options) (pick : Option Picked) (seed : Option ℕ) → IsInLimits options →
    ((n : ℕ) → seed ≡ Some n → n ≤ greatest_seed) → IsWithinLimits (run_of options pick seed)
run_within options (Some Least) seed are few = are
run_within options (Some Any) None are few = are
run_within options (Some Any) (Some n) are few = (are, few n refl)
run_within options None None are few = are
run_within options None (Some n) are few = (are, few n refl)

-- and `gen`
gen_within : (n : ℕ) (options : Options) (seed : Option ℕ) → (1 ≤ n) × (n ≤ most_copies) →
    IsInLimits options → ((m : ℕ) → seed ≡ Some m → m ≤ greatest_seed) →
    IsWithinLimits (gen_of n options seed)
gen_within n options None copies are few = (copies, are)
gen_within n options (Some m) copies are few = (copies, are, few m refl)

command_within : (v : Verb) (n : ℕ) (chosen : Chosen) → (v ≡ Gen → (1 ≤ n) × (n ≤ most_copies)) → AreWithin chosen → IsWithinLimits (command_of v n chosen)
command_within verb.Run n chosen copies are = run_within (options_of 1000 chosen) chosen.pick chosen.seed (options_within 1000 chosen (omega arith) are) are.seed
command_within verb.Check n chosen copies are = tt
command_within verb.Print n chosen copies are = tt
command_within verb.Enabled n chosen copies are = or_default (λ m. m ≤ greatest_depth) chosen.depth 4 are.depth (omega arith)
command_within verb.Replay n chosen copies are = options_within 1000 chosen (omega arith) are
command_within verb.Gen n chosen copies are = gen_within n (options_of 200000 chosen) chosen.seed (copies refl) (options_within 200000 chosen (omega arith) are) are.seed
command_within verb.Session n chosen copies are = options_within 1000 chosen (omega arith) are
command_within verb.Counts n chosen copies are = options_within 1000 chosen (omega arith) are
command_within verb.Moves n chosen copies are = options_within 1000 chosen (omega arith) are
command_within verb.Pt n chosen copies are = tt
command_within verb.Migrate n chosen copies are = tt

follows_within : (v : Verb) (rest : List (List ℕ)) (c : Command) → FollowsVerb v rest c → IsWithinLimits c
follows_within v rest c (FollowsVerb.options {verb} {words} {chosen} other gives) = command_within v 0 chosen (λ is. absurd (other is)) (all_within v nothing chosen rest gives none_within)
follows_within v rest c (FollowsVerb.copies {words} {chosen} word n spells gives) = command_within Gen n chosen (λ is. within 1 most_copies word n spells) (all_within Gen nothing chosen words gives none_within)

-- accepted words give numbers within their limits
pub accepted_are_within_limits : AcceptedAreWithinLimits
accepted_are_within_limits words c (v, rest, is, follows) = follows_within v rest c follows
