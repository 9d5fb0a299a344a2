-- The table has the names from here on.
use Rattle.std.proofs.Common.{◌≡◌, ℕ, ◌-◌, List, drop}
use Rattle.rn_lookup.specs.Found.{number_from}
use Rattle.rn_lookup.specs.link.Tables.{found_in}
use Rattle.rn_lookup.proofs.tables.table_of.Given as goal

abbrev pub invariant-loop-k : goal.invariant-loop-k
invariant-loop-k g l = (word : List ℕ) → found_in l.table word
    ≡ number_from g.T.Named.name_of (l.count - l.k) (drop (l.count - l.k) l.items) word
