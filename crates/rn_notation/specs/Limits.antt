-- The limits of texts.
use Rattle.std.specs.Prelude.{ℕ}

-- how many bytes a net text has at most
abbrev pub longest_net_text : ℕ
longest_net_text = 4194304

-- how many bytes are read as tokens at most: a record with its net text may be longer than that
abbrev pub longest_text : ℕ
longest_text = 67108864
