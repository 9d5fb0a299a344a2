-- The bytes that the notation names.
use Rattle.std.specs.Prelude.{ℕ}

-- `"`
abbrev pub quote : ℕ
quote = 34

-- the backslash
abbrev pub backslash : ℕ
backslash = 92

-- `/`
abbrev pub slash : ℕ
slash = 47

-- the line feed, which ends a line
abbrev pub line_feed : ℕ
line_feed = 10

-- the tab
abbrev pub tab : ℕ
tab = 9
