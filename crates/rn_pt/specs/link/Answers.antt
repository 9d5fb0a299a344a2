-- What reading a text comes to, from its tokens and from what they say. It connects the code with
-- the definitions, and states no rule.
use Rattle.std.specs.Prelude.{◌≡◌, ◌⊎◌, ◌<◌, ◌≤◌, [], Result, Ok, Err}
use Rattle.rn_items.specs.Memory.{no_memory}
use Rattle.rn_notation.specs.Limits.{longest_net_text}
use Rattle.rn_notation.specs.declared.token.Spot.{Spot}
use Rattle.rn_notation.specs.declared.token.Lexed.{Lexed}
use Rattle.rn_reading.specs.Counting.{uncounted}
use Rattle.rn_reading.specs.Texts.{IsAlone, Explains}
use Rattle.rn_reading.specs.declared.fault.TextFault.{TextFault}
use Rattle.rn_reading.specs.declared.fault.TextFault.TheVariants as Text
use Rattle.rn_weighted.specs.declared.weighted.Weighted.{Weighted}
use Rattle.rn_weighted.specs.TextLength.{text_length}
use Rattle.rn_pt.specs.declared.plain.PtNet.{PtNet}
use Rattle.rn_pt.specs.declared.fault.Broken.{Broken}
use Rattle.rn_pt.specs.declared.fault.PtFault.{PtFault}
use Rattle.rn_pt.specs.declared.fault.PtFault.TheVariants as Why
use Rattle.rn_pt.specs.Grammar.{IsPtNet}
use Rattle.rn_pt.specs.Faults.{report_of, IsFirstOf}
use Rattle.rn_pt.specs.Rules.{net_broken}
use Rattle.rn_pt.specs.Meaning.{weighted_of}
use Rattle.rn_pt.specs.Texts.{report_lexical}

-- where a text begins
abbrev pub first_spot : Spot
first_spot = record { line = 1; column = 1 }

-- why a net that a text says is refused: the first rule that it breaks, or how long its text is
abbrev pub Objects : PtNet → PtFault → Type 0
Objects plain why =
    ((first : Broken) × IsFirstOf (net_broken plain) first × (why ≡ report_of first))
    ⊎ ((net_broken plain ≡ []) × (longest_net_text < text_length (weighted_of plain))
    × (why ≡ Why.N5 first_spot))

-- what a net that a text says comes to
abbrev pub Meets : PtNet → Result Weighted PtFault → Type 0
Meets plain (Ok net) =
    (net_broken plain ≡ []) × (net ≡ weighted_of plain) × (text_length net ≤ longest_net_text)
Meets plain (Err why) = (why ≡ Why.NoMemory no_memory) ⊎ Objects plain why

-- how it is reported that tokens are no net
abbrev pub report_text : TextFault → PtFault
report_text (Text.Stopped spot) = Why.N1 spot
report_text (Text.TooFar spot) = Why.N1 spot
report_text (Text.Lexical fault) = report_lexical fault
report_text (Text.NoMemory refused) = Why.NoMemory refused

-- the tokens are a net, and this is what it comes to, or it is reported why they are none
abbrev pub Comes : Lexed → Result Weighted PtFault → Type 0
Comes lexed result =
    ((plain : PtNet) × IsAlone uncounted tt IsPtNet lexed plain × Meets plain result)
    ⊎ ((why : TextFault) × Explains uncounted tt IsPtNet lexed why
    × (result ≡ Err (report_text why)))
