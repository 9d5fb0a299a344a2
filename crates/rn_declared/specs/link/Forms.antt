-- The pattern of a form. It connects the code with the definitions, and states no rule.
use Rattle.rn_declared.specs.declared.pattern.Pattern.{Pattern}
use Rattle.rn_declared.specs.declared.pattern.Pattern.TheVariants as Pattern
use Rattle.rn_declared.specs.declared.numbered.Form.{Form}
use Rattle.rn_declared.specs.declared.numbered.Form.TheVariants as F

-- the pattern of a form
abbrev pub pattern_of_form : {N : Type 0} → Form N → Pattern
pattern_of_form F.Any = Pattern.Any
pattern_of_form F.Int = Pattern.Int
pattern_of_form F.Text = Pattern.Text
pattern_of_form (F.Tuple parts) = Pattern.Tuple parts
pattern_of_form (F.List part) = Pattern.List part
pattern_of_form F.Net = Pattern.Net
