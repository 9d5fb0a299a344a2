use Rattle.std.proofs.Common.{sym, ap, ◌∙◌}
use Rattle.rn_model.specs.Systems.{var_kind_in}
use Rattle.rn_numbering.specs.Numbering.{numbered_net_of, numbers_of}
use Rattle.rn_check.proofs.ExpressionKinds.{has_its_kinds}
use Rattle.rn_check.proofs.KindsSeen.{kinds_are_seen}
use Rattle.rn_check.proofs.ScopeKinds.{vars_are_known, vars_are_seen}
use Rattle.rn_check.proofs.laws.checked_expressions_have_kinds.Goals as goal

pub returns : goal.returns
returns c = λ plain net at e kind same none. (
  has_its_kinds at (numbers_of plain net).var (var_kind_in (numbered_net_of plain net))
      (λ name p k is g. vars_are_known plain net name p k (sym (ap (λ f. f name) same) ∙ is) g)
      e none kind,
  kinds_are_seen at (numbers_of plain net).var (var_kind_in (numbered_net_of plain net))
      (λ name p k is h. vars_are_seen plain net name p k (sym (ap (λ f. f name) same) ∙ is) h)
      e none kind,
)
