-- A window once four texts came, one after another.
use Rattle.std.proofs.Common.{◌≡◌, ◌++◌, ℕ, List, ap, ◌∙◌}
use Rattle.rn_window.specs.Windows.{Sight, after}
use Rattle.rn_window.proofs.Windows.{chained}

pub four_in_turn : (w : Sight) (a b c d : List ℕ) →
    after (after (after (after w a) b) c) d ≡ after w (a ++ b ++ c ++ d)
four_in_turn w a b c d =
    ap (λ v. after (after v c) d) (chained w a b) ∙ ap (λ v. after v d) (chained w (a ++ b) c)
    ∙ chained w (a ++ b ++ c) d
