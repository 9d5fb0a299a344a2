-- The laws are lemmas, from those of tokens and inscriptions.
use Rattle.rn_net.proofs.Names.{OneExpression, OneInscription}
use Rattle.rn_net.proofs.Notations.{spelled_in_notation}
use Rattle.rn_net.proofs.OneSystem.{one_system, one_text}
use Rattle.rn_net.proofs.Settling.{spelled-alone}
use Rattle.rn_net.proofs.laws.net_laws.Goals as goal

pub returns : goal.returns
returns c =
    let t = c.token_laws.ensures in
    let one : OneInscription × OneExpression =
    (c.reading_laws.ensures.one_inscription, c.reading_laws.ensures.one_expression) in record {
      one_system = one_system one;
      one_text = one_text one t.one_reading;
      not_refused = λ bytes plain refusal spelled why.
          spelled-alone t.one_reading t.one_fault t.no_both spelled why;
      notations = spelled_in_notation;
    }
