-- The net is made of what was begun and of its transitions.
use Rattle.std.proofs.Common.{◌∙◌, ap, length}
use Rattle.rn_numbered.specs.Numbered.{number_in}
use Rattle.rn_numbered.specs.link.NumbersFound.{channel_by}
use Rattle.rn_numbering.specs.link.Making.{transitions_by}
use Rattle.rn_numbering.proofs.NetNumbers.{net_made}
use Rattle.rn_numbering.proofs.numbering.net_of.Goals as goal

pub returns : goal.returns
returns c =
    let begun = c.in_ok-begun.begun in
    net_made c.args.nets.now (channel_by c.args.channels.now) c.args.net begun.vars begun.places begun.net
    c.in_ok-end_net.field-0 c.in_ok-begun.ensures.vars c.in_ok-begun.ensures.places
    c.in_ok-begun.ensures.net
    (c.in_ok-end_net.ensures
    ∙ ap
    (λ ts. record begun.net {
      transitions = transitions_by
          (record {
            var = number_in begun.vars;
            place = number_in begun.places;
            net = number_in c.args.nets.now;
            channel = channel_by c.args.channels.now;
          })
          (length begun.net.vars) ts;
    }) c.transitions_in.ensures)
