-- The system is made of what was begun and of its nets.
use Rattle.std.proofs.Common.{◌∙◌, ap, map, List}
use Rattle.rn_model.specs.declared.system.System.{System}
use Rattle.rn_model.specs.declared.system.Net.{Net}
use Rattle.rn_model.specs.declared.system.Channel.{Channel}
use Rattle.rn_numbering.specs.Numbering.{numbered_net_of}
use Rattle.rn_numbered.specs.link.NumbersFound.{channel_by}
use Rattle.rn_numbering.specs.link.Making.{net_by}
use Rattle.rn_numbering.proofs.NetNumbers.{nets_are}
use Rattle.rn_numbering.proofs.numbering.system_of.Goals as goal

pub returns : goal.returns
returns c =
    let plain = c.args.plain in
    let begun = c.in_ok-begun.begun in
    let of : List Net → List Channel → System = λ ns cs. record { nets = ns; channels = cs } in
    c.in_ok-end_system.ensures
    ∙ ap (λ ns. of (map (net_by begun.nets (channel_by begun.channels)) ns) begun.made) c.nets_in.ensures
    ∙ ap (λ ns. of (map (net_by ns (channel_by begun.channels)) plain.nets) begun.made)
    c.in_ok-begun.ensures.nets
    ∙ ap (λ ks. of (map (net_by (map (λ n. n.name.text) plain.nets) (channel_by ks)) plain.nets) begun.made)
    c.in_ok-begun.ensures.channels
    ∙ ap (λ ns. of ns begun.made) (nets_are plain)
    ∙ ap (of (map (numbered_net_of plain) plain.nets)) c.in_ok-begun.ensures.made
