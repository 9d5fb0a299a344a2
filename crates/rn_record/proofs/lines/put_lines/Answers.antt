use Rattle.std.proofs.Common.{refl, ◌+◌}
use Rattle.rn_record.proofs.BindingLines.{writable}
use Rattle.rn_record.proofs.lines.put_lines.Goals as goal

pub put_nodes-requires : goal.put_nodes-requires
put_nodes-requires g c =
    rw (c.new-numbered.ensures.names, c.new-numbered.ensures.system, c.new-numbered.ensures.nodes, c.new-numbered.ensures.next)
    (writable c.args.system.now (g.N.Naming.names c.args.names.now) c.args.before c.args.binding.now c.requires.within
    c.as_slice-nodes.result.now (c.args.before + 1) c.as_slice-nodes.ensures refl c.requires.named c.requires.fits)
