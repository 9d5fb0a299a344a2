use Rattle.rn_net.proofs.Names.{rules, ◌≡◌, arith}
use Rattle.std.specs.Prelude.{Some}
use Rattle.rn_inscript.specs.declared.inscriptions.PInscribed.TheVariants as I
use Rattle.rn_net.proofs.inscription_reader.open_arc.Goals as goal

pub returns-in-Arc-default-default-Some : goal.returns-in-Arc-default-default-Some
returns-in-Arc-default-default-Some c =
    let arc = c.in-Arc-default-default-Some in record {
      inscription = arc.inscription-0;
      second = omega (arith, c.if-notation-ne2.false);
      long = omega (arith, c.if-length-le2.false);
      is =
          let h : c.args.inscription.now.form ≡ I.Arc arc.kind arc.place (Some arc.inscription-0)
          = search rules in h;
    }
