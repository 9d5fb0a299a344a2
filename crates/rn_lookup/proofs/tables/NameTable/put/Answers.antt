-- The name finds its number, and every other what it found.
use Rattle.std.proofs.Common.{◌∙◌}
use Rattle.rn_lookup.specs.link.Tables.{found_in}
use Rattle.rn_lookup.proofs.TableLemmas.{put_found}
use Rattle.rn_lookup.proofs.tables.NameTable.put.Goals as goal

pub returns : goal.returns
returns c =
    put_found (found_in c.args.self.now) (found_in record { numbers = c.insert.new.self })
    c.args.name.now c.from_vec-key.result c.args.number
    (c.from_vec-key.ensures ∙ c.in_ok-from_slice.ensures.items)
    c.in_ok-insert.ensures.updates.0
