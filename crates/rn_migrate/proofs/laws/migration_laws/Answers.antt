-- The laws are lemmas, which stand on those of net texts and of printing.
use Rattle.rn_migrate.proofs.MigratedTexts.{same_parts_are_checked, migrated_texts_are_accepted, one_system_is_read}
use Rattle.rn_migrate.proofs.laws.migration_laws.Goals as goal

pub returns : goal.returns
returns c =
    let reads = c.printing_laws.ensures.migrated_texts_are_read in record {
      same_parts = same_parts_are_checked;
      accepted = migrated_texts_are_accepted reads;
      one_system = one_system_is_read reads c.net_laws.ensures.one_text;
    }
