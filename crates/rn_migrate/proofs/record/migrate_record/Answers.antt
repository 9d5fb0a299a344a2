-- What the bytes tell they are the text of, and its text in format 2 tells the same.
use Rattle.std.proofs.Common.{inl, refl, subst, sym}
use Rattle.rn_record_reader.specs.Runs.{Verdict, TellsRecord}
use Rattle.rn_migrate.proofs.record.migrate_record.Goals as goal

pub rewritten-requires-clause-text : goal.rewritten-requires-clause-text
rewritten-requires-clause-text c =
    let told = c.in_ok-told.told in
    c.record_laws.ensures.spelling c.args.system.now 1 c.args.bytes.now told.entries told.marks c.requires.good (inl refl) c.in_ok-told.ensures

pub rewritten-requires-clause-named : goal.rewritten-requires-clause-named
rewritten-requires-clause-named c =
    let told = c.in_ok-told.told in
    c.record_laws.ensures.named c.args.system.now 1 c.args.bytes.now told.entries told.marks c.requires.good (inl refl) c.in_ok-told.ensures

pub returns-clause-told : goal.returns-clause-told
returns-clause-told c =
    let system = c.args.system.now in
    let told = c.in_ok-told.told in
    let tells = c.in_ok-told.ensures in
    record {
      told = told;
      tells = tells;
      is = c.in_ok-rewritten.ensures;
      again = subst (λ text. TellsRecord system 2 text (Verdict.tells told.entries told.marks)) (sym c.in_ok-rewritten.ensures)
          (c.record_laws.ensures.migrate system c.args.bytes.now told.entries told.marks c.requires.good c.requires.few tells);
    }
