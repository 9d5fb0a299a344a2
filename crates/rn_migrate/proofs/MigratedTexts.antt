-- The migrated text of an accepted text is accepted with the same system.
use Rattle.std.proofs.Common.{◌≡◌, ℕ, List, refl, sym, ap, ◌∙◌}
use Rattle.rn_net.specs.declared.plain.Plain.{Plain}
use Rattle.rn_net.specs.Texts.{Spells}
use Rattle.rn_net.specs.Laws.{OneSpelled}
use Rattle.rn_rules.specs.Systems.{system_faults}
use Rattle.rn_numbering.specs.Numbering.{system_of}
use Rattle.rn_print.specs.Nets.{in_notation}
use Rattle.rn_print.specs.Laws.{MigratedTextsAreRead}
use Rattle.rn_print.specs.ReadingBack.{IsSpelled}
use Rattle.rn_migrate.specs.Migrated.{migrated_text}
use Rattle.rn_migrate.specs.Laws.{SamePartsAreChecked, MigratedTextsAreAccepted, OneSystemIsRead}
use Rattle.rn_migrate.proofs.MovedFaults.{all_moved, none_moved}
use Rattle.rn_migrate.proofs.SameFaults.{system_moved}
use Rattle.rn_migrate.proofs.SameMeaning.{system_kept}

pub same_parts_are_checked : SamePartsAreChecked
same_parts_are_checked p q system same is =
    let p2 = in_notation 2 p in
    let q2 = in_notation 2 q in
    record {
      unbroken =
          none_moved (system_faults q)
          (sym (system_moved q2) ∙ ap system_faults (sym same) ∙ system_moved p2
          ∙ ap all_moved is.unbroken);
      means =
          is.means ∙ sym (system_kept p2) ∙ ap system_of same ∙ system_kept q2;
    }

spelled : (bytes : List ℕ) (plain : Plain) → Spells bytes plain → IsSpelled plain
spelled bytes plain is = (bytes, (plain, is, refl))

pub migrated_texts_are_accepted : MigratedTextsAreRead → MigratedTextsAreAccepted
migrated_texts_are_accepted reads bytes plain system is checked fits =
    let r = reads plain (spelled bytes plain is) fits in (
      r.0,
      r.1,
      ap (λ (p : Plain). p.notation) r.2,
      ap (in_notation 2) r.2,
      same_parts_are_checked plain r.0 system (sym (ap (in_notation 2) r.2)) checked,
    )

pub one_system_is_read : MigratedTextsAreRead → OneSpelled → OneSystemIsRead
one_system_is_read reads one bytes plain migrated system other is checked read meant =
    let m = migrated_texts_are_accepted reads bytes plain system is checked read.fits in
    let same : m.0 ≡ migrated = one (migrated_text plain) m.0 migrated m.1 read in (
      meant.means ∙ ap system_of (sym same) ∙ sym m.4.means,
      ap (λ (p : Plain). p.notation) (sym same) ∙ m.2,
    )
