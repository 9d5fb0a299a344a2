-- The translation is checked, and its canonical text is accepted.
use Rattle.std.proofs.Common.{[], inl, refl, sym, ◌∙◌}
use Rattle.rn_net.specs.Texts.{Spells}
use Rattle.rn_print.specs.Nets.{canonical_text}
use Rattle.rn_print.proofs.Trees.{tokens_in, tokens_whole}
use Rattle.rn_print.proofs.SpelledSystems.{reads_back}
use Rattle.rn_translated.specs.Translation.{translated}
use Rattle.rn_translated.specs.AcceptedLaws.{TranslationsAreChecked, SpotsDoNotCount}
use Rattle.rn_translated.specs.AcceptedLaws.{TranslationsAreAccepted, OneSystemIsRead}
use Rattle.rn_print.specs.Laws.{WhatIsReadIsSame}
use Rattle.rn_translated.proofs.FormsBack.{form_back}
use Rattle.rn_translated.proofs.FormsMean.{means}
use Rattle.rn_translated.proofs.FormsUnbroken.{unbroken}
use Rattle.rn_translated.proofs.TokensOfNets.{reads}
use Rattle.rn_translated.proofs.TokensFit.{are_legal, are_shallow}

pub spots_do_not_count : SpotsDoNotCount
spots_do_not_count net plain good same =
    let form = form_back net plain same in
    record { unbroken = unbroken net plain good form; means = means net plain good form }

pub translations_are_checked : TranslationsAreChecked
translations_are_checked net good = spots_do_not_count net (translated net) good refl

pub translations_are_accepted : TranslationsAreAccepted
translations_are_accepted net good fits =
    let back = reads_back (reads net good) (are_legal net good) (are_shallow net good) 1 (inl refl) in
    let text = canonical_text (translated net) in
    let spelled : Spells text back.other = record {
      tokens = tokens_in [] back.tree [];
      fits = fits;
      read = tokens_whole back.tree text back.spells back.stands;
      system = back.system;
      within = back.within;
    } in
    (back.other, spelled, back.same, spots_do_not_count net back.other good back.same)

pub one_system_is_read : WhatIsReadIsSame → OneSystemIsRead
one_system_is_read read net plain system good spells checked =
    let is = translations_are_accepted net good spells.fits in
    let text = canonical_text (translated net) in
    let same = read (translated net) plain (text, (is.0, is.1, is.2)) spells in
    checked.means ∙ sym (spots_do_not_count net plain good same).means
