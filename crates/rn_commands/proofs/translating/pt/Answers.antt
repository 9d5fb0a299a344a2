-- The canonical text of the translation.
use Rattle.std.proofs.Common.{inr, ap, ◌∙◌}
use Rattle.rn_print.specs.Nets.{canonical_text}
use Rattle.rn_answering.specs.Refusing.{done}
use Rattle.rn_commands.proofs.Translations.{translates}
use Rattle.rn_commands.proofs.translating.pt.Goals as goal

pub returns : goal.returns
returns c =
    inr (translates c.args.bytes.now c.in_ok-net.net c.done.result
    c.translations_are_accepted.ensures.accepted c.translations_have_their_length.ensures
    c.in_ok-net.ensures.spells c.in_ok-net.ensures.weighted c.in_ok-net.ensures.unrefused
    (c.done.ensures ∙ ap done (c.in_ok-text.ensures.text ∙ ap canonical_text c.in_ok-plain.ensures)))
