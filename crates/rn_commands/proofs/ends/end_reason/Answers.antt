-- The last entry is the end.
use Rattle.std.proofs.Common.{◌≡◌, sym, ap, ◌∙◌, subst}
use Rattle.std.specs.Prelude.{Some}
use Rattle.std.specs.Option.{option_copied}
use Rattle.rn_model.specs.declared.log.Entry.TheVariants.{End}
use Rattle.rn_replay.specs.link.Parts.{IsEnd}
use Rattle.rn_commands.proofs.LastReasons.{last_ends}
use Rattle.rn_commands.proofs.ends.end_reason.Goals as goal

pub reason_of-requires : goal.reason_of-requires
reason_of-requires c =
    let end = last_ends c.args.state.now c.entries.result.now c.requires c.entries.ensures.entries in
    let last = sym c.last.ensures.value ∙ ap option_copied c.in-Some.is in
    let told = end.2 in
    let is : c.in-Some.entry.now ≡ End end.0 = cc in
    subst IsEnd (sym is) tt

pub returns : goal.returns
returns c =
    let end = last_ends c.args.state.now c.entries.result.now c.requires c.entries.ensures.entries in
    let last = sym c.last.ensures.value ∙ ap option_copied c.in-Some.is in
    let told = end.2 in
    let found = c.reason_of.ensures in
    let same : end.0 ≡ c.reason_of.result.now = cc in
    end.1 ∙ ap Some same

pub unreachable-requires : goal.unreachable-requires
unreachable-requires c =
    let end = last_ends c.args.state.now c.entries.result.now c.requires c.entries.ensures.entries in
    let last = sym c.last.ensures.value ∙ ap option_copied c.in-None.is in
    let told = end.2 in
    let never : ⊥ = cc in never
