-- The index of a channel is its number.
use Rattle.std.proofs.Common.{◌∙◌, sym, ap}
use Rattle.std.proofs.Math.Path.{fun_ext}
use Rattle.std.specs.Prelude.{unwrap_or, position}
use Rattle.std.specs.List.{position_from}
use Rattle.rn_numbered.specs.link.NumbersFound.{is_key}
use Rattle.rn_numbered.proofs.NumberLemmas.{found_at, text_key, keys_alike}
use Rattle.rn_numbered.proofs.numbers.ChannelNumbers.number.Goals as goal

pub returns-in-Some : goal.returns-in-Some
returns-in-Some c =
    let name = c.args.name.now in
    let keys = c.self.inside.channels.keys in
    let is = c.in_ok-from_str.ensures.ok ∙ c.as_str.ensures in
    ap (λ o. unwrap_or o 0)
    (sym c.in-Some.is
    ∙ found_at text_key (is_key name c.args.count) keys c.get_index_of.result
    (c.get_index_of.ensures.index ∙ ap (λ p. position p keys) (fun_ext (λ k. keys_alike c.in_ok-from_str.field-0 c.args.count k name is)))
    ∙ ap (position_from (is_key name c.args.count) 0) c.self.view_is)

pub returns : goal.returns
returns c =
    let name = c.args.name.now in
    let keys = c.self.inside.channels.keys in
    let is = c.in_ok-from_str.ensures.ok ∙ c.as_str.ensures in
    ap (λ o. unwrap_or o 0)
    (sym c.in-None.is
    ∙ found_at text_key (is_key name c.args.count) keys c.get_index_of.result
    (c.get_index_of.ensures.index ∙ ap (λ p. position p keys) (fun_ext (λ k. keys_alike c.in_ok-from_str.field-0 c.args.count k name is)))
    ∙ ap (position_from (is_key name c.args.count) 0) c.self.view_is)
