-- The channel stands at the end, where it is new.
use Rattle.std.proofs.Common.{◌≡◌, ◌∙◌, ◌∷◌, [], ◌++◌, List, ℕ, false, subst, ap}
use Rattle.std.specs.List.{list_any}
use Rattle.rn_numbered.specs.link.NumbersFound.{is_key}
use Rattle.rn_numbered.proofs.NumberLemmas.{put_more, text_key, all_keys, keys_eq, keys_alike}
use Rattle.rn_numbered.proofs.numbers.ChannelNumbers.put.Goals as goal

pub returns : goal.returns
returns c =
    let name = c.args.name.now in
    let is = c.in_ok-name.ensures.ok ∙ c.as_str.ensures in
    subst
    (λ (before : List (List ℕ × ℕ)). list_any (is_key name c.args.count) before ≡ false →
    all_keys c.insert.new.self.keys ≡ before ++ (name, c.args.count) ∷ [])
    c.self.view_is
    (put_more text_key keys_eq (is_key name c.args.count) c.self.inside.channels.keys
    c.insert.new.self.keys (c.in_ok-name.name, c.args.count) (name, c.args.count) c.in_ok-insert.ensures.keys
    (λ k. keys_alike c.in_ok-name.name c.args.count k name is) (ap (λ n. (n, c.args.count)) is))
