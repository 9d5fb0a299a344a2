-- The key is its bucket's last.
use Rattle.std.proofs.Common.{◌≡◌, ◌<◌, ◌+◌, ◌++◌, ◌∷◌, [], ◌%◌, arith, rules, subst, sym}
use Rattle.std.proofs.Common.{length, ap, ◌∙◌}
use Rattle.std.specs.Prelude.{slice_set, get_or}
use Rattle.std.proofs.Math.Nat.{mod-lt}
use Rattle.std.proofs.lemmas.Grind.{get_or_default_zero}
use Rattle.rn_chains.specs.link.Chains.{AreChained}
use Rattle.rn_chains.proofs.ChainSteps.{pushed}
use Rattle.rn_chains.proofs.chains.Links.link.Goals as goal

pub returns-clause-chained : goal.returns-clause-chained
returns-clause-chained c =
    let keys = c.args.keys.now in
    let buckets = c.args.self.now.buckets.items in
    let wide : c.len.result ≡ length c.args.self.now.buckets.items = search rules in
    let room : length c.args.keys.now < length c.args.self.now.buckets.items = c.requires.room in
    let bucket = c.args.key % length buckets in
    let told : c.index.result.now ≡ get_or buckets bucket 0 =
    c.index.ensures
    ∙ ap (λ m. get_or buckets (c.args.key % m) c.index.result.now) wide
    ∙ get_or_default_zero buckets bucket c.index.result.now
    (mod-lt c.args.key (omega (arith, room))) in
    let befores : c.push.new.self.items
    ≡ c.args.self.now.befores.items ++ c.index.result.now ∷ [] = search rules in
    subst (λ m. AreChained (keys ++ c.args.key ∷ []) c.push.new.self.items
    (slice_set buckets (c.args.key % m) (length keys + 1))) (sym wide)
    (subst (λ bs. AreChained (keys ++ c.args.key ∷ []) bs
    (slice_set buckets bucket (length keys + 1)))
    (sym (befores ∙ ap (λ x. c.args.self.now.befores.items ++ x ∷ []) told))
    (pushed keys c.args.self.now.befores.items buckets c.args.key c.requires.chained room))
