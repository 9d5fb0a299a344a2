-- The first rule that is broken was reported, or none is.
use Rattle.std.proofs.Common.{◌≡◌, ◌<◌, sym, ◌∙◌, subst, inl, inr, refl, []}
use Rattle.rn_notation.specs.Limits.{longest_net_text}
use Rattle.rn_weighted.specs.TextLength.{text_length}
use Rattle.rn_pt.specs.Rules.{net_broken}
use Rattle.rn_pt.proofs.FirstLemmas.{first_iff, none_iff}
use Rattle.rn_pt.proofs.Settling.{none_there, not_within}
use Rattle.rn_pt.proofs.reading.accepted.Goals as goal

pub returns-in-Some : goal.returns-in-Some
returns-in-Some c =
    let first = c.in-Some.broken in
    inr (inl (first, (first_iff (net_broken c.args.net.now) first).0 (sym c.in_ok-first.ensures.first ∙ c.in-Some.is), c.report.ensures))

pub weighted_of-requires-clause-unbroken : goal.weighted_of-requires-clause-unbroken
weighted_of-requires-clause-unbroken c =
    (none_iff (net_broken c.args.net.now)).0 (sym c.in_ok-first.ensures.first ∙ none_there c.in_ok-first.first.broken c.in_default.not-Some)

pub returns-then-not-has_text_within : goal.returns-then-not-has_text_within
returns-then-not-has_text_within c =
    let unbroken : net_broken c.args.net.now ≡ [] = (none_iff (net_broken c.args.net.now)).0 (sym c.in_ok-first.ensures.first ∙ none_there c.in_ok-first.first.broken c.in_default.not-Some) in
    let long : longest_net_text < text_length c.in_ok-weighted.weighted = not_within c.has_text_within.result (text_length c.in_ok-weighted.weighted) longest_net_text c.if-not-has_text_within.true c.has_text_within.ensures.1 in
    inr (inr (unbroken, subst (λ w. longest_net_text < text_length w) c.in_ok-weighted.ensures long, refl))

pub returns : goal.returns
returns c =
    let unbroken : net_broken c.args.net.now ≡ [] = (none_iff (net_broken c.args.net.now)).0 (sym c.in_ok-first.ensures.first ∙ none_there c.in_ok-first.first.broken c.in_default.not-Some) in
    (unbroken, c.in_ok-weighted.ensures, c.has_text_within.ensures.0 c.if-not-has_text_within.false)
