-- The first that is enabled at the table.
use Rattle.std.proofs.Common.{ℕ, List, sym, ap, ◌∙◌, subst}
use Rattle.std.specs.Prelude.{IfOk, IfSome, IfNone, MatchOption, Option, option_map, ⊤}
use Rattle.rn_model.specs.Markings.{Marking}
use Rattle.rn_model.specs.declared.log.Options.{Options}
use Rattle.rn_model.specs.declared.system.System.{System}
use Rattle.rn_reach.specs.Reach.{DifferAtMostIn}
use Rattle.rn_search.specs.Problems.{HasFitTokens}
use Rattle.rn_table.specs.Tables.{Kept}
use Rattle.rn_fire.specs.States.{State, end_marking}
use Rattle.rn_parted.specs.Parted.{IsKept}
use Rattle.rn_served.specs.Listed.{IsNumbered, NoneIsNumbered}
use Rattle.rn_session.proofs.LookedLemmas.{changes_told, kept_now, looked_now, told_of}
use Rattle.rn_session.proofs.NumberedNow.{first_none, first_some, at_end}
use Rattle.rn_session.proofs.SessionStates.{fit_tokens}
use Rattle.rn_session.proofs.session.Session.first.Goals as goal

pub look-requires-clause-tokens : goal.look-requires-clause-tokens
look-requires-clause-tokens c =
    let s : State = c.self.inside.state in
    subst (λ (t : Kept). HasFitTokens c.system-system.result.now t.marking) (sym c.table-table.ensures.table)
    (subst (λ (x : System). HasFitTokens x s.table.marking) (sym c.system-system.ensures.system)
    (fit_tokens s c.length-seen.ensures.state))

pub look-requires-clause-changed : goal.look-requires-clause-changed
look-requires-clause-changed c =
    let s : State = c.self.inside.state in
    let depth = c.self.inside.options.depth in
    let changed : Option (List ℕ) = option_map (λ v. v.items) c.in_ok-since.since in
    let marking_is = ap (λ (x : Kept). x.marking) c.table-table.ensures.table ∙ c.self.invariant.session.all in
    told_of (λ d. d.now) c.slice_of-changed.result changed
    (λ numbers. (before : Marking)
    × IsKept c.system-system.result.now before depth c.self.inside.firsts
    × DifferAtMostIn numbers before c.table-table.result.now.marking)
    c.slice_of-changed.ensures
    (subst (λ m. MatchOption changed ⊤ (λ numbers. (before : Marking)
    × IsKept c.system-system.result.now before depth c.self.inside.firsts
    × DifferAtMostIn numbers before m)) (sym marking_is)
    (subst (λ (x : System). MatchOption changed ⊤ (λ numbers. (before : Marking)
    × IsKept x before depth c.self.inside.firsts
    × DifferAtMostIn numbers before (end_marking s))) (sym c.system-system.ensures.system)
    (subst (λ d. MatchOption changed ⊤ (λ numbers. (before : Marking)
    × IsKept s.setup.system before d c.self.inside.firsts
    × DifferAtMostIn numbers before (end_marking s))) (sym (ap (λ (o : Options). o.depth) c.self.invariant.options_are))
    (changes_told s c.self.inside.firsts c.self.inside.looked changed c.in_ok-since.ensures
    c.self.invariant.since))))

pub returns-clause-some : goal.returns-clause-some
returns-clause-some c =
    let s : State = c.self.inside.state in
    let system = c.system-system.result.now in
    let t = c.table-table.result.now in
    let depth = c.self.inside.options.depth in
    subst (λ (x : State). IfOk c.look.result (λ o. IfSome o (λ b. IsNumbered x.setup.system (end_marking x) x.setup.options.depth 1 b))) c.self.view_is
    (at_end (λ x m d. IfOk c.look.result (λ o. IfSome o (λ b. IsNumbered x m d 1 b))) s system t depth c.system-system.ensures.system
    c.table-table.ensures.table (ap (λ (o : Options). o.depth) c.self.invariant.options_are)
    c.self.invariant.session.all (first_some system t.marking depth c.look.result c.look.ensures.least))

pub returns-clause-none : goal.returns-clause-none
returns-clause-none c =
    let s : State = c.self.inside.state in
    let system = c.system-system.result.now in
    let t = c.table-table.result.now in
    let depth = c.self.inside.options.depth in
    subst (λ (x : State). IfOk c.look.result (λ o. IfNone o (NoneIsNumbered x.setup.system (end_marking x) x.setup.options.depth 1))) c.self.view_is
    (at_end (λ x m d. IfOk c.look.result (λ o. IfNone o (NoneIsNumbered x m d 1))) s system t depth c.system-system.ensures.system
    c.table-table.ensures.table (ap (λ (o : Options). o.depth) c.self.invariant.options_are)
    c.self.invariant.session.all (first_none system t.marking depth c.look.result c.look.ensures.none))
