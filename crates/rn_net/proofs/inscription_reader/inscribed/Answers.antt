use Rattle.rn_net.proofs.Names.{◌≡◌, ℕ, ◌+◌, ◌-◌, ◌<◌, List, [], ◌∷◌, arith, length, refl, subst, Ok, Err, Token, between, AreInscribedUpTo, EndsStatement}
use Rattle.rn_net.proofs.InscriptionReading.{ends_fail, ends_read, form-some, statement_read, statement_fails}
use Rattle.rn_net.proofs.Openings.{moved}
use Rattle.rn_net.proofs.Steps.{failed, same_end}
use Rattle.rn_net.proofs.inscription_reader.inscribed.Goals as goal

taken : (at count after : ℕ) → after ≡ at + count → after - at ≡ count
taken at count after h = omega (arith, h)

pub returns-in_err-first-clause-reads : goal.returns-in_err-first-clause-reads
returns-in_err-first-clause-reads c =
    let notation = c.args.notation in
    failed (AreInscribedUpTo notation) c.args.tokens.now c.args.at between between
    c.from_residual.result c.in_err-first.field-0.0 c.from_residual.ensures.1
    (statement_fails c.reading_laws.ensures.one_inscription notation c.args.tokens.now c.args.at
    c.in_err-first.field-0.0 c.requires.inside c.requires.other c.in_err-first.ensures.refused)

pub returns-in_err-others-clause-reads : goal.returns-in_err-others-clause-reads
returns-in_err-others-clause-reads c =
    let r = c.in_ok-first.ensures.read in
    let tokens = c.args.tokens.now in
    failed (AreInscribedUpTo c.args.notation) tokens c.args.at between between
    c.from_residual-in_err-others.result c.in_err-others.field-0.0
    c.from_residual-in_err-others.ensures.1
    (ends_fail c.args.notation r.taken c.in_ok-first.first tokens c.in_ok-first.after
    c.in_err-others.field-0.0
    (statement_read c.reading_laws.ensures.one_inscription c.args.notation tokens c.args.at
    c.in_ok-first.after c.requires.other r)
    (moved tokens c.args.at c.in_ok-first.after c.requires.inside r).1
    (subst (λ n. EndsStatement c.args.notation n c.in_ok-first.first tokens c.in_ok-first.after
    (Err c.in_err-others.field-0.0))
    (taken c.args.at (length r.taken) c.in_ok-first.after r.ends) c.in_err-others.ensures.reads))

pub returns-clause-reads : goal.returns-clause-reads
returns-clause-reads c =
    let r = c.in_ok-first.ensures.read in
    let tokens = c.args.tokens.now in
    same_end c.in_ok-all.ensures
    (ends_read c.args.notation r.taken c.in_ok-first.first tokens c.in_ok-first.after
    c.in_ok-others.end c.in_ok-others.others
    (statement_read c.reading_laws.ensures.one_inscription c.args.notation tokens c.args.at
    c.in_ok-first.after c.requires.other r)
    (subst (λ n. EndsStatement c.args.notation n c.in_ok-first.first tokens c.in_ok-first.after
    (Ok (c.in_ok-others.others, c.in_ok-others.end)))
    (taken c.args.at (length r.taken) c.in_ok-first.after r.ends) c.in_ok-others.ensures.reads))

pub others_up_to-requires-clause-before : goal.others_up_to-requires-clause-before
others_up_to-requires-clause-before c =
    (moved c.args.tokens.now c.args.at c.in_ok-first.after c.requires.inside
    c.in_ok-first.ensures.read).0

pub others_up_to-requires-clause-inside : goal.others_up_to-requires-clause-inside
others_up_to-requires-clause-inside c =
    (moved c.args.tokens.now c.args.at c.in_ok-first.after c.requires.inside
    c.in_ok-first.ensures.read).1

-- an inscription has a token
some : (ts : List Token) → (ts ≡ [] → ⊥) → 0 < length ts
some [] h = absurd (h refl)
some (t ∷ ts) h = omega arith

pub returns-clause-moved : goal.returns-clause-moved
returns-clause-moved c =
    let r = c.in_ok-first.ensures.read in
    let m = c.in_ok-others.ensures.moved in
    let n = some r.taken (form-some r.taken c.in_ok-first.first r.whole) in
    (omega (arith, m.0, n, r.ends), m.1)
