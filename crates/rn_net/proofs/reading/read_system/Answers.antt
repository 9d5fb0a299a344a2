use Rattle.rn_net.proofs.Names.{sym, subst, arith, Ok, Err, IfOk, IfErr, IsRefused, IsReason, Answers, Spells}
use Rattle.rn_net.proofs.Settling.{naturals, text_settles, text_refused, text_read, text_reads, long_reads}
use Rattle.rn_net.proofs.Refusing.{text_refuses, long_refuses}
use Rattle.rn_net.proofs.reading.read_system.Goals as goal

pub returns-then-bytes-gt-LONGEST_NET_TEXT-clause-refused : goal.returns-then-bytes-gt-LONGEST_NET_TEXT-clause-refused
returns-then-bytes-gt-LONGEST_NET_TEXT-clause-refused c = IsRefused.too_long c.if-bytes-gt-LONGEST_NET_TEXT.true

pub system-read-requires : goal.system-read-requires
system-read-requires c = naturals c.args.bytes.now c.in_ok-lexed.lexed.tokens c.in_ok-lexed.ensures.slices

pub returns-clause-read : goal.returns-clause-read
returns-clause-read c =
    let l = c.in_ok-lexed in
    subst (λ r. IfOk r (λ plain. Spells c.args.bytes.now plain)) (sym c.answer_of.ensures)
    (text_read c.args.bytes.now l.lexed c.whole-text.result (record { fits = omega arith; tokens = l.ensures.tokens; fault = l.ensures.fault; end = l.ensures.end })
    (text_settles l.lexed c.system-read.result c.whole-text.result c.system-read.ensures c.whole-text.ensures))

pub returns-clause-refused : goal.returns-clause-refused
returns-clause-refused c =
    let l = c.in_ok-lexed in
    subst (λ r. IfErr r (λ refusal. IsReason c.args.bytes.now refusal)) (sym c.answer_of.ensures)
    (text_refused c.args.bytes.now l.lexed c.whole-text.result (record { fits = omega arith; tokens = l.ensures.tokens; fault = l.ensures.fault; end = l.ensures.end })
    (text_settles l.lexed c.system-read.result c.whole-text.result c.system-read.ensures c.whole-text.ensures))

pub returns-then-bytes-gt-LONGEST_NET_TEXT-clause-reads : goal.returns-then-bytes-gt-LONGEST_NET_TEXT-clause-reads
returns-then-bytes-gt-LONGEST_NET_TEXT-clause-reads c = long_reads c.args.bytes.now _ c.if-bytes-gt-LONGEST_NET_TEXT.true

pub returns-clause-reads : goal.returns-clause-reads
returns-clause-reads c = λ plain x.
    let l = c.in_ok-lexed in
    let t = c.token_laws.ensures in
    subst (λ r. Answers r (Ok plain)) (sym c.answer_of.ensures)
    (text_reads t.one_reading t.one_fault t.no_both c.args.bytes.now l.lexed c.whole-text.result (record { fits = omega arith; tokens = l.ensures.tokens; fault = l.ensures.fault; end = l.ensures.end })
    (text_settles l.lexed c.system-read.result c.whole-text.result c.system-read.ensures c.whole-text.ensures) plain x)

pub returns-then-bytes-gt-LONGEST_NET_TEXT-clause-refuses : goal.returns-then-bytes-gt-LONGEST_NET_TEXT-clause-refuses
returns-then-bytes-gt-LONGEST_NET_TEXT-clause-refuses c = long_refuses c.args.bytes.now c.if-bytes-gt-LONGEST_NET_TEXT.true

pub returns-clause-refuses : goal.returns-clause-refuses
returns-clause-refuses c = λ q x.
    let l = c.in_ok-lexed in
    let t = c.token_laws.ensures in
    subst (λ r. Answers r (Err q)) (sym c.answer_of.ensures)
    (text_refuses t.one_reading t.one_fault t.no_both c.args.bytes.now l.lexed c.whole-text.result (record { fits = omega arith; tokens = l.ensures.tokens; fault = l.ensures.fault; end = l.ensures.end })
    (text_settles l.lexed c.system-read.result c.whole-text.result c.system-read.ensures c.whole-text.ensures) q x)
