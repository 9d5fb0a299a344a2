use Rattle.std.proofs.Common.{arith}
use Rattle.rn_pt.specs.Texts.{IsRefused}
use Rattle.rn_pt.proofs.Settling.{settled_refused, settled_read, settled_reads, settled_refuses, long_reads, long_refuses}
use Rattle.rn_pt.proofs.Said.{slices_named}
use Rattle.rn_pt.proofs.Weighing.{settled_weighted}
use Rattle.rn_pt.proofs.reading.read_pt.Goals as goal

pub returns-then-bytes-gt-LONGEST_NET_TEXT-clause-refused : goal.returns-then-bytes-gt-LONGEST_NET_TEXT-clause-refused
returns-then-bytes-gt-LONGEST_NET_TEXT-clause-refused c = IsRefused.too_long c.if-bytes-gt-LONGEST_NET_TEXT.true

pub returns-then-bytes-gt-LONGEST_NET_TEXT-clause-reads : goal.returns-then-bytes-gt-LONGEST_NET_TEXT-clause-reads
returns-then-bytes-gt-LONGEST_NET_TEXT-clause-reads c = long_reads c.args.bytes.now c.if-bytes-gt-LONGEST_NET_TEXT.true

pub returns-then-bytes-gt-LONGEST_NET_TEXT-clause-refuses : goal.returns-then-bytes-gt-LONGEST_NET_TEXT-clause-refuses
returns-then-bytes-gt-LONGEST_NET_TEXT-clause-refuses c = long_refuses c.args.bytes.now c.if-bytes-gt-LONGEST_NET_TEXT.true

pub returns-clause-read : goal.returns-clause-read
returns-clause-read c = settled_read c.args.bytes.now c.in_ok-lexed.lexed c.settled.result
    record { fits = omega arith; tokens = c.in_ok-lexed.ensures.tokens; fault = c.in_ok-lexed.ensures.fault; end = c.in_ok-lexed.ensures.end }
    c.settled.ensures

pub returns-clause-refused : goal.returns-clause-refused
returns-clause-refused c = settled_refused c.args.bytes.now c.in_ok-lexed.lexed c.settled.result
    record { fits = omega arith; tokens = c.in_ok-lexed.ensures.tokens; fault = c.in_ok-lexed.ensures.fault; end = c.in_ok-lexed.ensures.end }
    c.settled.ensures

pub returns-clause-reads : goal.returns-clause-reads
returns-clause-reads c = settled_reads c.token_laws.ensures.one_reading c.token_laws.ensures.no_both c.args.bytes.now c.in_ok-lexed.lexed c.settled.result
    record { fits = omega arith; tokens = c.in_ok-lexed.ensures.tokens; fault = c.in_ok-lexed.ensures.fault; end = c.in_ok-lexed.ensures.end }
    c.settled.ensures

pub returns-clause-refuses : goal.returns-clause-refuses
returns-clause-refuses c = settled_refuses c.token_laws.ensures.one_reading c.token_laws.ensures.one_fault c.token_laws.ensures.no_both c.args.bytes.now c.in_ok-lexed.lexed c.settled.result
    record { fits = omega arith; tokens = c.in_ok-lexed.ensures.tokens; fault = c.in_ok-lexed.ensures.fault; end = c.in_ok-lexed.ensures.end }
    c.settled.ensures

pub returns-clause-weighted : goal.returns-clause-weighted
returns-clause-weighted c = settled_weighted c.in_ok-lexed.lexed c.settled.result
    (slices_named c.args.bytes.now c.in_ok-lexed.lexed.tokens c.in_ok-lexed.ensures.slices) c.settled.ensures
